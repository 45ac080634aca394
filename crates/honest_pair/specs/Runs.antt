-- Stated: claims rest on this file.
-- The honest pair: what a run of it is.
use Rattle.bpf_maps.specs.Beginning.{given}
use Rattle.std.specs.Prelude.{ℕ, ◌≡◌, ◌<◌, ◌^◌, List, [], ◌∷◌, length, map}
use Rattle.bpf_verify.specs.Consistent.{Accepted}
use Rattle.xen_turns.specs.declared.wiring.Wiring.{Wiring as BackWiring}
use Rattle.xen_buffers.specs.declared.wiring.FrontWiring.{FrontWiring}
use Rattle.xen_front.specs.declared.state.FrontState.{FrontState}
use Rattle.honest_pair.specs.Machine.Acts.{HasActed, front_of}
use Rattle.honest_pair.specs.Machine.Law.{Honest, IsNewFront}
use Rattle.honest_pair.specs.Machine.Layout.{IsBack, IsFront}
use Rattle.honest_pair.specs.Machine.Log.{IsFaithful, back_items, log}
use Rattle.honest_pair.specs.Machine.Memory.{opening_word}
use Rattle.honest_pair.specs.Machine.Pair.{Await, Deliver, PairEvent, opening, run, turns_of}
use Rattle.xdp_world.specs.Begin.{IsFor}
use Rattle.xdp_world.specs.Calls.{Call, all_stepped, items_of}
use Rattle.xdp_world.specs.Report.{IsCoreRun, Tells}
use Rattle.xdp_world.specs.Stands.{delivered_in, kept_in, waited_in}
use Rattle.xdp_world.specs.declared.report.Report.{Report}
use Rattle.honest_pair.specs.Copies.{Delivers}
use Rattle.honest_pair.specs.Deeds.{AllKept, AreOwn, bytes_in, deliveries_of, waits_of}
use Rattle.honest_pair.specs.declared.running.PairRun.{PairRun}

-- The events, each with a number.
abbrev pub GoWith : List PairEvent → List (PairEvent × ℕ) → Type 0
GoWith [] [] = Unit {0}
GoWith [] (x ∷ xs) = ⊥
GoWith (e ∷ es) [] = ⊥
GoWith (e ∷ es) (x ∷ xs) = (x.0 ≡ e) × (x.1 < 2 ^ 64) × GoWith es xs

-- No event is a delivery or a wait.
abbrev pub IsPlain : PairEvent → Type 0
IsPlain (Deliver packet) = ⊥
IsPlain (Await pages) = ⊥
IsPlain e = Unit {0}

abbrev pub NoneDelivers : List PairEvent → Type 0
NoneDelivers [] = Unit {0}
NoneDelivers (e ∷ es) = IsPlain e × NoneDelivers es

-- The report is of these calls of one queue of a program.
pub record IsCallRun (program : Accepted) (start : ℕ) (calls : List Call) (r : Report) : Type 0 where
  pub wirings : ℕ → BackWiring
  pub wired : (i : ℕ) → i < 1 → IsFor program [] 1 0 i (wirings i)
  pub count : length r.turns.items ≡ 1
  pub delivered : length r.deliveries.items ≡ 1
  pub waited : length r.waits.items ≡ 1
  pub shapes : r.totals.shapes ≡ program.shapes
  pub tells : Tells wirings start (given program.shapes []) calls r

-- The run of a pair through these events. `events` are they with the numbers that answered the counters' operations.
--   core, alone, own: the back's events, the packets of its deliveries and the numbers of its waits, and no others, are a run of its queue
--     with the report's turns, deliveries, waits, history and totals.
--   plain: if no event is a delivery or a wait, the calls are the entries of a core run.
--   acts: the front's events are the traces of its sends, posts and polls, each a row of its table, and a prefix of one more; what was
--     sent is what they took, and what was received what they gave.
--   faithful: each read of either end answers what was last written to its place, else its opening word.
--   honest: neither end is halted, and a back that sleeps with no notice pending, while the front is inside no send, has answered all;
--     if a wait found too few slots, and no notice is pending, while the front is inside no post, there are still too few.
--   turns, deliveries, waits, received: the report's turns, deliveries and waits are the pair's, and what was received are the packets that
--     its polls gave.
--   delivers: the copies of the report's turns, and what was received, are in order and once each what was sent, and what was sent back
--     or delivered.
pub record IsPairRun (program : Accepted) (start : ℕ) (called : List PairEvent) (r : PairRun) : Type 0 where
  pub back : BackWiring
  pub front : FrontWiring
  pub back_laid : IsBack program back
  pub front_laid : IsFront front
  pub state : FrontState
  pub new : IsNewFront state start
  pub events : List (PairEvent × ℕ)
  pub called_are : GoWith called events
  pub calls : List Call
  pub core : IsCallRun program start calls r.report
  pub alone : AreOwn calls
  pub own : items_of 0 calls ≡ back_items back front (opening state start) events
  pub plain : NoneDelivers called → (steps : List (ℕ × ℕ)) × (plainly : IsCoreRun program [] [] 1 0 start steps r.report) ×
      (calls ≡ all_stepped plainly.entries)
  pub acts : HasActed front state (front_of (log back front (opening state start) events)) (run back front (opening state start) events)
  pub faithful : IsFaithful (opening_word start) (log back front (opening state start) events)
  pub honest : Honest (run back front (opening state start) events)
  pub turns : AllKept (turns_of (run back front (opening state start) events).deeds) (kept_in r.report.turns.items 0)
  pub deliveries : delivered_in r.report.deliveries.items 0 ≡ deliveries_of 0 (run back front (opening state start) events).deeds
  pub waits : waited_in r.report.waits.items 0 ≡ waits_of 0 0 (run back front (opening state start) events).deeds
  pub received : map bytes_in r.received.items ≡ (run back front (opening state start) events).received
  pub delivers :
      let end = run back front (opening state start) events in
      Delivers back start (items_of 0 calls) (kept_in r.report.turns.items 0) (delivered_in r.report.deliveries.items 0)
      (waited_in r.report.waits.items 0) end.back end.sent (map bytes_in r.received.items)
