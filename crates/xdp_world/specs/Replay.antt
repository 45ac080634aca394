-- Stated: claims rest on this file.
-- A replay: one queue's reads are answered from a list.
use Rattle.std.specs.Prelude.{ℕ, ◌≡◌, List, [], ◌∷◌, ◌++◌, Option, Some, None}
use Rattle.bpf_verify.specs.Consistent.{Accepted}
use Rattle.xen_turns.specs.declared.wiring.Wiring.{Wiring}
use Rattle.xen_page.specs.declared.place.Place.{Place}
use Rattle.xen_steps.specs.Event.{Event, Read}
use Rattle.xen_steps.specs.Steps.{want_of}
use Rattle.xen_steps.specs.declared.want.Want.TheVariants as want
use Rattle.xdp_world.specs.Core.{IsHalted}
use Rattle.xdp_world.specs.Entries.{Entry, events_of}
use Rattle.xdp_world.specs.Report.{IsCoreRun, IsShare}
use Rattle.xdp_world.specs.Stands.{kept_in}
use Rattle.xdp_world.specs.declared.kept.Kept.{Kept}
use Rattle.xdp_world.specs.declared.report.Report.{Report}

abbrev pub read_in : Event → List ℕ
read_in (Read at answer) = answer ∷ []
read_in e = []

-- What a read was answered.
abbrev pub read_answer : Option Event → List ℕ
read_answer None = []
read_answer (Some e) = read_in e

-- What the reads were answered, in order.
abbrev pub read_answers : List Entry → List ℕ
read_answers [] = []
read_answers (e ∷ es) = read_answer e.event ++ read_answers es

-- Each step is of this queue.
abbrev pub AreOf : ℕ → List Entry → Type 0
AreOf queue [] = Unit {0}
AreOf queue (e ∷ es) = (e.queue ≡ queue) × AreOf queue es

-- Why a queue with these events and turns is stepped no further, when these answers are left: it has halted, or it wants to read
-- and none is left.
pub data Stops (w : Wiring) (start : ℕ) (events : List Event) (kept : List Kept) (left : List ℕ) : Type 0 where
  halts : IsHalted w start events → Stops w start events kept left
  reads : (share : IsShare w start events kept) (at : Place) → want_of share.left ≡ want.Read at → left ≡ [] →
      Stops w start events kept left

-- The report is of a run through steps of this queue, whose reads took the answers in order, as far as it came.
pub record IsReplay (program : Accepted) (queues ifindex start queue : ℕ) (answers : List ℕ) (r : Report) : Type 0 where
  pub steps : List (ℕ × ℕ)
  pub run : IsCoreRun program [] [] queues ifindex start steps r
  pub own : AreOf queue run.entries
  pub left : List ℕ
  pub answered : answers ≡ read_answers run.entries ++ left
  pub stops : Stops (run.wirings queue) start (events_of queue run.entries) (kept_in r.turns.items queue) left
