-- Stated: claims rest on this file.
-- What a run reports.
use Rattle.bpf_maps.specs.Beginning.{Beginning, IsLegalFrom, given, left_from}
use Rattle.std.specs.Prelude.{ℕ, ◌≡◌, ◌<◌, List, [], Option, length}
use Rattle.bpf_lists.specs.declared.list.MapList.{MapList}
use Rattle.bpf_maps.specs.Seats.{total_at}
use Rattle.bpf_note.specs.History.{share}
use Rattle.bpf_note.specs.Shape.{IsCounter}
use Rattle.bpf_verify.specs.Consistent.{Accepted}
use Rattle.xen_turns.specs.Drive.{labels}
use Rattle.xen_steps.specs.Event.{Event}
use Rattle.xen_steps.specs.Steps.{Steps}
use Rattle.xen_turns.specs.Turned.{Ending}
use Rattle.xen_turns.specs.declared.state.State.{State}
use Rattle.xen_turns.specs.declared.wiring.Wiring.{Wiring}
use Rattle.xdp_world.specs.Begin.{IsFor}
use Rattle.xdp_world.specs.Core.{HaveEvents, IsUnfinished, Turns, started_at}
use Rattle.xdp_world.specs.Entries.{AllServe, Entry, events_of, history, steps_of}
use Rattle.xdp_world.specs.Activities.{IsPart}
use Rattle.xdp_world.specs.Calls.{Call, HaveCome, entries_of, items_of}
use Rattle.xdp_world.specs.Stands.{delivered_in, kept_in, waited_in}
use Rattle.xdp_world.specs.declared.kept.Kept.{Kept}
use Rattle.xdp_world.specs.declared.report.Report.{Report}

-- A queue's events join into these turns and a prefix of one more.
pub record IsShare (w : Wiring) (start : ℕ) (events : List Event) (kept : List Kept) : Type 0 where
  pub end : State
  pub front : List Event
  pub left : Steps Ending
  pub joined : Turns w (started_at start) events kept end front
  pub unfinished : IsUnfinished w end front left

-- The report is of these calls, from counters that began so.
pub record Tells (wirings : ℕ → Wiring) (start : ℕ) (begin : Beginning) (cs : List Call) (r : Report) : Type 0 where
  pub each : (i : ℕ) → i < length r.turns.items →
      IsPart (wirings i) start (items_of i cs) (kept_in r.turns.items i) (delivered_in r.deliveries.items i) (waited_in r.waits.items i)
  pub come : HaveCome wirings start cs
  pub serve : AllServe (entries_of cs)
  pub past : r.history.items ≡ history (entries_of cs)
  pub shares : (i : ℕ) → share i (history (entries_of cs)) ≡ labels (events_of i (entries_of cs))
  pub legal : IsLegalFrom begin (history (entries_of cs))
  pub leaves : (m k j : ℕ) → IsCounter r.totals.shapes m k j → total_at r.totals m k j ≡ left_from begin m k j (history (entries_of cs))

-- The report is of these entries, from counters that began so, and of no delivery and no wait.
pub record Reports (wirings : ℕ → Wiring) (start : ℕ) (begin : Beginning) (es : List Entry) (r : Report) : Type 0 where
  pub each : (i : ℕ) → i < length r.turns.items → IsShare (wirings i) start (events_of i es) (kept_in r.turns.items i)
  pub none : (i : ℕ) → i < length r.turns.items → delivered_in r.deliveries.items i ≡ []
  pub no_wait : (i : ℕ) → i < length r.turns.items → waited_in r.waits.items i ≡ []
  pub events : HaveEvents wirings start es
  pub serve : AllServe es
  pub past : r.history.items ≡ history es
  pub shares : (i : ℕ) → share i (history es) ≡ labels (events_of i es)
  pub legal : IsLegalFrom begin (history es)
  pub leaves : (m k j : ℕ) → IsCounter r.totals.shapes m k j → total_at r.totals m k j ≡ left_from begin m k j (history es)

-- The report of a run of a program's queues through these steps, with these lists of its maps, whose counters begin with these numbers: there is a list of entries as asked.
pub record IsCoreRun (program : Accepted) (lists : List (Option MapList)) (values : List (List ℕ)) (queues ifindex start : ℕ) (steps : List (ℕ × ℕ)) (r : Report) : Type 0 where
  pub wirings : ℕ → Wiring
  pub wired : (i : ℕ) → i < queues → IsFor program lists queues ifindex i (wirings i)
  pub entries : List Entry
  pub steps_are : steps_of entries ≡ steps
  pub count : length r.turns.items ≡ queues
  pub delivered : length r.deliveries.items ≡ queues
  pub waited : length r.waits.items ≡ queues
  pub shapes : r.totals.shapes ≡ program.shapes
  pub reports : Reports wirings start (given program.shapes values) entries r
