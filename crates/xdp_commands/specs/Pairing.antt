-- Stated: claims rest on this file.
-- What becomes of a setup whose queues run on threads.
use Rattle.std.specs.Prelude.{ℕ, ◌≡◌, List, vec_len, Result, Ok, Err, ⊤}
use Rattle.bpf_note.specs.Shape.{Shape}
use Rattle.bpf_verify.specs.Consistent.{Accepted as Program}
use Rattle.xdp_load.specs.Listed.{ListedView}
use Rattle.xdp_load.specs.Setup.{SetupView}
use Rattle.thread_pair.specs.Leaving.{AreLeft}
use Rattle.thread_pair.specs.Working.{Task}
use Rattle.thread_pair.specs.declared.fault.PairFault.{PairFault}
use Rattle.thread_pair.specs.declared.fault.PairFault.TheVariants as fault
use Rattle.thread_pair.specs.declared.host.OnPass.{OnPass}
use Rattle.thread_pair.specs.declared.report.PairReport.{PairReport}
use Rattle.xdp_commands.specs.Executing.{IsProgramOfBytes, IsRefusalOfBytes}
use Rattle.xdp_commands.specs.declared.pairing.Paired.{Paired}
use Rattle.xdp_commands.specs.declared.pairing.Paired.TheVariants as paired

-- the setup's program has no cause of refusal with its maps
abbrev pub IsAcceptedSetup : SetupView → Type 0
IsAcceptedSetup s = (p : Program) × IsProgramOfBytes s.program s.shapes p

-- what the setup's backs have in common, with an accepted program and the lists of its maps, beside a host that does so
abbrev pub task_with : ListedView → Program → OnPass → Task
task_with x p h = record {
  program = p;
  lists = x.lists;
  queues = x.setup.queues;
  ifindex = x.setup.ifindex;
  start = x.setup.start;
  host = h;
}

-- a row for each queue, counters of the setup's maps, and what at most `turns` turns of the accepted program, with the setup's lists, left in
-- both
pub record IsPairOfSetup (x : ListedView) (turns : ℕ) (h : OnPass) (r : PairReport) : Type 0 where
  pub program : Program
  pub accepted : IsProgramOfBytes x.setup.program x.setup.shapes program
  pub rows : vec_len r.rows ≡ x.setup.queues
  pub maps : r.totals.shapes ≡ x.setup.shapes
  pub left : AreLeft (task_with x program h) x.setup.values turns r

-- the queues of an accepted program ran, at most `turns` turns each, or their rings couldn't be mapped, or a thread couldn't
-- be started; or the program is refused
abbrev pub IsPaired : ListedView → ℕ → OnPass → Paired → Type 0
IsPaired x turns h (paired.Ran report) = IsPairOfSetup x turns h report
IsPaired x turns h (paired.Refused refusal) = IsRefusalOfBytes x.setup.program x.setup.shapes refusal
IsPaired x turns h paired.NotMapped = IsAcceptedSetup x.setup
IsPaired x turns h paired.NotStarted = IsAcceptedSetup x.setup

-- what comes of a run: its report, or the line of its fault, but of out of memory
abbrev pub Comes : Result PairReport PairFault → Paired → Type 0
Comes (Ok report) p = p ≡ paired.Ran report
Comes (Err fault.Map) p = p ≡ paired.NotMapped
Comes (Err fault.Thread) p = p ≡ paired.NotStarted
Comes (Err fault.Memory) p = ⊥

-- the counters that were left, if any, are of these maps
abbrev pub HasCounters : List Shape → Paired → Type 0
HasCounters shapes (paired.Ran report) = report.totals.shapes ≡ shapes
HasCounters shapes p = ⊤
