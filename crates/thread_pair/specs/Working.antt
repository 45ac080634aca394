-- Stated: claims rest on this file.
-- What a back thread does: rounds of its queue, one after another.
use Rattle.std.specs.Prelude.{ℕ, ◌≡◌, ◌≤◌, ◌+◌, ◌*◌, ◌⊎◌, List, [], ◌∷◌, ◌++◌, length, map, Option}
use Rattle.bpf_lists.specs.declared.list.MapList.{MapList}
use Rattle.bpf_note.specs.declared.op.Op.{Op}
use Rattle.bpf_verify.specs.Consistent.{Accepted}
use Rattle.bpf_maps.specs.Seats.{SeatView}
use Rattle.xdp_load.specs.declared.listed.Listed.{Listed}
use Rattle.xdp_world.specs.Core.{started_at}
use Rattle.xdp_world.specs.Frames.{frame_of, owners_of, table_frames}
use Rattle.xen_turns.specs.Drive.{labels}
use Rattle.xen_turns.specs.Turned.{Turned}
use Rattle.xen_turns.specs.declared.delivery.delivering.Delivery.{Delivery}
use Rattle.xen_turns.specs.declared.state.State.{State}
use Rattle.xen_turns.specs.declared.wiring.Wiring.{Wiring}
use Rattle.xen_page.specs.Access.{Performs}
use Rattle.xen_page.specs.declared.access.Access.{Access}
use Rattle.xen_steps.specs.Drive.{accesses}
use Rattle.xen_steps.specs.Event.{Event}
use Rattle.thread_pair.specs.Rounds.{IsRest, IsRound, Round, counted}
use Rattle.thread_pair.specs.declared.host.OnPass.{OnPass}
use Rattle.thread_pair.specs.declared.report.BackRow.{BackRow}
use Rattle.thread_pair.specs.declared.shared.Shared.{Shared}

-- What all backs have in common: their program, the lists of its maps, how many queues there are, the interface's number, the index at which
-- rings begin, and what the host does.
pub record Task : Type 0 where
  pub program : Accepted
  pub lists : List (Option MapList)
  pub queues : ℕ
  pub ifindex : ℕ
  pub start : ℕ
  pub host : OnPass

abbrev pub task_of : Accepted → List (Option MapList) → Shared → Task
task_of program lists shared = record {
  program = program;
  lists = lists;
  queues = shared.layout.queues;
  ifindex = shared.ifindex;
  start = shared.start;
  host = shared.host;
}

-- The task that a setup with lists gives, and what the host does.
abbrev pub task_for : Accepted → Listed → OnPass → Task
task_for program listed h = record {
  program = program;
  lists = listed.lists.items;
  queues = listed.setup.queues;
  ifindex = listed.setup.ifindex;
  start = listed.setup.start;
  host = h;
}

-- The numbers that a setup's counters begin with.
abbrev pub values_in : Listed → List (List ℕ)
values_in listed = map (λ v. v.items) listed.setup.values.items

-- The wiring of queue n: its rings lie in the pages that the references 514 n and 514 n + 1 grant.
pub record IsWiredFor (task : Task) (n : ℕ) (w : Wiring) : Type 0 where
  pub tx : w.vif.tx ≡ frame_of (514 * n)
  pub rx : w.vif.rx ≡ frame_of (514 * n + 1)
  pub table : w.vif.table.now ≡ table_frames
  pub owners : w.vif.owners.now ≡ owners_of task.queues
  pub granter : w.vif.granter ≡ 1
  pub user : w.vif.user ≡ 0
  pub port : w.vif.port ≡ 2 * n + 1
  pub program : w.program.now ≡ task.program
  pub lists : w.lists.now ≡ task.lists
  pub ifindex : w.ifindex ≡ task.ifindex
  pub number : w.queue ≡ n

-- Rounds from a state on, each from the last's, the latest first, and the counter operations and the accesses of them all.
pub data Works (h : OnPass) (w : Wiring) (s : State) : List Round → List Op → List Access → State → Type 0 where
  nothing : Works h w s [] [] [] s
  more : (rs : List Round) (ops : List Op) (xs : List Access) (mid end : State) (t p : List Event) (u : Turned)
      (sent : Option Delivery) → Works h w s rs ops xs mid →
      IsRound h w mid t p end u sent → Works h w s ((u, sent) ∷ rs) (ops ++ labels t) (xs ++ (accesses t ++ accesses p)) end

-- The latest turn found nothing to do, or the queue has halted.
abbrev pub IsAtRest : List Round → Type 0
IsAtRest [] = ⊥
IsAtRest (r ∷ rs) = IsRest r.0

-- What was done at a seat was done by rounds of the queue with its number: `turns` rounds, or fewer if the latest left the queue at rest.
-- The row counts them.
pub record IsWork (task : Task) (turns : ℕ) (row : BackRow) (s : SeatView) : Type 0 where
  pub wiring : Wiring
  pub wired : IsWiredFor task s.number wiring
  pub made : List Round
  pub accesses : List Access
  pub end : State
  pub works : Works task.host wiring (started_at task.start) made s.ops accesses end
  pub few : length made ≤ turns
  pub ended : (length made ≡ turns) ⊎ IsAtRest made
  pub row_is : row ≡ counted made

-- Work over a bus: the bus went through the accesses of the rounds that the row counts, and if it tells, they are what its log grew by.
pub record IsWorkOver {S : Type 0} (log : S → Option (List Access)) (gives : S → Access → S →
    Type 0) (task : Task) (turns : ℕ) (row : BackRow)
    (s : SeatView) (bus bus' : S) : Type 0 where
  pub work : IsWork task turns row s
  pub performed : Performs log gives bus work.accesses bus'
