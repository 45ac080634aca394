-- A step of a queue's host: what is under way goes on or is over.
use Rattle.std.proofs.Common.{◌≡◌, ℕ, false, List, [], ◌++◌, Some, refl, sym, map}
use Rattle.bpf_note.specs.Shape.{Shape}
use Rattle.xdp_program.specs.Ran.{IsHistory}
use Rattle.xen_steps.specs.Drive.{accesses}
use Rattle.xen_steps.specs.Event.{Event}
use Rattle.xen_turns.specs.Drive.{labels}
use Rattle.xen_turns.specs.Program.{event_of}
use Rattle.xen_turns.specs.declared.state.State.{State}
use Rattle.xen_host.specs.Asks.{Ask, did_all, did_by, is_over, read_by}
use Rattle.xen_host.specs.Driving.{GoesOn, Task, delivery, turn, wait}
use Rattle.xen_host.specs.Going.{KeepsAll}
use Rattle.xen_host.specs.Queues.{HasStepped, seen, wired_to}
use Rattle.xen_host.specs.declared.op.HostOp.{HostOp}
use Rattle.xen_host.specs.declared.queue.Queue.{Queue}
use Rattle.xen_host.proofs.TaskLemmas.{delivers_on, turns_on, waits_on}
use Rattle.xen_host.proofs.TraceLemmas.{program_none}
use Rattle.xen_drive.proofs.TraceLemmas.{history_of}

-- With the events of a step, those of a program's run among them, what is under way goes on or is over.
pub record Moved (k : Task) (s : State) (shapes : List Shape) (new : Queue) (last : Ask) (t read did : List Event) (before after : List ℕ) : Type 0 where
  pub ran : List Event
  pub silent : accesses ran ≡ []
  pub history : IsHistory shapes (map Some (labels ran)) before after
  pub keeps : KeepsAll k before after
  pub goes : GoesOn k (seen new) last s (t ++ (read ++ (ran ++ did)))

pub moved : (k : Task) (s : State) (old new : Queue) (lent lent_after before after : List ℕ) (ops ops_after : List HostOp) (count : ℕ) (h : HasStepped old new lent lent_after before after ops ops_after count)
    (t : List Event) (a : Ask) → is_over a ≡ false → GoesOn k (seen old) a s t →
    Moved k s (wired_to old).program.shapes new h.last t (read_by a lent) (did_all h.first lent_after ++ did_by h.last lent_after) before after
moved turn s old new lent lent_after before after ops ops_after count h t a n g =
    record {
      ran = map event_of h.labels;
      silent = program_none h.labels;
      history = history_of (wired_to old).program.shapes h.labels before after h.history;
      keeps = tt;
      goes = h.turn s t a (turns_on (seen old) a s t n g);
    }
moved (delivery o packet) s old new lent lent_after before after ops ops_after count h t a n g =
    let d = h.delivery s o packet t (Some a) (delivers_on (seen old) a s o packet t n g) in
    record { ran = []; silent = refl; history = sym d.1; keeps = d.1; goes = d.0 }
moved (wait pages packet) s old new lent lent_after before after ops ops_after count h t a n g =
    let d = h.wait s pages packet t (Some a) (waits_on (seen old) a s pages packet t n g) in
    record { ran = []; silent = refl; history = sym d.1; keeps = d.1; goes = d.0 }
