-- One round more, and the last one.
use Rattle.std.proofs.Common.{◌≡◌, ℕ, ◌+◌, ◌≤◌, ◌⊎◌, List, ◌∷◌, ◌++◌, Option, length, sym, subst, arith}
use Rattle.bpf_note.specs.declared.op.Op.{Op}
use Rattle.bpf_maps.specs.Seats.{SeatView}
use Rattle.xdp_world.specs.Core.{started_at}
use Rattle.xen_turns.specs.Drive.{labels}
use Rattle.xen_back.specs.Queues.{state_of, wiring_of}
use Rattle.xen_turns.specs.Turned.{Turned}
use Rattle.xen_turns.specs.declared.delivery.delivering.Delivery.{Delivery}
use Rattle.xen_back.specs.declared.queue.Queue.{Queue}
use Rattle.xen_turns.specs.declared.wiring.Wiring.{Wiring}
use Rattle.xen_page.specs.Access.{Performs}
use Rattle.xen_page.specs.declared.access.Access.{Access}
use Rattle.xen_steps.specs.Drive.{accesses}
use Rattle.xen_steps.specs.Event.{Event}
use Rattle.thread_pair.specs.Rounds.{IsRound, Round, counted}
use Rattle.thread_pair.specs.Working.{IsAtRest, IsWiredFor, IsWorkOver, Task, Works, more}
use Rattle.thread_pair.specs.declared.host.OnPass.{OnPass}
use Rattle.thread_pair.specs.declared.report.BackRow.{BackRow}

pub next_round : (h : OnPass) (old new : Queue) (start n : ℕ) (ops ops' : List Op) (xs : List Access) (t p : List Event) (u : Turned) (sent : Option Delivery) →
    IsRound h (wiring_of old) (state_of old) t p (state_of new) u sent → ops' ≡ ops ++ labels t → wiring_of new ≡ wiring_of old → (rs : List Round) → length rs ≡ n →
    Works h (wiring_of old) (started_at start) rs ops xs (state_of old) →
    (length ((u, sent) ∷ rs) ≡ n + 1) × Works h (wiring_of new) (started_at start) ((u, sent) ∷ rs) ops' (xs ++ (accesses t ++ accesses p)) (state_of new)
next_round h old new start n ops ops' xs t p u sent is grown same rs count works = (
  omega (arith, count),
  subst (λ (w : Wiring). Works h w (started_at start) ((u, sent) ∷ rs) ops' (xs ++ (accesses t ++ accesses p)) (state_of new)) (sym same)
      (subst (λ (l : List Op). Works h (wiring_of old) (started_at start) ((u, sent) ∷ rs) l (xs ++ (accesses t ++ accesses p)) (state_of new)) (sym grown)
      (more rs ops xs (state_of old) (state_of new) t p u sent works is)),
)

-- the work over a bus of a queue that has its seat's wiring
pub is_work : {S : Type 0} (log : S → Option (List Access)) (gives : S → Access → S → Type 0) (task : Task) (turns : ℕ) (row : BackRow) (s : SeatView) (q : Queue) (rs : List Round) (xs : List Access) (bus bus' : S) →
    IsWiredFor task s.number (wiring_of q) → Works task.host (wiring_of q) (started_at task.start) rs s.ops xs (state_of q) → length rs ≤ turns → (length rs ≡ turns) ⊎ IsAtRest rs → row ≡ counted rs →
    Performs log gives bus xs bus' → IsWorkOver log gives task turns row s bus bus'
is_work log gives task turns row s q rs xs bus bus' wired works few ended is performed = record {
  work = record { wiring = wiring_of q; wired = wired; made = rs; accesses = xs; end = state_of q; works = works; few = few; ended = ended; row_is = is };
  performed = performed;
}
