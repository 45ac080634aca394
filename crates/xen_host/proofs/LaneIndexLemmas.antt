-- What is left of a turn comes to an end at another rx index too.
use Rattle.std.proofs.Common.{ℕ, ◌+◌, ◌<◌, Bool, true, false, List, [], ◌∷◌, length, drop, arith}
use Rattle.std.specs.Prelude.{◌/◌, ◌==◌, Option, None, Some, if◌then◌else◌}
use Rattle.xen_netif.specs.Chain.{Slot}
use Rattle.xen_netif.specs.declared.offload.RxOffload.TheVariants.{Whole}
use Rattle.xen_netif.specs.declared.status.Status.{Status}
use Rattle.xen_netif.specs.declared.status.Status.TheVariants as status
use Rattle.xen_page.specs.declared.entry.Rights.TheVariants.{ReadOnly}
use Rattle.xen_ring.specs.Index.{is_due}
use Rattle.xen_steps.specs.Drive.{Any, IsPageWant}
use Rattle.xen_steps.specs.Finish.{Finishes}
use Rattle.xen_steps.specs.Pages.{copy_words, covered}
use Rattle.xen_steps.specs.Places.{add32}
use Rattle.xen_steps.specs.Steps.{Steps, ask, bind, done, never}
use Rattle.xen_steps.specs.declared.want.Want.{Want}
use Rattle.xen_steps.specs.declared.want.Want.TheVariants as want
use Rattle.xen_steps.proofs.FinishLemmas.{finishes}
use Rattle.xen_rx_fill.specs.Entries.{entry_at}
use Rattle.xen_rx_fill.specs.Transmit.{transmit}
use Rattle.xen_rx_fill.specs.Wired.{IsWired}
use Rattle.xen_rx_fill.specs.declared.by_event.phase.TransmitOutcome.{TransmitOutcome}
use Rattle.xen_rx_fill.specs.declared.by_event.phase.TransmitOutcome.TheVariants as outcome
use Rattle.xen_rx_fill.proofs.Bounds.{bounded_transmit, frame_inside}
use Rattle.xen_rx_fill.proofs.EndLemmas.{ends_transmit}
use Rattle.xen_turns.specs.Rest.{fragment_at}
use Rattle.xen_turns.specs.Tree.{Left, after_copy, after_run, after_slots, after_transmit, answer, answered, copy, entered, notice, program, respond, responses, run_of, send, status_of}
use Rattle.xen_turns.specs.Turned.{Ending, Ran, Refused, Turned}
use Rattle.xen_turns.specs.Within.{Completes, may_want}
use Rattle.xen_turns.specs.declared.state.State.{State}
use Rattle.xen_turns.specs.declared.turn.PacketRefusal.TheVariants as refusal
use Rattle.xen_turns.specs.declared.wiring.Wiring.{Wiring}
use Rattle.xen_host.specs.Completing.{TaskCompletes}
use Rattle.xen_host.specs.EngineAt.{EngineAt, WorkAt}
use Rattle.xen_host.specs.LaneSteps.{indexed, indexed_at}
use Rattle.xen_host.specs.Stands.{Stands}
use Rattle.xen_host.specs.declared.stage.Purpose.TheVariants as purpose
use Rattle.xen_host.specs.declared.stage.Stage.{Stage}
use Rattle.xen_host.specs.declared.stage.Stage.TheVariants as stage

finishes_bind : {A B : Type 0} (within : Want → Type 0) (m : Steps A) (f : A → Steps B) → Finishes within m → ((x : A) → Finishes within (f x)) → Finishes within (bind m f)
finishes_bind within (done x) f h g = g x
finishes_bind within (ask w k) f h g = (h.0, (h.1.0, λ a e o. finishes_bind within (k a) f (h.1.1 a e o) g))
finishes_bind within never f h g = absurd h

finishes_wider : {A : Type 0} (within wider : Want → Type 0) → ((w : Want) → within w → wider w) → (s : Steps A) → Finishes within s → Finishes wider s
finishes_wider within wider f (done x) h = tt
finishes_wider within wider f (ask w k) h = (f w h.0, (h.1.0, λ a e o. finishes_wider within wider f (k a) (h.1.1 a e o)))
finishes_wider within wider f never h = absurd h

-- Where what follows a computation ends, something else that does may follow it.
finishes_swap : {A B : Type 0} (within : Want → Type 0) (m : Steps A) (f g : A → Steps B) → ((x : A) → Finishes within (f x) → Finishes within (g x)) → Finishes within (bind m f) → Finishes within (bind m g)
finishes_swap within (done x) f g by h = by x h
finishes_swap within (ask w k) f g by h = (h.0, (h.1.0, λ a e o. finishes_swap within (k a) f g by (h.1.1 a e o)))
finishes_swap within never f g by h = absurd h

module _ (w : Wiring) (wired : IsWired w.vif) where
  abbrev size : ℕ
  size = length w.vif.owners.now

  tx_inside : w.vif.tx < size
  tx_inside = frame_inside w.vif w.vif.tx wired.tx

  page_within : (x : Want) → IsPageWant size x → may_want w x
  page_within (want.Read at) p = p
  page_within (want.Write at v) p = p
  page_within want.Instr p = absurd p
  page_within (want.Load m k j) p = absurd p
  page_within (want.Add m k j d) p = absurd p
  page_within (want.Notify port) p = tt
  page_within want.Done p = absurd p

  notice_ends : (b : Bool) (e : Ending) → Completes w (notice w b e)
  notice_ends false e = tt
  notice_ends true e = (tt, (tt, λ a v o. tt))

  answer_ends : (t n i : ℕ) (rs : List ℕ) (e : Ending) → Completes w (answer w t n i rs e)
  answer_ends t n i [] e = ((tx_inside, omega arith), (tt, λ a v o. ((tx_inside, omega arith), (tt, λ b u p. notice_ends (is_due t (add32 t n) b) e))))
  answer_ends t n i (r ∷ rs) e = ((tx_inside, omega arith), (tt, λ a v o. answer_ends t n (i + 1) rs e))

  respond_ends : (s : State) (slots : List Slot) (st : Status) (u : Turned) → Completes w (respond w s slots st u)
  respond_ends s slots st u = answer_ends s.tx_index (length slots) 0 (responses st slots) (answered s (length slots), u)

  after_transmit_ends : (s : State) (slots : List Slot) (packet : List ℕ) (ops : ℕ) (o : TransmitOutcome) → Completes w (after_transmit w s slots packet ops o)
  after_transmit_ends s slots packet ops outcome.Overflow = tt
  after_transmit_ends s slots packet ops outcome.TooFew = respond_ends s slots status.Error (Refused refusal.FewSlots ops (length slots))
  after_transmit_ends s slots packet ops (outcome.Refused used) = respond_ends (after_slots s used) slots status.Error (Refused refusal.RxGrant ops (length slots))
  after_transmit_ends s slots packet ops (outcome.Sent used) = respond_ends (after_slots s used) slots status.Okay (Ran 3 packet ops (length slots))

  send_ends : (s : State) (slots : List Slot) (packet : List ℕ) (ops : ℕ) → Completes w (send w s slots packet ops)
  send_ends s slots packet ops =
      let m = transmit w.vif s.rx_index Whole packet in
      let sent = finishes (IsPageWant size) Any Any m 263684 (bounded_transmit w.vif wired s.rx_index Whole packet) (ends_transmit w.vif s.rx_index Whole packet) in
      finishes_bind (may_want w) m (after_transmit w s slots packet ops) (finishes_wider (IsPageWant size) (may_want w) page_within m sent) (after_transmit_ends s slots packet ops)

  after_run_ends : (s : State) (slots : List Slot) (r : Left) → Completes w (after_run w s slots r)
  after_run_ends s slots r = by (r.number == 3)
    where
      by : (b : Bool) → Completes w (if b then send w s slots r.packet r.ops else respond w s slots (status_of r.number) (Ran r.number r.packet r.ops (length slots)))
      by true = send_ends s slots r.packet r.ops
      by false = respond_ends s slots (status_of r.number) (Ran r.number r.packet r.ops (length slots))

  other_state : (s other : State) (slots : List Slot) (o : Option (List ℕ)) → Completes w (after_copy w s slots o) → Completes w (after_copy w other slots o)
  other_state s other slots None h = respond_ends other slots status.Error (Refused refusal.Grant 0 (length slots))
  other_state s other slots (Some packet) h = finishes_swap (may_want w) (program (run_of w packet) 0) (after_run w s slots) (after_run w other slots) (λ r k. after_run_ends other slots r) h

  task_indexed : (x : ℕ) (s : State) (g : Stage) (b : WorkAt) → TaskCompletes w s g b → TaskCompletes w (indexed_at x g s) g b
  task_indexed x s (stage.Entry i at) b h =
      let other = indexed_at x (stage.Entry i at) s in
      finishes_swap (may_want w) (bind (entry_at w.vif ReadOnly (Some at)) (entered (fragment_at b.fragments i) (copy w (drop (i + 1) b.fragments)) b.packet)) (after_copy w s b.chain) (after_copy w other b.chain)
      (other_state s other b.chain) h
  task_indexed x s (stage.Page i f frame) b h =
      let other = indexed_at x (stage.Page i f frame) s in
      finishes_swap (may_want w) (bind (copy_words f frame (f.offset / 4) (covered f) b.packet) (copy w (drop i b.fragments))) (after_copy w s b.chain) (after_copy w other b.chain) (other_state s other b.chain) h
  task_indexed x s stage.Ready b h = h
  task_indexed x s stage.Announce b h = h
  task_indexed x s (stage.Slot left) b h = h
  task_indexed x s (stage.Fill f p) b h = h
  task_indexed x s (stage.Respond i) b h = h
  task_indexed x s stage.Push b h = h
  task_indexed x s stage.Notice b h = h
  task_indexed x s (stage.Deliver producer) b h = h
  task_indexed x s (stage.Wait pages) b h = h
  task_indexed x s (stage.WaitLook pages) b h = h
  task_indexed x s stage.Several b h = h

pub stands_indexed : (x : ℕ) (e : EngineAt) → Stands e → Stands (indexed x e)
stands_indexed x e st = record { fits = st.fits; wired = st.wired; turns = st.turns; left = task_indexed e.wires st.wired x e.state e.stage e.work st.left }
