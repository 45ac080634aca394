-- Stated: claims rest on this file.
-- One turn of a back queue, as a computation that asks (an interaction tree).
use Rattle.std.specs.Prelude.{ℕ, zero, suc, ◌+◌, ◌/◌, ◌%◌, ◌^◌, Bool, true, false, ◌==◌, List, [], ◌∷◌, ◌++◌, length, Option, Some}
use Rattle.std.specs.Prelude.{None, Result, Ok, Err, if◌then◌else◌}
use Rattle.bpf_verify.specs.Consistent.{instructions}
use Rattle.bpf_vm.specs.Course.{Course, Exiting, Stepping, Loading, Adding, Broken, course, start_state}
use Rattle.xen_netif.specs.Chain.{Slot}
use Rattle.xen_steps.specs.Pages.{copy_words, covered}
use Rattle.xen_netif.specs.Segments.{offered_fragments}
use Rattle.xen_netif.specs.Standing.{standing}
use Rattle.xen_netif.specs.declared.chain.ChainState.{ChainState}
use Rattle.xen_netif.specs.declared.chain.ChainState.TheVariants as wanted
use Rattle.xen_netif.specs.declared.fault.ChainFault.{ChainFault}
use Rattle.xen_netif.specs.declared.fault.SizeFault.{SizeFault}
use Rattle.xen_netif.specs.declared.fragment.Fragment.{Fragment}
use Rattle.xen_netif.specs.declared.status.Status.{Status}
use Rattle.xen_netif.specs.declared.status.Status.TheVariants as status
use Rattle.xen_page.specs.declared.fault.GrantFault.{GrantFault}
use Rattle.xen_page.specs.declared.entry.Rights.TheVariants.{ReadOnly}
use Rattle.xen_ring.specs.Index.{is_due}
use Rattle.xen_netif.specs.declared.offload.RxOffload.TheVariants.{Whole}
use Rattle.xen_rx_fill.specs.Entries.{entry}
use Rattle.xen_steps.specs.Places.{add32, available}
use Rattle.xen_rx_fill.specs.Places.{tx_slot, tx_word}
use Rattle.xen_steps.specs.Steps.{Steps, done, ask, never, bind}
use Rattle.xen_rx_fill.specs.Transmit.{transmit}
use Rattle.xen_turns.specs.Turned.{Ending, Turned, Idle, Ran, Refused, Halted}
use Rattle.xen_rx_fill.specs.declared.by_event.phase.TransmitOutcome.{TransmitOutcome}
use Rattle.xen_rx_fill.specs.declared.by_event.phase.TransmitOutcome.TheVariants as outcome
use Rattle.xen_turns.specs.declared.state.State.{State}
use Rattle.xen_turns.specs.declared.turn.Halt.{Halt}
use Rattle.xen_turns.specs.declared.turn.Halt.TheVariants as halt
use Rattle.xen_turns.specs.declared.turn.PacketRefusal.TheVariants as refusal
use Rattle.xen_steps.specs.declared.want.Want.TheVariants as want
use Rattle.xen_turns.specs.declared.wiring.Wiring.{Wiring}
pub use Rattle.xen_turns.specs.Responses.{Left, answered, after_slots, response, responses, status_of}

abbrev pub halted : State → Halt → Steps Ending
halted s cause = done (record s { halt = Some cause }, Halted cause)

-- the producer, and the final check if it shows nothing
abbrev pub check_again : Wiring → ℕ → Steps (Option ℕ)
check_again w t = ask (want.Read (tx_word w.vif 0)) (λ p. done (available t p))

abbrev pub announce : Wiring → ℕ → Steps (Option ℕ)
announce w t = ask (want.Write (tx_word w.vif 1) (add32 t 1)) (λ _. check_again w t)

abbrev pub seen : Wiring → ℕ → Option ℕ → Steps (Option ℕ)
seen w t None = done None
seen w t (Some zero) = announce w t
seen w t (Some (suc n)) = done (Some (suc n))

abbrev pub look : Wiring → ℕ → Steps (Option ℕ)
look w t = ask (want.Read (tx_word w.vif 0)) (λ p. seen w t (available t p))

-- a slot's three words
abbrev pub third : Wiring → ℕ → ℕ → ℕ → Steps Slot
third w i a b = ask (want.Read (tx_slot w.vif i 2)) (λ c. done (a ∷ b ∷ c ∷ []))

abbrev pub second : Wiring → ℕ → ℕ → Steps Slot
second w i a = ask (want.Read (tx_slot w.vif i 1)) (λ b. third w i a b)

abbrev pub read_slot : Wiring → ℕ → Steps Slot
read_slot w i = ask (want.Read (tx_slot w.vif i 0)) (λ a. second w i a)

-- a whole chain, or why there is none
abbrev pub Scan : Type 0
Scan = Result (List Slot) Halt

-- after a slot, by where its list stands: more is read, the chain is whole, or it has a fault
abbrev pub judged : List Slot → Option (Result ChainState ChainFault) → Steps Scan → Steps Scan
judged slots (Some (Ok wanted.Complete)) rest = done (Ok slots)
judged slots (Some (Ok wanted.Data)) rest = rest
judged slots (Some (Ok wanted.Extra)) rest = rest
judged slots (Some (Err fault)) rest = done (Err (halt.Chain fault))
judged slots None rest = never

-- `left` slots are left before the producer
abbrev pub read_slots : Wiring → ℕ → ℕ → List Slot → Steps Scan
read_slots w t zero slots = done (Err halt.ShortChain)
read_slots w t (suc left) slots =
    bind (read_slot w (add32 t (length slots))) (λ s.
    judged (slots ++ s ∷ []) (standing (slots ++ s ∷ [])) (read_slots w t left (slots ++ s ∷ [])))

-- the push, the event index, and a notice if one is due
abbrev pub notice : Wiring → Bool → Ending → Steps Ending
notice w false e = done e
notice w true e = ask (want.Notify w.vif.port) (λ _. done e)

abbrev pub read_event : Wiring → ℕ → ℕ → Ending → Steps Ending
read_event w old new e = ask (want.Read (tx_word w.vif 3)) (λ event. notice w (is_due old new event) e)

abbrev pub publish : Wiring → ℕ → ℕ → Ending → Steps Ending
publish w old new e = ask (want.Write (tx_word w.vif 2) new) (λ _. read_event w old new e)

-- one word per slot, from the i-th on, and the push of them all
abbrev pub answer : Wiring → ℕ → ℕ → ℕ → List ℕ → Ending → Steps Ending
answer w t n i [] e = publish w t (add32 t n) e
answer w t n i (r ∷ rs) e = ask (want.Write (tx_slot w.vif (add32 t i) 0) r) (λ _. answer w t n (i + 1) rs e)

abbrev pub respond : Wiring → State → List Slot → Status → Turned → Steps Ending
respond w s slots st u = answer w s.tx_index (length slots) 0 (responses st slots) (answered s (length slots), u)

abbrev pub entered : Fragment → (List ℕ → Steps (Option (List ℕ))) → List ℕ → Result ℕ GrantFault → Steps (Option (List ℕ))
entered f rest bytes (Err fault) = done None
entered f rest bytes (Ok frame) = bind (copy_words f frame (f.offset / 4) (covered f) bytes) rest

abbrev pub copy : Wiring → List Fragment → List ℕ → Steps (Option (List ℕ))
copy w [] bytes = done (Some bytes)
copy w (f ∷ fs) bytes = bind (entry w.vif ReadOnly f.gref) (entered f (copy w fs) bytes)

abbrev pub program : Course → ℕ → Steps Left
program (Exiting r0 packet) ops = ask want.Instr (λ _. done (record { number = r0 % 2 ^ 32; packet = packet; ops = ops }))
program (Stepping c) ops = ask want.Instr (λ _. program c ops)
program (Loading m k j to) ops = ask (want.Load m k j) (λ v. program (to v) (ops + 1))
program (Adding m k j delta to) ops = ask (want.Add m k j delta) (λ v. program (to v) (ops + 1))
program Broken ops = never

abbrev pub after_transmit : Wiring → State → List Slot → List ℕ → ℕ → TransmitOutcome → Steps Ending
after_transmit w s slots packet ops outcome.Overflow = halted s halt.RxProducer
after_transmit w s slots packet ops outcome.TooFew = respond w s slots status.Error (Refused refusal.FewSlots ops (length slots))
after_transmit w s slots packet ops (outcome.Refused used) = respond w (after_slots s used) slots status.Error
    (Refused refusal.RxGrant ops (length slots))
after_transmit w s slots packet ops (outcome.Sent used) = respond w (after_slots s used) slots status.Okay (Ran 3 packet ops (length slots))

abbrev pub send : Wiring → State → List Slot → List ℕ → ℕ → Steps Ending
send w s slots packet ops = bind (transmit w.vif s.rx_index Whole packet) (after_transmit w s slots packet ops)

abbrev pub after_run : Wiring → State → List Slot → Left → Steps Ending
after_run w s slots r =
    if r.number == 3 then send w s slots r.packet r.ops
    else respond w s slots (status_of r.number) (Ran r.number r.packet r.ops (length slots))

-- what the wired program does on a packet
abbrev pub run_of : Wiring → List ℕ → Course
run_of w packet = let p = w.program.now in course (instructions p.code) p.code (start_state p.shapes w.lists.now packet w.ifindex w.queue)

abbrev pub after_copy : Wiring → State → List Slot → Option (List ℕ) → Steps Ending
after_copy w s slots None = respond w s slots status.Error (Refused refusal.Grant 0 (length slots))
after_copy w s slots (Some packet) = bind (program (run_of w packet) 0) (after_run w s slots)

abbrev pub after_chain : Wiring → State → List Slot → Result (List Fragment) SizeFault → Steps Ending
after_chain w s slots (Err fault) = respond w s slots status.Error (Refused (refusal.Size fault) 0 (length slots))
after_chain w s slots (Ok fragments) = bind (copy w fragments []) (after_copy w s slots)

abbrev pub after_scan : Wiring → State → Scan → Steps Ending
after_scan w s (Err cause) = halted s cause
after_scan w s (Ok slots) = after_chain w s slots (offered_fragments w.offers slots)

abbrev pub after_look : Wiring → State → Option ℕ → Steps Ending
after_look w s None = halted s halt.TxProducer
after_look w s (Some zero) = done (s, Idle)
after_look w s (Some (suc n)) = bind (read_slots w s.tx_index (suc n) []) (after_scan w s)

abbrev pub unless_halted : Wiring → State → Option Halt → Steps Ending
unless_halted w s (Some cause) = done (s, Halted cause)
unless_halted w s None = bind (look w s.tx_index) (after_look w s)

abbrev pub whole_turn : Wiring → State → Steps Ending
whole_turn w s = unless_halted w s s.halt
