use Rattle.std.proofs.Common.{ℕ, List, [], ◌∷◌, ◌++◌, append-nil, subst}
use Rattle.xen_netif.specs.declared.offload.RxOffload.{RxOffload}
use Rattle.xen_netif.specs.declared.offload.RxOffload.TheVariants.{Whole}
use Rattle.xen_steps.specs.Event.{Event, Read}
use Rattle.xen_steps.specs.Places.{add32}
use Rattle.xen_rx_fill.specs.Places.{rx_word}
use Rattle.xen_rx_fill.specs.Packets.{words}
use Rattle.xen_rx_fill.specs.Sending.{IsTransmit, buffer_writes}
use Rattle.xen_rx_fill.specs.Sending as sending
use Rattle.xen_rx_fill.specs.declared.by_event.phase.TransmitOutcome.TheVariants as outcome
use Rattle.xen_rx_fill.specs.declared.vif.Vif.{Vif}
use Rattle.xen_rx_fill.specs.declared.target.Grants.TheVariants.{Passed, Refused}
use Rattle.xen_turns.specs.Delivered.{IsDelivery}
use Rattle.xen_turns.specs.Delivered as delivered
use Rattle.xen_turns.specs.Parts.{HasRead}
use Rattle.xen_turns.specs.Responses.{status_of}
use Rattle.xen_turns.specs.Turned.{Turned}
use Rattle.xen_turns.specs.Turns.{IsTurn}
use Rattle.xen_turns.specs.Turns as turns
use Rattle.xen_turns.specs.declared.delivery.delivering.Delivery.{Delivery}
use Rattle.xen_turns.specs.declared.state.State.{State}
use Rattle.xen_turns.specs.declared.wiring.Wiring.{Wiring}
use Rattle.xen_netif.specs.Chain.{Slot}
use Rattle.xen_netif.specs.declared.status.Status.TheVariants.{Error, Okay}
use Rattle.xen_host.specs.GivesBack.{GivesBack, HasPushed, IsAnswered, IsAnsweredRx}
use Rattle.xen_host.proofs.GivesBackLemmas.{all_of, behind_copy, behind_look, behind_read, behind_run, behind_transmit, of_respond, of_rings, pushed_behind, pushed_respond, pushed_rx}
use Rattle.xen_host.proofs.laws.granted_pages_are_given_back.Goals as goal

read_all : (w : Wiring) (s : State) (n : ℕ) (p1 p2 : List Event) (slots : List Slot) → HasRead w s n p1 p2 slots → GivesBack w.vif (p1 ++ p2)
read_all w s n p1 p2 slots r = subst (λ (l : List Event). GivesBack w.vif (p1 ++ l)) (append-nil p2) (behind_read w s n p1 p2 slots [] r tt)

turn : (w : Wiring) (s : State) (t : List Event) (new : State) (u : Turned) → IsTurn w s t new u → GivesBack w.vif t
turn w s _ _ _ (turns.still_halted cause h) = tt
turn w s _ _ _ (turns.idle p1 h l) = all_of w.vif p1 (behind_look w s.tx_index p1 _ [] l tt)
turn w s _ _ _ (turns.overflown p1 h l) = all_of w.vif p1 (behind_look w s.tx_index p1 _ [] l tt)
turn w s _ _ _ (turns.short p1 p2 n slots r l b) = read_all w s n p1 p2 slots r
turn w s _ _ _ (turns.broken p1 p2 n slots fault r b) = read_all w s n p1 p2 slots r
turn w s _ _ _ (turns.refused_sizes p1 p2 p6 n slots fault r c f a) = behind_read w s n p1 p2 slots p6 r (of_rings w.vif p6 (of_respond w s.tx_index slots Error p6 a))
turn w s _ _ _ (turns.refused_grant p1 p2 p3 p6 n slots fragments r c f k a) =
    behind_read w s n p1 p2 slots (p3 ++ p6) r (behind_copy w fragments p3 _ p6 k (of_rings w.vif p6 (of_respond w s.tx_index slots Error p6 a)))
turn w s _ _ _ (turns.ran p p6 slots out r n a) = behind_run w s p slots out p6 r (of_rings w.vif p6 (of_respond w s.tx_index slots (status_of out.number) p6 a))
turn w s _ _ _ (turns.halted_rx p p5 slots out r n a) = behind_run w s p slots out p5 r (all_of w.vif p5 (behind_transmit w.vif s.rx_index Whole out.packet p5 _ [] a tt))
turn w s _ _ _ (turns.refused_few p p5 p6 slots out r n a b) =
    behind_run w s p slots out (p5 ++ p6) r (behind_transmit w.vif s.rx_index Whole out.packet p5 _ p6 a (of_respond w s.tx_index slots Error p6 b))
turn w s _ _ _ (turns.refused_rx p p5 p6 used slots out r n a b) =
    behind_run w s p slots out (p5 ++ p6) r (behind_transmit w.vif s.rx_index Whole out.packet p5 _ p6 a (of_respond w s.tx_index slots Error p6 b))
turn w s _ _ _ (turns.ran_tx p p5 p6 used slots out r n a b) =
    behind_run w s p slots out (p5 ++ p6) r (behind_transmit w.vif s.rx_index Whole out.packet p5 _ p6 a (of_respond w s.tx_index slots Okay p6 b))

answered : (w : Wiring) (s : State) (t : List Event) (new : State) (u : Turned) → IsTurn w s t new u → IsAnswered u → HasPushed w.vif.tx new.tx_index t
answered w s _ _ _ (turns.still_halted cause h) i = absurd i
answered w s _ _ _ (turns.idle p1 h l) i = absurd i
answered w s _ _ _ (turns.overflown p1 h l) i = absurd i
answered w s _ _ _ (turns.short p1 p2 n slots r l b) i = absurd i
answered w s _ _ _ (turns.broken p1 p2 n slots fault r b) i = absurd i
answered w s _ _ _ (turns.refused_sizes p1 p2 p6 n slots fault r c f a) i =
    pushed_behind w.vif.tx _ p1 (p2 ++ p6) (pushed_behind w.vif.tx _ p2 p6 (pushed_respond w s.tx_index slots Error p6 a))
answered w s _ _ _ (turns.refused_grant p1 p2 p3 p6 n slots fragments r c f k a) i =
    pushed_behind w.vif.tx _ p1 (p2 ++ (p3 ++ p6)) (pushed_behind w.vif.tx _ p2 (p3 ++ p6) (pushed_behind w.vif.tx _ p3 p6 (pushed_respond w s.tx_index slots Error p6 a)))
answered w s _ _ _ (turns.ran p p6 slots out r n a) i = pushed_behind w.vif.tx _ p p6 (pushed_respond w s.tx_index slots (status_of out.number) p6 a)
answered w s _ _ _ (turns.halted_rx p p5 slots out r n a) i = absurd i
answered w s _ _ _ (turns.refused_few p p5 p6 slots out r n a b) i =
    pushed_behind w.vif.tx _ p (p5 ++ p6) (pushed_behind w.vif.tx _ p5 p6 (pushed_respond w s.tx_index slots Error p6 b))
answered w s _ _ _ (turns.refused_rx p p5 p6 used slots out r n a b) i =
    pushed_behind w.vif.tx _ p (p5 ++ p6) (pushed_behind w.vif.tx _ p5 p6 (pushed_respond w s.tx_index slots Error p6 b))
answered w s _ _ _ (turns.ran_tx p p5 p6 used slots out r n a b) i =
    pushed_behind w.vif.tx _ p (p5 ++ p6) (pushed_behind w.vif.tx _ p5 p6 (pushed_respond w s.tx_index slots Okay p6 b))

sent_on : (w : Vif) (x : ℕ) (o : RxOffload) (packet : List ℕ) (t : List Event) (used : ℕ) → IsTransmit w x o packet t (outcome.Sent used) → HasPushed w.rx (add32 x used) t
sent_on w x o packet _ _ (sending.sent p m p1 p2 ts l e f a r) =
    let filled = buffer_writes o ts packet (words packet) 0 in
    pushed_behind w.rx _ (Read (rx_word w 0) p ∷ p1) (filled ++ p2) (pushed_behind w.rx _ filled p2 (pushed_rx w x o packet Passed ts p2 r))

refused_on : (w : Vif) (x : ℕ) (o : RxOffload) (packet : List ℕ) (t : List Event) (used : ℕ) → IsTransmit w x o packet t (outcome.Refused used) → HasPushed w.rx (add32 x used) t
refused_on w x o packet _ _ (sending.refused p m p1 p2 ts l e f a r) =
    pushed_behind w.rx _ (Read (rx_word w 0) p ∷ p1) p2 (pushed_rx w x o packet Refused ts p2 r)

delivery : (w : Wiring) (s : State) (o : RxOffload) (packet : List ℕ) (t : List Event) (new : State) (what : Delivery) → IsDelivery w s o packet t new what → GivesBack w.vif t
delivery w s o packet _ _ _ (delivered.no_frame f) = tt
delivery w s o packet _ _ _ (delivered.not_accepted f t) = tt
delivery w s o packet _ _ _ (delivered.still_halted cause f h) = tt
delivery w s o packet _ _ _ (delivered.overflown p f h t) = all_of w.vif p (behind_transmit w.vif s.rx_index o packet p _ [] t tt)
delivery w s o packet _ _ _ (delivered.few p f h t) = all_of w.vif p (behind_transmit w.vif s.rx_index o packet p _ [] t tt)
delivery w s o packet _ _ _ (delivered.refused p used f h t) = all_of w.vif p (behind_transmit w.vif s.rx_index o packet p _ [] t tt)
delivery w s o packet _ _ _ (delivered.sent p used f h t) = all_of w.vif p (behind_transmit w.vif s.rx_index o packet p _ [] t tt)

arrived : (w : Wiring) (s : State) (o : RxOffload) (packet : List ℕ) (t : List Event) (new : State) (what : Delivery) → IsDelivery w s o packet t new what → IsAnsweredRx what → HasPushed w.vif.rx new.rx_index t
arrived w s o packet _ _ _ (delivered.no_frame f) i = absurd i
arrived w s o packet _ _ _ (delivered.not_accepted f t) i = absurd i
arrived w s o packet _ _ _ (delivered.still_halted cause f h) i = absurd i
arrived w s o packet _ _ _ (delivered.overflown p f h t) i = absurd i
arrived w s o packet _ _ _ (delivered.few p f h t) i = absurd i
arrived w s o packet _ _ _ (delivered.refused p used f h t) i = refused_on w.vif s.rx_index o packet p used t
arrived w s o packet _ _ _ (delivered.sent p used f h t) i = sent_on w.vif s.rx_index o packet p used t

pub returns : goal.returns
returns c = record { turns = turn; answered = answered; deliveries = delivery; delivered = arrived }
