-- What a queue's engine has done is the queue's.
use Rattle.std.proofs.Common.{◌≡◌, ℕ, List, [], ◌∷◌, ◌++◌, map, refl, sym, ap, ◌∙◌, subst}
use Rattle.std.specs.Prelude.{IsSome, None, Option, Some}
use Rattle.bpf_note.specs.Shape.{Shape}
use Rattle.bpf_note.specs.declared.op.Op.{Op}
use Rattle.bpf_maps.specs.Seats.{CountersView, IsSeatOf, SeatView}
use Rattle.xdp_program.specs.Tallies.{DidAtSeat, IsSeated, Went, operations_of}
use Rattle.xdp_program.specs.declared.tallies.Seated.{Seated}
use Rattle.xdp_program.proofs.TallyLemmas.{grown_of}
use Rattle.xen_page.specs.declared.access.Access.{Access}
use Rattle.xen_turns.specs.Drive.{labels}
use Rattle.xen_turns.specs.Turned.{turned}
use Rattle.xen_turns.specs.Turns.{IsTurn}
use Rattle.xen_turns.specs.declared.state.State.{State}
use Rattle.xen_turns.specs.declared.turn.Kind.{Kind}
use Rattle.xen_host.specs.Driven.{HasTurnedAt}
use Rattle.xen_host.specs.EngineAt.{EngineAt}
use Rattle.xen_host.specs.UnderWay.{between, packet_at, resting_at}
use Rattle.xen_host.specs.declared.stage.Stage.{Stage}
use Rattle.xen_host.proofs.EngineLemmas.{ready_at}
use Rattle.xen_host.proofs.TurnLemmas.{packet_there}
use Rattle.xen_back.specs.InOneGo.{IsTaken}
use Rattle.xen_back.specs.Queues.{IsSameWiring, state_of, wiring_of}
use Rattle.xen_back.specs.Rest.{packet_of_stage}
use Rattle.xen_back.specs.declared.queue.Queue.{Queue}

-- the same seat, whatever was done by it
seat_on : (counters : CountersView) (seat : SeatView) (ops : List Op) → IsSeatOf counters seat → IsSeatOf counters (record seat { ops = ops })
seat_on counters seat ops h = h

-- counters at a seat stay counters at a seat
pub seated_on : (shapes : List Shape) (labels : List (Option Op)) (before after : Seated) → IsSeated shapes before → Went (DidAtSeat shapes) before after labels → IsSeated shapes after
seated_on shapes [] before after s h = subst (λ (c : Seated). IsSeated shapes c) h s
seated_on shapes (None ∷ labels) before after s h = seated_on shapes labels before after s h
seated_on shapes (Some op ∷ labels) before after s h =
    let mid = h.0 in
    let d = h.1 in
    let same = sym d.2 in
    let here : IsSeatOf before.counters.now mid.seat.now = subst (λ (v : SeatView). IsSeatOf before.counters.now v) (sym d.0) (seat_on before.counters.now before.seat.now (before.seat.now.ops ++ op ∷ []) s.1) in
    seated_on shapes labels mid after (ap (λ c. c.now.shapes) d.2 ∙ s.0, subst (λ c. IsSeatOf c.now mid.seat.now) same here) h.2

-- all labels are operations
pub operations_all : (ops : List Op) → operations_of (map Some ops) ≡ ops
operations_all [] = refl
operations_all (op ∷ ops) = ap (λ l. op ∷ l) (operations_all ops)

-- nothing is under way
pub rests_in : (e : EngineAt) (s : State) → resting_at e ≡ Some s → IsSome (resting_at e)
rests_in e s r = subst (λ (o : Option State). IsSome o) (sym r) refl

-- and the state is this
pub state_in : (e : EngineAt) (s : State) → resting_at e ≡ Some s → e.state ≡ s
state_in e s r =
    let here : Some e.state ≡ Some s = sym (ap (λ (g : Stage). between e.state g) (ready_at e (rests_in e s r))) ∙ r in
    cc here

rested_packet : (e : EngineAt) → resting_at e ≡ Some e.state → packet_at e ≡ e.work.packet
rested_packet e r = packet_there e (ready_at e (rests_in e e.state r))

-- What the engine of a queue has done is what the queue has.
pub taken : {S : Type 0} (log : S → Option (List Access)) (gives : S → Access → S → Type 0) (old new : Queue) (from to : EngineAt) → from.wires ≡ wiring_of old → from.state ≡ state_of old → to.state ≡ state_of new →
    to.work.packet ≡ packet_of_stage new.stage → IsSameWiring old new → (kind : Kind) (bus bus' : S) (before after : Seated) →
    HasTurnedAt log gives (DidAtSeat from.wires.program.now.shapes) from to kind bus bus' before after → IsTaken log gives old new kind bus bus' before after
taken log gives old new from to wired began ended packet same kind bus bus' before after d =
    let shown = rested_packet to d.rests ∙ packet in
    let ops = map Some (labels d.trace) in
    let one = subst (λ w. IsTurn w from.state d.trace to.state (turned kind (packet_at to))) wired d.is_turn in
    let two = subst (λ s. IsTurn (wiring_of old) s d.trace to.state (turned kind (packet_at to))) began one in
    let three = subst (λ s. IsTurn (wiring_of old) (state_of old) d.trace s (turned kind (packet_at to))) ended two in
    record {
      trace = d.trace;
      is_turn = subst (λ (p : List ℕ). IsTurn (wiring_of old) (state_of old) d.trace (state_of new) (turned kind p)) shown three;
      performed = d.performed;
      grown = grown_of from.wires.program.now.shapes ops before after d.counted ∙ ap (λ (l : List Op). record before.seat.now { ops = before.seat.now.ops ++ l }) (operations_all (labels d.trace));
      same = same;
    }
