use Rattle.std.proofs.Common.{◌≡◌, Some, map, refl, sym, subst, ◌∙◌}
use Rattle.xdp_program.proofs.TallyLemmas.{seat_of}
use Rattle.xen_host.specs.EngineAt.{engine_at}
use Rattle.xen_host.proofs.EngineLemmas.{rest_stands}
use Rattle.xen_turns.specs.Drive.{labels}
use Rattle.xen_back.proofs.InOneGoLemmas.{rests_in, seated_on, taken}
use Rattle.xen_back.specs.Rest.{rest_at}
use Rattle.xen_back.specs.declared.by_event.phase.Phase.{Phase}
use Rattle.xen_back.specs.declared.by_event.phase.Phase.TheVariants as phase
use Rattle.xen_turns.specs.Within.{Completes}
use Rattle.xen_back.proofs.queue.Queue.take_turn.Goals as goal

pub drive_turn-requires-clause-rests : goal.drive_turn-requires-clause-rests
drive_turn-requires-clause-rests g c =
    let q = c.args.self.now in
    q.rests

pub drive_turn-requires-clause-stands : goal.drive_turn-requires-clause-stands
drive_turn-requires-clause-stands g c =
    let q = c.args.self.now in
    let e = engine_at q.wiring c.in-Some-At.packet q.engine in
    rest_stands e q.rests q.wired q.turns

pub drive_turn-requires-clause-serving : goal.drive_turn-requires-clause-serving
drive_turn-requires-clause-serving g c labels after went = seated_on c.args.self.now.wiring.program.now.shapes labels c.args.counters.now after c.requires.seated went

pub invariant_of-self : goal.invariant_of-self
invariant_of-self g c =
    let q = c.args.self.now in
    let k = c.drive_turn in
    let new = k.new.self in
    let ready : c.in-Some-At.field-0-1 ≡ phase.Ready = cc (sym c.in-Some-At.is ∙ c.requires.ready.1) in
    record {
      here = refl;
      rests = rests_in (engine_at q.wiring k.new.packet new) new.state k.ensures.turned.rests;
      wired = q.wired;
      turns = q.turns;
      left = subst (λ (x : Phase). Completes q.wiring (rest_at q.wiring new.state k.new.packet x)) (sym ready) (q.turns new.state);
    }

pub returns-clause-loan : goal.returns-clause-loan
returns-clause-loan g c =
    let d = c.drive_turn.ensures.turned in
    seat_of c.args.self.now.wiring.program.now.shapes (map Some (labels d.trace)) c.args.counters.now c.drive_turn.new.counters d.counted

pub returns-clause-taken : goal.returns-clause-taken
returns-clause-taken g c =
    let q = c.args.self.now in
    let k = c.drive_turn in
    taken g.B.Bus.log g.B.Bus.access_gives q _ (engine_at q.wiring c.in-Some-At.packet q.engine) (engine_at q.wiring k.new.packet k.new.self) refl refl refl refl
    (record { wiring = refl; tx_ring = refl; rx_ring = refl }) k.result c.args.bus.now k.new.bus c.args.counters.now k.new.counters k.ensures.turned
