use Rattle.std.proofs.Common.{refl, sym, subst}
use Rattle.std.specs.Prelude.{IsSome}
use Rattle.xen_host.specs.EngineAt.{engine_at}
use Rattle.xen_host.specs.Wired.{wiring_of}
use Rattle.xen_host.proofs.EngineLemmas.{ready_at, rest_stands}
use Rattle.xen_host.proofs.TurnLemmas.{packet_there}
use Rattle.xen_host.proofs.queue.Queue.new.Goals as goal

pub invariant_of-result : goal.invariant_of-result
invariant_of-result c =
    let w = wiring_of c.args.wires in
    let e = engine_at w c.args.packet c.new.result in
    let s = rest_stands e (subst IsSome (sym (c.new.ensures.rests w c.args.packet)) refl) c.requires.wired c.turns_end.ensures in
    record { fits = s.fits; wired = s.wired; turns = s.turns; seated = tt; apart = c.requires.apart; side = c.requires.side; left = s.left }

pub returns-clause-state : goal.returns-clause-state
returns-clause-state c = c.new.ensures.rests (wiring_of c.args.wires) c.args.packet

pub returns-clause-packet : goal.returns-clause-packet
returns-clause-packet c =
    let w = wiring_of c.args.wires in
    let e = engine_at w c.args.packet c.new.result in
    packet_there e (ready_at e (subst IsSome (sym (c.new.ensures.rests w c.args.packet)) refl))
