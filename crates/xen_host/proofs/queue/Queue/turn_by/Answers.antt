use Rattle.std.proofs.Common.{arith, refl}
use Rattle.xen_host.specs.EngineAt.{engine_at}
use Rattle.xen_host.specs.Queues.{seen, wiring}
use Rattle.xen_host.proofs.EngineLemmas.{begun_stands}
use Rattle.xen_host.proofs.QueueLemmas.{begun, stands}
use Rattle.xen_host.proofs.queue.Queue.turn_by.Goals as goal

pub invariant_of-self : goal.invariant_of-self
invariant_of-self g c =
    let s = begun_stands (seen c.args.self.now) (stands c.args.self.now) (engine_at (wiring c.args.self.now) c.begin.new.packet c.begin.new.self) c.args.producer (omega (arith, c.ranges.producer.fits)) refl c.begin.ensures.led in
    record { fits = s.fits; wired = s.wired; turns = s.turns; seated = c.args.self.now.seated; apart = c.args.self.now.apart; side = c.args.self.now.side; left = s.left }

pub returns : goal.returns
returns g c = begun c.args.self.now _ c.args.producer (omega (arith, c.ranges.producer.fits)) refl refl c.begin.ensures.led
