use Rattle.std.proofs.Common.{◌<◌, refl, arith}
use Rattle.std.specs.Prelude.{◌^◌}
use Rattle.xen_host.specs.EngineAt.{engine_at, work_at}
use Rattle.xen_host.proofs.EngineLemmas.{delivery_begins, delivery_stands}
use Rattle.xen_host.proofs.engine.Engine.begin_delivery.Goals as goal

pub returns : goal.returns
returns c =
    let old = c.args.self.now in
    let small : c.args.producer < 2 ^ 32 = omega (arith, c.ranges.producer.fits) in
    record {
      stands = λ w packet d st. delivery_stands (engine_at w packet old) st c.args.producer (record (work_at packet old.work) { offload = c.args.offload }) small d;
      begun = λ w packet d h. delivery_begins (engine_at w packet old) c.args.producer (record (work_at packet old.work) { offload = c.args.offload }) packet h small refl d;
    }
