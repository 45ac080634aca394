use Rattle.xen_host.specs.EngineAt.{engine_at}
use Rattle.xen_host.proofs.EngineLemmas.{wait_begins, wait_stands}
use Rattle.xen_host.proofs.engine.Engine.begin_wait.Goals as goal

pub returns : goal.returns
returns c =
    let old = c.args.self.now in
    record {
      stands = λ w packet st. wait_stands (engine_at w packet old) st c.args.pages;
      begun = λ w packet h. wait_begins (engine_at w packet old) c.args.pages h;
    }
