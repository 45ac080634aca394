use Rattle.std.proofs.Common.{List, ℕ, drop, ap}
use Rattle.xen_steps.specs.Steps.{bind}
use Rattle.xen_host.proofs.RanLedLemmas.{ran_from_same}
use Rattle.xen_turns.specs.Tree.{after_copy, copy}
use Rattle.xen_host.specs.EngineAt.{engine_at}
use Rattle.xen_host.proofs.EarlyLemmas.{early_as}
use Rattle.xen_turns.specs.declared.state.State.{State}
use Rattle.xen_host.proofs.engine.Engine.after_page.Goals as goal

pub returns-clause-led : goal.returns-clause-led
returns-clause-led g c =
    let q = engine_at (g.W.Wires.wiring c.args.wires.now) (g.R.Room.held c.args.packet.now) c.args.self.now in
    let w = q.wires in
    let b = q.work in
    let p = c.page.ensures.given in
    record {
      words = p.words;
      mid = c.page.new.self;
      all = p.all;
      below = p.below;
      given = p.given;
      led = ran_from_same _ _ _ _ _ _ _ _ _ (ap (λ (l : List ℕ). bind (copy w (drop c.args.i b.fragments) l) (after_copy w q.state b.chain)) p.read) c.next_fragment.ensures.led;
      early = early_as _ _ _ _ (λ (t : State). ap (λ (l : List ℕ). bind (copy w (drop c.args.i b.fragments) l) (after_copy w t b.chain)) p.read) c.next_fragment.ensures.early;
    }
