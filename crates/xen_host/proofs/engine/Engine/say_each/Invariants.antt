use Rattle.std.proofs.Common.{◌≡◌, ℕ, ◌+◌}
use Rattle.xen_turns.specs.Tree.{responses}
use Rattle.xen_host.specs.Chained.{stores}
use Rattle.xen_host.specs.Hosts.{WasAskedAll, plain_all}
use Rattle.xen_host.proofs.engine.Engine.say_each.Given as goal

abbrev pub invariant-loop-i : goal.invariant-loop-i
invariant-loop-i g l =
    record {
      asked : (n : ℕ) × (l.from + n ≡ l.i) × WasAskedAll g.H.Host.was_asked l.fn.host (plain_all (stores (g.W.Wires.wiring l.wires).vif l.self.state.tx_index (responses l.self.work.answer.status l.self.work.chain) l.from n)) l.host;
      free : g.H.Host.is_free l.host;
    }
