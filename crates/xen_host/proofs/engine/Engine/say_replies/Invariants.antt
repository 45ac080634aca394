use Rattle.std.proofs.Common.{◌≡◌, ℕ, ◌+◌}
use Rattle.xen_host.specs.Chained.{replies}
use Rattle.xen_host.specs.Rest.{rx_offload}
use Rattle.xen_host.specs.Hosts.{WasAskedAll, plain_all}
use Rattle.xen_host.proofs.engine.Engine.say_replies.Given as goal

abbrev pub invariant-loop-i : goal.invariant-loop-i
invariant-loop-i g l =
    record {
      asked : (n : ℕ) × (l.from + n ≡ l.i) × WasAskedAll g.H.Host.was_asked l.fn.host (plain_all (replies (g.W.Wires.wiring l.wires).vif l.self.state.rx_index (rx_offload l.purpose l.self.work.offload) (g.R.Room.held l.packet) l.grants l.self.work.targets l.from n)) l.host;
      free : g.H.Host.is_free l.host;
    }
