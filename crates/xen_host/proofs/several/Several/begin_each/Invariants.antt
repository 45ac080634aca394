use Rattle.std.proofs.Common.{◌≡◌, ◌≤◌, ◌-◌, List, Option}
use Rattle.bpf_note.specs.declared.op.Op.{Op as Operation}
use Rattle.xdp_program.specs.Tallies.{Went}
use Rattle.xen_host.specs.SeveralFits.{AllFit}
use Rattle.xen_host.specs.Sweeps.{HaveBegun, KeepsRoom, sweep_at}
use Rattle.xen_host.specs.Wired.{wiring_of}
use Rattle.xen_host.proofs.several.Several.begin_each.Given as goal

abbrev pub decreases-each : goal.decreases-each
decreases-each g l = l.host.ahead.count - l.host.ahead.taken

abbrev pub invariant-each : goal.invariant-each
invariant-each g l =
    record {
      fits : AllFit l.self.lanes;
      same : l.self ≡ record l.fn.self { lanes = l.self.lanes; rx_index = l.state.rx_index };
      begun : HaveBegun (g.T.Tallies.did (wiring_of l.wires).program.now.shapes) (wiring_of l.wires) l.state l.fn.self.shown l.fn.host.ahead.count l.k
          (sweep_at (record l.fn.self { rx_index = l.state.rx_index }) 0 l.fn.counters l.fn.host) (sweep_at l.self 0 l.counters l.host);
      ahead : l.host.ahead ≡ record l.fn.host.ahead { taken = l.host.ahead.taken };
      taken : l.k ≤ l.host.ahead.taken;
      few : l.host.ahead.taken ≤ l.fn.host.ahead.count;
      room : l.host.count ≤ l.k;
      went : (labels : List (Option Operation)) × Went (g.T.Tallies.did (wiring_of l.wires).program.now.shapes) l.fn.counters l.counters labels;
      keeps : KeepsRoom l.fn.host l.host;
    }
