use Rattle.std.proofs.Common.{◌≡◌, ◌≤◌, ◌-◌, ◌^◌, length, List, Option}
use Rattle.bpf_note.specs.declared.op.Op.{Op as Operation}
use Rattle.xdp_program.specs.Tallies.{Went}
use Rattle.xen_host.specs.SeveralFits.{AllFit}
use Rattle.xen_host.specs.Sweeps.{HaveStepped, KeepsRoom, sweep_at}
use Rattle.xen_host.specs.Wired.{wiring_of}
use Rattle.xen_host.proofs.several.Several.step_each.Given as goal

abbrev pub invariant-each : goal.invariant-each
invariant-each g l =
    record {
      fits : AllFit l.self.lanes;
      same : l.self ≡ record l.fn.self { lanes = l.self.lanes; rx_index = l.self.rx_index };
      stepped : HaveStepped (g.T.Tallies.did (wiring_of l.wires).program.now.shapes) (wiring_of l.wires) (length l.fn.host.ops.now) l.fn.self.held (l.k - l.fn.self.held)
          (sweep_at l.fn.self l.fn.self.held l.fn.counters l.fn.host) (sweep_at l.self l.answered l.counters l.host);
      up : l.answered ≤ l.k;
      limit : l.host.limit ≡ length l.fn.host.ops.now;
      low : l.host.own ≤ 2 ^ 31;
      room : l.host.count ≤ length l.fn.host.ops.now;
      went : (labels : List (Option Operation)) × Went (g.T.Tallies.did (wiring_of l.wires).program.now.shapes) l.fn.counters l.counters labels;
      keeps : KeepsRoom l.fn.host l.host;
    }
