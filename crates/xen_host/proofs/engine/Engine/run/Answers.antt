use Rattle.std.proofs.Common.{List, subst}
use Rattle.std.specs.Prelude.{Option}
use Rattle.bpf_lists.specs.declared.list.MapList.{MapList}
use Rattle.xen_turns.specs.Tree.{after_run}
use Rattle.bpf_verify.specs.Consistent.{Accepted}
use Rattle.xdp_program.specs.Tallies.{Went}
use Rattle.xen_host.specs.Ran.{RanFrom}
use Rattle.xen_host.proofs.RunLemmas.{program_gone}
use Rattle.xen_host.specs.EngineAt.{engine_at}
use Rattle.xen_host.proofs.engine.Engine.run.Goals as goal

pub returns-clause-led : goal.returns-clause-led
returns-clause-led g c =
    let q = engine_at (g.W.Wires.wiring c.args.wires.now) (g.R.Room.held c.args.packet.now) c.args.self.now in
    let w = q.wires in
    let r = c.run-ran in
    let packet = q.work.packet in
    let before = c.args.counters.now in
    let after = r.new.counters in
    let number = r.result.number in
    let left = g.R.Room.held r.new.self in
    let ops = r.result.ops in
    let accepted = subst (λ (p : Accepted). RanFrom p c.lists.result.now packet c.ifindex.result c.queue.result (Went (g.T.Tallies.did p.shapes) before after) number left ops) c.program.ensures r.ensures.ran in
    let listed = subst (λ (l : List (Option MapList)). RanFrom w.program.now l packet c.ifindex.result c.queue.result (Went (g.T.Tallies.did w.program.now.shapes) before after) number left ops) c.lists.ensures accepted in
    let seen = subst (λ k. RanFrom w.program.now w.lists.now packet k c.queue.result (Went (g.T.Tallies.did w.program.now.shapes) before after) number left ops) c.ifindex.ensures listed in
    let ran = subst (λ k. RanFrom w.program.now w.lists.now packet w.ifindex k (Went (g.T.Tallies.did w.program.now.shapes) before after) number left ops) c.queue.ensures seen in
    record {
      between = after_run w q.state q.work.chain (record { number = r.result.number; packet = left; ops = r.result.ops });
      ran = program_gone w q.work.packet (Went (g.T.Tallies.did q.wires.program.now.shapes) c.args.counters.now r.new.counters) r.result.number left r.result.ops (after_run w q.state q.work.chain) ran;
      led = c.after_run.ensures.led left;
    }
