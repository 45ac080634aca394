use Rattle.std.proofs.Common.{ap, length}
use Rattle.xdp_program.specs.Tallies.{Went}
use Rattle.xdp_program.proofs.LengthLemmas.{counting_length}
use Rattle.xen_host.proofs.RunLemmas.{ran_from}
use Rattle.xen_host.proofs.run.run_packet.Goals as goal

pub returns-clause-length : goal.returns-clause-length
returns-clause-length g c =
    let r = c.run_counting-ended in
    counting_length _ c.args.program.now c.shapes-shapes.ensures.consistent c.args.lists.now c.args.packet.bytes c.args.ifindex c.args.queue r.result.0.number r.result.0.packet.bytes r.result.0.instructions r.result.1
    c.bytes-bytes.ensures.bytes (ap length c.bytes-bytes.ensures.same) c.bytes-bytes.ensures.short c.ranges.ifindex.fits c.ranges.queue.fits r.ensures.ran

pub returns-clause-ran : goal.returns-clause-ran
returns-clause-ran g c =
    let r = c.run_counting-ended in
    let p = c.args.program.now in
    let went = Went (g.T.Tallies.did p.shapes) c.args.counters.now r.new.counters in
    ran_from went p c.shapes-shapes.ensures.consistent c.args.lists.now c.args.packet.bytes c.args.ifindex c.args.queue r.result.0.number r.result.0.packet.bytes r.result.0.instructions r.result.1
    c.bytes-bytes.ensures.bytes (ap length c.bytes-bytes.ensures.same) c.bytes-bytes.ensures.short c.ranges.ifindex.fits c.ranges.queue.fits r.ensures.bound r.ensures.ran
