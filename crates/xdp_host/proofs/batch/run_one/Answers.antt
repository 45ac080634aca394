use Rattle.std.proofs.Common.{◌≡◌, ◌≤◌, ◌-◌, ◌∙◌, ℕ, List, length, arith}
use borrow.Rule.Slice.PartMut.{mid_len}
use Rattle.xdp_host.specs.Batch.{end_of}
use Rattle.xdp_host.proofs.BatchLemmas.{runs_one}
use Rattle.xdp_host.proofs.batch.run_one.Goals as goal

pub returns-clause-ran : goal.returns-clause-ran
returns-clause-ran c =
    let x = c.args.packet in
    let bytes : List ℕ = c.args.bytes.now in
    let inside : end_of x ≤ length bytes = omega (arith, c.if-length-bytes.false, c.if-start-bytes.false) in
    let long : length c.run.new.packet ≡ end_of x - x.start = c.run.auto.packet ∙ mid_len x.start (end_of x) bytes inside in
    rw c.from.ensures (runs_one c.args.held.now.program c.args.held.now.lists c.args.ifindex c.args.queue x c.run.result bytes c.args.counters.now c.run.new.packet c.run.new.counters inside long c.run.ensures.made c.run.ensures.unmade)
