use Rattle.std.proofs.Common.{arith}
use Rattle.bpf_note.specs.Parts.{facts}
use Rattle.bpf_same.proofs.BoundLemmas.{far_by}
use Rattle.bpf_same.proofs.step.Step.least_distance.Goals as goal

pub returns : goal.returns
returns c =
    let s = c.args.self.now in
    far_by s.insn s.stutters s.low (facts s.after.now) s.before.now c.args.register c.in-Some.range.low c.in-Some.range.high _ c.new_form.result c.new_form.ensures c.in-Some.ensures (omega (arith, c.if-range-lt-PACKET_START.false))
