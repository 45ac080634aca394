use Rattle.std.proofs.Common.{arith}
use Rattle.bpf_note.specs.Parts.{facts}
use Rattle.bpf_same.proofs.RoomLemmas.{passed}
use Rattle.bpf_same.proofs.BoundLemmas.{preserves_bound}
use Rattle.bpf_same.proofs.step.Step.is_bounded.Goals as goal

pub returns-then-bound-range : goal.returns-then-bound-range
returns-then-bound-range c = λ t.
    let s = c.args.self.now in
    preserves_bound s.insn s.stutters s.low (facts s.after.now) s.before.now c.args.register c.args.bound c.in-Some.here c.in-Some-range_before.range c.in-Some.ensures c.in-Some-range_before.ensures (omega (arith, c.if-bound-range.true)) (passed _ _ t)
