use Rattle.std.proofs.Common.{refl, arith}
use Rattle.bpf_note.specs.Parts.{facts}
use Rattle.bpf_same.proofs.RoomLemmas.{reached_address, passed}
use Rattle.bpf_same.proofs.step.Step.is_reached.Goals as goal

pub returns : goal.returns
returns c = λ t.
    let s = c.args.self.now in
    reached_address s.insn s.stutters s.low (facts s.after.now) s.before.now c.args.form c.in-Some.address.register c.in-Some.address.distance c.in-Some.address.by _ c.in-Some.ensures.address c.if-form-ne0.false (omega arith) refl (passed _ _ t)
