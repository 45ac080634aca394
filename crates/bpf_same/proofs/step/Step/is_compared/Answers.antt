use Rattle.std.proofs.Common.{refl, arith}
use Rattle.bpf_note.specs.Parts.{facts}
use Rattle.bpf_same.proofs.RoomLemmas.{compared_address, passed}
use Rattle.bpf_same.proofs.step.Step.is_compared.Goals as goal

pub returns : goal.returns
returns c = λ t.
    let s = c.args.self.now in
    compared_address s.insn s.stutters s.low (facts s.after.now) s.before.now c.in-Some.address.register c.in-Some.address.distance c.in-Some.address.by _ _ c.args.form c.new_form-there.result c.in-Some.ensures.address c.new_form-there.ensures c.if-there-form.false (omega arith) (omega arith) refl refl (passed _ _ t)
