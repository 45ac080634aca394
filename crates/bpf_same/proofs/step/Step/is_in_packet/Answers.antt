use Rattle.std.proofs.Common.{refl, arith}
use Rattle.bpf_note.specs.Parts.{facts}
use Rattle.bpf_same.proofs.RoomLemmas.{number_address, passed}
use Rattle.bpf_same.proofs.step.Step.is_in_packet.Goals as goal

pub returns : goal.returns
returns c = λ t.
    let s = c.args.self.now in
    let near = passed _ _ t in
    number_address s.insn s.stutters s.low (facts s.after.now) s.before.now c.args.form c.least_length.result _ c.if-form-ne0.false (omega arith) c.least_length.ensures refl (omega (arith, near, c.from.ensures))
