use Rattle.std.proofs.Common.{◌∙◌, sym, subst}
use Rattle.bpf_note.specs.Parts.{facts}
use Rattle.bpf_same.specs.declared.room.Room.{Room}
use Rattle.bpf_same.specs.declared.linear_form.LinearForm.{LinearForm}
use Rattle.bpf_same.specs.Stepped.{PreservesAddress, PreservesRoom}
use Rattle.bpf_same.proofs.RoomLemmas.{preserves_room, some_same}
use Rattle.bpf_same.proofs.step.Step.preserves_room.Goals as goal

pub returns-then-preserves_address : goal.returns-then-preserves_address
returns-then-preserves_address c = λ t room e.
    let s = c.args.self.now in
    subst (λ (room : Room). PreservesRoom s.insn s.stutters s.low (facts s.after.now) s.before.now room) (some_same (sym c.in-Some.is ∙ (c.room.ensures ∙ e)))
    (preserves_room s.insn s.stutters s.low (facts s.after.now) s.before.now c.in-Some.room
    (subst (λ (f : LinearForm). PreservesAddress s.insn s.stutters s.low (facts s.after.now) s.before.now f) c.first_form.ensures (c.preserves_address.ensures c.if-preserves_address.true))
    (subst (λ (f : LinearForm). PreservesAddress s.insn s.stutters s.low (facts s.after.now) s.before.now f) c.last_form.ensures (c.preserves_address-then-preserves_address.ensures t)))
