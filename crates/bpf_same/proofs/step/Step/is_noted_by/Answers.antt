use Rattle.std.proofs.Common.{sym, ap, ◌∙◌, ◌+◌, ◌-◌, ◌%◌, ◌^◌, ◌≤◌, ℕ, refl, arith}
use Rattle.bpf_note.specs.Parts.{facts}
use Rattle.bpf_same.proofs.RoomLemmas.{noted_address, passed}
use Rattle.bpf_same.proofs.SilentLemmas.{false_true}
use Rattle.bpf_same.proofs.step.Step.is_noted_by.Goals as goal

pub returns : goal.returns
returns c = λ t.
    let s = c.args.self.now in
    let by = (c.args.form.constant + (2 ^ 64 - c.in-Some-new_after.noted.constant)) % 2 ^ 64 in
    let near : (by + c.from-offset.result) % 2 ^ 64 ≤ c.from-bound.result = passed _ _ t in
    noted_address s.insn s.stutters s.low (facts s.after.now) s.before.now c.args.form c.in-Some-new_after.noted c.args.register c.in-Pkt.id c.in-Pkt.off c.in-Some.safe by ((by + c.from-offset.result) % 2 ^ 64) c.requires (sym c.register.ensures.value ∙ c.in-Pkt.is) (omega arith)
    (sym c.safe.ensures ∙ c.in-Some.is) (omega (arith, c.if-safe-gt-MOST_BYTES.false)) c.in-Some-new_after.ensures c.if-noted-form.false (omega arith) (omega arith) refl (ap (λ (o : ℕ). (by + o) % 2 ^ 64) c.from-offset.ensures) (omega (arith, near, c.from-bound.ensures))

pub returns-in_default : goal.returns-in_default
returns-in_default c = λ t. false_true t

pub returns-in_default-safe : goal.returns-in_default-safe
returns-in_default-safe c = λ t. false_true t

pub returns-in_default-new_after : goal.returns-in_default-new_after
returns-in_default-new_after c = λ t. false_true t

pub returns-then-noted-form : goal.returns-then-noted-form
returns-then-noted-form c = λ t. false_true t

pub returns-then-safe-gt-MOST_BYTES : goal.returns-then-safe-gt-MOST_BYTES
returns-then-safe-gt-MOST_BYTES c = λ t. false_true t
