use Rattle.std.proofs.Common.{rules, arith, ℕ, ◌≡◌, sym, ap, ◌∙◌, subst, Bool, true}
use Rattle.bpf_insn.specs.Register.{number}
use Rattle.bpf_insn.specs.declared.insn.Insn.TheVariants.{Jump}
use Rattle.bpf_note.specs.declared.val.Val.{Val}
use Rattle.bpf_note.specs.Parts.{facts}
use Rattle.bpf_flow.specs.Step.{operand}
use Rattle.bpf_same.specs.Ranges.{IsRead, IsLeftOn}
use Rattle.bpf_same.proofs.SignedLemmas.{jump_left, single}
use Rattle.bpf_same.proofs.signed.left_on.Goals as goal

pub returns-in-Some-left-clause-lies : goal.returns-in-Some-left-clause-lies
returns-in-Some-left-clause-lies c =
    let n = facts c.args.note.now in
    let j = c.in-Jump in
    let range = c.in-Some.range in
    let other = c.in-Some-operand_range.other in
    let left = c.in-Some-left.range in
    let w : j.wide ≡ true = search rules in
    let first : IsRead n (n.reg (number j.dst)) range.low range.high = subst (λ (v : Val). IsRead n v range.low range.high) (c.register.ensures.value ∙ ap n.reg c.number-register.ensures.number) c.in-Some.ensures in
    subst (λ (k : ℕ). IsLeftOn c.args.insn c.args.is_taken n k left.low left.high) (sym c.number-register.ensures.number)
    (jump_left c.args.insn c.args.is_taken n j.cond j.dst j.src j.off range.low range.high other.low left.low left.high (j.is ∙ ap (λ (w : Bool). Jump j.cond w j.dst j.src j.off) w) (λ s d. first s d (s.reg (number j.dst)) (d.regs (number j.dst)))
    (λ s d. single (operand s j.src) other.low other.high c.if-other.false (c.in-Some-operand_range.ensures s d)) (omega arith) (omega arith) c.in-Some-left.ensures)
