use Rattle.std.proofs.Common.{rules, ℕ, ◌≡◌, ap, ◌∙◌, subst, Bool, true}
use Rattle.bpf_insn.specs.Register.{number}
use Rattle.bpf_insn.specs.declared.insn.Insn.TheVariants.{Jump}
use Rattle.bpf_insn.specs.declared.operand.Operand.{Operand}
use Rattle.bpf_note.specs.Parts.{facts}
use Rattle.bpf_same.specs.Decided.{IsAtLeast}
use Rattle.bpf_same.proofs.DifferenceLemmas.{greater_or_equal_decides, less_decides}
use Rattle.bpf_same.proofs.decide.decided_by_difference.Goals as goal

pub returns-in-GreaterOrEqual : goal.returns-in-GreaterOrEqual
returns-in-GreaterOrEqual c =
    let n = facts c.args.note.now in
    let e = c.args.relation.now in
    let j = c.in-Jump in
    let other = c.in-Register.other in
    let w : j.wide ≡ true = search rules in
    let yes : c.holds_at_least.result ≡ true = search rules in
    let at : IsAtLeast n e (number j.dst) (number other) = subst (λ (k : ℕ). IsAtLeast n e k (number other)) c.number.ensures.number (subst (λ (k : ℕ). IsAtLeast n e c.number.result k) c.number-2.ensures.number (c.holds_at_least.ensures yes)) in
    greater_or_equal_decides n e c.args.insn j.cond j.dst other j.off (j.is ∙ (ap (λ (w : Bool). Jump j.cond w j.dst j.src j.off) w ∙ ap (λ (s : Operand). Jump j.cond true j.dst s j.off) c.in-Register.is)) c.in-GreaterOrEqual.is at

pub returns-in-Less : goal.returns-in-Less
returns-in-Less c =
    let n = facts c.args.note.now in
    let e = c.args.relation.now in
    let j = c.in-Jump in
    let other = c.in-Register.other in
    let w : j.wide ≡ true = search rules in
    let yes : c.holds_at_least.result ≡ true = search rules in
    let at : IsAtLeast n e (number j.dst) (number other) = subst (λ (k : ℕ). IsAtLeast n e k (number other)) c.number.ensures.number (subst (λ (k : ℕ). IsAtLeast n e c.number.result k) c.number-2.ensures.number (c.holds_at_least.ensures yes)) in
    less_decides n e c.args.insn j.cond j.dst other j.off (j.is ∙ (ap (λ (w : Bool). Jump j.cond w j.dst j.src j.off) w ∙ ap (λ (s : Operand). Jump j.cond true j.dst s j.off) c.in-Register.is)) c.in-Less.is at
