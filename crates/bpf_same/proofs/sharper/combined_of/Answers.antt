use Rattle.std.proofs.Common.{ℕ, refl, sym, ◌∙◌, ap, subst, true}
use Rattle.bpf_insn.specs.Register.{number}
use Rattle.bpf_insn.specs.declared.insn.Insn.TheVariants.{Alu}
use Rattle.bpf_note.specs.declared.val.Val.{Val}
use Rattle.bpf_note.specs.Parts.{facts}
use Rattle.bpf_same.specs.Ranges.{IsRead, IsSummed}
use Rattle.bpf_same.proofs.SharperLemmas.{sums}
use Rattle.bpf_same.proofs.sharper.combined_of.Goals as goal

pub returns-in-Some-combined-clause-lies : goal.returns-in-Some-combined-clause-lies
returns-in-Some-combined-clause-lies c =
    let n = facts c.args.note.now in
    let one = c.in-Some.one in
    let other = c.in-Some-operand_range.other in
    let range = c.in-Some-combined.range in
    let first : IsRead n (n.reg (number c.args.dst)) one.low one.high = subst (λ (v : Val). IsRead n v one.low one.high) (c.register.ensures.value ∙ ap n.reg c.number-register.ensures.number) c.in-Some.ensures in
    subst (λ (k : ℕ). IsSummed (Alu c.args.op true c.args.dst c.args.src) n k range.low range.high) (sym c.number-register.ensures.number)
    (sums (Alu c.args.op true c.args.dst c.args.src) n c.args.op c.args.dst c.args.src one.low one.high other.low other.high range.low range.high refl first c.in-Some-operand_range.ensures c.in-Some-combined.ensures)
