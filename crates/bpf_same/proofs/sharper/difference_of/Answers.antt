use Rattle.std.proofs.Common.{rules, arith, ℕ, ◌-◌, ◌+◌, ◌%◌, ◌^◌, ◌≡◌, ◌<◌, ◌≤◌, refl, sym, ap, ◌∙◌, subst, Bool, true}
use Rattle.std.proofs.lemmas.Bool.Decides.{nat_tests}
use Rattle.bpf_insn.specs.Register.{number}
use Rattle.bpf_insn.specs.declared.alu_op.AluOp.{AluOp}
use Rattle.bpf_insn.specs.declared.insn.Insn.TheVariants.{Alu}
use Rattle.bpf_note.specs.declared.val.Val.{Val}
use Rattle.bpf_note.specs.Parts.{facts}
use Rattle.bpf_same.specs.declared.range.Range.{Range}
use Rattle.bpf_same.specs.Ranges.{IsRead, IsParted}
use Rattle.bpf_same.proofs.DifferenceLemmas.{difference_parted}
use Rattle.bpf_same.proofs.sharper.difference_of.Goals as goal

pub returns-in-Sub-clause-lies : goal.returns-in-Sub-clause-lies
returns-in-Sub-clause-lies c =
    let n = facts c.args.note.now in
    let j = c.in-Alu in
    let one = c.in-Some.one in
    let other = c.in-Some-operand_range.other in
    let w : j.wide ≡ true = search rules in
    let above : Range = record { low = 0; high = one.high - other.low } in
    let below : Range = record { low = (one.low + (2 ^ 64 - other.high)) % 2 ^ 64; high = 2 ^ 64 - 1 } in
    let first : IsRead n (n.reg (number j.dst)) one.low one.high = subst (λ (v : Val). IsRead n v one.low one.high) (c.register.ensures.value ∙ ap n.reg c.number-register.ensures.number) c.in-Some.ensures in
    let fits : one.high < 2 ^ 63 = grind (arith, nat_tests, c.if-one-gt-MOST.false) in
    let small : other.high < 2 ^ 63 = grind (arith, nat_tests, c.if-other-gt-MOST.false) in
    let wraps : one.low < other.high = grind (arith, nat_tests, c.if-one-other.false) in
    let not_all : other.low ≤ one.high = grind (arith, nat_tests, c.if-one-other-2.false) in
    subst (λ (k : ℕ). IsParted c.args.insn n k above below) (sym c.number-register.ensures.number)
    (difference_parted c.args.insn n j.dst j.src one.low one.high other.low other.high above below (j.is ∙ (ap (λ (w : Bool). Alu j.op w j.dst j.src) w ∙ ap (λ (o : AluOp). Alu o true j.dst j.src) c.in-Sub.is)) first c.in-Some-operand_range.ensures fits small wraps not_all refl refl refl refl)
