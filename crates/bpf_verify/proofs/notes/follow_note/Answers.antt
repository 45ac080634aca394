use Rattle.std.proofs.Common.{◌≡◌, ◌∙◌, ℕ, length, Ok, refl, sym, ap, subst, false}
use Rattle.std.specs.Prelude.{slice_index_or}
use Rattle.bpf_insn.specs.declared.insn.Insn.{Insn}
use Rattle.bpf_insn.specs.declared.insn.Insn.TheVariants.{Alu}
use Rattle.bpf_insn.specs.declared.alu_op.AluOp.TheVariants.{Add}
use Rattle.bpf_insn.specs.declared.refusal.Refusal.{Refusal}
use Rattle.bpf_insn.specs.declared.refusal.Cause.TheVariants.{Memory}
use Rattle.bpf_insn.specs.declared.register.Register.TheVariants.{R0}
use Rattle.bpf_insn.specs.declared.operand.Operand.TheVariants.{Register}
use Rattle.bpf_note.specs.Parts.{facts}
use Rattle.bpf_flow.specs.Edges.{Answer}
use Rattle.bpf_flow.specs.Gives.{Fails, edges_along, WantsMemory}
use Rattle.bpf_verify.specs.Tables.{LeadInside}
use Rattle.bpf_verify.proofs.FollowLemmas.{get_is, ruled_at, rule_lent, leads_inside}
use Rattle.bpf_verify.proofs.notes.follow_note.Goals as goal

abbrev first : Insn
first = Alu Add false R0 (Register R0)

pub transfer-requires-clause-ruled : goal.transfer-requires-clause-ruled
transfer-requires-clause-ruled c =
    ruled_at c.args.code.now (length c.args.shapes.now) c.args.pc (slice_index_or c.args.code.now c.args.pc first) c.requires.structured (get_is c.args.code.now c.args.pc first c.requires.there) c.requires.begins

pub spread-requires : goal.spread-requires
spread-requires c =
    let es = edges_along c.in-Ok.ways (facts c.transfer.new.note) in
    let rule = rule_lent c.args.code.now c.args.shapes.now c.args.pc (slice_index_or c.args.code.now c.args.pc first) c.deref_mut.result.now c.args.note.value (Ok es)
    (get_is c.args.code.now c.args.pc first c.requires.there) c.deref_mut.ensures.value c.in-Ok.ensures.ok in
    subst (λ (n : ℕ). LeadInside es n) (sym c.requires.size) (leads_inside c.args.code.now c.args.shapes.now c.args.pc (facts c.args.note.value) es c.requires.laid c.requires.structured rule)

pub returns-in-Ok-spread-clause-hears : goal.returns-in-Ok-spread-clause-hears
returns-in-Ok-spread-clause-hears c =
    let es = edges_along c.in-Ok.ways (facts c.transfer.new.note) in
    let rule = rule_lent c.args.code.now c.args.shapes.now c.args.pc (slice_index_or c.args.code.now c.args.pc first) c.deref_mut.result.now c.args.note.value (Ok es)
    (get_is c.args.code.now c.args.pc first c.requires.there) c.deref_mut.ensures.value c.in-Ok.ensures.ok in
    (es, rule, c.in-Ok-spread.ensures.hears)

pub returns-in-Err-spread-clause-err : goal.returns-in-Err-spread-clause-err
returns-in-Err-spread-clause-err c =
    let es = edges_along c.in-Ok.ways (facts c.transfer.new.note) in
    let rule = rule_lent c.args.code.now c.args.shapes.now c.args.pc (slice_index_or c.args.code.now c.args.pc first) c.deref_mut.result.now c.args.note.value (Ok es)
    (get_is c.args.code.now c.args.pc first c.requires.there) c.deref_mut.ensures.value c.in-Ok.ensures.ok in
    let memory : c.from.result.refusal.cause ≡ Memory = ap (λ (r : Refusal). r.cause) c.from.ensures.0 ∙ c.memory_refusal.ensures.cause in
    rw memory (subst WantsMemory (sym rule) c.in-Err-spread.ensures.err)

pub returns-in-Err-clause-err : goal.returns-in-Err-clause-err
returns-in-Err-clause-err c =
    let rule = rule_lent c.args.code.now c.args.shapes.now c.args.pc (slice_index_or c.args.code.now c.args.pc first) c.deref_mut.result.now c.args.note.value _
    (get_is c.args.code.now c.args.pc first c.requires.there) c.deref_mut.ensures.value refl in
    rw c.at_note.ensures.cause (subst (λ (a : Answer). Fails c.in-Err.cause a) (sym rule) c.in-Err.ensures.err)
