use Rattle.std.proofs.Common.{◌≡◌, ◌∙◌, length, Ok, Err, sym, ap, true, false}
use Rattle.std.specs.Prelude.{slice_index_or}
use Rattle.bpf_insn.specs.Register.{number}
use Rattle.bpf_insn.specs.declared.insn.Insn.{Insn}
use Rattle.bpf_insn.specs.declared.insn.Insn.TheVariants.{Alu}
use Rattle.bpf_insn.specs.declared.alu_op.AluOp.TheVariants.{Add}
use Rattle.bpf_insn.specs.declared.register.Register.TheVariants.{R0}
use Rattle.bpf_insn.specs.declared.operand.Operand.TheVariants.{Register}
use Rattle.bpf_note.specs.Parts.{facts}
use Rattle.bpf_flow.specs.Gives.{edges_of}
use Rattle.bpf_verify.specs.Lost.{is_address}
use Rattle.bpf_verify.proofs.FollowLemmas.{get_is, ruled_at, rule_is, fails_err}
use Rattle.bpf_verify.proofs.LostLemmas.{fails_memory, is_lost, not_lost}
use Rattle.bpf_verify.proofs.RefusalLemmas.{rule_cause}
use Rattle.bpf_verify.proofs.lost.loses.Goals as goal

abbrev first : Insn
first = Alu Add false R0 (Register R0)

pub after-requires-clause-ruled : goal.after-requires-clause-ruled
after-requires-clause-ruled c =
    ruled_at c.args.code.now (length c.args.shapes.now) c.args.at (slice_index_or c.args.code.now c.args.at first) c.requires.structured (get_is c.args.code.now c.args.at first c.requires.there) c.requires.begins

pub returns-in-Ok-clause-ok : goal.returns-in-Ok-clause-ok
returns-in-Ok-clause-ok c =
    let rule = rule_is c.args.code.now c.args.shapes.now c.args.at (slice_index_or c.args.code.now c.args.at first) (facts c.args.note.now) (Ok (edges_of c.in-Ok.successors))
    (get_is c.args.code.now c.args.at first c.requires.there) c.in-Ok.ensures.gives in
    let address : is_address ((facts c.args.note.now).reg (number c.args.register)) ≡ true =
    ap is_address (ap (facts c.args.note.now).reg (sym c.number.ensures.number) ∙ sym c.register.ensures.value) ∙ sym c.if-not-is_address.ensures in
    is_lost c.args.code.now c.args.shapes.now c.args.at (number c.args.register) (facts c.args.note.now) (edges_of c.in-Ok.successors) c.makes_number.result address rule c.makes_number.ensures

pub returns-then-is_rule_cause-clause-ok : goal.returns-then-is_rule_cause-clause-ok
returns-then-is_rule_cause-clause-ok c =
    let refused = fails_err c.in-Err.cause _ (c.is_rule_cause.ensures.0 c.if-is_rule_cause.true) c.in-Err.ensures.gives in
    let rule = rule_is c.args.code.now c.args.shapes.now c.args.at (slice_index_or c.args.code.now c.args.at first) (facts c.args.note.now) (Err c.in-Err.cause) (get_is c.args.code.now c.args.at first c.requires.there) refused in
    (λ t. absurd (cc), λ l. absurd (not_lost c.args.code.now c.args.shapes.now c.args.at (number c.args.register) (facts c.args.note.now) c.in-Err.cause rule l))

pub returns-else-is_rule_cause-clause-err : goal.returns-else-is_rule_cause-clause-err
returns-else-is_rule_cause-clause-err c =
    fails_memory c.in-Err.cause _ (λ r. absurd (let both = sym (c.is_rule_cause.ensures.1 r) ∙ c.if-is_rule_cause.false in cc))
    (λ e. rule_cause c.args.code.now c.args.shapes.now c.args.at (facts c.args.note.now) c.in-Err.cause c.requires.structured c.requires.begins
    (rule_is c.args.code.now c.args.shapes.now c.args.at (slice_index_or c.args.code.now c.args.at first) (facts c.args.note.now) (Err c.in-Err.cause) (get_is c.args.code.now c.args.at first c.requires.there) e))
    c.in-Err.ensures.gives
