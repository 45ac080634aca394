use Rattle.std.proofs.Common.{◌≡◌, ap, sym, ◌∙◌}
use Rattle.std.proofs.lemmas.Result.{err_from_is_err_and}
use Rattle.std.specs.Prelude.{Ok}
use Rattle.bpf_note.specs.Parts.{facts}
use Rattle.bpf_flow.specs.Gives.{edges_of}
use Rattle.bpf_flow.specs.Rule.{after_of}
use Rattle.bpf_flow.proofs.GivesLemmas.{edges_sound, refused_by}
use Rattle.bpf_flow.proofs.rule.after.Goals as goal

pub returns-clause-sound : goal.returns-clause-sound
returns-clause-sound c =
    let gives : after_of c.args.insn.now c.args.pc (facts c.args.note.now) c.args.shapes.now ≡ Ok (edges_of c.in_ok-applied.field-0) = c.in_ok-effect.ensures.gives.0 ∙ ap Ok (sym c.in_ok-applied.ensures.ok) in
    edges_sound (edges_of c.in_ok-applied.field-0) c.args.insn.now c.args.pc (facts c.args.note.now) c.args.shapes.now c.has_words.ensures c.requires.small c.requires.ruled gives

pub returns-in_err-effect-clause-gives : goal.returns-in_err-effect-clause-gives
returns-in_err-effect-clause-gives c =
    let p = err_from_is_err_and c.from_residual.result c.from_residual.ensures.1 in
    rw (p.1, p.2) (refused_by c.args.insn.now c.args.pc (facts c.args.note.now) c.args.shapes.now c.in_err-effect.field-0.0 c.requires.ruled c.in_err-effect.ensures.gives)
