use Rattle.std.proofs.Common.{◌≡◌, ap, subst, sym, ◌∙◌}
use Rattle.std.proofs.lemmas.Result.{err_from_is_err_and}
use Rattle.std.specs.Prelude.{Ok, Err}
use Rattle.bpf_insn.specs.declared.refusal.Cause.{Cause}
use Rattle.bpf_note.specs.Parts.{facts}
use Rattle.bpf_flow.specs.Gives.{edges_along}
use Rattle.bpf_flow.specs.Rule.{after_of}
use Rattle.bpf_flow.proofs.GivesLemmas.{edges_sound, refused_by, never_memory}
use Rattle.bpf_flow.proofs.rule.transfer.Goals as goal

pub returns-clause-sound : goal.returns-clause-sound
returns-clause-sound c =
    let gives : after_of c.args.insn.now c.args.pc (facts c.args.note.now) c.args.shapes.now ≡ Ok (edges_along c.in_ok-apply.field-0 (facts c.apply.new.note)) = c.in_ok-effect.ensures.gives.0 ∙ ap Ok (sym c.in_ok-apply.ensures.ok) in
    edges_sound (edges_along c.in_ok-apply.field-0 (facts c.apply.new.note)) c.args.insn.now c.args.pc (facts c.args.note.now) c.args.shapes.now c.has_words.ensures c.requires.small c.requires.ruled gives

pub returns-in_err-effect-clause-err : goal.returns-in_err-effect-clause-err
returns-in_err-effect-clause-err c =
    let p = err_from_is_err_and c.from_residual.result c.from_residual.ensures.1 in
    rw (p.1, p.2) (refused_by c.args.insn.now c.args.pc (facts c.args.note.now) c.args.shapes.now c.in_err-effect.field-0.0 c.requires.ruled c.in_err-effect.ensures.gives)

pub returns-in_err-effect-clause-spare : goal.returns-in_err-effect-clause-spare
returns-in_err-effect-clause-spare c =
    let p = err_from_is_err_and c.from_residual.result c.from_residual.ensures.1 in
    rw (p.1, p.2) (λ m. absurd (never_memory c.args.insn.now c.args.pc (facts c.args.note.now) c.args.shapes.now c.requires.ruled (subst (λ (k : Cause). after_of c.args.insn.now c.args.pc (facts c.args.note.now) c.args.shapes.now ≡ Err k) m c.in_err-effect.ensures.gives)))
