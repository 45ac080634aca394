use Rattle.std.proofs.Common.{◌≡◌}
use Rattle.std.proofs.lemmas.Result.{err_from_is_err_and}
use Rattle.bpf_object.specs.Map.{no_section, no_variable, no_struct}
use Rattle.bpf_object.proofs.object.Object.map_struct.Goals as goal

pub returns-in_err-section-clause-err : goal.returns-in_err-section-clause-err
returns-in_err-section-clause-err c =
    let p = err_from_is_err_and c.from_residual.result c.from_residual.ensures.1 in
    rw (p.1, p.2) (no_section c.in_err-section.field-0.0 c.args.name.now c.requires c.in_err-section.ensures.err)

pub returns-in_err-declared-clause-err : goal.returns-in_err-declared-clause-err
returns-in_err-declared-clause-err c =
    let p = err_from_is_err_and c.from_residual-in_err-declared.result c.from_residual-in_err-declared.ensures.1 in
    rw (p.1, p.2)
    (no_variable c.in_err-declared.field-0.0 c.args.name.now c.in_ok-section.section c.requires c.in_ok-section.ensures.ok
    c.in_err-declared.ensures.err)

pub returns-in_default-clause-err : goal.returns-in_default-clause-err
returns-in_default-clause-err c =
    no_struct c.args.name.now c.in_ok-section.section c.in_ok-declared.declared c.requires c.in_ok-section.ensures.ok
    c.in_ok-declared.ensures.ok
    (λ s e k. let v = c.plain.ensures.value in let i = c.in_default.is in cc (v, i, e))

pub returns-then-row-ne-STRUCT-clause-err : goal.returns-then-row-ne-STRUCT-clause-err
returns-then-row-ne-STRUCT-clause-err c =
    no_struct c.args.name.now c.in_ok-section.section c.in_ok-declared.declared c.requires c.in_ok-section.ensures.ok
    c.in_ok-declared.ensures.ok
    (λ s e k.
    let v = c.plain.ensures.value in
    let i = c.in-Some.is in
    let is : c.in-Some.row.kind ≡ 4 = cc (v, i, e, k) in
    c.if-row-ne-STRUCT.true is)
