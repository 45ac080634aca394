use Rattle.std.proofs.lemmas.Result.{err_from_is_err_and}
use Rattle.bpf_object.specs.Map.{no_name}
use Rattle.bpf_object.proofs.object.Object.map.Goals as goal

pub returns-in_err-name-clause-refused : goal.returns-in_err-name-clause-refused
returns-in_err-name-clause-refused c =
    let p = err_from_is_err_and c.from_residual.result c.from_residual.ensures.1 in
    rw (p.1, p.2) (no_name c.in_err-name.field-0.0 c.in_err-name.ensures.err)
