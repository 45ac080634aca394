use Rattle.std.proofs.Common.{ap, subst, List, Option}
use Rattle.std.proofs.lemmas.Result.{err_from_is_err_and}
use Rattle.bpf_lists.specs.declared.list.MapList.{MapList}
use Rattle.xdp_load.specs.ListedFault.{IsListError}
use Rattle.xdp_load.specs.ListedSeen.{lists_seen}
use Rattle.xdp_load.proofs.function.sorted_program.Goals as goal

pub returns-in_err-lists-clause-refused : goal.returns-in_err-lists-clause-refused
returns-in_err-lists-clause-refused c =
    let p = err_from_is_err_and c.from_residual.result c.from_residual.ensures.1 in
    let error = c.in_err-lists.field-0.0 in
    rw (p.1, p.2) (subst (λ (ls : List (Option MapList)). IsListError ls error) (ap lists_seen c.as_slice.ensures.value) c.in_err-lists.ensures.refused)
