use Rattle.std.proofs.Common.{rules}
use Rattle.xdp_load.proofs.RowLemmas.{items_list-items_of}
use Rattle.xdp_load.proofs.rows.rows_in.Goals as goal

pub returns-in-Some : goal.returns-in-Some
returns-in-Some c = rw (← c.in-Some.ensures, items_list-items_of) (search rules)
