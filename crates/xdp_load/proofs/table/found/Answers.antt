use Rattle.toml.proofs.Views.{table_get}
use Rattle.xdp_load.proofs.table.found.Goals as goal

pub returns : goal.returns
returns c = rw c.name.ensures at (table_get c.get.result c.name.result.now c.args.table.now.entries c.get.ensures.value)
