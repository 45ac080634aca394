use Rattle.std.proofs.Common.{◌≡◌, None}
use Rattle.xdp_load.specs.Keys.{part_name}
use Rattle.xdp_load.proofs.spot.row_text.Goals as goal

pub returns-in-None : goal.returns-in-None
returns-in-None c =
    let none : None ≡ part_name c.args.key = rw c.in-None.is at c.part_name.ensures in
    rw (← none) (rw (c.list_name-list.ensures, c.allowed-allowed.ensures) at c.whole_text.ensures)
