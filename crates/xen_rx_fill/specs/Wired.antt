-- Stated: claims rest on this file.
-- A vif whose rings and table are the frontend's.
use Rattle.std.specs.Prelude.{◌≡◌, Some, slice_get}
use Rattle.xen_page.specs.Table.{IsTable}
use Rattle.xen_rx_fill.specs.declared.vif.Vif.{Vif}

pub record IsWired (w : Vif) : Type 0 where
  pub tx : slice_get w.owners.now w.tx ≡ Some w.granter
  pub rx : slice_get w.owners.now w.rx ≡ Some w.granter
  pub table : IsTable w.owners.now w.granter w.table.now
