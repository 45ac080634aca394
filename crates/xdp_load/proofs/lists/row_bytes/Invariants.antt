use Rattle.std.proofs.Common.{◌≡◌, drop}
use Rattle.std.specs.Prelude.{◌++◌}
use Rattle.xdp_load.specs.Gives.{seen_by}
use Rattle.xdp_load.specs.Listed.{row_bytes}
use Rattle.xdp_load.specs.ListedSeen.{row_texts}
use Rattle.xdp_load.proofs.lists.row_bytes.Given as goal

abbrev pub invariant-loop-row : goal.invariant-loop-row
invariant-loop-row l = seen_by (λ rest. l.keys.items ++ rest) (row_bytes l.number (row_texts (drop l.row-index l.rows))) ≡ row_bytes l.number (row_texts l.rows)
