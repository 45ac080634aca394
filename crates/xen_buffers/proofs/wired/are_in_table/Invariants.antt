use Rattle.std.proofs.Common.{◌≡◌, ℕ, ◌<◌, get_or, None}
use Rattle.xen_page.specs.Table.{entry_place}
use Rattle.xen_buffers.specs.declared.wiring.GrantedPage.{GrantedPage}
use Rattle.xen_buffers.proofs.wired.are_in_table.Given as goal

abbrev pub invariant-loop-buffer : goal.invariant-loop-buffer
invariant-loop-buffer l = (k : ℕ) (d : GrantedPage) → k < l.buffer-index → entry_place l.table (get_or l.buffers k d).gref ≡ None → ⊥
