use Rattle.std.proofs.Common.{List, ℕ, sym, subst}
use Rattle.xen_page.specs.Table.{IsTable}
use Rattle.xdp_world.specs.Frames.{owners_of}
use Rattle.xdp_world.proofs.FrameLemmas.{is_table}
use Rattle.thread_pair.proofs.back.make_queue.Goals as goal

pub make-requires-clause-table : goal.make-requires-clause-table
make-requires-clause-table c =
    let queues = c.args.shared.now.layout.queues in
    subst (λ (o : List ℕ). IsTable o 1 c.table.result.now) (sym c.owners.ensures) (subst (IsTable (owners_of queues) 1) (sym c.table.ensures) (is_table queues))
