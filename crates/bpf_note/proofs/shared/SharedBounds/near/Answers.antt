use Rattle.std.proofs.Common.{sym, arith}
use Rattle.bpf_note.proofs.ChunkLemmas.{low_says, high_says}
use Rattle.bpf_note.proofs.shared.SharedBounds.near.Goals as goal

pub returns-then-id-lt-HIGH-clause-top : goal.returns-then-id-lt-HIGH-clause-top
returns-then-id-lt-HIGH-clause-top c =
    rw (← c.self.view_is, c.of_id.ensures.same) (sym (low_says c.self.inside.low c.self.inside.high c.args.id c.self.invariant (omega arith)).0)

pub returns-then-id-lt-HIGH-clause-safe : goal.returns-then-id-lt-HIGH-clause-safe
returns-then-id-lt-HIGH-clause-safe c =
    rw (← c.self.view_is, c.of_id.ensures.same) (sym (low_says c.self.inside.low c.self.inside.high c.args.id c.self.invariant (omega arith)).1)

pub returns-else-id-lt-HIGH-clause-top : goal.returns-else-id-lt-HIGH-clause-top
returns-else-id-lt-HIGH-clause-top c =
    rw (← c.self.view_is, c.as_slice.ensures.same) (sym (high_says c.self.inside.low c.self.inside.high c.args.id c.self.invariant (omega arith)).0)

pub returns-else-id-lt-HIGH-clause-safe : goal.returns-else-id-lt-HIGH-clause-safe
returns-else-id-lt-HIGH-clause-safe c =
    rw (← c.self.view_is, c.as_slice.ensures.same) (sym (high_says c.self.inside.low c.self.inside.high c.args.id c.self.invariant (omega arith)).1)
