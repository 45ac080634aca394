use Rattle.std.proofs.Common.{arith, ◌-◌, slice_index}
use Rattle.bpf_lists.proofs.RowLemmas.{row_inside}
use Rattle.bpf_lists.proofs.sorting.check_distinct.Goals as goal

pub key_at-first-requires : goal.key_at-first-requires
key_at-first-requires c =
    row_inside c.args.kind c.args.keys.now (slice_index c.args.rows.now (c.loop-place.place - 1)) (c.requires.sorted.below (c.loop-place.place - 1) (omega arith))

pub key_at-second-requires : goal.key_at-second-requires
key_at-second-requires c =
    row_inside c.args.kind c.args.keys.now (slice_index c.args.rows.now c.loop-place.place) (c.requires.sorted.below c.loop-place.place (omega arith))
