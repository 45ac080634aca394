use Rattle.std.proofs.Common.{◌<◌, subst}
use Rattle.bpf_lists.proofs.RowLemmas.{row_inside}
use Rattle.bpf_lists.proofs.keys.check_rows.Goals as goal

pub key_at-key-requires : goal.key_at-key-requires
key_at-key-requires c = row_inside c.args.kind c.args.keys.now c.loop-row.row (subst (λ n. c.loop-row.row < n) c.requires.count c.loop-row-test.true)
