use Rattle.std.proofs.Common.{◌≡◌, ◌<◌, ℕ, length, slice_index}
use Rattle.bpf_note.specs.Keys.{data_of}
use Rattle.bpf_lists.specs.Keys.{row as row_of}
use Rattle.bpf_lists.specs.Order.{lead}
use Rattle.bpf_lists.proofs.sorting.fronts.Given as goal

abbrev pub invariant-loop-row : goal.invariant-loop-row
invariant-loop-row l = record {
  long : length l.fronts.items ≡ l.row;
  each : (r : ℕ) → r < l.row → slice_index l.fronts.items r ≡ lead (data_of l.kind (row_of l.kind l.keys r));
}
