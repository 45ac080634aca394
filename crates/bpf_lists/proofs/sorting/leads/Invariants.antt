use Rattle.std.proofs.Common.{◌≡◌, ◌<◌, ℕ, length, slice_index}
use Rattle.bpf_note.specs.Keys.{data_of}
use Rattle.bpf_lists.specs.Order.{at, lead}
use Rattle.bpf_lists.proofs.sorting.leads.Given as goal

abbrev pub invariant-loop-place : goal.invariant-loop-place
invariant-loop-place l = record {
  long : length l.leads.items ≡ l.place;
  each : (p : ℕ) → p < l.place → slice_index l.leads.items p ≡ lead (data_of l.order.kind (at l.order p));
}
