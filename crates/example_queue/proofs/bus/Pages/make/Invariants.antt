-- As many words as were counted are there, and there is room for all.
use Rattle.std.proofs.Common.{◌≡◌, vec_len, vec_capacity}
use Rattle.example_queue.proofs.bus.Pages.make.Given as goal

abbrev pub invariant-loop-word : goal.invariant-loop-word
invariant-loop-word l = (vec_len l.words ≡ l._word) × (vec_capacity l.words ≡ l.total)
