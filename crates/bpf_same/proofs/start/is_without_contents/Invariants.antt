use Rattle.std.proofs.Common.{◌≡◌, ◌<◌, ℕ, None}
use Rattle.bpf_same.specs.Contents.{content_of}
use Rattle.bpf_same.proofs.start.is_without_contents.Given as goal

abbrev pub invariant-loop-index : goal.invariant-loop-index
invariant-loop-index l = (k : ℕ) → k < l.index → content_of l.relation k ≡ None
