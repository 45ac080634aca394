use Rattle.std.proofs.Common.{◌≡◌, ◌<◌, ℕ, Some}
use Rattle.bpf_note.specs.Parts.{facts}
use Rattle.bpf_same.specs.declared.content.Content.{Content}
use Rattle.bpf_same.specs.Contents.{content_of, PreservesContent}
use Rattle.bpf_same.proofs.step.Step.preserves_contents.Given as goal

abbrev pub invariant-loop-index : goal.invariant-loop-index
invariant-loop-index l = (k : ℕ) → k < l.index → (content : Content) → content_of l.next k ≡ Some content → PreservesContent l.self.insn l.self.stutters l.self.low (facts l.self.after.now) l.self.before.now content.address content.number
