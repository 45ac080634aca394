use Rattle.std.proofs.Common.{List, subst}
use Rattle.bpf_note.specs.declared.bound.Bound.{Bound}
use Rattle.bpf_note.specs.Bounds.{AreJoined}
use Rattle.bpf_note.proofs.PartLemmas.{joined_with_itself}
use Rattle.bpf_note.proofs.chunk.Chunk.covers.Goals as goal

pub returns-then-same_as : goal.returns-then-same_as
returns-then-same_as c = (
  λ t. subst (λ (ys : List Bound). AreJoined c.args.self.now ys c.args.self.now) (c.same_as.ensures.0 c.if-same_as.true) (joined_with_itself c.args.self.now c.as_slice-own.ensures.normal),
  λ j. c.if-same_as.true,
)
