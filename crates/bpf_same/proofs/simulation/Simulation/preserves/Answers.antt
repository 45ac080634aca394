use Rattle.std.proofs.Common.{sym, ◌∙◌, subst}
use Rattle.bpf_note.specs.Parts.{Noted, facts}
use Rattle.bpf_same.specs.Contents.{Preserves, PreservesContents}
use Rattle.bpf_same.proofs.simulation.Simulation.preserves.Goals as goal

pub returns-then-preserves : goal.returns-then-preserves
returns-then-preserves c = λ t. record {
  next = c.in-Some.next;
  here = sym c.relation_at.ensures ∙ c.in-Some.is;
  preserves = subst (λ (n : Noted). Preserves c.args.self.now.alone c.args.before.now.insn c.args.stutters c.args.self.now.low (facts n) c.args.before.now.relation.now c.in-Some.next) c.deref.ensures (c.preserves.ensures c.if-preserves.true);
  contents = subst (λ (n : Noted). PreservesContents c.args.before.now.insn c.args.stutters c.args.self.now.low (facts n) c.args.before.now.relation.now c.in-Some.next) c.deref.ensures (c.preserves_contents.ensures t);
}
