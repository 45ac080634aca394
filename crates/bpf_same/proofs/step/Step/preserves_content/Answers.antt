use Rattle.std.proofs.Common.{sym, ◌∙◌, subst}
use Rattle.bpf_note.specs.Parts.{facts}
use Rattle.bpf_same.specs.declared.content.Content.{Content}
use Rattle.bpf_same.specs.Contents.{PreservesContent}
use Rattle.bpf_same.proofs.ContentLemmas.{one_content}
use Rattle.bpf_same.proofs.step.Step.preserves_content.Goals as goal

pub returns-in-Some : goal.returns-in-Some
returns-in-Some c = λ t content e.
    let s = c.args.self.now in
    subst (λ (content : Content). PreservesContent s.insn s.stutters s.low (facts s.after.now) s.before.now content.address content.number) (one_content (sym c.in-Some.is ∙ (c.content.ensures ∙ e))) (c.has_content.ensures t)
