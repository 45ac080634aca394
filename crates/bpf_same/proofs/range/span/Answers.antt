use Rattle.bpf_note.specs.Parts.{facts}
use Rattle.bpf_same.proofs.RangeLemmas.{in_both_span}
use Rattle.bpf_same.proofs.range.span.Goals as goal

pub returns-in-Some : goal.returns-in-Some
returns-in-Some c =
    let n = facts c.args.note.now in
    in_both_span n c.args.relation.now c.args.register c.noted_span-found.result c.in-Some.range c.in_both.result c.noted_span-found.ensures (c.in-Some.ensures n) c.in_both.ensures
