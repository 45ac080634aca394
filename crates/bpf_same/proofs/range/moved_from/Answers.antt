use Rattle.std.proofs.Common.{refl, arith}
use Rattle.bpf_note.specs.Parts.{facts}
use Rattle.bpf_same.proofs.RangeLemmas.{moved_span_if}
use Rattle.bpf_same.proofs.range.moved_from.Goals as goal

pub returns-in-Some : goal.returns-in-Some
returns-in-Some c =
    moved_span_if (facts c.args.note.now) c.args.relation.now c.args.register c.args.other c.in-Some.range.low c.in-Some.range.high _ c.new_form-here.result c.new_form-there.result c.register.result c.moved.result c.requires.small c.requires.other
    c.new_form-here.ensures c.new_form-there.ensures c.if-here-there.false (omega arith) (omega arith) refl c.register.ensures.value c.in-Some.ensures c.moved.ensures
