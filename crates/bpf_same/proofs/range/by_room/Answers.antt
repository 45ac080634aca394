use Rattle.std.proofs.Common.{refl, arith}
use Rattle.bpf_same.proofs.RangeLemmas.{room_span_if}
use Rattle.bpf_same.proofs.range.by_room.Goals as goal

pub returns : goal.returns
returns c =
    room_span_if c.args.relation.now c.args.register c.new_form-here.result c.args.room c.length-length.result _ c.moved.result c.requires.small c.new_form-here.ensures c.requires.room c.if-here-room.false (omega arith) (omega arith) (omega arith)
    c.length-length.ensures (omega (arith, c.if-length-gt-LONGEST.false)) refl c.moved.ensures
