use Rattle.std.proofs.Common.{Option, sym, subst}
use Rattle.std.specs.Prelude.{IfSome}
use Rattle.bpf_note.specs.Parts.{facts}
use Rattle.bpf_same.specs.declared.range.Range.{Range}
use Rattle.bpf_same.specs.Ranges.{IsSpan}
use Rattle.bpf_same.proofs.RangeLemmas.{in_both_span}
use Rattle.bpf_same.proofs.range.noted_span.Goals as goal
use Rattle.bpf_same.proofs.range.noted_span.Goals.{in-Some-in_room, in_default-in_room}

pub loop-number-preserved : goal.loop-number-preserved
loop-number-preserved c =
    let n = facts c.args.note.now in
    let e = c.args.relation.now in
    elim c.match-in_room.branch [
      | in-Some-in_room w ↦
          subst (λ (o : Option Range). IfSome o (λ r. IsSpan n e c.args.register r.low r.high)) (sym w.found-is)
          (in_both_span n e c.args.register c.loop-number.found w.in-Some-in_room.range w.in_both-in-Some-in_room.result c.loop-number.invariant (w.in-Some-in_room.ensures n) w.in_both-in-Some-in_room.ensures)
      | in_default-in_room w ↦ subst (λ (o : Option Range). IfSome o (λ r. IsSpan n e c.args.register r.low r.high)) (sym w.found-is) c.loop-number.invariant
    ]
