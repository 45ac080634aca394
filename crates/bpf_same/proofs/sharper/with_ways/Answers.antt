use Rattle.std.proofs.Common.{rules, ◌≡◌, IfSome, subst, true, false}
use Rattle.bpf_note.specs.Parts.{Noted, facts}
use Rattle.bpf_same.specs.Ranges.{IsLeftOn}
use Rattle.bpf_same.proofs.SignedLemmas.{ways_accounted}
use Rattle.bpf_same.proofs.sharper.with_ways.Goals as goal

pub returns : goal.returns
returns c = λ shapes n sound.
    let yes : c.is_branch.result ≡ true = search rules in
    ways_accounted c.args.insn shapes n (facts c.args.next.note.value) (facts c.with_range.result.note.value) (facts c.args.taken.note.value) (facts c.with_range-2.result.note.value) c.left_on-passed.result c.left_on-met.result
    c.args.pc c.args.next.pc c.with_range.result.pc c.args.taken.pc c.with_range-2.result.pc (c.is_branch.ensures yes) c.with_range.ensures c.with_range-2.ensures
    (subst (λ (m : Noted). IfSome c.left_on-passed.result (λ r. IsLeftOn c.args.insn false (facts m) r.register r.range.low r.range.high)) c.deref.ensures c.left_on-passed.ensures.lies)
    (subst (λ (m : Noted). IfSome c.left_on-met.result (λ r. IsLeftOn c.args.insn true (facts m) r.register r.range.low r.range.high)) c.deref-2.ensures c.left_on-met.ensures.lies) sound
