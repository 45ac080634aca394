use Rattle.std.proofs.Common.{◌∙◌, subst, Some}
use Rattle.bpf_note.specs.Parts.{Noted, facts}
use Rattle.bpf_same.specs.Ranges.{IsNarrowed}
use Rattle.bpf_same.proofs.SharperLemmas.{accounted}
use Rattle.bpf_same.proofs.DifferenceLemmas.{bounded, parted_accounted}
use Rattle.bpf_same.proofs.sharper.with_result.Goals as goal

pub returns-in_default : goal.returns-in_default
returns-in_default c = λ shapes pc sound s d at sh.
    accounted c.args.insn (facts c.args.note.now) (facts c.args.there.note.value) (facts c.with_range.result.note.value) c.summed.result c.args.there.pc c.with_range.result.pc s d c.with_range.ensures c.summed.ensures.lies (sound s d at sh)

pub returns : goal.returns
returns c = λ shapes pc sound.
    let k = c.in-Some.difference in
    let there = c.args.there in
    parted_accounted c.args.insn shapes (facts c.args.note.now) (facts there.note.value) (facts c.with_range-2.result.note.value) (facts c.with_range-3.result.note.value) k.register k.above k.below pc there.pc c.with_range-2.result.pc c.with_range-3.result.pc
    c.in-Some.ensures.lies c.with_range-2.ensures
    (subst (λ (m : Noted). IsNarrowed there.pc (facts m) (Some (bounded k.register k.below)) c.with_range-3.result.pc (facts c.with_range-3.result.note.value)) (c.in_ok-boxed.ensures ∙ c.deref.ensures) c.with_range-3.ensures) sound
