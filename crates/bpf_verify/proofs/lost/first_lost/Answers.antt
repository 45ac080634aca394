use Rattle.std.proofs.Common.{◌≡◌, ◌≤◌, ◌∙◌, List, Some, inl, inr, length, map, sym, ap, subst, arith}
use Rattle.std.specs.Prelude.{slice_get}
use Rattle.std.specs.Global.{Box}
use Rattle.std.proofs.lemmas.Bool.{cases_lt}
use Rattle.std.proofs.lemmas.List.{length-map}
use Rattle.bpf_insn.specs.Register.{number}
use Rattle.bpf_note.specs.Facts.{Facts}
use Rattle.bpf_note.specs.Parts.{Noted, facts}
use Rattle.bpf_verify.specs.Lost.{Loses}
use Rattle.bpf_verify.proofs.FollowLemmas.{get_is, get_map}
use Rattle.bpf_verify.proofs.lost.first_lost.Goals as goal

pub loop-i-preserved : goal.loop-i-preserved
loop-i-preserved c = λ j n low at lost.
    elim (cases_lt j c.loop-i.i) [
      | inl old ↦ c.loop-i.invariant j n old at lost
      | inr high ↦
          let same : c.loop-i.i ≡ j = omega arith in
          let item : slice_get c.args.notes.items c.loop-i.i ≡ Some c.note-item.result =
          subst (λ (ns : List (Box Noted)). slice_get ns c.loop-i.i ≡ Some c.note-item.result) c.deref-note-items.ensures.value (get_is c.deref-note-items.result.now c.loop-i.i c.note-item.result c.loop-i-test.true ∙ ap Some (sym c.note-item.is)) in
          let here : Some (facts c.note-item.result.value) ≡ Some n = sym (get_map (λ b. facts b.value) c.args.notes.items c.loop-i.i c.note-item.result item) ∙ (ap (slice_get (map (λ b. facts b.value) c.args.notes.items)) same ∙ at) in
          let this : n ≡ facts c.note-item.result.value = cc in
          let is : n ≡ facts c.deref.result.now = this ∙ ap facts (sym c.deref.ensures) in
          absurd (let both = sym (c.in_ok-loses.ensures.ok.1 (subst (λ (m : Facts). Loses c.args.code.now c.args.shapes.now c.args.at (number c.args.register) m) is lost)) ∙ c.if-branch.false in cc)
    ]

pub returns-clause-none : goal.returns-clause-none
returns-clause-none c = λ n at lost.
    let low : length c.args.notes.items ≤ c.loop-i.i = subst (λ (ns : List (Box Noted)). length ns ≤ c.loop-i.i) c.deref-note-items.ensures.value c.loop-i-test.false in
    let inside = at.1 in
    let len : length (map (λ b. facts b.value) c.args.notes.items) ≡ length c.args.notes.items = length-map c.args.notes.items (λ b. facts b.value) in
    c.loop-i.invariant at.0 n (omega (arith, low, inside, len)) (get_is (map (λ b. facts b.value) c.args.notes.items) at.0 n at.1 ∙ ap Some at.2) lost
