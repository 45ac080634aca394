use Rattle.std.proofs.Common.{◌≡◌, ◌∙◌, List, Some, inl, inr, map, arith, sym, ap, subst, refl}
use Rattle.std.specs.Prelude.{slice_get, Contains}
use Rattle.std.specs.Global.{Box}
use Rattle.std.proofs.lemmas.Bool.{cases_lt}
use Rattle.bpf_note.specs.Facts.{Facts}
use Rattle.bpf_note.specs.Parts.{Noted, facts}
use Rattle.bpf_verify.proofs.BoxLemmas.{said, box_at, in_box_at}
use Rattle.bpf_verify.proofs.ListLemmas.{stands_there, not_there}
use Rattle.bpf_verify.proofs.note_list.NoteList.holds.Goals as goal

pub returns-then-say_the_same : goal.returns-then-say_the_same
returns-then-say_the_same c =
    let at = in_box_at c.args.self.now c.self.inside.notes.items c.deref-listed-items.result.now c.loop-listed.listed-index c.listed-item.result c.self.view_is c.deref-listed-items.ensures.value c.loop-listed-test.true c.listed-item.is in
    let same : facts c.listed-item.result.value ≡ facts c.args.note.now = ap facts (sym c.deref.ensures) ∙ c.say_the_same.ensures.0 c.if-say_the_same.true in
    (λ t. stands_there facts c.args.self.now (facts c.args.note.now) c.loop-listed.listed-index c.listed-item.result.value at same, λ h. refl)

pub loop-listed-preserved : goal.loop-listed-preserved
loop-listed-preserved c = λ k low b at same.
    elim (cases_lt k c.loop-listed.listed-index) [
      | inl old ↦ c.loop-listed.invariant k old b at same
      | inr high ↦
          let this : c.loop-listed.listed-index ≡ k = omega (arith, low, high) in
          let here : Some c.listed-item.result ≡ Some b = sym (box_at c.deref-listed-items.result.now c.deref-listed-items.result.now c.loop-listed.listed-index c.listed-item.result refl c.loop-listed-test.true c.listed-item.is) ∙ (ap (slice_get c.deref-listed-items.result.now) this ∙ at) in
          let is : c.listed-item.result ≡ b = cc in
          absurd (let t = c.say_the_same.ensures.1 (ap facts c.deref.ensures ∙ (ap (λ (b : Box Noted). facts b.value) is ∙ same)) in cc (t, c.if-say_the_same.false))
    ]

pub returns : goal.returns
returns c = (
  λ t. absurd (cc),
  λ there. absurd (not_there (λ b. facts b.value) c.deref-listed-items.result.now (facts c.args.note.now)
      (λ k lt b at same. c.loop-listed.invariant k (omega (arith, lt, c.loop-listed-test.false)) b at same)
      (subst (λ (ns : List Facts). Contains ns (facts c.args.note.now)) (ap (map facts) (sym c.self.view_is) ∙ (said c.self.inside.notes.items ∙ ap (map (λ b. facts b.value)) (sym c.deref-listed-items.ensures.value))) there)),
)
