-- Bounds: what lies in a range before a step, and what a step leaves of that.
use Rattle.std.proofs.Common.{ℕ, ◌+◌, ◌-◌, ◌%◌, ◌^◌, ◌≡◌, ◌<◌, ◌≤◌, sym, ◌∙◌, subst, arith, Option, None, Some, Bool}
use Rattle.std.specs.Prelude.{IfSome}
use Rattle.bpf_insn.specs.declared.insn.Insn.{Insn}
use Rattle.bpf_note.specs.declared.val.Val.{Val}
use Rattle.bpf_note.specs.State.{packet_start}
use Rattle.bpf_note.specs.Facts.{Facts}
use Rattle.bpf_same.specs.declared.linear_form.LinearForm.{LinearForm}
use Rattle.bpf_same.specs.declared.relation.Relation.{Relation}
use Rattle.bpf_same.specs.declared.range.Range.{Range}
use Rattle.bpf_same.specs.LinearForms.{held, plus, total, bound_of, IsBounded, Hold}
use Rattle.bpf_same.specs.Ranges.{Lies, IsRead, IsMoved, IsAdded, IsSpan}
use Rattle.bpf_same.specs.Stepped.{Stepped, IsNewAfter, IsDistance, LiesBefore, PreservesBound}
use Rattle.bpf_same.proofs.LinearFormLemmas.{apart}
use Rattle.bpf_same.proofs.StepLemmas.{held_register}

-- a form that differs by a constant from one that lies in a range
pub range_moved : (form there : LinearForm) (from to by : ℕ) (o : Option Range) → form.terms ≡ there.terms → form.constant < 2 ^ 64 → there.constant < 2 ^ 64 → by ≡ (form.constant + (2 ^ 64 - there.constant)) % 2 ^ 64 → IfSome o (λ r. IsMoved from to by r.low r.high) →
    IfSome o (λ r. (f : ℕ → Option ℕ) → Lies (total f there) from to → Lies (total f form) r.low r.high)
range_moved form there from to by None same p q at moved = tt
range_moved form there from to by (Some r) same p q at moved = λ f l. subst (λ (o : Option ℕ). Lies o r.low r.high) (sym (apart f form there by same p q at)) (moved (total f there) l)

bound_lies : (f : ℕ → Option ℕ) (k : ℕ) (r : Range) → IsBounded f k r → Lies (f k) r.low r.high
bound_lies f k r l = record { x = l.x; is = l.is; least = l.least; most = l.most }

-- a form that differs by a constant from what a bounded register holds
pub bounded_if : (e : Relation) (k : ℕ) (form there : LinearForm) (b : Range) (o : Option Range) → k < 11 → bound_of e k ≡ Some b → ((f g : ℕ → Option ℕ) → Hold e f g → f k ≡ total f there) →
    IfSome o (λ r. (f : ℕ → Option ℕ) → Lies (total f there) b.low b.high → Lies (total f form) r.low r.high) → IfSome o (λ r. (f g : ℕ → Option ℕ) → Hold e f g → Lies (total f form) r.low r.high)
bounded_if e k form there b None small at a moved = tt
bounded_if e k form there b (Some r) small at a moved = λ f g h. moved f (subst (λ (o : Option ℕ). Lies o b.low b.high) (a f g h) (bound_lies f k b (h.bounds k b small at)))

pub span_if : (e : Relation) (k : ℕ) (here : LinearForm) (o : Option Range) → k < 11 → ((f g : ℕ → Option ℕ) → Hold e f g → f k ≡ total f here) → IfSome o (λ r. (f g : ℕ → Option ℕ) → Hold e f g → Lies (total f here) r.low r.high) →
    IfSome o (λ r. (n : Facts) → IsSpan n e k r.low r.high)
span_if e k here None small a lies = tt
span_if e k here (Some r) small a lies = λ n s g d h. subst (λ (o : Option ℕ). Lies o r.low r.high) (sym (sym (held_register s k small) ∙ a (held s) g h)) (lies (held s) g h)

-- what is in both ranges
held_at : (e : Relation) (form : LinearForm) (o : Option Range) (f g : ℕ → Option ℕ) → Hold e f g → IfSome o (λ r. (f g : ℕ → Option ℕ) → Hold e f g → Lies (total f form) r.low r.high) → IfSome o (λ r. Lies (total f form) r.low r.high)
held_at e form None f g h lies = tt
held_at e form (Some r) f g h lies = lies f g h

pub narrowed_held : (e : Relation) (form : LinearForm) (one other both : Option Range) → ((o : Option ℕ) → IfSome one (λ r. Lies o r.low r.high) → IfSome other (λ r. Lies o r.low r.high) → IfSome both (λ r. Lies o r.low r.high)) →
    IfSome one (λ r. (f g : ℕ → Option ℕ) → Hold e f g → Lies (total f form) r.low r.high) → IfSome other (λ r. (f g : ℕ → Option ℕ) → Hold e f g → Lies (total f form) r.low r.high) → IfSome both (λ r. (f g : ℕ → Option ℕ) → Hold e f g → Lies (total f form) r.low r.high)
narrowed_held e form one other None n p q = tt
narrowed_held e form one other (Some r) n p q = λ f g h. n (total f form) (held_at e form one f g h p) (held_at e form other f g h q)

module _ (i : Insn) (stutters : Bool) (low : ℕ) (m : Facts) (e : Relation) where
  before_at : (form : LinearForm) (o : Option Range) (f g f' g' : ℕ → Option ℕ) → Stepped i stutters low m f g f' g' → Hold e f g → IfSome o (λ r. LiesBefore i stutters low m e form r.low r.high) → IfSome o (λ r. Lies (total f form) r.low r.high)
  before_at form None f g f' g' t h lies = tt
  before_at form (Some r) f g f' g' t h lies = lies f g f' g' t h

  pub narrowed_before : (form : LinearForm) (one other both : Option Range) → ((o : Option ℕ) → IfSome one (λ r. Lies o r.low r.high) → IfSome other (λ r. Lies o r.low r.high) → IfSome both (λ r. Lies o r.low r.high)) →
      IfSome one (λ r. LiesBefore i stutters low m e form r.low r.high) → IfSome other (λ r. LiesBefore i stutters low m e form r.low r.high) → IfSome both (λ r. LiesBefore i stutters low m e form r.low r.high)
  narrowed_before form one other None n p q = tt
  narrowed_before form one other (Some r) n p q = λ f g f' g' t h. n (total f form) (before_at form one f g f' g' t h p) (before_at form other f g f' g' t h q)

  pub before_if : (form : LinearForm) (o : Option Range) → IfSome o (λ r. (f g : ℕ → Option ℕ) → Hold e f g → Lies (total f form) r.low r.high) → IfSome o (λ r. LiesBefore i stutters low m e form r.low r.high)
  before_if form None lies = tt
  before_if form (Some r) lies = λ f g f' g' t h. lies f g h

  -- by what the note after the step says of a register
  pub registered_if : (form there : LinearForm) (k from to : ℕ) (v : Val) (o : Option Range) → k < 11 → IsNewAfter i stutters low m e k there → v ≡ m.reg k → IsRead m v from to → IfSome o (λ r. (f : ℕ → Option ℕ) → Lies (total f there) from to → Lies (total f form) r.low r.high) →
      IfSome o (λ r. LiesBefore i stutters low m e form r.low r.high)
  registered_if form there k from to v None small after is read moved = tt
  registered_if form there k from to v (Some r) small after is read moved = λ f g f' g' t h.
      moved f (subst (λ (o : Option ℕ). Lies o from to) (after f g f' g' t h) (t.ranged k from to (subst (λ (v : Val). IsRead m v from to) is read) small))

  -- by the bound of one part, and a range of the other one
  pub summed_if : (form rest there : LinearForm) (k : ℕ) (b range : Range) (o : Option Range) → k < 11 → bound_of e k ≡ Some b → ((f g : ℕ → Option ℕ) → Hold e f g → f k ≡ total f there) → ((f : ℕ → Option ℕ) → total f form ≡ plus (total f rest) (total f there)) →
      LiesBefore i stutters low m e rest range.low range.high → IfSome o (λ r. IsAdded range.low range.high b.low b.high r.low r.high) → IfSome o (λ r. LiesBefore i stutters low m e form r.low r.high)
  summed_if form rest there k b range None small at a parts lies sum = tt
  summed_if form rest there k b range (Some r) small at a parts lies sum = λ f g f' g' t h.
      subst (λ (o : Option ℕ). Lies o r.low r.high) (sym (parts f)) (sum (total f rest) (total f there) (lies f g f' g' t h) (subst (λ (o : Option ℕ). Lies o b.low b.high) (a f g h) (bound_lies f k b (h.bounds k b small at))))

  pub preserves_bound : (k : ℕ) (b : Range) (here : LinearForm) (range : Range) → IsNewAfter i stutters low m e k here → LiesBefore i stutters low m e here range.low range.high → b.low ≤ range.low → range.high ≤ b.high → PreservesBound i stutters low m e k b
  preserves_bound k b here range after lies least most = λ f g f' g' t h.
      let l = lies f g f' g' t h in
      let from = l.least in
      let to = l.most in
      record { x = l.x; is = after f g f' g' t h ∙ l.is; least = omega (arith, from, least); most = omega (arith, to, most) }

  -- how far from the packet's start a register is
  pub far_by : (k first last distance : ℕ) (here : LinearForm) → ((f g : ℕ → Option ℕ) → Hold e f g → f k ≡ total f here) → LiesBefore i stutters low m e here first last → packet_start + distance ≤ first → IsDistance i stutters low m e k distance
  far_by k first last distance here a lies from = λ f g f' g' t h.
      let l = lies f g f' g' t h in
      let least = l.least in
      record { x = l.x; is = a f g h ∙ l.is; from = omega (arith, from, least) }
