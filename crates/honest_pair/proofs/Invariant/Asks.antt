-- What the back has asked to be told of, as the ends go on.
use Rattle.std.proofs.Common.{◌≡◌, ℕ, zero, suc, ◌+◌, ◌^◌, ◌<◌, ◌≤◌, ◌⊎◌, inl, inr, Bool, true, false, refl, sym, ◌∙◌, ap, arith}
use Rattle.std.proofs.lemmas.Bool.Decides.{eqb_tells}
use Rattle.xen_buffers.specs.declared.wiring.FrontWiring.{FrontWiring}
use Rattle.xen_page.specs.declared.place.Place.{Place}
use Rattle.xen_ring.specs.Index.{is_due}
use Rattle.xen_steps.specs.Places.{add32, page_word}
use Rattle.honest_pair.specs.Invariant.Inv.{IsAsked, IsShort, Told}
use Rattle.honest_pair.proofs.Invariant.Puts.{add_add}
use Rattle.honest_pair.specs.Machine.Memory.{told}
use Rattle.honest_pair.specs.declared.awaits.Awaits.{Awaits}
use Rattle.honest_pair.specs.declared.awaits.Awaits.TheVariants as awaits

-- the event index stands
pub asked_as : (w : FrontWiring) (start : ℕ) (x y : Place → ℕ) (a : Awaits) → y (page_word w.rx_frame 1) ≡ x (page_word w.rx_frame 1) → IsAsked w start x a → IsAsked w start y a
asked_as w start x y awaits.Nothing e h = tt
asked_as w start x y (awaits.Asked index pages) e h = e ∙ h
asked_as w start x y (awaits.Fewer index pages) e h = e ∙ h

-- a notice makes no pending port quiet
pub told_by : (w : FrontWiring) (start : ℕ) (port : ℕ) (pending : Bool) (posted : ℕ) (posting : Bool) (a : Awaits) → Told w start pending posted posting a → Told w start (told port pending) posted posting a
told_by w start zero pending posted posting awaits.Nothing h = tt
told_by w start zero pending posted posting (awaits.Asked index pages) h = tt
told_by w start zero pending posted posting (awaits.Fewer index pages) h = record { at = h.at; is = h.is; past = h.past; told = inl refl }
told_by w start (suc port) pending posted posting a h = h

-- nor does one that tells of a push
pub told_at_last : (w : FrontWiring) (start : ℕ) (pending : Bool) (posted : ℕ) (posting : Bool) (a : Awaits) → pending ≡ true → Told w start pending posted true a → Told w start pending posted posting a
told_at_last w start pending posted posting awaits.Nothing e h = tt
told_at_last w start pending posted posting (awaits.Asked index pages) e h = tt
told_at_last w start pending posted posting (awaits.Fewer index pages) e h = record { at = h.at; is = h.is; past = h.past; told = inl e }

-- one more buffer is posted
pub told_pushed : (w : FrontWiring) (start : ℕ) (pending : Bool) (posted n : ℕ) (a : Awaits) → n ≡ posted + 1 → Told w start pending posted false a → Told w start pending n true a
told_pushed w start pending posted n awaits.Nothing e h = tt
told_pushed w start pending posted n (awaits.Asked index pages) e h = tt
told_pushed w start pending posted n (awaits.Fewer index pages) e h =
    let past = h.past in
    record {
      at = h.at;
      is = h.is;
      past = omega (arith, past, e);
      told = elim h.told [
        | inl p ↦ inl p
        | inr q ↦ inr (elim q [
          | inl less ↦ inr (refl, omega (arith, less, e))
          | inr opened ↦ (let bad : false ≡ true = opened.0 in absurd (cc))
        ])
      ];
    }

-- The notice of that push is decided.
pub told_decided : (w : FrontWiring) (start : ℕ) (x : Place → ℕ) (pending : Bool) (posted n : ℕ) (due : Bool) (a : Awaits) →
    is_due (add32 start posted) (add32 start (posted + 1)) (x (page_word w.rx_frame 1)) ≡ due → is_due (add32 start posted) (add32 start (posted + 1)) (add32 start (posted + 1)) ≡ true →
    n ≡ posted + 1 → IsAsked w start x a → Told w start pending n true a → Told w start pending n due a
told_decided w start x pending posted n due awaits.Nothing d last e k h = tt
told_decided w start x pending posted n due (awaits.Asked index pages) d last e k h = tt
told_decided w start x pending posted n true (awaits.Fewer index pages) d last e k h = h
told_decided w start x pending posted n false (awaits.Fewer index pages) d last e k h =
    record { at = h.at; is = h.is; past = h.past; told = elim h.told [ inl p ↦ inl p | inr q ↦ inr (inl (elim q [ inl less ↦ less | inr opened ↦ short opened.1 ])) ] }
  where
    missed : n ≡ h.at + pages → ⊥
    missed s =
        let word : x (page_word w.rx_frame 1) ≡ add32 start (posted + 1) = k ∙ ap (λ i. add32 i pages) h.is ∙ add_add start h.at pages ∙ ap (add32 start) (sym s ∙ e) in
        let bad : true ≡ false = sym last ∙ ap (is_due (add32 start posted) (add32 start (posted + 1))) (sym word) ∙ d in absurd (cc)

    short : n ≤ h.at + pages → n < h.at + pages
    short le = elim (eqb_tells n (h.at + pages)) [ inl same ↦ absurd (missed same.1) | inr other ↦ (let ne = other.1 in omega (arith, le, ne)) ]
