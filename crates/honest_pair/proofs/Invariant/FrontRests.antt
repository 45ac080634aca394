-- A front between activities, and the beginnings of activities.
use Rattle.std.proofs.Common.{◌≡◌, ℕ, zero, suc, ◌+◌, ◌<◌, ◌≤◌, ◌⊎◌, Bool, true, false, List, [], ◌∷◌, length, get_or, refl, sym, ◌∙◌, ap, arith, subst, Option, Some, None}
use Rattle.std.specs.Prelude.{nat_lt, Ok}
use Rattle.std.proofs.lemmas.Bool.Decides.{nat_tests}
use Rattle.xen_buffers.specs.declared.wiring.FrontWiring.{FrontWiring}
use Rattle.xen_front.specs.Fronts.{all_free, send_tests}
use Rattle.xen_front.specs.Slots.{pieces_of}
use Rattle.xen_front.specs.declared.state.Ring.{Ring}
use Rattle.xen_front.specs.declared.state.FrontState.{FrontState}
use Rattle.xen_front.specs.declared.turn.FrontHalt.{FrontHalt}
use Rattle.honest_pair.specs.Invariant.Ghosts.{Front, Back, tx_sent, slots}
use Rattle.honest_pair.specs.Invariant.Inv.{Inv, Told}
use Rattle.honest_pair.specs.Machine.Memory.{Memory}
use Rattle.honest_pair.specs.Invariant.Rest.{Ringed, began, CanSend}

pub begins : (w : FrontWiring) (start : ℕ) (f : Front) (u : List (List ℕ)) (m : Memory) (b : Back) → f.window ≡ None → f.posting ≡ false → Inv w start m f b → Inv w start m (began f u) b
begins w start f u m b quiet closed h = record {
  tx = record { took = h.tx.took; told = h.tx.told; wrote = h.tx.wrote; used = h.tx.used; known = h.tx.known; room = h.tx.room; unique = h.tx.unique; good = h.tx.good };
  tx_head = h.tx_head;
  tx_slots = h.tx_slots;
  rx = record { took = h.rx.took; told = h.rx.told; used = h.rx.used; known = h.rx.known; room = h.rx.room; unique = h.rx.unique; ids = h.rx.ids; giving = h.rx.giving; named = h.rx.named; good = h.rx.good };
  rx_head = h.rx_head;
  rx_slots = h.rx_slots;
  reading = (λ s e. absurd (cc));
  front_notes = tt;
  heard = (λ a. let e = h.heard a in subst (λ v. (b.event ≡ length (slots b.done) + 1) × ((m.pending ≡ true) ⊎ ((tx_sent f ≡ length (slots b.done)) ⊎ (v ≡ Some (length (slots b.done)))))) quiet e);
  awaited = subst (λ v. Told w start m.pending (length f.posts) v m.awaits) closed h.awaited;
}

pub flag_inside : (out : List Bool) (id : ℕ) → get_or out id false ≡ true → id < length out
flag_inside [] id h = cc
flag_inside (b ∷ out) zero h = omega arith
flag_inside (b ∷ out) (suc id) h = let r = flag_inside out id h in omega (arith, r)

-- an id whose flag is clear is in no slot in flight
pub no_flag : (start : ℕ) (r : Ring) (ids : ℕ → ℕ) (c n id : ℕ) → Ringed start r ids c n → get_or r.out id false ≡ false → (i : ℕ) → c ≤ i → i < n → ids i ≡ id → ⊥
no_flag start r ids c n id h clear i p q e =
    let set : get_or r.out id false ≡ true = ap (λ x. get_or r.out x false) (sym e) ∙ h.busy i p q in
    let bad : true ≡ false = sym set ∙ clear in cc

pub sends_ok : (s : FrontState) (p : List ℕ) → send_tests s.halt false (nat_lt (length p) 14) (nat_lt 65535 (length p)) (nat_lt (length (all_free s.tx.out)) (pieces_of (length p))) ≡ Ok tt → CanSend s p
sends_ok s p e = by s.halt (nat_lt (length p) 14) (nat_lt 65535 (length p)) (nat_lt (length (all_free s.tx.out)) (pieces_of (length p))) refl refl refl e
  where
    by : (h : Option FrontHalt) (x y z : Bool) → nat_lt (length p) 14 ≡ x → nat_lt 65535 (length p) ≡ y → nat_lt (length (all_free s.tx.out)) (pieces_of (length p)) ≡ z → send_tests h false x y z ≡ Ok tt → CanSend s p
    by (Some c) x y z a b d e = absurd (cc)
    by None true y z a b d e = absurd (cc)
    by None false true z a b d e = absurd (cc)
    by None false false true a b d e = absurd (cc)
    by None false false false a b d e = record { least = grind (arith, nat_tests); most = grind (arith, nat_tests); room = grind (arith, nat_tests) }
