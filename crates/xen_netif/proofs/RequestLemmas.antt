-- The request in one slot of a chain.
use Rattle.std.proofs.Common.{◌≡◌, ℕ, suc, zero, ◌<◌, List, [], ◌∷◌, ◌++◌, Option, Some, None, length, take, drop, get_or, refl, ap, arith, subst, true, false, Bool, if◌then◌else◌}
use Rattle.std.specs.Prelude.{slice_get}
use Rattle.std.proofs.lemmas.List.{length-take}
use Rattle.xen_netif.specs.Chain.{Slot, requests_after, requests_of}
use Rattle.xen_netif.specs.Slots.{tx_req_of}
use Rattle.xen_netif.specs.declared.tx.TxReq.{TxReq}

-- No extra follows a data slot that none was asked for behind.
pub data_behind_data : (before : List Slot) (slot : Slot) (rest : List Slot) →
    slice_get (requests_after false (before ++ slot ∷ rest)) (length before) ≡ Some (Some (tx_req_of slot))
data_behind_data [] slot rest = refl
data_behind_data (b ∷ before) slot rest = data_behind_data before slot rest

pub first_behind : (asked : Bool) (slot : Slot) (rest : List Slot) →
    slice_get (requests_after asked (slot ∷ rest)) 0 ≡ Some (if asked then None else Some (tx_req_of slot))
first_behind true slot rest = refl
first_behind false slot rest = refl

parted : (slots : List Slot) (n : ℕ) → n < length slots → take n slots ++ get_or slots n [] ∷ drop (suc n) slots ≡ slots
parted [] n h = absurd (omega (arith, h))
parted (s ∷ slots) zero h = refl
parted (s ∷ slots) (suc n) h = ap (λ l. s ∷ l) (parted slots n (omega (arith, h)))

-- What holds of a slot behind some, whatever follows, holds of the slot of that number.
pub request_here : (slots : List Slot) (n : ℕ) (r : Slot → Option TxReq) → n < length slots →
    ((slot : Slot) (rest : List Slot) → slice_get (requests_of (take n slots ++ slot ∷ rest)) (length (take n slots)) ≡ Some (r slot)) →
    slice_get (requests_of slots) n ≡ Some (r (get_or slots n []))
request_here slots n r h each =
    let slot = get_or slots n [] in
    let count : length (take n slots) ≡ n = omega (arith, length-take n slots, h) in
    subst (λ k. slice_get (requests_of slots) k ≡ Some (r slot)) count
    (subst (λ l. slice_get (requests_of l) (length (take n slots)) ≡ Some (r slot)) (parted slots n h) (each slot (drop (suc n) slots)))
