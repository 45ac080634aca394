-- New seats, taken from the end.
use Rattle.std.proofs.Common.{◌≡◌, ℕ, ◌+◌, Global, Vec, List, [], ◌∷◌, ◌++◌, length, length-append, map, sym, ap, ◌∙◌, arith}
use Rattle.std.proofs.lemmas.List.FromFn.{length-map-range_with_len, map-range_with_len_more}
use Rattle.bpf_maps.specs.Beginning.{given}
use Rattle.bpf_maps.specs.Seats.{SeatView, CountersView, new_seat, new_seats}
use Rattle.bpf_note.specs.Shape.{Shape}
use Rattle.thread_pair.proofs.ReturnLemmas.{snoc_same}

pub length_new : (c : CountersView) (n : ℕ) → length (new_seats c n) ≡ n
length_new c n = length-map-range_with_len (new_seat c) 0 n

-- the last of n new seats has the number of those before it
pub last_new : (c : CountersView) (seats left : List SeatView) (seat : SeatView) → seats ≡ left ++ seat ∷ [] → seats ≡ new_seats c (length seats) → (left ≡ new_seats c (length left)) × (seat ≡ new_seat c (length left))
last_new c seats left seat is new =
    let n : length seats ≡ length left + 1 = omega (arith, ap length is, length-append left (seat ∷ [])) in
    snoc_same left (new_seats c (length left)) seat (new_seat c (length left))
    (sym is ∙ new ∙ ap (new_seats c) n ∙ map-range_with_len_more (new_seat c) 0 (length left) (length left) (omega arith))

-- what a counter begins with, told of the same lists
pub first_given : {b t : ℕ} (shapes : List Shape) (xs ys : List (Vec ℕ Global)) (m k j : ℕ) → b ≡ t → t ≡ given shapes (map (λ (v : Vec ℕ Global). v.items) xs) m k j → xs ≡ ys → b ≡ given shapes (map (λ (v : Vec ℕ Global). v.items) ys) m k j
first_given shapes xs ys m k j is there same = is ∙ there ∙ ap (λ (l : List (Vec ℕ Global)). given shapes (map (λ (v : Vec ℕ Global). v.items) l) m k j) same
