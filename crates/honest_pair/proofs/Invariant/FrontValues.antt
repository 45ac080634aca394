-- What a response of an honest back says, and what its page gives.
use Rattle.std.proofs.Common.{◌≡◌, ℕ, zero, suc, ◌+◌, ◌-◌, ◌*◌, ◌/◌, ◌^◌, ◌<◌, ◌≤◌, Bool, true, false, List, [], ◌∷◌, ◌++◌, length, length-drop, take, drop, get_or, get_or-drop, refl, sym, ◌∙◌, ap, arith, None, rules}
use Rattle.std.specs.Prelude.{pos, nat_lt, ◌&&◌, ◌==◌, if◌then◌else◌, slice_index}
use Rattle.std.specs.Int.{w16, w32, cast_signed, cast_unsigned, to_le_bytes}
use Rattle.std.proofs.Math.Seq.{take-add}
use Rattle.std.proofs.lemmas.Bool.Decides.{nat_tests}
use Rattle.std.proofs.lemmas.Int.{to_z-of_z}
use Rattle.std.proofs.lemmas.Nat.{le_bytes_4}
use Rattle.xen_front.specs.Slots.{fault_of, in_flight}
use Rattle.xen_front.specs.declared.state.Ring.{Ring}
use Rattle.xen_netif.specs.Copy.{bytes_in, covered}
use Rattle.xen_netif.specs.Offloads.{data_flags}
use Rattle.xen_netif.specs.Slots.{rx_flags_of, rx_flag_bits, rx_rsp_of, rx_rsp_words}
use Rattle.xen_netif.specs.declared.flags.RxFlags.{RxFlags}
use Rattle.xen_netif.specs.declared.fragment.Fragment.{Fragment}
use Rattle.xen_netif.specs.declared.offload.Accepts.{Accepts}
use Rattle.xen_rx_fill.proofs.ByteLemmas.{four}
use Rattle.xen_netif.specs.declared.offload.RxOffload.TheVariants.{Whole}
use Rattle.xen_rx_fill.specs.Packets.{has_more, response_word, size_at, status_at, word_of, words_or}
use Rattle.xen_rx_fill.specs.Whole.{plain_response}
use Rattle.xen_rx_fill.specs.declared.target.Grants.TheVariants.{Passed}
use Rattle.honest_pair.proofs.Invariant.FrontReceives.{gathered}
use Rattle.xen_netif.proofs.SlotLemmas.{rx_rsp_of-joined}

abbrev flags_with : Bool → RxFlags
flags_with m = record { data_validated = false; csum_blank = false; more_data = m; extra_info = false; gso_prefix = false }

flags_back : (m : Bool) → rx_flags_of (rx_flag_bits (flags_with m)) ≡ flags_with m
flags_back true = refl
flags_back false = refl

flags_fit : (m : Bool) → rx_flag_bits (flags_with m) < 2 ^ 16
flags_fit true = omega arith
flags_fit false = omega arith

pub status_back : (n : ℕ) → n < 2 ^ 15 → cast_signed w16 (cast_unsigned w16 (pos n)) ≡ pos n
status_back n h = to_z-of_z w16 (pos n) (first_of (omega arith, search rules, grind arith))

-- its words say nothing of an offload, by whether its slot is the second, and whether its page is the first
plain_words : (p : List ℕ) (n k id : ℕ) (second first : Bool) →
    words_or (if second then None else None)
    (rx_rsp_words (record { id = id; offset = 0; flags = data_flags (if first then Whole else Whole) (has_more Whole Passed n k); status = status_at Passed p k }))
    ≡ rx_rsp_words (plain_response Passed p n k id)
plain_words p n k id true true = refl
plain_words p n k id true false = refl
plain_words p n k id false true = refl
plain_words p n k id false false = refl

-- a response, from its words
pub response_back : (p : List ℕ) (n k id : ℕ) → id < 2 ^ 16 → size_at p k < 2 ^ 15 → rx_rsp_of (response_word Whole Passed p n k id 0 ∷ response_word Whole Passed p n k id 1 ∷ []) ≡ plain_response Passed p n k id
response_back p n k id small few =
    let words = rx_rsp_words (plain_response Passed p n k id) in
    ap (λ l. rx_rsp_of (slice_index l 0 ∷ slice_index l 1 ∷ [])) (plain_words p n k id (k == 1) (k == 0))
    ∙ rx_rsp_of-joined (plain_response Passed p n k id) (slice_index words 0) (slice_index words 1) (rx_flag_bits (flags_with (nat_lt (k + 1) n))) (cast_unsigned w16 (pos (size_at p k)))
    refl refl small (flags_fit (nat_lt (k + 1) n)) (flags_back (nat_lt (k + 1) n)) (status_back (size_at p k) few)

not_lt : (a b : ℕ) → b ≤ a → nat_lt a b ≡ false
not_lt a b h = grind (arith, nat_tests)

fifteen : (n k : ℕ) → n ≤ 16 → ((k == 15) && nat_lt (k + 1) n) ≡ false
fifteen n k h = by (k == 15) refl
  where
    by : (t : Bool) → (k == 15) ≡ t → (t && nat_lt (k + 1) n) ≡ false
    by true e = let q : k ≡ 15 = grind (arith, nat_tests) in not_lt (k + 1) n (omega arith)
    by false e = refl

-- it halts nothing
pub no_fault : (accepts : Accepts) (r : Ring) (p : List ℕ) (n k id len : ℕ) → in_flight r id ≡ true → size_at p k ≤ 4096 → n ≤ 16 → len + size_at p k ≤ 65535 → fault_of accepts r k len (plain_response Passed p n k id) ≡ None
no_fault accepts r p n k id len flight size few room =
    rw (flight, not_lt 4096 (0 + size_at p k) (omega arith), fifteen n k few, not_lt 65535 (len + size_at p k) room) refl

-- of a list's first four items, and zeros
four_take : (l : List ℕ) (s : ℕ) → s ≤ length l → s ≤ 4 → take s (get_or l 0 0 ∷ get_or l 1 0 ∷ get_or l 2 0 ∷ get_or l 3 0 ∷ []) ≡ take s l
four_take l zero h q = refl
four_take [] (suc s) h q = absurd (omega arith)
four_take (a ∷ l) (suc zero) h q = refl
four_take (a ∷ []) (suc (suc s)) h q = absurd (omega arith)
four_take (a ∷ b ∷ l) (suc (suc zero)) h q = refl
four_take (a ∷ b ∷ []) (suc (suc (suc s))) h q = absurd (omega arith)
four_take (a ∷ b ∷ c ∷ l) (suc (suc (suc zero))) h q = refl
four_take (a ∷ b ∷ c ∷ []) (suc (suc (suc (suc s)))) h q = absurd (omega arith)
four_take (a ∷ b ∷ c ∷ d ∷ l) (suc (suc (suc (suc zero)))) h q = refl
four_take (a ∷ b ∷ c ∷ d ∷ l) (suc (suc (suc (suc (suc s))))) h q = absurd (omega arith)

four_whole : (l : List ℕ) (s : ℕ) → 4 ≤ s → 4 ≤ length l → take s (get_or l 0 0 ∷ get_or l 1 0 ∷ get_or l 2 0 ∷ get_or l 3 0 ∷ []) ≡ take 4 l
four_whole l zero h q = absurd (omega arith)
four_whole l (suc zero) h q = absurd (omega arith)
four_whole l (suc (suc zero)) h q = absurd (omega arith)
four_whole l (suc (suc (suc zero))) h q = absurd (omega arith)
four_whole [] (suc (suc (suc (suc s)))) h q = absurd (omega arith)
four_whole (a ∷ []) (suc (suc (suc (suc s)))) h q = absurd (omega arith)
four_whole (a ∷ b ∷ []) (suc (suc (suc (suc s)))) h q = absurd (omega arith)
four_whole (a ∷ b ∷ c ∷ []) (suc (suc (suc (suc s)))) h q = absurd (omega arith)
four_whole (a ∷ b ∷ c ∷ d ∷ l) (suc (suc (suc (suc zero)))) h q = refl
four_whole (a ∷ b ∷ c ∷ d ∷ l) (suc (suc (suc (suc (suc s))))) h q = refl

module _ (fr : Fragment) (p : List ℕ) (k size : ℕ) (low : fr.offset ≡ 0) (is : fr.size ≡ size) (inside : 4096 * k + size ≤ length p) (bytes : (i : ℕ) → get_or p i 0 < 256) where
  -- a word's four bytes
  word_bytes : (j : ℕ) → to_le_bytes w32 (word_of p (1024 * k + j)) ≡
      get_or (drop (4096 * k + 4 * j) p) 0 0 ∷ get_or (drop (4096 * k + 4 * j) p) 1 0 ∷ get_or (drop (4096 * k + 4 * j) p) 2 0 ∷ get_or (drop (4096 * k + 4 * j) p) 3 0 ∷ []
  word_bytes j =
      let i = 4 * (1024 * k + j) in
      let a = 4096 * k + 4 * j in
      let at : (x y : ℕ) → x ≡ a + y → slice_index p x ≡ get_or (drop a p) y 0 = λ x y e. ap (λ z. get_or p z 0) e ∙ sym (get_or-drop a p y 0) in
      four (slice_index p i) (slice_index p (i + 1)) (slice_index p (i + 2)) (slice_index p (i + 3)) (bytes i) (bytes (i + 1)) (bytes (i + 2)) (bytes (i + 3))
      ∙ rw (at i 0 (omega arith), at (i + 1) 1 (omega arith), at (i + 2) 2 (omega arith), at (i + 3) 3 (omega arith)) refl

  read_bytes : (j : ℕ) → bytes_in fr j (word_of p (1024 * k + j)) ≡
      take (size - 4 * j) (get_or (drop (4096 * k + 4 * j) p) 0 0 ∷ get_or (drop (4096 * k + 4 * j) p) 1 0 ∷ get_or (drop (4096 * k + 4 * j) p) 2 0 ∷ get_or (drop (4096 * k + 4 * j) p) 3 0 ∷ [])
  read_bytes j =
      let n : fr.offset + fr.size - 4 * j - (fr.offset - 4 * j) ≡ size - 4 * j = omega arith in
      let z : fr.offset - 4 * j ≡ 0 = omega arith in
      ap (λ s. take s (drop (fr.offset - 4 * j) (to_le_bytes w32 (word_of p (1024 * k + j))))) n
      ∙ ap (λ s. take (size - 4 * j) (drop s (to_le_bytes w32 (word_of p (1024 * k + j))))) z
      ∙ ap (take (size - 4 * j)) (word_bytes j)

  -- the words of a page give its bytes
  pub gather_is : (n j : ℕ) → 4 * j + 4 * n < size → size ≤ 4 * j + 4 * n + 4 → gathered fr p k j (suc n) (take (4096 * k + 4 * j) p) ≡ take (4096 * k + size) p
  gather_is zero j a c =
      let at = 4096 * k + 4 * j in
      let len = length-drop at p in
      let e : at + (size - 4 * j) ≡ 4096 * k + size = omega arith in
      ap (λ x. take at p ++ x) (read_bytes j ∙ four_take (drop at p) (size - 4 * j) (omega arith) (omega arith))
      ∙ sym (take-add at (size - 4 * j) p) ∙ ap (λ x. take x p) e
  gather_is (suc n) j a c =
      let at = 4096 * k + 4 * j in
      let len = length-drop at p in
      let e : at + 4 ≡ 4096 * k + 4 * (j + 1) = omega arith in
      let step : take at p ++ bytes_in fr j (word_of p (1024 * k + j)) ≡ take (4096 * k + 4 * (j + 1)) p =
      ap (λ x. take at p ++ x) (read_bytes j ∙ four_whole (drop at p) (size - 4 * j) (omega arith) (omega arith)) ∙ sym (take-add at 4 p) ∙ ap (λ x. take x p) e in
      ap (gathered fr p k (j + 1) (suc n)) step ∙ gather_is n (j + 1) (omega arith) (omega arith)

  pub covered_is : 0 < size → covered fr ≡ suc ((size - 1) / 4)
  covered_is some =
      let z : (fr.size == 0) ≡ false = grind (arith, nat_tests) in
      ap (λ t. if t then 0 else (fr.offset + fr.size - 1) / 4 + 1 - fr.offset / 4) z ∙ omega arith
