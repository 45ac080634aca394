-- The words that a host in C lends, by their bytes.
use Rattle.std.proofs.Common.{◌≡◌, ℕ, zero, suc, ◌+◌, ◌-◌, ◌*◌, ◌<◌, ◌≤◌, ◌^◌, List, [], ◌∷◌, ◌++◌, length, set, take, drop, get_or, refl, sym, ap, ◌∙◌, subst, arith}
use Rattle.std.proofs.lemmas.List.{drop-drop, drop-map, drop-set-lt, drop_at, get_or-append-add, get_or-drop, get_or-take, length-map, map-set, take-map, take_at, take_more_set}
use Rattle.std.proofs.lemmas.Nat.{from_le_bytes-to_le_bytes_4, le_bytes_4}
use Rattle.std.specs.Int.{w32, from_le_bytes, to_le_bytes}
use Rattle.std.specs.List.{flat_map}
use Rattle.std.specs.Prelude.{slice_index}
use Rattle.std.specs.Simd.{first_chunks}
use Rattle.xen_netif.specs.Copy.{bytes_of}
use Rattle.xen_steps.specs.Pages.{AreWords}
use Rattle.xen_rx_fill.specs.Packets.{word_of}
use Rattle.xen_host.specs.Filling.{packet_words}
use Rattle.xen_host.specs.LentWords.{lent_words}

-- Each word has four bytes.
abbrev pub AreFours : List (List ℕ) → Type 0
AreFours lent = (i : ℕ) → i < length lent → length (get_or lent i []) ≡ 4

-- Each of these is a byte.
abbrev pub AreBytes : List ℕ → Type 0
AreBytes bytes = (i : ℕ) → get_or bytes i 0 < 256

-- a word is below 2^32
word_below : (bytes : List ℕ) → AreBytes bytes → from_le_bytes w32 bytes < 2 ^ 32
word_below bytes h = omega (arith, h 0, h 1, h 2, h 3)

-- The first word of some, and the others.
first_bytes : (bytes : List ℕ) (more : List (List ℕ)) → length bytes ≡ 4 → AreBytes (bytes ++ flat_map (λ x. x) more) → AreBytes bytes
first_bytes (a ∷ b ∷ c ∷ d ∷ []) more n h zero = h 0
first_bytes (a ∷ b ∷ c ∷ d ∷ []) more n h (suc zero) = h 1
first_bytes (a ∷ b ∷ c ∷ d ∷ []) more n h (suc (suc zero)) = h 2
first_bytes (a ∷ b ∷ c ∷ d ∷ []) more n h (suc (suc (suc zero))) = h 3
first_bytes (a ∷ b ∷ c ∷ d ∷ []) more n h (suc (suc (suc (suc i)))) = omega arith
first_bytes [] more n h i = absurd (omega (arith, n))
first_bytes (a ∷ []) more n h i = absurd (omega (arith, n))
first_bytes (a ∷ b ∷ []) more n h i = absurd (omega (arith, n))
first_bytes (a ∷ b ∷ c ∷ []) more n h i = absurd (omega (arith, n))
first_bytes (a ∷ b ∷ c ∷ d ∷ e ∷ l) more n h i = absurd (omega (arith, n))

other_bytes : (bytes : List ℕ) (more : List (List ℕ)) → AreBytes (bytes ++ flat_map (λ x. x) more) → AreBytes (flat_map (λ x. x) more)
other_bytes bytes more h i = subst (λ v. v < 256) (get_or-append-add bytes (flat_map (λ x. x) more) i 0) (h (length bytes + i))

-- Their bytes are those that lie there.
pub lent_bytes : (lent : List (List ℕ)) → AreFours lent → AreBytes (flat_map (λ x. x) lent) → bytes_of (lent_words lent) ≡ flat_map (λ x. x) lent
lent_bytes [] fours h = refl
lent_bytes (bytes ∷ more) fours h =
    let n : length bytes ≡ 4 = fours 0 (omega arith) in
    ap (λ l. l ++ bytes_of (lent_words more)) (le_bytes_4 bytes (from_le_bytes w32 bytes) n (first_bytes bytes more n h) refl)
    ∙ ap (λ l. bytes ++ l) (lent_bytes more (λ i lt. fours (suc i) (omega (arith, lt))) (other_bytes bytes more h))

pub lent_below : (lent : List (List ℕ)) → AreFours lent → AreBytes (flat_map (λ x. x) lent) → AreWords (lent_words lent)
lent_below [] fours h = tt
lent_below (bytes ∷ more) fours h =
    (word_below bytes (first_bytes bytes more (fours 0 (omega arith)) h), lent_below more (λ i lt. fours (suc i) (omega (arith, lt))) (other_bytes bytes more h))

-- as many as there are
pub lent_length : (lent : List (List ℕ)) → length (lent_words lent) ≡ length lent
lent_length lent = length-map lent (λ bytes. from_le_bytes w32 bytes)

-- ---- the words of a packet, as they are lent

-- one word
word_at : (bytes : List ℕ) (k : ℕ) → 4 * k + 4 ≤ length bytes → from_le_bytes w32 (take 4 (drop (4 * k) bytes)) ≡ word_of bytes k
word_at bytes k h =
    let l = drop (4 * k) bytes in
    let byte : (j : ℕ) → j < 4 → slice_index (take 4 l) j ≡ slice_index bytes (4 * k + j) = λ j lt. get_or-take 4 l j 0 lt ∙ get_or-drop (4 * k) bytes j 0 in
    let z : 4 * k + 0 ≡ 4 * k = omega arith in
    let first : slice_index (take 4 l) 0 ≡ slice_index bytes (4 * k) = byte 0 (omega arith) ∙ ap (slice_index bytes) z in
    omega (arith, first, byte 1 (omega arith), byte 2 (omega arith), byte 3 (omega arith))

words_at : (bytes : List ℕ) (k n : ℕ) → 4 * (k + n) ≤ length bytes → lent_words (first_chunks 4 n (drop (4 * k) bytes)) ≡ packet_words bytes k n
words_at bytes k zero h = refl
words_at bytes k (suc n) h =
    let next : drop 4 (drop (4 * k) bytes) ≡ drop (4 * (k + 1)) bytes = drop-drop 4 (4 * k) bytes ∙ ap (λ m. drop m bytes) (let q : 4 * k + 4 ≡ 4 * (k + 1) = omega arith in q) in
    ap (λ w. w ∷ lent_words (first_chunks 4 n (drop 4 (drop (4 * k) bytes)))) (word_at bytes k (omega (arith, h)))
    ∙ ap (λ l. word_of bytes k ∷ lent_words (first_chunks 4 n l)) next
    ∙ ap (λ l. word_of bytes k ∷ l) (words_at bytes (k + 1) n (omega (arith, h)))

-- a part of the words of a packet
drop_chunks : (from count all : ℕ) (bytes : List ℕ) → all ≡ from + count → drop from (first_chunks 4 all bytes) ≡ first_chunks 4 count (drop (4 * from) bytes)
drop_chunks zero count all bytes e = let same : all ≡ count = omega (arith, e) in ap (λ m. first_chunks 4 m bytes) same
drop_chunks (suc from) count zero bytes e = absurd (omega (arith, e))
drop_chunks (suc from) count (suc all) bytes e =
    drop_chunks from count all (drop 4 bytes) (omega (arith, e))
    ∙ ap (λ l. first_chunks 4 count l) (drop-drop (4 * from) 4 bytes ∙ ap (λ m. drop m bytes) (let q : 4 + 4 * from ≡ 4 * suc from = omega arith in q))

take_chunks : (n all : ℕ) (bytes : List ℕ) → n ≤ all → take n (first_chunks 4 all bytes) ≡ first_chunks 4 n bytes
take_chunks zero all bytes h = refl
take_chunks (suc n) zero bytes h = absurd (omega (arith, h))
take_chunks (suc n) (suc all) bytes h = ap (λ l. take 4 bytes ∷ l) (take_chunks n all (drop 4 bytes) (omega (arith, h)))

pub part_words : (bytes : List ℕ) (k n all : ℕ) → 4 * (k + n) ≤ length bytes → k + n ≤ all → lent_words (take n (drop k (first_chunks 4 all bytes))) ≡ packet_words bytes k n
part_words bytes k n all h le =
    ap (λ l. lent_words (take n l)) (drop_chunks k (all - k) all bytes (omega (arith, le)))
    ∙ ap lent_words (take_chunks n (all - k) (drop (4 * k) bytes) (omega (arith, le)))
    ∙ words_at bytes k n h

-- ---- words that are put in front

pub put_front : (n : ℕ) (part lent : List (List ℕ)) → length part ≡ n → take n (lent_words (part ++ drop n lent)) ≡ lent_words part
put_front n part lent e = take-map (λ bytes. from_le_bytes w32 bytes) n (part ++ drop n lent) ∙ ap lent_words (take_at part (drop n lent) n e)

pub put_behind : (n : ℕ) (part lent : List (List ℕ)) → length part ≡ n → drop n (lent_words (part ++ drop n lent)) ≡ drop n (lent_words lent)
put_behind n part lent e =
    drop-map (λ bytes. from_le_bytes w32 bytes) n (part ++ drop n lent) ∙ ap lent_words (drop_at part (drop n lent) n e) ∙ sym (drop-map (λ bytes. from_le_bytes w32 bytes) n lent)

-- the next word in front
pub next_front : (n w : ℕ) (lent : List (List ℕ)) → n < length lent → w < 2 ^ 32 → take (n + 1) (lent_words (set lent n (to_le_bytes w32 w))) ≡ take n (lent_words lent) ++ w ∷ []
next_front n w lent inside small =
    ap (λ l. take (n + 1) l) (map-set (λ bytes. from_le_bytes w32 bytes) lent n (to_le_bytes w32 w) ∙ ap (λ v. set (lent_words lent) n v) (from_le_bytes-to_le_bytes_4 w small))
    ∙ take_more_set (lent_words lent) n w (omega (arith, lent_length lent, inside))

pub next_behind : (n m : ℕ) (bytes : List ℕ) (lent : List (List ℕ)) → n < m → drop m (lent_words (set lent n bytes)) ≡ drop m (lent_words lent)
next_behind n m bytes lent h =
    ap (λ l. drop m l) (map-set (λ b. from_le_bytes w32 b) lent n bytes) ∙ drop-set-lt m (lent_words lent) n (from_le_bytes w32 bytes) h
