-- Words of a run, and their bytes.
use Rattle.std.proofs.Common.{◌≡◌, ℕ, suc, ◌+◌, ◌*◌, ◌<◌, ◌≤◌, ◌^◌, List, [], ◌∷◌, ◌++◌, Option, length, length-drop, set, take, drop, get_or, zero, refl, sym, ◌∙◌, ap, arith, length-append, lit<, subst}
use Rattle.std.specs.Prelude.{All}
use Rattle.std.specs.Int.{w32, from_le_bytes, to_le_bytes}
use Rattle.std.specs.List.{flat_map}
use Rattle.std.proofs.lemmas.Grind.{flat_map-append, take-set_at}
use Rattle.std.proofs.lemmas.List.{drop-drop, get_or-drop, get_or_default, length-take, take_all, take_more}
use Rattle.std.proofs.lemmas.List.Elements.{All-append, All-nil}
use Rattle.std.proofs.lemmas.Nat.{le_bytes_4}
use Rattle.std.proofs.Math.Seq.{take-add, take-append_seam, drop-append-add}
use Rattle.xen_page.proofs.AccessLemmas.{performs_one, performs_then}
use Rattle.xen_page.specs.Access.{Passes, Performs, Tells}
use Rattle.xen_page.specs.Run.{HasRead, reads_of, writes_of}
use Rattle.xen_page.specs.declared.access.Access.{Access}
use Rattle.xen_page.specs.declared.access.Access.TheVariants as access
use Rattle.xen_page.specs.declared.place.Place.{Place}

-- the place n words further
abbrev pub further : Place → ℕ → Place
further at n = record { frame = at.frame; word = at.word + n }

pub reads_of-append : (at : Place) (ws vs : List ℕ) → reads_of at (ws ++ vs) ≡ reads_of at ws ++ reads_of (further at (length ws)) vs
reads_of-append at [] vs = let e : at.word + 0 ≡ at.word = omega arith in rw e refl
reads_of-append at (w ∷ ws) vs =
    let e : at.word + 1 + length ws ≡ at.word + suc (length ws) = omega arith in
    ap (λ t. access.Read at w ∷ t) (reads_of-append (further at 1) ws vs ∙ ap (λ k. reads_of (further at 1) ws ++ reads_of (record { frame = at.frame; word = k }) vs) e)

-- one more word
pub performs_more : {S : Type 0} (log : S → Option (List Access)) (gives : S → Access → S → Type 0) (at : Place) (words : List ℕ) (n v : ℕ) (old mid new : S) →
    length words ≡ n → Performs log gives old (reads_of at words) mid →
    Tells (log mid) (log new) (access.Read (further at n) v ∷ []) → gives mid (access.Read (further at n) v) new →
    Performs log gives old (reads_of at (words ++ v ∷ [])) new
performs_more log gives at words n v old mid new e p told given =
    let is : reads_of at (words ++ v ∷ []) ≡ reads_of at words ++ access.Read (further at n) v ∷ [] =
    reads_of-append at words (v ∷ []) ∙ ap (λ k. reads_of at words ++ access.Read (further at k) v ∷ []) e in
    rw is (performs_then log gives old mid new (reads_of at words) (access.Read (further at n) v ∷ []) p
    (performs_one log gives mid (access.Read (further at n) v) new told given))

All-one : {X : Type 0} (P : X → Type 0) (x : X) → P x → All P (x ∷ [])
All-one P x h = grind arith

pub below_more : (words : List ℕ) (v : ℕ) → All (λ word. word < 2 ^ 32) words → v < 2 ^ 32 → All (λ word. word < 2 ^ 32) (words ++ v ∷ [])
below_more words v b h = grind (arith, All-append (λ word. word < 2 ^ 32) words (v ∷ []))

abbrev pub bytes : List ℕ → List ℕ
bytes words = flat_map (to_le_bytes w32) words

pub length-bytes : (words : List ℕ) → length (bytes words) ≡ 4 * length words
length-bytes [] = refl
length-bytes (w ∷ ws) = omega (arith, length-append (to_le_bytes w32 w) (bytes ws), length-bytes ws)

-- a word's bytes behind those of the words before it
pub bytes_more : (words start : List ℕ) (n v : ℕ) → length words ≡ n →
    take (4 * n) (bytes words ++ drop (4 * n) start) ++ to_le_bytes w32 v ++ drop (4 * n + 4) (bytes words ++ drop (4 * n) start)
    ≡ bytes (words ++ v ∷ []) ++ drop (4 * (n + 1)) start
bytes_more words start n v e =
    let b = bytes words in
    let d = drop (4 * n) start in
    let len : length b ≡ 4 * n = length-bytes words ∙ ap (λ k. 4 * k) e in
    let front : take (4 * n) (b ++ d) ≡ b = subst (λ k. take k (b ++ d) ≡ b) len (take-append_seam b d) in
    let back : drop (4 * n + 4) (b ++ d) ≡ drop (4 * (n + 1)) start =
    subst (λ k. drop (k + 4) (b ++ d) ≡ drop 4 d) len (drop-append-add b d 4) ∙ drop-drop 4 (4 * n) start ∙ ap (λ k. drop k start) (let e : 4 * n + 4 ≡ 4 * (n + 1) = omega arith in e) in
    let more : bytes (words ++ v ∷ []) ≡ b ++ to_le_bytes w32 v = flat_map-append (to_le_bytes w32) words (v ∷ []) in
    let end = drop (4 * (n + 1)) start in
    ap (λ l. l ++ to_le_bytes w32 v ++ drop (4 * n + 4) (b ++ d)) front ∙ ap (λ l. b ++ to_le_bytes w32 v ++ l) back
    ∙ ap (λ l. l ++ end) (sym more)

-- words whose bytes these are
abbrev pub words_of : List ℕ → List ℕ
words_of (a ∷ b ∷ c ∷ d ∷ bs) = from_le_bytes w32 (a ∷ b ∷ c ∷ d ∷ []) ∷ words_of bs
words_of bs = []

-- the first four of them
first_four : (a b c d : ℕ) (bs : List ℕ) → ((i : ℕ) → get_or (a ∷ b ∷ c ∷ d ∷ bs) i 0 < 256) → (i : ℕ) → get_or (let e : List ℕ = a ∷ b ∷ c ∷ d ∷ [] in e) i 0 < 256
first_four a b c d bs h zero = h 0
first_four a b c d bs h (suc zero) = h 1
first_four a b c d bs h (suc (suc zero)) = h 2
first_four a b c d bs h (suc (suc (suc zero))) = h 3
first_four a b c d bs h (suc (suc (suc (suc i)))) = lit< tt

pub bytes-words_of : (n : ℕ) (bs : List ℕ) → length bs ≡ 4 * n → ((i : ℕ) → get_or bs i 0 < 256) → bs ≡ bytes (words_of bs)
bytes-words_of n [] e h = refl
bytes-words_of n (a ∷ []) e h = absurd (omega (arith, e))
bytes-words_of n (a ∷ b ∷ []) e h = absurd (omega (arith, e))
bytes-words_of n (a ∷ b ∷ c ∷ []) e h = absurd (omega (arith, e))
bytes-words_of zero (a ∷ b ∷ c ∷ d ∷ bs) e h = absurd (omega (arith, e))
bytes-words_of (suc n) (a ∷ b ∷ c ∷ d ∷ bs) e h =
    let four : List ℕ = a ∷ b ∷ c ∷ d ∷ [] in
    let one : to_le_bytes w32 (from_le_bytes w32 four) ≡ four = le_bytes_4 four (from_le_bytes w32 four) refl (first_four a b c d bs h) refl in
    let rest : bs ≡ bytes (words_of bs) = bytes-words_of n bs (omega (arith, e)) (λ i. h (suc (suc (suc (suc i))))) in
    ap (λ l. four ++ l) rest ∙ ap (λ l. l ++ bytes (words_of bs)) (sym one)

pub words_of-below : (bs : List ℕ) → ((i : ℕ) → get_or bs i 0 < 256) → All (λ word. word < 2 ^ 32) (words_of bs)
words_of-below [] h = All-nil (λ word. word < 2 ^ 32)
words_of-below (a ∷ []) h = All-nil (λ word. word < 2 ^ 32)
words_of-below (a ∷ b ∷ []) h = All-nil (λ word. word < 2 ^ 32)
words_of-below (a ∷ b ∷ c ∷ []) h = All-nil (λ word. word < 2 ^ 32)
words_of-below (a ∷ b ∷ c ∷ d ∷ bs) h =
    let head : from_le_bytes w32 (a ∷ b ∷ c ∷ d ∷ []) < 2 ^ 32 = omega (arith, h 0, h 1, h 2, h 3) in
    All-append (λ word. word < 2 ^ 32) (from_le_bytes w32 (a ∷ b ∷ c ∷ d ∷ []) ∷ []) (words_of bs) (All-one (λ word. word < 2 ^ 32) (from_le_bytes w32 (a ∷ b ∷ c ∷ d ∷ [])) head)
    (words_of-below bs (λ i. h (suc (suc (suc (suc i))))))

-- a bus that any access leaves as it is
pub passes_same : {S : Type 0} (s : S) (t : List Access) → Passes (λ old a new. new ≡ old) s t s
passes_same s [] = refl
passes_same s (a ∷ t) = (s, refl, passes_same s t)

pub writes_of-append : (at : Place) (ws vs : List ℕ) → writes_of at (ws ++ vs) ≡ writes_of at ws ++ writes_of (further at (length ws)) vs
writes_of-append at [] vs = let e : at.word + 0 ≡ at.word = omega arith in rw e refl
writes_of-append at (w ∷ ws) vs =
    let e : at.word + 1 + length ws ≡ at.word + suc (length ws) = omega arith in
    ap (λ t. access.Write at w ∷ t) (writes_of-append (further at 1) ws vs ∙ ap (λ k. writes_of (further at 1) ws ++ writes_of (record { frame = at.frame; word = k }) vs) e)

-- one more word written
pub writes_more : {S : Type 0} (log : S → Option (List Access)) (gives : S → Access → S → Type 0) (at : Place) (words : List ℕ) (n v : ℕ) (old mid new : S) →
    length words ≡ n → Performs log gives old (writes_of at words) mid →
    Tells (log mid) (log new) (access.Write (further at n) v ∷ []) → gives mid (access.Write (further at n) v) new →
    Performs log gives old (writes_of at (words ++ v ∷ [])) new
writes_more log gives at words n v old mid new e p told given =
    let is : writes_of at (words ++ v ∷ []) ≡ writes_of at words ++ access.Write (further at n) v ∷ [] =
    writes_of-append at words (v ∷ []) ∙ ap (λ k. writes_of at words ++ access.Write (further at k) v ∷ []) e in
    rw is (performs_then log gives old mid new (writes_of at words) (access.Write (further at n) v ∷ []) p
    (performs_one log gives mid (access.Write (further at n) v) new told given))

-- the bytes up to the next word's end
pub bytes_up_to : (words bs : List ℕ) (n v : ℕ) → to_le_bytes w32 v ≡ take 4 (drop (4 * n) bs) → take (4 * n) bs ≡ bytes words →
    take (4 * (n + 1)) bs ≡ bytes (words ++ v ∷ [])
bytes_up_to words bs n v here before =
    let at : 4 * (n + 1) ≡ 4 * n + 4 = omega arith in
    let more : bytes (words ++ v ∷ []) ≡ bytes words ++ to_le_bytes w32 v = flat_map-append (to_le_bytes w32) words (v ∷ []) in
    ap (λ k. take k bs) at ∙ take-add (4 * n) 4 bs ∙ ap (λ l. l ++ take 4 (drop (4 * n) bs)) before
    ∙ ap (λ l. bytes words ++ l) (sym here) ∙ sym more

-- a word set behind those whose bytes these are
pub set_more : (words bs : List ℕ) (n v : ℕ) → n < length words → to_le_bytes w32 v ≡ take 4 (drop (4 * n) bs) → take (4 * n) bs ≡ bytes (take n words) →
    take (4 * (n + 1)) bs ≡ bytes (take (n + 1) (set words n v))
set_more words bs n v h here before =
    bytes_up_to (take n words) bs n v here before ∙ ap bytes (sym (take-set_at words n (n + 1) v refl h))

pub set_below : (words : List ℕ) (n v : ℕ) → n < length words → v < 2 ^ 32 → All (λ word. word < 2 ^ 32) (take n words) →
    All (λ word. word < 2 ^ 32) (take (n + 1) (set words n v))
set_below words n v h small before = rw (take-set_at words n (n + 1) v refl h) (below_more (take n words) v before small)

-- four bytes of bytes
take_below : (m : ℕ) (bs : List ℕ) → ((i : ℕ) → get_or bs i 0 < 256) → (i : ℕ) → get_or (take m bs) i 0 < 256
take_below zero bs h i = lit< tt
take_below (suc m) [] h i = lit< tt
take_below (suc m) (b ∷ bs) h zero = h 0
take_below (suc m) (b ∷ bs) h (suc i) = take_below m bs (λ j. h (suc j)) i

pub four_of : (bs four : List ℕ) (n v : ℕ) → n + 4 ≤ length bs → ((i : ℕ) → get_or bs i 0 < 256) → four ≡ take 4 (drop n bs) → v ≡ from_le_bytes w32 four →
    to_le_bytes w32 v ≡ take 4 (drop n bs)
four_of bs four n v room small is value =
    let behind : (i : ℕ) → get_or (drop n bs) i 0 < 256 = λ i. rw (get_or-drop n bs i 0) (small (n + i)) in
    let count : length (take 4 (drop n bs)) ≡ 4 = omega (arith, length-take 4 (drop n bs), length-drop n bs, room) in
    le_bytes_4 (take 4 (drop n bs)) v count (take_below 4 (drop n bs) behind) (value ∙ ap (from_le_bytes w32) is)

-- one more word's bytes in their room
pub bytes_on : (words room start : List ℕ) (n : ℕ) → n < length words → room ≡ bytes (take n words) ++ drop (4 * n) start →
    take (4 * n) room ++ to_le_bytes w32 (get_or words n 0) ++ drop (4 * n + 4) room ≡ bytes (take (n + 1) words) ++ drop (4 * (n + 1)) start
bytes_on words room start n h is =
    let v = get_or words n 0 in
    let count : length (take n words) ≡ n = omega (arith, length-take n words, h) in
    ap (λ l. take (4 * n) l ++ to_le_bytes w32 v ++ drop (4 * n + 4) l) is ∙ bytes_more (take n words) start n v count
    ∙ ap (λ l. bytes l ++ drop (4 * (n + 1)) start) (sym (take_more words n 0 h))

-- the bytes of all words stand first
pub bytes_first : (words start : List ℕ) (n : ℕ) → length words ≤ n → take (4 * length words) (bytes (take n words) ++ drop (4 * n) start) ≡ bytes words
bytes_first words start n h =
    let rest = drop (4 * n) start in
    ap (λ l. take (4 * length words) (bytes l ++ rest)) (take_all n words h)
    ∙ subst (λ k. take k (bytes words ++ rest) ≡ bytes words) (length-bytes words) (take-append_seam (bytes words) rest)

pub all_below : (words : List ℕ) → ((i : ℕ) → get_or words i 0 < 2 ^ 32) → All (λ word. word < 2 ^ 32) words
all_below words h = λ i d lt. rw (get_or_default words i d 0 lt) (h i)

-- one more word of a run, and its bytes
pub read_more : {S : Type 0} (log : S → Option (List Access)) (gives : S → Access → S → Type 0) (at : Place) (n v : ℕ) (old mid new : S) (start room : List ℕ) →
    HasRead log gives at n old start mid room → v < 2 ^ 32 →
    Tells (log mid) (log new) (access.Read (further at n) v ∷ []) → gives mid (access.Read (further at n) v) new →
    HasRead log gives at (n + 1) old start new (take (4 * n) room ++ to_le_bytes w32 v ++ drop (4 * n + 4) room)
read_more log gives at n v old mid new start room h small told given =
    let put : List ℕ → List ℕ = λ l. take (4 * n) l ++ to_le_bytes w32 v ++ drop (4 * n + 4) l in
    record {
      words = h.words ++ v ∷ [];
      many = omega (arith, length-append h.words (v ∷ []), h.many);
      below = below_more h.words v h.below small;
      performed = performs_more log gives at h.words n v old mid new h.many h.performed told given;
      filled = ap put h.filled ∙ bytes_more h.words start n v h.many;
    }
