-- The lent words, of which a part is a lane's own.
use Rattle.std.proofs.Common.{◌≡◌, ℕ, ◌+◌, ◌≤◌, ◌++◌, List, length, take, drop, sym, ap, ◌∙◌, subst, arith}
use Rattle.std.proofs.lemmas.List.{drop-append-le, drop-map, length-drop, length-take, map-append, take-append-drop, take-append-le, take-map}
use Rattle.std.proofs.Math.Seq.{drop-append_seam, drop-append-add, take-append_seam}
use Rattle.std.specs.Int.{w32, from_le_bytes}
use Rattle.xen_host.specs.LentWords.{lent_words}
use Rattle.xen_host.proofs.LentWordLemmas.{lent_length}

abbrev pub Words : Type 0
Words = List (List ℕ)

-- They have this in place of a page from a place on.
abbrev pub replaced : ℕ → Words → Words → Words
replaced a part l = take a l ++ (part ++ drop (a + 1024) l)

cut : (a : ℕ) (l : Words) → a ≤ length l → length (take a l) ≡ a
cut a l h = omega (arith, length-take a l, h)

at_front : (a : ℕ) (l r : Words) → a ≤ length l → take a (take a l ++ r) ≡ take a l
at_front a l r h = subst (λ (m : ℕ). take m (take a l ++ r) ≡ take a l) (cut a l h) (take-append_seam (take a l) r)

at_part : (a : ℕ) (l r : Words) → a ≤ length l → drop a (take a l ++ r) ≡ r
at_part a l r h = subst (λ (m : ℕ). drop m (take a l ++ r) ≡ r) (cut a l h) (drop-append_seam (take a l) r)

at_rest : (a n : ℕ) (l r : Words) → a ≤ length l → drop (a + n) (take a l ++ r) ≡ drop n r
at_rest a n l r h = subst (λ (m : ℕ). drop (m + n) (take a l ++ r) ≡ drop n r) (cut a l h) (drop-append-add (take a l) r n)

drops : (a n : ℕ) (l : Words) → a ≤ length l → drop (a + n) l ≡ drop n (drop a l)
drops a n l h = ap (λ (x : Words). drop (a + n) x) (sym (take-append-drop a l)) ∙ at_rest a n l (drop a l) h

pub words_front : (a : ℕ) (l part : Words) → a ≤ length l → take a (lent_words (replaced a part l)) ≡ take a (lent_words l)
words_front a l part h =
    take-map (λ bytes. from_le_bytes w32 bytes) a (replaced a part l) ∙ ap (λ (x : Words). lent_words x) (at_front a l (part ++ drop (a + 1024) l) h)
    ∙ sym (take-map (λ bytes. from_le_bytes w32 bytes) a l)

pub words_part : (a n : ℕ) (l part : Words) → a ≤ length l → n ≤ length part →
    take n (drop a (lent_words (replaced a part l))) ≡ take n (lent_words part)
words_part a n l part h few =
    ap (λ (x : List ℕ). take n x) (drop-map (λ bytes. from_le_bytes w32 bytes) a (replaced a part l)
    ∙ ap (λ (x : Words). lent_words x) (at_part a l (part ++ drop (a + 1024) l) h) ∙ map-append (λ bytes. from_le_bytes w32 bytes) part (drop (a + 1024) l))
    ∙ take-append-le n (lent_words part) (lent_words (drop (a + 1024) l)) (omega (arith, lent_length part, few))

pub words_rest : (a n : ℕ) (l part : Words) → a + 1024 ≤ length l → length part ≡ 1024 → n ≤ 1024 →
    drop n (lent_words part) ≡ drop n (lent_words (take 1024 (drop a l))) → drop (a + n) (lent_words (replaced a part l)) ≡ drop (a + n) (lent_words l)
words_rest a n l part h w few same =
    let m = drop a l in
    let last = drop (a + 1024) l in
    let low : a ≤ length l = omega (arith, h) in
    let left : drop (a + n) (lent_words (replaced a part l)) ≡ lent_words (drop n part) ++ lent_words last =
    drop-map (λ bytes. from_le_bytes w32 bytes) (a + n) (replaced a part l)
    ∙ ap (λ (x : Words). lent_words x) (at_rest a n l (part ++ last) low ∙ drop-append-le n part last (omega (arith, w, few)))
    ∙ map-append (λ bytes. from_le_bytes w32 bytes) (drop n part) last in
    let parted : drop (a + n) l ≡ drop n (take 1024 m) ++ last =
    drops a n l low ∙ ap (λ (x : Words). drop n x) (sym (take-append-drop 1024 m))
    ∙ drop-append-le n (take 1024 m) (drop 1024 m) (omega (arith, length-take 1024 m, length-drop a l, h, few))
    ∙ ap (λ (x : Words). drop n (take 1024 m) ++ x) (sym (drops a 1024 l low)) in
    let right : drop (a + n) (lent_words l) ≡ lent_words (drop n (take 1024 m)) ++ lent_words last =
    drop-map (λ bytes. from_le_bytes w32 bytes) (a + n) l ∙ ap (λ (x : Words). lent_words x) parted
    ∙ map-append (λ bytes. from_le_bytes w32 bytes) (drop n (take 1024 m)) last in
    let mid : lent_words (drop n part) ≡ lent_words (drop n (take 1024 m)) =
    sym (drop-map (λ bytes. from_le_bytes w32 bytes) n part) ∙ (same ∙ drop-map (λ bytes. from_le_bytes w32 bytes) n (take 1024 m)) in
    left ∙ (ap (λ (x : List ℕ). x ++ lent_words last) mid ∙ sym right)
