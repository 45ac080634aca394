-- The parts of keys, and what a row holds for.
use Rattle.std.proofs.Common.{◌≡◌, ℕ, ◌+◌, ◌-◌, ◌*◌, ◌/◌, ◌^◌, ◌<◌, ◌≤◌, List, length, take, drop, arith, sym, ◌∙◌, ap, subst, refl}
use Rattle.std.proofs.lemmas.List.{length-take-le, length-drop, get_or-drop}
use Rattle.std.proofs.Math.Seq.{take-length}
use Rattle.bpf_note.specs.declared.key.KeyKind.{KeyKind}
use Rattle.bpf_note.specs.declared.key.KeyKind.TheVariants.{Exact, Prefix}
use Rattle.bpf_note.specs.Keys.{size, width, bits_of, data_of}
use Rattle.bpf_lists.specs.Keys.{row, count, value, first, Holds}
use Rattle.bpf_lists.specs.Order.{Covers}
use Rattle.bpf_lists.proofs.RowLemmas.{row_inside}
use Rattle.bpf_lists.proofs.ValueLemmas.{AreBytes, take_bytes, alike_whole}

pub data_width : (kind : KeyKind) (key : List ℕ) → length key ≡ size kind → length (data_of kind key) ≡ width kind
data_width (Exact bytes) key long = long
data_width (Prefix bytes) key long = length-drop 4 key ∙ (let e : length key ≡ 4 + bytes = long in omega arith)

pub data_are_bytes : (kind : KeyKind) (key : List ℕ) → AreBytes key → AreBytes (data_of kind key)
data_are_bytes (Exact bytes) key h = h
data_are_bytes (Prefix bytes) key h = λ i. subst (λ n. n < 256) (sym (get_or-drop 4 key i 0)) (h (4 + i))

pub row_long : (kind : KeyKind) (keys : List ℕ) (r : ℕ) → r < count kind keys → length (row kind keys r) ≡ size kind
row_long kind keys r less =
    let inside = row_inside kind keys r less in
    let rest = length-drop (size kind * r) keys in
    let part = length-take-le (size kind * r + size kind - size kind * r) (drop (size kind * r) keys) (omega arith) in
    omega arith

pub row_bytes : (kind : KeyKind) (keys : List ℕ) (r : ℕ) → AreBytes keys → AreBytes (row kind keys r)
row_bytes kind keys r h =
    take_bytes (size kind * r + size kind - size kind * r) (drop (size kind * r) keys)
    (λ i. subst (λ n. n < 256) (sym (get_or-drop (size kind * r) keys i 0)) (h (size kind * r + i)))

pub holds_covers : (kind : KeyKind) (r key : List ℕ) → Holds kind r key → Covers kind r key
holds_covers (Exact bytes) r key same = (omega arith, ap (λ (xs : List ℕ). first (8 * bytes) xs) same)
holds_covers (Prefix bytes) r key holds = (holds.0, holds.2)

whole : (n : ℕ) (xs : List ℕ) → length xs ≡ n → take n xs ≡ xs
whole n xs long = ap (λ (m : ℕ). take m xs) (sym long) ∙ take-length xs

pub covers_holds : (kind : KeyKind) (r key : List ℕ) → length r ≡ size kind → length key ≡ size kind → AreBytes r → AreBytes key →
    bits_of kind key ≤ 8 * width kind → Covers kind r key → Holds kind r key
covers_holds (Exact bytes) r key r_long key_long f g within covers =
    let alike = (alike_whole bytes (8 * bytes) r key f g (r_long ∙ sym key_long) refl (omega (arith, r_long))).0 covers.1 in
    sym (whole bytes r r_long) ∙ alike ∙ whole bytes key key_long
covers_holds (Prefix bytes) r key r_long key_long f g within covers = (covers.0, within, covers.1)

-- a key that is too long finds nothing
pub holds_within : (kind : KeyKind) (r key : List ℕ) → Holds kind r key → bits_of kind key ≤ 8 * width kind
holds_within (Exact bytes) r key same = omega arith
holds_within (Prefix bytes) r key holds = holds.1

-- the first bits, in terms of the kind
pub first_is : (kind : KeyKind) (bits : ℕ) (key : List ℕ) → length key ≡ size kind →
    first bits (data_of kind key) ≡ value (data_of kind key) / 2 ^ (8 * width kind - bits)
first_is kind bits key long = ap (λ (n : ℕ). value (data_of kind key) / 2 ^ (8 * n - bits)) (data_width kind key long)
