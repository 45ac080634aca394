-- Words of a page that were read one after another, and the bytes of them.
use Rattle.std.specs.Prelude.{nat_lt}
use Rattle.std.proofs.lemmas.Bool.Decides.{nat_tests}
use Rattle.std.proofs.Common.{Bool, true, false, ◌≡◌, ℕ, zero, suc, ◌+◌, ◌-◌, ◌*◌, ◌<◌, ◌≤◌, ◌^◌, List, [], ◌∷◌, ◌++◌, Option, length, take, drop, refl, sym, ◌∙◌, ap, append_assoc, arith, subst}
use Rattle.std.specs.Int.{w32, to_le_bytes}
use Rattle.xen_netif.specs.Copy.{bytes_from, bytes_in, bytes_of}
use Rattle.xen_netif.specs.declared.fragment.Fragment.{Fragment}
use Rattle.xen_page.specs.Access.{Performs}
use Rattle.xen_page.specs.declared.access.Access.{Access}
use Rattle.xen_page.specs.declared.access.Access.TheVariants as access
use Rattle.xen_page.proofs.AccessLemmas.{performs_none, performs_then}
use Rattle.xen_steps.specs.Drive.{accesses}
use Rattle.xen_steps.specs.Event.{Read}
use Rattle.xen_steps.specs.Pages.{AreWords, HasRoom, page_reads}
use Rattle.xen_steps.specs.Places.{page_word}
use Rattle.xen_steps.proofs.DriveLemmas.{accesses-append}
use Rattle.xen_turns.specs.Reads.{AreReadFrom}

words-append : (ws vs : List ℕ) → AreWords ws → AreWords vs → AreWords (ws ++ vs)
words-append [] vs b c = c
words-append (w ∷ ws) vs b c = (b.0, words-append ws vs b.1 c)

page_reads-append : (frame place : ℕ) (ws vs : List ℕ) → page_reads frame place (ws ++ vs) ≡ page_reads frame place ws ++ page_reads frame (place + length ws) vs
page_reads-append frame place [] vs = let e : place + 0 ≡ place = omega arith in rw e refl
page_reads-append frame place (w ∷ ws) vs =
    let e : place + 1 + length ws ≡ place + suc (length ws) = omega arith in
    ap (λ t. Read (page_word frame place) w ∷ t) (page_reads-append frame (place + 1) ws vs ∙ ap (λ p. page_reads frame (place + 1) ws ++ page_reads frame p vs) e)

pub bytes_of-append : (ws vs : List ℕ) → bytes_of (ws ++ vs) ≡ bytes_of ws ++ bytes_of vs
bytes_of-append [] vs = refl
bytes_of-append (w ∷ ws) vs = ap (λ l. to_le_bytes w32 w ++ l) (bytes_of-append ws vs) ∙ sym (append_assoc (to_le_bytes w32 w) (bytes_of ws) (bytes_of vs))

pub bytes_from-append : (f : Fragment) (place : ℕ) (ws vs : List ℕ) → bytes_from f place (ws ++ vs) ≡ bytes_from f place ws ++ bytes_from f (place + length ws) vs
bytes_from-append f place [] vs = let e : place + 0 ≡ place = omega arith in rw e refl
bytes_from-append f place (w ∷ ws) vs =
    let e : place + 1 + length ws ≡ place + suc (length ws) = omega arith in
    ap (λ l. bytes_in f place w ++ l) (bytes_from-append f (place + 1) ws vs ∙ ap (λ p. bytes_from f (place + 1) ws ++ bytes_from f p vs) e)
    ∙ sym (append_assoc (bytes_in f place w) (bytes_from f (place + 1) ws) (bytes_from f (place + suc (length ws)) vs))

take-nil : (n : ℕ) → take n (let e : List ℕ = [] in e) ≡ []
take-nil zero = refl
take-nil (suc n) = refl

-- words that lie whole in a fragment give all their bytes
take_four : (n v : ℕ) → 4 ≤ n → take n (to_le_bytes w32 v) ≡ to_le_bytes w32 v
take_four n v h =
    let e : n ≡ suc (suc (suc (suc (n - 4)))) = omega arith in
    rw e (ap (λ l. to_le_bytes w32 v ++ l) (take-nil (n - 4)))

pub bytes_from-whole : (f : Fragment) (place : ℕ) (ws : List ℕ) → f.offset ≤ 4 * place → 4 * (place + length ws) ≤ f.offset + f.size → bytes_from f place ws ≡ bytes_of ws
bytes_from-whole f place [] h g = refl
bytes_from-whole f place (w ∷ ws) h g =
    let none : f.offset - 4 * place ≡ 0 = omega arith in
    let n = f.offset + f.size - 4 * place - (f.offset - 4 * place) in
    let one : bytes_in f place w ≡ to_le_bytes w32 w = ap (λ k. take n (drop k (to_le_bytes w32 w))) none ∙ take_four n w (omega arith) in
    ap (λ l. l ++ bytes_from f (place + 1) ws) one ∙ ap (λ l. to_le_bytes w32 w ++ l) (bytes_from-whole f (place + 1) ws (omega arith) (omega arith))

pub read_none : {S : Type 0} (log : S → Option (List Access)) (gives : S → Access → S → Type 0) (frame place : ℕ) (a : S) → AreReadFrom log gives frame place [] a a
read_none log gives frame place a = record { below = tt; performed = performs_none log gives a }

-- words, and those after them
pub read_then : {S : Type 0} (log : S → Option (List Access)) (gives : S → Access → S → Type 0) (frame place next : ℕ) (ws vs : List ℕ) (a b c : S) → next ≡ place + length ws →
    AreReadFrom log gives frame place ws a b → AreReadFrom log gives frame next vs b c → AreReadFrom log gives frame place (ws ++ vs) a c
read_then log gives frame place next ws vs a b c e p q =
    let t = page_reads frame place ws in
    let u = page_reads frame next vs in
    let joined : accesses (page_reads frame place (ws ++ vs)) ≡ accesses t ++ accesses u =
    ap accesses (page_reads-append frame place ws vs ∙ ap (λ k. t ++ page_reads frame k vs) (sym e)) ∙ accesses-append t u in
    record {
      below = words-append ws vs p.below q.below;
      performed = subst (λ l. Performs log gives a l c) (sym joined) (performs_then log gives a b c (accesses t) (accesses u) p.performed q.performed);
    }

pub read_one : {S : Type 0} (log : S → Option (List Access)) (gives : S → Access → S → Type 0) (frame place v : ℕ) (a b : S) → v < 2 ^ 32 →
    Performs log gives a (access.Read (page_word frame place) v ∷ []) b → AreReadFrom log gives frame place (v ∷ []) a b
read_one log gives frame place v a b h p = record { below = (h, tt); performed = p }

-- room before whole words is room after them
pub room_after_whole : (f : Fragment) (from to len : ℕ) → from ≤ to → (from < to → (f.offset ≤ 4 * from) × (4 * to ≤ f.offset + f.size)) → HasRoom len f from 0 → HasRoom (len + 4 * (to - from)) f to 0
room_after_whole f from to len h whole r = by (nat_lt from to) refl
  where
    by : (b : Bool) → nat_lt from to ≡ b → HasRoom (len + 4 * (to - from)) f to 0
    by true e =
        let lt : from < to = grind (arith, nat_tests) in
        let in_it = whole lt in
        (λ g. omega (arith, r.0 in_it.0, in_it.0, in_it.1), λ g. absurd (omega (arith, in_it.0)))
    by false e =
        let le : to ≤ from = grind (arith, nat_tests) in
        let same : to ≡ from = omega arith in
        let none : len + 4 * (to - from) ≡ len = omega arith in
        subst (λ p. HasRoom (len + 4 * (to - from)) f p 0) (sym same) (subst (λ k. HasRoom k f from 0) (sym none) r)

pub whole_bytes : (f : Fragment) (from to : ℕ) (ws : List ℕ) → length ws ≡ to - from → from ≤ to → (from < to → (f.offset ≤ 4 * from) × (4 * to ≤ f.offset + f.size)) → bytes_from f from ws ≡ bytes_of ws
whole_bytes f from to [] e h whole = refl
whole_bytes f from to (w ∷ ws) e h whole =
    let in_it = whole (omega (arith, e)) in
    bytes_from-whole f from (w ∷ ws) in_it.0 (omega (arith, e, in_it.1))

-- and the whole words fit
pub whole_room : (f : Fragment) (from to len : ℕ) → (from < to → (f.offset ≤ 4 * from) × (4 * to ≤ f.offset + f.size)) → HasRoom len f from 0 → from < to → len + 4 * (to - from) ≤ 65535
whole_room f from to len whole r lt =
    let in_it = whole lt in
    omega (arith, r.0 in_it.0, in_it.0, in_it.1)
