-- The front of a list that stays where another is joined to it.
use Rattle.std.proofs.Common.{◌≡◌, ℕ, suc, ◌+◌, ◌-◌, ◌<◌, ◌≤◌, refl, None, List, [], ◌∷◌, ◌++◌, sym, ap, ◌∙◌, arith, subst, length, take, drop, set, get_or, Bool, true, append_assoc}
use Rattle.std.specs.Prelude.{if◌then◌else◌}
use Rattle.std.proofs.Math.Seq.{take-suc, take-append-add}
use Rattle.std.proofs.lemmas.List.{take_more_set, drop-set-lt, take-append-le, take-take, length-take-le, length-append}
use Rattle.bpf_note.specs.declared.bound.Bound.{Bound}
use Rattle.bpf_note.specs.Parts.{IsNormal}
use Rattle.bpf_note.specs.Bounds.{AreJoined, IsJoinedFront, says, with_said, alone, paired}
use Rattle.bpf_note.proofs.BoundLemmas.{same_bounds, first_at}
use Rattle.bpf_note.proofs.PlaceLemmas.{slice_rest}
use Rattle.bpf_note.proofs.MergeLemmas.{merged, merged_is, merged_joined, step_left, step_right, step_both, normal_drop, head_kept, drop_at, append_none, alone_silent, alone_same, front_normal}

-- the two lists merged are the first up to a place, and what is left merged
abbrev pub IsMergedTo : List Bound → List Bound → ℕ → ℕ → Type 0
IsMergedTo xs ys i j = take i xs ++ merged (drop i xs) (drop j ys) ≡ merged xs ys

one_more : (xs : List Bound) (i : ℕ) (d : Bound) → i < length xs → take (i + 1) xs ≡ take i xs ++ get_or xs i d ∷ []
one_more xs i d h = let next : i + 1 ≡ suc i = omega arith in ap (λ (k : ℕ). take k xs) next ∙ take-suc xs i d h

-- one bound of the first list stays
kept_one : (xs ys : List Bound) (i : ℕ) (d c : Bound) → i < length xs → with_said c [] ≡ get_or xs i d ∷ [] →
    take (i + 1) xs ++ ys ≡ (take i xs ++ with_said c []) ++ ys
kept_one xs ys i d c h e = ap (λ (zs : List Bound). zs ++ ys) (one_more xs i d h ∙ ap (λ (zs : List Bound). take i xs ++ zs) (sym e))

pub kept_left : (xs ys : List Bound) (i j : ℕ) (d e : Bound) → IsNormal xs → i < length xs → j < length ys → (get_or xs i d).id < (get_or ys j e).id →
    (get_or xs i d).safe ≡ None → IsMergedTo xs ys i j → IsMergedTo xs ys (i + 1) j
kept_left xs ys i j d e n hi hj lt none k =
    let x : Bound = get_or xs i d in
    let says = (front_normal xs i d n hi).1 in
    let stays : with_said (alone (get_or xs i d)) [] ≡ get_or xs i d ∷ [] = head_kept (alone (get_or xs i d)) (get_or xs i d) [] [] says (alone_same (get_or xs i d) none) refl in
    kept_one xs (merged (drop (i + 1) xs) (drop j ys)) i d (alone (get_or xs i d)) hi stays ∙ step_left (take i xs) xs ys i j d e hi hj lt ∙ k

pub kept_right : (xs ys : List Bound) (i j : ℕ) (d e : Bound) → i < length xs → j < length ys → (get_or ys j e).id < (get_or xs i d).id →
    (get_or ys j e).top ≡ 0 → IsMergedTo xs ys i j → IsMergedTo xs ys i (j + 1)
kept_right xs ys i j d e hi hj lt none k =
    let silent : take i xs ++ with_said (alone (get_or ys j e)) [] ≡ take i xs = ap (λ (zs : List Bound). take i xs ++ zs) (alone_silent (get_or ys j e) [] none) ∙ append_none (take i xs) in
    sym (ap (λ (zs : List Bound). zs ++ merged (drop i xs) (drop (j + 1) ys)) silent) ∙ step_right (take i xs) xs ys i j d e hi hj lt ∙ k

pub kept_both : (xs ys : List Bound) (i j : ℕ) (d e : Bound) → IsNormal xs → i < length xs → j < length ys → (get_or xs i d).id ≡ (get_or ys j e).id →
    paired (get_or xs i d) (get_or ys j e) ≡ get_or xs i d → IsMergedTo xs ys i j → IsMergedTo xs ys (i + 1) (j + 1)
kept_both xs ys i j d e n hi hj same p k =
    let says = (front_normal xs i d n hi).1 in
    let stays : with_said (paired (get_or xs i d) (get_or ys j e)) [] ≡ get_or xs i d ∷ [] = head_kept (paired (get_or xs i d) (get_or ys j e)) (get_or xs i d) [] [] says p refl in
    kept_one xs (merged (drop (i + 1) xs) (drop (j + 1) ys)) i d (paired (get_or xs i d) (get_or ys j e)) hi stays ∙ step_both (take i xs) xs ys i j d e hi hj same ∙ k

-- a front, and the rest merged behind it, is the join
pub merged_front : (xs ys front : List Bound) (i j : ℕ) → IsNormal xs → IsNormal ys → front ++ merged (drop i xs) (drop j ys) ≡ merged xs ys →
    IsJoinedFront xs ys i j front
merged_front xs ys front i j n m k = λ zs a.
    let r = merged_is 0 (drop i xs) (drop j ys) (normal_drop 0 i xs n) (normal_drop 0 j ys m) in
    let same : zs ≡ merged (drop i xs) (drop j ys) = same_bounds 0 zs (merged (drop i xs) (drop j ys)) a.normal r.normal (λ id. (a.tops id ∙ sym (r.tops id), a.safes id ∙ sym (r.safes id))) in
    merged_joined xs ys (front ++ zs) n m (ap (λ (ws : List Bound). front ++ ws) same ∙ k)

-- lists that are the same from a place on
same_at : (xs ys : List Bound) (k : ℕ) (d : Bound) → drop k xs ≡ drop k ys → get_or xs k d ≡ get_or ys k d
same_at xs ys k d e = sym (first_at xs k d) ∙ ap (λ (zs : List Bound). get_or zs 0 d) e ∙ first_at ys k d

same_behind : (xs ys : List Bound) (k : ℕ) (d : Bound) → k < length xs → k < length ys → drop k xs ≡ drop k ys → drop (k + 1) xs ≡ drop (k + 1) ys
same_behind xs ys k d hx hy e =
    let whole : get_or xs k d ∷ drop (k + 1) xs ≡ get_or ys k d ∷ drop (k + 1) ys = sym (drop_at xs k d hx) ∙ e ∙ drop_at ys k d hy in cc

-- one more pair in front, where the first list has it in its place
pub paired_step : (now xs ys : List Bound) (k : ℕ) (d e b : Bound) → k < length now → k < length xs → k < length ys →
    (get_or now k d).id ≡ (get_or ys k e).id → b ≡ paired (get_or now k d) (get_or ys k e) → says b ≡ true →
    (take k now ++ merged (drop k xs) (drop k ys) ≡ merged xs ys) × (drop k now ≡ drop k xs) →
    (take (k + 1) (set now k b) ++ merged (drop (k + 1) xs) (drop (k + 1) ys) ≡ merged xs ys) × (drop (k + 1) (set now k b) ≡ drop (k + 1) xs)
paired_step now xs ys k d e b hn hx hy same is said h =
    let x : get_or now k d ≡ get_or xs k d = same_at now xs k d h.1 in
    let both : b ≡ paired (get_or xs k d) (get_or ys k e) = is ∙ ap (λ (a : Bound). paired a (get_or ys k e)) x in
    let ids : (get_or xs k d).id ≡ (get_or ys k e).id = sym (ap (λ (a : Bound). a.id) x) ∙ same in
    let one : with_said b [] ≡ b ∷ [] = ap (λ (t : Bool). if t then b ∷ [] else []) said in
    let front : take (k + 1) (set now k b) ≡ take k now ++ with_said (paired (get_or xs k d) (get_or ys k e)) [] =
    take_more_set now k b hn ∙ ap (λ (zs : List Bound). take k now ++ zs) (sym one ∙ ap (λ (a : Bound). with_said a []) both) in (
      ap (λ (zs : List Bound). zs ++ merged (drop (k + 1) xs) (drop (k + 1) ys)) front ∙ step_both (take k now) xs ys k k d e hx hy ids ∙ h.0,
      drop-set-lt (k + 1) now k b (omega arith) ∙ same_behind now xs k d hn hx h.1,
    )

-- what is left of a list
pub rest_normal : (xs : List Bound) (i : ℕ) → IsNormal xs → IsNormal (take (length xs - i) (drop i xs))
rest_normal xs i n = subst IsNormal (sym (slice_rest xs i)) (normal_drop 0 i xs n)

rest_joined : (xs ys zs : List Bound) (i j : ℕ) → AreJoined (take (length xs - i) (drop i xs)) (take (length ys - j) (drop j ys)) zs → AreJoined (drop i xs) (drop j ys) zs
rest_joined xs ys zs i j a = subst (λ (us : List Bound). AreJoined us (drop j ys) zs) (slice_rest xs i) (subst (λ (vs : List Bound). AreJoined (take (length xs - i) (drop i xs)) vs zs) (slice_rest ys j) a)

-- what is cut off behind two fronts
pub cut_front : (new xs front behind others : List Bound) (i n size : ℕ) → i ≤ length xs → n ≤ length front → i + n ≤ size →
    new ≡ take (i + n) (take size ((take i xs ++ (front ++ behind)) ++ others)) → new ≡ take i xs ++ take n front
cut_front new xs front behind others i n size hi hn h cut =
    let len : length (take i xs) ≡ i = length-take-le i xs hi in
    let whole = take i xs ++ (front ++ behind) in
    let long : i + n ≤ length (take i xs ++ (front ++ behind)) = omega (arith, length-append (take i xs) (front ++ behind), length-append front behind, len) in
    cut ∙ take-take (i + n) size (whole ++ others) h ∙ take-append-le (i + n) whole others long ∙ ap (λ (m : ℕ). take (m + n) whole) (sym len)
    ∙ take-append-add (take i xs) (front ++ behind) n ∙ ap (λ (zs : List Bound). take i xs ++ zs) (take-append-le n front behind hn)

-- two fronts, one behind the other
pub fronts_joined : (xs ys front zs : List Bound) (i j n : ℕ) → IsJoinedFront xs ys i j (take i xs) →
    IsJoinedFront (take (length xs - i) (drop i xs)) (take (length ys - j) (drop j ys)) n n front →
    AreJoined (take (length (take (length xs - i) (drop i xs)) - n) (drop n (take (length xs - i) (drop i xs))))
    (take (length (take (length ys - j) (drop j ys)) - n) (drop n (take (length ys - j) (drop j ys)))) zs → AreJoined xs ys ((take i xs ++ front) ++ zs)
fronts_joined xs ys front zs i j n k p a =
    let rest = rest_joined (take (length xs - i) (drop i xs)) (take (length ys - j) (drop j ys)) zs n n a in
    subst (AreJoined xs ys) (sym (append_assoc (take i xs) front zs)) (k (front ++ zs) (rest_joined xs ys (front ++ zs) i j (p zs rest)))
