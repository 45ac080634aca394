-- What was taken up to an end or a limit is the front of all.
use Rattle.std.proofs.Common.{◌≡◌, ◌<◌, ◌≤◌, ◌+◌, ◌++◌, Bool, true, false, ℕ, List, [], length, take, append-nil, Option, Some, None, Result, Ok, Err, Vec, Global, vec_len, subst, refl, sym, arith}
use Rattle.std.specs.Prelude.{IfOk, IfSome, nat_lt}
use Rattle.std.specs.Io.KnownBytes.{Consumes, IsAtEnd}
use Rattle.std.proofs.KnownBytes.{Consumes-trans}
use Rattle.std.proofs.lemmas.Bool.{ltb-true, ltb-false}
use Rattle.std.proofs.lemmas.List.{length-append, take_all}
use Rattle.std.proofs.Math.Seq.{take-append_seam}
use Rattle.xdp_commands.specs.Answer.{IsSettings, TakesAtMost}

front_is : (n : ℕ) (s ys : List ℕ) → length s ≤ n → (length s < n → ys ≡ []) → s ≡ take n (s ++ ys)
front_is n s ys few all = go (nat_lt (length s) n) refl
  where
    go : (b : Bool) → nat_lt (length s) n ≡ b → s ≡ take n (s ++ ys)
    go true t = rw (all (ltb-true _ _ t), append-nil s) (sym (take_all n s few))
    go false t =
        let over : n ≤ length s = ltb-false _ _ t in
        let full : n ≡ length s = omega arith in
        rw full (sym (take-append_seam s ys))

known_are : (n : ℕ) (old new : Option (List ℕ)) (s : List ℕ) → Consumes old new s → length s ≤ n → (length s < n → IsAtEnd new) → IfSome old (λ xs. s ≡ take n xs)
known_are n None new s took few all = tt
known_are n (Some xs) None s took few all = absurd took
known_are n (Some xs) (Some ys) s took few all = rw took (front_is n s ys few all)

pub settings_are : {E : Type 0} (old new : Option (List ℕ)) (r : Result (Vec ℕ Global) E) → IfOk r (λ v. Consumes old new v.items) → IfOk r (λ v. vec_len v ≤ 1048577)
    → IfOk r (λ v. vec_len v < 1048577 → IsAtEnd new) → IfOk r (λ v. IsSettings old new v.items)
settings_are old new (Err e) took few all = tt
settings_are old new (Ok v) took few all =
    let short = subst (λ k. k ≤ 1048577) v.ok.0 few in
    let end = λ (h : length v.items < 1048577). all (subst (λ k. k < 1048577) (sym v.ok.0) h) in
    record { took = took; few = short; all = end; known = known_are 1048577 old new v.items took short end }

-- some bytes, and then at most n
pub takes_more : (m n : ℕ) (a b c : Option (List ℕ)) (bs : List ℕ) → Consumes a b bs → TakesAtMost n b c → length bs + n ≤ m → TakesAtMost m a c
takes_more m n a b c bs before more few =
    let (taken, took, short) = more in
    (bs ++ taken, Consumes-trans a b c bs taken before took, rw length-append (omega (arith, short, few)))
