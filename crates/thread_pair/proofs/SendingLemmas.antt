-- What is left to send once the next packet was sent.
use Rattle.std.proofs.Common.{◌≡◌, ℕ, ◌+◌, ◌-◌, ◌<◌, suc, Bool, true, false, nat_eq, List, [], ◌∷◌, ◌++◌, drop, slice_get, refl, sym, subst, arith}
use Rattle.std.specs.Prelude.{if◌then◌else◌, replicate, IfSome}
use Rattle.std.proofs.lemmas.Bool.{eq-eqb}
use Rattle.xdp_load.specs.declared.packets.SentPacket.{SentPacket}
use Rattle.thread_pair.specs.Sending.{left_of}

less_by : (b : Bool) (k m : ℕ) (x : List ℕ) (rest : List (List ℕ)) → b ≡ true → m ≡ suc k → ((if b then replicate k x else []) ++ rest) ≡ drop 1 ((if b then replicate m x else []) ++ rest)
less_by true k m x rest e h = subst (λ (m : ℕ). (replicate k x ++ rest) ≡ drop 1 (replicate m x ++ rest)) (sym h) refl
less_by false k m x rest e h = absurd (cc)

pub less_left : (q n r : ℕ) (l : List SentPacket) → IfSome (slice_get l 0) (λ p. (p.queue ≡ q) × (n < p.times)) → r ≡ n + 1 → left_of q r l ≡ drop 1 (left_of q n l)
less_left q n r [] h e = refl
less_left q n r (p ∷ ps) h e =
    let some = h.1 in
    less_by (nat_eq p.queue q) (p.times - r) (p.times - n) p.bytes.items (left_of q 0 ps) (eq-eqb p.queue q h.0) (omega (arith, some, e))
