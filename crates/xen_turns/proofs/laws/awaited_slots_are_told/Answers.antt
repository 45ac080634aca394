use Rattle.std.proofs.Common.{◌≡◌, ℕ, ◌+◌, ◌-◌, ◌<◌, ◌≤◌, ◌^◌, true, false, ap, arith, ◌∙◌}
use Rattle.std.specs.Prelude.{nat_lt}
use Rattle.std.proofs.lemmas.Bool.{lt-ltb}
use Rattle.std.proofs.lemmas.Bool.Decides.{nat_tests}
use Rattle.xen_ring.specs.Index.{distance, is_due}
use Rattle.xen_steps.specs.Places.{add32}
use Rattle.xen_turns.proofs.laws.awaited_slots_are_told.Goals as goal

ahead : (x a b : ℕ) → x < 2 ^ 32 → a ≤ b → b < a + 2 ^ 32 → distance (add32 x a) (add32 x b) ≡ b - a
ahead x a b h p q = omega arith

behind : (x a b : ℕ) → x < 2 ^ 32 → b < a → a < b + 2 ^ 32 → distance (add32 x a) (add32 x b) ≡ 2 ^ 32 + b - a
behind x a b h p q = omega arith

not_below : (a b : ℕ) → b ≤ a → nat_lt a b ≡ false
not_below a b h = grind (arith, nat_tests)

is_told : (x m n wanted : ℕ) → x < 2 ^ 32 → m < wanted → wanted ≤ n → n ≤ 256 → is_due (add32 x m) (add32 x n) (add32 x wanted) ≡ true
is_told x m n wanted h p q few =
    ap (λ d. nat_lt d (distance (add32 x m) (add32 x n))) (ahead x wanted n h q (omega arith))
    ∙ ap (nat_lt (n - wanted)) (ahead x m n h (omega arith) (omega arith))
    ∙ lt-ltb (n - wanted) (n - m) (omega arith)

stays_untold : (x m n wanted : ℕ) → x < 2 ^ 32 → m ≤ n → n < wanted → wanted ≤ 256 → is_due (add32 x m) (add32 x n) (add32 x wanted) ≡ false
stays_untold x m n wanted h p q few =
    ap (λ d. nat_lt d (distance (add32 x m) (add32 x n))) (behind x wanted n h q (omega arith))
    ∙ ap (nat_lt (2 ^ 32 + n - wanted)) (ahead x m n h p (omega arith))
    ∙ not_below (2 ^ 32 + n - wanted) (n - m) (omega arith)

pub returns : goal.returns
returns c = record { told = is_told; below = stays_untold }
