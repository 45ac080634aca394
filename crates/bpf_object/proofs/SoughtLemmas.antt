-- Places where a name isn't: none at first, and one more.
use Rattle.std.proofs.Common.{ℕ, zero, suc, ◌≡◌, ◌≢◌, List, [], Bool, true, false, refl, sym, ◌∙◌, subst, replicate, get_or, set}
use Rattle.std.proofs.lemmas.List.{get_or-set_other}
use Rattle.bpf_object.specs.Bytes.{IsText}
use Rattle.bpf_object.specs.Sought.{AreMissed}

no_mark : (n k : ℕ) → get_or (replicate n false) k false ≡ false
no_mark zero zero = refl
no_mark zero (suc k) = refl
no_mark (suc n) zero = refl
no_mark (suc n) (suc k) = no_mark n k

pub none_missed : (table name : List ℕ) (n : ℕ) → AreMissed table name (replicate n false)
none_missed table name n = λ at marked h. let no = no_mark n at in absurd (cc (no, marked))

pub nothing_missed : (table name : List ℕ) → AreMissed table name []
nothing_missed table name = none_missed table name 0

pub one_missed : (table name : List ℕ) (missed : List Bool) (p : ℕ) → AreMissed table name missed → (IsText table p name → ⊥) →
    AreMissed table name (set missed p true)
one_missed table name missed p before here = λ at marked h.
    let other : at ≢ p = λ e. here (subst (λ (k : ℕ). IsText table k name) e h) in
    before at (sym (get_or-set_other missed p at true false other) ∙ marked) h
