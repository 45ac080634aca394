-- What a signed comparison with a constant says of a number on each way of a conditional jump.
use Rattle.std.proofs.Common.{ℕ, ◌+◌, ◌-◌, ◌%◌, ◌^◌, ◌≡◌, ◌<◌, ◌≤◌, inl, inr, refl, sym, ap, ◌∙◌, subst, arith, ℤ, List, [], ◌∷◌, Option, None, Some, Bool, true, false, min, max, not}
use Rattle.std.specs.Prelude.{IfSome}
use Rattle.std.proofs.lemmas.Bool.Decides.{nat_tests}
use Rattle.std.proofs.lemmas.Int.{ints}
use Rattle.bpf_insn.specs.Register.{number}
use Rattle.bpf_insn.specs.Conditions.{relation, is_met}
use Rattle.bpf_insn.specs.declared.condition.Condition.{Condition}
use Rattle.bpf_insn.specs.declared.condition.Condition.TheVariants.{SignedGreater, SignedGreaterOrEqual, SignedLessOrEqual}
use Rattle.bpf_insn.specs.declared.register.Register.{Register}
use Rattle.bpf_insn.specs.declared.operand.Operand.{Operand}
use Rattle.bpf_insn.specs.declared.operand.Operand.TheVariants as operands
use Rattle.bpf_insn.specs.declared.insn.Insn.{Insn}
use Rattle.bpf_insn.specs.declared.insn.Insn.TheVariants.{Alu, Neg, End, MovSx, Const, MapRef, Ldx, St, Stx, AddCounter, Ja, Jump, Call, Exit, Second}
use Rattle.bpf_note.specs.Shape.{Shape}
use Rattle.bpf_note.specs.State.{State}
use Rattle.bpf_note.specs.Facts.{Facts}
use Rattle.bpf_note.specs.Describes.{Describes}
use Rattle.bpf_note.specs.declared.op.Op.{Op}
use Rattle.bpf_flow.specs.Sound.{Accounts, Covers}
use Rattle.bpf_flow.specs.Step.{at_slot, exec, operand, target}
use Rattle.bpf_flow.proofs.JumpLemmas.{met_is}
use Rattle.bpf_same.specs.declared.range.Range.{Range}
use Rattle.bpf_same.specs.declared.sharper.Bounded.{Bounded}
use Rattle.bpf_same.specs.Decided.{Compared, IsBetween}
use Rattle.bpf_same.specs.Ranges.{Lies, IsLeft, IsLeftOn, AreBounded, IsNarrowed}
use Rattle.bpf_same.specs.Simulated.{IsAccounted, IsBranch}
use Rattle.bpf_same.proofs.BranchLemmas.{Ways, takes, leaves, goes_by}
use Rattle.bpf_same.proofs.SharperLemmas.{accounted_as}

at_least : (x b : ℕ) → x < 2 ^ 64 → b < 2 ^ 63 → relation SignedGreaterOrEqual (2 ^ 64) x b ≡ true → (b ≤ x) × (x < 2 ^ 63)
at_least x b fits small met = (grind (arith, ints, nat_tests), grind (arith, ints, nat_tests))

below : (x b : ℕ) → x < 2 ^ 63 → b < 2 ^ 63 → relation SignedGreaterOrEqual (2 ^ 64) x b ≡ false → x < b
below x b fits small met = grind (arith, ints, nat_tests)

pub least_left : (from to b low high : ℕ) → to < 2 ^ 64 → b < 2 ^ 63 → low ≡ max from b → high ≡ min to (2 ^ 63 - 1) → IsLeft SignedGreaterOrEqual true from to b low high
least_left from to b low high fits small bottom top = λ x least most met.
    let k = at_least x b (omega (arith, fits, most)) small met in
    let first = k.0 in
    let last = k.1 in
    (omega (arith, bottom, first, least), omega (arith, top, last, most))

pub most_left : (from to b low high : ℕ) → to < 2 ^ 63 → b < 2 ^ 63 → 0 < b → low ≡ from → high ≡ min to (b - 1) → IsLeft SignedGreaterOrEqual false from to b low high
most_left from to b low high fits small some bottom top = λ x least most met.
    let last : x < b = below x b (omega (arith, fits, most)) small met in
    (omega (arith, bottom, least), omega (arith, top, last, most, some))

-- each signed condition by that of the greater or equal ones
greater_as : (x c : ℕ) (met : Bool) → x < 2 ^ 64 → c < 2 ^ 64 → (c ≡ 2 ^ 63 - 1 → ⊥) → relation SignedGreater (2 ^ 64) x c ≡ met → relation SignedGreaterOrEqual (2 ^ 64) x ((c + 1) % 2 ^ 64) ≡ met
greater_as x c true fits small other met = grind (arith, ints, nat_tests)
greater_as x c false fits small other met = grind (arith, ints, nat_tests)

less_or_equal_as : (x c : ℕ) (met : Bool) → x < 2 ^ 64 → c < 2 ^ 64 → (c ≡ 2 ^ 63 - 1 → ⊥) → relation SignedLessOrEqual (2 ^ 64) x c ≡ met → relation SignedGreaterOrEqual (2 ^ 64) x ((c + 1) % 2 ^ 64) ≡ not met
less_or_equal_as x c true fits small other met = grind (arith, ints, nat_tests)
less_or_equal_as x c false fits small other met = grind (arith, ints, nat_tests)

left_as : (cond : Condition) (met other : Bool) (from to c b : ℕ) (r : Option Range) → to < 2 ^ 64 → ((x : ℕ) → x < 2 ^ 64 → relation cond (2 ^ 64) x c ≡ met → relation SignedGreaterOrEqual (2 ^ 64) x b ≡ other) →
    IfSome r (λ r. IsLeft SignedGreaterOrEqual other from to b r.low r.high) → IfSome r (λ r. IsLeft cond met from to c r.low r.high)
left_as cond met other from to c b None fits same left = tt
left_as cond met other from to c b (Some r) fits same left = λ x least most h. left x least most (same x (omega (arith, fits, most)) h)

pub greater_left : (cond : Condition) (met : Bool) (from to c : ℕ) (r : Option Range) → cond ≡ SignedGreater → (c ≡ 2 ^ 63 - 1 → ⊥) → to < 2 ^ 64 → c < 2 ^ 64 → IfSome r (λ r. IsLeft SignedGreaterOrEqual met from to ((c + 1) % 2 ^ 64) r.low r.high) → IfSome r (λ r. IsLeft cond met from to c r.low r.high)
greater_left cond met from to c r is other fits small left = subst (λ (cond : Condition). IfSome r (λ r. IsLeft cond met from to c r.low r.high)) (sym is)
    (left_as SignedGreater met met from to c ((c + 1) % 2 ^ 64) r fits (λ x f h. greater_as x c met f small other h) left)

pub less_or_equal_left : (cond : Condition) (met : Bool) (from to c : ℕ) (r : Option Range) → cond ≡ SignedLessOrEqual → (c ≡ 2 ^ 63 - 1 → ⊥) → to < 2 ^ 64 → c < 2 ^ 64 → IfSome r (λ r. IsLeft SignedGreaterOrEqual (not met) from to ((c + 1) % 2 ^ 64) r.low r.high) → IfSome r (λ r. IsLeft cond met from to c r.low r.high)
less_or_equal_left cond met from to c r is other fits small left = subst (λ (cond : Condition). IfSome r (λ r. IsLeft cond met from to c r.low r.high)) (sym is)
    (left_as SignedLessOrEqual met (not met) from to c ((c + 1) % 2 ^ 64) r fits (λ x f h. less_or_equal_as x c met f small other h) left)

-- the register that a jump compares
abbrev Comparing : Insn → Bool → State → Type 0
Comparing (Jump cond wide dst src off) way s = Compared cond wide (s.reg (number dst)) (operand s src) way
Comparing i way s = Unit {0}

pub jump_left : (i : Insn) (way : Bool) (n : Facts) (cond : Condition) (dst : Register) (src : Operand) (off : ℤ) (from to c low high : ℕ) → i ≡ Jump cond true dst src off → ((s : State) → Describes n s → Lies (s.reg (number dst)) from to) → ((s : State) → Describes n s → operand s src ≡ Some c) → to < 2 ^ 64 → c < 2 ^ 64 → IsLeft cond way from to c low high →
    IsLeftOn i way n (number dst) low high
jump_left i way n cond dst src off from to c low high is one other fits small left = λ cond' wide' dst' src' off' s same d k. by s d (subst (λ (i : Insn). Comparing i way s) (sym same ∙ is) k)
  where
    by : (s : State) → Describes n s → Compared cond true (s.reg (number dst)) (operand s src) way → Lies (s.reg (number dst)) low high
    by s d k =
        let l = one s d in
        let x : k.x ≡ l.x = cc (k.first, l.is) in
        let y : k.y ≡ c = cc (k.second, other s d) in
        let most = l.most in
        let met = sym (met_is cond l.x c (omega (arith, most, fits)) small) ∙ (sym (ap (λ (x : ℕ). is_met cond true x c) x) ∙ (sym (ap (is_met cond true k.x) y) ∙ k.met)) in
        let both = left l.x l.least l.most met in
        record { x = l.x; is = l.is; least = both.0; most = both.1 }

pub single : (o : Option ℕ) (low high : ℕ) → low ≡ high → Lies o low high → o ≡ Some low
single o low high one l =
    let least = l.least in
    let most = l.most in
    l.is ∙ ap Some (omega (arith, one, least, most))

-- a condition that leaves no number
pub none_met : (cond : Condition) (met : Bool) (lo hi low high first last : ℕ) → low ≡ high → last < first → IsLeft cond met lo hi low first last → IsBetween cond lo hi low high (not met)
none_met cond met lo hi low high first last one empty left = λ x y a b c d.
    let same : y ≡ low = omega (arith, one, c, d) in
    ap (λ (y : ℕ). relation cond (2 ^ 64) x y) same ∙ by x a b met (relation cond (2 ^ 64) x low) refl left
  where
    no_number : (x : ℕ) → (first ≤ x) × (x ≤ last) → ⊥
    no_number x both = let least = both.0 in let most = both.1 in absurd (omega (arith, least, most, empty))

    by : (x : ℕ) → lo ≤ x → x ≤ hi → (met found : Bool) → relation cond (2 ^ 64) x low ≡ found → IsLeft cond met lo hi low first last → relation cond (2 ^ 64) x low ≡ not met
    by x a b true true e left = absurd (no_number x (left x a b e))
    by x a b true false e left = e
    by x a b false true e left = e
    by x a b false false e left = absurd (no_number x (left x a b e))

-- what is known on both ways
at_operand : (s : State) (q : ℕ) (src : Operand) → operand (at_slot s q) src ≡ operand s src
at_operand s q (operands.Register r) = refl
at_operand s q (operands.Immediate i) = refl

module _ (cond : Condition) (wide : Bool) (dst : Register) (src : Operand) (off : ℤ) where
  abbrev i : Insn
  i = Jump cond wide dst src off

  bounded_on : (way : Bool) (m : Facts) (known : Option Bounded) (s : State) (q : ℕ) → IfSome known (λ r. IsLeftOn i way m r.register r.range.low r.range.high) → Describes m (at_slot s q) → Compared cond wide (s.reg (number dst)) (operand s src) way → AreBounded known (at_slot s q)
  bounded_on way m None s q left d k = tt
  bounded_on way m (Some b) s q left d k = left cond wide dst src off (at_slot s q) refl d (subst (λ (o : Option ℕ). Compared cond wide (s.reg (number dst)) o way) (sym (at_operand s q src)) k)

  jump_accounted : (shapes : List Shape) (n l l' m m' : Facts) (k k' : Option Bounded) (pc q q' r r' : ℕ) → IsBranch i pc q r → IsNarrowed q l k q' l' → IsNarrowed r m k' r' m' → IfSome k (λ r. IsLeftOn i false l r.register r.range.low r.range.high) → IfSome k' (λ r. IsLeftOn i true m r.register r.range.low r.range.high) →
      IsAccounted ((q, l) ∷ (r, m) ∷ []) shapes i n pc → IsAccounted ((q', l') ∷ (r', m') ∷ []) shapes i n pc
  jump_accounted shapes n l l' m m' k k' pc q q' r r' branch next taken left met sound = λ s d at sh.
      let here : q ≡ s.pc + 1 = branch.0 ∙ ap (λ (pc : ℕ). pc + 1) (sym at) in
      let there : target s.pc off ≡ Some r = ap (λ (pc : ℕ). target pc off) at ∙ branch.1 in
      accounted_as ((q, l) ∷ (r, m) ∷ []) ((q', l') ∷ (r', m') ∷ []) (exec i s)
      (λ label u h c. by s label u here there (goes_by cond wide dst src off l m s r label u there (λ x. branch.2 (here ∙ x)) (subst (λ (x : ℕ). Accounts ((x, l) ∷ (r, m) ∷ []) (exec i s)) here (sound s d at sh)) h)) (sound s d at sh)
    where
      by : (s : State) (label : Option Op) (u : State) → q ≡ s.pc + 1 → target s.pc off ≡ Some r → Ways cond wide dst src off l m s label u → Covers ((q', l') ∷ (r', m') ∷ []) u
      by s _ _ here there (takes x compared to d) =
          let same : x ≡ r = cc (to, there) in
          inr (inl (same ∙ sym taken.same, taken.describes (at_slot s x) (bounded_on true m k' s x met d compared) d))
      by s _ _ here there (leaves compared d) = inl (sym here ∙ sym next.same, next.describes (at_slot s (s.pc + 1)) (bounded_on false l k s (s.pc + 1) left d compared) d)

pub ways_accounted : (i : Insn) (shapes : List Shape) (n l l' m m' : Facts) (k k' : Option Bounded) (pc q q' r r' : ℕ) → IsBranch i pc q r → IsNarrowed q l k q' l' → IsNarrowed r m k' r' m' → IfSome k (λ r. IsLeftOn i false l r.register r.range.low r.range.high) → IfSome k' (λ r. IsLeftOn i true m r.register r.range.low r.range.high) →
    IsAccounted ((q, l) ∷ (r, m) ∷ []) shapes i n pc → IsAccounted ((q', l') ∷ (r', m') ∷ []) shapes i n pc
ways_accounted (Jump cond wide dst src off) shapes n l l' m m' k k' pc q q' r r' branch next taken left met sound = jump_accounted cond wide dst src off shapes n l l' m m' k k' pc q q' r r' branch next taken left met sound
ways_accounted (Ja wide to) shapes n l l' m m' k k' pc q q' r r' branch next taken left met sound = absurd branch
ways_accounted (Alu op wide dst src) shapes n l l' m m' k k' pc q q' r r' branch next taken left met sound = absurd branch
ways_accounted (Neg wide dst) shapes n l l' m m' k k' pc q q' r r' branch next taken left met sound = absurd branch
ways_accounted (End kind width dst) shapes n l l' m m' k k' pc q q' r r' branch next taken left met sound = absurd branch
ways_accounted (MovSx wide bits dst src) shapes n l l' m m' k k' pc q q' r r' branch next taken left met sound = absurd branch
ways_accounted (Const dst value) shapes n l l' m m' k k' pc q q' r r' branch next taken left met sound = absurd branch
ways_accounted (MapRef dst z) shapes n l l' m m' k k' pc q q' r r' branch next taken left met sound = absurd branch
ways_accounted (Ldx size signed dst src off) shapes n l l' m m' k k' pc q q' r r' branch next taken left met sound = absurd branch
ways_accounted (St size dst off imm) shapes n l l' m m' k k' pc q q' r r' branch next taken left met sound = absurd branch
ways_accounted (Stx size dst src off) shapes n l l' m m' k k' pc q q' r r' branch next taken left met sound = absurd branch
ways_accounted (AddCounter fetch dst src off) shapes n l l' m m' k k' pc q q' r r' branch next taken left met sound = absurd branch
ways_accounted (Call helper) shapes n l l' m m' k k' pc q q' r r' branch next taken left met sound = absurd branch
ways_accounted Exit shapes n l l' m m' k k' pc q q' r r' branch next taken left met sound = absurd branch
ways_accounted Second shapes n l l' m m' k k' pc q q' r r' branch next taken left met sound = absurd branch
