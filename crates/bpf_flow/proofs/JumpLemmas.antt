-- Jumps: what an edge teaches is so.
use Rattle.std.proofs.Common.{◌≡◌, ◌≢◌, ℕ, ◌+◌, ◌-◌, ◌%◌, ◌^◌, ◌<◌, ◌≤◌, inl, inr, Bool, true, false, not, refl, Option, Some, None, length, nat_eq, max, min, subst, sym, ap, ◌∙◌, arith, pos, negsuc}
use Rattle.std.specs.Prelude.{if◌then◌else◌, nat_le}
use Rattle.std.proofs.lemmas.Bool.Decides.{nat_tests}
use Rattle.bpf_insn.specs.Conditions.{relation, is_met}
use Rattle.bpf_insn.specs.declared.condition.Condition.{Condition}
use Rattle.bpf_insn.specs.declared.condition.Condition.TheVariants.{Equal, Greater, GreaterOrEqual, Set, NotEqual, SignedGreater, SignedGreaterOrEqual, Less, LessOrEqual, SignedLess, SignedLessOrEqual}
use Rattle.bpf_insn.specs.declared.operand.Operand.{Operand}
use Rattle.bpf_insn.specs.declared.operand.Operand.TheVariants.{Register, Immediate}
use Rattle.bpf_note.specs.declared.val.Val.{Val}
use Rattle.bpf_note.specs.declared.val.Val.TheVariants.{Num, Pkt, PktEnd, MaybeValue, Value}
use Rattle.bpf_note.specs.State.{State}
use Rattle.bpf_note.specs.Facts.{Facts, with_reg, with_each, resolved}
use Rattle.bpf_note.specs.Describes.{Meaning, meaning, Describes, IsReading, Reads}
use Rattle.bpf_flow.specs.Step.{operand}
use Rattle.bpf_flow.specs.Branch.{opposite, raised, raise, narrowed, compared, against_end, end_against, is_null, checked, refined, refined_if, taken, passed}
use Rattle.bpf_flow.proofs.AnswerLemmas.{same_some}
use Rattle.bpf_flow.proofs.IdLemmas.{same_id, resolved_describes}
use Rattle.bpf_flow.proofs.SumLemmas.{the_one}

abbrev word : ℕ
word = 2 ^ 64

whole : (a : ℕ) → a < 2 ^ 64 → a % 2 ^ 64 ≡ a
whole a h = omega arith

-- a condition between two numbers of 64 bits
pub met_is : (cond : Condition) (a b : ℕ) → a < 2 ^ 64 → b < 2 ^ 64 → is_met cond true a b ≡ relation cond (2 ^ 64) a b
unfolding is_met
met_is cond a b fa fb = ap (λ (n : ℕ). relation cond (2 ^ 64) n (b % 2 ^ 64)) (whole a fa) ∙ ap (relation cond (2 ^ 64) a) (whole b fb)

not_false : (b : Bool) → b ≡ false → not b ≡ true
not_false true e = absurd (cc)
not_false false e = refl

not_true : (b : Bool) → not b ≡ false → b ≡ true
not_true true e = refl
not_true false e = absurd (cc)

-- where a condition doesn't hold, its opposite does
pub opposite_holds : (cond other : Condition) (a b : ℕ) → opposite cond ≡ Some other → relation cond word a b ≡ false → relation other word a b ≡ true
opposite_holds Equal other a b e h = subst (λ (c : Condition). relation c word a b ≡ true) (same_some NotEqual other e) (not_false (nat_eq a b) h)
opposite_holds NotEqual other a b e h = subst (λ (c : Condition). relation c word a b ≡ true) (same_some Equal other e) (not_true (nat_eq a b) h)
opposite_holds Greater other a b e h = subst (λ (c : Condition). relation c word a b ≡ true) (same_some LessOrEqual other e) (grind (arith, nat_tests))
opposite_holds LessOrEqual other a b e h = subst (λ (c : Condition). relation c word a b ≡ true) (same_some Greater other e) (grind (arith, nat_tests))
opposite_holds GreaterOrEqual other a b e h = subst (λ (c : Condition). relation c word a b ≡ true) (same_some Less other e) (grind (arith, nat_tests))
opposite_holds Less other a b e h = subst (λ (c : Condition). relation c word a b ≡ true) (same_some GreaterOrEqual other e) (grind (arith, nat_tests))
opposite_holds Set other a b e h = absurd (cc)
opposite_holds SignedGreater other a b e h = absurd (cc)
opposite_holds SignedGreaterOrEqual other a b e h = absurd (cc)
opposite_holds SignedLess other a b e h = absurd (cc)
opposite_holds SignedLessOrEqual other a b e h = absurd (cc)

raised_safe : (base len k b : ℕ) (old : Option ℕ) → base + k ≤ len → ((b : ℕ) → old ≡ Some b → base + b ≤ len) → raised old k ≡ Some b → base + b ≤ len
raised_safe base len k b None le h e = let same : k ≡ b = cc in omega arith
raised_safe base len k b (Some o) le h e = let same : max o k ≡ b = cc in omega (arith, h o refl)

chosen_safe : (base : ℕ → ℕ) (len k id other b : ℕ) (old here : Option ℕ) (same : Bool) → same ≡ nat_eq other id → base id + k ≤ len →
    ((b : ℕ) → old ≡ Some b → base id + b ≤ len) → ((b : ℕ) → here ≡ Some b → base other + b ≤ len) → (if same then raised old k else here) ≡ Some b → base other + b ≤ len
chosen_safe base len k id other b old here true t le h g e = subst (λ (i : ℕ). base i + b ≤ len) (sym (same_id other id t)) (raised_safe (base id) len k b old le h e)
chosen_safe base len k id other b old here false t le h g e = g b e

chosen_reads : (w : Meaning) (f : ℕ → Option ℕ) (k i x lo hi : ℕ) (v : Val) (same : Bool) → same ≡ nat_eq i k → f k ≡ Some x → lo ≤ x → x ≤ hi → Reads w v (f i) → Reads w (if same then Num lo hi else v) (f i)
chosen_reads w f k i x lo hi v true t e lx hx r = subst (λ (o : Option ℕ). Reads w (Num lo hi) o) (sym (ap f (same_id i k t) ∙ e)) (lx, hx)
chosen_reads w f k i x lo hi v false t e lx hx r = r

module _ (n : Facts) (s : State) (d : Describes n s) where
  abbrev w : Meaning
  w = meaning s d.base d.address

  raise_describes : (id k : ℕ) → d.base id + k ≤ length s.packet → Describes (raise n id k) s
  raise_describes id k le = record {
    state = d.state;
    base = d.base;
    address = d.address;
    regs = d.regs;
    kept = d.kept;
    set = d.set;
    start = d.start;
    tops = d.tops;
    low = d.low;
    safes = λ i b. chosen_safe d.base (length s.packet) k id i b (n.safe id) (n.safe i) (nat_eq i id) refl le (d.safes id) (d.safes i);
  }

  narrowed_by : (k x lo hi : ℕ) (room : Bool) → s.reg k ≡ Some x → lo ≤ x → x ≤ hi → Describes (if room then with_reg n k (Num lo hi) else n) s
  narrowed_by k x lo hi true e lx hx = record {
    state = d.state;
    base = d.base;
    address = d.address;
    regs = λ i. chosen_reads w s.reg k i x lo hi (n.reg i) (nat_eq i k) refl e lx hx (d.regs i);
    kept = d.kept;
    set = d.set;
    start = d.start;
    tops = d.tops;
    low = d.low;
    safes = d.safes;
  }
  narrowed_by k x lo hi false e lx hx = d

  narrowed_describes : (k x lo hi : ℕ) → s.reg k ≡ Some x → lo ≤ x → x ≤ hi → Describes (narrowed n k lo hi) s
  narrowed_describes k x lo hi e lx hx = narrowed_by k x lo hi (nat_le lo hi) e lx hx

  without_by : (k x lo hi c : ℕ) (at_lo at_hi : Bool) → at_lo ≡ nat_eq c lo → at_hi ≡ nat_eq c hi → s.reg k ≡ Some x → lo ≤ x → x ≤ hi → x ≢ c →
      Describes (if at_lo then narrowed n k (lo + 1) hi else if at_hi then narrowed n k lo (hi - 1) else n) s
  without_by k x lo hi c true at_hi f g e lx hx ne = let same = same_id c lo f in narrowed_describes k x (lo + 1) hi e (let other : x ≢ lo = (λ t. ne (t ∙ sym same)) in omega arith) hx
  without_by k x lo hi c false true f g e lx hx ne = let same = same_id c hi g in narrowed_describes k x lo (hi - 1) e lx (let other : x ≢ hi = (λ t. ne (t ∙ sym same)) in omega arith)
  without_by k x lo hi c false false f g e lx hx ne = d

  below_by : (k x lo hi c : ℕ) (none : Bool) → none ≡ nat_eq c 0 → s.reg k ≡ Some x → lo ≤ x → x ≤ hi → x < c → Describes (if none then n else narrowed n k lo (min hi (c - 1))) s
  below_by k x lo hi c true f e lx hx lt = d
  below_by k x lo hi c false f e lx hx lt = narrowed_describes k x lo (min hi (c - 1)) e lx (omega arith)

  compared_describes : (cond : Condition) (k x lo hi c : ℕ) → s.reg k ≡ Some x → lo ≤ x → x ≤ hi → relation cond word x c ≡ true → Describes (compared cond n k lo hi c) s
  compared_describes Equal k x lo hi c e lx hx h = let same = same_id x c (sym h) in narrowed_describes k x (max lo c) (min hi c) e (omega arith) (omega arith)
  compared_describes NotEqual k x lo hi c e lx hx h = without_by k x lo hi c (nat_eq c lo) (nat_eq c hi) refl refl e lx hx (grind (arith, nat_tests))
  compared_describes Greater k x lo hi c e lx hx h = let lt : c < x = grind (arith, nat_tests) in narrowed_describes k x (max lo (c + 1)) hi e (omega arith) hx
  compared_describes GreaterOrEqual k x lo hi c e lx hx h = let le : c ≤ x = grind (arith, nat_tests) in narrowed_describes k x (max lo c) hi e (omega arith) hx
  compared_describes Less k x lo hi c e lx hx h = below_by k x lo hi c (nat_eq c 0) refl e lx hx (grind (arith, nat_tests))
  compared_describes LessOrEqual k x lo hi c e lx hx h = let le : x ≤ c = grind (arith, nat_tests) in narrowed_describes k x lo (min hi c) e lx (omega arith)
  compared_describes Set k x lo hi c e lx hx h = d
  compared_describes SignedGreater k x lo hi c e lx hx h = d
  compared_describes SignedGreaterOrEqual k x lo hi c e lx hx h = d
  compared_describes SignedLess k x lo hi c e lx hx h = d
  compared_describes SignedLessOrEqual k x lo hi c e lx hx h = d

  number_by : (cond : Condition) (k x y lo hi c e : ℕ) (constant : Bool) → constant ≡ nat_eq c e → s.reg k ≡ Some x → lo ≤ x → x ≤ hi → c ≤ y → y ≤ e → relation cond word x y ≡ true →
      Describes (if constant then compared cond n k lo hi c else n) s
  number_by cond k x y lo hi c e true t r lx hx ly hy h = compared_describes cond k x lo hi c r lx hx (subst (λ (y : ℕ). relation cond word x y ≡ true) (the_one c e y t ly hy) h)
  number_by cond k x y lo hi c e false t r lx hx ly hy h = d

  against_describes : (cond : Condition) (id off x y : ℕ) → IsReading w (Pkt id off) x → IsReading w PktEnd y → relation cond word x y ≡ true → Describes (against_end cond n id off) s
  against_describes LessOrEqual id off x y rx ry h = let le : x ≤ y = grind (arith, nat_tests) in raise_describes id off (omega (arith, rx.0, ry))
  against_describes Less id off x y rx ry h = let lt : x < y = grind (arith, nat_tests) in raise_describes id (off + 1) (omega (arith, rx.0, ry))
  against_describes Equal id off x y rx ry h = d
  against_describes NotEqual id off x y rx ry h = d
  against_describes Greater id off x y rx ry h = d
  against_describes GreaterOrEqual id off x y rx ry h = d
  against_describes Set id off x y rx ry h = d
  against_describes SignedGreater id off x y rx ry h = d
  against_describes SignedGreaterOrEqual id off x y rx ry h = d
  against_describes SignedLess id off x y rx ry h = d
  against_describes SignedLessOrEqual id off x y rx ry h = d

  end_describes : (cond : Condition) (id off x y : ℕ) → IsReading w PktEnd x → IsReading w (Pkt id off) y → relation cond word x y ≡ true → Describes (end_against cond n id off) s
  end_describes GreaterOrEqual id off x y rx ry h = let le : y ≤ x = grind (arith, nat_tests) in raise_describes id off (omega (arith, ry.0, rx))
  end_describes Greater id off x y rx ry h = let lt : y < x = grind (arith, nat_tests) in raise_describes id (off + 1) (omega (arith, ry.0, rx))
  end_describes Equal id off x y rx ry h = d
  end_describes NotEqual id off x y rx ry h = d
  end_describes Less id off x y rx ry h = d
  end_describes LessOrEqual id off x y rx ry h = d
  end_describes Set id off x y rx ry h = d
  end_describes SignedGreater id off x y rx ry h = d
  end_describes SignedGreaterOrEqual id off x y rx ry h = d
  end_describes SignedLess id off x y rx ry h = d
  end_describes SignedLessOrEqual id off x y rx ry h = d

  null_describes : (m id x : ℕ) → IsReading w (MaybeValue m id) x → x ≡ 0 → Describes (with_each n (resolved id (Num 0 0))) s
  null_describes m id x r zero' = resolved_describes n s id (Num 0 0) d (λ y e. let same : y ≡ 0 = e ∙ (sym r.0 ∙ zero') in (omega arith, omega (arith, same)))

  value_describes : (m id x : ℕ) → IsReading w (MaybeValue m id) x → x ≢ 0 → Describes (with_each n (resolved id (Value m))) s
  value_describes m id x r some =
      let there : IsReading w (Value m) x = elim r.1 [ inl none ↦ absurd (some none) | inr v ↦ v ] in
      resolved_describes n s id (Value m) d (λ y e. subst (λ (y : ℕ). IsReading w (Value m) y) (sym (e ∙ sym r.0)) there)

  checked_describes : (cond : Condition) (m id x : ℕ) → IsReading w (MaybeValue m id) x → relation cond word x 0 ≡ true → Describes (checked cond n m id) s
  checked_describes Equal m id x r h = null_describes m id x r (same_id x 0 (sym h))
  checked_describes NotEqual m id x r h = value_describes m id x r (grind (arith, nat_tests))
  checked_describes Greater m id x r h = d
  checked_describes GreaterOrEqual m id x r h = d
  checked_describes Less m id x r h = d
  checked_describes LessOrEqual m id x r h = d
  checked_describes Set m id x r h = d
  checked_describes SignedGreater m id x r h = d
  checked_describes SignedGreaterOrEqual m id x r h = d
  checked_describes SignedLess m id x r h = d
  checked_describes SignedLessOrEqual m id x r h = d

  null_is : (o : Operand) (y : ℕ) → is_null o ≡ true → operand s o ≡ Some y → y ≡ 0
  null_is (Register r) y e h = absurd (cc)
  null_is (Immediate (pos c)) y e h = let same : c ≡ 0 = same_id c 0 (sym e) in sym (same_some (c % 2 ^ 64) y h) ∙ ap (λ (c : ℕ). c % 2 ^ 64) same
  null_is (Immediate (negsuc c)) y e h = absurd (cc)

  value_by : (cond : Condition) (o : Operand) (m id x y : ℕ) (null : Bool) → null ≡ is_null o → operand s o ≡ Some y → IsReading w (MaybeValue m id) x → relation cond word x y ≡ true →
      Describes (if null then checked cond n m id else n) s
  value_by cond o m id x y true e at r h = checked_describes cond m id x r (subst (λ (y : ℕ). relation cond word x y ≡ true) (null_is o y (sym e) at) h)
  value_by cond o m id x y false e at r h = d

  learnt_describes : (cond : Condition) (k : ℕ) (o : Operand) (v u : Val) (x y : ℕ) → s.reg k ≡ Some x → operand s o ≡ Some y → IsReading w v x → IsReading w u y → relation cond word x y ≡ true →
      Describes (refined cond n k o v u) s
  learnt_describes cond k o (Pkt id off) PktEnd x y e at rx ry h = against_describes cond id off x y rx ry h
  learnt_describes cond k o PktEnd (Pkt id off) x y e at rx ry h = end_describes cond id off x y rx ry h
  learnt_describes cond k o (Num lo hi) (Num c f) x y e at rx ry h = number_by cond k x y lo hi c f (nat_eq c f) refl e rx.0 rx.1 ry.0 ry.1 h
  learnt_describes cond k o (MaybeValue m id) u x y e at rx ry h = value_by cond o m id x y (is_null o) refl at rx h
  learnt_describes cond k o v u x y e at rx ry h = d

  -- what is known where the jump is taken
  pub taken_describes : (cond : Condition) (wide : Bool) (k : ℕ) (o : Operand) (v u : Val) (x y : ℕ) → s.reg k ≡ Some x → operand s o ≡ Some y → x < 2 ^ 64 → y < 2 ^ 64 → IsReading w v x → IsReading w u y →
      is_met cond wide x y ≡ true → Describes (taken cond wide n k o v u) s
  taken_describes cond false k o v u x y e at fx fy rx ry h = d
  taken_describes cond true k o v u x y e at fx fy rx ry h = learnt_describes cond k o v u x y e at rx ry (sym (met_is cond x y fx fy) ∙ h)

  passed_by : (cond : Condition) (other : Option Condition) (k : ℕ) (o : Operand) (v u : Val) (x y : ℕ) → opposite cond ≡ other → s.reg k ≡ Some x → operand s o ≡ Some y → IsReading w v x → IsReading w u y →
      relation cond word x y ≡ false → Describes (refined_if other n k o v u) s
  passed_by cond None k o v u x y f e at rx ry h = d
  passed_by cond (Some other) k o v u x y f e at rx ry h = learnt_describes other k o v u x y e at rx ry (opposite_holds cond other x y f h)

  -- what is known where it isn't
  pub passed_describes : (cond : Condition) (wide : Bool) (k : ℕ) (o : Operand) (v u : Val) (x y : ℕ) → s.reg k ≡ Some x → operand s o ≡ Some y → x < 2 ^ 64 → y < 2 ^ 64 → IsReading w v x → IsReading w u y →
      is_met cond wide x y ≡ false → Describes (passed cond wide n k o v u) s
  passed_describes cond false k o v u x y e at fx fy rx ry h = d
  passed_describes cond true k o v u x y e at fx fy rx ry h = passed_by cond (opposite cond) k o v u x y refl e at rx ry (sym (met_is cond x y fx fy) ∙ h)
