-- Sums and differences of pointers, ranges and constants.
use Rattle.std.proofs.Common.{◌≡◌, ℕ, ◌+◌, ◌%◌, ◌^◌, ◌<◌, ◌≤◌, Bool, true, false, ◌&&◌, refl, nat_eq, nat_lt, subst, sym, ap, ◌∙◌, arith, ℤ, pos, negsuc, ◌+ℤ◌}
use Rattle.std.specs.Prelude.{if◌then◌else◌, nat_le, ◌-ℤ◌, ◌≤ℤ◌}
use Rattle.std.proofs.lemmas.Bool.Decides.{nat_tests}
use Rattle.std.proofs.lemmas.Int.{ints}
use Rattle.bpf_insn.specs.Arithmetic.{computed}
use Rattle.bpf_insn.specs.declared.alu_op.AluOp.TheVariants.{Add, Sub}
use Rattle.bpf_insn.proofs.ResultLemmas.{computed_fits}
use Rattle.bpf_note.specs.declared.val.Val.{Val}
use Rattle.bpf_note.specs.declared.val.Val.TheVariants.{Num, Pkt, Stack}
use Rattle.bpf_note.specs.State.{packet_start, stack_end}
use Rattle.bpf_note.specs.Facts.{Facts, full}
use Rattle.bpf_note.specs.Describes.{Meaning, IsReading}
use Rattle.bpf_flow.specs.declared.computed.Computed.{Computed}
use Rattle.bpf_flow.specs.declared.computed.Computed.TheVariants.{Plain, Fresh}
use Rattle.bpf_flow.specs.Alu.{signed, most_base, packet_at, stack_at, packet_sum, stack_sum, sum_of, difference_of}
use Rattle.bpf_flow.proofs.IdLemmas.{full_reads, same_id}
use Rattle.bpf_flow.proofs.ComputeLemmas.{sum_is, sum_signed, difference_signed, packet_at_reads, stack_at_reads}

-- what is computed reads as the value, or lies at a base of its own
abbrev pub IsResult : Meaning → Computed → ℕ → Type 0
IsResult w (Plain v) r = IsReading w v r
IsResult w (Fresh top) r = (b : ℕ) × (b ≤ top) × (b ≤ most_base) × (r ≡ packet_start + b)

shifted : (x a off o : ℕ) (z : ℤ) → x ≡ a + off → pos off +ℤ z ≡ pos o → pos x +ℤ z ≡ pos (a + o)
shifted x a off o z e f = omega (arith, ints, e, f)

lowered : (x a off o : ℕ) (z : ℤ) → x ≡ a + off → pos off -ℤ z ≡ pos o → pos x -ℤ z ≡ pos (a + o)
lowered x a off o z e f = omega (arith, ints, e, f)

pub sum_turned : (x y : ℕ) → computed Add true x y ≡ computed Add true y x
sum_turned x y = sum_is x y ∙ (ap (λ (n : ℕ). n % 2 ^ 64) (omega arith) ∙ sym (sum_is y x))

small_sum : (x y : ℕ) → x + y < 2 ^ 64 → computed Add true x y ≡ x + y
small_sum x y h = sum_is x y ∙ omega arith

-- a range of one number
pub the_one : (lo hi y : ℕ) → true ≡ nat_eq lo hi → lo ≤ y → y ≤ hi → y ≡ lo
the_one lo hi y e g h = let s = same_id lo hi e in omega (arith, s)

module _ (w : Meaning) (low : (id : ℕ) → w.base id ≤ 0xFFFFF) where
  packet_constant : (id off x y : ℕ) → x ≡ packet_start + w.base id + off → off ≤ 65535 → y < 2 ^ 64 → IsReading w (packet_at id (pos off +ℤ signed y)) (computed Add true x y)
  packet_constant id off x y e small fy =
      packet_at_reads w id (pos off +ℤ signed y) (computed Add true x y) (computed_fits Add true x y)
      (λ o at lt. sum_signed x y (packet_start + w.base id + o) (omega (arith, low id, e)) fy (omega (arith, low id))
      (shifted x (packet_start + w.base id) off o (signed y) e at))

  packet_ranged : (top id off hi x y : ℕ) (b : Bool) → b ≡ (nat_le hi 65535 && nat_le (top + off + hi) most_base) → x ≡ packet_start + w.base id + off → w.base id ≤ top → y ≤ hi → y < 2 ^ 64 →
      IsResult w (if b then Fresh (top + off + hi) else Plain full) (computed Add true x y)
  packet_ranged top id off hi x y true e at le ly fy =
      let fits : top + off + hi ≤ most_base = grind (arith, nat_tests) in
      (w.base id + off + y, omega arith, omega arith, small_sum x y (omega (arith, at, fits)) ∙ omega (arith, at))
  packet_ranged top id off hi x y false e at le ly fy = full_reads w (computed Add true x y) (computed_fits Add true x y)

  packet_by : (top id off lo hi x y : ℕ) (b : Bool) → b ≡ nat_eq lo hi → IsReading w (Pkt id off) x → IsReading w (Num lo hi) y → y < 2 ^ 64 → w.base id ≤ top →
      IsResult w (if b then Plain (packet_at id (pos off +ℤ signed lo)) else if nat_le hi 65535 && nat_le (top + off + hi) most_base then Fresh (top + off + hi) else Plain full) (computed Add true x y)
  packet_by top id off lo hi x y true e rx ry fy le =
      let s = the_one lo hi y e ry.0 ry.1 in
      subst (λ (c : ℕ). IsReading w (packet_at id (pos off +ℤ signed c)) (computed Add true x y)) s (packet_constant id off x y rx.0 rx.1 fy)
  packet_by top id off lo hi x y false e rx ry fy le = packet_ranged top id off hi x y (nat_le hi 65535 && nat_le (top + off + hi) most_base) refl rx.0 le ry.1 fy

  packet_sum_reads : (top id off lo hi x y : ℕ) → IsReading w (Pkt id off) x → IsReading w (Num lo hi) y → y < 2 ^ 64 → w.base id ≤ top → IsResult w (packet_sum top id off lo hi) (computed Add true x y)
  packet_sum_reads top id off lo hi x y rx ry fy le = packet_by top id off lo hi x y (nat_eq lo hi) refl rx ry fy le

  stack_by : (off : ℤ) (lo hi x y : ℕ) (b : Bool) → b ≡ nat_eq lo hi → IsReading w (Stack off) x → IsReading w (Num lo hi) y → x < 2 ^ 64 → y < 2 ^ 64 →
      IsReading w (if b then stack_at (off +ℤ signed lo) else full) (computed Add true x y)
  stack_by off lo hi x y true e rx ry fx fy =
      let s = the_one lo hi y e ry.0 ry.1 in
      subst (λ (c : ℕ). IsReading w (stack_at (off +ℤ signed c)) (computed Add true x y)) s
      (stack_at_reads w (off +ℤ signed y) (computed Add true x y) (computed_fits Add true x y) (λ least most. stack_sum_is off (signed y) x y rx.0 fx fy refl least most))
    where
      stack_sum_is : (off z : ℤ) (x y : ℕ) → pos x ≡ pos stack_end +ℤ off → x < 2 ^ 64 → y < 2 ^ 64 → signed y ≡ z → (negsuc 511 ≤ℤ (off +ℤ z)) → ((off +ℤ z) ≤ℤ pos 0) → pos (computed Add true x y) ≡ pos stack_end +ℤ (off +ℤ z)
      stack_sum_is off z x y rx fx fy is least most = by (pos stack_end +ℤ (off +ℤ z)) refl
        where
          by : (t : ℤ) → pos stack_end +ℤ (off +ℤ z) ≡ t → pos (computed Add true x y) ≡ t
          by (pos p) at = ap pos (sum_signed x y p fx fy (omega (arith, ints, at, most)) (ap (λ (z : ℤ). pos x +ℤ z) is ∙ omega (arith, ints, at, rx)))
          by (negsuc m) at = absurd (omega (arith, ints, at, least))
  stack_by off lo hi x y false e rx ry fx fy = full_reads w (computed Add true x y) (computed_fits Add true x y)

  range_by : (lo hi lo' hi' x y : ℕ) (b : Bool) → b ≡ nat_lt (hi + hi') (2 ^ 64) → IsReading w (Num lo hi) x → IsReading w (Num lo' hi') y →
      IsReading w (if b then Num (computed Add true lo lo') (hi + hi') else full) (computed Add true x y)
  range_by lo hi lo' hi' x y true e rx ry =
      let fits : hi + hi' < 2 ^ 64 = grind (arith, nat_tests) in
      let s : computed Add true x y ≡ x + y = small_sum x y (omega (arith, fits, rx.1, ry.1)) in
      let t : computed Add true lo lo' ≡ lo + lo' = small_sum lo lo' (omega (arith, fits, rx.0, ry.0, rx.1, ry.1)) in
      (omega (arith, s, t, rx.0, ry.0), omega (arith, s, rx.1, ry.1))
  range_by lo hi lo' hi' x y false e rx ry = full_reads w (computed Add true x y) (computed_fits Add true x y)

  turned : (c : Computed) (x y : ℕ) → IsResult w c (computed Add true y x) → IsResult w c (computed Add true x y)
  turned c x y h = subst (λ (r : ℕ). IsResult w c r) (sum_turned y x) h

  -- the sum of two readings
  pub sum_reads : (n : Facts) (u v : Val) (x y : ℕ) → ((id : ℕ) → w.base id ≤ n.top id) → x < 2 ^ 64 → y < 2 ^ 64 → IsReading w u x → IsReading w v y → IsResult w (sum_of n u v) (computed Add true x y)
  sum_reads n (Pkt id off) (Num lo hi) x y tops fx fy rx ry = packet_sum_reads (n.top id) id off lo hi x y rx ry fy (tops id)
  sum_reads n (Num lo hi) (Pkt id off) x y tops fx fy rx ry = turned _ x y (packet_sum_reads (n.top id) id off lo hi y x ry rx fx (tops id))
  sum_reads n (Stack off) (Num lo hi) x y tops fx fy rx ry = stack_by off lo hi x y (nat_eq lo hi) refl rx ry fx fy
  sum_reads n (Num lo hi) (Stack off) x y tops fx fy rx ry = turned (Plain (stack_sum off lo hi)) x y (stack_by off lo hi y x (nat_eq lo hi) refl ry rx fy fx)
  sum_reads n (Num lo hi) (Num lo' hi') x y tops fx fy rx ry = range_by lo hi lo' hi' x y (nat_lt (hi + hi') (2 ^ 64)) refl rx ry
  sum_reads n u v x y tops fx fy rx ry = full_reads w (computed Add true x y) (computed_fits Add true x y)

  packet_less : (id off lo hi x y : ℕ) (b : Bool) → b ≡ nat_eq lo hi → IsReading w (Pkt id off) x → IsReading w (Num lo hi) y → y < 2 ^ 64 →
      IsReading w (if b then packet_at id (pos off -ℤ signed lo) else full) (computed Sub true x y)
  packet_less id off lo hi x y true e rx ry fy =
      let s = the_one lo hi y e ry.0 ry.1 in
      subst (λ (c : ℕ). IsReading w (packet_at id (pos off -ℤ signed c)) (computed Sub true x y)) s
      (packet_at_reads w id (pos off -ℤ signed y) (computed Sub true x y) (computed_fits Sub true x y)
      (λ o at lt. difference_signed x y (packet_start + w.base id + o) (omega (arith, low id, rx.0, rx.1)) fy (omega (arith, low id))
      (lowered x (packet_start + w.base id) off o (signed y) rx.0 at)))
  packet_less id off lo hi x y false e rx ry fy = full_reads w (computed Sub true x y) (computed_fits Sub true x y)

  stack_less : (off : ℤ) (lo hi x y : ℕ) (b : Bool) → b ≡ nat_eq lo hi → IsReading w (Stack off) x → IsReading w (Num lo hi) y → x < 2 ^ 64 → y < 2 ^ 64 →
      IsReading w (if b then stack_at (off -ℤ signed lo) else full) (computed Sub true x y)
  stack_less off lo hi x y true e rx ry fx fy =
      let s = the_one lo hi y e ry.0 ry.1 in
      subst (λ (c : ℕ). IsReading w (stack_at (off -ℤ signed c)) (computed Sub true x y)) s
      (stack_at_reads w (off -ℤ signed y) (computed Sub true x y) (computed_fits Sub true x y) (λ least most. stack_difference_is off (signed y) x y rx.0 fx fy refl least most))
    where
      stack_difference_is : (off z : ℤ) (x y : ℕ) → pos x ≡ pos stack_end +ℤ off → x < 2 ^ 64 → y < 2 ^ 64 → signed y ≡ z → (negsuc 511 ≤ℤ (off -ℤ z)) → ((off -ℤ z) ≤ℤ pos 0) → pos (computed Sub true x y) ≡ pos stack_end +ℤ (off -ℤ z)
      stack_difference_is off z x y rx fx fy is least most = by (pos stack_end +ℤ (off -ℤ z)) refl
        where
          by : (t : ℤ) → pos stack_end +ℤ (off -ℤ z) ≡ t → pos (computed Sub true x y) ≡ t
          by (pos p) at = ap pos (difference_signed x y p fx fy (omega (arith, ints, at, most)) (ap (λ (z : ℤ). pos x -ℤ z) is ∙ omega (arith, ints, at, rx)))
          by (negsuc m) at = absurd (omega (arith, ints, at, least))
  stack_less off lo hi x y false e rx ry fx fy = full_reads w (computed Sub true x y) (computed_fits Sub true x y)

  -- the difference of two readings
  pub difference_reads : (u v : Val) (x y : ℕ) → x < 2 ^ 64 → y < 2 ^ 64 → IsReading w u x → IsReading w v y → IsReading w (difference_of u v) (computed Sub true x y)
  difference_reads (Pkt id off) (Num lo hi) x y fx fy rx ry = packet_less id off lo hi x y (nat_eq lo hi) refl rx ry fy
  difference_reads (Stack off) (Num lo hi) x y fx fy rx ry = stack_less off lo hi x y (nat_eq lo hi) refl rx ry fx fy
  difference_reads u v x y fx fy rx ry = full_reads w (computed Sub true x y) (computed_fits Sub true x y)
