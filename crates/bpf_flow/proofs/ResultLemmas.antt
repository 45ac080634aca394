-- What an operation computes reads as its result.
use Rattle.std.proofs.Common.{◌≡◌, ◌≢◌, ℕ, ◌-◌, ◌*◌, ◌/◌, ◌%◌, ◌^◌, ◌<◌, ◌≤◌, Bool, true, false, refl, Option, Some, None, nat_eq, nat_lt, subst, sym, ap, ◌∙◌, arith}
use Rattle.std.specs.Prelude.{if◌then◌else◌, bit_and}
use Rattle.std.proofs.lemmas.Bool.Decides.{nat_tests}
use Rattle.std.proofs.lemmas.Nat.{and_le_l, and_le_r, le-div, pow_pos}
use Rattle.std.proofs.Math.Nat.{mul-le-mul_right, div-mul-le_self}
use Rattle.bpf_insn.specs.Arithmetic.{computed, negated}
use Rattle.bpf_insn.specs.ByteOrder.{swapped}
use Rattle.bpf_insn.specs.Extension.{moved_extended}
use Rattle.bpf_insn.specs.declared.alu_op.AluOp.{AluOp}
use Rattle.bpf_insn.specs.declared.alu_op.AluOp.TheVariants.{Add, Sub, And, Lsh, Rsh, Mod, Mov}
use Rattle.bpf_insn.specs.declared.size.Size.{Size}
use Rattle.bpf_insn.specs.declared.width.Width.{Width}
use Rattle.bpf_insn.specs.declared.width.Width.TheVariants.{Bits16, Bits32, Bits64}
use Rattle.bpf_insn.specs.declared.swap_kind.SwapKind.{SwapKind}
use Rattle.bpf_insn.proofs.ResultLemmas.{computed_fits, low_computed_fits, low_negated_fits, low_moved_extended_fits, swapped_16, swapped_32, negated_fits, moved_extended_fits, swapped_fits}
use Rattle.bpf_note.specs.declared.val.Val.{Val}
use Rattle.bpf_note.specs.declared.val.Val.TheVariants.{Unset, Num, Pkt, PktEnd, Stack, Ctx, Map, MaybeValue, Value}
use Rattle.bpf_note.specs.Facts.{Facts, full}
use Rattle.bpf_note.specs.Describes.{Meaning, IsReading}
use Rattle.bpf_flow.specs.declared.computed.Computed.{Computed}
use Rattle.bpf_flow.specs.declared.computed.Computed.TheVariants.{Plain}
use Rattle.bpf_flow.specs.Alu.{constant, any_number, range_by, ranged, unfolded, folded, result_of, folded_one, negated_value, extended_value, any_of_width, swapped_value}
use Rattle.bpf_flow.proofs.IdLemmas.{full_reads, same_id}
use Rattle.bpf_flow.proofs.SumLemmas.{IsResult, the_one, sum_reads, difference_reads}

-- operations on 64 bits
and_is : (a b : ℕ) → a < 2 ^ 64 → b < 2 ^ 64 → computed And true a b ≡ bit_and a b
unfolding computed
and_is a b fa fb = ap (λ (n : ℕ). bit_and n (b % 2 ^ 64)) (omega arith) ∙ ap (bit_and a) (omega arith)

half : (a : ℕ) → a < 2 ^ 64 → a % 2 ^ 64 ≡ a
half a f = omega arith

rsh_is : (a b : ℕ) → a < 2 ^ 64 → b < 2 ^ 64 → computed Rsh true a b ≡ a / 2 ^ (b % 64)
unfolding computed
rsh_is a b fa fb = ap (λ (n : ℕ). n / 2 ^ (b % 2 ^ 64 % 64)) (half a fa) ∙ ap (λ (n : ℕ). a / 2 ^ (n % 64)) (half b fb)

lsh_is : (a b : ℕ) → a < 2 ^ 64 → b < 2 ^ 64 → computed Lsh true a b ≡ (a * 2 ^ (b % 64)) % 2 ^ 64
unfolding computed
lsh_is a b fa fb = ap (λ (n : ℕ). (n * 2 ^ (b % 2 ^ 64 % 64)) % 2 ^ 64) (half a fa) ∙ ap (λ (n : ℕ). (a * 2 ^ (n % 64)) % 2 ^ 64) (half b fb)

mod_below : (a b : ℕ) → b < 2 ^ 64 → b ≢ 0 → computed Mod true a b < b
unfolding computed
mod_below a b fb n = subst (λ (c : ℕ). (if nat_eq c 0 then a % 2 ^ 64 else (a % 2 ^ 64) % c) < b) (sym (half b fb)) (by (nat_eq b 0) refl)
  where
    by : (z : Bool) → z ≡ nat_eq b 0 → (if z then a % 2 ^ 64 else (a % 2 ^ 64) % b) < b
    by true e = absurd (n (same_id b 0 e))
    by false e = omega arith

mov_is : (a b : ℕ) → b < 2 ^ 64 → computed Mov true a b ≡ b
unfolding computed
mov_is a b fb = half b fb

div-mono : (k : ℕ) {a b : ℕ} → 0 < k → a ≤ b → a / k ≤ b / k
div-mono k {a = a} {b = b} some h = le-div (a / k) b k some (omega (arith, div-mul-le_self a k))

module _ (w : Meaning) where
  shifted_left : (lo hi c x : ℕ) (b : Bool) → b ≡ nat_lt (hi * 2 ^ (c % 64)) (2 ^ 64) → lo ≤ x → x ≤ hi → x < 2 ^ 64 → c < 2 ^ 64 →
      IsReading w (if b then Num (computed Lsh true lo c) (hi * 2 ^ (c % 64)) else full) (computed Lsh true x c)
  shifted_left lo hi c x true e lx hx fx fc =
      let p = 2 ^ (c % 64) in
      let fits : hi * 2 ^ (c % 64) < 2 ^ 64 = grind (arith, nat_tests) in
      let upper : x * 2 ^ (c % 64) ≤ hi * 2 ^ (c % 64) = mul-le-mul_right (2 ^ (c % 64)) hx in
      let lower : lo * 2 ^ (c % 64) ≤ x * 2 ^ (c % 64) = mul-le-mul_right (2 ^ (c % 64)) lx in
      let ex : computed Lsh true x c ≡ x * 2 ^ (c % 64) = lsh_is x c fx fc ∙ half (x * 2 ^ (c % 64)) (omega (arith, fits, upper)) in
      let el : computed Lsh true lo c ≡ lo * 2 ^ (c % 64) = lsh_is lo c (omega arith) fc ∙ half (lo * 2 ^ (c % 64)) (omega (arith, fits, upper, lower)) in
      (omega (arith, ex, el, lower), omega (arith, ex, upper))
  shifted_left lo hi c x false e lx hx fx fc = full_reads w (computed Lsh true x c) (computed_fits Lsh true x c)

  remainder : (c x : ℕ) (b : Bool) → b ≡ nat_eq c 0 → c < 2 ^ 64 → IsReading w (if b then full else Num 0 (c - 1)) (computed Mod true x c)
  remainder c x true e fc = full_reads w (computed Mod true x c) (computed_fits Mod true x c)
  remainder c x false e fc =
      let some : c ≢ 0 = grind (arith, nat_tests) in
      let h = mod_below x c fc some in
      (omega arith, omega (arith, h))

  range_by_reads : (op : AluOp) (lo hi c x : ℕ) → lo ≤ x → x ≤ hi → x < 2 ^ 64 → c < 2 ^ 64 → IsReading w (range_by op lo hi c) (computed op true x c)
  range_by_reads And lo hi c x lx hx fx fc = (omega arith, omega (arith, and_is x c fx fc, and_le_l x c, and_le_r x c))
  range_by_reads Rsh lo hi c x lx hx fx fc =
      let e = rsh_is x c fx fc in
      (omega (arith, e, div-mono (2 ^ (c % 64)) (pow_pos (c % 64)) lx), omega (arith, e, div-mono (2 ^ (c % 64)) (pow_pos (c % 64)) hx))
  range_by_reads Lsh lo hi c x lx hx fx fc = shifted_left lo hi c x (nat_lt (hi * 2 ^ (c % 64)) (2 ^ 64)) refl lx hx fx fc
  range_by_reads Mod lo hi c x lx hx fx fc = remainder c x (nat_eq c 0) refl fc
  range_by_reads op lo hi c x lx hx fx fc = full_reads w (computed op true x c) (computed_fits op true x c)

  ranged_by : (op : AluOp) (lo hi c d x y : ℕ) (b : Bool) → b ≡ nat_eq c d → lo ≤ x → x ≤ hi → c ≤ y → y ≤ d → x < 2 ^ 64 → y < 2 ^ 64 →
      IsReading w (if b then range_by op lo hi c else full) (computed op true x y)
  ranged_by op lo hi c d x y true e lx hx ly hy fx fy =
      let s = the_one c d y e ly hy in
      subst (λ (c : ℕ). IsReading w (range_by op lo hi c) (computed op true x y)) s (range_by_reads op lo hi y x lx hx fx fy)
  ranged_by op lo hi c d x y false e lx hx ly hy fx fy = full_reads w (computed op true x y) (computed_fits op true x y)

  ranged_reads : (op : AluOp) (u v : Val) (x y : ℕ) → x < 2 ^ 64 → y < 2 ^ 64 → IsReading w u x → IsReading w v y → IsReading w (ranged op u v) (computed op true x y)
  ranged_reads op (Num lo hi) (Num c d) x y fx fy rx ry = ranged_by op lo hi c d x y (nat_eq c d) refl rx.0 rx.1 ry.0 ry.1 fx fy
  ranged_reads op u v x y fx fy rx ry = full_reads w (computed op true x y) (computed_fits op true x y)

  pub constant_is : (v : Val) (x c : ℕ) → IsReading w v x → constant v ≡ Some c → x ≡ c
  constant_is (Num lo hi) x c r e = by (nat_eq lo hi) refl e
    where
      by : (b : Bool) → b ≡ nat_eq lo hi → (if b then Some lo else None) ≡ Some c → x ≡ c
      by true t e = let s : lo ≡ c = cc in the_one lo hi x t r.0 r.1 ∙ s
      by false t e = absurd (cc)
  constant_is Unset x c r e = absurd (cc)
  constant_is (Pkt id off) x c r e = absurd (cc)
  constant_is PktEnd x c r e = absurd (cc)
  constant_is (Stack off) x c r e = absurd (cc)
  constant_is Ctx x c r e = absurd (cc)
  constant_is (Map m) x c r e = absurd (cc)
  constant_is (MaybeValue m id) x c r e = absurd (cc)
  constant_is (Value m) x c r e = absurd (cc)

  folded_reads : (op : AluOp) (wide : Bool) (a b : Option ℕ) (x y : ℕ) (other : Computed) → ((c : ℕ) → a ≡ Some c → x ≡ c) → ((c : ℕ) → b ≡ Some c → y ≡ c) →
      IsResult w other (computed op wide x y) → IsResult w (folded op wide a b other) (computed op wide x y)
  folded_reads op wide None b x y other h g r = r
  folded_reads op wide (Some c) None x y other h g r = r
  folded_reads op wide (Some c) (Some d) x y other h g r =
      let e : computed op wide c d ≡ computed op wide x y = ap (λ (n : ℕ). computed op wide n d) (sym (h c refl)) ∙ ap (computed op wide x) (sym (g d refl)) in
      (omega (arith, e), omega (arith, e))

  low_reads : (op : AluOp) (x y : ℕ) → IsResult w (Plain (any_number false)) (computed op false x y)
  low_reads op x y = let h = low_computed_fits op x y in (omega arith, omega (arith, h))

  module _ (low : (id : ℕ) → w.base id ≤ 0xFFFFF) (n : Facts) (tops : (id : ℕ) → w.base id ≤ n.top id) where
    unfolded_reads : (op : AluOp) (wide : Bool) (u v : Val) (x y : ℕ) → x < 2 ^ 64 → y < 2 ^ 64 → IsReading w u x → IsReading w v y → IsResult w (unfolded n op wide u v) (computed op wide x y)
    unfolded_reads op false u v x y fx fy rx ry = low_reads op x y
    unfolded_reads Add true u v x y fx fy rx ry = sum_reads w low n u v x y tops fx fy rx ry
    unfolded_reads Sub true u v x y fx fy rx ry = difference_reads w low u v x y fx fy rx ry
    unfolded_reads op true u v x y fx fy rx ry = ranged_reads op u v x y fx fy rx ry

    -- the result of an operation that reads both operands
    pub both_read : (op : AluOp) (wide : Bool) (u v : Val) (x y : ℕ) → x < 2 ^ 64 → y < 2 ^ 64 → IsReading w u x → IsReading w v y →
        IsResult w (folded op wide (constant u) (constant v) (unfolded n op wide u v)) (computed op wide x y)
    both_read op wide u v x y fx fy rx ry =
        folded_reads op wide (constant u) (constant v) x y (unfolded n op wide u v) (λ c e. constant_is u x c rx e) (λ c e. constant_is v y c ry e)
        (unfolded_reads op wide u v x y fx fy rx ry)

    -- the result of MOV
    pub move_read : (wide : Bool) (u v : Val) (y : ℕ) → y < 2 ^ 64 → IsReading w v y → IsResult w (result_of n Mov wide u v) (computed Mov wide 0 y)
    move_read true u v y fy ry = subst (λ (r : ℕ). IsReading w v r) (sym (mov_is 0 y fy)) ry
    move_read false u v y fy ry =
        folded_reads Mov false (Some 0) (constant v) 0 y (Plain (any_number false)) (λ c e. cc) (λ c e. constant_is v y c ry e) (low_reads Mov 0 y)

  folded_one_reads : (o : Option ℕ) (f : ℕ → ℕ) (other : Val) (x : ℕ) → ((c : ℕ) → o ≡ Some c → x ≡ c) → IsReading w other (f x) → IsReading w (folded_one o f other) (f x)
  folded_one_reads None f other x h r = r
  folded_one_reads (Some c) f other x h r = let e : f c ≡ f x = ap f (sym (h c refl)) in (omega (arith, e), omega (arith, e))

  any_negated : (wide : Bool) (x : ℕ) → IsReading w (any_number wide) (negated wide x)
  any_negated true x = full_reads w (negated true x) (negated_fits true x)
  any_negated false x = let h = low_negated_fits x in (omega arith, omega (arith, h))

  pub negated_reads : (wide : Bool) (v : Val) (x : ℕ) → IsReading w v x → IsReading w (negated_value wide v) (negated wide x)
  negated_reads wide v x r = folded_one_reads (constant v) (negated wide) (any_number wide) x (λ c e. constant_is v x c r e) (any_negated wide x)

  any_extended : (wide : Bool) (bits : Size) (x : ℕ) → IsReading w (any_number wide) (moved_extended wide bits x)
  any_extended true bits x = full_reads w (moved_extended true bits x) (moved_extended_fits true bits x)
  any_extended false bits x = let h = low_moved_extended_fits bits x in (omega arith, omega (arith, h))

  pub extended_reads : (wide : Bool) (bits : Size) (v : Val) (x : ℕ) → IsReading w v x → IsReading w (extended_value wide bits v) (moved_extended wide bits x)
  extended_reads wide bits v x r = folded_one_reads (constant v) (moved_extended wide bits) (any_number wide) x (λ c e. constant_is v x c r e) (any_extended wide bits x)

  any_swapped : (kind : SwapKind) (width : Width) (x : ℕ) → IsReading w (any_of_width width) (swapped kind width x)
  any_swapped kind Bits16 x = let h = swapped_16 kind x in (omega arith, omega (arith, h))
  any_swapped kind Bits32 x = let h = swapped_32 kind x in (omega arith, omega (arith, h))
  any_swapped kind Bits64 x = full_reads w (swapped kind Bits64 x) (swapped_fits kind Bits64 x)

  pub swapped_reads : (kind : SwapKind) (width : Width) (v : Val) (x : ℕ) → IsReading w v x → IsReading w (swapped_value kind width v) (swapped kind width x)
  swapped_reads kind width v x r = folded_one_reads (constant v) (swapped kind width) (any_of_width width) x (λ c e. constant_is v x c r e) (any_swapped kind width x)
