-- What an access reaches of the stack.
use Rattle.std.proofs.Common.{ℕ, ◌+◌, ◌-◌, ◌*◌, ◌/◌, ◌%◌, ◌^◌, ◌≡◌, ◌<◌, ◌≤◌, ◌⊎◌, inl, inr, refl, sym, subst, arith, ℤ, pos, negsuc, List, length, Option, None, Some, Bool, true, false, ◌&&◌}
use Rattle.std.specs.Prelude.{if◌then◌else◌, ◌==◌, nat_le, nat_lt, ◌+ℤ◌, ◌≤ℤ◌, slice_get}
use Rattle.std.proofs.lemmas.Bool.Decides.{nat_tests}
use Rattle.std.proofs.lemmas.Int.{ints}
use Rattle.bpf_note.specs.declared.val.Val.{Val}
use Rattle.bpf_note.specs.declared.val.Val.TheVariants.{Num, Pkt, Stack, Ctx, Value}
use Rattle.bpf_note.specs.Shape.{Shape, IsShape, AreShapes, most_maps}
use Rattle.bpf_note.specs.State.{State, packet_start, stack_start, stack_end, context_start, constants_start, values_start}
use Rattle.bpf_note.specs.Regions.{InPacket, InStack, InContext, InCounter, Nowhere, region, lies_in, map_near, map_offset, counter_address, counter_at, counter_in, counter_past, counter_from}
use Rattle.bpf_note.specs.Facts.{Facts}
use Rattle.bpf_note.specs.Describes.{Describes, Meaning, meaning, Reads, IsReading, IsValueOf}
use Rattle.bpf_flow.specs.Step.{address, reached}
use Rattle.bpf_flow.proofs.ReachLemmas.{shift_is, map_small, counter_below}
use Rattle.bpf_same.specs.Stepped.{IsAbove, IsBelowValues}
use Rattle.bpf_insn.specs.Register.{number}
use Rattle.bpf_insn.specs.declared.register.Register.{Register}

counter_past_apart : (c : Shape) (m at j : ℕ) → counter_past c m at ≡ InStack j → ⊥
counter_past_apart c m at j e = by (at % 8 == 0 && nat_lt at (8 * (c.counters * c.entries))) e
  where
    by : (b : Bool) → (if b then InCounter m (at / 8 / c.counters) (at / 8 % c.counters) else Nowhere) ≡ InStack j → ⊥
    by true e = cc
    by false e = cc

counter_in_apart : (o : Option Shape) (m at j : ℕ) → counter_in o m at ≡ InStack j → ⊥
counter_in_apart None m at j e = cc
counter_in_apart (Some c) m at j e = by (nat_le (map_offset c m) at) e
  where
    by : (b : Bool) → (if b then counter_past c m (at - map_offset c m) else Nowhere) ≡ InStack j → ⊥
    by true e = counter_past_apart c m (at - map_offset c m) j e
    by false e = cc

counter_apart : (shapes : List Shape) (a j : ℕ) → counter_at shapes a ≡ InStack j → ⊥
counter_apart shapes a j e = by (nat_le values_start a) e
  where
    by : (b : Bool) → (if b then counter_from shapes (a - values_start) else Nowhere) ≡ InStack j → ⊥
    by true e = counter_in_apart (slice_get shapes (map_near (a - values_start))) (map_near (a - values_start)) (a - values_start) j e
    by false e = cc

-- what lies in the stack has such an address
in_stack : (len : ℕ) (shapes : List Shape) (a z j : ℕ) → region len shapes a z ≡ InStack j → (stack_start ≤ a) × (a ≡ stack_start + j) × (a ≤ stack_end)
unfolding region
in_stack len shapes a z j e = by (lies_in packet_start (packet_start + len) a z) (lies_in stack_start stack_end a z) (lies_in context_start (context_start + 20) a z && z == 4 && a % 4 == 0) (z == 8) refl e
  where
    by : (p s c t : Bool) → (lies_in stack_start stack_end a z) ≡ s → (if p then InPacket (a - packet_start) else if s then InStack (a - stack_start) else if c then InContext (a - context_start) else if t then counter_at shapes a else Nowhere) ≡ InStack j →
        (stack_start ≤ a) × (a ≡ stack_start + j) × (a ≤ stack_end)
    by true s c t f e = cc
    by false true c t f e =
        let start : stack_start ≤ a = grind (arith, nat_tests) in
        let end : a ≤ stack_end = grind (arith, nat_tests) in
        let same : a - stack_start ≡ j = cc in
        (start, omega (arith, start, same), end)
    by false false true t f e = cc
    by false false false true f e = absurd (counter_apart shapes a j e)
    by false false false false f e = cc

-- an offset of 16 bits moves an address by less than 2 ^ 15
abbrev pub IsShort : ℤ → Type 0
IsShort o = (negsuc 32767 ≤ℤ o) × (o ≤ℤ pos 32767)

near : (x : ℕ) (o : ℤ) → IsShort o → 32768 ≤ x → x < 0x80000000 → (x ≤ address x o + 32768) × (address x o ≤ x + 32768)
near x (pos n) s l h = let small : n ≤ 32767 = omega (arith, ints, s.1) in (omega (arith, small, h), omega (arith, small, h))
near x (negsuc n) s l h = let small : n ≤ 32767 = omega (arith, ints, s.0) in (omega (arith, small, l, h), omega (arith, small, l, h))

-- an address that lies far from the stack
far : (low : ℕ) (s : State) (x z j : ℕ) (o : ℤ) → IsShort o → 32768 ≤ x → x < 0x80000000 → (x + 32768 < stack_start) ⊎ (stack_end + 32768 < x) → reached s x o z ≡ InStack j → low ≤ j
far low s x z j o short l h (inl under) e =
    let n = near x o short l h in
    let i = in_stack (length s.packet) s.shapes (address x o) z j e in
    absurd (omega (arith, n.1, i.0, under))
far low s x z j o short l h (inr over) e =
    let n = near x o short l h in
    let i = in_stack (length s.packet) s.shapes (address x o) z j e in
    absurd (omega (arith, n.0, i.2, over))

same_some : {x y : ℕ} → Some x ≡ Some y → x ≡ y
same_some e = cc

-- a number of the register's value
read : (w : Meaning) (v : Val) (o : Option ℕ) (a : ℕ) → Reads w v o → o ≡ Some a → IsReading w v a
read w v o a r e = subst (λ (o : Option ℕ). Reads w v o) e r

pub packet_above : (low : ℕ) (n : Facts) (s : State) (k id at z : ℕ) (o : ℤ) → Describes n s → n.reg k ≡ Pkt id at → IsShort o → IsAbove low s (s.reg k) o z
packet_above low n s k id at z o d v short = λ a j e is.
    let w = meaning s d.base d.address in
    let r = read w (Pkt id at) (s.reg k) a (subst (λ (v : Val). Reads w v (s.reg k)) v (d.regs k)) e in
    let base = d.low id in
    far low s a z j o short (omega (arith, r.0)) (omega (arith, r.0, r.1, base)) (inl (omega (arith, r.0, r.1, base))) is

pub context_above : (low : ℕ) (n : Facts) (s : State) (k z : ℕ) (o : ℤ) → Describes n s → n.reg k ≡ Ctx → IsShort o → IsAbove low s (s.reg k) o z
context_above low n s k z o d v short = λ a j e is.
    let w = meaning s d.base d.address in
    let r = read w Ctx (s.reg k) a (subst (λ (v : Val). Reads w v (s.reg k)) v (d.regs k)) e in
    far low s a z j o short (omega (arith, r)) (omega (arith, r)) (inr (omega (arith, r))) is

not_below : (start n x : ℕ) → x ≡ values_start + start + 8 * (n + 0) → values_start ≤ x
not_below start n x e = omega (arith, e)

pub value_bounds : (shapes : List Shape) (m x : ℕ) (o : Option Shape) → slice_get shapes m ≡ o → AreShapes shapes → length shapes ≤ most_maps → IsValueOf o m x → (values_start ≤ x) × (x < 0x80000000)
value_bounds shapes m x None e all few h = absurd h
value_bounds shapes m x (Some c) e all few h =
    let shape : IsShape c = all m c e in
    let inside : m < most_maps = map_small shapes m c e few in
    let below : counter_address c m h.0 0 < 0x45000000 = counter_below c m h.0 0 inside shape h.1 (omega (arith, shape.some_counters)) in
    (not_below (map_offset c m) (c.counters * h.0) x h.2, omega (arith, subst (λ (a : ℕ). a < 0x45000000) (sym h.2) below))

pub value_above : (low : ℕ) (n : Facts) (s : State) (k m z : ℕ) (o : ℤ) → Describes n s → n.reg k ≡ Value m → IsShort o → IsAbove low s (s.reg k) o z
value_above low n s k m z o d v short = λ a j e is.
    let w = meaning s d.base d.address in
    let r = read w (Value m) (s.reg k) a (subst (λ (v : Val). Reads w v (s.reg k)) v (d.regs k)) e in
    let b = value_bounds s.shapes m a (slice_get s.shapes m) refl d.state.shapes d.state.maps r in
    far low s a z j o short (omega (arith, b.0)) b.1 (inr (omega (arith, b.0))) is

pub constants_above : (low : ℕ) (n : Facts) (s : State) (k lo hi z : ℕ) (o : ℤ) → Describes n s → n.reg k ≡ Num lo hi → IsShort o → (constants_start ≤ lo) × (hi + 32768 < values_start) → IsAbove low s (s.reg k) o z
constants_above low n s k lo hi z o d v short there = λ a j e is.
    let w = meaning s d.base d.address in
    let r = read w (Num lo hi) (s.reg k) a (subst (λ (v : Val). Reads w v (s.reg k)) v (d.regs k)) e in
    far low s a z j o short (omega (arith, r.0, there.0)) (omega (arith, r.1, there.1)) (inr (omega (arith, r.0, there.0))) is

stack_at : (low x j : ℕ) (at o q : ℤ) (s : State) (z : ℕ) → pos x ≡ pos stack_end +ℤ at → x < 2 ^ 64 → q ≡ (pos 512 +ℤ at) +ℤ o → pos low ≤ℤ q → q ≤ℤ pos 0x100000 → reached s x o z ≡ InStack j → low ≤ j
stack_at low x j at o (pos q) s z e fits is l most there =
    let here : address x o ≡ stack_start + q = shift_is x (stack_start + q) o (omega (arith, ints, e, is)) fits (omega (arith, ints, most)) in
    let i = in_stack (length s.packet) s.shapes (address x o) z j there in
    omega (arith, ints, l, here, i.1)
stack_at low x j at o (negsuc q) s z e fits is l most there = absurd (omega (arith, ints, l))

pub stack_above : (low : ℕ) (n : Facts) (s : State) (k z : ℕ) (at o : ℤ) → Describes n s → n.reg k ≡ Stack at → IsShort o → (pos low ≤ℤ ((pos 512 +ℤ at) +ℤ o)) → IsAbove low s (s.reg k) o z
stack_above low n s k z at o d v short l = λ a j e is.
    let w = meaning s d.base d.address in
    let r = read w (Stack at) (s.reg k) a (subst (λ (v : Val). Reads w v (s.reg k)) v (d.regs k)) e in
    stack_at low a j at o ((pos 512 +ℤ at) +ℤ o) s z r.0 (d.state.words k a e) refl l (omega (arith, ints, r.2, short.1)) is

pub nothing_above : (low : ℕ) (s : State) (base : Option ℕ) (z : ℕ) (o : ℤ) → low ≡ 0 → IsAbove low s base o z
nothing_above low s base z o e = λ a j f g. omega (arith, e)

-- the same of a 16-bit number that is read back
pub stack_above_read : (low : ℕ) (n : Facts) (s : State) (k z : ℕ) (at o a b : ℤ) → Describes n s → n.reg k ≡ Stack at → IsShort o → ((negsuc 511 ≤ℤ at) → (at ≤ℤ pos 0) → a ≡ at) → b ≡ o → (pos low ≤ℤ ((pos 512 +ℤ a) +ℤ b)) → IsAbove low s (s.reg k) o z
stack_above_read low n s k z at o a b d v short first second l = λ x j e is.
    let w = meaning s d.base d.address in
    let r = read w (Stack at) (s.reg k) x (subst (λ (v : Val). Reads w v (s.reg k)) v (d.regs k)) e in
    let same : a ≡ at = first r.1 r.2 in
    let sum : (pos low ≤ℤ ((pos 512 +ℤ at) +ℤ o)) = subst (λ (a : ℤ). pos low ≤ℤ ((pos 512 +ℤ a) +ℤ o)) same (subst (λ (b : ℤ). pos low ≤ℤ ((pos 512 +ℤ a) +ℤ b)) second l) in
    stack_above low n s k z at o d v short sum x j e is

-- where an access lies below the maps' values
below_end : (x : ℕ) (o : ℤ) → IsShort o → 32768 ≤ x → x + 32768 < values_start → address x o < values_start
below_end x o short l h = let n = near x o short l (omega (arith, h)) in omega (arith, n.1, h)

pub packet_below : (n : Facts) (base : Register) (o : ℤ) (id at : ℕ) → n.reg (number base) ≡ Pkt id at → IsShort o → IsBelowValues base o n
packet_below n base o id at v short = λ a s d e.
    let w = meaning s d.base d.address in
    let r = read w (Pkt id at) (s.reg (number base)) a (subst (λ (v : Val). Reads w v (s.reg (number base))) v (d.regs (number base))) e in
    let low = d.low id in
    below_end a o short (omega (arith, r.0)) (omega (arith, r.0, r.1, low))

pub context_below : (n : Facts) (base : Register) (o : ℤ) → n.reg (number base) ≡ Ctx → IsShort o → IsBelowValues base o n
context_below n base o v short = λ a s d e.
    let w = meaning s d.base d.address in
    let r = read w Ctx (s.reg (number base)) a (subst (λ (v : Val). Reads w v (s.reg (number base))) v (d.regs (number base))) e in
    below_end a o short (omega (arith, r)) (omega (arith, r))

pub stack_below : (n : Facts) (base : Register) (o at : ℤ) → n.reg (number base) ≡ Stack at → IsShort o → IsBelowValues base o n
stack_below n base o at v short = λ a s d e.
    let w = meaning s d.base d.address in
    let r = read w (Stack at) (s.reg (number base)) a (subst (λ (v : Val). Reads w v (s.reg (number base))) v (d.regs (number base))) e in
    below_end a o short (omega (arith, ints, r.0, r.1)) (omega (arith, ints, r.0, r.2))

pub constants_below : (n : Facts) (base : Register) (o : ℤ) (lo hi : ℕ) → n.reg (number base) ≡ Num lo hi → IsShort o → (constants_start ≤ lo) × (hi + 32768 < values_start) → IsBelowValues base o n
constants_below n base o lo hi v short there = λ a s d e.
    let w = meaning s d.base d.address in
    let r = read w (Num lo hi) (s.reg (number base)) a (subst (λ (v : Val). Reads w v (s.reg (number base))) v (d.regs (number base))) e in
    below_end a o short (omega (arith, r.0, there.0)) (omega (arith, r.1, there.1))
