-- Stated: claims rest on this file.
-- What arithmetic makes of values. If several rules fit, the first is taken.
use Rattle.std.specs.Prelude.{ℕ, ◌+◌, ◌-◌, ◌*◌, ◌/◌, ◌%◌, ◌^◌, min, ℤ, pos, negsuc, ◌+ℤ◌, ◌-ℤ◌, Option, None, Some, Bool, true}
use Rattle.std.specs.Prelude.{false, ◌&&◌, if◌then◌else◌, ◌==◌, nat_le, nat_lt, int_le}
use Rattle.bpf_insn.specs.Signed.{signed_reading, sign_extended}
use Rattle.bpf_insn.specs.Arithmetic.{computed, negated}
use Rattle.bpf_insn.specs.ByteOrder.{swapped}
use Rattle.bpf_insn.specs.Extension.{moved_extended}
use Rattle.bpf_insn.specs.Register.{number}
use Rattle.bpf_insn.specs.declared.alu_op.AluOp.{AluOp}
use Rattle.bpf_insn.specs.declared.alu_op.AluOp.TheVariants.{Add, Sub, Mov, And, Lsh, Rsh, Mod}
use Rattle.bpf_insn.specs.declared.operand.Operand.{Operand}
use Rattle.bpf_insn.specs.declared.operand.Operand.TheVariants.{Register, Immediate}
use Rattle.bpf_insn.specs.declared.size.Size.{Size}
use Rattle.bpf_insn.specs.declared.width.Width.{Width}
use Rattle.bpf_insn.specs.declared.width.Width.TheVariants.{Bits16, Bits32, Bits64}
use Rattle.bpf_insn.specs.declared.swap_kind.SwapKind.{SwapKind}
use Rattle.bpf_note.specs.declared.val.Val.{Val}
use Rattle.bpf_note.specs.declared.val.Val.TheVariants.{Num, Pkt, Stack}
use Rattle.bpf_note.specs.Facts.{Facts, full}
use Rattle.bpf_flow.specs.declared.computed.Computed.{Computed}
use Rattle.bpf_flow.specs.declared.computed.Computed.TheVariants.{Plain, Fresh}

-- a constant
abbrev pub exactly : ℕ → Val
exactly x = Num x x

abbrev pub constant : Val → Option ℕ
constant (Num lo hi) = if lo == hi then Some lo else None
constant v = None

-- any number of 64 bits, or of 32
abbrev pub any_number : Bool → Val
any_number true = full
any_number false = Num 0 0xFFFFFFFF

abbrev pub operand_value : Facts → Operand → Val
operand_value n (Register r) = n.reg (number r)
operand_value n (Immediate i) = exactly (sign_extended i)

-- a number of 64 bits, read as signed
abbrev pub signed : ℕ → ℤ
signed c = signed_reading (2 ^ 64) c

-- the pointer into the packet with that offset, if 16 bits hold it
abbrev pub packet_at : ℕ → ℤ → Val
packet_at id (pos off) = if nat_le off 65535 then Pkt id off else full
packet_at id (negsuc n) = full

-- the pointer into the stack with that offset from its end
abbrev pub stack_at : ℤ → Val
stack_at off = if int_le (negsuc 511) off && int_le off (pos 0) then Stack off else full

-- the greatest base of an address in the packet
abbrev pub most_base : ℕ
most_base = 0xFFFFF

-- a pointer into the packet whose id has this greatest base, and a number: a constant moves it; a range that 16 bits hold
-- makes an address of a new id
abbrev pub packet_sum : ℕ → ℕ → ℕ → ℕ → ℕ → Computed
packet_sum top id off lo hi =
    if lo == hi then Plain (packet_at id (pos off +ℤ signed lo))
    else if nat_le hi 65535 && nat_le (top + off + hi) most_base then Fresh (top + off + hi)
    else Plain full

abbrev pub stack_sum : ℤ → ℕ → ℕ → Val
stack_sum off lo hi = if lo == hi then stack_at (off +ℤ signed lo) else full

-- two ranges whose sum doesn't wrap
abbrev pub range_sum : ℕ → ℕ → ℕ → ℕ → Val
range_sum lo hi lo' hi' = if nat_lt (hi + hi') (2 ^ 64) then Num (computed Add true lo lo') (hi + hi') else full

abbrev pub sum_of : Facts → Val → Val → Computed
sum_of n (Pkt id off) (Num lo hi) = packet_sum (n.top id) id off lo hi
sum_of n (Num lo hi) (Pkt id off) = packet_sum (n.top id) id off lo hi
sum_of n (Stack off) (Num lo hi) = Plain (stack_sum off lo hi)
sum_of n (Num lo hi) (Stack off) = Plain (stack_sum off lo hi)
sum_of n (Num lo hi) (Num lo' hi') = Plain (range_sum lo hi lo' hi')
sum_of n v w = Plain full

-- a constant taken from a pointer
abbrev pub packet_difference : ℕ → ℕ → ℕ → ℕ → Val
packet_difference id off lo hi = if lo == hi then packet_at id (pos off -ℤ signed lo) else full

abbrev pub stack_difference : ℤ → ℕ → ℕ → Val
stack_difference off lo hi = if lo == hi then stack_at (off -ℤ signed lo) else full

abbrev pub difference_of : Val → Val → Val
difference_of (Pkt id off) (Num lo hi) = packet_difference id off lo hi
difference_of (Stack off) (Num lo hi) = stack_difference off lo hi
difference_of v w = full

-- a range and a constant
abbrev pub range_by : AluOp → ℕ → ℕ → ℕ → Val
range_by And lo hi c = Num 0 (min hi c)
range_by Rsh lo hi c = Num (lo / 2 ^ (c % 64)) (hi / 2 ^ (c % 64))
range_by Lsh lo hi c = if nat_lt (hi * 2 ^ (c % 64)) (2 ^ 64) then Num (computed Lsh true lo c) (hi * 2 ^ (c % 64)) else full
range_by Mod lo hi c = if c == 0 then full else Num 0 (c - 1)
range_by op lo hi c = full

abbrev pub ranged : AluOp → Val → Val → Val
ranged op (Num lo hi) (Num c d) = if c == d then range_by op lo hi c else full
ranged op v w = full

-- on 64 bits, if the operands aren't two constants; on 32 only constants are followed
abbrev pub unfolded : Facts → AluOp → Bool → Val → Val → Computed
unfolded n op false v w = Plain (any_number false)
unfolded n Add true v w = sum_of n v w
unfolded n Sub true v w = Plain (difference_of v w)
unfolded n op true v w = Plain (ranged op v w)

-- constants fold
abbrev pub folded : AluOp → Bool → Option ℕ → Option ℕ → Computed → Computed
folded op wide (Some a) (Some b) other = Plain (exactly (computed op wide a b))
folded op wide a b other = other

-- MOV doesn't read its destination
abbrev pub first_constant : AluOp → Val → Option ℕ
first_constant Mov v = Some 0
first_constant op v = constant v

-- what a register that holds v has after an operation with w: a MOV of 64 bits copies
abbrev pub result_of : Facts → AluOp → Bool → Val → Val → Computed
result_of n Mov true v w = Plain w
result_of n op wide v w = folded op wide (first_constant op v) (constant w) (unfolded n op wide v w)

-- an operation of one operand: a constant folds
abbrev pub folded_one : Option ℕ → (ℕ → ℕ) → Val → Val
folded_one (Some c) f other = exactly (f c)
folded_one None f other = other

abbrev pub negated_value : Bool → Val → Val
negated_value wide v = folded_one (constant v) (negated wide) (any_number wide)

abbrev pub extended_value : Bool → Size → Val → Val
extended_value wide bits v = folded_one (constant v) (moved_extended wide bits) (any_number wide)

-- any number of that width
abbrev pub any_of_width : Width → Val
any_of_width Bits16 = Num 0 0xFFFF
any_of_width Bits32 = Num 0 0xFFFFFFFF
any_of_width Bits64 = full

abbrev pub swapped_value : SwapKind → Width → Val → Val
swapped_value kind width v = folded_one (constant v) (swapped kind width) (any_of_width width)
