-- What the rule computes, loads and learns is never Unset.
use Rattle.std.proofs.Common.{◌≡◌, ℕ, ◌+◌, ◌-◌, ◌*◌, ◌/◌, ◌%◌, ◌^◌, List, Bool, true, false, ◌&&◌, ◌||◌, refl, ◌∙◌, subst, Option, Some, None, ℤ, pos, negsuc, ◌+ℤ◌, ◌-ℤ◌}
use Rattle.std.specs.Prelude.{if◌then◌else◌, ◌==◌, nat_le, nat_lt, int_le, Result, Ok, Err, option_map, slice_get}
use Rattle.bpf_insn.specs.Arithmetic.{computed}
use Rattle.bpf_insn.specs.Size.{size_bytes}
use Rattle.bpf_insn.specs.declared.alu_op.AluOp.{AluOp}
use Rattle.bpf_insn.specs.declared.alu_op.AluOp.TheVariants.{Add, Sub, Mov, And, Lsh, Rsh, Mod}
use Rattle.bpf_insn.specs.declared.size.Size.{Size}
use Rattle.bpf_insn.specs.declared.size.Size.TheVariants.{Byte, Half, Word, Double}
use Rattle.bpf_insn.specs.declared.width.Width.{Width}
use Rattle.bpf_insn.specs.declared.width.Width.TheVariants.{Bits16, Bits32, Bits64}
use Rattle.bpf_insn.specs.declared.refusal.Cause.{Cause}
use Rattle.bpf_insn.specs.declared.refusal.Cause.TheVariants as cause
use Rattle.bpf_note.specs.Shape.{Shape}
use Rattle.bpf_note.specs.declared.val.Val.{Val}
use Rattle.bpf_note.specs.declared.val.Val.TheVariants.{Unset, Num, Pkt, PktEnd, Stack, Ctx, Map, MaybeValue, Value}
use Rattle.bpf_note.specs.Facts.{Facts, full, is_unset, packet_id, forgotten, resolved}
use Rattle.bpf_note.specs.Join.{joined_value, joined_kept, is_same_pointer}
use Rattle.bpf_flow.specs.declared.computed.Computed.{Computed}
use Rattle.bpf_flow.specs.declared.computed.Computed.TheVariants.{Plain, Fresh}
use Rattle.bpf_flow.specs.Edges.{and_then}
use Rattle.bpf_flow.specs.declared.access.Access.{Access}
use Rattle.bpf_flow.specs.declared.access.Access.TheVariants.{InPacket, OnStack, InContext, AtValue}
use Rattle.bpf_flow.specs.Alu.{constant, any_number, packet_at, stack_at, packet_sum, stack_sum, sum_of, difference_of, range_by, ranged, unfolded, folded, first_constant, result_of, folded_one, any_of_width, signed, most_base}
use Rattle.bpf_flow.specs.Memory.{any_of_size, any_loaded, is_slot, kept_or_full, stack_value, field_value, is_word, is_field, is_double, is_counter, all_set, reach, loaded_value, is_data, load_value}

-- a kept value isn't Unset
abbrev pub IsSet : Option Val → Type 0
IsSet None = Unit {0}
IsSet (Some v) = is_unset v ≡ false

-- no kept value is Unset
abbrev pub KeepsSet : Facts → Type 0
KeepsSet n = (j : ℕ) → IsSet (n.kept j)

pub chosen_set : (b : Bool) (v w : Val) → is_unset v ≡ false → is_unset w ≡ false → is_unset (if b then v else w) ≡ false
chosen_set true v w h g = h
chosen_set false v w h g = g

pub chosen_kept : (b : Bool) (v w : Option Val) → IsSet v → IsSet w → IsSet (if b then v else w)
chosen_kept true v w h g = h
chosen_kept false v w h g = g

-- an id is forgotten, or resolved
pub forgotten_unset : (id : ℕ) (v : Val) → is_unset (forgotten id v) ≡ is_unset v
forgotten_unset id Unset = refl
forgotten_unset id (Num lo hi) = refl
forgotten_unset id (Pkt i off) = chosen_set (i == id) full (Pkt i off) refl refl
forgotten_unset id PktEnd = refl
forgotten_unset id (Stack off) = refl
forgotten_unset id Ctx = refl
forgotten_unset id (Map m) = refl
forgotten_unset id (MaybeValue m i) = chosen_set (i == id) full (MaybeValue m i) refl refl
forgotten_unset id (Value m) = refl

pub resolved_unset : (id : ℕ) (w v : Val) → is_unset w ≡ false → is_unset (resolved id w v) ≡ is_unset v
resolved_unset id w (MaybeValue m i) h = chosen_set (i == id) w (MaybeValue m i) h refl
resolved_unset id w v h = refl

pub mapped_kept : (f : Val → Val) (o : Option Val) → ((v : Val) → is_unset (f v) ≡ is_unset v) → IsSet o → IsSet (option_map f o)
mapped_kept f None h s = tt
mapped_kept f (Some v) h s = h v ∙ s

-- a join is Unset where a side is, and nowhere else
pub joined_unset : (v w : Val) → is_unset (joined_value v w) ≡ (is_unset v || is_unset w)
joined_unset Unset w = refl
joined_unset (Num lo hi) Unset = refl
joined_unset (Pkt id off) Unset = refl
joined_unset PktEnd Unset = refl
joined_unset (Stack off) Unset = refl
joined_unset Ctx Unset = refl
joined_unset (Map m) Unset = refl
joined_unset (MaybeValue m id) Unset = refl
joined_unset (Value m) Unset = refl
joined_unset (Num lo hi) (Num lo' hi') = refl
joined_unset (Num lo hi) (Pkt id off) = refl
joined_unset (Num lo hi) PktEnd = refl
joined_unset (Num lo hi) (Stack off) = refl
joined_unset (Num lo hi) Ctx = refl
joined_unset (Num lo hi) (Map m) = refl
joined_unset (Num lo hi) (MaybeValue m id) = refl
joined_unset (Num lo hi) (Value m) = refl
joined_unset (Pkt id off) (Pkt id' off') = chosen_set (is_same_pointer (Pkt id off) (Pkt id' off')) (Pkt id off) full refl refl
joined_unset (Stack off) (Stack off') = chosen_set (is_same_pointer (Stack off) (Stack off')) (Stack off) full refl refl
joined_unset (Map m) (Map m') = chosen_set (is_same_pointer (Map m) (Map m')) (Map m) full refl refl
joined_unset (MaybeValue m id) (MaybeValue m' id') = chosen_set (is_same_pointer (MaybeValue m id) (MaybeValue m' id')) (MaybeValue m id) full refl refl
joined_unset (Value m) (Value m') = chosen_set (is_same_pointer (Value m) (Value m')) (Value m) full refl refl
joined_unset (Pkt id off) w = refl
joined_unset PktEnd w = refl
joined_unset (Stack off) w = refl
joined_unset Ctx w = refl
joined_unset (Map m) w = refl
joined_unset (MaybeValue m id) w = refl
joined_unset (Value m) w = refl

pub or_false : (a b : Bool) → a ≡ false → b ≡ false → (a || b) ≡ false
or_false true b h g = h
or_false false b h g = g

pub joined_kept_set : (a b : Option Val) → IsSet a → IsSet b → IsSet (joined_kept a b)
joined_kept_set (Some v) (Some w) h g = joined_unset v w ∙ or_false (is_unset v) (is_unset w) h g
joined_kept_set (Some v) None h g = tt
joined_kept_set None b h g = tt

-- a computed value isn't Unset
abbrev pub IsSetResult : Computed → Type 0
IsSetResult (Plain v) = is_unset v ≡ false
IsSetResult (Fresh top) = Unit {0}

chosen_result : (b : Bool) (c d : Computed) → IsSetResult c → IsSetResult d → IsSetResult (if b then c else d)
chosen_result true c d h g = h
chosen_result false c d h g = g

packet_at_set : (id : ℕ) (off : ℤ) → is_unset (packet_at id off) ≡ false
packet_at_set id (pos off) = chosen_set (nat_le off 65535) (Pkt id off) full refl refl
packet_at_set id (negsuc n) = refl

stack_at_set : (off : ℤ) → is_unset (stack_at off) ≡ false
stack_at_set off = chosen_set (int_le (negsuc 511) off && int_le off (pos 0)) (Stack off) full refl refl

packet_sum_set : (top id off lo hi : ℕ) → IsSetResult (packet_sum top id off lo hi)
packet_sum_set top id off lo hi =
    chosen_result (lo == hi) (Plain (packet_at id (pos off +ℤ signed lo))) (if nat_le hi 65535 && nat_le (top + off + hi) most_base then Fresh (top + off + hi) else Plain full)
    (packet_at_set id (pos off +ℤ signed lo))
    (chosen_result (nat_le hi 65535 && nat_le (top + off + hi) most_base) (Fresh (top + off + hi)) (Plain full) tt refl)

stack_sum_set : (off : ℤ) (lo hi : ℕ) → is_unset (stack_sum off lo hi) ≡ false
stack_sum_set off lo hi = chosen_set (lo == hi) (stack_at (off +ℤ signed lo)) full (stack_at_set (off +ℤ signed lo)) refl

sum_set : (n : Facts) (v w : Val) → IsSetResult (sum_of n v w)
sum_set n (Pkt id off) (Num lo hi) = packet_sum_set (n.top id) id off lo hi
sum_set n (Num lo hi) (Pkt id off) = packet_sum_set (n.top id) id off lo hi
sum_set n (Stack off) (Num lo hi) = stack_sum_set off lo hi
sum_set n (Num lo hi) (Stack off) = stack_sum_set off lo hi
sum_set n (Num lo hi) (Num lo' hi') = chosen_set (nat_lt (hi + hi') (2 ^ 64)) (Num (computed Add true lo lo') (hi + hi')) full refl refl
sum_set n v w = refl

difference_set : (v w : Val) → is_unset (difference_of v w) ≡ false
difference_set (Pkt id off) (Num lo hi) = chosen_set (lo == hi) (packet_at id (pos off -ℤ signed lo)) full (packet_at_set id (pos off -ℤ signed lo)) refl
difference_set (Stack off) (Num lo hi) = chosen_set (lo == hi) (stack_at (off -ℤ signed lo)) full (stack_at_set (off -ℤ signed lo)) refl
difference_set v w = refl

range_by_set : (op : AluOp) (lo hi c : ℕ) → is_unset (range_by op lo hi c) ≡ false
range_by_set And lo hi c = refl
range_by_set Rsh lo hi c = refl
range_by_set Lsh lo hi c = chosen_set (nat_lt (hi * 2 ^ (c % 64)) (2 ^ 64)) (Num (computed Lsh true lo c) (hi * 2 ^ (c % 64))) full refl refl
range_by_set Mod lo hi c = chosen_set (c == 0) full (Num 0 (c - 1)) refl refl
range_by_set op lo hi c = refl

ranged_set : (op : AluOp) (v w : Val) → is_unset (ranged op v w) ≡ false
ranged_set op (Num lo hi) (Num c d) = chosen_set (c == d) (range_by op lo hi c) full (range_by_set op lo hi c) refl
ranged_set op v w = refl

unfolded_set : (n : Facts) (op : AluOp) (wide : Bool) (v w : Val) → IsSetResult (unfolded n op wide v w)
unfolded_set n op false v w = refl
unfolded_set n Add true v w = sum_set n v w
unfolded_set n Sub true v w = difference_set v w
unfolded_set n op true v w = ranged_set op v w

folded_set : (op : AluOp) (wide : Bool) (a b : Option ℕ) (other : Computed) → IsSetResult other → IsSetResult (folded op wide a b other)
folded_set op wide (Some a) (Some b) other h = refl
folded_set op wide (Some a) None other h = h
folded_set op wide None b other h = h

pub result_set : (n : Facts) (op : AluOp) (wide : Bool) (v w : Val) → is_unset w ≡ false → IsSetResult (result_of n op wide v w)
result_set n Mov true v w h = h
result_set n op wide v w h = folded_set op wide (first_constant op v) (constant w) (unfolded n op wide v w) (unfolded_set n op wide v w)

pub folded_one_set : (o : Option ℕ) (f : ℕ → ℕ) (other : Val) → is_unset other ≡ false → is_unset (folded_one o f other) ≡ false
folded_one_set (Some c) f other h = refl
folded_one_set None f other h = h

pub any_number_set : (wide : Bool) → is_unset (any_number wide) ≡ false
any_number_set true = refl
any_number_set false = refl

pub any_of_width_set : (width : Width) → is_unset (any_of_width width) ≡ false
any_of_width_set Bits16 = refl
any_of_width_set Bits32 = refl
any_of_width_set Bits64 = refl

-- what is loaded isn't Unset
abbrev pub Sets : Result Val Cause → Type 0
Sets (Ok v) = is_unset v ≡ false
Sets (Err c) = Unit {0}

chosen_sets : (b : Bool) (v : Val) (c : Cause) → is_unset v ≡ false → Sets (if b then Ok v else Err c)
chosen_sets true v c h = h
chosen_sets false v c h = tt

any_of_size_set : (size : Size) → is_unset (any_of_size size) ≡ false
any_of_size_set Byte = refl
any_of_size_set Half = refl
any_of_size_set Word = refl
any_of_size_set Double = refl

any_loaded_set : (signed : Bool) (size : Size) → is_unset (any_loaded signed size) ≡ false
any_loaded_set true size = refl
any_loaded_set false size = any_of_size_set size

kept_or_full_set : (o : Option Val) → IsSet o → is_unset (kept_or_full o) ≡ false
kept_or_full_set None h = refl
kept_or_full_set (Some v) h = h

stack_value_set : (n : Facts) (p : ℕ) (signed : Bool) (size : Size) → KeepsSet n → is_unset (stack_value n p signed size) ≡ false
stack_value_set n p true size h = refl
stack_value_set n p false size h = chosen_set (is_slot p size) (kept_or_full (n.kept (p / 8))) (any_of_size size) (kept_or_full_set (n.kept (p / 8)) (h (p / 8))) (any_of_size_set size)

field_set : (o : ℤ) → is_unset (field_value o) ≡ false
field_set (pos at) =
    chosen_set (at == 4) PktEnd (if at == 12 || at == 16 then Num 0 0xFFFFFFFF else Pkt packet_id 0) refl
    (chosen_set (at == 12 || at == 16) (Num 0 0xFFFFFFFF) (Pkt packet_id 0) refl refl)
field_set (negsuc m) = refl

loaded_sets : (n : Facts) (shapes : List Shape) (signed : Bool) (size : Size) (a : Access) → KeepsSet n → Sets (loaded_value n shapes signed size a)
loaded_sets n shapes signed size InPacket h = any_loaded_set signed size
loaded_sets n shapes signed size (OnStack p) h = chosen_sets (all_set n p (size_bytes size)) (stack_value n p signed size) cause.Stack (stack_value_set n p signed size h)
loaded_sets n shapes true size (InContext o) h = tt
loaded_sets n shapes false size (InContext o) h = chosen_sets (is_word size && is_field o) (field_value o) cause.Context (field_set o)
loaded_sets n shapes true size (AtValue m o) h = tt
loaded_sets n shapes false size (AtValue m o) h = chosen_sets (is_double size && is_counter (slice_get shapes m) o) full cause.MapAccess refl

reached_sets : (n : Facts) (shapes : List Shape) (signed : Bool) (size : Size) (r : Result Access Cause) → KeepsSet n → Sets (and_then r (loaded_value n shapes signed size))
reached_sets n shapes signed size (Ok a) h = loaded_sets n shapes signed size a h
reached_sets n shapes signed size (Err c) h = tt

load_sets : (n : Facts) (shapes : List Shape) (v : Val) (o : ℤ) (signed : Bool) (size : Size) (b : Bool) → KeepsSet n →
    Sets (if b then Ok (any_loaded signed size) else and_then (reach n v o (size_bytes size)) (loaded_value n shapes signed size))
load_sets n shapes v o signed size true h = any_loaded_set signed size
load_sets n shapes v o signed size false h = reached_sets n shapes signed size (reach n v o (size_bytes size)) h

pub load_set : (n : Facts) (shapes : List Shape) (v : Val) (o : ℤ) (signed : Bool) (size : Size) (w : Val) → KeepsSet n → load_value n shapes v o signed size ≡ Ok w → is_unset w ≡ false
load_set n shapes v o signed size w h e = subst Sets e (load_sets n shapes v o signed size (is_data shapes v o (size_bytes size)) h)
