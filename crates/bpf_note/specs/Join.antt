-- Stated: claims rest on this file.
-- What is known if either of two notes may describe the state.
use Rattle.std.specs.Prelude.{ℕ, min, max, Option, None, Some, Bool, true, false, ◌&&◌, if◌then◌else◌, ◌==◌, ℤ, pos, negsuc}
use Rattle.bpf_note.specs.declared.val.Val.{Val}
use Rattle.bpf_note.specs.declared.val.Val.TheVariants.{Unset, Num, Pkt, PktEnd, Stack, Ctx, Map, MaybeValue, Value}
use Rattle.bpf_note.specs.Facts.{Facts, full}

abbrev pub is_same_offset : ℤ → ℤ → Bool
is_same_offset (pos a) (pos b) = a == b
is_same_offset (negsuc a) (negsuc b) = a == b
is_same_offset a b = false

-- the two pointers are equal
abbrev pub is_same_pointer : Val → Val → Bool
is_same_pointer (Pkt id off) (Pkt id' off') = id == id' && off == off'
is_same_pointer PktEnd PktEnd = true
is_same_pointer (Stack off) (Stack off') = is_same_offset off off'
is_same_pointer Ctx Ctx = true
is_same_pointer (Map m) (Map m') = m == m'
is_same_pointer (MaybeValue m id) (MaybeValue m' id') = m == m' && id == id'
is_same_pointer (Value m) (Value m') = m == m'
is_same_pointer a b = false

-- nothing if a side has nothing; the hull of two ranges; equal pointers stay; all else is any number
abbrev pub joined_value : Val → Val → Val
joined_value Unset b = Unset
joined_value a Unset = Unset
joined_value (Num lo hi) (Num lo' hi') = Num (min lo lo') (max hi hi')
joined_value a b = if is_same_pointer a b then a else full

-- a slot keeps a value if it does on both sides
abbrev pub joined_kept : Option Val → Option Val → Option Val
joined_kept (Some a) (Some b) = Some (joined_value a b)
joined_kept a b = None

-- the lesser, and none if either has none
abbrev pub lesser : Option ℕ → Option ℕ → Option ℕ
lesser (Some a) (Some b) = Some (min a b)
lesser a b = None

-- part by part; a stack byte is set if it is on both sides, the bytes of a slot that keeps a value being set
abbrev pub joined : Facts → Facts → Facts
joined a b = record {
  reg = λ k. joined_value (a.reg k) (b.reg k);
  kept = λ j. joined_kept (a.kept j) (b.kept j);
  set = λ i. a.set i && b.set i;
  top = λ id. max (a.top id) (b.top id);
  safe = λ id. lesser (a.safe id) (b.safe id);
}
