-- Stated: claims rest on this file.
-- What a call of a helper asks, and what is known after it.
use Rattle.std.specs.Prelude.{ℕ, ◌+◌, ℤ, pos, negsuc, ◌+ℤ◌, List, Option, None, Some, Bool, true, false, ◌&&◌, not, if◌then◌else◌, ◌==◌, nat_le, slice_get, Err}
use Rattle.bpf_insn.specs.declared.refusal.Cause.TheVariants as cause
use Rattle.bpf_note.specs.declared.val.Val.{Val}
use Rattle.bpf_note.specs.declared.val.Val.TheVariants as val
use Rattle.bpf_note.specs.Keys.{key_size}
use Rattle.bpf_note.specs.declared.key.MapKey.{MapKey}
use Rattle.bpf_note.specs.declared.key.MapKey.TheVariants.{Index, Listed, Constants}
use Rattle.bpf_note.specs.Shape.{Shape}
use Rattle.bpf_note.specs.Facts.{Facts, with_id}
use Rattle.bpf_flow.specs.Edges.{Answer, unless, goes_to}
use Rattle.bpf_flow.specs.Memory.{place_in, all_set}

-- a key of z set bytes on the stack
abbrev pub is_key_at : Facts → ℕ → Option ℕ → Bool
is_key_at n z None = false
is_key_at n z (Some p) = all_set n p z

abbrev pub is_key : Facts → ℕ → Val → Bool
is_key n z (val.Stack off) = is_key_at n z (place_in (pos 512 +ℤ off) z 512)
is_key n z v = false

-- how many bytes a key of a map has; a program names no map that isn't there
abbrev pub key_bytes : Option Shape → ℕ
key_bytes None = 4
key_bytes (Some shape) = key_size shape.key

-- values are looked up by keys, constants are not: they are read by their addresses
abbrev pub is_looked_up : MapKey → Bool
is_looked_up Index = true
is_looked_up (Listed kind) = true
is_looked_up (Constants bytes) = false

abbrev pub has_keys : Option Shape → Bool
has_keys None = true
has_keys (Some shape) = is_looked_up shape.key

-- registers after a call: r0 the address of a value or 0, r1 to r5 lost
abbrev pub called_reg : (ℕ → Val) → ℕ → ℕ → ℕ → Val
called_reg reg m pc k = if k == 0 then val.MaybeValue m pc else if nat_le k 5 then val.Unset else reg k

abbrev pub with_call : Facts → ℕ → ℕ → Facts
with_call n m pc = record { reg = called_reg n.reg m pc; kept = n.kept; set = n.set; top = n.top; safe = n.safe }

-- a lookup of a key, in the map that r1 names, whose values are looked up
abbrev pub looks_up : List Shape → Facts → ℕ → Val → Val → Answer
looks_up shapes n pc (val.Map m) key =
    unless (not (has_keys (slice_get shapes m) && is_key n (key_bytes (slice_get shapes m)) key)) cause.Argument (goes_to (pc + 1) (with_call (with_id n pc 0) m pc))
looks_up shapes n pc v key = Err cause.Argument

abbrev pub is_lookup : ℤ → Bool
is_lookup (pos h) = h == 1
is_lookup (negsuc h) = false
