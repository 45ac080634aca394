-- Stated: claims rest on this file.
-- Histories of operations on counters: which are legal, what they leave, and the share of each number in them (the atomic
-- operations of RFC 9669, section 5.3, and loads of 64 bits, as many programs at once do them to the same counters).
use Rattle.std.specs.Prelude.{◌≡◌, ℕ, ◌%◌, ◌^◌, ◌==◌, ◌&&◌, if◌then◌else◌, List, map, filter, sum_by, take, slice_get, Some}
use Rattle.bpf_note.specs.declared.op.Op.{Op}
use Rattle.bpf_note.specs.declared.op.Op.TheVariants.{Load, Add}

-- who did it (the number of a seat or of a queue), and what was done
abbrev pub Made : Type 0
Made = ℕ × Op

-- the number that the operation found in the counter
abbrev pub found : Op → ℕ
found (Load m k j v) = v
found (Add m k j delta old) = old

abbrev pub map_of : Op → ℕ
map_of (Load m k j v) = m
map_of (Add m k j delta old) = m

abbrev pub value_of : Op → ℕ
value_of (Load m k j v) = k
value_of (Add m k j delta old) = k

abbrev pub counter_of : Op → ℕ
counter_of (Load m k j v) = j
counter_of (Add m k j delta old) = j

-- what the operation adds to counter j of value k of map m
abbrev pub added : ℕ → ℕ → ℕ → Op → ℕ
added m k j (Load m' k' j' v) = 0
added m k j (Add m' k' j' delta old) = if (m == m') && ((k == k') && (j == j')) then delta else 0

-- what a history leaves in that counter: the sum of what was added, modulo 2^64
abbrev pub left_in : ℕ → ℕ → ℕ → List Made → ℕ
left_in m k j history = sum_by (λ (e : Made). added m k j e.1) history % 2 ^ 64

-- each operation found what those before it leave
abbrev pub IsLegal : List Made → Type 0
IsLegal history = (i : ℕ) (e : Made) → slice_get history i ≡ Some e →
    found e.1 ≡ left_in (map_of e.1) (value_of e.1) (counter_of e.1) (take i history)

-- the operations of one number, in their order
abbrev pub share : ℕ → List Made → List Op
share number history = map (λ (e : Made). e.1) (filter (λ (e : Made). number == e.0) history)
