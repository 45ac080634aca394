-- Stated: claims rest on this file.
-- Counters that begin with given numbers: what a history leaves in them, and which histories are legal then. The operations are
-- those of RFC 9669, section 5.3; in Linux user space writes an array's values before a program is attached (bpf(2)).
use Rattle.std.specs.Prelude.{◌≡◌, ◌↔◌, ℕ, ◌+◌, ◌*◌, ◌%◌, ◌^◌, List, [], Option, None, Some, sum_by, take, slice_get, slice_index}
use Rattle.bpf_note.specs.History.{Made, IsLegal, added, counter_of, found, left_in, map_of, value_of}
use Rattle.bpf_note.specs.Shape.{Shape}
use Rattle.bpf_maps.specs.Layout.{place_of}

-- the number that counter j of value k of map m begins with
abbrev pub Beginning : Type 0
Beginning = ℕ → ℕ → ℕ → ℕ

-- each counter begins with 0
abbrev pub zeros : ℕ → ℕ → ℕ → ℕ
zeros m k j = 0

-- the counters of maps of these shapes begin with these numbers, in the order of their places
abbrev pub began : List Shape → List ℕ → ℕ → ℕ → ℕ → ℕ
began shapes numbers m k j = slice_index numbers (place_of shapes m k j)

-- the list of a map, empty where there is none, and how many counters a value of it has
abbrev pub numbers_of : Option (List ℕ) → List ℕ
numbers_of None = []
numbers_of (Some numbers) = numbers

abbrev pub width_of : Option Shape → ℕ
width_of None = 0
width_of (Some s) = s.counters

-- the counters of each map begin with the numbers of its list, value by value, and with 0 where there is none
abbrev pub given : List Shape → List (List ℕ) → ℕ → ℕ → ℕ → ℕ
given shapes lists m k j = slice_index (numbers_of (slice_get lists m)) (width_of (slice_get shapes m) * k + j)

-- what a history leaves in a counter: the number that it began with and the sum of what was added, modulo 2^64
abbrev pub left_from : Beginning → ℕ → ℕ → ℕ → List Made → ℕ
left_from begin m k j history = (begin m k j + sum_by (λ (e : Made). added m k j e.1) history) % 2 ^ 64

-- each operation found what the beginning and those before it leave
abbrev pub IsLegalFrom : Beginning → List Made → Type 0
IsLegalFrom begin history = (i : ℕ) (e : Made) → slice_get history i ≡ Some e →
    found e.1 ≡ left_from begin (map_of e.1) (value_of e.1) (counter_of e.1) (take i history)

-- counters that begin with 0 are as those of which nothing is said
abbrev pub BeginsAsEver : Beginning → Type 0
BeginsAsEver begin = (history : List Made) →
    ((m k j : ℕ) → left_from begin m k j history ≡ left_in m k j history) × (IsLegalFrom begin history ↔ IsLegal history)
