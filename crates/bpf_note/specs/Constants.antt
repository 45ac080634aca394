-- Stated: claims rest on this file.
-- Constants, and where they lie. As in Linux, where libbpf makes of `.rodata` an array map of one value, they are the value of a map of
-- their own, and a program has the value's address as a number (RFC 9669, section 5.4, "map_val").
use Rattle.std.specs.Prelude.{ℕ, zero, suc, ◌+◌, ◌-◌, ◌*◌, ◌/◌, ◌%◌, List, [], ◌∷◌, Option, None, Some, Bool, ◌≡◌, ◌&&◌, if◌then◌else◌, nat_le, nat_lt, slice_get}
use Rattle.bpf_note.specs.Keys.{constant_bytes}
use Rattle.bpf_note.specs.Shape.{Shape}
use Rattle.bpf_note.specs.State.{constants_start, values_start}
use Rattle.bpf_note.specs.Bytes.{bytes_of}

-- how many bytes of constants a map has, if it is there
abbrev pub bytes_in : Option Shape → ℕ
bytes_in None = 0
bytes_in (Some shape) = constant_bytes shape.key

-- where byte i of the constants of map m lies: each map has 64 KiB
abbrev pub constant_address : ℕ → ℕ → ℕ
constant_address m i = constants_start + 0x10000 * m + i

-- the map whose constants may lie at an address, and the place of the byte there
abbrev pub map_of : ℕ → ℕ
map_of a = (a - constants_start) / 0x10000

abbrev pub place_of : ℕ → ℕ
place_of a = (a - constants_start) % 0x10000

-- how many bytes of constants of one map lie from an address on, below the maps' values
unfoldable pub bytes_left : List Shape → ℕ → ℕ
bytes_left shapes a = if nat_le constants_start a && nat_lt a values_start then bytes_in (slice_get shapes (map_of a)) - place_of a else 0

-- the z bytes from an address on are constants of one map
abbrev pub are_constants : List Shape → ℕ → ℕ → Bool
are_constants shapes a z = nat_le z (bytes_left shapes a)

-- a byte of constants: 0 where a list has nothing
abbrev pub constant_byte : Option ℕ → ℕ
constant_byte None = 0
constant_byte (Some b) = b % 256

-- z bytes of the constants of map m from place i on, as the map's list has them under their places (__u32, as the keys of an array)
abbrev pub constants_from : (ℕ → List ℕ → Option ℕ) → ℕ → ℕ → ℕ → List ℕ
constants_from find m i zero = []
constants_from find m i (suc z) = constant_byte (find m (bytes_of 4 i)) ∷ constants_from find m (i + 1) z

-- z bytes of constants from an address on
abbrev pub constants_at : (ℕ → List ℕ → Option ℕ) → ℕ → ℕ → List ℕ
constants_at find a z = constants_from find (map_of a) (place_of a) z

-- no map is one of constants
abbrev pub HaveNoConstants : List Shape → Type 0
HaveNoConstants shapes = (m : ℕ) (shape : Shape) → slice_get shapes m ≡ Some shape → constant_bytes shape.key ≡ 0
