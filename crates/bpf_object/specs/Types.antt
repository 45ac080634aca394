-- Stated: claims rest on this file.
-- BTF, what clang says of types (Linux's Documentation/bpf/btf.rst, section 2, "BTF Type and String Encoding").
use Rattle.std.specs.Prelude.{ℕ, zero, suc, ◌≡◌, ◌+◌, ◌-◌, ◌*◌, ◌%◌, ◌<◌, ◌≤◌, ◌==◌, ◌||◌, ◌&&◌, Bool, if◌then◌else◌, nat_le, nat_lt, List, length, map, slice_index, slice_range, Option, None, Some}
use Rattle.std.specs.List.{range_with_len}
use Rattle.bpf_object.specs.Bytes.{half, word}
use Rattle.bpf_object.specs.declared.types.TypeRow.{TypeRow}
use Rattle.bpf_object.specs.declared.fault.TypesFault.{TypesFault}
use Rattle.bpf_object.specs.declared.fault.TypesFault.TheVariants.{Header, Row, Memory}

-- hdr_len of struct btf_header, and type_off and str_off, which count from the header's end
abbrev pub types_start : List ℕ → ℕ
types_start bytes = word bytes 4 + word bytes 8

abbrev pub strings_start : List ℕ → ℕ
strings_start bytes = word bytes 4 + word bytes 16

-- struct btf_header, of 24 bytes: its magic number and version, and type_len and str_len, by which both parts lie in the section
pub record HasTypes (bytes : List ℕ) : Type 0 where
  pub whole : 24 ≤ length bytes
  pub magic : half bytes 0 ≡ 0xeb9f
  pub version : slice_index bytes 2 ≡ 1
  pub types : types_start bytes + word bytes 12 ≤ length bytes
  pub strings : strings_start bytes + word bytes 20 ≤ length bytes

abbrev pub type_part : List ℕ → List ℕ
type_part bytes = slice_range bytes (types_start bytes) (types_start bytes + word bytes 12)

abbrev pub string_part : List ℕ → List ℕ
string_part bytes = slice_range bytes (strings_start bytes) (strings_start bytes + word bytes 20)

-- struct btf_type, of 12 bytes, at a place: name_off, of info the kind and vlen, and size or type
unfoldable pub row_at : List ℕ → ℕ → TypeRow
row_at bytes at = record {
  at = at;
  name = word bytes at;
  kind = slice_index bytes (at + 7) % 32;
  count = half bytes (at + 4);
  of = word bytes (at + 8);
}

-- How many bytes follow those 12, by the kind: of INT (1), VAR (14) and DECL_TAG (17) 4, of ARRAY (3) 12; of STRUCT (4), UNION (5),
-- DATASEC (15) and ENUM64 (19) 12 for each of vlen, of ENUM (6) and FUNC_PROTO (13) 8.
abbrev pub fixed_bytes : ℕ → ℕ
fixed_bytes kind = if (kind == 1) || (kind == 14) || (kind == 17) then 4 else (if kind == 3 then 12 else 0)

abbrev pub each_bytes : ℕ → ℕ
each_bytes kind = if (kind == 4) || (kind == 5) || (kind == 15) || (kind == 19) then 12 else (if (kind == 6) || (kind == 13) then 8 else 0)

unfoldable pub row_bytes : TypeRow → ℕ
row_bytes row = 12 + fixed_bytes row.kind + each_bytes row.kind * row.count

-- a whole type of a known kind lies at a place
pub record IsWhole (bytes : List ℕ) (at : ℕ) : Type 0 where
  pub header : at + 12 ≤ length bytes
  pub some : 0 < (row_at bytes at).kind
  pub known : (row_at bytes at).kind ≤ 19
  pub inside : at + row_bytes (row_at bytes at) ≤ length bytes

-- where type n + 1 begins: types are numbered from 1 and follow one another (btf.rst 2.2)
unfoldable pub place : List ℕ → ℕ → ℕ
place bytes zero = 0
place bytes (suc n) = place bytes n + row_bytes (row_at bytes (place bytes n))

-- what contracts see of an object's types: their bytes, those of the strings, and where each type begins
pub record Table : Type 0 where
  pub bytes : List ℕ
  pub strings : List ℕ
  pub places : List ℕ

-- the first n types begin at these places, and are whole
pub record AreFirst (bytes places : List ℕ) : Type 0 where
  pub placed : places ≡ map (place bytes) (range_with_len 0 (length places))
  pub whole : (n : ℕ) → n < length places → IsWhole bytes (place bytes n)

-- all types
pub record AreTypes (bytes places : List ℕ) : Type 0 where
  pub first : AreFirst bytes places
  pub all : place bytes (length places) ≡ length bytes

-- type n + 1 is the first that isn't whole
pub record IsBroken (bytes : List ℕ) (n : ℕ) : Type 0 where
  pub starts : place bytes n < length bytes
  pub before : (m : ℕ) → m < n → IsWhole bytes (place bytes m)
  pub here : IsWhole bytes (place bytes n) → ⊥

-- why bytes aren't such a table
abbrev pub IsNoTable : List ℕ → TypesFault → Type 0
IsNoTable bytes (Row n) = (m : ℕ) × ((n ≡ m + 1) × IsBroken bytes m)
IsNoTable bytes Memory = Unit {0}
IsNoTable bytes _ = ⊥

-- the table of a section, and why there is none
pub record IsTable (bytes : List ℕ) (t : Table) : Type 0 where
  pub has : HasTypes bytes
  pub types : t.bytes ≡ type_part bytes
  pub strings : t.strings ≡ string_part bytes

abbrev pub IsNoTypes : List ℕ → TypesFault → Type 0
IsNoTypes bytes Header = HasTypes bytes → ⊥
IsNoTypes bytes fault = HasTypes bytes × IsNoTable (type_part bytes) fault

-- type n; 0 is void
unfoldable pub row : Table → ℕ → Option TypeRow
row t n = if nat_lt 0 n && nat_le n (length t.places) then Some (row_at t.bytes (slice_index t.places (n - 1))) else None

-- INT (1), STRUCT (4), UNION (5), ENUM (6), FLOAT (16) and ENUM64 (19) say their size
abbrev pub is_sized : ℕ → Bool
is_sized kind = (kind == 1) || (kind == 4) || (kind == 5) || (kind == 6) || (kind == 16) || (kind == 19)

-- TYPEDEF (8), VOLATILE (9), CONST (10), RESTRICT (11) and TYPE_TAG (18) are names and qualifiers of another type
abbrev pub is_alias : ℕ → Bool
is_alias kind = (kind == 8) || (kind == 9) || (kind == 10) || (kind == 11) || (kind == 18)

-- a type, or what its name or qualifier is of
abbrev pub plain_by : (ℕ → Option TypeRow) → TypeRow → Option TypeRow
plain_by rest r = if is_alias r.kind then rest r.of else Some r

abbrev pub plain_from : (ℕ → Option TypeRow) → Option TypeRow → Option TypeRow
plain_from rest None = None
plain_from rest (Some r) = plain_by rest r

-- type n without names and qualifiers, of which there are fewer than the limit
unfoldable pub plain : Table → ℕ → ℕ → Option TypeRow
plain t zero n = None
plain t (suc limit) n = plain_from (λ m. plain t limit m) (row t n)
