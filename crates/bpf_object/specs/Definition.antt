-- Stated: claims rest on this file.
-- Definitions of maps, as libbpf's macros write them in C: `__uint(name, number)` is a member `int (*name)[number]`, and
-- `__type(name, type)` a member `type *name`. Their types are those of BTF (Linux's Documentation/bpf/btf.rst, section 2.2).
use Rattle.std.specs.Prelude.{ℕ, zero, suc, ◌≡◌, ◌+◌, ◌*◌, ◌<◌, ◌==◌, ◌^◌, if◌then◌else◌, nat_lt, List, Option, None, Some, codes}
use Rattle.bpf_object.specs.Bytes.{word, IsText}
use Rattle.bpf_object.specs.Types.{Table, row, plain, is_sized, is_alias}
use Rattle.bpf_object.specs.declared.types.TypeRow.{TypeRow}
use Rattle.bpf_object.specs.declared.definition.MapDefinition.{MapDefinition}
use Rattle.bpf_object.specs.declared.definition.MapField.{MapField}
use Rattle.bpf_object.specs.declared.definition.MapField.TheVariants.{Kind, Entries, KeySize, Key, ValueSize, Value}
use Rattle.bpf_object.specs.declared.fault.FieldFault.{FieldFault}
use Rattle.bpf_object.specs.declared.fault.FieldFault.TheVariants.{Twice, Kind as WrongKind}
use Rattle.bpf_object.specs.declared.fault.MapFault.{MapFault}
use Rattle.bpf_object.specs.declared.fault.MapFault.TheVariants.{Field, NoKind, Sizes}

-- How many names, qualifiers and arrays may stand around a type: libbpf's MAX_RESOLVE_DEPTH.
abbrev pub most_steps : ℕ
most_steps = 32

-- struct btf_array: type and nelems, behind what each type begins with
abbrev pub element : Table → TypeRow → ℕ
element t r = word t.bytes (r.at + 12)

abbrev pub elements : Table → TypeRow → ℕ
elements t r = word t.bytes (r.at + 20)

-- a number, if it has 32 bits
abbrev pub fitting : ℕ → Option ℕ
fitting n = if nat_lt n (2 ^ 32) then Some n else None

-- the size of an array (3) of some elements of a size
abbrev pub array_size : ℕ → Option ℕ → Option ℕ
array_size count None = None
array_size count (Some size) = fitting (size * count)

-- How many bytes a type has, as C's sizeof says, by what the types within have: a pointer (PTR, 2) has 8.
abbrev pub size_by : Table → (ℕ → Option ℕ) → TypeRow → Option ℕ
size_by t rest r =
    if is_sized r.kind then Some r.of
    else (if r.kind == 2 then Some 8
    else (if r.kind == 3 then array_size (elements t r) (rest (element t r)) else (if is_alias r.kind then rest r.of else None)))

abbrev pub size_from : Table → (ℕ → Option ℕ) → Option TypeRow → Option ℕ
size_from t rest None = None
size_from t rest (Some r) = size_by t rest r

unfoldable pub size : Table → ℕ → ℕ → Option ℕ
size t zero n = None
size t (suc limit) n = size_from t (λ m. size t limit m) (row t n)

-- struct btf_member: name_off and type of member j of a struct
abbrev pub member_at : TypeRow → ℕ → ℕ
member_at r j = r.at + 12 + 12 * j

abbrev pub member_type : Table → TypeRow → ℕ → ℕ
member_type t r j = word t.bytes (member_at r j + 4)

-- member j of a struct has this name
pub record IsMember (t : Table) (r : TypeRow) (name : List ℕ) (j : ℕ) : Type 0 where
  pub below : j < r.count
  pub named : IsText t.strings (word t.bytes (member_at r j)) name

-- the names of the fields that are looked at
abbrev pub field_name : MapField → List ℕ
field_name Kind = codes "type"
field_name Entries = codes "max_entries"
field_name KeySize = codes "key_size"
field_name Key = codes "key"
field_name ValueSize = codes "value_size"
field_name Value = codes "value"

-- what the one member of this name is, if there is one
pub data IsField (t : Table) (r : TypeRow) (name : List ℕ) : Option ℕ → Type 0 where
  absent : ((j : ℕ) → IsMember t r name j → ⊥) → IsField t r name None
  one : (j : ℕ) → IsMember t r name j → ((k : ℕ) → IsMember t r name k → k ≡ j) → IsField t r name (Some (member_type t r j))

-- the number that a type hides: a pointer to an array has as many elements
abbrev pub number_of_array : Table → Option TypeRow → Option ℕ
number_of_array t None = None
number_of_array t (Some r) = if r.kind == 3 then Some (elements t r) else None

abbrev pub number_behind : Table → Option TypeRow → Option ℕ
number_behind t None = None
number_behind t (Some r) = if r.kind == 2 then number_of_array t (row t r.of) else None

abbrev pub number : Table → ℕ → Option ℕ
number t n = number_behind t (plain t most_steps n)

-- the size of the type that a type points to
abbrev pub size_behind : Table → Option TypeRow → Option ℕ
size_behind t None = None
size_behind t (Some r) = if r.kind == 2 then size t most_steps r.of else None

abbrev pub pointed_size : Table → ℕ → Option ℕ
pointed_size t n = size_behind t (plain t most_steps n)

-- a field's number or size by the meaning of its type: none if the field isn't there
pub data Has (t : Table) (r : TypeRow) (name : List ℕ) (meaning : ℕ → Option ℕ) : Option ℕ → Type 0 where
  nothing : IsField t r name None → Has t r name meaning None
  has : (n v : ℕ) → IsField t r name (Some n) → meaning n ≡ Some v → Has t r name meaning (Some v)

abbrev pub meaning : Table → MapField → ℕ → Option ℕ
meaning t Key n = pointed_size t n
meaning t Value n = pointed_size t n
meaning t _ n = number t n

abbrev pub HasField : Table → TypeRow → MapField → Option ℕ → Type 0
HasField t r field v = Has t r (field_name field) (meaning t field) v

-- a number that may be left out, which is 0 then
abbrev pub or_zero : Option ℕ → ℕ
or_zero None = 0
or_zero (Some n) = n

-- the size that is said in two ways, of which both, one or none may be there
abbrev pub AreSize : Option ℕ → Option ℕ → ℕ → Type 0
AreSize (Some a) (Some b) n = (a ≡ b) × (n ≡ a)
AreSize (Some a) None n = n ≡ a
AreSize None b n = n ≡ or_zero b

-- the two say different sizes
abbrev pub AreApart : Option ℕ → Option ℕ → Type 0
AreApart (Some a) (Some b) = a ≡ b → ⊥
AreApart _ _ = ⊥

-- a number, which is 0 if the field isn't there
pub record IsNumber (t : Table) (r : TypeRow) (field : MapField) (n : ℕ) : Type 0 where
  pub said : Option ℕ
  pub has : HasField t r field said
  pub is : n ≡ or_zero said

-- the field that says the size of a type by a number
abbrev pub size_field : MapField → MapField
size_field Key = KeySize
size_field Value = ValueSize
size_field field = field

pub record IsSize (t : Table) (r : TypeRow) (field : MapField) (n : ℕ) : Type 0 where
  pub said : Option ℕ
  pub behind : Option ℕ
  pub says : HasField t r (size_field field) said
  pub points : HasField t r field behind
  pub same : AreSize said behind n

-- what a struct defines: its type of map, which isn't 0 (BPF_MAP_TYPE_UNSPEC), max_entries, and the sizes of keys and values
pub record IsDefinition (t : Table) (r : TypeRow) (d : MapDefinition) : Type 0 where
  pub kind : IsNumber t r Kind d.kind
  pub some : 0 < d.kind
  pub entries : IsNumber t r Entries d.entries
  pub keys : IsSize t r Key d.key_bytes
  pub values : IsSize t r Value d.value_bytes

-- why a field has no number or size
abbrev pub IsWrongField : Table → TypeRow → MapField → FieldFault → Type 0
IsWrongField t r field Twice = (j : ℕ) × ((k : ℕ) × (IsMember t r (field_name field) j × IsMember t r (field_name field) k × (j < k)))
IsWrongField t r field WrongKind = (n : ℕ) × (IsField t r (field_name field) (Some n) × (meaning t field n ≡ None))

-- the size is said in two ways that differ
pub record Differ (t : Table) (r : TypeRow) (field : MapField) : Type 0 where
  pub said : Option ℕ
  pub behind : Option ℕ
  pub says : HasField t r (size_field field) said
  pub points : HasField t r field behind
  pub apart : AreApart said behind

-- why a struct defines no map
abbrev pub IsNoDefinition : Table → TypeRow → MapFault → Type 0
IsNoDefinition t r (Field field cause) = IsWrongField t r field cause
IsNoDefinition t r NoKind = IsNumber t r Kind 0
IsNoDefinition t r (Sizes field) = Differ t r field
IsNoDefinition t r _ = ⊥
