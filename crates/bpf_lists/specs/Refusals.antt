-- Stated: claims rest on this file.
-- Which rows are refused, and why. The causes are tried in this order.
use Rattle.std.specs.Prelude.{ℕ, ◌≡◌, ◌-◌, ◌*◌, ◌%◌, ◌^◌, ◌<◌, ◌≤◌, List, length}
use Rattle.bpf_note.specs.declared.key.KeyKind.{KeyKind}
use Rattle.bpf_lists.specs.declared.refusal.RowsRefusal.{RowsRefusal}
use Rattle.bpf_lists.specs.declared.refusal.RowsRefusal.TheVariants.{Width, Partial, TooMany, Length, Beyond, Repeated, Memory}
use Rattle.bpf_note.specs.Keys.{width, size, IsKind, data_of, bits_of}
use Rattle.bpf_lists.specs.Keys.{value, row, count}

-- the bytes are those of whole rows
abbrev pub AreWhole : KeyKind → List ℕ → Type 0
AreWhole kind keys = length keys % size kind ≡ 0

-- the length of a prefix is at most that of its data (Linux: EINVAL)
abbrev pub IsWithin : KeyKind → List ℕ → Type 0
IsWithin kind key = bits_of kind key ≤ 8 * width kind

-- No bit is set beyond the length. Linux's trie ignores these bits, so there 10.0.0.1/8 and 10.0.0.2/8 are one key; here each
-- prefix has one text, as for routes in Linux, which refuse such a prefix.
abbrev pub IsPlain : KeyKind → List ℕ → Type 0
IsPlain kind key = value (data_of kind key) % 2 ^ (8 * width kind - bits_of kind key) ≡ 0

pub record IsRow (kind : KeyKind) (keys : List ℕ) (r : ℕ) : Type 0 where
  pub within : IsWithin kind (row kind keys r)
  pub plain : IsPlain kind (row kind keys r)

-- two keys are one: the same length, the same data
pub record IsSame (kind : KeyKind) (a b : List ℕ) : Type 0 where
  pub bits : bits_of kind a ≡ bits_of kind b
  pub bytes : data_of kind a ≡ data_of kind b

-- the bytes are at most 65,536 whole rows
pub record AreFew (kind : KeyKind) (keys : List ℕ) : Type 0 where
  pub supported : IsKind kind
  pub whole : AreWhole kind keys
  pub few : count kind keys ≤ 65536

-- every row is one that a map can have
pub record AreRows (kind : KeyKind) (keys : List ℕ) : Type 0 where
  pub few : AreFew kind keys
  pub rows : (r : ℕ) → r < count kind keys → IsRow kind keys r

-- and no key stands twice
pub record AreListed (kind : KeyKind) (keys : List ℕ) : Type 0 where
  pub rows : AreRows kind keys
  pub distinct : (r s : ℕ) → r < s → s < count kind keys → IsSame kind (row kind keys r) (row kind keys s) → ⊥

-- row r is the first that a map can't have
pub record IsFirstFault (kind : KeyKind) (keys : List ℕ) (r : ℕ) : Type 0 where
  pub few : AreFew kind keys
  pub one : r < count kind keys
  pub before : (s : ℕ) → s < r → IsRow kind keys s

-- rows r and s have one key
pub record IsRepeated (kind : KeyKind) (keys : List ℕ) (r s : ℕ) : Type 0 where
  pub rows : AreRows kind keys
  pub order : r < s
  pub one : s < count kind keys
  pub same : IsSame kind (row kind keys r) (row kind keys s)

-- what each refusal says; no memory can be refused at any growth
abbrev pub IsRefused : KeyKind → List ℕ → RowsRefusal → Type 0
IsRefused kind keys Width = IsKind kind → ⊥
IsRefused kind keys Partial = IsKind kind × (AreWhole kind keys → ⊥)
IsRefused kind keys TooMany = IsKind kind × AreWhole kind keys × (65536 < count kind keys)
IsRefused kind keys (Length r) = IsFirstFault kind keys r × (IsWithin kind (row kind keys r) → ⊥)
IsRefused kind keys (Beyond r) = IsFirstFault kind keys r × IsWithin kind (row kind keys r) × (IsPlain kind (row kind keys r) → ⊥)
IsRefused kind keys (Repeated r s) = IsRepeated kind keys r s
IsRefused kind keys Memory = AreFew kind keys
