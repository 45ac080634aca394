-- Stated: claims rest on this file.
-- Rows with exact keys in chains, by a number that the keys give.
use Rattle.std.specs.Prelude.{ℕ, zero, suc, ◌≡◌, ◌+◌, ◌-◌, ◌*◌, ◌/◌, ◌%◌, ◌^◌, ◌<◌, ◌≤◌, List, Some, None, length, slice_index}
use Rattle.bpf_note.specs.declared.key.KeyKind.{KeyKind}
use Rattle.bpf_note.specs.declared.key.KeyKind.TheVariants.{Exact}
use Rattle.bpf_lists.specs.Keys.{row, count, IsFound}
use Rattle.bpf_lists.specs.declared.chains.Probe.{Probe}
use Rattle.bpf_lists.specs.declared.chains.Probe.TheVariants.{Row, Absent, Unknown}

-- the four bytes at a place as a number, with zeros past the end
abbrev pub word_at : List ℕ → ℕ → ℕ
word_at bytes at = slice_index bytes at + 256 * slice_index bytes (at + 1) + 65536 * slice_index bytes (at + 2) + 16777216 * slice_index bytes (at + 3)

-- a number that the first so many groups of four bytes give
abbrev pub mixed : ℕ → List ℕ → ℕ
mixed zero bytes = 0
mixed (suc groups) bytes = mixed groups bytes % 2 ^ 32 * 0x9E3779B1 + word_at bytes (4 * groups)

-- a key's chain, of so many
unfoldable pub chain_of : List ℕ → ℕ → ℕ
chain_of key chains = mixed ((length key + 3) / 4) key % 2 ^ 32 * 0x9E3779B1 % 2 ^ 32 * chains / 2 ^ 32

-- one above the last of the first n rows that are in chain c, of so many, or 0
pub record IsTop (kind : KeyKind) (keys : List ℕ) (chains c n above : ℕ) : Type 0 where
  pub most : above ≤ n
  pub last : (r : ℕ) → r < n → chain_of (row kind keys r) chains ≡ c → r < above
  pub there : 0 < above → chain_of (row kind keys (above - 1)) chains ≡ c

-- the first n rows are in their chains: `heads` has the last row of each, `links` the row before each row
pub record AreChains (kind : KeyKind) (keys : List ℕ) (chains n : ℕ) (heads links : List ℕ) : Type 0 where
  pub some : 0 < chains
  pub few : chains ≤ 131073
  pub wide : length heads ≡ chains
  pub long : length links ≡ n
  pub begin : (c : ℕ) → c < chains → IsTop kind keys chains c n (slice_index heads c)
  pub before : (r : ℕ) → r < n → IsTop kind keys chains (chain_of (row kind keys r) chains) r (slice_index links r)

-- all rows, whose keys are exact, are in chains
pub record AreChained (kind : KeyKind) (keys heads links : List ℕ) : Type 0 where
  pub exact : (bytes : ℕ) × (kind ≡ Exact bytes)
  pub chains : AreChains kind keys (length heads) (count kind keys) heads links

-- the row of this key is known, or that there is none, or nothing is
abbrev pub IsTold : KeyKind → List ℕ → List ℕ → Probe → Type 0
IsTold kind keys key (Row r) = IsFound kind keys key (Some r)
IsTold kind keys key Absent = IsFound kind keys key None
IsTold kind keys key Unknown = Unit {0}
