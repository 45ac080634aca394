-- Stated: claims rest on this file.
-- Bounds in chunks: chunk k has those of the ids 32 k to 32 k + 31, and past the last chunk there are none. A list beside the
-- chunks has the bounds of the ids from 4,096 on, which no slot's number is.
use Rattle.std.specs.Prelude.{ℕ, ◌+◌, ◌*◌, ◌≡◌, ◌<◌, ◌≤◌, List, [], ◌∷◌, ◌++◌, None, length, slice_index_or}
use Rattle.bpf_note.specs.declared.bound.Bound.{Bound}
use Rattle.bpf_note.specs.Parts.{top_in, safe_in, IsNormal}
use Rattle.bpf_note.specs.Fingerprint.{fingerprint_of}

-- the chunks, one after another
abbrev pub together : List (List Bound) → List Bound
together [] = []
together (c ∷ cs) = c ++ together cs

-- nothing is said of an id
abbrev pub IsQuiet : List Bound → ℕ → Type 0
IsQuiet bs id = (top_in bs id ≡ 0) × (safe_in bs id ≡ None)

-- bounds of the ids of chunk k alone
pub record IsChunk (k : ℕ) (bs : List Bound) : Type 0 where
  pub normal : IsNormal bs
  pub below : (id : ℕ) → id < 32 * k → IsQuiet bs id
  pub above : (id : ℕ) → 32 * k + 32 ≤ id → IsQuiet bs id

-- chunks of ids below 4,096, and bounds of the others
pub record AreChunks (chunks : List (List Bound)) (high : List Bound) : Type 0 where
  pub few : length chunks ≤ 128
  pub chunk : (k : ℕ) → IsChunk k (slice_index_or chunks k [])
  pub normal : IsNormal high
  pub quiet : (id : ℕ) → id < 4096 → IsQuiet high id

-- the same bounds in each chunk
abbrev pub SameChunks : List (List Bound) → List (List Bound) → Type 0
SameChunks old new = (k : ℕ) → slice_index_or old k [] ≡ slice_index_or new k []

-- the chunks that both have are of the same fingerprints
abbrev pub AlikeChunks : List (List Bound) → List (List Bound) → Type 0
AlikeChunks xs ys = (k : ℕ) → k < length xs → k < length ys →
    fingerprint_of (slice_index_or xs k []) ≡ fingerprint_of (slice_index_or ys k [])
