-- Stated: claims rest on this file.
-- Numbers and names in an object's bytes. The System V gABI, chapter 4, "Data Representation" and "ELF Identification": with
-- ELFDATA2LSB "the least significant byte occupies the lowest address". An Elf64_Half has 2 bytes, an Elf64_Word 4, an
-- Elf64_Xword, an Elf64_Addr and an Elf64_Off 8.
use Rattle.std.specs.Prelude.{ℕ, ◌≡◌, ◌≢◌, ◌+◌, ◌*◌, ◌<◌, ◌≤◌, List, length, slice_index, slice_range, All}

unfoldable pub half : List ℕ → ℕ → ℕ
half bytes at = slice_index bytes at + 256 * slice_index bytes (at + 1)

unfoldable pub word : List ℕ → ℕ → ℕ
word bytes at = half bytes at + 65536 * half bytes (at + 2)

unfoldable pub long : List ℕ → ℕ → ℕ
long bytes at = word bytes at + 4294967296 * word bytes (at + 4)

-- The name at a place of a string table (gABI, "String Table"): "null-terminated character sequences". It is the bytes up to the
-- first byte of 0, which lies in the table.
pub record IsText (table : List ℕ) (at : ℕ) (name : List ℕ) : Type 0 where
  pub inside : at + length name < length table
  pub bytes : slice_range table at (at + length name) ≡ name
  pub plain : All (λ byte. byte ≢ 0) name
  pub ended : slice_index table (at + length name) ≡ 0

-- a string table has these bytes at a place, and more may follow
pub record Begins (table : List ℕ) (at : ℕ) (text : List ℕ) : Type 0 where
  pub inside : at + length text ≤ length table
  pub bytes : slice_range table at (at + length text) ≡ text
