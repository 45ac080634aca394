-- Rows one after the other.
use Rattle.std.proofs.Common.{ℕ, suc, ◌+◌, ◌*◌, ◌<◌, ◌≤◌, List, length, arith}
use Rattle.std.proofs.Math.Nat.{mul-le-mul_left, mul-div-le}
use Rattle.bpf_note.specs.declared.key.KeyKind.{KeyKind}
use Rattle.bpf_note.specs.Keys.{size, bits_of}
use Rattle.bpf_lists.specs.Keys.{row, count}
use Rattle.bpf_lists.specs.Refusals.{AreRows}

-- a row lies within the bytes
pub row_inside : (kind : KeyKind) (keys : List ℕ) (r : ℕ) → r < count kind keys → size kind * r + size kind ≤ length keys
row_inside kind keys r less =
    let more : size kind * suc r ≤ size kind * count kind keys = mul-le-mul_left (size kind) (omega arith) in
    let all : size kind * count kind keys ≤ length keys = mul-div-le (length keys) (size kind) in
    omega arith

-- a row's length is at most 512
pub few_bits : (kind : KeyKind) (keys : List ℕ) (r : ℕ) → AreRows kind keys → r < count kind keys → bits_of kind (row kind keys r) ≤ 512
few_bits kind keys r rows less =
    let within = (rows.rows r less).within in
    let wide = rows.few.supported.1 in
    omega arith
