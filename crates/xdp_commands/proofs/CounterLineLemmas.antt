-- The lines of a value's and a map's counters, one after another.
use Rattle.std.proofs.Common.{◌≡◌, ℕ, ◌+◌, ◌-◌, ◌<◌, ◌++◌, List, suc, refl, arith}
use Rattle.bpf_note.specs.Shape.{Shape}
use Rattle.xdp_commands.specs.CounterLines.{counter_text, map_text, value_text}

pub value_more : (at : ℕ → ℕ) (name : List ℕ) (shape : Shape) (k j n : ℕ) → j < n → value_text at name shape k j (n - j) ≡ counter_text name shape k j (at j) ++ value_text at name shape k (j + 1) (n - (j + 1))
value_more at name shape k j n h =
    let one : n - j ≡ suc (n - (j + 1)) = omega (arith, h) in
    rw one refl

pub map_more : (at : ℕ → ℕ → ℕ) (name : List ℕ) (shape : Shape) (k n : ℕ) → k < n → map_text at name shape k (n - k) ≡ value_text (at k) name shape k 0 shape.counters ++ map_text at name shape (k + 1) (n - (k + 1))
map_more at name shape k n h =
    let one : n - k ≡ suc (n - (k + 1)) = omega (arith, h) in
    rw one refl
