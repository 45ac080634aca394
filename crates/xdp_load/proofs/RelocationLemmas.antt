-- A relocated wide load of 32 bits is that of the map.
use Rattle.std.proofs.Common.{◌≡◌, ◌<◌, ◌/◌, ◌%◌, ◌^◌, ◌++◌, ◌∙◌, ℕ, suc, List, [], ◌∷◌, length, refl, ap, arith}
use native.Mathlib.Numerals.{unary_clauses}
use Rattle.std.proofs.lemmas.Int.{of_z-to_z}
use Rattle.std.specs.Int.{cast_signed, cast_unsigned, w32}
use Rattle.bpf_insn.specs.Spelling.{spelling}
use Rattle.bpf_insn.specs.declared.insn.Insn.TheVariants.{Const, MapRef}
use Rattle.bpf_insn.specs.declared.register.Register.{Register}
use Rattle.bpf_insn.specs.declared.register.Register.TheVariants.{R0, R1, R2, R3, R4, R5, R6, R7, R8, R9, R10}
use Rattle.xdp_load.specs.Setup.{with_map}

-- what a relocation of a load has to give
abbrev IsOfMap : List ℕ → Register → ℕ → ℕ → Type 0
IsOfMap rest dst value m = with_map (spelling (Const dst value) ++ rest) 0 m ≡ spelling (MapRef dst m) ++ rest

-- the constant of a load of map m is m
constant : (m : ℕ) → m < 256 → cast_unsigned w32 (cast_signed w32 m) ≡ m
constant m k = of_z-to_z w32 m (omega (arith, k))

-- the bytes of the number of a map
bytes : (m : ℕ) → m < 256 → (m % 256 ≡ m) × (m / 256 % 256 ≡ 0) × (m / 65536 % 256 ≡ 0) × (m / 16777216 ≡ 0)
bytes m k = (omega (arith, k), omega (arith, k), omega (arith, k), omega (arith, k))

-- the second slot of a load of 32 bits is empty
first : (rest : List ℕ) (dst : Register) (value : ℕ) → value / 2 ^ 32 ≡ 0 → (m : ℕ) → m < 256 → IsOfMap rest dst value m
first rest R0 value h m k = let (a, b, c, d) = bytes m k in rw (h, constant m k, a, b, c, d) refl
first rest R1 value h m k = let (a, b, c, d) = bytes m k in rw (h, constant m k, a, b, c, d) refl
first rest R2 value h m k = let (a, b, c, d) = bytes m k in rw (h, constant m k, a, b, c, d) refl
first rest R3 value h m k = let (a, b, c, d) = bytes m k in rw (h, constant m k, a, b, c, d) refl
first rest R4 value h m k = let (a, b, c, d) = bytes m k in rw (h, constant m k, a, b, c, d) refl
first rest R5 value h m k = let (a, b, c, d) = bytes m k in rw (h, constant m k, a, b, c, d) refl
first rest R6 value h m k = let (a, b, c, d) = bytes m k in rw (h, constant m k, a, b, c, d) refl
first rest R7 value h m k = let (a, b, c, d) = bytes m k in rw (h, constant m k, a, b, c, d) refl
first rest R8 value h m k = let (a, b, c, d) = bytes m k in rw (h, constant m k, a, b, c, d) refl
first rest R9 value h m k = let (a, b, c, d) = bytes m k in rw (h, constant m k, a, b, c, d) refl
first rest R10 value h m k = let (a, b, c, d) = bytes m k in rw (h, constant m k, a, b, c, d) refl

later : (x : ℕ) (xs : List ℕ) (at m : ℕ) → with_map (x ∷ xs) (suc at) m ≡ x ∷ with_map xs at m
later x xs at m = simp unary_clauses refl

anywhere : (front rest : List ℕ) (dst : Register) (value : ℕ) → value / 2 ^ 32 ≡ 0 → (m : ℕ) → m < 256
    → with_map (front ++ (spelling (Const dst value) ++ rest)) (length front) m ≡ front ++ (spelling (MapRef dst m) ++ rest)
anywhere [] rest dst value h m k = first rest dst value h m k
anywhere (x ∷ xs) rest dst value h m k =
    later x (xs ++ (spelling (Const dst value) ++ rest)) (length xs) m ∙ ap (λ ys. x ∷ ys) (anywhere xs rest dst value h m k)

pub relocated_anywhere : (front rest : List ℕ) (dst : Register) (value m : ℕ) → value < 2 ^ 32 → m < 256
    → with_map (front ++ (spelling (Const dst value) ++ rest)) (length front) m ≡ front ++ (spelling (MapRef dst m) ++ rest)
relocated_anywhere front rest dst value m h k = anywhere front rest dst value (omega arith) m k
