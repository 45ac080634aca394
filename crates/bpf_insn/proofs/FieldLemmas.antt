-- A slot's bytes and its fields determine one another.
use Rattle.std.proofs.Common.{◌≡◌, ℕ, ◌+◌, ◌*◌, ◌/◌, ◌%◌, ◌<◌, List, [], ◌∷◌, ◌++◌, length, ap, sym, ◌∙◌, arith, ℤ, get_or, drop, take, ◌-◌}
use Rattle.std.specs.Prelude.{FitsSigned}
use Rattle.std.specs.Int.{cast_unsigned, cast_signed, w16, w32}
use Rattle.std.proofs.lemmas.Int.{to_z-of_z, of_z-to_z}
use Rattle.byteorder.specs.Endian.{little_number}
use Rattle.bpf_insn.specs.declared.fields.Fields.{Fields}
use Rattle.bpf_insn.specs.Fields.{slot_bytes, FitsSlot}

-- eight numbers below 256 are the bytes of the fields that they hold
eight_bytes : (a b c d e f g h : ℕ) → b < 256 → c < 256 → d < 256 → e < 256 → f < 256 → g < 256 → h < 256 →
    (a ∷ b ∷ c ∷ d ∷ e ∷ f ∷ g ∷ h ∷ []) ≡ slot_bytes (record { op = a; dst = b % 16; src = b / 16; off = cast_signed w16 (c + 256 * d); imm = cast_signed w32 (e + 256 * (f + 256 * (g + 256 * h))) })
eight_bytes a b c d e f g h lb lc ld le lf lg lh =
    let o : cast_unsigned w16 (cast_signed w16 (c + 256 * d)) ≡ c + 256 * d = of_z-to_z w16 _ (omega arith) in
    let i : cast_unsigned w32 (cast_signed w32 (e + 256 * (f + 256 * (g + 256 * h)))) ≡ e + 256 * (f + 256 * (g + 256 * h)) = of_z-to_z w32 _ (omega arith) in
    let b' : b ≡ b % 16 + 16 * (b / 16) = omega arith in
    let c' : c ≡ (c + 256 * d) % 256 = omega arith in
    let d' : d ≡ (c + 256 * d) / 256 = omega arith in
    let e' : e ≡ (e + 256 * (f + 256 * (g + 256 * h))) % 256 = omega arith in
    let f' : f ≡ ((e + 256 * (f + 256 * (g + 256 * h))) / 256) % 256 = omega arith in
    let g' : g ≡ ((e + 256 * (f + 256 * (g + 256 * h))) / 65536) % 256 = omega arith in
    let h' : h ≡ (e + 256 * (f + 256 * (g + 256 * h))) / 16777216 = omega arith in
    rw (o, i) (λ t. a ∷ b' t ∷ c' t ∷ d' t ∷ e' t ∷ f' t ∷ g' t ∷ h' t ∷ [])

-- the bytes of a slot are those of the fields read from it
pub read_slot : (bs : List ℕ) (o i : ℕ) → length bs ≡ 8 → ((k : ℕ) → get_or bs k 0 < 256) → o ≡ little_number 2 (take (length bs - 2) (drop 2 bs)) → i ≡ little_number 4 (take (length bs - 4) (drop 4 bs)) →
    bs ≡ slot_bytes (record { op = get_or bs 0 0; dst = get_or bs 1 0 % 16; src = get_or bs 1 0 / 16; off = cast_signed w16 o; imm = cast_signed w32 i })
read_slot (a ∷ b ∷ c ∷ d ∷ e ∷ f ∷ g ∷ h ∷ []) o i len small eo ei =
    let o' : o ≡ c + 256 * d = omega arith in
    let i' : i ≡ e + 256 * (f + 256 * (g + 256 * h)) = omega arith in
    rw (o', i') (eight_bytes a b c d e f g h (small 1) (small 2) (small 3) (small 4) (small 5) (small 6) (small 7))
read_slot _ o i len small eo ei = absurd (omega arith)

head_same : (x y : ℕ) (xs ys : List ℕ) → x ∷ xs ≡ y ∷ ys → (x ≡ y) × (xs ≡ ys)
head_same x y xs ys h = (cc, cc)

signed16 : (a b : ℤ) → FitsSigned w16 a → FitsSigned w16 b → cast_unsigned w16 a ≡ cast_unsigned w16 b → a ≡ b
signed16 a b fa fb e = sym (to_z-of_z w16 a fa) ∙ (ap (cast_signed w16) e ∙ to_z-of_z w16 b fb)

signed32 : (a b : ℤ) → FitsSigned w32 a → FitsSigned w32 b → cast_unsigned w32 a ≡ cast_unsigned w32 b → a ≡ b
signed32 a b fa fb e = sym (to_z-of_z w32 a fa) ∙ (ap (cast_signed w32) e ∙ to_z-of_z w32 b fb)

low_high : (d s e t : ℕ) → d < 16 → e < 16 → d + 16 * s ≡ e + 16 * t → (d ≡ e) × (s ≡ t)
low_high d s e t a b h = (omega arith, omega arith)

two_bytes : (x y : ℕ) → x % 256 ≡ y % 256 → x / 256 ≡ y / 256 → x ≡ y
two_bytes x y a b = omega arith

four_bytes : (x y : ℕ) → x % 256 ≡ y % 256 → (x / 256) % 256 ≡ (y / 256) % 256 → (x / 65536) % 256 ≡ (y / 65536) % 256 → x / 16777216 ≡ y / 16777216 → x ≡ y
four_bytes x y a b c d = omega arith

-- bytes have one reading as fields
pub same_fields : (f g : Fields) (xs ys : List ℕ) → FitsSlot f → FitsSlot g → slot_bytes f ++ xs ≡ slot_bytes g ++ ys → (f ≡ g) × (xs ≡ ys)
same_fields f g xs ys a b h =
    let h0 = head_same _ _ _ _ h in
    let h1 = head_same _ _ _ _ h0.1 in
    let h2 = head_same _ _ _ _ h1.1 in
    let h3 = head_same _ _ _ _ h2.1 in
    let h4 = head_same _ _ _ _ h3.1 in
    let h5 = head_same _ _ _ _ h4.1 in
    let h6 = head_same _ _ _ _ h5.1 in
    let h7 = head_same _ _ _ _ h6.1 in
    let regs = low_high f.dst f.src g.dst g.src a.dst b.dst h1.0 in
    let off = signed16 f.off g.off a.off b.off (two_bytes _ _ h2.0 h3.0) in
    let imm = signed32 f.imm g.imm a.imm b.imm (four_bytes _ _ h4.0 h5.0 h6.0 h7.0) in
    (λ i. record { op = h0.0 i; dst = regs.0 i; src = regs.1 i; off = off i; imm = imm i }, h7.1)
