use Rattle.std.proofs.Common.{rules, FitsSigned, w16, ◌≡◌, ◌⊎◌, inl, inr, ℕ, refl, subst, arith}
use Rattle.std.proofs.lemmas.Int.{to_z-of_z}
use Rattle.bpf_insn.specs.Size.{size_bytes}
use Rattle.bpf_insn.specs.declared.size.Size.{Size}
use Rattle.bpf_insn.specs.declared.size.Size.TheVariants.{Byte, Half, Word}
use Rattle.bpf_same.proofs.access.loads_no_counter.Goals as goal

of_fewer : (z x : Size) (n : ℕ) → z ≡ x → size_bytes x ≡ n → (n ≡ 8 → ⊥) → size_bytes z ≡ 8 → ⊥
of_fewer z x n is bytes apart e = apart (omega (arith, subst (λ (y : Size). size_bytes y ≡ 8) is e, bytes))

narrow : (z : Size) → (z ≡ Byte) ⊎ ((z ≡ Half) ⊎ (z ≡ Word)) → size_bytes z ≡ 8 → ⊥
narrow z (inl is) = of_fewer z Byte 1 is refl (λ e. omega (arith, e))
narrow z (inr (inl is)) = of_fewer z Half 2 is refl (λ e. omega (arith, e))
narrow z (inr (inr is)) = of_fewer z Word 4 is refl (λ e. omega (arith, e))

pub returns-in-Byte : goal.returns-in-Byte
returns-in-Byte c = λ t.
    let off : FitsSigned w16 c.args.off = search rules in
    inl (narrow c.args.size c.in-Byte.is, simp to_z-of_z at (c.is_below_values.ensures t))
