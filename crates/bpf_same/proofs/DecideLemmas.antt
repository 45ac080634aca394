-- What decides a conditional jump does so.
use Rattle.std.proofs.Common.{ℕ, ◌+◌, ◌≡◌, ◌≤◌, ◌<◌, ◌^◌, sym, ap, ◌∙◌, subst, arith, length, Option, None, Some, Bool, true, false, ℤ}
use Rattle.std.specs.Prelude.{pos, negsuc, IfSome}
use Rattle.bpf_insn.specs.declared.insn.Insn.{Insn}
use Rattle.bpf_insn.specs.declared.insn.Insn.TheVariants.{Jump}
use Rattle.bpf_insn.specs.Register.{number}
use Rattle.bpf_insn.specs.Signed.{sign_extended}
use Rattle.bpf_insn.specs.Conditions.{is_met}
use Rattle.bpf_insn.specs.declared.condition.Condition.{Condition}
use Rattle.bpf_insn.specs.declared.register.Register.{Register}
use Rattle.bpf_insn.specs.declared.operand.Operand.{Operand}
use Rattle.bpf_insn.specs.declared.operand.Operand.TheVariants as operands
use Rattle.bpf_note.specs.declared.val.Val.{Val}
use Rattle.bpf_note.specs.State.{State, packet_start}
use Rattle.bpf_note.specs.Facts.{Facts}
use Rattle.bpf_note.specs.Describes.{Describes, meaning, Reads}
use Rattle.bpf_flow.specs.Step.{operand}
use Rattle.bpf_flow.proofs.JumpLemmas.{met_is}
use Rattle.bpf_flow.proofs.RegisterLemmas.{number_small}
use Rattle.bpf_same.specs.declared.relation.Relation.{Relation}
use Rattle.bpf_same.specs.Ranges.{Lies, IsSpan, IsOperandSpan}
use Rattle.bpf_same.specs.LinearForms.{held, IsAddress, Hold}
use Rattle.bpf_same.specs.Decided.{IsBetween, IsDecided, IsOrdered, IsPacketEnd}
use Rattle.bpf_same.proofs.StepLemmas.{held_register, held_end, end_is}

abbrev pub AreMet : Condition → Bool → ℕ → ℕ → ℕ → ℕ → Bool → Type 0
AreMet cond wide lo hi low high b = (x y : ℕ) → lo ≤ x → x ≤ hi → low ≤ y → y ≤ high → x < 2 ^ 64 → y < 2 ^ 64 → is_met cond wide x y ≡ b

-- between single numbers
pub one_met : (cond : Condition) (wide : Bool) (lo hi low high : ℕ) → lo ≡ hi → low ≡ high → AreMet cond wide lo hi low high (is_met cond wide lo low)
one_met cond wide lo hi low high e f = λ x y a b c d small fits.
    let p : x ≡ lo = omega (arith, a, b, e) in
    let q : y ≡ low = omega (arith, c, d, f) in
    ap (λ (x : ℕ). is_met cond wide x y) p ∙ ap (λ (y : ℕ). is_met cond wide lo y) q

-- between ranges
pub ranges_met : (cond : Condition) (lo hi low high : ℕ) (b : Bool) → IsBetween cond lo hi low high b → AreMet cond true lo hi low high b
ranges_met cond lo hi low high b h = λ x y p q r s small fits. met_is cond x y small fits ∙ h x y p q r s

word_fits : (z : ℤ) → sign_extended z < 2 ^ 64
word_fits (pos n) = omega arith
word_fits (negsuc n) = omega arith

operand_small : (n : Facts) (s : State) → Describes n s → (src : Operand) (y : ℕ) → operand s src ≡ Some y → y < 2 ^ 64
operand_small n s d (operands.Register r) y e = d.state.words (number r) y e
operand_small n s d (operands.Immediate i) y e = let same : sign_extended i ≡ y = cc in omega (arith, word_fits i)

pub decides : (n : Facts) (e : Relation) (cond : Condition) (wide : Bool) (dst : Register) (src : Operand) (off : ℤ) (lo hi low high : ℕ) (b : Bool) → IsSpan n e (number dst) lo hi → IsOperandSpan n e src low high → AreMet cond wide lo hi low high b →
    IsDecided (Jump cond wide dst src off) e n b
decides n e cond wide dst src off lo hi low high b one other met = λ s g d h.
    let r = one s g d h in
    let q = other s g d h in
    record { x = r.x; y = q.x; first = r.is; second = q.is; met = met r.x q.x r.least r.most q.least q.most (d.state.words (number dst) r.x r.is) (operand_small n s d src q.x q.is) }

pub ranges_met_if : (cond : Condition) (wide : Bool) (lo hi low high : ℕ) (o : Option Bool) → wide ≡ true → IfSome o (IsBetween cond lo hi low high) → IfSome o (AreMet cond wide lo hi low high)
ranges_met_if cond true lo hi low high None e h = tt
ranges_met_if cond true lo hi low high (Some b) e h = ranges_met cond lo hi low high b h
ranges_met_if cond false lo hi low high o e h = cc

pub decides_if : (n : Facts) (e : Relation) (cond : Condition) (wide : Bool) (dst : Register) (src : Operand) (off : ℤ) (lo hi low high : ℕ) (o : Option Bool) → IsSpan n e (number dst) lo hi → IsOperandSpan n e src low high →
    IfSome o (AreMet cond wide lo hi low high) → IfSome o (IsDecided (Jump cond wide dst src off) e n)
decides_if n e cond wide dst src off lo hi low high None one other h = tt
decides_if n e cond wide dst src off lo hi low high (Some b) one other h = decides n e cond wide dst src off lo hi low high b one other h

-- an address in the packet beside the packet's end
pub room_decides : (n : Facts) (e : Relation) (cond : Condition) (dst src : Register) (off : ℤ) (b : Bool) → IsPacketEnd n (number src) → ((f g : ℕ → Option ℕ) → Hold e f g → IsAddress f (f (number dst))) → IsOrdered cond b →
    IsDecided (Jump cond true dst (operands.Register src) off) e n b
room_decides n e cond dst src off b at address order = λ s g d h.
    let w = meaning s d.base d.address in
    let a = address (held s) g h in
    let stop : s.reg (number src) ≡ Some (packet_start + length s.packet) = end_is w (s.reg (number src)) (subst (λ (v : Val). Reads w v (s.reg (number src))) at (d.regs (number src))) in
    let both : Some a.stop ≡ Some (packet_start + length s.packet) = sym a.packet_end ∙ held_end s in
    let same : a.stop ≡ packet_start + length s.packet = cc in
    let to = a.to in
    let x_is : s.reg (number dst) ≡ Some a.x = sym (held_register s (number dst) (number_small dst)) ∙ a.is in
    let fits = d.state.words (number dst) a.x x_is in
    let small = d.state.words (number src) (packet_start + length s.packet) stop in
    record {
      x = a.x;
      y = packet_start + length s.packet;
      first = x_is;
      second = stop;
      met = met_is cond a.x (packet_start + length s.packet) fits small ∙ order a.x (packet_start + length s.packet) (omega (arith, to, same));
    }

pub room_decides_if : (n : Facts) (e : Relation) (cond : Condition) (dst register : Register) (src : Operand) (off : ℤ) (o : Option Bool) → src ≡ operands.Register register → IsPacketEnd n (number register) → ((f g : ℕ → Option ℕ) → Hold e f g → IsAddress f (f (number dst))) →
    IfSome o (λ b. IsOrdered cond b) → IfSome o (IsDecided (Jump cond true dst src off) e n)
room_decides_if n e cond dst register src off None is at address order = tt
room_decides_if n e cond dst register src off (Some b) is at address order = subst (λ (s : Operand). IsDecided (Jump cond true dst s off) e n b) (sym is) (room_decides n e cond dst register off b at address order)

no_number : (o : Option ℕ) (low high : ℕ) → Lies o low high → high < low → ⊥
no_number o low high l empty = absurd (omega (arith, l.least, l.most, empty))

-- a register that can hold no number
pub never_reached : (n : Facts) (e : Relation) (i : Insn) (cond : Condition) (wide : Bool) (dst : Register) (src : Operand) (off : ℤ) (k low high : ℕ) → i ≡ Jump cond wide dst src off → IsSpan n e k low high → high < low → (b : Bool) → IsDecided i e n b
never_reached n e i cond wide dst src off k low high is span empty b = subst (λ (i : Insn). IsDecided i e n b) (sym is) (λ s g d h. absurd (no_number (s.reg k) low high (span s g d h) empty))

pub wide_decides : (n : Facts) (e : Relation) (i : Insn) (cond : Condition) (wide : Bool) (dst : Register) (src : Operand) (off : ℤ) (o : Option Bool) → i ≡ Jump cond wide dst src off → wide ≡ true → IfSome o (IsDecided (Jump cond true dst src off) e n) → IfSome o (IsDecided i e n)
wide_decides n e i cond wide dst src off o is w h = subst (λ (i : Insn). IfSome o (IsDecided i e n)) (sym (is ∙ ap (λ (w : Bool). Jump cond w dst src off) w)) h
