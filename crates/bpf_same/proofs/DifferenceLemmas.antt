-- Differences: what a subtraction that may wrap leaves known, and registers of which one holds as much as another one and a difference.
use Rattle.std.proofs.Common.{ℕ, ◌+◌, ◌-◌, ◌%◌, ◌^◌, ◌≡◌, ◌<◌, ◌≤◌, ◌⊎◌, inl, inr, refl, sym, ap, ◌∙◌, subst, arith, List, [], ◌∷◌, Option, None, Some, Bool, true, false, ℤ}
use Rattle.std.specs.Prelude.{nat_le}
use Rattle.std.proofs.lemmas.Bool.Decides.{nat_tests}
use Rattle.bpf_insn.specs.Arithmetic.{computed}
use Rattle.bpf_insn.specs.Conditions.{relation}
use Rattle.bpf_insn.specs.Register.{number}
use Rattle.bpf_insn.specs.declared.alu_op.AluOp.TheVariants as op
use Rattle.bpf_insn.specs.declared.condition.Condition.{Condition}
use Rattle.bpf_insn.specs.declared.condition.Condition.TheVariants.{GreaterOrEqual, Less}
use Rattle.bpf_insn.specs.declared.register.Register.{Register}
use Rattle.bpf_insn.specs.declared.operand.Operand.{Operand}
use Rattle.bpf_insn.specs.declared.operand.Operand.TheVariants as operands
use Rattle.bpf_insn.specs.declared.insn.Insn.{Insn}
use Rattle.bpf_insn.specs.declared.insn.Insn.TheVariants.{Alu, Jump}
use Rattle.bpf_note.specs.Shape.{Shape}
use Rattle.bpf_note.specs.State.{State}
use Rattle.bpf_note.specs.Facts.{Facts}
use Rattle.bpf_flow.specs.Sound.{Covers}
use Rattle.bpf_flow.specs.Step.{exec, LeadsTo}
use Rattle.bpf_flow.proofs.JumpLemmas.{met_is}
use Rattle.bpf_same.specs.declared.linear_form.LinearForm.{LinearForm}
use Rattle.bpf_same.specs.declared.range.Range.{Range}
use Rattle.bpf_same.specs.declared.relation.Relation.{Relation}
use Rattle.bpf_same.specs.declared.sharper.Bounded.{Bounded}
use Rattle.bpf_same.specs.LinearForms.{held, plus, total, Hold}
use Rattle.bpf_same.specs.Decided.{IsAtLeast, IsDecided}
use Rattle.bpf_same.specs.Ranges.{Lies, IsRead, IsOperandRead, IsSpan, IsNarrowed, IsParted}
use Rattle.bpf_same.specs.Simulated.{IsAccounted}
use Rattle.bpf_same.proofs.ComputeLemmas.{total_word}
use Rattle.bpf_same.proofs.StepLemmas.{alu_computes, held_register}
use Rattle.bpf_same.proofs.PairLemmas.{operand_is}
use Rattle.bpf_same.proofs.SharperLemmas.{accounted_as}

some_is : {x y : ℕ} → Some x ≡ Some y → x ≡ y
some_is e = cc

sub_value : (x y : ℕ) → x < 2 ^ 64 → y < 2 ^ 64 → computed op.Sub true x y ≡ (x + (2 ^ 64 - y)) % 2 ^ 64
unfolding computed
sub_value x y l m = omega (arith, l, m)

-- what a subtraction of small numbers comes to
pub difference_parted : (i : Insn) (n : Facts) (dst : Register) (src : Operand) (from to first last : ℕ) (above below : Range) → i ≡ Alu op.Sub true dst src → IsRead n (n.reg (number dst)) from to → IsOperandRead n src first last → to < 2 ^ 63 → last < 2 ^ 63 → from < last → first ≤ to →
    above.low ≡ 0 → above.high ≡ to - first → below.low ≡ (from + (2 ^ 64 - last)) % 2 ^ 64 → below.high ≡ 2 ^ 64 - 1 → IsParted i n (number dst) above below
difference_parted i n dst src from to first last above below is one other fits small wraps not_all zero_is top bottom greatest = λ s u label d h.
    let c = alu_computes op.Sub true dst src s label u (subst (λ (i : Insn). LeadsTo (exec i s) label u) is h) in
    let p = one s d (s.reg (number dst)) (d.regs (number dst)) in
    let q = other s d in
    let x : c.x ≡ p.x = some_is (sym c.first ∙ p.is) in
    let y : c.y ≡ q.x = some_is (sym (operand_is s src ∙ c.second) ∙ q.is) in
    let px = p.most in
    let qx = q.most in
    let value : u.reg (number dst) ≡ Some ((p.x + (2 ^ 64 - q.x)) % 2 ^ 64) = c.is ∙ ap Some (ap (λ (x : ℕ). computed op.Sub true x c.y) x ∙ (ap (computed op.Sub true p.x) y ∙ sub_value p.x q.x (omega (arith, px, fits)) (omega (arith, qx, small)))) in
    by (u.reg (number dst)) p.x q.x p.least px q.least qx value (nat_le q.x p.x) refl
  where
    by : (o : Option ℕ) (x y : ℕ) → from ≤ x → x ≤ to → first ≤ y → y ≤ last → o ≡ Some ((x + (2 ^ 64 - y)) % 2 ^ 64) → (b : Bool) → nat_le y x ≡ b → Lies o above.low above.high ⊎ Lies o below.low below.high
    by o x y a b c d value true e =
        let less : y ≤ x = grind (arith, nat_tests) in
        inl (record { x = (x + (2 ^ 64 - y)) % 2 ^ 64; is = value; least = omega (arith, zero_is); most = omega (arith, top, less, a, b, c, d, fits, small) })
    by o x y a b c d value false e =
        let less : x < y = grind (arith, nat_tests) in
        inr (record { x = (x + (2 ^ 64 - y)) % 2 ^ 64; is = value; least = omega (arith, bottom, less, a, b, c, d, fits, small, wraps); most = omega (arith, greatest) })

abbrev pub bounded : ℕ → Range → Bounded
bounded k r = record { register = k; range = r }

pub parted_accounted : (i : Insn) (shapes : List Shape) (n m l l' : Facts) (k : ℕ) (above below : Range) (pc q q' q'' : ℕ) → IsParted i n k above below → IsNarrowed q m (Some (bounded k above)) q' l → IsNarrowed q m (Some (bounded k below)) q'' l' →
    IsAccounted ((q, m) ∷ []) shapes i n pc → IsAccounted ((q', l) ∷ (q'', l') ∷ []) shapes i n pc
parted_accounted i shapes n m l l' k above below pc q q' q'' parted one other sound = λ s d at sh.
    accounted_as ((q, m) ∷ []) ((q', l) ∷ (q'', l') ∷ []) (exec i s) (λ label u h c. by u (parted s u label d h) c) (sound s d at sh)
  where
    by : (u : State) → Lies (u.reg k) above.low above.high ⊎ Lies (u.reg k) below.low below.high → Covers ((q, m) ∷ []) u → Covers ((q', l) ∷ (q'', l') ∷ []) u
    by u (inl r) (inl c) = inl (c.0 ∙ sym one.same, one.describes u r c.1)
    by u (inr r) (inl c) = inr (inl (c.0 ∙ sym other.same, other.describes u r c.1))
    by u r (inr c) = absurd c

-- registers of which one holds as much as the other one and a difference
record Summed (a b : Option ℕ) (z : ℕ) : Type 0 where
  x : ℕ
  y : ℕ
  first : a ≡ Some x
  second : b ≡ Some y
  is : z ≡ (x + y) % 2 ^ 64

summed : (a b : Option ℕ) (z : ℕ) → plus a b ≡ Some z → Summed a b z
summed None b z e = absurd (cc (e))
summed (Some x) None z e = absurd (cc (e))
summed (Some x) (Some y) z e = record { x = x; y = y; first = refl; second = refl; is = some_is (sym e) }

pub at_least_by : (n : Facts) (e : Relation) (one other register : ℕ) (whole part rest before there : LinearForm) (first last low high from to : ℕ) → one < 11 → other < 11 → register < 11 →
    ((f g : ℕ → Option ℕ) → Hold e f g → f other ≡ total f whole) → ((f g : ℕ → Option ℕ) → Hold e f g → f one ≡ total f part) → ((f : ℕ → Option ℕ) → total f whole ≡ plus (total f rest) (total f part)) → ((f : ℕ → Option ℕ) → total f before ≡ plus (total f rest) (Some (2 ^ 64 - 1))) →
    IsSpan n e register first last → ((f g : ℕ → Option ℕ) → Hold e f g → f register ≡ total f there) → ((f : ℕ → Option ℕ) → Lies (total f there) first last → Lies (total f before) low high) → IsSpan n e other from to → to ≤ low → IsAtLeast n e one other
at_least_by n e one other register whole part rest before there first last low high from to small few less is_whole is_part sum moved span is_there ranged most under = λ s g d h.
    let r = span s g d h in
    let q = most s g d h in
    let l = ranged (held s) (subst (λ (o : Option ℕ). Lies o first last) (sym (held_register s register less) ∙ is_there (held s) g h) r) in
    let w = summed (total (held s) rest) (total (held s) part) q.x (sym (sum (held s)) ∙ (sym (is_whole (held s) g h) ∙ (held_register s other few ∙ q.is))) in
    let one_is : s.reg one ≡ Some w.y = sym (held_register s one small) ∙ (is_part (held s) g h ∙ w.second) in
    let x_fits : w.x < 2 ^ 64 = total_word (held s) rest w.x w.first in
    let y_fits : w.y < 2 ^ 64 = d.state.words one w.y one_is in
    let shifted : l.x ≡ (w.x + (2 ^ 64 - 1)) % 2 ^ 64 = some_is (sym l.is ∙ (moved (held s) ∙ ap (λ (o : Option ℕ). plus o (Some (2 ^ 64 - 1))) w.first)) in
    let total_is = w.is in
    let least = l.least in
    let top = q.most in
    let fits : q.x < 2 ^ 64 = d.state.words other q.x q.is in
    record { x = w.y; y = q.x; first = one_is; second = q.is; most = beside q.x w.y w.x l.x fits y_fits x_fits shifted total_is (omega (arith, least, top, under)) }
  where
    beside : (whole part rest before : ℕ) → whole < 2 ^ 64 → part < 2 ^ 64 → rest < 2 ^ 64 → before ≡ (rest + (2 ^ 64 - 1)) % 2 ^ 64 → whole ≡ (rest + part) % 2 ^ 64 → whole ≤ before → whole ≤ part
    beside whole part rest before a b c d e f = omega (arith, a, b, c, d, e, f)

ordered_decides : (n : Facts) (e : Relation) (cond : Condition) (dst src : Register) (off : ℤ) (b : Bool) → IsAtLeast n e (number dst) (number src) → ((x y : ℕ) → y ≤ x → relation cond (2 ^ 64) x y ≡ b) → IsDecided (Jump cond true dst (operands.Register src) off) e n b
ordered_decides n e cond dst src off b at order = λ s g d h.
    let o = at s g d h in
    record { x = o.x; y = o.y; first = o.first; second = o.second; met = met_is cond o.x o.y (d.state.words (number dst) o.x o.first) (d.state.words (number src) o.y o.second) ∙ order o.x o.y o.most }

pub greater_or_equal_decides : (n : Facts) (e : Relation) (i : Insn) (cond : Condition) (dst src : Register) (off : ℤ) → i ≡ Jump cond true dst (operands.Register src) off → cond ≡ GreaterOrEqual → IsAtLeast n e (number dst) (number src) → IsDecided i e n true
greater_or_equal_decides n e i cond dst src off is at_is at =
    subst (λ (i : Insn). IsDecided i e n true) (sym (is ∙ ap (λ (c : Condition). Jump c true dst (operands.Register src) off) at_is)) (ordered_decides n e GreaterOrEqual dst src off true at (λ x y l. grind (arith, nat_tests)))

pub less_decides : (n : Facts) (e : Relation) (i : Insn) (cond : Condition) (dst src : Register) (off : ℤ) → i ≡ Jump cond true dst (operands.Register src) off → cond ≡ Less → IsAtLeast n e (number dst) (number src) → IsDecided i e n false
less_decides n e i cond dst src off is at_is at =
    subst (λ (i : Insn). IsDecided i e n false) (sym (is ∙ ap (λ (c : Condition). Jump c true dst (operands.Register src) off) at_is)) (ordered_decides n e Less dst src off false at (λ x y l. grind (arith, nat_tests)))
