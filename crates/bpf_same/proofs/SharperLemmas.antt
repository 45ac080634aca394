-- What is known after a sum, by the ranges of both numbers.
use Rattle.std.proofs.Common.{ℕ, ◌+◌, ◌%◌, ◌^◌, ◌≡◌, ◌<◌, ◌≤◌, refl, sym, ap, ◌∙◌, subst, arith, ◌∷◌, [], Option, None, Some, Bool, true, false}
use Rattle.std.specs.Prelude.{◌==◌, ◌*◌, ◌/◌, ◌-◌, nat_eq, if◌then◌else◌, bit_and, bit_or, IfSome, IsTrue}
use Rattle.std.specs.Int.Bits.{or_add_and}
use Rattle.std.proofs.lemmas.Nat.{le_or_l, mul-le, le-div, pow_pos}
use Rattle.std.proofs.lemmas.Nat.Bits.{and_high_mask}
use Rattle.std.proofs.Math.Nat.{div-mul-le_self, div-lt_iff_lt-mul}
use Rattle.std.proofs.Math.Pow.{pow-lt}
use Rattle.bpf_insn.specs.Arithmetic.{computed}
use Rattle.bpf_insn.specs.declared.alu_op.AluOp.{AluOp}
use Rattle.bpf_same.specs.declared.range.Range.{Range}
use Rattle.bpf_same.specs.Stepped.{IsCombined}
use Rattle.std.proofs.Common.{inl, inr}
use Rattle.std.proofs.lemmas.Bool.Decides.{nat_tests}
use Rattle.bpf_insn.specs.Register.{number}
use Rattle.bpf_insn.specs.declared.alu_op.AluOp.TheVariants as op
use Rattle.bpf_insn.specs.declared.register.Register.{Register}
use Rattle.bpf_insn.specs.declared.operand.Operand.{Operand}
use Rattle.bpf_insn.specs.declared.refusal.Cause.{Cause}
use Rattle.bpf_insn.specs.declared.refusal.Cause.TheVariants as cause
use Rattle.bpf_insn.specs.declared.insn.Insn.{Insn}
use Rattle.bpf_insn.specs.declared.insn.Insn.TheVariants.{Alu}
use Rattle.bpf_note.specs.declared.op.Op.{Op}
use Rattle.bpf_note.specs.declared.op.Op.TheVariants as ops
use Rattle.bpf_note.specs.declared.val.Val.TheVariants.{Num}
use Rattle.bpf_note.specs.State.{State}
use Rattle.bpf_note.specs.Facts.{Facts, with_reg}
use Rattle.bpf_note.specs.Describes.{Describes, Reads, meaning}
use Rattle.bpf_flow.specs.Edges.{Answer, Edges}
use Rattle.bpf_flow.specs.Gives.{Fails}
use Rattle.bpf_flow.specs.Sound.{Accounts, Covers}
use Rattle.bpf_flow.specs.Step.{Outcome, Next, Loads, Adds, Exited, Fault, exec, operand, LeadsTo}
use Rattle.bpf_same.specs.LinearForms.{plus}
use Rattle.bpf_same.specs.Simulated.{IsRefused}
use Rattle.bpf_same.specs.Ranges.{Lies, IsRead, IsMoved, IsOperandRead, IsAdded, IsUnited, IsMultiplied, IsMasked, IsSummed, AreBounded, IsNarrowed}
use Rattle.bpf_same.specs.declared.sharper.Bounded.{Bounded}
use Rattle.bpf_same.proofs.ComputeLemmas.{added, computes_as, mod_word}
use Rattle.bpf_same.proofs.StepLemmas.{alu_computes}
use Rattle.bpf_same.proofs.PairLemmas.{operand_is}

-- sums below 2 ^ 64
pub adds : (from to first last low high : ℕ) → high < 2 ^ 64 → from ≤ to → first ≤ last → low ≡ (from + first) % 2 ^ 64 → high ≡ to + last → IsAdded from to first last low high
adds from to first last low high fits a b is top = λ o p r q.
    let sum : plus o p ≡ Some ((r.x + q.x) % 2 ^ 64) = ap (λ (o : Option ℕ). plus o p) r.is ∙ ap (plus (Some r.x)) q.is in
    record { x = (r.x + q.x) % 2 ^ 64; is = sum; least = omega (arith, fits, a, b, is, top, r.least, r.most, q.least, q.most); most = omega (arith, fits, top, r.most, q.most) }

-- the bits of two numbers are at most their sum
pub unites : (from to first last low high : ℕ) → low ≡ from → high ≡ to + last → IsUnited from to first last low high
unites from to first last low high bottom top = λ x y a b c d.
    let least : x ≤ bit_or x y = le_or_l x y in
    let most : bit_or x y + bit_and x y ≡ x + y = or_add_and x y in
    (omega (arith, a, bottom, least), omega (arith, b, d, top, most))

or_value : (x y : ℕ) → x < 2 ^ 64 → y < 2 ^ 64 → computed op.Or true x y ≡ bit_or x y
unfolding computed
or_value x y l m = ap (λ (x : ℕ). bit_or x (y % 2 ^ 64)) (mod_word x l) ∙ ap (bit_or x) (mod_word y m)

some_is : {x y : ℕ} → Some x ≡ Some y → x ≡ y
some_is e = cc

-- products below 2 ^ 64
pub multiplies : (from to first last low high : ℕ) → high < 2 ^ 64 → low ≡ (from * first) % 2 ^ 64 → high ≡ to * last → IsMultiplied from to first last low high
multiplies from to first last low high fits bottom top = λ x y a b c d.
    let least : from * first ≤ x * y = mul-le from first x y a c in
    let most : x * y ≤ to * last = mul-le x y to last b d in
    (omega (arith, bottom, least), omega (arith, top, most), omega (arith, top, most, fits))

-- the bits of a mask from one place up to another, in a number that has none above
pub masks : (from to k w low high : ℕ) → k < w → to / 2 ^ w ≡ 0 → low ≡ from / 2 ^ k * 2 ^ k → high ≡ to / 2 ^ k * 2 ^ k → IsMasked from to (2 ^ w - 2 ^ k) low high
masks from to k w low high below top bottom most = λ x a b.
    let under : to < 1 * 2 ^ w = (div-lt_iff_lt-mul (pow_pos w)).0 (omega (arith, top)) in
    let value : bit_and x (2 ^ w - 2 ^ k) ≡ x / 2 ^ k * 2 ^ k = and_high_mask w k (omega (arith, below)) x (omega (arith, under, b)) in
    let least : from / 2 ^ k * 2 ^ k ≤ x / 2 ^ k * 2 ^ k = mul-le (from / 2 ^ k) (2 ^ k) (x / 2 ^ k) (2 ^ k) (divided from x (2 ^ k) (pow_pos k) a) (omega arith) in
    let greatest : x / 2 ^ k * 2 ^ k ≤ to / 2 ^ k * 2 ^ k = mul-le (x / 2 ^ k) (2 ^ k) (to / 2 ^ k) (2 ^ k) (divided x to (2 ^ k) (pow_pos k) b) (omega arith) in
    (omega (arith, bottom, value, least), omega (arith, most, value, greatest))
  where
    divided : (x y d : ℕ) → 0 < d → x ≤ y → x / d ≤ y / d
    divided x y d some h = let under : x / d * d ≤ x = div-mul-le_self x d in le-div (x / d) y d some (omega (arith, under, h))

-- which bits a mask has
pub bits_mask : (from to mask : ℕ) → from < to → to < 64 → IsTrue (nat_eq ((1 * 2 ^ to % 2 ^ 64 + (2 ^ 64 - 1 * 2 ^ from % 2 ^ 64)) % 2 ^ 64) mask) → mask ≡ 2 ^ to - 2 ^ from
bits_mask from to mask below few is =
    let less : 2 ^ from < 2 ^ to = pow-lt below in
    let fits : 2 ^ to < 2 ^ 64 = pow-lt few in
    let same : (1 * 2 ^ to % 2 ^ 64 + (2 ^ 64 - 1 * 2 ^ from % 2 ^ 64)) % 2 ^ 64 ≡ mask = grind (arith, nat_tests) in
    omega (arith, less, fits, same)

mul_value : (x y : ℕ) → x < 2 ^ 64 → y < 2 ^ 64 → x * y < 2 ^ 64 → computed op.Mul true x y ≡ x * y
unfolding computed
mul_value x y l m fits = ap (λ (x : ℕ). (x * (y % 2 ^ 64)) % 2 ^ 64) (mod_word x l) ∙ (ap (λ (y : ℕ). (x * y) % 2 ^ 64) (mod_word y m) ∙ mod_word (x * y) fits)

and_value : (x y : ℕ) → x < 2 ^ 64 → y < 2 ^ 64 → computed op.And true x y ≡ bit_and x y
unfolding computed
and_value x y l m = ap (λ (x : ℕ). bit_and x (y % 2 ^ 64)) (mod_word x l) ∙ ap (bit_and x) (mod_word y m)

-- what a sum, a product, or the bits of one or of both, comes to
added_one : (from to by low high : ℕ) → IsMoved from to by low high → IsAdded from to by by low high
added_one from to by low high moved = λ o p here there.
    let one : there.x ≡ by = omega (arith, there.least, there.most) in
    subst (λ (q : Option ℕ). Lies (plus o q) low high) (sym (there.is ∙ ap Some one)) (moved o here)

pub added_one_if : (from to first last : ℕ) (r : Option Range) → first ≡ last → IfSome r (λ r. IsMoved from to first r.low r.high) → IfSome r (λ r. IsAdded from to first last r.low r.high)
added_one_if from to first last None same moved = tt
added_one_if from to first last (Some r) same moved = subst (λ (l : ℕ). IsAdded from to first l r.low r.high) same (added_one from to first r.low r.high moved)

pub adds_if : (o : AluOp) (from to first last : ℕ) (r : Option Range) → o ≡ op.Add → IfSome r (λ r. IsAdded from to first last r.low r.high) → IfSome r (λ r. IsCombined o from to first last r.low r.high)
adds_if o from to first last None is sum = tt
adds_if o from to first last (Some r) is sum = λ a b x k p q. subst (λ (o : Option ℕ). Lies o r.low r.high) (sym (added a b x (computes_as o op.Add true true a b x is refl k))) (sum a b p q)

unites_in : (from to first last low high : ℕ) → to < 2 ^ 64 → last < 2 ^ 64 → IsUnited from to first last low high → IsCombined op.Or from to first last low high
unites_in from to first last low high fits small both = λ a b o k p q.
    let x : k.x ≡ p.x = some_is (sym k.first ∙ p.is) in
    let y : k.y ≡ q.x = some_is (sym k.second ∙ q.is) in
    let bits = both p.x q.x p.least p.most q.least q.most in
    let value : computed op.Or true k.x k.y ≡ bit_or p.x q.x = ap (λ (x : ℕ). computed op.Or true x k.y) x ∙ (ap (computed op.Or true p.x) y ∙ or_value p.x q.x (omega (arith, fits, p.most)) (omega (arith, small, q.most))) in
    record { x = bit_or p.x q.x; is = k.is ∙ ap Some value; least = bits.0; most = bits.1 }

pub unites_if : (o : AluOp) (from to first last : ℕ) (r : Option Range) → o ≡ op.Or → to < 2 ^ 64 → last < 2 ^ 64 → IfSome r (λ r. IsUnited from to first last r.low r.high) → IfSome r (λ r. IsCombined o from to first last r.low r.high)
unites_if o from to first last None is fits small both = tt
unites_if o from to first last (Some r) is fits small both = subst (λ (o : AluOp). IsCombined o from to first last r.low r.high) (sym is) (unites_in from to first last r.low r.high fits small both)

multiplies_in : (from to first last low high : ℕ) → to < 2 ^ 64 → last < 2 ^ 64 → IsMultiplied from to first last low high → IsCombined op.Mul from to first last low high
multiplies_in from to first last low high fits small both = λ a b o k p q.
    let x : k.x ≡ p.x = some_is (sym k.first ∙ p.is) in
    let y : k.y ≡ q.x = some_is (sym k.second ∙ q.is) in
    let product = both p.x q.x p.least p.most q.least q.most in
    let value : computed op.Mul true k.x k.y ≡ p.x * q.x = ap (λ (x : ℕ). computed op.Mul true x k.y) x ∙ (ap (computed op.Mul true p.x) y ∙ mul_value p.x q.x (omega (arith, fits, p.most)) (omega (arith, small, q.most)) product.2) in
    record { x = p.x * q.x; is = k.is ∙ ap Some value; least = product.0; most = product.1 }

pub multiplies_if : (o : AluOp) (from to first last : ℕ) (r : Option Range) → o ≡ op.Mul → to < 2 ^ 64 → last < 2 ^ 64 → IfSome r (λ r. IsMultiplied from to first last r.low r.high) → IfSome r (λ r. IsCombined o from to first last r.low r.high)
multiplies_if o from to first last None is fits small both = tt
multiplies_if o from to first last (Some r) is fits small both = subst (λ (o : AluOp). IsCombined o from to first last r.low r.high) (sym is) (multiplies_in from to first last r.low r.high fits small both)

masks_in : (from to first last low high : ℕ) → to < 2 ^ 64 → last < 2 ^ 64 → first ≡ last → IsMasked from to first low high → IsCombined op.And from to first last low high
masks_in from to first last low high fits small one bits = λ a b o k p q.
    let x : k.x ≡ p.x = some_is (sym k.first ∙ p.is) in
    let mask : q.x ≡ first = omega (arith, one, q.least, q.most) in
    let y : k.y ≡ first = some_is (sym k.second ∙ q.is) ∙ mask in
    let both = bits p.x p.least p.most in
    let value : computed op.And true k.x k.y ≡ bit_and p.x first = ap (λ (x : ℕ). computed op.And true x k.y) x ∙ (ap (computed op.And true p.x) y ∙ and_value p.x first (omega (arith, fits, p.most)) (omega (arith, small, one))) in
    record { x = bit_and p.x first; is = k.is ∙ ap Some value; least = both.0; most = both.1 }

pub masks_if : (o : AluOp) (from to first last : ℕ) (r : Option Range) → o ≡ op.And → to < 2 ^ 64 → last < 2 ^ 64 → IfSome r (λ r. (first ≡ last) × IsMasked from to first r.low r.high) → IfSome r (λ r. IsCombined o from to first last r.low r.high)
masks_if o from to first last None is fits small both = tt
masks_if o from to first last (Some r) is fits small both = subst (λ (o : AluOp). IsCombined o from to first last r.low r.high) (sym is) (masks_in from to first last r.low r.high fits small both.0 both.1)

-- a register that gets it
pub sums : (i : Insn) (n : Facts) (o : AluOp) (dst : Register) (src : Operand) (from to first last low high : ℕ) → i ≡ Alu o true dst src → IsRead n (n.reg (number dst)) from to → IsOperandRead n src first last → IsCombined o from to first last low high →
    IsSummed i n (number dst) low high
sums i n o dst src from to first last low high is one other combined = λ s u label d h.
    let c = alu_computes o true dst src s label u (subst (λ (i : Insn). LeadsTo (exec i s) label u) is h) in
    combined (s.reg (number dst)) (operand s src) (u.reg (number dst)) (record { x = c.x; y = c.y; first = c.first; second = operand_is s src ∙ c.second; is = c.is }) (one s d (s.reg (number dst)) (d.regs (number dst))) (other s d)

pub register_read : (n : Facts) (src : Operand) (k low high : ℕ) → ((s : State) → operand s src ≡ s.reg k) → IsRead n (n.reg k) low high → IsOperandRead n src low high
register_read n src k low high is r = λ s d. subst (λ (o : Option ℕ). Lies o low high) (sym (is s)) (r s d (s.reg k) (d.regs k))

-- what a register lies between may be known of it
pub described : (m : Facts) (u : State) (k low high : ℕ) → Lies (u.reg k) low high → Describes m u → Describes (with_reg m k (Num low high)) u
described m u k low high l d = record {
  state = d.state;
  base = d.base;
  address = d.address;
  regs = λ j. by j (j == k) refl;
  kept = d.kept;
  set = d.set;
  start = d.start;
  tops = d.tops;
  low = d.low;
  safes = d.safes;
}
  where
    by : (j : ℕ) (b : Bool) → b ≡ (j == k) → Reads (meaning u d.base d.address) (if b then Num low high else m.reg j) (u.reg j)
    by j true e =
        let same : k ≡ j = grind (arith, nat_tests) in
        subst (λ (i : ℕ). Reads (meaning u d.base d.address) (Num low high) (u.reg i)) same (subst (λ (o : Option ℕ). Reads (meaning u d.base d.address) (Num low high) o) (sym l.is) (l.least, l.most))
    by j false e = d.regs j

-- nothing more is known
pub as_known : (q : ℕ) (m : Facts) (known : Option Bounded) (r : ℕ) (l : Facts) → r ≡ q → l ≡ m → IsNarrowed q m known r l
as_known q m known r l same e = record { same = same; describes = λ s lies d. subst (λ (m : Facts). Describes m s) (sym e) d }

-- what a register lies between is known too
pub range_known : (q : ℕ) (m : Facts) (b : Bounded) (r : ℕ) (l : Facts) → r ≡ q → l ≡ with_reg m b.register (Num b.range.low b.range.high) → IsNarrowed q m (Some b) r l
range_known q m b r l same e = record { same = same; describes = λ s lies d. subst (λ (m : Facts). Describes m s) (sym e) (described m s b.register b.range.low b.range.high lies d) }

-- what an instruction makes lies between these numbers
pub sum_bounded : (i : Insn) (n : Facts) (known : Option Bounded) → IfSome known (λ r. IsSummed i n r.register r.range.low r.range.high) → (s u : State) (label : Option Op) → Describes n s → LeadsTo (exec i s) label u → AreBounded known u
sum_bounded i n None sum s u label d h = tt
sum_bounded i n (Some b) sum s u label d h = sum s u label d h

pub covered_as : (q r : ℕ) (m l : Facts) (u : State) → r ≡ q → (Describes m u → Describes l u) → Covers ((q, m) ∷ []) u → Covers ((r, l) ∷ []) u
covered_as q r m l u same f (inl h) = inl (h.0 ∙ sym same, f h.1)
covered_as q r m l u same f (inr h) = absurd h

-- other edges account for an outcome where they cover what these cover
pub accounted_as : (es fs : Edges) (o : Outcome) → ((label : Option Op) (u : State) → LeadsTo o label u → Covers es u → Covers fs u) → Accounts es o → Accounts fs o
accounted_as es fs (Next t) f a = f None t refl a
accounted_as es fs (Loads x y z go) f a = λ v fits. f (Some (ops.Load x y z v)) (go v) (refl, refl, refl, fits, refl) (a v fits)
accounted_as es fs (Adds x y z delta go) f a = λ v fits. f (Some (ops.Add x y z delta v)) (go v) (refl, refl, refl, refl, fits, refl) (a v fits)
accounted_as es fs (Exited x) f a = tt
accounted_as es fs Fault f a = a

-- what follows from what an edge says may stand in its place
pub accounted : (i : Insn) (n m l : Facts) (known : Option Bounded) (q r : ℕ) (s : State) → Describes n s → IsNarrowed q m known r l → IfSome known (λ r. IsSummed i n r.register r.range.low r.range.high) → Accounts ((q, m) ∷ []) (exec i s) → Accounts ((r, l) ∷ []) (exec i s)
accounted i n m l known q r s d k sum = accounted_as ((q, m) ∷ []) ((r, l) ∷ []) (exec i s) (λ label u h. covered_as q r m l u k.same (k.describes u (sum_bounded i n known sum s u label d h)))

-- a cause of refusal that isn't out of memory is the rule's
pub refused_by_rule : (c : Cause) (a : Answer) → (c ≡ cause.Memory → ⊥) → Fails c a → IsRefused a
refused_by_rule cause.Memory a other h = absurd (other refl)
refused_by_rule cause.Length a other h = (cause.Length, h)
refused_by_rule cause.Opcode a other h = (cause.Opcode, h)
refused_by_rule cause.Register a other h = (cause.Register, h)
refused_by_rule cause.Target a other h = (cause.Target, h)
refused_by_rule cause.BackJump a other h = (cause.BackJump, h)
refused_by_rule cause.End a other h = (cause.End, h)
refused_by_rule cause.Unset a other h = (cause.Unset, h)
refused_by_rule cause.FramePointer a other h = (cause.FramePointer, h)
refused_by_rule cause.NoPointer a other h = (cause.NoPointer, h)
refused_by_rule cause.Packet a other h = (cause.Packet, h)
refused_by_rule cause.Stack a other h = (cause.Stack, h)
refused_by_rule cause.Context a other h = (cause.Context, h)
refused_by_rule cause.MayBeNull a other h = (cause.MayBeNull, h)
refused_by_rule cause.MapAccess a other h = (cause.MapAccess, h)
refused_by_rule cause.Helper a other h = (cause.Helper, h)
refused_by_rule cause.MapNumber a other h = (cause.MapNumber, h)
refused_by_rule cause.Argument a other h = (cause.Argument, h)
refused_by_rule cause.Unsupported a other h = (cause.Unsupported, h)
