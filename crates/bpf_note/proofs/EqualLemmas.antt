-- What the derived tests of equality say.
use Rattle.std.proofs.Common.{◌≡◌, rules, List, Bool, true, false, not, refl, sym, ◌∙◌}
use Rattle.std.specs.Prelude.{Decides}
use lib.Pointwise.{pointwise}
use Rattle.std.proofs.lemmas.Slice.Eq.{slice_eq-Decides}
use Rattle.bpf_note.specs.declared.val.Val.{Val}
use Rattle.bpf_note.specs.declared.slot.Slot.{Slot}
use Rattle.bpf_note.specs.declared.slot.Slot.TheVariants.{Kept, Bytes}
use Rattle.bpf_note.specs.declared.bound.Bound.{Bound}
use Rattle.bpf_note.specs.contracts.val.ValPartialEq.TheImpl as val_eq
use Rattle.bpf_note.specs.contracts.slot.SlotPartialEq.TheImpl as slot_eq
use Rattle.bpf_note.specs.contracts.bound.BoundPartialEq.TheImpl as bound_eq
use Rattle.std.specs.contracts.prelude.BoolPartialEq.TheImpl as bool_eq

pub vals_equal : (a b : Val) → Decides (val_eq.eq-value.it a b) (a ≡ b)
vals_equal a b = search rules

pub bounds_equal : (a b : Bound) → Decides (bound_eq.eq-value.it a b) (a ≡ b)
bounds_equal a b = search rules

pub bools_equal : (a b : Bool) → Decides (bool_eq.ghosts.eq a b) (a ≡ b)
bools_equal a b = search rules

pub bytes_equal : (xs ys : List Bool) → Decides (pointwise (λ (x y : Bool). bool_eq.ghosts.eq x y) xs ys) (xs ≡ ys)
bytes_equal xs ys = slice_eq-Decides bools_equal xs ys _ refl

pub slots_equal : (a b : Slot) → Decides (slot_eq.eq-value.it a b) (a ≡ b)
slots_equal (Kept v) (Kept w) = let h = vals_equal v w in search rules
slots_equal (Kept v) (Bytes ys) = search rules
slots_equal (Bytes xs) (Kept w) = search rules
slots_equal (Bytes xs) (Bytes ys) = let h = bytes_equal xs ys in search rules

-- what `!=` says
pub unequal : {P : Type 0} (e r : Bool) → Decides e P → r ≡ not e → r ≡ true → P → ⊥
unequal true r d h t p = let wrong : true ≡ false = sym t ∙ h in cc
unequal false r d h t p = let wrong : false ≡ true = d.1 p in cc

pub equal : {P : Type 0} (e r : Bool) → Decides e P → r ≡ not e → r ≡ false → P
equal true r d h f = d.0 refl
equal false r d h f = let wrong : true ≡ false = sym h ∙ f in absurd (cc)
