-- What the loops over stack bytes and lost registers keep.
use Rattle.std.proofs.Common.{◌≡◌, ℕ, suc, ◌+◌, ◌-◌, ◌/◌, ◌<◌, ◌≤◌, Bool, true, false, ◌&&◌, ◌||◌, refl, Option, None, nat_eq, nat_lt, sym, ap, ◌∙◌, arith, cond}
use Rattle.std.specs.Prelude.{if◌then◌else◌, nat_le, ◌==◌}
use Rattle.std.proofs.lemmas.Bool.Decides.{nat_tests}
use mathlib.Core.Path.{fun_ext}
use Rattle.bpf_note.specs.declared.val.Val.{Val}
use Rattle.bpf_note.specs.declared.val.Val.TheVariants.{Unset, MaybeValue}
use Rattle.bpf_note.specs.State.{put}
use Rattle.bpf_note.specs.Facts.{Facts, with_reg, with_byte}
use Rattle.bpf_flow.specs.Memory.{all_set, touches, with_bytes}
use Rattle.bpf_flow.specs.Call.{with_call}

-- the first of the bytes, and the rest
pub all_set_step : (n : Facts) (i end : ℕ) → i < end → all_set n i (end - i) ≡ (n.set i && all_set n (i + 1) (end - (i + 1)))
all_set_step n i end h = let e : end - i ≡ suc (end - (i + 1)) = omega arith in ap (all_set n i) e

kept_none : {A : Type 0} (p j : ℕ) (o : Option A) (b : Bool) → b ≡ touches p 0 j → (if b then None else o) ≡ o
kept_none p j o true e = absurd (grind (arith, nat_tests))
kept_none p j o false e = refl

set_none : (p i : ℕ) (old b : Bool) → b ≡ (nat_le p i && nat_lt i (p + 0)) → (b || old) ≡ old
set_none p i old true e = absurd (grind (arith, nat_tests))
set_none p i old false e = refl

kept_more : {A : Type 0} (p z j : ℕ) (o : Option A) (a b c : Bool) → a ≡ nat_eq j ((p + z) / 8) → b ≡ touches p z j → c ≡ touches p (z + 1) j →
    cond a None (if b then None else o) ≡ (if c then None else o)
kept_more p z j o true b true e f g = refl
kept_more p z j o true b false e f g = absurd (grind (arith, nat_tests))
kept_more p z j o false true true e f g = refl
kept_more p z j o false true false e f g = absurd (grind (arith, nat_tests))
kept_more p z j o false false true e f g = absurd (grind (arith, nat_tests))
kept_more p z j o false false false e f g = refl

-- r0 has the address, and the registers below k are lost
abbrev pub lost_reg : (ℕ → Val) → ℕ → ℕ → ℕ → ℕ → Val
lost_reg reg m id k i = if i == 0 then MaybeValue m id else if nat_lt i k then Unset else reg i

abbrev pub with_lost : Facts → ℕ → ℕ → ℕ → Facts
with_lost n m id k = record { reg = lost_reg n.reg m id k; kept = n.kept; set = n.set; top = n.top; safe = n.safe }

first_lost : (reg : ℕ → Val) (m id i : ℕ) (a b : Bool) → a ≡ nat_eq i 0 → b ≡ nat_lt i 1 → cond a (MaybeValue m id) (reg i) ≡ (if a then MaybeValue m id else if b then Unset else reg i)
first_lost reg m id i true b e f = refl
first_lost reg m id i false true e f = absurd (grind (arith, nat_tests))
first_lost reg m id i false false e f = refl
