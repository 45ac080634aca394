use Rattle.std.proofs.Common.{◌≡◌, ℕ, zero, suc, false, get_or, replicate, refl}
use Rattle.xen_front.proofs.front.making.new_ring.Goals as goal

none_set : (n i : ℕ) → get_or (replicate n false) i false ≡ false
none_set zero i = refl
none_set (suc n) zero = refl
none_set (suc n) (suc i) = none_set n i

pub returns : goal.returns
returns c = record { prod = refl; cons = refl; out = none_set 256; size = refl }
