use Rattle.std.proofs.Common.{◌≡◌, ℕ, zero, ◌<◌, ◌+◌, suc, List, [], ◌∷◌, length, drop, refl, sym, ap, ◌∙◌, arith}
use Rattle.xen_host.specs.declared.op.HostOp.{HostOp}
use Rattle.std.proofs.Common.{take, ◌++◌}
use Rattle.std.specs.Prelude.{slice_set}
use Rattle.xen_host.proofs.lane_host.LaneHost.put.Goals as goal

put_at : (l : List HostOp) (i : ℕ) (x : HostOp) → i < length l → slice_set l i x ≡ take i l ++ x ∷ drop (i + 1) l
put_at [] i x h = absurd (omega arith)
put_at (y ∷ l) zero x h = refl
put_at (y ∷ l) (suc i) x h =
    let e : suc i + 1 ≡ suc (i + 1) = omega arith in
    ap (λ t. y ∷ t) (put_at l i x (omega (arith, h))) ∙ ap (λ k. y ∷ (take i l ++ x ∷ drop k (y ∷ l))) (sym e)

pub returns-clause-ops : goal.returns-clause-ops
returns-clause-ops c = put_at c.args.self.now.ops.now c.args.self.now.count c.args.op (omega (arith, c.requires.room, c.requires.within))
