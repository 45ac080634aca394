use Rattle.std.proofs.Common.{◌≡◌, ◌-◌, List, ℕ, take, drop, length, arith}
use Rattle.std.proofs.KnownBytes.{Appends-trans}
use Rattle.std.proofs.Math.Seq.{take-add, take-length}
use Rattle.std.proofs.lemmas.List.{length-drop}
use Rattle.xdp_commands.proofs.output.put.Goals as goal

-- `&xs[i..]`
rest_is : (xs : List ℕ) (i : ℕ) → take (length xs - i) (drop i xs) ≡ drop i xs
rest_is xs i = rw (← length-drop i xs) (take-length (drop i xs))

pub loop-done-preserved : goal.loop-done-preserved
loop-done-preserved g c =
    let rest = rest_is c.args.bytes.now c.loop-done.done in
    let bound = rw (rest, length-drop) at c.in-Ok.ensures.bound in
    record {
      within = omega (arith, bound, c.loop-done-test.true);
      written = rw take-add (Appends-trans _ _ _ _ _ c.loop-done.invariant.written (rw rest at c.in-Ok.ensures.bytes));
    }
