use Rattle.std.proofs.Common.{◌≡◌, ◌∙◌, sym, arith, Option, None, Some, Bool, true, false}
use Rattle.std.specs.Prelude.{is_some}
use Rattle.bpf_note.proofs.EqualLemmas.{bounds_equal, equal}
use Rattle.bpf_note.proofs.KeptLemmas.{kept_left, kept_right, kept_both, merged_front}
use Rattle.bpf_note.proofs.bounds.kept_front.Goals as goal

not_there : {A : Type 0} (o : Option A) (r : Bool) → r ≡ is_some o → r ≡ false → o ≡ None
not_there None r e f = λ i. None
not_there (Some x) r e f = let wrong : true ≡ false = sym e ∙ f in absurd (cc)

pub loop-i-preserved-then-x-y : goal.loop-i-preserved-then-x-y
loop-i-preserved-then-x-y c =
    let none = not_there _ c.is_some.result c.is_some.ensures c.if-is_some.false in
    (kept_left c.args.a.now c.args.b.now c.loop-i.i c.loop-i.j _ _ c.requires.a (omega arith) (omega arith) c.if-x-y.true none c.loop-i.invariant.0, omega arith, omega arith)

pub loop-i-preserved-then-y-x : goal.loop-i-preserved-then-y-x
loop-i-preserved-then-y-x c =
    (kept_right c.args.a.now c.args.b.now c.loop-i.i c.loop-i.j _ _ (omega arith) (omega arith) c.if-y-x.true c.if-y-ne0.false c.loop-i.invariant.0, omega arith, omega arith)

pub loop-i-preserved : goal.loop-i-preserved
loop-i-preserved c =
    let same = equal _ c.ne.result (bounds_equal c.paired.result _) c.ne.ensures c.if-ne.false in
    (kept_both c.args.a.now c.args.b.now c.loop-i.i c.loop-i.j _ _ c.requires.a (omega arith) (omega arith) (omega arith) (sym c.paired.ensures ∙ same) c.loop-i.invariant.0, omega arith, omega arith)

pub returns-else-j-b-clause-front : goal.returns-else-j-b-clause-front
returns-else-j-b-clause-front c = merged_front c.args.a.now c.args.b.now _ c.loop-i.i c.loop-i.j c.requires.a c.requires.b c.loop-i.invariant.0

pub returns-after-loop-i-clause-front : goal.returns-after-loop-i-clause-front
returns-after-loop-i-clause-front c = merged_front c.args.a.now c.args.b.now _ c.loop-i.i c.loop-i.j c.requires.a c.requires.b c.loop-i.invariant.0

pub returns-then-is_some-clause-front : goal.returns-then-is_some-clause-front
returns-then-is_some-clause-front c = merged_front c.args.a.now c.args.b.now _ c.loop-i.i c.loop-i.j c.requires.a c.requires.b c.loop-i.invariant.0

pub returns-then-y-ne0-clause-front : goal.returns-then-y-ne0-clause-front
returns-then-y-ne0-clause-front c = merged_front c.args.a.now c.args.b.now _ c.loop-i.i c.loop-i.j c.requires.a c.requires.b c.loop-i.invariant.0

pub returns-then-ne-clause-front : goal.returns-then-ne-clause-front
returns-then-ne-clause-front c = merged_front c.args.a.now c.args.b.now _ c.loop-i.i c.loop-i.j c.requires.a c.requires.b c.loop-i.invariant.0
