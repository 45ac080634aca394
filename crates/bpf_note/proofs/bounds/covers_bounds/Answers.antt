use Rattle.std.proofs.Common.{◌≡◌, ◌∙◌, ap, sym, subst, arith, drop, true, false, Some, None, Option, Bool, ◌↔◌}
use Rattle.std.specs.Prelude.{is_some, All}
use Rattle.bpf_note.proofs.EqualLemmas.{bounds_equal, equal, unequal}
use Rattle.bpf_note.proofs.PlaceLemmas.{slice_rest}
use Rattle.bpf_note.proofs.MergeLemmas.{Stays, place_left, place_right, place_both, end_left, end_right, joined_stays, stays_joined, HasNoSafe, HasNoTop}
use Rattle.bpf_note.proofs.bounds.covers_bounds.Goals.{then-loop-i-test+else-j-b, else-loop-i-test}
use Rattle.bpf_note.proofs.bounds.covers_bounds.Goals as goal

never : false ≡ true → ⊥
never e = cc

there_not : {A : Type 0} (o : Option A) (r : Bool) → r ≡ is_some o → r ≡ true → o ≡ None → ⊥
there_not o r e t n = let wrong : true ≡ false = sym t ∙ e ∙ ap is_some n in cc

not_there : {A : Type 0} (o : Option A) (r : Bool) → r ≡ is_some o → r ≡ false → o ≡ None
not_there None r e f = λ i. None
not_there (Some x) r e f = let wrong : true ≡ false = sym e ∙ f in absurd (cc)

pub returns-then-is_some : goal.returns-then-is_some
returns-then-is_some c =
    let part = place_left c.args.a.now c.args.b.now c.loop-i.i c.loop-i.j _ _ c.requires.a c.requires.b (omega arith) (omega arith) c.if-x-y.true in (
      λ t. absurd (never t),
      λ joined. absurd (there_not _ c.is_some.result c.is_some.ensures c.if-is_some.true (part.0 (c.loop-i.invariant.0.0 (joined_stays c.args.a.now c.args.b.now c.requires.a c.requires.b joined))).0),
    )

pub loop-i-preserved-then-x-y : goal.loop-i-preserved-then-x-y
loop-i-preserved-then-x-y c =
    let part = place_left c.args.a.now c.args.b.now c.loop-i.i c.loop-i.j _ _ c.requires.a c.requires.b (omega arith) (omega arith) c.if-x-y.true in
    let none = not_there _ c.is_some.result c.is_some.ensures c.if-is_some.false in
    ((λ s. (part.0 (c.loop-i.invariant.0.0 s)).1, λ s. c.loop-i.invariant.0.1 (part.1 none s)), omega arith, omega arith)

pub returns-then-y-ne0 : goal.returns-then-y-ne0
returns-then-y-ne0 c =
    let part = place_right c.args.a.now c.args.b.now c.loop-i.i c.loop-i.j _ _ (omega arith) (omega arith) c.if-y-x.true in (
      λ t. absurd (never t),
      λ joined. absurd (c.if-y-ne0.true (part.0 (c.loop-i.invariant.0.0 (joined_stays c.args.a.now c.args.b.now c.requires.a c.requires.b joined))).0),
    )

pub loop-i-preserved-then-y-x : goal.loop-i-preserved-then-y-x
loop-i-preserved-then-y-x c =
    let part = place_right c.args.a.now c.args.b.now c.loop-i.i c.loop-i.j _ _ (omega arith) (omega arith) c.if-y-x.true in
    ((λ s. (part.0 (c.loop-i.invariant.0.0 s)).1, λ s. c.loop-i.invariant.0.1 (part.1 c.if-y-ne0.false s)), omega arith, omega arith)

pub returns-then-ne : goal.returns-then-ne
returns-then-ne c =
    let part = place_both c.args.a.now c.args.b.now c.loop-i.i c.loop-i.j _ _ c.requires.a c.requires.b (omega arith) (omega arith) (omega arith) in (
      λ t. absurd (never t),
      λ joined. absurd (unequal _ c.ne.result (bounds_equal c.paired.result _) c.ne.ensures c.if-ne.true
          (c.paired.ensures ∙ (part.0 (c.loop-i.invariant.0.0 (joined_stays c.args.a.now c.args.b.now c.requires.a c.requires.b joined))).0)),
    )

pub loop-i-preserved : goal.loop-i-preserved
loop-i-preserved c =
    let part = place_both c.args.a.now c.args.b.now c.loop-i.i c.loop-i.j _ _ c.requires.a c.requires.b (omega arith) (omega arith) (omega arith) in
    let same = equal _ c.ne.result (bounds_equal c.paired.result _) c.ne.ensures c.if-ne.false in
    ((λ s. (part.0 (c.loop-i.invariant.0.0 s)).1, λ s. c.loop-i.invariant.0.1 (part.1 (sym c.paired.ensures ∙ same) s)), omega arith, omega arith)

pub returns-then-have_no_safe : goal.returns-then-have_no_safe
returns-then-have_no_safe c =
    let xs = c.args.a.now in let ys = c.args.b.now in let i = c.loop-i.i in let j = c.loop-i.j in
    let end : Stays (drop c.loop-i.i c.args.a.now) (drop c.loop-i.j c.args.b.now) ↔ (All HasNoSafe (drop c.loop-i.i c.args.a.now) × All HasNoTop (drop c.loop-i.j c.args.b.now)) = elim c.loop-i-test.branch [
      | then-loop-i-test+else-j-b w ↦ end_right c.args.a.now c.args.b.now c.loop-i.i c.loop-i.j c.requires.a w.if-j-b.false
      | else-loop-i-test w ↦ end_left c.args.a.now c.args.b.now c.loop-i.i c.loop-i.j w.loop-i-test.false
    ] in (
      λ t. stays_joined xs ys c.requires.a c.requires.b (c.loop-i.invariant.0.1 (end.1 (
        subst (All HasNoSafe) (slice_rest xs i) (c.have_no_safe.ensures.0 c.if-have_no_safe.true),
        subst (All HasNoTop) (slice_rest ys j) (c.have_no_top.ensures.0 t),
      ))),
      λ joined. c.have_no_top.ensures.1 (subst (All HasNoTop) (sym (slice_rest ys j)) (end.0 (c.loop-i.invariant.0.0 (joined_stays xs ys c.requires.a c.requires.b joined))).1),
    )

pub returns-else-have_no_safe : goal.returns-else-have_no_safe
returns-else-have_no_safe c =
    let xs = c.args.a.now in let ys = c.args.b.now in let i = c.loop-i.i in let j = c.loop-i.j in
    let end : Stays (drop c.loop-i.i c.args.a.now) (drop c.loop-i.j c.args.b.now) ↔ (All HasNoSafe (drop c.loop-i.i c.args.a.now) × All HasNoTop (drop c.loop-i.j c.args.b.now)) = elim c.loop-i-test.branch [
      | then-loop-i-test+else-j-b w ↦ end_right c.args.a.now c.args.b.now c.loop-i.i c.loop-i.j c.requires.a w.if-j-b.false
      | else-loop-i-test w ↦ end_left c.args.a.now c.args.b.now c.loop-i.i c.loop-i.j w.loop-i-test.false
    ] in (
      λ t. absurd (never (sym c.if-have_no_safe.false ∙ t)),
      λ joined. c.have_no_safe.ensures.1 (subst (All HasNoSafe) (sym (slice_rest xs i)) (end.0 (c.loop-i.invariant.0.0 (joined_stays xs ys c.requires.a c.requires.b joined))).0),
    )
