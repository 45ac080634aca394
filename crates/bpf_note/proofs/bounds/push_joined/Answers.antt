use Rattle.std.proofs.Common.{◌≡◌, ◌∙◌, ◌++◌, [], ap, refl, arith, List, drop, ◌+◌}
use Rattle.bpf_note.specs.declared.bound.Bound.{Bound}
use Rattle.bpf_note.specs.Bounds.{with_said, all_alone}
use Rattle.bpf_note.proofs.PlaceLemmas.{slice_rest}
use Rattle.bpf_note.proofs.MergeLemmas.{merged, step_left, step_right, step_both, rest_left, rest_right, rest_appended, merged_joined}
use Rattle.bpf_note.proofs.bounds.push_joined.Goals.{then-loop-i-test+else-j-b, else-loop-i-test}
use Rattle.bpf_note.proofs.bounds.push_joined.Goals as goal

pub loop-i-preserved-then-x-y : goal.loop-i-preserved-then-x-y
loop-i-preserved-then-x-y c =
    let i = c.loop-i.i in let j = c.loop-i.j in let xs = c.args.a.now in let ys = c.args.b.now in
    let grown = c.in_ok-push_said.ensures ∙ ap (λ (b : Bound). c.loop-i.joined.items ++ with_said b []) c.alone.ensures in (
      ap (λ (zs : List Bound). zs ++ merged (drop (c.loop-i.i + 1) c.args.a.now) (drop c.loop-i.j c.args.b.now)) grown
          ∙ step_left c.loop-i.joined.items xs ys i j _ _ (omega arith) (omega arith) c.if-x-y.true ∙ c.loop-i.invariant.0,
      omega arith,
      omega arith,
    )

pub loop-i-preserved-then-y-x : goal.loop-i-preserved-then-y-x
loop-i-preserved-then-y-x c =
    let i = c.loop-i.i in let j = c.loop-i.j in let xs = c.args.a.now in let ys = c.args.b.now in
    let grown = c.in_ok-push_said-2.ensures ∙ ap (λ (b : Bound). c.loop-i.joined.items ++ with_said b []) c.alone-then-y-x.ensures in (
      ap (λ (zs : List Bound). zs ++ merged (drop c.loop-i.i c.args.a.now) (drop (c.loop-i.j + 1) c.args.b.now)) grown
          ∙ step_right c.loop-i.joined.items xs ys i j _ _ (omega arith) (omega arith) c.if-y-x.true ∙ c.loop-i.invariant.0,
      omega arith,
      omega arith,
    )

pub loop-i-preserved : goal.loop-i-preserved
loop-i-preserved c =
    let i = c.loop-i.i in let j = c.loop-i.j in let xs = c.args.a.now in let ys = c.args.b.now in
    let grown = c.in_ok-push_said-3.ensures ∙ ap (λ (b : Bound). c.loop-i.joined.items ++ with_said b []) c.paired.ensures in (
      ap (λ (zs : List Bound). zs ++ merged (drop (c.loop-i.i + 1) c.args.a.now) (drop (c.loop-i.j + 1) c.args.b.now)) grown
          ∙ step_both c.loop-i.joined.items xs ys i j _ _ (omega arith) (omega arith) (omega arith) ∙ c.loop-i.invariant.0,
      omega arith,
      omega arith,
    )

pub returns : goal.returns
returns c =
    let xs = c.args.a.now in let ys = c.args.b.now in let i = c.loop-i.i in let j = c.loop-i.j in
    let rest : all_alone (drop c.loop-i.i c.args.a.now) ++ all_alone (drop c.loop-i.j c.args.b.now) ≡ merged (drop c.loop-i.i c.args.a.now) (drop c.loop-i.j c.args.b.now) = elim c.loop-i-test.branch [
      | then-loop-i-test+else-j-b w ↦ rest_left xs ys i j w.if-j-b.false
      | else-loop-i-test w ↦ rest_right xs ys i j w.loop-i-test.false
    ] in
    let first = c.in_ok-push_alone.ensures ∙ ap (λ (zs : List Bound). c.loop-i.joined.items ++ all_alone zs) (slice_rest xs i) in
    let both = c.in_ok-push_alone-2.ensures ∙ ap (λ (zs : List Bound). c.push_alone.new.bounds.items ++ all_alone zs) (slice_rest ys j) ∙ ap (λ (zs : List Bound). zs ++ all_alone (drop c.loop-i.j c.args.b.now)) first in
    (merged xs ys, both ∙ rest_appended c.loop-i.joined.items _ _ _ _ rest c.loop-i.invariant.0, merged_joined xs ys _ c.requires.a c.requires.b refl)
