use Rattle.std.proofs.Common.{ap, refl, sym, ◌∙◌, List, Bool}
use Rattle.bpf_verify.specs.Marks.{marked}
use Rattle.bpf_verify.proofs.OrderLemmas.{ordered_clear, ordered_acyclic, nothing_left}
use Rattle.bpf_verify.proofs.RisingLemmas.{rising_ordered}
use Rattle.bpf_verify.proofs.graph.cycles.is_ordered.Goals as goal

pub returns-then-is_rising-clause-ordered : goal.returns-then-is_rising-clause-ordered
returns-then-is_rising-clause-ordered c = (λ t. rising_ordered c.args.code.now (c.is_rising.ensures.0 c.if-is_rising.true), λ o. refl)

pub returns-then-is_rising-clause-acyclic : goal.returns-then-is_rising-clause-acyclic
returns-then-is_rising-clause-acyclic c = λ clear. rising_ordered c.args.code.now (c.is_rising.ensures.0 c.if-is_rising.true)

pub returns-clause-ordered : goal.returns-clause-ordered
returns-clause-ordered c =
    let left = c.in_ok-whole.whole.left.items in
    let taken = c.in_ok-whole.whole.taken.items in (
      λ e. ordered_clear c.args.code.now c.in_ok-all.all.items left taken c.in_ok-all.ensures c.in_ok-whole.ensures.takes c.in_ok-whole.ensures.left
          (λ q on. c.is_clear.ensures.0 e q (ap (λ (m : List Bool). marked m q) c.deref.ensures.value ∙ on)),
      λ o. c.is_clear.ensures.1 (λ q on. nothing_left c.args.code.now c.in_ok-all.all.items left taken c.in_ok-whole.ensures.left o q
          (ap (λ (m : List Bool). marked m q) (sym c.deref.ensures.value) ∙ on)),
    )

pub returns-clause-acyclic : goal.returns-clause-acyclic
returns-clause-acyclic c = λ clear.
    ordered_acyclic c.args.code.now c.in_ok-all.all.items c.in_ok-whole.whole.left.items c.in_ok-whole.whole.taken.items c.in_ok-all.ensures c.in_ok-whole.ensures.takes c.in_ok-whole.ensures.left clear
