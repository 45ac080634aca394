use Rattle.std.proofs.Common.{◌≤◌, inl, inr, length, refl, sym, ap, subst, arith}
use Rattle.std.specs.Prelude.{IsSome, Option}
use Rattle.std.proofs.lemmas.Bool.Decides.{nat_tests}
use Rattle.xen_turns.specs.declared.state.State.{State}
use Rattle.xen_host.specs.UnderWay.{between}
use Rattle.xen_host.specs.declared.stage.Stage.{Stage}
use Rattle.xen_host.proofs.queue.Queue.turn.Goals as goal

pub say_first-requires-clause-rests : goal.say_first-requires-clause-rests
say_first-requires-clause-rests c =
    let rests = ap (λ (g : Stage). between c.args.self.now.engine.state g) c.in-Ready.is in
    subst (λ (o : Option State). IsSome o) (sym rests) refl

pub returns-else-is_empty : goal.returns-else-is_empty
returns-else-is_empty c =
    let q = c.args.self.now in
    let some : 1 ≤ length c.args.ops.now = grind (arith, nat_tests) in
    let rests = ap (λ (g : Stage). between q.engine.state g) c.in-Ready.is in
    record {
      begun = λ rested room. c.say_first.ensures.begun;
      none = λ none. absurd (elim none as (λ _. ⊥) [ inl e ↦ cc (e, rests) | inr e ↦ omega (arith, some, e) ]);
    }
