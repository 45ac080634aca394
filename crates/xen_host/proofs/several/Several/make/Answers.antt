use Rattle.std.proofs.Common.{arith, of_calls}
use Rattle.xen_host.proofs.TogetherLemmas.{all_fit}
use Rattle.xen_host.proofs.several.Several.make.Goals as goal

pub returns : goal.returns
returns c = record {
  lanes = all_fit c.in_ok-try_from_fn.field-0 (λ i e h. let o = c.in_ok-try_from_fn.ensures.ok in let a = o.at i e (omega (arith, h, o.long)) in search (of_calls, a.2));
  numbers = omega arith;
}
