use Rattle.std.proofs.Common.{subst, sym}
use Rattle.xen_netif.specs.Offloads.{has_extra}
use Rattle.xen_turns.proofs.Figures.{FewSlots, none_more, one_more}
use Rattle.xen_host.specs.Queues.{wiring}
use Rattle.xen_host.proofs.LoopLemmas.{deliveries_few, extra_steps, plain_steps, turns_few, waits_few}
use Rattle.xen_host.proofs.laws.steps_are_few.Goals as goal

pub returns : goal.returns
returns c = record {
  turns = λ old begun new. turns_few 1 old begun new (one_more (wiring old).offers);
  plain_turns = λ old begun new offers. turns_few 0 old begun new (subst (λ o. FewSlots o 0) (sym offers) none_more);
  deliveries = λ old begun new producer o packet n h steps. extra_steps (has_extra o) n (deliveries_few old begun new producer o packet n h steps);
  plain_deliveries = λ old begun new producer o packet n none h steps. plain_steps (has_extra o) n none (deliveries_few old begun new producer o packet n h steps);
  waits = waits_few;
}
