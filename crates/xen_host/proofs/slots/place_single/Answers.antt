use Rattle.std.proofs.Common.{List, [], ◌∙◌, Ok, sym, ap}
use Rattle.xen_netif.specs.declared.fragment.Fragment.{Fragment}
use Rattle.xen_netif.proofs.SegmentLemmas.{plain_offered}
use Rattle.xen_host.proofs.slots.place_single.Goals as goal

pub returns-in-Err-clause-answer : goal.returns-in-Err-clause-answer
returns-in-Err-clause-answer c offers = plain_offered offers c.args.slot [] c.requires.plain ∙ c.in-Err.ensures.answer

pub returns-in-Ok-clause-answer : goal.returns-in-Ok-clause-answer
returns-in-Ok-clause-answer c offers =
    plain_offered offers c.args.slot [] c.requires.plain ∙ (c.in-Ok.ensures.answer ∙ ap (λ (l : List Fragment). Ok l) (sym c.put_alone.ensures))
