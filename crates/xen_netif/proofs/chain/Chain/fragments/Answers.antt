use Rattle.std.proofs.Common.{◌≡◌, ◌∙◌, List, Ok, Err, MatchResult, ap, subst}
use Rattle.std.specs.Prelude.{Result}
use Rattle.xen_netif.specs.Chain.{Slot}
use Rattle.xen_netif.specs.Fragments.{fragments_of}
use Rattle.xen_netif.specs.Segments.{no_offers, offered_fragments}
use Rattle.xen_netif.specs.declared.fault.SizeFault.{SizeFault}
use Rattle.xen_netif.specs.declared.fragment.Fragment.{Fragment}
use Rattle.xen_netif.proofs.SegmentLemmas.{each_counted, nothing_offered}
use Rattle.xen_netif.proofs.chain.Chain.fragments.Goals as goal

pub returns-clause-answer : goal.returns-clause-answer
returns-clause-answer c =
    let slots : c.as_slice.result.now ≡ c.args.self.now = c.as_slice.ensures.value ∙ c.self.view_is in
    let same : offered_fragments no_offers c.as_slice.result.now ≡ fragments_of c.args.self.now =
    nothing_offered c.as_slice.result.now ∙ ap (λ (l : List Slot). fragments_of l) slots in
    subst (λ (o : Result (List Fragment) SizeFault). MatchResult c.fragments_in.result (λ v. o ≡ Ok v.items) (λ fault. o ≡ Err fault)) same c.fragments_in.ensures.answer

pub returns-clause-count : goal.returns-clause-count
returns-clause-count c = each_counted c.fragments_in.result (λ v. v.items) c.args.self.now (returns-clause-answer c)
