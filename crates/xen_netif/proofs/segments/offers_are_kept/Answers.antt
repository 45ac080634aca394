use Rattle.xen_netif.proofs.SegmentLemmas.{are_said, extra_refused, nothing_offered, nothing_segmented, plain_offered, said_are}
use Rattle.xen_netif.proofs.segments.offers_are_kept.Goals as goal

pub returns : goal.returns
returns c = record {
  said = said_are;
  all_said = are_said;
  no_fragments = nothing_offered;
  no_segments = nothing_segmented;
  plain = plain_offered;
  refused = extra_refused;
}
