use Rattle.std.proofs.Common.{rules}
use Rattle.std.proofs.lemmas.Iterator.{YieldsList-from_slice, YieldsList-from_map, items_from_collect}
use Rattle.xdp_host.specs.Made.{extent_of}
use Rattle.xdp_host.proofs.queue_extents.extents_of.Goals as goal

pub returns : goal.returns
returns c =
    items_from_collect _ c.collect.ensures.ran
    (YieldsList-from_map _ extent_of (YieldsList-from_slice c.args.given.now (cc)) (cc) (λ x r q k. search rules))
