use Rattle.std.proofs.Common.{◌<◌, ◌∙◌, ap, length, sym, subst}
use Rattle.xdp_load.specs.Listed.{list_of}
use Rattle.xdp_load.specs.ListedSeen.{listed_seen, row_texts}
use Rattle.xdp_load.proofs.ListedLemmas.{lists_kept}
use Rattle.xdp_load.proofs.lists.lists_of.Goals as goal

pub loop-i-preserved : goal.loop-i-preserved
loop-i-preserved c =
    let inside : c.loop-i.i < length c.args.shapes.now = subst (λ n. c.loop-i.i < n) (sym c.requires) c.loop-i-test.true in
    let read = sym (ap (λ k. list_of c.loop-i.i k (row_texts c.index-maps-i.result.key.rows.now)) c.key.ensures.value) ∙ c.in_ok-list.ensures in
    rw c.in_ok-push.ensures.items (sym (lists_kept listed_seen c.args.shapes.now c.args.maps.now c.loop-i.i _ _ _ _ _ _ inside c.loop-i-test.true c.index-shapes-i.is c.index-maps-i.is read) ∙ c.loop-i.invariant)
