use Rattle.std.proofs.Common.{◌+◌, List, ℕ, drop, ap, sym, ◌∙◌}
use Rattle.xdp_object.specs.Link.{linked}
use Rattle.xdp_object.proofs.LinkLemmas.{linked_more}
use Rattle.xdp_object.proofs.link.number_maps.Goals as goal

pub loop-reference-preserved : goal.loop-reference-preserved
loop-reference-preserved c =
    let i = c.loop-reference.invariant in
    let rest = drop (c.loop-reference.reference-index + 1) c.args.references.now in
    record {
      rest =
          ap (λ (p : List ℕ). linked c.number_of.new.those.items p rest) c.set_map.ensures
          ∙ sym (linked_more _ _ _ _ _ _ _ c.loop-reference-test.true c.in_ok-number.ensures.ok)
          ∙ i.rest;
      few = c.in_ok-number.ensures.most;
      whole = c.set_map.auto.program ∙ i.whole;
    }
