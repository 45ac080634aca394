use Rattle.std.proofs.Common.{arith, ◌∙◌}
use Rattle.xdp_object.proofs.LinkLemmas.{placed_more}
use Rattle.xdp_object.proofs.link.place_constants.Goals as goal

pub loop-reference-preserved : goal.loop-reference-preserved
loop-reference-preserved c =
    let i = c.loop-reference.invariant in
    let most = c.in_ok-number.ensures.most in
    let few = c.requires.few in
    record {
      rest =
          placed_more _ _ _ _ _ _ _ _ _ _ c.loop-reference-test.true c.in_ok-number.ensures.ok c.address_of-address.ensures c.set_address.ensures
          ∙ i.rest;
      few = omega (arith, most, few);
      whole = c.set_address.auto.program ∙ i.whole;
    }
