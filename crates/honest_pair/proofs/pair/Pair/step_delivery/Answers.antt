use Rattle.std.proofs.Common.{refl, sym, ◌∙◌, ap, ◌++◌, length}
use Rattle.xdp_world.specs.Carries.{delivered_list}
use Rattle.xdp_world.specs.Stands.{kept_in}
use Rattle.honest_pair.specs.Shows.{calls_while}
use Rattle.honest_pair.specs.declared.calling.Calling.TheVariants as calling
use Rattle.honest_pair.proofs.BackLemmas.{held_back, some_queue}
use Rattle.honest_pair.proofs.DeliveryLemmas.{carries_on, same_count}
use Rattle.honest_pair.proofs.pair.Pair.step_delivery.Goals as goal

pub returns : goal.returns
returns c =
    let old = c.args.self.now in
    let i = c.in_ok-step.ensures.ok in
    let n = length (kept_in old.world.turns.items 0) in
    carries_on old _ c.serve-answer.result c.want.result c.requires refl refl refl c.want.ensures.want c.serve-answer.ensures.after c.serve-answer.ensures.answer i
    (c.calls_while-self.ensures ∙ ap (calls_while calling.Delivery)
    (same_count c.deliveries-before.result.now c.deliveries.result.now n i.delivery (c.deliveries.ensures ∙ i.deliveries ∙ ap (λ l. l ++ delivered_list n i.delivery) (sym c.deliveries-before.ensures)))) c.step.ensures.shapes

pub serve-answer-requires : goal.serve-answer-requires
serve-answer-requires c =
    let old = c.args.self.now in
    let d = some_queue old in
    held_back c.want.result _ _ (c.want.ensures.within d) (old.back_frames d)
