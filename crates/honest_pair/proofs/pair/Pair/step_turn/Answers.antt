use Rattle.std.proofs.Common.{refl, sym, ◌∙◌, ap, ◌++◌}
use Rattle.xdp_world.specs.Happens.{kept_list}
use Rattle.honest_pair.proofs.BackLemmas.{goes_on, held_back, idle_kept, some_queue}
use Rattle.honest_pair.proofs.pair.Pair.step_turn.Goals as goal

pub returns : goal.returns
returns c =
    let old = c.args.self.now in
    let i = c.in_ok-step.ensures.ok in
    goes_on old _ c.serve-answer.result c.want.result c.requires.asleep c.requires.calls refl refl refl c.want.ensures.want c.serve-answer.ensures.after c.serve-answer.ensures.answer i
    (c.is_idle-self.ensures ∙ idle_kept c.turns-before.result.now c.turns.result.now i.kept (c.turns.ensures ∙ i.turns ∙ ap (λ l. l ++ kept_list i.kept) (sym c.turns-before.ensures))) c.step.ensures.shapes

pub serve-answer-requires : goal.serve-answer-requires
serve-answer-requires c =
    let old = c.args.self.now in
    let d = some_queue old in
    held_back c.want.result _ _ (c.want.ensures.within d) (old.back_frames d)
