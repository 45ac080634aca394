use Rattle.std.proofs.Common.{refl, sym, ◌∙◌, ap, ◌++◌, length}
use Rattle.xdp_world.specs.Carries.{waited_list}
use Rattle.xdp_world.specs.Stands.{delivered_in, kept_in}
use Rattle.honest_pair.specs.Shows.{awaits_after, calls_while, is_none}
use Rattle.honest_pair.specs.declared.calling.Calling.TheVariants as calling
use Rattle.honest_pair.proofs.BackLemmas.{held_back, some_queue}
use Rattle.honest_pair.proofs.WaitLemmas.{last_answer, looks_on}
use Rattle.honest_pair.proofs.pair.Pair.step_wait.Goals as goal

pub returns : goal.returns
returns c =
    let old = c.args.self.now in
    let pages = c.args.pages in
    let i = c.in_ok-step.ensures.ok in
    let n = length (kept_in old.world.turns.items 0) in
    let m = length (delivered_in old.world.deliveries.items 0) in
    let said = c.answer_at-answer.ensures
    ∙ last_answer c.waits-before.result.now c.waits.result.now n m i.awaited (c.waits.ensures ∙ i.waits ∙ ap (λ l. l ++ waited_list n m i.awaited) (sym c.waits-before.ensures)) in
    looks_on old _ c.serve-answer.result c.state-index.result.rx_index pages c.want.result c.requires refl refl refl (λ d. ap (λ s. s.rx_index) (c.state-index.ensures d)) c.want.ensures.want c.serve-answer.ensures.answer i
    (c.awaits.ensures ∙ (λ j. record (c.serve-answer.ensures.after j) { awaits = (c.awaits_after.ensures ∙ ap (awaits_after c.state-index.result.rx_index pages) said) j }))
    (c.calls_while-self.ensures ∙ ap (calls_while (calling.Wait pages)) (c.is_unanswered.ensures ∙ ap is_none said)) c.step.ensures.shapes

pub serve-answer-requires : goal.serve-answer-requires
serve-answer-requires c =
    let old = c.args.self.now in
    let d = some_queue old in
    held_back c.want.result _ _ (c.want.ensures.within d) (old.back_frames d)
