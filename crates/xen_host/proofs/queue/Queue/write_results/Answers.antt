use Rattle.std.proofs.Common.{◌≡◌, ◌<◌, ◌∙◌, List, ℕ, ap, get_or, length, arith}
use Rattle.std.specs.Prelude.{set}
use Rattle.std.proofs.lemmas.Option.{slice_get-get_or}
use Rattle.xen_host.specs.Results.{result_of}
use Rattle.xen_host.specs.Severals.{result_in}
use Rattle.xen_host.specs.declared.turn_result.TurnResult.{TurnResult}
use Rattle.xen_host.proofs.SeveralLemmas.{results_next}
use Rattle.xen_host.proofs.queue.Queue.write_results.Goals as goal

pub loop-k-preserved : goal.loop-k-preserved
loop-k-preserved c =
    let lanes = c.args.self.now.several.lanes in
    let k = c.loop-k.k in
    let inside : k < length lanes = omega (arith, c.loop-k-test.true, c.requires.numbers) in
    let lane = get_or lanes k c.index-self-k.result in
    let there = slice_get-get_or lanes k c.index-self-k.result inside in
    let is : c.set.new.self ≡ result_in lane = c.set.ensures ∙ ap (λ (p : List ℕ). result_of lane.engine.work.answer.kind (length p) lane.engine.offload) c.bytes.ensures.same in
    let room : k < length c.args.results.now = omega (arith, c.loop-k-test.true, c.requires.numbers, c.requires.results) in
    ap (λ (x : TurnResult). set c.loop-k.results k x) is ∙ ap (λ (l : List TurnResult). set l k (result_in lane)) c.loop-k.invariant ∙ results_next lanes c.args.results.now k lane there room
