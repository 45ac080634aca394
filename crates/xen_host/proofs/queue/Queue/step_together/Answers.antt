use Rattle.xen_host.specs.LentWords.{lent_words}
use Rattle.xen_host.specs.Queues.{wiring}
use Rattle.xen_host.specs.Severals.{gone_by}
use Rattle.xen_host.proofs.SeveralLemmas.{settled}
use Rattle.xen_host.proofs.queue.Queue.step_together.Goals as goal

pub returns-clause-stepped : goal.returns-clause-stepped
returns-clause-stepped x c = λ g t.
    let old = c.args.self.now in
    let r = c.say_stepped-said in
    let d = r.ensures.gone g t in
    let g' = gone_by old.several.phase (wiring old) g (lent_words r.new.words) d.dids in
    settled old r.new.self _ (lent_words c.args.words.now) (lent_words r.new.words) c.args.ops.now r.new.ops _ c.args.results.now _ r.result _ g r.ensures.wires c.settle.ensures.wires c.settle.ensures.stages d (c.settle.ensures.settled g' d.together)
