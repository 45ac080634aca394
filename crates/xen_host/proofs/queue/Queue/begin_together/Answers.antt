use Rattle.xen_host.specs.LentWords.{lent_words}
use Rattle.xen_host.specs.Queues.{wiring}
use Rattle.xen_host.specs.Severals.{gone_by}
use Rattle.xen_host.proofs.SeveralLemmas.{only_gone, settled}
use Rattle.xen_host.proofs.queue.Queue.begin_together.Goals as goal

pub returns-then-said-eq0-clause-stepped : goal.returns-then-said-eq0-clause-stepped
returns-then-said-eq0-clause-stepped x c = λ g t.
    let old = c.args.self.now in
    let r = c.say_begun-said in
    let d = r.ensures.gone g t in
    let g' = gone_by old.several.phase (wiring old) g (lent_words r.new.words) d.dids in
    settled old r.new.self _ (lent_words c.args.words.now) (lent_words r.new.words) c.args.ops.now r.new.ops _ c.args.results.now _ r.result _ g r.ensures.wires c.settle.ensures.wires c.settle.ensures.stages d (c.settle.ensures.settled g' d.together)

pub returns-else-said-eq0-clause-stepped : goal.returns-else-said-eq0-clause-stepped
returns-else-said-eq0-clause-stepped x c = λ g t.
    let r = c.say_begun-said in
    only_gone c.args.self.now r.new.self (lent_words c.args.words.now) (lent_words r.new.words) c.args.ops.now r.new.ops c.args.results.now r.result g r.ensures.wires (r.ensures.gone g t)
