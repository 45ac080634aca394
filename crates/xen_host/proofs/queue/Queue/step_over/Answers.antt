use Rattle.std.proofs.Common.{ap, refl, ◌∙◌}
use Rattle.xen_host.specs.Queues.{wired_to, wiring}
use Rattle.xen_host.specs.declared.several.Several.{Several}
use Rattle.xen_host.proofs.OnwardLemmas.{goes_onward}
use Rattle.xen_host.proofs.TogetherLemmas.{stepped_together}
use Rattle.xen_host.proofs.queue.Queue.step_over.Goals as goal

pub returns-clause-gone : goal.returns-clause-gone
returns-clause-gone x c = λ g t.
    let r = c.step_each in
    let same = r.ensures.same in
    let q = c.args.self.now in
    let did = x.T.Tallies.did (wired_to q).program.shapes in
    stepped_together did q _ c.args.counters.now r.new.counters c.args.host.now r.new.host _ r.ensures.stepped.0 g c.requires.phase (ap (λ (v : Several). v.phase) same ∙ c.requires.phase) refl refl (ap (λ (v : Several). v.count) same) c.requires.none r.ensures.stepped.1
    (goes_onward did (wiring q) g q.turns q.apart) r.ensures.stepped.2 t
