use Rattle.std.proofs.Common.{◌≡◌, ℕ, ◌<◌, ◌≤◌, ◌^◌, length, refl, ◌∙◌, subst, arith}
use Rattle.xen_host.specs.Queues.{wired_to, wiring}
use Rattle.xen_host.specs.Sweeps.{HaveBegun, sweep_at}
use Rattle.xen_turns.specs.declared.state.State.{State}
use Rattle.xen_host.specs.Severals.{ahead_of}
use Rattle.xen_host.proofs.BeginsOnwardLemmas.{begins_onward}
use Rattle.xen_host.proofs.BegunTogetherLemmas.{begun_together}
use Rattle.xen_host.proofs.OnwardLemmas.{all_end}
use Rattle.xen_host.proofs.queue.Queue.begin_over.Goals as goal

pub returns-clause-gone : goal.returns-clause-gone
returns-clause-gone x c = λ g t.
    let r = c.begin_each in
    let q = c.args.self.now in
    let did = x.T.Tallies.did (wired_to q).program.shapes in
    let few : ahead_of g ≤ g.most = omega arith in
    let onward = begins_onward did (wiring q) g (all_end (wiring q) q.turns) q.apart t.group.small (subst (λ (s : State). s.tx_index < 2 ^ 32) t.group.state (c.are_words.ensures 0)) t.group.ring (omega (arith, few, t.group.few)) in
    let sixteen : length q.several.lanes ≡ 16 = omega arith in
    begun_together did q _ c.args.counters.now r.new.counters c.args.host.now r.new.host g c.requires.phase r.ensures.phase refl refl r.ensures.held sixteen c.requires.none c.requires.taken (r.ensures.taken ∙ c.requires.ahead) onward
    (subst (λ (n : ℕ). HaveBegun did (wiring q) q.engine.state q.several.shown n r.new.self.count (sweep_at (record q.several { rx_index = q.engine.state.rx_index }) 0 c.args.counters.now c.args.host.now) (sweep_at r.new.self 0 r.new.counters r.new.host)) c.requires.ahead r.ensures.begun) t
