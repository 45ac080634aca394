use Rattle.std.proofs.Common.{rules, ◌≡◌, ◌≤◌, ◌-◌, ◌/◌, drop, refl, sym, ap, ◌∙◌, arith}
use Rattle.xen_steps.specs.Steps.{bind}
use Rattle.xdp_program.specs.Tallies.{Went}
use Rattle.xen_host.specs.Asks as ask
use Rattle.xen_host.proofs.HostLedLemmas.{asks_one}
use Rattle.xen_host.proofs.RanLedLemmas.{ran_from_same, ran_none}
use Rattle.xen_steps.specs.Pages.{copy_words, covered}
use Rattle.xen_steps.specs.Places.{page_word}
use Rattle.xen_turns.specs.Tree.{after_copy, copy}
use Rattle.xen_host.proofs.AskLemmas.{asks_words, page_short}
use Rattle.xen_host.specs.EngineAt.{engine_at}
use Rattle.xen_host.proofs.EarlyLemmas.{early_as}
use Rattle.xen_turns.specs.declared.state.State.{State}
use Rattle.xen_host.proofs.engine.Engine.begin_page.Goals as goal

pub returns-then-fragment-eq0-clause-led : goal.returns-then-fragment-eq0-clause-led
returns-then-fragment-eq0-clause-led g c =
    let q = engine_at (g.W.Wires.wiring c.args.wires.now) (g.R.Room.held c.args.packet.now) c.args.self.now in
    let w = q.wires in
    let b = q.work in
    let f = c.args.fragment in
    let none : covered f ≡ 0 = search rules in
    let same = ap (λ n. bind (bind (copy_words f c.args.frame (f.offset / 4) n b.packet) (copy w (drop c.args.i b.fragments))) (after_copy w q.state b.chain)) none in
    ran_from_same _ _ _ _ _ _ _ _ _ (sym same) c.after_empty.ensures.led

pub returns-clause-led : goal.returns-clause-led
returns-clause-led g c =
    let q = engine_at (g.W.Wires.wiring c.args.wires.now) (g.R.Room.held c.args.packet.now) c.args.self.now in
    let w = q.wires in
    let b = q.work in
    let f = c.args.fragment in
    let frame = c.args.frame in
    let e = c.covered_words-words.ensures in
    let r = c.covered_words-words.result in
    let n : covered f ≡ r.end - r.start = omega (arith, e.count) in
    let some : 1 ≤ covered f = search rules in
    let at = page_word frame (f.offset / 4) in
    let left = bind (bind (copy_words f frame (f.offset / 4) (covered f) b.packet) (copy w (drop c.args.i b.fragments))) (after_copy w q.state b.chain) in
    let is = ap (λ k. ask.Read (page_word frame k) (r.end - r.start)) e.start ∙ ap (λ m. ask.Read at m) (sym n) in
    ran_none _ _ _ _ _ (Went (g.T.Tallies.did q.wires.program.now.shapes) c.args.counters.now c.args.counters.now) _ _ refl (asks_one _ _ _ _ _ left _ _ _ (ask.Read at (covered f)) _ c.read.ensures is refl (some, page_short f c.requires.in_page) refl
    (record { is_rest = refl; waits = (refl, asks_words f frame (f.offset / 4) (covered f) b.packet (copy w (drop c.args.i b.fragments)) (after_copy w q.state b.chain)); is_here = refl; told = tt }) refl
    (record { within = c.requires.copies.within; in_page = c.requires.copies.in_page; here = c.requires.in_page; some = some; room = c.requires.more }))

pub returns-then-fragment-eq0-clause-early : goal.returns-then-fragment-eq0-clause-early
returns-then-fragment-eq0-clause-early g c =
    let q = engine_at (g.W.Wires.wiring c.args.wires.now) (g.R.Room.held c.args.packet.now) c.args.self.now in
    let w = q.wires in
    let b = q.work in
    let f = c.args.fragment in
    let none : covered f ≡ 0 = search rules in
    early_as _ _ _ _ (λ (t : State). sym (ap (λ n. bind (bind (copy_words f c.args.frame (f.offset / 4) n b.packet) (copy w (drop c.args.i b.fragments))) (after_copy w t b.chain)) none)) c.after_empty.ensures.early

pub returns-clause-early : goal.returns-clause-early
returns-clause-early g c = λ early. record { state = refl; left = λ x. refl }
