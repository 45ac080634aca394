use Rattle.std.proofs.Common.{◌+◌, drop, refl, sym, ap, ◌∙◌}
use Rattle.std.specs.Prelude.{Option, Some}
use Rattle.xen_steps.specs.Steps.{bind}
use Rattle.xen_host.specs.Asks as ask
use Rattle.xen_host.proofs.HostLedLemmas.{asked_from, asks_one}
use Rattle.xen_page.specs.Table.{entry_place}
use Rattle.xen_page.specs.declared.place.Place.{Place}
use Rattle.xen_page.specs.declared.entry.Rights.TheVariants.{ReadOnly}
use Rattle.xen_rx_fill.specs.Entries.{entry_at}
use Rattle.xen_turns.specs.Rest.{fragment_at}
use Rattle.xen_turns.specs.Tree.{after_copy, copy, entered}
use Rattle.xen_host.specs.EngineAt.{engine_at}
use Rattle.xen_host.proofs.EarlyLemmas.{late_early}
use Rattle.xen_host.specs.Early.{at_rx}
use Rattle.xen_host.proofs.engine.Engine.read_entry_of.Goals as goal

pub returns-in-None-clause-led : goal.returns-in-None-clause-led
returns-in-None-clause-led g c =
    λ packet copies.
    let q = engine_at (g.W.Wires.wiring c.args.wires.now) packet c.args.self.now in
    let w = q.wires in
    let b = q.work in
    let f = fragment_at b.fragments c.args.i in
    let there = sym (ap (entry_place w.vif.table.now) c.requires.its) ∙ sym c.place.ensures ∙ c.in-None.is in
    let same = ap (λ (o : Option Place). bind (bind (entry_at w.vif ReadOnly o) (entered f (copy w (drop (c.args.i + 1) b.fragments)) b.packet)) (after_copy w q.state b.chain)) there in
    asked_from _ _ _ _ _ _ _ _ _ (sym same) (c.refuse.ensures.led q.work.packet)

pub returns-in-Some-clause-led : goal.returns-in-Some-clause-led
returns-in-Some-clause-led g c =
    λ packet copies.
    let q = engine_at (g.W.Wires.wiring c.args.wires.now) packet c.args.self.now in
    let w = q.wires in
    let b = q.work in
    let at = c.in-Some.at in
    let f = fragment_at b.fragments c.args.i in
    let there = sym (ap (entry_place w.vif.table.now) c.requires.its) ∙ sym c.place.ensures ∙ c.in-Some.is in
    let same = ap (λ (o : Option Place). bind (bind (entry_at w.vif ReadOnly o) (entered f (copy w (drop (c.args.i + 1) b.fragments)) b.packet)) (after_copy w q.state b.chain)) there in
    let left = bind (bind (entry_at w.vif ReadOnly (Some at)) (entered f (copy w (drop (c.args.i + 1) b.fragments)) b.packet)) (after_copy w q.state b.chain) in
    asks_one _ _ _ _ _ left _ _ _ (ask.Entry at c.args.gref ReadOnly) _ c.read_entry.ensures refl refl tt same (record { is_rest = refl; waits = (refl, (refl, λ a. (refl, λ d. tt))); is_here = refl; told = (sym c.place.ensures ∙ c.in-Some.is, refl) }) refl (c.requires.few, c.requires.within, copies)

pub returns-in-None-clause-early : goal.returns-in-None-clause-early
returns-in-None-clause-early g c = λ packet. late_early _ _ _ c.refuse.ensures.late

pub returns-in-Some-clause-early : goal.returns-in-Some-clause-early
returns-in-Some-clause-early g c = λ packet early.
    let q = engine_at (g.W.Wires.wiring c.args.wires.now) packet c.args.self.now in
    let w = q.wires in
    let b = q.work in
    let f = fragment_at b.fragments c.args.i in
    let there = sym (ap (entry_place w.vif.table.now) c.requires.its) ∙ sym c.place.ensures ∙ c.in-Some.is in
    record {
      state = refl;
      left = λ x. sym (ap (λ (o : Option Place). bind (bind (entry_at w.vif ReadOnly o) (entered f (copy w (drop (c.args.i + 1) b.fragments)) b.packet)) (after_copy w (at_rx x q.state) b.chain)) there);
    }
