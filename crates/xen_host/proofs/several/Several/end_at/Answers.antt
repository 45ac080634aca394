use Rattle.std.proofs.Common.{◌≡◌, ◌<◌, ◌+◌, ◌∙◌, Some, ap, get_or, length, subst, sym, arith}
use Rattle.std.specs.Prelude.{set}
use Rattle.std.proofs.lemmas.Option.{slice_get-get_or}
use Rattle.xen_turns.specs.declared.turn.Kind.{Kind}
use Rattle.xen_host.specs.Ended.{halted_lane}
use Rattle.xen_host.specs.EngineAt.{work_at}
use Rattle.xen_host.specs.SeveralFits.{NumbersFit}
use Rattle.xen_host.specs.declared.lane.Lane.{Lane}
use Rattle.xen_host.specs.declared.several.Phase.{Phase}
use Rattle.xen_host.specs.declared.several.Several.{Several}
use Rattle.xen_host.proofs.HaltTogetherLemmas.{fits_answer, with_kind}
use Rattle.xen_host.proofs.TogetherLemmas.{fit_at, fit_set}
use Rattle.xen_host.proofs.several.Several.end_at.Goals as goal

pub returns-clause-fits : goal.returns-clause-fits
returns-clause-fits c =
    let v = c.args.self.now in
    let k = c.args.k in
    let inside : k < length v.lanes = omega (arith, c.requires.lane) in
    let x = get_or v.lanes k c.index-self-k.result in
    let there = slice_get-get_or v.lanes k c.index-self-k.result inside in
    let kind = c.kind_after-lane.result in
    let new : Several = record v { lanes = set v.lanes k (with_kind kind x); count = k + 1; after = record x.engine.state { rx_index = v.rx_index } } in
    record {
      lanes = fit_set v.lanes c.requires.fits.lanes k (with_kind kind x) (fits_answer x.engine.stage (work_at x.packet x.engine.work) (record x.engine.work.answer { kind = kind }) (fit_at v.lanes c.requires.fits.lanes k x there));
      numbers = subst (λ (p : Phase). NumbersFit p new) (sym c.requires.phase) (c.requires.held, omega (arith, c.requires.lane));
    }

pub returns-clause-ended : goal.returns-clause-ended
returns-clause-ended c = λ l e.
    let v = c.args.self.now in
    let k = c.args.k in
    let inside : k < length v.lanes = omega (arith, c.requires.lane) in
    let x = get_or v.lanes k c.index-self-k.result in
    let same : Some x ≡ Some l = sym (slice_get-get_or v.lanes k c.index-self-k.result inside) ∙ e in
    let is : x ≡ l = cc same in
    ap (λ (kind : Kind). record v { lanes = set v.lanes k (with_kind kind x); count = k + 1; after = record x.engine.state { rx_index = v.rx_index } }) c.kind_after-lane.ensures ∙
    ap (λ (y : Lane). record v { lanes = set v.lanes k (halted_lane y); count = k + 1; after = record y.engine.state { rx_index = v.rx_index } }) is
