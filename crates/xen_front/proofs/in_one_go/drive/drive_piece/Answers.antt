use Rattle.std.proofs.Common.{List, ℕ, sym, subst}
use Rattle.xen_steps.specs.Drive.{Any, Bounded, Driven, LedBy, IsPageWant}
use Rattle.xen_steps.proofs.DriveLemmas.{bounded_wider}
use Rattle.xen_front.specs.Fronts.{rest}
use Rattle.xen_front.specs.Rest.{rest_at}
use Rattle.xen_front.specs.declared.by_event.phase.Phase.{Phase}
use Rattle.xen_front.proofs.ShortLemmas.{page_want_of_more, short_opened}
use Rattle.xen_front.proofs.StraightLemmas.{short_gone}
use Rattle.xen_front.proofs.in_one_go.drive.drive_piece.Goals as goal

pub past_piece-front-requires-clause-bounded : goal.past_piece-front-requires-clause-bounded
past_piece-front-requires-clause-bounded g c =
    let f = c.args.front.now in
    let w = f.wiring in
    let frames = g.B.Bus.size c.args.bus.now in
    let own = bounded_wider (IsPageWant w.frames) (IsPageWant frames) (page_want_of_more w.frames frames c.requires) Any (rest f) 17000 (short_opened w f.state f.sent f.received f.phase f.short) in
    let phased = subst (λ (x : Phase). Bounded (IsPageWant frames) Any (rest_at w f.state f.sent f.received x) 17000) (sym c.replace-phase.ensures.value) own in (
      f.state,
      f.received,
      subst (λ (p : List ℕ). Bounded (IsPageWant frames) Any (rest_at w f.state p f.received c.replace-phase.result) 17000) (sym c.bytes.ensures.same) phased,
    )

pub invariant_of-front-clause-short : goal.invariant_of-front-clause-short
invariant_of-front-clause-short g c =
    let f = c.args.front.now in
    let x = c.past_piece-front.result in
    let d = c.past_piece-front.ensures.driven f.state f.received in
    let phased = subst (λ (y : Phase). LedBy (rest_at f.wiring f.state c.bytes.result.now f.received y) d.0 (rest_at f.wiring f.state c.bytes.result.now f.received x)) c.replace-phase.ensures.value d.1.gone in
    short_gone f.wiring f.state f.sent f.received f.phase x d.0 f.short
    (subst (λ (p : List ℕ). LedBy (rest_at f.wiring f.state p f.received f.phase) d.0 (rest_at f.wiring f.state p f.received x)) c.bytes.ensures.same phased)

pub returns-clause-driven : goal.returns-clause-driven
returns-clause-driven g c =
    let log = g.B.Bus.log in
    let gives = g.B.Bus.access_gives in
    let f = c.args.front.now in
    let x = c.past_piece-front.result in
    let d = c.past_piece-front.ensures.driven f.state f.received in
    let old = c.args.bus.now in
    let new = c.past_piece-front.new.bus in
    let phased = subst (λ (y : Phase). Driven log gives (rest_at f.wiring f.state c.bytes.result.now f.received y) (rest_at f.wiring f.state c.bytes.result.now f.received x) old new d.0) c.replace-phase.ensures.value d.1 in
    (d.0, subst (λ (p : List ℕ). Driven log gives (rest_at f.wiring f.state p f.received f.phase) (rest_at f.wiring f.state p f.received x) old new d.0) c.bytes.ensures.same phased)
