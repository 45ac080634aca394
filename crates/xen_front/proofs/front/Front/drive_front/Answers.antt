use Rattle.std.proofs.Common.{◌++◌, ◌≤◌, ℕ, refl, sym, ap, subst, ◌∙◌}
use Rattle.xen_steps.specs.Drive.{Any, IsPageWant}
use Rattle.xen_steps.proofs.DriveLemmas.{bounded_wider, driven_append, runs_of_gone}
use Rattle.xen_front.proofs.ShortLemmas.{page_want_of_more, short_opened}
use Rattle.xen_front.specs.Fronts.{rest, state_of}
use Rattle.xen_buffers.specs.declared.wiring.FrontWiring.{FrontWiring}
use Rattle.xen_front.proofs.front.Front.drive_front.Goals as goal

pub drive_events-requires : goal.drive_events-requires
drive_events-requires g c =
    let p = c.drive_pieces.ensures in
    let f = c.drive_pieces.new.front in
    let w = f.wiring in
    let frames = g.B.Bus.size c.drive_pieces.new.bus in
    let fits = subst (λ (n : ℕ). n ≤ frames) (sym (ap (λ (v : FrontWiring). v.frames) p.same)) (subst (λ (n : ℕ). c.args.self.now.wiring.frames ≤ n) (sym p.size) c.requires) in
    bounded_wider (IsPageWant w.frames) (IsPageWant frames) (page_want_of_more w.frames frames fits) Any (rest f) 17000
    (short_opened w f.state f.sent f.received f.phase f.short)

pub returns : goal.returns
returns g c =
    let f = c.args.self.now in
    let p = c.drive_pieces.ensures in
    let d = c.drive_events.ensures in
    let o = c.received.follows.holds-at-none in
    let n = c.received.follows.lender-at-none in
    let t = p.driven.0 ++ d.driven.0 in
    let whole = driven_append g.B.Bus.log g.B.Bus.access_gives (rest f) (rest c.drive_pieces.new.front) (rest c.drive_events.new.front)
    c.args.bus.now c.drive_pieces.new.bus c.drive_events.new.bus p.driven.0 d.driven.0 p.driven.1 d.driven.1 in (
      (
        refl,
        λ v. tt,
        record {
          trace = t;
          given = o.given;
          run = runs_of_gone (rest f) (rest c.drive_events.new.front) t (state_of n, o.given) whole.gone o.over;
          performed = whole.performed;
          shows = o.shows;
          ready = o.ready;
          same = o.same ∙ d.same ∙ p.same;
        },
      ),
      record { size = d.size ∙ p.size; over = tt },
    )
