use Rattle.std.proofs.Common.{[], ◌++◌, ◌≤◌, ℕ, refl, sym, ap, subst, ◌∙◌}
use Rattle.xen_steps.proofs.DriveLemmas.{driven_append, driven_none}
use Rattle.xen_front.specs.Fronts.{rest}
use Rattle.xen_front.proofs.in_one_go.drive.drive_pieces.Goals as goal

pub loop-piece-init : goal.loop-piece-init
loop-piece-init g c =
    record {
      size = refl;
      same = refl;
      driven = ([], driven_none g.B.Bus.log g.B.Bus.access_gives (rest c.args.front.now) c.args.bus.now);
    }

pub drive_piece-requires : goal.drive_piece-requires
drive_piece-requires g c =
    let i = c.loop-piece.invariant in
    subst (λ (n : ℕ). n ≤ g.B.Bus.size c.loop-piece.bus) (sym (ap (λ w. w.frames) i.same)) (subst (λ (n : ℕ). c.args.front.now.wiring.frames ≤ n) (sym i.size) c.requires)

pub loop-piece-preserved : goal.loop-piece-preserved
loop-piece-preserved g c =
    let i = c.loop-piece.invariant in
    let d = c.drive_piece.ensures in
    record {
      size = d.size ∙ i.size;
      same = d.same ∙ i.same;
      driven = (
        i.driven.0 ++ d.driven.0,
        driven_append g.B.Bus.log g.B.Bus.access_gives (rest c.args.front.now) (rest c.loop-piece.front) (rest c.drive_piece.new.front)
            c.args.bus.now c.loop-piece.bus c.drive_piece.new.bus i.driven.0 d.driven.0 i.driven.1 d.driven.1,
      );
    }
