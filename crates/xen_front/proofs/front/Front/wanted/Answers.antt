use Rattle.std.proofs.Common.{◌≡◌, List, ℕ, ap, refl, sym, subst, ◌∙◌}
use Rattle.xen_steps.specs.Drive.{Any, IsPageWant}
use Rattle.xen_steps.specs.Steps.{want_of}
use Rattle.xen_steps.specs.declared.want.Want.{Want}
use Rattle.xen_steps.proofs.DriveLemmas.{bounded_want}
use Rattle.xen_front.specs.Fronts.{rest}
use Rattle.xen_front.specs.Rest.{rest_at}
use Rattle.xen_front.proofs.ShortLemmas.{short_opened}
use Rattle.xen_front.proofs.front.Front.wanted.Goals as goal

pub returns : goal.returns
returns c =
    let f = c.args.self.now in
    let w = f.wiring in
    let is : c.phase_want.result ≡ want_of (rest f) = c.phase_want.ensures f.received ∙ ap (λ (p : List ℕ). want_of (rest_at w f.state p f.received f.phase)) c.bytes.ensures.same in
    record {
      want = is;
      within = λ asks. subst (λ (v : Want). IsPageWant w.frames v) (sym is)
          (bounded_want (IsPageWant w.frames) Any (rest f) 17000 (short_opened w f.state f.sent f.received f.phase f.short) (λ over. asks (is ∙ over)));
      rest = refl;
      state = refl;
      wiring = refl;
    }
