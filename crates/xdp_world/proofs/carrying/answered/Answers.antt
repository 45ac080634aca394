use Rattle.std.proofs.Common.{◌≡◌, refl, sym, ◌∙◌, ap}
use Rattle.xen_steps.specs.Event.{Read, Write, Notify}
use Rattle.xen_steps.specs.Steps.{Steps, next, want_of}
use Rattle.xen_steps.proofs.DriveLemmas.{occurs_notify, occurs_read, occurs_write}
use Rattle.xen_back.specs.ByEvent.{left_of}
use Rattle.xen_turns.specs.Deliveries.{Arrival}
use Rattle.xdp_world.proofs.carrying.answered.Goals as goal

pub returns-in-Read-clause-event : goal.returns-in-Read-clause-event
returns-in-Read-clause-event c =
    let w = want_of (left_of c.args.delivering.now) in
    let a = c.args.answer in
    let e : left_of c.feed.new.self ≡ next (left_of c.args.delivering.now) a = c.feed.ensures.left ∙ ap (λ (s : Steps Arrival). next s a) c.wanted.ensures.left in
    (Read c.in-Read.field-0 a, (a, occurs_read w c.in-Read.field-0 a (sym c.wanted.ensures.want ∙ c.in-Read.is) c.ranges.answer.fits, e), refl, refl)

pub returns-in-Write-clause-event : goal.returns-in-Write-clause-event
returns-in-Write-clause-event c =
    let w = want_of (left_of c.args.delivering.now) in
    let e : left_of c.feed-in-Write.new.self ≡ next (left_of c.args.delivering.now) 0 = c.feed-in-Write.ensures.left ∙ ap (λ (s : Steps Arrival). next s 0) c.wanted.ensures.left in
    (Write c.in-Write.field-0 c.in-Write.field-1, (0, occurs_write w c.in-Write.field-0 c.in-Write.field-1 (sym c.wanted.ensures.want ∙ c.in-Write.is), e), tt, refl)

pub returns-in-Notify-clause-event : goal.returns-in-Notify-clause-event
returns-in-Notify-clause-event c =
    let w = want_of (left_of c.args.delivering.now) in
    let e : left_of c.feed-in-Notify.new.self ≡ next (left_of c.args.delivering.now) 0 = c.feed-in-Notify.ensures.left ∙ ap (λ (s : Steps Arrival). next s 0) c.wanted.ensures.left in
    (Notify c.in-Notify.field-0, (0, occurs_notify w c.in-Notify.field-0 (sym c.wanted.ensures.want ∙ c.in-Notify.is), e), tt, refl)
