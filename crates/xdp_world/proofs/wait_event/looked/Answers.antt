use Rattle.std.proofs.Common.{refl, sym, ◌∙◌}
use Rattle.xen_steps.specs.Event.{Read, Write}
use Rattle.xen_steps.specs.Steps.{want_of}
use Rattle.xen_steps.proofs.DriveLemmas.{occurs_read, occurs_write}
use Rattle.xen_back.specs.WaitsByEvent.{left_of_wait}
use Rattle.xdp_world.proofs.wait_event.looked.Goals as goal

pub returns-in-Read-clause-event : goal.returns-in-Read-clause-event
returns-in-Read-clause-event c =
    let w = want_of (left_of_wait c.args.awaiting.now) in
    let a = c.args.answer in
    (Read c.in-Read.field-0 a, (a, occurs_read w c.in-Read.field-0 a (sym c.want.ensures.want ∙ c.in-Read.is) c.ranges.answer.fits, c.feed.ensures.left), refl, refl)

pub returns-in-Write-clause-event : goal.returns-in-Write-clause-event
returns-in-Write-clause-event c =
    let w = want_of (left_of_wait c.args.awaiting.now) in
    (Write c.in-Write.field-0 c.in-Write.field-1, (0, occurs_write w c.in-Write.field-0 c.in-Write.field-1 (sym c.want.ensures.want ∙ c.in-Write.is), c.feed-in-Write.ensures.left), tt, refl)
