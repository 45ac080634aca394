use Rattle.std.proofs.Common.{sym, ◌∙◌}
use Rattle.xen_page.specs.declared.access.Access.TheVariants as access
use Rattle.xen_page.proofs.AccessLemmas.{performs_none, performs_one}
use Rattle.xen_steps.specs.Event.{Read, Write, Notify}
use Rattle.xen_steps.specs.Steps.{want_of}
use Rattle.xen_steps.proofs.DriveLemmas.{occurs_read, occurs_write, occurs_notify}
use Rattle.xen_front.specs.Fronts.{rest}
use Rattle.xen_front.proofs.in_one_go.drive.drive_event.Goals as goal

pub returns-in-Read-clause-event : goal.returns-in-Read-clause-event
returns-in-Read-clause-event g c =
    let w = want_of (rest c.args.front.now) in
    let is = sym c.requires.wanted ∙ c.in-Read.is in
    (Read c.in-Read.at c.read-word.result, (c.read-word.result, occurs_read w c.in-Read.at c.read-word.result is c.read-word.type_inv, c.feed.ensures.rest), performs_one g.B.Bus.log g.B.Bus.access_gives c.args.bus.now (access.Read c.in-Read.at c.read-word.result) c.read-word.new.self c.read-word.ensures.told c.read-word.ensures.given)

pub returns-in-Write-clause-event : goal.returns-in-Write-clause-event
returns-in-Write-clause-event g c =
    let w = want_of (rest c.args.front.now) in
    let is = sym c.requires.wanted ∙ c.in-Write.is in
    (Write c.in-Write.at c.in-Write.value, (0, occurs_write w c.in-Write.at c.in-Write.value is, c.feed-in-Write.ensures.rest), performs_one g.B.Bus.log g.B.Bus.access_gives c.args.bus.now (access.Write c.in-Write.at c.in-Write.value) c.write.new.self c.write.ensures.told c.write.ensures.given)

pub returns-in-Notify-clause-event : goal.returns-in-Notify-clause-event
returns-in-Notify-clause-event g c =
    let w = want_of (rest c.args.front.now) in
    let is = sym c.requires.wanted ∙ c.in-Notify.is in
    (Notify c.in-Notify.port, (0, occurs_notify w c.in-Notify.port is, c.feed-in-Notify.ensures.rest), performs_none g.B.Bus.log g.B.Bus.access_gives c.args.bus.now)
