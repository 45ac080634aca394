use Rattle.std.proofs.Common.{◌≡◌, refl, sym, ◌∙◌, ap}
use Rattle.xen_steps.specs.Event.{Read, Write, Instr, Load, Add, Notify}
use Rattle.xen_back.specs.Queues.{rest}
use Rattle.xen_steps.specs.Steps.{Steps, next, want_of}
use Rattle.xen_turns.specs.Turned.{Ending}
use Rattle.xen_steps.proofs.DriveLemmas.{occurs_read, occurs_write, occurs_instr, occurs_load, occurs_add, occurs_notify}
use Rattle.xdp_world.proofs.event.event.Goals as goal

pub returns-in-Read-clause-event : goal.returns-in-Read-clause-event
returns-in-Read-clause-event c =
    let w = want_of (rest c.args.queue.now) in
    let a = c.args.answer in
    let e : rest c.feed.new.self ≡ next (rest c.args.queue.now) a = c.feed.ensures.rest ∙ ap (λ (s : Steps Ending). next s a) c.wanted.ensures.rest in
    (Read c.in-Read.field-0 a, (a, occurs_read w c.in-Read.field-0 a (sym c.wanted.ensures.want ∙ c.in-Read.is) c.ranges.answer.fits, e), refl, refl)

pub returns-in-Write-clause-event : goal.returns-in-Write-clause-event
returns-in-Write-clause-event c =
    let w = want_of (rest c.args.queue.now) in
    let e : rest c.feed-in-Write.new.self ≡ next (rest c.args.queue.now) 0 = c.feed-in-Write.ensures.rest ∙ ap (λ (s : Steps Ending). next s 0) c.wanted.ensures.rest in
    (Write c.in-Write.field-0 c.in-Write.field-1, (0, occurs_write w c.in-Write.field-0 c.in-Write.field-1 (sym c.wanted.ensures.want ∙ c.in-Write.is), e), tt, refl)

pub returns-in-Instr-clause-event : goal.returns-in-Instr-clause-event
returns-in-Instr-clause-event c =
    let w = want_of (rest c.args.queue.now) in
    let e : rest c.feed-in-Instr.new.self ≡ next (rest c.args.queue.now) 0 = c.feed-in-Instr.ensures.rest ∙ ap (λ (s : Steps Ending). next s 0) c.wanted.ensures.rest in
    (Instr, (0, occurs_instr w (sym c.wanted.ensures.want ∙ c.in-Instr.is), e), tt, refl)

pub returns-in-Load-clause-event : goal.returns-in-Load-clause-event
returns-in-Load-clause-event c =
    let w = want_of (rest c.args.queue.now) in
    let v = c.at-v.result in
    let e : rest c.feed-in-Load.new.self ≡ next (rest c.args.queue.now) v = c.feed-in-Load.ensures.rest ∙ ap (λ (s : Steps Ending). next s v) c.wanted.ensures.rest in
    (Load c.in-Load.m c.in-Load.k c.in-Load.j v, (v, occurs_load w c.in-Load.m c.in-Load.k c.in-Load.j v (sym c.wanted.ensures.want ∙ c.in-Load.is) c.at-v.type_inv, e), tt, refl)

pub returns-in-Add-clause-event : goal.returns-in-Add-clause-event
returns-in-Add-clause-event c =
    let w = want_of (rest c.args.queue.now) in
    let v = c.add-old.result in
    let e : rest c.feed-in-Add.new.self ≡ next (rest c.args.queue.now) v = c.feed-in-Add.ensures.rest ∙ ap (λ (s : Steps Ending). next s v) c.wanted.ensures.rest in
    (Add c.in-Add.m c.in-Add.k c.in-Add.j c.in-Add.delta v, (v, occurs_add w c.in-Add.m c.in-Add.k c.in-Add.j c.in-Add.delta v (sym c.wanted.ensures.want ∙ c.in-Add.is) c.add-old.type_inv, e), tt, refl)

pub returns-in-Notify-clause-event : goal.returns-in-Notify-clause-event
returns-in-Notify-clause-event c =
    let w = want_of (rest c.args.queue.now) in
    let e : rest c.feed-in-Notify.new.self ≡ next (rest c.args.queue.now) 0 = c.feed-in-Notify.ensures.rest ∙ ap (λ (s : Steps Ending). next s 0) c.wanted.ensures.rest in
    (Notify c.in-Notify.field-0, (0, occurs_notify w c.in-Notify.field-0 (sym c.wanted.ensures.want ∙ c.in-Notify.is), e), tt, refl)
