use Rattle.xen_steps.specs.Event.{Read, Write, Notify}
use Rattle.xen_steps.proofs.DriveLemmas.{occurs_notify, occurs_read, occurs_write}
use Rattle.honest_pair.proofs.memory.Memory.answer.Goals as goal

pub returns-in-Read-clause-occurs : goal.returns-in-Read-clause-occurs
returns-in-Read-clause-occurs c =
    let at = c.in-Read.field-0 in
    let word = c.serve.result in
    (Read at word, occurs_read c.args.want at word c.in-Read.is c.serve.type_inv)

pub returns-in-Write-clause-occurs : goal.returns-in-Write-clause-occurs
returns-in-Write-clause-occurs c =
    let at = c.in-Write.field-0 in
    let word = c.in-Write.field-1 in
    (Write at word, occurs_write c.args.want at word c.in-Write.is)

pub returns-in-Notify-clause-occurs : goal.returns-in-Notify-clause-occurs
returns-in-Notify-clause-occurs c = let port = c.in-Notify.field-0 in (Notify port, occurs_notify c.args.want port c.in-Notify.is)
