use Rattle.xen_drive_tests.proofs.tests.pages.turn_over_pages.Goals as goal

pub invariant_of-queue-in_err-told_by : goal.invariant_of-queue-in_err-told_by
invariant_of-queue-in_err-told_by c =
    let q = c.drive-op.new.queue in
    record { fits = q.fits; wired = q.wired; turns = q.turns; seated = q.seated; left = q.left }

pub invariant_of-queue-in_err-seen : goal.invariant_of-queue-in_err-seen
invariant_of-queue-in_err-seen c =
    let q = c.drive-op.new.queue in
    record { fits = q.fits; wired = q.wired; turns = q.turns; seated = q.seated; left = q.left }

pub invariant_of-queue-in-Ok : goal.invariant_of-queue-in-Ok
invariant_of-queue-in-Ok c =
    let q = c.drive-op.new.queue in
    record { fits = q.fits; wired = q.wired; turns = q.turns; seated = q.seated; left = q.left }

pub invariant_of-queue-2 : goal.invariant_of-queue-2
invariant_of-queue-2 c =
    let q = c.drive-op.new.queue in
    record { fits = q.fits; wired = q.wired; turns = q.turns; seated = q.seated; left = q.left }
