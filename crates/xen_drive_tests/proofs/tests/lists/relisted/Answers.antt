use Rattle.xen_drive_tests.proofs.tests.lists.relisted.Goals as goal

pub invariant_of-queue-in_err-listed : goal.invariant_of-queue-in_err-listed
invariant_of-queue-in_err-listed c =
    let q = c.rest_of_turn-without.new.queue in
    record { fits = q.fits; wired = q.wired; turns = q.turns; seated = q.seated; left = q.left }
