use Rattle.xen_drive_tests.proofs.tests.seats.shared.Goals as goal

pub invariant_of-first-2 : goal.invariant_of-first-2
invariant_of-first-2 c =
    let q = c.whole_turn-of_first.new.queue in
    record { fits = q.fits; wired = q.wired; turns = q.turns; seated = q.seated; left = q.left }
