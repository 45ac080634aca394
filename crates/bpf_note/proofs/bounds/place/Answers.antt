use Rattle.std.proofs.Common.{◌+◌, ◌-◌, ◌/◌, arith, None}
use Rattle.bpf_note.proofs.BoundLemmas.{place_inside, below_place, place_up_to}
use Rattle.bpf_note.proofs.bounds.place.Goals as goal

pub loop-low-init : goal.loop-low-init
loop-low-init c = let p = place_inside c.args.bounds.now c.args.id in (omega arith, p, omega arith)

pub loop-low-preserved-then-bounds-middle : goal.loop-low-preserved-then-bounds-middle
loop-low-preserved-then-bounds-middle c =
    let p = below_place 0 (c.loop-low.low + (c.loop-low.high - c.loop-low.low) / 2) c.args.id c.args.bounds.now (record { id = 0; top = 0; safe = None }) c.requires (omega arith) c.if-bounds-middle.true in
    (omega arith, c.loop-low.invariant.1, c.loop-low.invariant.2)

pub loop-low-preserved : goal.loop-low-preserved
loop-low-preserved c =
    let p = place_up_to (c.loop-low.low + (c.loop-low.high - c.loop-low.low) / 2) c.args.id c.args.bounds.now (record { id = 0; top = 0; safe = None }) (omega arith) (omega arith) in
    (c.loop-low.invariant.0, p, omega arith)
