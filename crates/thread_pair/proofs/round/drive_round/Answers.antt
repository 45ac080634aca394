use Rattle.std.proofs.Common.{◌∙◌, List, ℕ, Some, ap, sym}
use Rattle.thread_pair.proofs.RoundLemmas.{answered_round, silent_round}
use Rattle.thread_pair.proofs.round.drive_round.Goals as goal

pub returns-then-not-write-clause-over : goal.returns-then-not-write-clause-over
returns-then-not-write-clause-over g c =
    let n = c.count-next.ensures in
    silent_round g.B.Bus.log g.B.Bus.access_gives c.args.shared.now.host c.args.queue.now _ c.args.row.now _ _ _ c.args.bus.now _ c.args.seat.now.ops _ _ c.drive_turn-turn.follows.holds-at-none n.counted n.next c.slots_of-slots.ensures (c.write.ensures.none c.if-not-write.true)

pub returns-clause-over : goal.returns-clause-over
returns-clause-over g c =
    let n = c.count-next.ensures in
    answered_round g.B.Bus.log g.B.Bus.access_gives c.args.shared.now.host c.args.queue.now _ c.deliver-delivery.new.self c.args.row.now _ c.note.new.self _ _ c.args.bus.now _ c.deliver-delivery.new.bus c.args.seat.now.ops _ _ _ _ c.drive_turn-turn.follows.holds-at-none n.counted n.next c.slots_of-slots.ensures (c.write.ensures.written c.if-not-write.false ∙ ap (λ (b : List ℕ). Some b) (sym c.bytes.ensures)) c.deliver-delivery.ensures.delivered c.note.ensures
