use Rattle.std.proofs.Common.{sym, ◌∙◌}
use Rattle.bpf_same.proofs.range.in_room.Goals as goal

pub by_room-requires-clause-room : goal.by_room-requires-clause-room
by_room-requires-clause-room c = λ f g h. h.rooms c.args.number c.in-Some.room c.requires.number (sym c.room.ensures ∙ c.in-Some.is)
