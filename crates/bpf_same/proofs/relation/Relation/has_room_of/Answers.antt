use Rattle.std.proofs.Common.{sym, ◌∙◌, arith}
use Rattle.bpf_same.proofs.relation.Relation.has_room_of.Goals as goal

pub returns-then-has : goal.returns-then-has
returns-then-has c = λ t f g h. c.has.ensures c.if-has.true f (h.rooms c.loop-number.number c.in-Some.room (omega (arith, c.loop-number-test.true)) (sym c.room.ensures ∙ c.in-Some.is))
