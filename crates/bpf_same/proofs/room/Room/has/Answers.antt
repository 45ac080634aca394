use Rattle.std.proofs.Common.{refl, arith}
use Rattle.bpf_same.proofs.RoomLemmas.{lies_between, passed}
use Rattle.bpf_same.proofs.SilentLemmas.{false_true}
use Rattle.bpf_same.proofs.room.Room.has.Goals as goal

pub returns-then-self-form : goal.returns-then-self-form
returns-then-self-form c = λ t. false_true t

pub returns-then-length-le-LONGEST : goal.returns-then-length-le-LONGEST
returns-then-length-le-LONGEST c = λ t f room.
    lies_between f c.args.self c.args.form c.length-length.result _ c.if-self-form.false (omega arith) (omega arith) (omega arith) c.length-length.ensures (omega (arith, c.if-length-le-LONGEST.true)) refl (passed _ _ t) room

pub returns-else-length-le-LONGEST : goal.returns-else-length-le-LONGEST
returns-else-length-le-LONGEST c = λ t. absurd (omega (arith, passed _ _ t, c.if-length-le-LONGEST.false))
