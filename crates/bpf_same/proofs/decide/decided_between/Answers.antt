use Rattle.std.proofs.Common.{rules, ◌≡◌, true}
use Rattle.bpf_note.specs.Parts.{facts}
use Rattle.bpf_same.proofs.DecideLemmas.{room_decides_if}
use Rattle.bpf_same.proofs.decide.decided_between.Goals as goal

pub returns : goal.returns
returns c = λ off.
    let at_end : c.is_packet_end.result ≡ true = search rules in
    let inside : c.is_in_packet.result ≡ true = search rules in
    room_decides_if (facts c.args.note.now) c.args.relation.now c.args.cond c.args.dst c.in-Register.end c.args.src off c.between_ordered.result c.in-Register.is (c.is_packet_end.ensures at_end) (c.is_in_packet.ensures inside) c.between_ordered.ensures
