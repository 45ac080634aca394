use Rattle.std.proofs.Common.{arith}
use Rattle.bpf_note.specs.Parts.{facts}
use Rattle.bpf_same.proofs.RangeLemmas.{packet_reads}
use Rattle.bpf_same.proofs.range.range_of.Goals as goal

pub returns-in-Pkt : goal.returns-in-Pkt
returns-in-Pkt c =
    packet_reads (facts c.args.note.now) c.args.value c.in-Pkt.id c.in-Pkt.off c.farthest.result _ _ c.in-Pkt.is c.farthest.ensures (omega (arith, c.from-in-Pkt.ensures)) (omega (arith, c.from-in-Pkt-2.ensures, c.from-in-Pkt-3.ensures))
