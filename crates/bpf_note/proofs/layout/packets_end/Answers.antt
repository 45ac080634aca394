use Rattle.bpf_note.proofs.RegionLemmas.{packet_reached}
use Rattle.bpf_note.proofs.layout.packets_end.Goals as goal

pub returns : goal.returns
returns c = packet_reached
