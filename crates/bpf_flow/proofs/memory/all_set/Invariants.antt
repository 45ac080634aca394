use Rattle.std.proofs.Common.{◌≡◌, ◌+◌, ◌-◌}
use Rattle.bpf_note.specs.Parts.{facts}
use Rattle.bpf_flow.specs.Memory.{all_set}
use Rattle.bpf_flow.proofs.memory.all_set.Given as goal

abbrev pub invariant-loop-byte : goal.invariant-loop-byte
invariant-loop-byte l = all_set (facts l.note) l.byte (l.place + l.bytes - l.byte) ≡ all_set (facts l.note) l.place l.bytes
