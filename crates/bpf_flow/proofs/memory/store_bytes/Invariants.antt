use Rattle.std.proofs.Common.{◌≡◌, ◌-◌}
use Rattle.bpf_note.specs.Parts.{facts}
use Rattle.bpf_flow.specs.Memory.{with_bytes}
use Rattle.bpf_flow.proofs.memory.store_bytes.Given as goal

abbrev pub invariant-loop-byte : goal.invariant-loop-byte
invariant-loop-byte l = facts l.note ≡ with_bytes (facts l.fn.note) l.place (l.byte - l.place)
