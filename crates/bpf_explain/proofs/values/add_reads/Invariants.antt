use Rattle.std.proofs.Common.{◌≡◌, ◌++◌, drop, map, string_bytes}
use Rattle.bpf_note.specs.Parts.{facts}
use Rattle.bpf_explain.specs.Values.{reads_text}
use Rattle.bpf_explain.proofs.values.add_reads.Given as goal

abbrev pub invariant-loop-register : goal.invariant-loop-register
invariant-loop-register l =
    string_bytes l.text ++ reads_text (map string_bytes l.names) l.insn (facts l.note) (drop l.register-index l.registers)
    ≡ string_bytes l.fn.text ++ reads_text (map string_bytes l.names) l.insn (facts l.note) l.registers
