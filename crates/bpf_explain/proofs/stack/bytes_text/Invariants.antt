use Rattle.std.proofs.Common.{◌≡◌, ◌+◌, ◌-◌, ◌++◌, string_bytes}
use Rattle.bpf_note.specs.Parts.{facts}
use Rattle.bpf_explain.specs.Stack.{bytes_text}
use Rattle.bpf_explain.proofs.stack.bytes_text.Given as goal

abbrev pub invariant-loop-byte : goal.invariant-loop-byte
invariant-loop-byte l = string_bytes l.text ++ bytes_text (facts l.note) l.byte (l.place + 8 - l.byte) ≡ bytes_text (facts l.note) l.place 8
