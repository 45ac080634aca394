use Rattle.std.proofs.Common.{◌≡◌, ◌-◌, ◌++◌, map, string_bytes}
use Rattle.bpf_note.specs.Parts.{facts}
use Rattle.bpf_explain.specs.Stack.{slots_text}
use Rattle.bpf_explain.proofs.stack.slots_text.Given as goal

abbrev pub invariant-loop-slot : goal.invariant-loop-slot
invariant-loop-slot l =
    string_bytes l.text ++ slots_text (map string_bytes l.names) (facts l.note) l.slot (l.end - l.slot) ≡ slots_text (map string_bytes l.names) (facts l.note) l.first (l.end - l.first)
