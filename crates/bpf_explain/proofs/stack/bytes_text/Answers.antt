use Rattle.std.proofs.Common.{◌+◌, ◌<◌, append_assoc, arith}
use Rattle.bpf_note.specs.Parts.{facts}
use Rattle.bpf_explain.proofs.ByteLemmas.{bytes_more}
use Rattle.bpf_explain.proofs.stack.bytes_text.Goals as goal

pub loop-byte-preserved : goal.loop-byte-preserved
loop-byte-preserved c =
    let a = c.args in
    let byte = c.loop-byte.byte in
    let inside : byte < a.place + 8 = omega (arith, c.loop-byte-test.true) in
    let more = bytes_more (facts a.note.now) byte (a.place + 8) inside in
    rw (c.in_ok-push_str.ensures.bytes, c.byte_text.ensures, c.is_set.ensures, append_assoc, ← more) c.loop-byte.invariant
