use Rattle.std.proofs.Common.{rules, ◌≡◌, ◌+◌, ◌-◌, ◌&&◌, Bool, true, sym, ap, ◌∙◌, arith}
use Rattle.bpf_note.specs.Parts.{facts}
use Rattle.bpf_flow.specs.Memory.{all_set}
use Rattle.bpf_flow.proofs.StackLemmas.{all_set_step}
use Rattle.bpf_flow.proofs.memory.all_set.Goals as goal

pub loop-byte-preserved : goal.loop-byte-preserved
loop-byte-preserved c =
    let here : (facts c.args.note.now).set c.loop-byte.byte ≡ true = search rules in
    sym (all_set_step (facts c.args.note.now) c.loop-byte.byte (c.args.place + c.args.bytes) (omega arith)
    ∙ ap (λ (b : Bool). b && all_set (facts c.args.note.now) (c.loop-byte.byte + 1) (c.args.place + c.args.bytes - (c.loop-byte.byte + 1))) here)
    ∙ c.loop-byte.invariant
