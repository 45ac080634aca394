use Rattle.std.proofs.Common.{arith, refl}
use Rattle.bpf_note.specs.Parts.{no_bytes}
use Rattle.bpf_note.specs.Slots.{joined_slot}
use Rattle.bpf_note.proofs.PlaceLemmas.{changed_from, all_joined}
use Rattle.bpf_note.proofs.joins.join_stacks.Goals as goal

pub loop-i-preserved : goal.loop-i-preserved
loop-i-preserved c =
    changed_from c.loop-i.a c.args.a.now c.args.b.now joined_slot no_bytes _ c.join_slots.result c.loop-i.i 64 c.loop-i.invariant.0 c.told-a c.told-b (omega arith) c.loop-i.invariant.1 c.loop-i.invariant.2 c.join_slots.ensures

pub returns : goal.returns
returns c = all_joined c.loop-i.a c.args.a.now c.args.b.now joined_slot no_bytes 64 c.loop-i.invariant.0 c.told-a c.told-b refl (λ k lt. c.loop-i.invariant.1 k (omega arith))
