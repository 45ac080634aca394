use Rattle.std.proofs.Common.{arith, refl}
use Rattle.bpf_note.specs.Parts.{no_bytes}
use Rattle.bpf_note.specs.declared.slot.Slot.{Slot}
use Rattle.bpf_note.proofs.PlaceLemmas.{changed_from, all_copied}
use Rattle.bpf_note.proofs.slots.copy_slots.Goals as goal

pub loop-i-preserved : goal.loop-i-preserved
loop-i-preserved c =
    changed_from c.loop-i.to c.args.to.now c.args.from.now (λ (x y : Slot). y) no_bytes _ _ c.loop-i.i 64 c.loop-i.invariant.0 c.told-to c.told-from (omega arith) c.loop-i.invariant.1 c.loop-i.invariant.2 refl

pub returns : goal.returns
returns c = all_copied c.loop-i.to c.args.from.now no_bytes 64 c.loop-i.invariant.0 c.told-from (λ k lt. c.loop-i.invariant.1 k (omega arith))
