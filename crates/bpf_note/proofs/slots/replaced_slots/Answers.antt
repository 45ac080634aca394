use Rattle.std.proofs.Common.{arith, refl}
use Rattle.bpf_note.specs.Parts.{no_bytes}
use Rattle.bpf_note.specs.Slots.{replaced, slot_with}
use Rattle.bpf_note.specs.declared.slot.Slot.{Slot}
use Rattle.bpf_note.proofs.PlaceLemmas.{filled_from, all_joined}
use Rattle.bpf_note.proofs.slots.replaced_slots.Goals as goal

pub loop-i-preserved : goal.loop-i-preserved
loop-i-preserved c =
    filled_from c.loop-i.changed c.args.slots.now c.args.slots.now (λ (x y : Slot). slot_with (replaced c.args.change) x) no_bytes _ c.replaced_slot.result c.loop-i.i 64 c.loop-i.invariant.0 c.told-slots c.told-slots (omega arith) c.loop-i.invariant.1 c.replaced_slot.ensures

pub returns : goal.returns
returns c = all_joined c.loop-i.changed c.args.slots.now c.args.slots.now (λ (x y : Slot). slot_with (replaced c.args.change) x) no_bytes 64 c.loop-i.invariant.0 c.told-slots c.told-slots refl (λ k lt. c.loop-i.invariant.1 k (omega arith))
