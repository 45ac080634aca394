use Rattle.std.proofs.Common.{◌≡◌, arith, refl}
use Rattle.bpf_note.specs.declared.replacement.Replacement.{Replacement}
use Rattle.bpf_note.specs.declared.replacement.Replacement.TheVariants.{Forget, Resolve}
use Rattle.bpf_note.specs.declared.val.Val.TheVariants.{Unset}
use Rattle.bpf_note.specs.Slots.{replaced}
use Rattle.bpf_note.specs.declared.val.Val.{Val}
use Rattle.bpf_note.proofs.PlaceLemmas.{filled_from, all_joined}
use Rattle.bpf_note.proofs.slots.replaced_registers.Goals as goal

pub loop-i-preserved : goal.loop-i-preserved
loop-i-preserved c =
    filled_from c.loop-i.changed c.args.registers.now c.args.registers.now (λ (x y : Val). replaced c.args.change x) Unset _ c.replaced_value.result c.loop-i.i 11 c.loop-i.invariant.0 c.told-registers c.told-registers (omega arith) c.loop-i.invariant.1 c.replaced_value.ensures

replaced_unset : (change : Replacement) → replaced change Unset ≡ Unset
replaced_unset (Forget id) = refl
replaced_unset (Resolve id known) = refl

pub returns : goal.returns
returns c = all_joined c.loop-i.changed c.args.registers.now c.args.registers.now (λ (x y : Val). replaced c.args.change x) Unset 11 c.loop-i.invariant.0 c.told-registers c.told-registers (replaced_unset c.args.change) (λ k lt. c.loop-i.invariant.1 k (omega arith))
