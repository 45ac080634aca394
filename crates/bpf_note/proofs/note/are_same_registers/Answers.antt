use Rattle.std.proofs.Common.{arith, refl}
use Rattle.bpf_note.specs.declared.val.Val.TheVariants.{Unset}
use Rattle.bpf_note.proofs.PlaceLemmas.{all_copied}
use Rattle.bpf_note.proofs.note.are_same_registers.Goals as goal

pub returns : goal.returns
returns c = (λ t. all_copied c.args.a.now c.args.b.now Unset 11 c.told-a c.told-b (let test = c.loop-i-test.false in λ k lt. c.loop-i.invariant k (omega arith)), λ e. refl)
