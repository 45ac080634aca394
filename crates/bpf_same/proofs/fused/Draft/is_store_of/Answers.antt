use Rattle.std.proofs.Common.{rules, ◌≡◌, Some, false}
use Rattle.std.specs.Prelude.{slice_get}
use Rattle.bpf_insn.specs.Register.{number}
use Rattle.bpf_insn.specs.declared.insn.Insn.TheVariants.{AddCounter}
use Rattle.bpf_same.specs.Plans.{plan_of}
use Rattle.bpf_same.specs.LinearForms.{bit}
use Rattle.bpf_same.proofs.InsideLemmas.{store_inside}
use Rattle.bpf_same.proofs.fused.Draft.is_store_of.Goals as goal

pub returns-then-is_ahead : goal.returns-then-is_ahead
returns-then-is_ahead c = λ t.
    let count = c.args.count in
    let new : slice_get c.args.self.now.new.now c.args.at ≡ Some (AddCounter false count.base c.args.src count.off) = search rules in
    let alike : bit count.alike (number count.base) ≡ 1 = search rules in
    let ahead : bit count.ahead (number c.args.src) ≡ 1 = search rules in
    store_inside (plan_of c.args.self.now) count c.args.at c.args.src c.requires.old new alike ahead (c.allows_slot.ensures t)
