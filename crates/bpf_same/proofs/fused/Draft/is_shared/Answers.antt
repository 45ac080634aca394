use Rattle.std.proofs.Common.{rules, ◌≡◌, Some}
use Rattle.std.specs.Prelude.{slice_get}
use Rattle.bpf_same.specs.Plans.{plan_of}
use Rattle.bpf_same.proofs.TogetherLemmas.{shared}
use Rattle.bpf_same.proofs.fused.Draft.is_shared.Goals as goal

pub returns-then-is_same_insn : goal.returns-then-is_same_insn
returns-then-is_same_insn c = λ t.
    let b = c.is_taken.ensures t in
    let old : slice_get c.args.self.now.old.now c.args.at ≡ Some c.in-Some-Some.new = search rules in
    let new : slice_get c.args.self.now.new.now c.args.at ≡ Some c.in-Some-Some.new = search rules in
    shared (plan_of c.args.self.now) c.args.at c.in-Some-Some.new old new b.0 b.1
