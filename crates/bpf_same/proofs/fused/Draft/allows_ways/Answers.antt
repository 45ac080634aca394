use Rattle.std.proofs.Common.{rules, ◌≡◌}
use Rattle.bpf_flow.specs.Step.{target}
use Rattle.bpf_same.specs.Plans.{plan_of}
use Rattle.bpf_same.proofs.TogetherLemmas.{ja_out, branch_out}
use Rattle.bpf_same.proofs.fused.Draft.allows_ways.Goals as goal

pub returns-in-Ja : goal.returns-in-Ja
returns-in-Ja c = λ t.
    let j = c.in-Ja in
    let at : c.jump_target.result ≡ target c.args.at j.to = search rules in
    ja_out (plan_of c.args.self.now) c.args.before c.args.at c.args.insn j.wide_offset j.to c.jump_target.result j.is at (c.allows_target.ensures t)

pub returns-then-allows_slot : goal.returns-then-allows_slot
returns-then-allows_slot c = λ t.
    let j = c.in-Jump in
    let at : c.jump_target-then-allows_slot.result ≡ target c.args.at j.off = search rules in
    branch_out (plan_of c.args.self.now) c.args.before c.args.at c.args.insn j.cond j.wide j.dst j.src j.off c.jump_target-then-allows_slot.result j.is at (c.allows_slot.ensures c.if-allows_slot.true) (c.allows_target-then-allows_slot.ensures t)
