use Rattle.std.proofs.Common.{◌≡◌, subst}
use Rattle.bpf_vm.specs.Course.{left}
use Rattle.xen_back.specs.Rest.{rest_in}
use Rattle.xen_steps.specs.Steps.{want_of}
use Rattle.xen_turns.specs.Tree.{after_run}
use Rattle.xen_back.specs.declared.by_event.stage.Stage.{Stage}
use Rattle.xen_steps.specs.declared.want.Want.TheVariants as want
use Rattle.xen_turns.proofs.FeedLemmas.{program_asks}
use Rattle.xen_back.proofs.FeedLemmas.{stage_asks}
use Rattle.xen_back.proofs.by_event.ending.ended.Goals as goal

pub unreachable-requires : goal.unreachable-requires
unreachable-requires c =
    let o = c.requires in
    let w = o.0 in
    let s = c.args.state.now in
    let r = c.in-Run.run' in
    program_asks c.want-want.result (left r.vm) r.ops (after_run w s r.chain) c.want-want.ensures.course (subst (λ (g : Stage). want_of (rest_in w s g) ≡ want.Done) c.in-Run.is o.1)

pub unreachable-requires-in_default : goal.unreachable-requires-in_default
unreachable-requires-in_default c =
    let o = c.requires in
    stage_asks o.0 c.args.state.now c.args.stage.now c.in_default.not-At c.in_default.not-Run o.1
