use Rattle.std.proofs.Common.{rules, ◌≡◌, true}
use Rattle.bpf_note.specs.Parts.{facts}
use Rattle.bpf_same.proofs.RoomLemmas.{inside_by}
use Rattle.bpf_same.proofs.step.Step.compared.Goals as goal

pub returns-clause-address : goal.returns-clause-address
returns-clause-address c =
    let s = c.args.self.now in
    let below : c.is_below_end.result ≡ true = search rules in
    inside_by s.insn s.stutters s.low (facts s.after.now) s.before.now c.in-Some.order.lesser c.in-Some.order.greater c.in-Some-least_distance.distance c.in-Some.order.by c.in-Some.ensures.order (c.is_below_end.ensures below) c.in-Some-least_distance.ensures
