use Rattle.std.proofs.Common.{◌<◌, ap, sym, ◌∙◌, length, arith}
use Rattle.xen_steps.specs.Steps.{next_by}
use Rattle.xen_rx_fill.proofs.SendLemmas.{rx_answer_at}
use Rattle.xen_rx_fill.proofs.by_event.writing.responded.Goals as goal

pub returns-then-i-n : goal.returns-then-i-n
returns-then-i-n c =
    let h : c.args.i < length c.args.targets = omega arith in
    λ v x o packet. c.half_responded.ensures v x o packet ∙ sym (ap (λ s. next_by s 0 0) (rx_answer_at v x o packet c.args.grants (length c.args.targets) c.args.i c.args.targets h))
