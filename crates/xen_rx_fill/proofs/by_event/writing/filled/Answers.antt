use Rattle.std.proofs.Common.{◌<◌, ap, sym, arith}
use Rattle.xen_steps.specs.Steps.{next_by}
use Rattle.xen_rx_fill.specs.Packets.{words}
use Rattle.xen_rx_fill.proofs.SendLemmas.{fill_at}
use Rattle.xen_rx_fill.proofs.by_event.writing.filled.Goals as goal

pub returns-then-k-words_of : goal.returns-then-k-words_of
returns-then-k-words_of c =
    let h : c.args.k < words c.args.bytes.now = omega arith in
    λ v x o. sym (ap (λ s. next_by s 0 0) (fill_at v x o c.args.bytes.now c.args.targets c.args.k h))
