use Rattle.std.proofs.Common.{◌<◌, ap, sym, length, arith}
use Rattle.xen_steps.specs.Steps.{next_by}
use Rattle.xen_turns.specs.Tree.{answered}
use Rattle.xen_turns.specs.Turned.{turned}
use Rattle.xen_turns.proofs.RestLemmas.{answer_at}
use Rattle.xen_back.proofs.by_event.answering.answer_written.Goals as goal

pub returns-then-i-len : goal.returns-then-i-len
returns-then-i-len c w s packet word counter =
    let words = c.args.words.items in
    let h : c.args.i < length words = omega arith in
    sym (ap (λ o. next_by o word counter) (answer_at w c.args.at.tx_index (length words) c.args.i words (answered c.args.at (length words), turned c.args.kind packet) h))
