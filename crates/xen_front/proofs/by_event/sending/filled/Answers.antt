use Rattle.std.proofs.Common.{◌<◌, ◌++◌, length, ap, sym}
use Rattle.xen_steps.specs.Steps.{next_by}
use Rattle.xen_front.specs.Rest.{id_of, pieces, sending}
use Rattle.xen_front.specs.Slots.{buffer, piece_words, slot_writes}
use Rattle.xen_front.proofs.RestLemmas.{page_at}
use Rattle.xen_front.proofs.by_event.sending.filled.Goals as goal

pub returns-then-filling-piece_words-clause-rest : goal.returns-then-filling-piece_words-clause-rest
returns-then-filling-piece_words-clause-rest c = λ w s q word counter.
    let p = c.args.sent.now in
    let r = c.args.filling.piece in
    let n = piece_words (length p) r.index in
    let h : c.args.filling.written < n = rw (sym c.piece_words.ensures.value) c.if-filling-piece_words.true in
    sym (ap (λ ns. next_by (sending w s p r (ns ++ slot_writes w r.start p (pieces r) r.index (id_of r))) word counter) (page_at p (buffer w.tx.now (id_of r)).frame r.index n c.args.filling.written h))
