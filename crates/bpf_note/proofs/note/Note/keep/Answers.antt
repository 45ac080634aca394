use Rattle.std.proofs.Common.{arith}
use Rattle.bpf_note.proofs.FactLemmas.{facts_kept}
use Rattle.bpf_note.proofs.note.Note.keep.Goals as goal

pub returns : goal.returns
returns c = rw (← c.self.view_is) (facts_kept c.self.inside.regs c.self.inside.slots c.self.inside.bounds c.args.slot c.from-at.result c.args.value c.from-at.ensures (omega arith))
