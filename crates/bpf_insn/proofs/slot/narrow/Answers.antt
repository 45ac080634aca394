use Rattle.bpf_insn.proofs.ClassLemmas.{st_alone, stx_alone, then_none, then_both_none}
use Rattle.bpf_insn.proofs.slot.narrow.Goals as goal

pub returns-in-2-clause-none : goal.returns-in-2-clause-none
returns-in-2-clause-none c = then_none _ (st_alone c.args.f c.in-2.is) c.store_constant.ensures.none

pub returns-in-3-clause-none : goal.returns-in-3-clause-none
returns-in-3-clause-none c = then_both_none _ (stx_alone c.args.f c.in-3.is) c.store.ensures.plain c.store.ensures.atomic
