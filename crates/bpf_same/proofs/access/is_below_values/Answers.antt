use Rattle.std.proofs.Common.{◌∙◌, sym, ap, arith}
use Rattle.std.proofs.lemmas.Int.{ints}
use Rattle.bpf_note.specs.Parts.{facts}
use Rattle.bpf_same.proofs.AboveLemmas.{IsShort, packet_below, context_below, stack_below, constants_below}
use Rattle.bpf_same.proofs.access.is_below_values.Goals as goal

pub returns-in-Stack : goal.returns-in-Stack
returns-in-Stack c = λ t.
    let n = facts c.args.note.now in
    let short : IsShort c.args.off = (omega (arith, ints, c.ranges.off.sfits), omega (arith, ints, c.ranges.off.sfits)) in
    stack_below n c.args.base c.args.off c.in-Stack.off (ap n.reg (sym c.number.ensures.number) ∙ (sym c.register.ensures.value ∙ c.in-Stack.is)) short

pub returns-in-Pkt : goal.returns-in-Pkt
returns-in-Pkt c = λ t.
    let n = facts c.args.note.now in
    let short : IsShort c.args.off = (omega (arith, ints, c.ranges.off.sfits), omega (arith, ints, c.ranges.off.sfits)) in
    packet_below n c.args.base c.args.off c.in-Pkt.id c.in-Pkt.off (ap n.reg (sym c.number.ensures.number) ∙ (sym c.register.ensures.value ∙ c.in-Pkt.is)) short

pub returns-in-Ctx : goal.returns-in-Ctx
returns-in-Ctx c = λ t.
    let n = facts c.args.note.now in
    let short : IsShort c.args.off = (omega (arith, ints, c.ranges.off.sfits), omega (arith, ints, c.ranges.off.sfits)) in
    context_below n c.args.base c.args.off (ap n.reg (sym c.number.ensures.number) ∙ (sym c.register.ensures.value ∙ c.in-Ctx.is)) short

pub returns-in-Num : goal.returns-in-Num
returns-in-Num c = λ t.
    let n = facts c.args.note.now in
    let short : IsShort c.args.off = (omega (arith, ints, c.ranges.off.sfits), omega (arith, ints, c.ranges.off.sfits)) in
    constants_below n c.args.base c.args.off c.in-Num.lo c.in-Num.hi (ap n.reg (sym c.number.ensures.number) ∙ (sym c.register.ensures.value ∙ c.in-Num.is)) short (c.are_of_constants.ensures t)
