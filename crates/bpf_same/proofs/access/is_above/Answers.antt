use Rattle.std.proofs.Common.{◌∙◌, sym, ap, arith, w16}
use Rattle.std.proofs.lemmas.Int.{ints, to_z-of_z}
use Rattle.bpf_insn.specs.Register.{number}
use Rattle.bpf_note.specs.Parts.{facts}
use Rattle.bpf_same.proofs.AboveLemmas.{IsShort, stack_above_read, packet_above, context_above, value_above, constants_above}
use Rattle.bpf_same.proofs.access.is_above.Goals as goal

pub returns-in-Stack : goal.returns-in-Stack
returns-in-Stack c = λ t z s d.
    let n = facts c.args.note.now in
    let short : IsShort c.args.off = (omega (arith, ints, c.ranges.off.sfits), omega (arith, ints, c.ranges.off.sfits)) in
    stack_above_read c.args.low n s (number c.args.base) z c.in-Stack.at c.args.off _ _ d (ap n.reg (sym c.number.ensures.number) ∙ (sym c.register.ensures.value ∙ c.in-Stack.is)) short
    (λ least most. to_z-of_z w16 c.in-Stack.at (record { sfits = omega (arith, ints, least, most) })) (to_z-of_z w16 c.args.off c.ranges.off) (c.is_at_least.ensures t)

pub returns-in-Pkt : goal.returns-in-Pkt
returns-in-Pkt c = λ t z s d.
    let n = facts c.args.note.now in
    let short : IsShort c.args.off = (omega (arith, ints, c.ranges.off.sfits), omega (arith, ints, c.ranges.off.sfits)) in
    packet_above c.args.low n s (number c.args.base) c.in-Pkt.id c.in-Pkt.off z c.args.off d (ap n.reg (sym c.number.ensures.number) ∙ (sym c.register.ensures.value ∙ c.in-Pkt.is)) short

pub returns-in-Ctx : goal.returns-in-Ctx
returns-in-Ctx c = λ t z s d.
    let n = facts c.args.note.now in
    let short : IsShort c.args.off = (omega (arith, ints, c.ranges.off.sfits), omega (arith, ints, c.ranges.off.sfits)) in
    context_above c.args.low n s (number c.args.base) z c.args.off d (ap n.reg (sym c.number.ensures.number) ∙ (sym c.register.ensures.value ∙ c.in-Ctx.is)) short

pub returns-in-Value : goal.returns-in-Value
returns-in-Value c = λ t z s d.
    let n = facts c.args.note.now in
    let short : IsShort c.args.off = (omega (arith, ints, c.ranges.off.sfits), omega (arith, ints, c.ranges.off.sfits)) in
    value_above c.args.low n s (number c.args.base) c.in-Value.m z c.args.off d (ap n.reg (sym c.number.ensures.number) ∙ (sym c.register.ensures.value ∙ c.in-Value.is)) short

pub returns-in-Num : goal.returns-in-Num
returns-in-Num c = λ t z s d.
    let n = facts c.args.note.now in
    let short : IsShort c.args.off = (omega (arith, ints, c.ranges.off.sfits), omega (arith, ints, c.ranges.off.sfits)) in
    constants_above c.args.low n s (number c.args.base) c.in-Num.lo c.in-Num.hi z c.args.off d (ap n.reg (sym c.number.ensures.number) ∙ (sym c.register.ensures.value ∙ c.in-Num.is)) short (c.are_of_constants.ensures c.if-are_of_constants.true)
