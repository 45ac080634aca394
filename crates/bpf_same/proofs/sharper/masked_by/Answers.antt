use Rattle.std.proofs.Common.{rules, ◌≡◌, ◌/◌, ◌^◌}
use Rattle.bpf_same.proofs.SharperLemmas.{masks}
use Rattle.bpf_same.proofs.sharper.masked_by.Goals as goal

pub returns-then-range-bits-eq0 : goal.returns-then-range-bits-eq0
returns-then-range-bits-eq0 c =
    let none : c.args.range.high / 2 ^ c.args.bits.to ≡ 0 = search rules in
    masks c.args.range.low c.args.range.high c.args.bits.from c.args.bits.to c.without_lower.result c.without_lower-then-range-bits-eq0.result c.requires.below none c.without_lower.ensures c.without_lower-then-range-bits-eq0.ensures
