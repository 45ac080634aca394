use Rattle.bpf_same.proofs.DecideLemmas.{ranges_met_if}
use Rattle.bpf_same.proofs.decide.between_numbers.Goals as goal

pub returns-then-wide : goal.returns-then-wide
returns-then-wide c = ranges_met_if c.args.cond c.args.wide c.args.lo c.args.hi c.args.low c.args.high c.between_ranges.result c.if-wide.true c.between_ranges.ensures
