use Rattle.std.proofs.Common.{arith, ◌*◌, ◌/◌, ◌%◌, ap, ℕ}
use Rattle.bpf_lists.specs.Chains.{chain_of}
use Rattle.bpf_lists.proofs.ChainLemmas.{chain_below, product_fits}
use Rattle.bpf_lists.proofs.chains.chain_of.Goals as goal

pub overflow_mul-result : goal.overflow_mul-result
overflow_mul-result c =
    let fits = product_fits (c.mixed.result % 4294967296 * 2654435761 % 4294967296) c.args.chains (omega arith) c.requires.few in
    omega (arith, fits)

pub returns-clause-value : goal.returns-clause-value
unfolding chain_of
returns-clause-value c = ap (λ (n : ℕ). n % 4294967296 * 2654435761 % 4294967296 * c.args.chains / 4294967296) c.mixed.ensures

pub returns-clause-within : goal.returns-clause-within
returns-clause-within c = chain_below (c.mixed.result % 4294967296 * 2654435761 % 4294967296) c.args.chains (omega arith) c.requires.some
