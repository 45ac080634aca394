use Rattle.std.proofs.Common.{sym, subst}
use Rattle.bpf_lists.specs.Refusals.{IsWithin}
use Rattle.bpf_lists.proofs.OrderLemmas.{place_good}
use Rattle.bpf_lists.proofs.order.Order.covers.Goals as goal

pub covers-requires-clause-within : goal.covers-requires-clause-within
covers-requires-clause-within c =
    let o = c.args.self.now in
    let good = place_good o c.kind.ensures.ordered c.args.place c.requires.place in
    subst (λ k. IsWithin k c.key.result.now) (sym c.kind.ensures.value) (subst (λ x. IsWithin o.kind x) (sym c.key.ensures.value) good.within)
