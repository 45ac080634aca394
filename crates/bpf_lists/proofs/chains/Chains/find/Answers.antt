use Rattle.std.proofs.Common.{arith, ◌≡◌, ◌-◌, ◌<◌, ◌∙◌, ap, sym, subst, ℕ, List, length, slice_index}
use Rattle.std.proofs.lemmas.Grind.{get_or_default_zero}
use Rattle.bpf_lists.specs.Keys.{count}
use Rattle.bpf_lists.specs.Chains.{chain_of}
use Rattle.bpf_lists.proofs.RowLemmas.{row_inside}
use Rattle.bpf_lists.proofs.ChainLemmas.{IsNear, near_first, near_next, exact_found, exact_none}
use Rattle.bpf_lists.proofs.chains.Chains.find.Goals as goal

pub has_key-requires : goal.has_key-requires
has_key-requires c = row_inside c.args.kind c.args.keys.now (c.loop-step.above - 1) (omega (arith, c.loop-step.invariant.most, c.if-above-eq0.false))

pub returns-then-above-eq0 : goal.returns-then-above-eq0
returns-then-above-eq0 c =
    let heads : List ℕ = c.args.self.now.heads.items in
    let near = subst (λ (a : ℕ). IsNear c.args.kind c.args.keys.now c.args.key.now (length heads) a) c.if-above-eq0.true c.loop-step.invariant in
    exact_none c.args.kind c.requires.exact.0 c.args.keys.now c.args.key.now (length heads) c.requires.exact.1 near

pub loop-step-init : goal.loop-step-init
loop-step-init c =
    let h = c.requires.chains in
    let heads : List ℕ = c.args.self.now.heads.items in
    let b = c.chain_of.result in
    let above = c.index-above.result.now in
    let is : b ≡ chain_of c.args.key.now (length heads) = c.chain_of.ensures.value ∙ ap (λ (n : ℕ). chain_of c.args.key.now n) (omega arith) in
    let within : b < length heads = omega (arith, c.chain_of.ensures.within) in
    let head : above ≡ slice_index heads b = c.index-above.ensures ∙ get_or_default_zero heads b above within in
    subst (λ (a : ℕ). IsNear c.args.kind c.args.keys.now c.args.key.now (length heads) a) (sym head)
    (near_first c.args.kind c.args.keys.now c.args.key.now heads c.args.self.now.links.items (length heads) b h is within)

pub index-above-requires-in-loop-step : goal.index-above-requires-in-loop-step
index-above-requires-in-loop-step c = omega (arith, c.loop-step.invariant.most, c.requires.chains.long, c.if-above-eq0.false)

pub returns-then-has_key : goal.returns-then-has_key
returns-then-has_key c =
    let within : c.loop-step.above - 1 < count c.args.kind c.args.keys.now = omega (arith, c.loop-step.invariant.most, c.if-above-eq0.false) in
    exact_found c.args.kind c.requires.exact.0 c.args.keys.now c.args.key.now (c.loop-step.above - 1) c.requires.exact.1 within (c.has_key.ensures.0 c.if-has_key.true)

pub loop-step-preserved : goal.loop-step-preserved
loop-step-preserved c =
    let h = c.requires.chains in
    let inv = c.loop-step.invariant in
    let heads : List ℕ = c.args.self.now.heads.items in
    let links : List ℕ = c.args.self.now.links.items in
    let above = c.loop-step.above in
    let next = c.index-above-in-loop-step.result.now in
    let some : 0 < above = omega (arith, c.if-above-eq0.false) in
    let within : above - 1 < length links = omega (arith, inv.most, h.long, some) in
    let is : next ≡ slice_index links (above - 1) = c.index-above-in-loop-step.ensures ∙ get_or_default_zero links (above - 1) next within in
    subst (λ (a : ℕ). IsNear c.args.kind c.args.keys.now c.args.key.now (length heads) a) (sym is)
    (near_next c.args.kind c.args.keys.now c.args.key.now heads links (length heads) above h inv some (λ e. let yes = c.has_key.ensures.1 e in let no = c.if-has_key.false in cc))
