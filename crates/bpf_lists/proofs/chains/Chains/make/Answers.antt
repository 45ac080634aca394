use Rattle.std.proofs.Common.{arith, ◌≡◌, ◌+◌, ◌*◌, ◌<◌, ◌∷◌, ◌++◌, [], ◌∙◌, ap, sym, subst, ℕ, List, length, slice_index, set}
use Rattle.std.proofs.lemmas.Grind.{get_or_default_zero}
use Rattle.bpf_lists.specs.Keys.{row}
use Rattle.bpf_lists.specs.Chains.{chain_of, AreChains}
use Rattle.bpf_lists.proofs.ChainLemmas.{no_chains, chains_more}
use Rattle.bpf_lists.proofs.chains.Chains.make.Goals as goal

pub loop-row-init : goal.loop-row-init
loop-row-init c = no_chains c.args.kind c.args.keys.now c.in_ok-chains.chains.heads.items c.in_ok-chains.chains.links.items c.args.count (omega (arith, c.requires.few.few, c.requires.count)) c.in_ok-chains.ensures.heads c.in_ok-chains.ensures.links

pub returns : goal.returns
returns c =
    let h = c.loop-row.invariant in
    let heads : List ℕ = c.loop-row.chains.heads.items in
    let links : List ℕ = c.loop-row.chains.links.items in
    let last : c.loop-row.row ≡ c.args.count = omega arith in
    let all = subst (λ (n : ℕ). AreChains c.args.kind c.args.keys.now (2 * c.args.count + 1) n heads links) last h in
    subst (λ (n : ℕ). AreChains c.args.kind c.args.keys.now n c.args.count heads links) (sym all.wide) all

pub loop-row-preserved : goal.loop-row-preserved
loop-row-preserved c =
    let h = c.loop-row.invariant in
    let kind = c.args.kind in
    let keys : List ℕ = c.args.keys.now in
    let heads : List ℕ = c.loop-row.chains.heads.items in
    let links : List ℕ = c.loop-row.chains.links.items in
    let chains : ℕ = 2 * c.args.count + 1 in
    let n : ℕ = c.loop-row.row in
    let b : ℕ = c.chain_of-chain.result in
    let long : c.len.result ≡ 2 * c.args.count + 1 = omega arith in
    let is : b ≡ chain_of (row kind keys n) chains = c.chain_of-chain.ensures.value ∙ (λ i. chain_of (c.key_at.ensures.value i) (long i)) in
    let within : b < chains = omega (arith, c.chain_of-chain.ensures.within, long) in
    let inside : b < length heads = omega (arith, within, h.wide) in
    let head : c.index.result.now ≡ slice_index heads b = c.index.ensures ∙ get_or_default_zero heads b c.index.result.now inside in
    let pushed : c.push.new.self.items ≡ links ++ slice_index heads b ∷ [] = c.in_ok-push.ensures.items ∙ ap (λ (a : ℕ). links ++ a ∷ []) head in
    subst (λ (ls : List ℕ). AreChains kind keys chains (n + 1) (set heads b (n + 1)) ls) (sym pushed) (chains_more kind keys heads links chains n b h is within)
