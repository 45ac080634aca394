use Rattle.std.proofs.Common.{◌≡◌, ◌∙◌, ℕ, ◌+◌, ◌<◌, ◌++◌, ◌∷◌, [], List, All, append_assoc, slice_index, sym, ap, subst, arith}
use Rattle.std.proofs.lemmas.List.Elements.{All-push}
use Rattle.std.proofs.lemmas.List.FromFn.{map-range_with_len_more}
use Rattle.bpf_maps.specs.Numbers.{filled}
use Rattle.bpf_maps.proofs.totals.push_numbers.Goals as goal

-- one number more at the end
grown : (start part more now later : List ℕ) (n : ℕ) → now ≡ start ++ part → later ≡ now ++ n ∷ [] → more ≡ part ++ n ∷ [] → later ≡ start ++ more
grown start part more now later n is pushed longer =
    pushed ∙ ap (λ (l : List ℕ). l ++ n ∷ []) is ∙ append_assoc start part (n ∷ []) ∙ ap (λ (l : List ℕ). start ++ l) (sym longer)

pub loop-place-preserved : goal.loop-place-preserved
loop-place-preserved c =
    let before = c.loop-place.invariant in
    let numbers = c.args.numbers.now in
    let i = c.loop-place.place in
    let n = c.number_at.result in
    let longer : filled (i + 1) numbers ≡ filled i numbers ++ n ∷ [] =
    map-range_with_len_more (λ (k : ℕ). slice_index numbers k) 0 i i (omega arith) ∙ ap (λ (x : ℕ). filled i numbers ++ x ∷ []) (sym c.number_at.ensures) in (
      grown _ (filled i numbers) (filled (i + 1) numbers) c.loop-place.values.items _ n before.0 c.in_ok-push.ensures.items longer,
      subst (All (λ (x : ℕ). x < 18446744073709551616)) (sym longer) (All-push (λ (x : ℕ). x < 18446744073709551616) (filled i numbers) n before.1 (omega arith)),
    )
