-- Lists that maps can have, one after another.
use Rattle.std.proofs.Common.{◌≡◌, ◌<◌, ◌+◌, ◌∙◌, ◌⊎◌, inl, inr, ℕ, List, Option, Some, None, length, get_or, slice_get, subst, sym, ap, arith}
use Rattle.std.proofs.lemmas.Bool.{cases_order}
use Rattle.std.proofs.lemmas.Option.{slice_get-get_or}
use Rattle.bpf_lists.specs.Keys.{Keyed}
use Rattle.bpf_lists.specs.declared.list.MapList.{MapList}
use Rattle.bpf_lists.specs.declared.list.MapList.TheVariants.{Rows, Constants}
use Rattle.bpf_lists.specs.Refusals.{AreListed}
use Rattle.xdp_load.specs.Listed.{AreListedBelow}
use Rattle.xdp_load.specs.ListedFault.{IsListed}

listed_list : (o : Option MapList) (list : Keyed) → IsListed o → ◌≡◌ {A = Option (Option MapList)} (Some o) (Some (Some (Rows list))) → AreListed list.kind list.keys
listed_list None list h e = absurd (cc)
listed_list (Some (Rows l)) list h e = subst (λ (x : Keyed). AreListed x.kind x.keys) (cc) h
listed_list (Some (Constants bytes)) list h e = absurd (cc)

-- one list more is one that a map can have
pub below_more : (lists : List (Option MapList)) (i : ℕ) (item : Option MapList) → i < length lists → item ≡ get_or lists i item → AreListedBelow lists i → IsListed item → AreListedBelow lists (i + 1)
below_more lists i item h here below listed k list less there = go (cases_order k i)
  where
    at : slice_get lists i ≡ Some item
    at = slice_get-get_or lists i item h ∙ ap (λ (o : Option MapList). Some o) (sym here)

    go : (k ≡ i) ⊎ ((k < i) ⊎ (i < k)) → AreListed list.kind list.keys
    go (inl e) = listed_list item list listed (sym at ∙ (rw e at there))
    go (inr (inl m)) = below k list m there
    go (inr (inr m)) = absurd (omega (arith, m, less))
