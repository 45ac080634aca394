use Rattle.std.proofs.Common.{◌≡◌, ◌≤◌, None, Some, rules, of_calls, refl, arith, length, slice_get, sym, ◌∙◌, ap, leb}
use Rattle.std.proofs.lemmas.Fn.{always_returns_same}
use Rattle.std.proofs.lemmas.Option.{slice_get_past, slice_get_read}
use Rattle.std.specs.Prelude.{option_map}
use Rattle.xen_page.specs.declared.extents.Extent.{Extent}
use Rattle.xen_page.proofs.ExtentLemmas.{owner_at}
use Rattle.xen_page.proofs.extents.owner.Goals as goal

pub returns-in_err-extent : goal.returns-in_err-extent
returns-in_err-extent c =
    let extents = c.args.extents.now in
    let k = c.args.frame in
    let place = c.partition_point-place.result in
    let past : length extents ≤ place = search (rules, arith) in
    let none = ap (option_map (λ (x : Extent). x.domain)) (slice_get_past extents place past) in
    let given : c.from_residual.result ≡ None = search rules in
    let key = always_returns_same _ _ _ (λ a r f h. search (rules, of_calls)) in
    let owned = owner_at extents c.args.ends.now k place c.requires c.partition_point-place.ensures.bound (c.partition_point-place.ensures.partitioned (λ y. leb y k) key) in
    given ∙ sym none ∙ owned

pub returns : goal.returns
returns c =
    let extents = c.args.extents.now in
    let k = c.args.frame in
    let place = c.partition_point-place.result in
    let here : slice_get extents place ≡ Some c.in_ok-extent.extent.now =
    slice_get_read extents (length extents) place c.in_ok-extent.extent.now refl (search (rules, arith)) (search rules) in
    let key = always_returns_same _ _ _ (λ a r f h. search (rules, of_calls)) in
    let owned = owner_at extents c.args.ends.now k place c.requires c.partition_point-place.ensures.bound (c.partition_point-place.ensures.partitioned (λ y. leb y k) key) in
    sym (ap (option_map (λ (x : Extent). x.domain)) here) ∙ owned
