use Rattle.std.proofs.Common.{rules, ℕ, ◌≡◌, ◌+◌, ◌++◌, ◌∷◌, [], List, refl, sym, ◌∙◌, ap, arith, length, drop, slice_index_or}
use Rattle.std.proofs.lemmas.List.{append_assoc, append-nil}
use Rattle.xen_page.specs.Owned.{domains_of, ends_of}
use Rattle.xen_page.specs.declared.extents.Extent.{Extent}
use Rattle.xen_page.proofs.ExtentLemmas.{frames_from, from_here, no_more_ends}
use Rattle.xen_page.proofs.extents.ends.Goals as goal

pub loop-extent-preserved : goal.loop-extent-preserved
loop-extent-preserved c =
    let extents = c.args.extents.now in
    let i = c.loop-extent.extent-index in
    let none : Extent = record { frames = 0; domain = 0 } in
    let x = slice_index_or extents i none in
    let here = from_here extents i x none (omega arith) refl in
    let frames = ap (λ (l : List Extent). length (domains_of l)) here in
    let next = frames_from x (drop (i + 1) extents) in
    let ends = ap (λ (l : List Extent). c.loop-extent.ends.items ++ ends_of c.loop-extent.end l) here in
    let more : c.push.new.self.items ≡ c.loop-extent.ends.items ++ (c.loop-extent.end + x.frames) ∷ [] = search rules in
    let all = ap (λ (l : List ℕ). l ++ ends_of (c.loop-extent.end + x.frames) (drop (i + 1) extents)) more in (
      omega (arith, c.loop-extent.invariant.0, frames, next),
      all ∙ append_assoc c.loop-extent.ends.items ((c.loop-extent.end + x.frames) ∷ []) (ends_of (c.loop-extent.end + x.frames) (drop (i + 1) extents)) ∙ sym ends ∙ c.loop-extent.invariant.1,
    )

pub returns : goal.returns
returns c =
    let extents = c.args.extents.now in
    let none = no_more_ends c.loop-extent.end extents c.loop-extent.extent-index c.loop-extent-test.false in
    let all = ap (λ (l : List ℕ). c.loop-extent.ends.items ++ l) none in
    sym (append-nil c.loop-extent.ends.items) ∙ sym all ∙ c.loop-extent.invariant.1
