use Rattle.std.proofs.Common.{◌≡◌, ◌<◌, ℕ, List, All, subst, sym, ◌∙◌}
use Rattle.xen_buffers.specs.Wired.{AreDistinct, IsWired, frames_of, references_of, wiring_in}
use Rattle.xen_buffers.proofs.desc.FrontDesc.is_wired.Goals as goal

pub returns : goal.returns
returns c =
    let d = c.args.self.now in
    let w = wiring_in d in
    let below : c.as_slice.result.now ≡ frames_of w = c.as_slice.ensures.value ∙ c.own_frames-frames.ensures in
    let frames : c.as_slice-else-not-are_below.result.now ≡ frames_of w = c.as_slice-else-not-are_below.ensures.value ∙ c.own_frames-frames.ensures in
    let references : c.as_slice-2.result.now ≡ references_of w = c.as_slice-2.ensures.value ∙ c.references.ensures in (
      λ t. record {
        tx_count = c.if-self-ne256.false;
        rx_count = c.if-self-ne256-2.false;
        tx_granted = c.are_in_table.ensures.0 c.if-not-are_in_table.false;
        rx_granted = c.are_in_table-else-not-are_in_table.ensures.0 c.if-not-are_in_table-2.false;
        on_bus = subst (λ (l : List ℕ). All (λ f. f < d.frames) l) below (c.are_below.ensures.0 c.if-not-are_below.false);
        frames_apart = subst (λ (l : List ℕ). AreDistinct l) frames (c.are_distinct.ensures.0 c.if-not-are_distinct.false);
        references_apart = subst (λ (l : List ℕ). AreDistinct l) references (c.are_distinct-2.ensures.0 t);
      },
      λ (h : IsWired w). c.are_distinct-2.ensures.1 (subst (λ (l : List ℕ). AreDistinct l) (sym references) h.references_apart),
    )
