use Rattle.std.proofs.Common.{◌≡◌, ◌≢◌, ◌∙◌, sym, length, slice_index, List, ℕ}
use Rattle.bpf_note.specs.Keys.{data_of}
use Rattle.bpf_lists.specs.Order.{at, lead}
use Rattle.bpf_lists.proofs.ValueLemmas.{AreBytes}
use Rattle.bpf_lists.proofs.KeyLemmas.{row_bytes, data_width, data_are_bytes}
use Rattle.bpf_lists.proofs.OrderLemmas.{at_long}
use Rattle.bpf_lists.proofs.LeadLemmas.{lead_above, lead_decides, less_from, less_to}
use Rattle.bpf_lists.proofs.order.Order.is_above.Goals as goal

pub returns-then-leads-place : goal.returns-then-leads-place
returns-then-leads-place c =
    let o = c.args.self.now in
    let place = c.args.place in
    let is = c.kind-kind.ensures.ordered in
    let wanted : List ℕ = c.args.wanted.now in
    let bytes : List ℕ = data_of o.kind (at o place) in
    let same : length wanted ≡ length bytes = c.requires.wanted ∙ sym (data_width o.kind (at o place) (at_long o is place c.requires.place)) in
    let f : AreBytes wanted = λ k. (c.type_inv.wanted k).fits in
    let g : AreBytes bytes = data_are_bytes o.kind (at o place) (row_bytes o.kind o.keys (slice_index o.rows place) is.bytes) in
    let own : slice_index c.args.leads.now place ≡ lead bytes = c.requires.leads.each place c.requires.place in
    let other : lead wanted ≢ lead bytes = λ e. c.if-leads-place.true (own ∙ (sym e ∙ sym c.requires.lead)) in (
      λ yes. lead_above wanted bytes same f g (less_from c.args.lead (slice_index c.args.leads.now place) (lead wanted) (lead bytes) c.requires.lead own yes),
      λ lt. less_to c.args.lead (slice_index c.args.leads.now place) (lead wanted) (lead bytes) c.requires.lead own (lead_decides wanted bytes same f g other lt),
    )
