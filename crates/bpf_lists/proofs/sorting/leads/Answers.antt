use Rattle.std.proofs.Common.{arith, ◌≡◌, ◌+◌, ◌∷◌, [], List, ℕ, length, slice_index, sym, ◌∙◌, ap, subst}
use Rattle.std.proofs.lemmas.List.{length-append}
use Rattle.bpf_note.specs.Keys.{data_of}
use Rattle.bpf_lists.specs.Order.{at, lead}
use Rattle.bpf_lists.proofs.LeadLemmas.{leads_more}
use Rattle.bpf_lists.proofs.sorting.leads.Goals as goal

pub loop-place-init : goal.loop-place-init
loop-place-init c = record {
  long = ap (λ (xs : List ℕ). length xs) c.in_ok-leads.ensures.items;
  each = λ p none. absurd (omega (arith, none));
}

pub loop-place-preserved : goal.loop-place-preserved
loop-place-preserved c =
    let o = c.args.order.now in
    let place = c.loop-place.place in
    let q = c.lead.result in
    let ls : List ℕ = c.loop-place.leads.items in
    let more = c.in_ok-push.ensures.items in
    let inv = c.loop-place.invariant in
    let is : q ≡ lead (data_of o.kind (at o place)) = c.lead.ensures ∙ ap lead c.data_at.ensures.value in
    record {
      long = ap (λ (xs : List ℕ). length xs) more ∙ length-append ls (q ∷ []) ∙ ap (λ (n : ℕ). n + 1) inv.long;
      each = λ p h. subst (λ (xs : List ℕ). slice_index xs p ≡ lead (data_of o.kind (at o p))) (sym more) (leads_more o ls place q inv.long is inv.each p h);
    }
