use Rattle.std.proofs.Common.{arith, ◌≡◌, ◌+◌, ◌∷◌, [], List, ℕ, length, slice_index, sym, ◌∙◌, ap, subst}
use Rattle.std.proofs.lemmas.List.{length-append}
use Rattle.bpf_note.specs.Keys.{data_of}
use Rattle.bpf_lists.specs.Keys.{row as row_of}
use Rattle.bpf_lists.specs.Order.{lead}
use Rattle.bpf_lists.proofs.FrontLemmas.{fronts_more}
use Rattle.bpf_lists.proofs.sorting.fronts.Goals as goal

pub loop-row-init : goal.loop-row-init
loop-row-init c = record {
  long = ap (λ (xs : List ℕ). length xs) c.in_ok-fronts.ensures.items;
  each = λ r none. absurd (omega (arith, none));
}

pub loop-row-preserved : goal.loop-row-preserved
loop-row-preserved c =
    let kind = c.args.kind in
    let keys : List ℕ = c.args.keys.now in
    let n = c.loop-row.row in
    let q = c.lead.result in
    let ls : List ℕ = c.loop-row.fronts.items in
    let more = c.in_ok-push.ensures.items in
    let inv = c.loop-row.invariant in
    let is : q ≡ lead (data_of kind (row_of kind keys n)) =
    c.lead.ensures ∙ ap lead c.data_bytes.ensures.value ∙ ap (λ (xs : List ℕ). lead (data_of kind xs)) c.key_at-key.ensures.value in
    record {
      long = ap (λ (xs : List ℕ). length xs) more ∙ length-append ls (q ∷ []) ∙ ap (λ (m : ℕ). m + 1) inv.long;
      each = λ r h. subst (λ (xs : List ℕ). slice_index xs r ≡ lead (data_of kind (row_of kind keys r))) (sym more) (fronts_more kind keys ls n q inv.long is inv.each r h);
    }
