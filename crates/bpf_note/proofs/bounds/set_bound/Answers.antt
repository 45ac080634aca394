use Rattle.std.proofs.Common.{◌≡◌, sym, ◌∙◌, ap, List, true, false, subst}
use Rattle.std.specs.Prelude.{slice_get}
use Rattle.bpf_note.specs.declared.bound.Bound.{Bound}
use Rattle.bpf_note.specs.Bounds.{place_of, has_id, IsSet}
use Rattle.bpf_note.proofs.BoundLemmas.{set_over, set_out, set_in, set_not}
use Rattle.bpf_note.proofs.bounds.set_bound.Goals as goal

pub returns-in-true-true-clause-ok : goal.returns-in-true-true-clause-ok
returns-in-true-true-clause-ok c =
    let xs = c.args.bounds.now.items in
    let at : c.place-at.result ≡ place_of xs c.args.new.id = c.place-at.ensures.value ∙ ap (λ (bs : List Bound). place_of bs c.args.new.id) c.deref.ensures.value in
    let there : has_id (slice_get xs c.place-at.result) c.args.new.id ≡ true = sym (ap (λ (bs : List Bound). has_id (slice_get bs c.place-at.result) c.args.new.id) c.deref-2.ensures.value) ∙ (sym c.is_at.ensures ∙ c.in-true-true.if-is_at-true) in
    set_over xs c.place-at.result c.args.new c.requires at there (sym c.says.ensures ∙ c.in-true-true.if-says-true)

pub returns-in-true-false-clause-ok : goal.returns-in-true-false-clause-ok
returns-in-true-false-clause-ok c =
    let xs = c.args.bounds.now.items in
    let at : c.place-at.result ≡ place_of xs c.args.new.id = c.place-at.ensures.value ∙ ap (λ (bs : List Bound). place_of bs c.args.new.id) c.deref.ensures.value in
    let there : has_id (slice_get xs c.place-at.result) c.args.new.id ≡ true = sym (ap (λ (bs : List Bound). has_id (slice_get bs c.place-at.result) c.args.new.id) c.deref-2.ensures.value) ∙ (sym c.is_at.ensures ∙ c.in-true-false.if-is_at-true) in
    subst (IsSet xs c.args.new) (sym c.remove.ensures.items) (set_out xs c.place-at.result c.args.new c.requires at there (sym c.says.ensures ∙ c.in-true-false.if-says-false))

pub returns-in_ok-insert-in-false-true-clause-ok : goal.returns-in_ok-insert-in-false-true-clause-ok
returns-in_ok-insert-in-false-true-clause-ok c =
    let xs = c.args.bounds.now.items in
    let at : c.place-at.result ≡ place_of xs c.args.new.id = c.place-at.ensures.value ∙ ap (λ (bs : List Bound). place_of bs c.args.new.id) c.deref.ensures.value in
    let there : has_id (slice_get xs c.place-at.result) c.args.new.id ≡ false = sym (ap (λ (bs : List Bound). has_id (slice_get bs c.place-at.result) c.args.new.id) c.deref-2.ensures.value) ∙ (sym c.is_at.ensures ∙ c.in-false-true.if-is_at-false) in
    subst (IsSet xs c.args.new) (sym c.in_ok-insert-in-false-true.ensures.items) (set_in xs c.place-at.result c.args.new c.requires at there (sym c.says.ensures ∙ c.in-false-true.if-this-true))

pub returns-in-false-false-clause-ok : goal.returns-in-false-false-clause-ok
returns-in-false-false-clause-ok c =
    let xs = c.args.bounds.now.items in
    let at : c.place-at.result ≡ place_of xs c.args.new.id = c.place-at.ensures.value ∙ ap (λ (bs : List Bound). place_of bs c.args.new.id) c.deref.ensures.value in
    let there : has_id (slice_get xs c.place-at.result) c.args.new.id ≡ false = sym (ap (λ (bs : List Bound). has_id (slice_get bs c.place-at.result) c.args.new.id) c.deref-2.ensures.value) ∙ (sym c.is_at.ensures ∙ c.in-false-false.if-is_at-false) in
    set_not xs c.place-at.result c.args.new c.requires at there (sym c.says.ensures ∙ c.in-false-false.if-this-false)
