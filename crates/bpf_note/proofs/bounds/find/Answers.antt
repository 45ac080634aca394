use Rattle.std.proofs.Common.{◌≡◌, ◌∙◌, sym, ap, ℕ, true}
use Rattle.std.specs.Prelude.{slice_get}
use Rattle.bpf_note.specs.Bounds.{place_of, has_id}
use Rattle.bpf_note.proofs.BoundLemmas.{said_there, unsaid_there}
use Rattle.bpf_note.proofs.bounds.find.Goals as goal

pub returns-then-is_at-clause-some : goal.returns-then-is_at-clause-some
returns-then-is_at-clause-some c =
    let there : has_id (slice_get c.args.bounds.now (place_of c.args.bounds.now c.args.id)) c.args.id ≡ true =
    ap (λ (k : ℕ). has_id (slice_get c.args.bounds.now k) c.args.id) (sym c.place-at.ensures.value) ∙ (sym c.is_at.ensures ∙ c.if-is_at.true) in
    rw (c.place-at.ensures.value) (said_there 0 c.args.id c.args.bounds.now _ c.requires there)

pub returns-else-is_at-clause-none : goal.returns-else-is_at-clause-none
returns-else-is_at-clause-none c =
    unsaid_there 0 c.args.id c.args.bounds.now c.requires (ap (λ (k : ℕ). has_id (slice_get c.args.bounds.now k) c.args.id) (sym c.place-at.ensures.value) ∙ (sym c.is_at.ensures ∙ c.if-is_at.false))
