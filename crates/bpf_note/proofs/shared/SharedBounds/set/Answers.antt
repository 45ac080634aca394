use Rattle.std.proofs.Common.{sym, refl, subst, arith, List}
use Rattle.std.specs.Prelude.{Result, Ok, Err, OnOk, OnErr}
use Rattle.bpf_note.specs.declared.bound.Bound.{Bound}
use Rattle.bpf_note.specs.Chunks.{AreChunks}
use Rattle.bpf_note.proofs.ChunkLemmas.{view_normal}
use Rattle.bpf_note.proofs.PartLemmas.{set_stands, low_set_chunks, low_set, high_set_chunks, high_set, same_chunks, same_parts}
use Rattle.bpf_note.proofs.shared.SharedBounds.set.Goals as goal

either : {A E P Q R : Type 0} (r : Result A E) → OnOk r P → OnErr r Q → (P → R) → (Q → R) → R
either (Ok x) p q f g = f p
either (Err e) p q f g = g q

on_ok : {A E P Q : Type 0} (r : Result A E) → (P → Q) → OnOk r P → OnOk r Q
on_ok (Ok x) f h = f h
on_ok (Err e) f h = tt

on_err : {A E P Q : Type 0} (r : Result A E) → (P → Q) → OnErr r P → OnErr r Q
on_err (Ok x) f h = tt
on_err (Err e) f h = f h

pub returns-then-stands-clause-ok : goal.returns-then-stands-clause-ok
returns-then-stands-clause-ok c =
    let normal = view_normal c.self.inside.low c.self.inside.high c.self.invariant in
    set_stands _ _ c.args.new (c.near.ensures.top, c.near.ensures.safe) (rw (← c.self.view_is) normal) (c.stands.ensures c.if-stands.true)

pub invariant_of-self : goal.invariant_of-self
invariant_of-self c =
    either c.set.result c.set.ensures.ok c.set.ensures.err
    (λ s. low_set_chunks c.self.inside.low c.set.new.self c.self.inside.high c.args.new c.self.invariant c.set.ensures.few s)
    (λ s. same_chunks c.self.inside.low c.set.new.self c.self.inside.high c.self.invariant c.set.ensures.few s)

pub invariant_of-self-else-new-lt-HIGH : goal.invariant_of-self-else-new-lt-HIGH
invariant_of-self-else-new-lt-HIGH c =
    either c.set-else-new-lt-HIGH.result c.set-else-new-lt-HIGH.ensures.ok c.set-else-new-lt-HIGH.ensures.err
    (λ s. high_set_chunks c.self.inside.low c.self.inside.high c.set-else-new-lt-HIGH.new.self c.args.new c.self.invariant (omega arith) s)
    (λ e. subst (λ (high : List Bound). AreChunks c.self.inside.low high) (sym e) c.self.invariant)

pub returns-then-new-lt-HIGH-clause-ok : goal.returns-then-new-lt-HIGH-clause-ok
returns-then-new-lt-HIGH-clause-ok c =
    rw (← c.self.view_is) (on_ok c.set.result (λ s. low_set c.self.inside.low c.set.new.self c.self.inside.high c.args.new c.self.invariant
    (low_set_chunks c.self.inside.low c.set.new.self c.self.inside.high c.args.new c.self.invariant c.set.ensures.few s) (omega arith) s) c.set.ensures.ok)

pub returns-then-new-lt-HIGH-clause-err : goal.returns-then-new-lt-HIGH-clause-err
returns-then-new-lt-HIGH-clause-err c =
    rw (← c.self.view_is) (on_err c.set.result (λ s. sym (same_parts c.self.inside.low c.set.new.self c.self.inside.high c.self.inside.high c.self.invariant
    (same_chunks c.self.inside.low c.set.new.self c.self.inside.high c.self.invariant c.set.ensures.few s) s refl)) c.set.ensures.err)

pub returns-else-new-lt-HIGH-clause-ok : goal.returns-else-new-lt-HIGH-clause-ok
returns-else-new-lt-HIGH-clause-ok c =
    rw (← c.self.view_is) (on_ok c.set-else-new-lt-HIGH.result (λ s. high_set c.self.inside.low c.self.inside.high c.set-else-new-lt-HIGH.new.self c.args.new c.self.invariant
    (high_set_chunks c.self.inside.low c.self.inside.high c.set-else-new-lt-HIGH.new.self c.args.new c.self.invariant (omega arith) s) (omega arith) s) c.set-else-new-lt-HIGH.ensures.ok)
