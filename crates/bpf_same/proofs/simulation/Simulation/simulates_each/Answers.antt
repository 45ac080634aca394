use Rattle.std.proofs.Common.{rules, ◌≡◌, ◌<◌, ◌∙◌, Some, inl, inr, length, true, refl, sym, ap, subst, arith}
use Rattle.std.specs.Prelude.{slice_get}
use Rattle.std.specs.Global.{Box}
use Rattle.std.proofs.lemmas.Bool.{cases_lt}
use Rattle.std.proofs.lemmas.Option.{slice_get_read, slice_get_within}
use Rattle.bpf_note.specs.Parts.{Noted, facts}
use Rattle.bpf_same.specs.Candidates.{candidate_of}
use Rattle.bpf_same.specs.Simulated.{Simulates}
use Rattle.bpf_same.proofs.simulation.Simulation.simulates_each.Goals as goal

pub loop-k-preserved : goal.loop-k-preserved
loop-k-preserved c = λ j low b at.
    elim (cases_lt j c.loop-k.k) [
      | inl old ↦ c.loop-k.invariant j old b at
      | inr high ↦
          let this : c.loop-k.k ≡ j = omega (arith, low, high) in
          let here : slice_get c.args.notes.now c.loop-k.k ≡ Some c.index-notes-k.result = slice_get_read c.args.notes.now (length c.args.notes.now) c.loop-k.k c.index-notes-k.result refl c.loop-k-test.true c.index-notes-k.is in
          let both : Some c.index-notes-k.result ≡ Some b = sym here ∙ (ap (slice_get c.args.notes.now) this ∙ at) in
          let same : c.index-notes-k.result ≡ b = cc in
          let simulates : c.in_ok-simulates.field-0 ≡ true = search rules in
          subst (λ (n : Noted). Simulates (candidate_of c.args.self.now) c.args.shapes.now c.args.witness.at c.args.insn c.args.relation.now (facts n) c.args.pc) (c.deref.ensures ∙ ap (λ (b : Box Noted). b.value) same) (c.in_ok-simulates.ensures simulates)
    ]

pub returns : goal.returns
returns c = λ t k b at.
    let inside : k < length c.args.notes.now = slice_get_within c.args.notes.now k b at in
    c.loop-k.invariant k (omega (arith, inside, c.loop-k-test.false)) b at
