use Rattle.std.proofs.Common.{rules, ◌≡◌, ◌<◌, ℕ, inl, inr, length, true, subst, arith}
use Rattle.std.proofs.lemmas.Bool.{cases_lt}
use Rattle.std.proofs.lemmas.Option.{slice_get_within}
use Rattle.bpf_same.specs.Candidates.{candidate_of}
use Rattle.bpf_same.specs.Simulated.{SimulatesSlot}
use Rattle.bpf_same.proofs.simulation.Simulation.is_simulation.Goals as goal

pub loop-pc-preserved : goal.loop-pc-preserved
loop-pc-preserved c = λ q low.
    elim (cases_lt q c.loop-pc.pc) [
      | inl old ↦ c.loop-pc.invariant q old
      | inr high ↦
          let this : c.loop-pc.pc ≡ q = omega (arith, low, high) in
          let claimed : c.in_ok-simulates_slot.field-0 ≡ true = search rules in
          subst (λ (q : ℕ). SimulatesSlot (candidate_of c.args.self.now) c.args.new.now c.args.shapes.now q) this (c.in_ok-simulates_slot.ensures claimed)
    ]

pub returns : goal.returns
returns c = λ t.
    let initial : c.is_initial.result ≡ true = search rules in
    record {
      initial = c.is_initial.ensures initial;
      each = λ pc i witness e list k b here there claimed notes at.
          let inside : pc < length c.args.new.now = slice_get_within c.args.new.now pc i here in
          c.loop-pc.invariant pc (omega (arith, inside, c.loop-pc-test.false)) i witness e list k b here there claimed notes at;
    }
