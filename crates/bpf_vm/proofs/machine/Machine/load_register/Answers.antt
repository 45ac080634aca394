use Rattle.std.proofs.Common.{◌≡◌, ◌+◌, ◌∙◌, ap, sym, subst, ℕ, Option, Some, IsSome, rules}
use Rattle.std.specs.Prelude.{FitsSigned, slice_get}
use Rattle.std.specs.Int.{w16}
use Rattle.std.proofs.lemmas.Int.{to_z-of_z}
use Rattle.bpf_insn.specs.Register.{number}
use Rattle.bpf_insn.specs.Size.{size_bytes}
use Rattle.bpf_flow.specs.Step.{Next, address, with_number}
use Rattle.bpf_vm.specs.Running.{machine_state, loaded_at}
use Rattle.bpf_vm.proofs.ExecuteLemmas.{load_found, load_next}
use Rattle.bpf_vm.proofs.FrameLemmas.{loaded_at_slot}
use Rattle.bpf_vm.proofs.machine.Machine.load_register.Goals as goal

pub read-value-requires-clause-there : goal.read-value-requires-clause-there
read-value-requires-clause-there c =
    let i = c.args in
    let fits : FitsSigned w16 i.off = search rules in
    let there : (a : ℕ) × (slice_get i.self.now.registers (number i.src) ≡ Some a) × (c.address.result ≡ address a i.off) = simp to_z-of_z at c.address.ensures.there in
    let found = load_found (machine_state i.pc i.self.now) i.size i.signed i.dst i.src i.off there.0 there.1 c.requires.advances in
    subst (λ (x : ℕ). IsSome (loaded_at (machine_state 0 i.self.now) x (size_bytes i.size))) (sym there.2)
    (subst (λ (o : Option ℕ). IsSome o) (loaded_at_slot i.self.now i.pc (address there.0 i.off) (size_bytes i.size)) found)

pub returns-clause-state : goal.returns-clause-state
returns-clause-state c =
    let i = c.args in
    let s = machine_state i.pc i.self.now in
    let fits : FitsSigned w16 i.off = search rules in
    let there : (a : ℕ) × (slice_get i.self.now.registers (number i.src) ≡ Some a) × (c.address.result ≡ address a i.off) = simp to_z-of_z at c.address.ensures.there in
    let found : loaded_at s (address there.0 i.off) (size_bytes i.size) ≡ Some c.read-value.result =
    loaded_at_slot i.self.now i.pc (address there.0 i.off) (size_bytes i.size) ∙ (ap (λ (x : ℕ). loaded_at (machine_state 0 i.self.now) x (size_bytes i.size)) (sym there.2) ∙ c.read-value.ensures) in
    load_next s i.size i.signed i.dst i.src i.off there.0 c.read-value.result there.1 found c.requires.advances
    ∙ ap Next (ap (λ (x : ℕ). with_number s (i.pc + 1) (number i.dst) x) (sym c.taken.ensures) ∙ sym c.set.ensures.state)
