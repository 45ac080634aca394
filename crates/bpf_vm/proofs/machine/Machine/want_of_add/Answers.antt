use Rattle.std.proofs.Common.{◌≡◌, sym, subst, ℕ, Some, length, rules}
use Rattle.std.specs.Prelude.{Bool, FitsSigned, slice_get}
use Rattle.std.specs.Int.{w16}
use Rattle.std.proofs.lemmas.Int.{to_z-of_z}
use Rattle.bpf_insn.specs.Register.{number}
use Rattle.bpf_note.specs.Regions.{region, InCounter}
use Rattle.bpf_flow.specs.Step.{address}
use Rattle.bpf_vm.specs.Running.{machine_state, IsInCounter}
use Rattle.bpf_vm.proofs.ExecuteLemmas.{add_there, want_of_add}
use Rattle.bpf_vm.proofs.machine.Machine.want_of_add.Goals as goal

pub counter_at-m-requires-clause-there : goal.counter_at-m-requires-clause-there
counter_at-m-requires-clause-there c =
    let i = c.args in
    let add = c.requires.fine in
    let s = machine_state add.0 i.self.now in
    let fits : FitsSigned w16 i.off = search rules in
    let there : (a : ℕ) × (slice_get i.self.now.registers (number i.dst) ≡ Some a) × (c.address.result ≡ address a i.off) = simp to_z-of_z at c.address.ensures.there in
    (8, subst (λ (a : ℕ). IsInCounter (region (length i.self.now.packet.bytes) i.self.now.shapes.now a 8)) (sym there.2) (add_there s add.1 i.dst i.src i.off there.0 c.register-delta.result there.1 c.register-delta.ensures add.2))

pub returns-clause-want : goal.returns-clause-want
returns-clause-want c = λ (pc : ℕ) (fetch : Bool) fine.
    let i = c.args in
    let s = machine_state pc i.self.now in
    let fits : FitsSigned w16 i.off = search rules in
    let there : (a : ℕ) × (slice_get i.self.now.registers (number i.dst) ≡ Some a) × (c.address.result ≡ address a i.off) = simp to_z-of_z at c.address.ensures.there in
    let r = c.counter_at-m.result in
    let at = subst (λ (a : ℕ). region (length i.self.now.packet.bytes) i.self.now.shapes.now a 8 ≡ InCounter r.0 r.1 r.2) there.2 (c.counter_at-m.ensures 8 (subst (λ (a : ℕ). IsInCounter (region (length i.self.now.packet.bytes) i.self.now.shapes.now a 8)) (sym there.2) (add_there s fetch i.dst i.src i.off there.0 c.register-delta.result there.1 c.register-delta.ensures fine))) in
    want_of_add s fetch i.dst i.src i.off there.0 c.register-delta.result r.0 r.1 r.2 there.1 c.register-delta.ensures at fine
