use Rattle.std.proofs.Common.{◌≡◌, ap, sym, subst, ◌∙◌, refl, arith}
use Rattle.bpf_flow.specs.Step.{Exited, step}
use Rattle.bpf_vm.specs.Course.{Exiting}
use Rattle.bpf_vm.specs.Packet.{Packet}
use Rattle.bpf_vm.specs.Stands.{Running, Ends, running_of, now}
use Rattle.bpf_vm.proofs.RunLemmas.{exit_same, few_instructions, counted_below}
use Rattle.bpf_vm.proofs.ExitLemmas.{ends_with}
use Rattle.bpf_vm.proofs.MachineLemmas.{own_of}
use Rattle.bpf_vm.proofs.CourseLemmas.{left_exits}
use Rattle.bpf_vm.proofs.vm.Vm.end.Goals as goal

pub overflow_add-result : goal.overflow_add-result
overflow_add-result c =
    let p = c.self.inside.program.now in
    let k = c.self.invariant.1.consistent in
    let count = counted_below _ k c.self.invariant.1 in
    omega (arith, count, few_instructions p.code, k.laid_out.short)

-- what its own step comes to
exits : (c : goal.After-into_packet) → step c.self.inside.program.now.code (own_of c.self.inside.program.now c.self.inside.pc c.self.inside.machine) ≡ Exited c.register-r0.result
exits c =
    let p = c.self.inside.program.now in
    let r = c.self.invariant.1 in
    let ends : Ends (now (running_of p c.self.inside.pc c.self.inside.machine c.self.inside.count)) = subst (λ (v : Running). Ends (now v)) (sym c.self.view_is) c.requires in
    ends_with p (own_of p c.self.inside.pc c.self.inside.machine) c.register-r0.result r.consistent r.described c.register-r0.ensures ends

pub returns-clause-stands : goal.returns-clause-stands
returns-clause-stands c =
    let p = c.self.inside.program.now in
    let m = c.self.inside.machine in
    let k = c.self.invariant.1.consistent in
    let r0 = c.register-r0.result in
    rw (← c.self.view_is) (λ s st. (r0, exit_same p s (own_of p c.self.inside.pc m) r0 k st.described st.numbers (exits c), refl, ap (λ (q : Packet). q.bytes) c.into_packet.ensures ∙ sym st.numbers.packet))

pub returns-clause-own : goal.returns-clause-own
returns-clause-own c = rw (← c.self.view_is) (c.register-r0.result, exits c, refl, ap (λ (q : Packet). q.bytes) c.into_packet.ensures)

pub returns-clause-course : goal.returns-clause-course
returns-clause-course c =
    let v = running_of c.self.inside.program.now c.self.inside.pc c.self.inside.machine c.self.inside.count in
    let r = c.self.invariant.1 in
    let left = left_exits v c.register-r0.result (counted_below v r.consistent r) (exits c) in
    (c.register-r0.result, rw (← c.self.view_is) (left ∙ ap (Exiting c.register-r0.result) (sym (ap (λ (q : Packet). q.bytes) c.into_packet.ensures))), refl)

pub returns-clause-bound : goal.returns-clause-bound
returns-clause-bound c =
    let count = counted_below _ c.self.invariant.1.consistent c.self.invariant.1 in
    rw (← c.self.view_is) (omega (arith, count))
