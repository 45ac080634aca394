use Rattle.std.proofs.Common.{◌≡◌, arith, subst, sym}
use Rattle.bpf_vm.specs.Advance.{Advanced}
use Rattle.bpf_vm.specs.Stands.{IsRunning, now, running_of}
use Rattle.bpf_vm.specs.Wants.{Waits}
use Rattle.bpf_vm.specs.declared.machine.Machine.{Machine}
use Rattle.bpf_vm.proofs.RunLemmas.{few_instructions}
use Rattle.bpf_vm.proofs.AdvanceLemmas.{advanced_here}
use Rattle.bpf_vm.proofs.PassLemmas.{advanced_on}
use Rattle.bpf_vm.proofs.machine.Machine.run.Goals as goal

pub loop-to-init : goal.loop-to-init
loop-to-init c = record { maps = c.requires.maps; running = c.requires.running; advanced = advanced_here (running_of c.args.program.now c.args.pc c.args.self.now c.args.count) }

pub pass-requires : goal.pass-requires
pass-requires c =
    let i = c.loop-to.invariant in
    (c.args.program.now, c.loop-to.done, record { maps = i.maps; running = i.running; code = c.insns-insns.ensures.same; forms = c.flats-flats.ensures.flats })

pub overflow_add-done : goal.overflow_add-done
overflow_add-done c =
    let i = c.loop-to.invariant in
    let one = c.in-Goes.ensures c.args.program.now c.loop-to.done (record { maps = i.maps; running = i.running; code = c.insns-insns.ensures.same; forms = c.flats-flats.ensures.flats }) in
    let bound = one.2.bound in
    omega (arith, bound, few_instructions c.args.program.now.code, c.requires.running.consistent.laid_out.short)

pub loop-to-preserved : goal.loop-to-preserved
loop-to-preserved c =
    let p = c.args.program.now in
    let i = c.loop-to.invariant in
    let one = c.in-Goes.ensures p c.loop-to.done (record { maps = i.maps; running = i.running; code = c.insns-insns.ensures.same; forms = c.flats-flats.ensures.flats }) in
    record {
      maps = one.0;
      running = one.1;
      advanced = advanced_on p c.args.pc c.args.self.now c.args.count c.loop-to.at c.loop-to.self c.loop-to.done c.in-Goes.to c.pass.new.self i.running i.advanced one.2;
    }

pub returns-in-Waits-clause-maps : goal.returns-in-Waits-clause-maps
returns-in-Waits-clause-maps c =
    let p = c.args.program.now in
    let i = c.loop-to.invariant in
    let one = c.in-Waits.ensures p c.loop-to.done (record { maps = i.maps; running = i.running; code = c.insns-insns.ensures.same; forms = c.flats-flats.ensures.flats }) in
    subst (λ (m : Machine). m.shapes.now ≡ p.shapes) (sym one.1) i.maps

pub returns-in-Waits-clause-running : goal.returns-in-Waits-clause-running
returns-in-Waits-clause-running c =
    let p = c.args.program.now in
    let i = c.loop-to.invariant in
    let one = c.in-Waits.ensures p c.loop-to.done (record { maps = i.maps; running = i.running; code = c.insns-insns.ensures.same; forms = c.flats-flats.ensures.flats }) in
    subst (λ (m : Machine). IsRunning (running_of p c.loop-to.at m c.loop-to.done)) (sym one.1) i.running

pub returns-in-Waits-clause-advanced : goal.returns-in-Waits-clause-advanced
returns-in-Waits-clause-advanced c =
    let p = c.args.program.now in
    let i = c.loop-to.invariant in
    let one = c.in-Waits.ensures p c.loop-to.done (record { maps = i.maps; running = i.running; code = c.insns-insns.ensures.same; forms = c.flats-flats.ensures.flats }) in
    subst (λ (m : Machine). Advanced (running_of p c.args.pc c.args.self.now c.args.count) (running_of p c.loop-to.at m c.loop-to.done)) (sym one.1) i.advanced

pub returns-in-Waits-clause-waits : goal.returns-in-Waits-clause-waits
returns-in-Waits-clause-waits c =
    let p = c.args.program.now in
    let i = c.loop-to.invariant in
    let one = c.in-Waits.ensures p c.loop-to.done (record { maps = i.maps; running = i.running; code = c.insns-insns.ensures.same; forms = c.flats-flats.ensures.flats }) in
    subst (λ (m : Machine). Waits (now (running_of p c.loop-to.at m c.loop-to.done))) (sym one.1) one.0
