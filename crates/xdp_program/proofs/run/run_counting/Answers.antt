use Rattle.std.proofs.Common.{◌∙◌, ◌≡◌, ◌<◌, List, subst, sym, arith}
use Rattle.bpf_note.specs.Shape.{IsCounter, Shape}
use Rattle.bpf_note.specs.declared.op.Op.TheVariants.{Load, Add}
use Rattle.bpf_verify.specs.Consistent.{Accepted, instructions}
use Rattle.bpf_vm.proofs.RunLemmas.{few_instructions}
use Rattle.xdp_program.proofs.RanLemmas.{sofar_advanced, sofar_load, sofar_add, ran_of}
use Rattle.xdp_program.proofs.run.run_counting.Goals as goal

pub loop-m-init : goal.loop-m-init
loop-m-init g c = record {
  sofar = record {
    program = c.start-vm.ensures.program;
    grown = λ rest. rest;
    counted = λ rest. let none = c.start-vm.ensures.count in omega (arith, none);
    ops_done = λ rest. omega arith;
    history = λ rest after h. h;
    walks = λ s h b i q e f. (s, c.start-vm.ensures.stands s h b i q e f, λ r0 bytes rest w. w);
  };
  serves = c.requires;
  few = omega arith;
  room = c.start-vm.ensures.room;
}

pub load-number-requires-clause-serves : goal.load-number-requires-clause-serves
load-number-requires-clause-serves g c = subst (λ (l : List Shape). g.T.Tallies.serves l c.loop-m.counters) (sym c.shapes.ensures.same) c.loop-m.invariant.serves

pub load-number-requires-clause-place : goal.load-number-requires-clause-place
load-number-requires-clause-place g c =
    let a = c.in-Load.ensures in
    let mine = subst (λ (x : Accepted). IsCounter x.shapes c.in-Load.m c.in-Load.k c.in-Load.j) (a.advanced.program ∙ c.loop-m.invariant.sofar.program) a.want.counter in
    subst (λ (l : List Shape). IsCounter l c.in-Load.m c.in-Load.k c.in-Load.j) (sym c.shapes.ensures.same) mine

pub loop-m-preserved-in-Load : goal.loop-m-preserved-in-Load
loop-m-preserved-in-Load g c =
    let p = c.args.program.now in
    let did = g.T.Tallies.did in
    let a = c.in-Load.ensures in
    let r = c.load-number in
    let op = Load c.in-Load.m c.in-Load.k c.in-Load.j r.result in
    let mid = sofar_advanced (did p.shapes) p c.args.lists.now c.args.packet.bytes c.args.ifindex c.args.queue c.args.counters.now c.loop-m.vm c.advance.new.self c.loop-m.counters c.loop-m.ops c.loop-m.invariant.sofar a.advanced in
    record {
      sofar = sofar_load (did p.shapes) p c.args.lists.now c.args.packet.bytes c.args.ifindex c.args.queue c.args.counters.now c.advance.new.self c.loaded.new.self c.loop-m.counters r.new.self c.loop-m.ops c.in-Load.m c.in-Load.k c.in-Load.j r.result mid a.want.own c.loaded.ensures
          (subst (λ (l : List Shape). did l op c.loop-m.counters r.new.self) c.shapes.ensures.same r.ensures.did);
      serves = subst (λ (l : List Shape). g.T.Tallies.serves l r.new.self) c.shapes.ensures.same r.ensures.serves;
      few = let f = c.loop-m.invariant.few in let d = a.advanced.count in let e = c.loaded.ensures.count in omega (arith, f, d, e);
      room = c.loaded.ensures.room ∙ (a.advanced.room ∙ c.loop-m.invariant.room);
    }

pub add-old-requires-clause-serves : goal.add-old-requires-clause-serves
add-old-requires-clause-serves g c = subst (λ (l : List Shape). g.T.Tallies.serves l c.loop-m.counters) (sym c.shapes-in-Add.ensures.same) c.loop-m.invariant.serves

pub add-old-requires-clause-place : goal.add-old-requires-clause-place
add-old-requires-clause-place g c =
    let a = c.in-Add.ensures in
    let mine = subst (λ (x : Accepted). IsCounter x.shapes c.in-Add.m c.in-Add.k c.in-Add.j) (a.advanced.program ∙ c.loop-m.invariant.sofar.program) a.want.counter in
    subst (λ (l : List Shape). IsCounter l c.in-Add.m c.in-Add.k c.in-Add.j) (sym c.shapes-in-Add.ensures.same) mine

pub loop-m-preserved : goal.loop-m-preserved
loop-m-preserved g c =
    let p = c.args.program.now in
    let did = g.T.Tallies.did in
    let a = c.in-Add.ensures in
    let r = c.add-old in
    let op = Add c.in-Add.m c.in-Add.k c.in-Add.j c.in-Add.delta r.result in
    let mid = sofar_advanced (did p.shapes) p c.args.lists.now c.args.packet.bytes c.args.ifindex c.args.queue c.args.counters.now c.loop-m.vm c.advance.new.self c.loop-m.counters c.loop-m.ops c.loop-m.invariant.sofar a.advanced in
    record {
      sofar = sofar_add (did p.shapes) p c.args.lists.now c.args.packet.bytes c.args.ifindex c.args.queue c.args.counters.now c.advance.new.self c.added.new.self c.loop-m.counters r.new.self c.loop-m.ops c.in-Add.m c.in-Add.k c.in-Add.j c.in-Add.delta r.result mid a.want.own c.added.ensures
          (subst (λ (l : List Shape). did l op c.loop-m.counters r.new.self) c.shapes-in-Add.ensures.same r.ensures.did);
      serves = subst (λ (l : List Shape). g.T.Tallies.serves l r.new.self) c.shapes-in-Add.ensures.same r.ensures.serves;
      few = let f = c.loop-m.invariant.few in let d = a.advanced.count in let e = c.added.ensures.count in omega (arith, f, d, e);
      room = c.added.ensures.room ∙ (a.advanced.room ∙ c.loop-m.invariant.room);
    }

pub returns-in-Exit-clause-ran : goal.returns-in-Exit-clause-ran
returns-in-Exit-clause-ran g c =
    let p = c.args.program.now in
    let did = g.T.Tallies.did p.shapes in
    let w = c.advance.new.self in
    let mid = sofar_advanced did p c.args.lists.now c.args.packet.bytes c.args.ifindex c.args.queue c.args.counters.now c.loop-m.vm w c.loop-m.counters c.loop-m.ops c.loop-m.invariant.sofar c.in-Exit.ensures.advanced in
    ran_of did p c.args.lists.now c.args.packet.bytes c.args.ifindex c.args.queue c.args.counters.now w c.loop-m.counters c.end.result.number c.end.result.instructions c.end.result.packet.bytes c.loop-m.ops mid c.end.ensures.stands c.end.ensures.instructions

pub returns-in-Exit-clause-room : goal.returns-in-Exit-clause-room
returns-in-Exit-clause-room g c = c.end.ensures.room ∙ (c.in-Exit.ensures.advanced.room ∙ c.loop-m.invariant.room)

pub overflow_add-ops : goal.overflow_add-ops
overflow_add-ops g c =
    let p = c.args.program.now in
    let a = c.in-Load.ensures.advanced in
    let same : c.loaded.new.self.program ≡ p = c.loaded.ensures.program ∙ (a.program ∙ c.loop-m.invariant.sofar.program) in
    let below : c.loaded.new.self.count < instructions p.code =
    subst (λ (x : Accepted). c.loaded.new.self.count < instructions x.code) same c.is_bounded.ensures in
    omega (arith, c.loop-m.invariant.few, a.count, c.loaded.ensures.count, below, few_instructions p.code, c.shapes.ensures.consistent.laid_out.short)

pub overflow_add-ops-in-Add : goal.overflow_add-ops-in-Add
overflow_add-ops-in-Add g c =
    let p = c.args.program.now in
    let a = c.in-Add.ensures.advanced in
    let same : c.added.new.self.program ≡ p = c.added.ensures.program ∙ (a.program ∙ c.loop-m.invariant.sofar.program) in
    let below : c.added.new.self.count < instructions p.code =
    subst (λ (x : Accepted). c.added.new.self.count < instructions x.code) same c.is_bounded-in-Add.ensures in
    omega (arith, c.loop-m.invariant.few, a.count, c.added.ensures.count, below, few_instructions p.code, c.shapes-in-Add.ensures.consistent.laid_out.short)
