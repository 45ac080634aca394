use Rattle.std.proofs.Common.{◌≡◌, ◌<◌, ℕ, length, Option, true, arith, rules, sym, ◌∙◌, refl, subst, List, [], ◌∷◌, ◌++◌, Bool}
use Rattle.std.specs.Prelude.{Contains}
use Rattle.bpf_verify.specs.Edges.{Edge}
use Rattle.bpf_verify.specs.Marks.{marked, Adds, IsExplored}
use Rattle.bpf_verify.proofs.WayLemmas.{fall_inside, jump_inside, marked_inside}
use Rattle.bpf_verify.proofs.SearchLemmas.{explored_on, explored_all, explored_first, unmarked}
use Rattle.std.proofs.lemmas.List.Elements.{Contains-append_right}
use Rattle.bpf_insn.specs.declared.insn.Insn.{Insn}
use Rattle.bpf_verify.proofs.graph.reach.reached.Goals as goal

popped_inside : (code : List Insn) (m : List Bool) (old new : List ℕ) (pc from : ℕ) → old ≡ new ++ pc ∷ [] → IsExplored (Edge code) from m old → length m ≡ length code → pc < length code
popped_inside code m old new pc from is e len =
    let on : Contains old pc = subst (λ (xs : List ℕ). Contains xs pc) (sym is) (Contains-append_right new (pc ∷ []) pc (0, omega arith, refl)) in
    let low = marked_inside m pc (e.piled pc on) in omega (arith, low)

pub loop-pc-init : goal.loop-pc-init
loop-pc-init c = record {
  len = search rules;
  explored = explored_first c.args.code.now c.args.from c.in_ok-marks.marks.items c.visit.new.marks.items c.new-pile.result.items c.visit.new.pile.items
      (λ q e. unmarked (length c.args.code.now) q (subst (λ (xs : List Bool). marked xs q ≡ true) (c.in_ok-marks.ensures.items_if_clones_equal (λ y same. same)) e)) (omega (arith, c.new-pile.ensures.len, c.new-pile.result.ok.0)) c.in_ok-visit.ensures.adds;
}

pub fall_to-fall-requires : goal.fall_to-fall-requires
fall_to-fall-requires c =
    let low = popped_inside c.args.code.now c.loop-pc.marks.items c.loop-pc.pile.items c.pop.new.self.items c.in-Some.pc c.args.from c.in-Some.ensures.items c.loop-pc.invariant.explored (search rules) in
    omega (arith, low, c.requires.short)

pub jump_to-jump-requires : goal.jump_to-jump-requires
jump_to-jump-requires c =
    let low = popped_inside c.args.code.now c.loop-pc.marks.items c.loop-pc.pile.items c.pop.new.self.items c.in-Some.pc c.args.from c.in-Some.ensures.items c.loop-pc.invariant.explored (search rules) in
    omega (arith, low, c.requires.short)

pub visit-requires-in-Some : goal.visit-requires-in-Some
visit-requires-in-Some c = λ q is. let low = fall_inside c.args.code.now c.in-Some.pc q (sym c.fall_to-fall.ensures ∙ is) in omega (arith, low)

pub visit-requires-in-Some-2 : goal.visit-requires-in-Some-2
visit-requires-in-Some-2 c = λ q is. let low = jump_inside c.args.code.now c.in-Some.pc q (sym c.jump_to-jump.ensures ∙ is) in omega (arith, low, c.in_ok-visit-2.ensures.len)

pub loop-pc-preserved : goal.loop-pc-preserved
loop-pc-preserved c = record {
  len = search rules;
  explored = explored_on c.args.code.now c.args.from c.in-Some.pc c.loop-pc.marks.items c.visit-in-Some.new.marks.items c.visit-in-Some-2.new.marks.items
      c.pop.new.self.items c.visit-in-Some.new.pile.items c.visit-in-Some-2.new.pile.items
      (subst (λ (xs : List ℕ). IsExplored (Edge c.args.code.now) c.args.from c.loop-pc.marks.items xs) c.in-Some.ensures.items c.loop-pc.invariant.explored)
      (subst (λ (o : Option ℕ). Adds c.loop-pc.marks.items c.pop.new.self.items o c.visit-in-Some.new.marks.items c.visit-in-Some.new.pile.items) c.fall_to-fall.ensures c.in_ok-visit-2.ensures.adds)
      (subst (λ (o : Option ℕ). Adds c.visit-in-Some.new.marks.items c.visit-in-Some.new.pile.items o c.visit-in-Some-2.new.marks.items c.visit-in-Some-2.new.pile.items) c.jump_to-jump.ensures c.in_ok-visit-3.ensures.adds);
}

pub returns-clause-exact : goal.returns-clause-exact
returns-clause-exact c = λ q. (c.loop-pc.invariant.explored.sound q, λ l. explored_all c.args.code.now c.args.from c.loop-pc.marks.items c.loop-pc.pile.items c.loop-pc.invariant.explored (omega (arith, c.in_default.ensures.cases.0, c.loop-pc.pile.ok.0)) q l)
