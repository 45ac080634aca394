use Rattle.std.proofs.Common.{◌≡◌, ℕ, Option, true, length, arith, sym, ◌∙◌, subst, List, [], ◌∷◌, ◌++◌, Bool}
use Rattle.bpf_verify.specs.Marks.{marked}
use Rattle.bpf_verify.proofs.RisingLemmas.{IsRisen, Marks, risen_first, risen_past, risen_on, risen_passes}
use Rattle.bpf_verify.proofs.SearchLemmas.{unmarked}
use Rattle.bpf_verify.proofs.WayLemmas.{is_marked, fall_inside, jump_inside}
use Rattle.bpf_verify.proofs.graph.rising.rising_order.Goals as goal
use Rattle.bpf_verify.proofs.graph.rising.rising_order.Goals.{then-index+in_ok-push, else-index}

pub loop-pc-init : goal.loop-pc-init
loop-pc-init c =
    risen_first c.args.code.now c.in_ok-marks.marks.items c.mark.new.marks.items c.in_ok-taken.taken.items
    (λ q e. unmarked (length c.args.code.now) q (subst (λ (xs : List Bool). marked xs q ≡ true) (c.in_ok-marks.ensures.items_if_clones_equal (λ y same. same)) e))
    (omega (arith, c.mark.ensures.len, c.in_ok-marks.ensures.len, c.mark.new.marks.ok.0, c.in_ok-marks.marks.ok.0)) c.in_ok-taken.ensures.items c.mark.ensures.marks

pub mark-requires-then-index : goal.mark-requires-then-index
mark-requires-then-index c = λ q is. let low = fall_inside c.args.code.now c.loop-pc.pc q (sym c.fall_to.ensures ∙ is) in omega (arith, low, c.loop-pc.invariant.len, c.loop-pc.marks.ok.0)

pub mark-requires-then-index-2 : goal.mark-requires-then-index-2
mark-requires-then-index-2 c = λ q is.
    let low = jump_inside c.args.code.now c.loop-pc.pc q (sym c.jump_to.ensures ∙ is) in
    omega (arith, low, c.loop-pc.invariant.len, c.loop-pc.marks.ok.0, c.mark-then-index.ensures.len)

pub loop-pc-preserved : goal.loop-pc-preserved
loop-pc-preserved c =
    let code = c.args.code.now in
    let marks = c.loop-pc.marks.items in
    let is = is_marked marks c.loop-pc.pc c.index.result.now c.index.ensures (omega (arith, c.loop-pc.invariant.len, c.loop-pc-test.true)) in
    elim c.if-index.branch [
      | then-index+in_ok-push w ↦
          let m' = w.mark-then-index.new.marks.items in
          let m'' = w.mark-then-index-2.new.marks.items in
          let fall = subst (λ (o : Option ℕ). Marks marks o m') w.fall_to.ensures w.mark-then-index.ensures.marks in
          let jump = subst (λ (o : Option ℕ). Marks m' o m'') w.jump_to.ensures w.mark-then-index-2.ensures.marks in
          let len : length m'' ≡ length code = omega (arith, w.mark-then-index-2.ensures.len, w.mark-then-index.ensures.len, c.loop-pc.invariant.len, c.loop-pc.marks.ok.0, w.mark-then-index-2.new.marks.ok.0) in
          let taken : w.push.new.self.items ≡ c.loop-pc.taken.items ++ c.loop-pc.pc ∷ [] = w.in_ok-push.ensures.items in
          rw (w.marks-is, w.taken-is, taken) (risen_on code c.requires.rising marks m' m'' c.loop-pc.pc fall jump c.loop-pc.taken.items c.loop-pc.invariant (sym is ∙ w.if-index.true) len)
      | else-index w ↦ rw (w.marks-is, w.taken-is) (risen_past code marks c.loop-pc.taken.items c.loop-pc.pc c.loop-pc.invariant (sym is ∙ w.if-index.false))
    ]

pub returns : goal.returns
returns c =
    let end : c.loop-pc.pc ≡ length c.args.code.now = omega (arith, c.loop-pc.auto.pc-end, c.loop-pc-test.false) in
    risen_passes c.args.code.now c.loop-pc.marks.items c.loop-pc.taken.items c.requires.rising (subst (λ (k : ℕ). IsRisen c.args.code.now c.loop-pc.marks.items c.loop-pc.taken.items k) end c.loop-pc.invariant)
