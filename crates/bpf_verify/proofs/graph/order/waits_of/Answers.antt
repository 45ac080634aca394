use Rattle.std.proofs.Common.{◌≡◌, ℕ, Option, vec_len, arith, sym, ◌∙◌, ap}
use Rattle.std.specs.Prelude.{slice_index}
use Rattle.bpf_verify.specs.Ways.{fall_to, jump_to}
use Rattle.bpf_verify.specs.Marks.{marked}
use Rattle.bpf_verify.specs.Waits.{one}
use Rattle.bpf_verify.proofs.WayLemmas.{fall_inside, jump_inside}
use Rattle.bpf_verify.proofs.WaitLemmas.{into_small, more_live, more_dead, hits_parts, one_small}
use Rattle.bpf_verify.proofs.graph.order.waits_of.Goals as goal
use Rattle.bpf_verify.proofs.graph.order.waits_of.Goals.{then-live-pc, else-live-pc}

pub add-requires-clause-inside : goal.add-requires-clause-inside
add-requires-clause-inside c = λ q is. let low = fall_inside c.args.code.now c.loop-pc.pc q (sym c.fall_to-fall.ensures ∙ is) in omega (arith, low, c.loop-pc.invariant.len)

pub add-requires-clause-room : goal.add-requires-clause-room
add-requires-clause-room c = λ q. omega (arith, c.loop-pc.invariant.counts q, into_small c.args.code.now (marked c.args.live.now) c.loop-pc.pc q)

pub add-requires-then-live-pc-clause-inside : goal.add-requires-then-live-pc-clause-inside
add-requires-then-live-pc-clause-inside c = λ q is. let low = jump_inside c.args.code.now c.loop-pc.pc q (sym c.jump_to-jump.ensures ∙ is) in omega (arith, low, c.loop-pc.invariant.len, c.add.ensures.len)

pub add-requires-then-live-pc-clause-room : goal.add-requires-then-live-pc-clause-room
add-requires-then-live-pc-clause-room c = λ q. omega (arith, c.add.ensures.more q, one_small c.fall_to-fall.result q, c.loop-pc.invariant.counts q, into_small c.args.code.now (marked c.args.live.now) c.loop-pc.pc q)

pub loop-pc-preserved : goal.loop-pc-preserved
loop-pc-preserved c =
    let code = c.args.code.now in
    let live = marked c.args.live.now in
    let pc = c.loop-pc.pc in
    elim c.if-live-pc.branch [
      | then-live-pc w ↦ record {
        len = let e : vec_len c.if-live-pc.waits ≡ vec_len w.add-then-live-pc.new.waits = cc in omega (arith, e, w.add.ensures.len, w.add-then-live-pc.ensures.len, c.loop-pc.invariant.len);
        counts = λ q.
            let e : slice_index c.if-live-pc.waits.items q ≡ slice_index w.add-then-live-pc.new.waits.items q = cc in
            let a : one w.fall_to-fall.result q ≡ one (fall_to code pc) q = ap (λ (o : Option ℕ). one o q) w.fall_to-fall.ensures in
            let b : one w.jump_to-jump.result q ≡ one (jump_to code pc) q = ap (λ (o : Option ℕ). one o q) w.jump_to-jump.ensures in
            omega (arith, e, a, b, w.add.ensures.more q, w.add-then-live-pc.ensures.more q, c.loop-pc.invariant.counts q, more_live code live pc q w.if-live-pc.true, hits_parts code pc q);
      }
      | else-live-pc w ↦ record {
        len = let e : vec_len c.if-live-pc.waits ≡ vec_len c.loop-pc.waits = cc in omega (arith, e, c.loop-pc.invariant.len);
        counts = λ q.
            let e : slice_index c.if-live-pc.waits.items q ≡ slice_index c.loop-pc.waits.items q = cc in
            omega (arith, e, c.loop-pc.invariant.counts q, more_dead code live pc q w.if-live-pc.false);
      }
    ]
