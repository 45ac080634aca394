use Rattle.std.proofs.Common.{◌≡◌, ◌≤◌, ◌+◌, ℕ, length, Option, true, false, arith, rules, sym, ◌∙◌, subst, ap, List, Bool, [], ◌∷◌, ◌++◌, inr}
use Rattle.std.specs.Prelude.{slice_index, Contains, slice_set}
use Rattle.bpf_insn.specs.declared.insn.Insn.{Insn}
use Rattle.bpf_verify.specs.Edges.{Edge}
use Rattle.bpf_verify.specs.Ways.{fall_to, jump_to}
use Rattle.bpf_verify.specs.Marks.{marked}
use Rattle.bpf_verify.specs.Orders.{none, Takes}
use Rattle.bpf_verify.specs.Waits.{one, into, IsTaking, IsFree}
use Rattle.bpf_verify.proofs.WayLemmas.{fall_inside, jump_inside, marked_inside}
use Rattle.bpf_verify.proofs.WaitLemmas.{hits_parts, into_edge}
use Rattle.bpf_verify.proofs.TakeLemmas.{taking_on, taking_ended, if_some}
use Rattle.bpf_verify.proofs.graph.order.order.Goals as goal

-- an order of nothing
first : (code : List Insn) (start : List Bool) (taken waits : List ℕ) → taken ≡ [] → length start ≡ length code → length waits ≡ length code →
    ((q : ℕ) → slice_index waits q ≡ into code (marked start) (length code) q) → IsTaking code start start taken waits 0
first code start taken waits empty len len' counts = record {
  len = (len, len');
  takes = subst (λ (xs : List ℕ). Takes (Edge code) (λ q. marked start q ≡ true) xs) (sym empty) none;
  kept = λ q on. (on, λ done. let at : Contains [] q = subst (λ (xs : List ℕ). Contains xs q) empty done in absurd (omega (arith, at.1)));
  rest = λ q on. inr on;
  counts = counts;
  size = let e : length taken ≡ 0 = ap length empty in omega (arith, e);
  low = λ q l f. absurd (omega arith);
}

free_at : (live live' : List Bool) (waits waits' : List ℕ) (p : ℕ) → live' ≡ live → waits' ≡ waits → IsFree live' waits' p → IsFree live waits p
free_at live live' waits waits' p e e' f = (ap (λ (m : List Bool). marked m p) (sym e) ∙ f.0, ap (λ (xs : List ℕ). slice_index xs p) (sym e') ∙ f.1)

pub loop-pc-init : goal.loop-pc-init
loop-pc-init c =
    let e : (q : ℕ) → slice_index c.in_ok-waits.waits.items q ≡ into c.args.code.now (marked c.args.start.items) (length c.args.code.now) q =
    λ q. c.in_ok-waits.ensures.counts q ∙ ap (λ (m : List Bool). into c.args.code.now (marked m) (length c.args.code.now) q) c.deref.ensures.value in
    first c.args.code.now c.args.start.items c.new-taken.result.items c.in_ok-waits.waits.items c.new-taken.ensures.items (omega (arith, c.requires.len, c.args.start.ok.0)) (omega (arith, c.in_ok-waits.ensures.len, c.in_ok-waits.waits.ok.0)) e

pub release-requires-clause-inside : goal.release-requires-clause-inside
release-requires-clause-inside c = λ q is. let low = fall_inside c.args.code.now c.in-Some.pc q (sym c.fall_to-fall.ensures ∙ is) in omega (arith, low, c.loop-pc.invariant.len.1, c.loop-pc.waits.ok.0)

pub release-requires-in-Some-clause-inside : goal.release-requires-in-Some-clause-inside
release-requires-in-Some-clause-inside c = λ q is. let low = jump_inside c.args.code.now c.in-Some.pc q (sym c.jump_to-jump.ensures ∙ is) in omega (arith, low, c.loop-pc.invariant.len.1, c.release.ensures.len, c.loop-pc.waits.ok.0)

-- what leads from a live slot is counted
counted : (code : List Insn) (start live : List Bool) (taken waits : List ℕ) (from p q : ℕ) (next jump : Option ℕ) → IsTaking code start live taken waits from → marked live p ≡ true →
    next ≡ fall_to code p → jump ≡ jump_to code p → one next q + one jump q ≤ slice_index waits q
counted code start live taken waits from p q next jump t on e e' =
    let low = marked_inside live p on in
    let all = into_edge code (marked live) (length code) p q (omega (arith, low, t.len.0)) on in
    let a : one next q ≡ one (fall_to code p) q = ap (λ (o : Option ℕ). one o q) e in
    let b : one jump q ≡ one (jump_to code p) q = ap (λ (o : Option ℕ). one o q) e' in
    omega (arith, all, a, b, hits_parts code p q, t.counts q)

pub release-requires-clause-some : goal.release-requires-clause-some
release-requires-clause-some c = λ q.
    let free = free_at c.loop-pc.live.items c.deref-in-loop-pc.result.now c.loop-pc.waits.items c.deref-in-loop-pc-2.result.now c.in-Some.pc c.deref-in-loop-pc.ensures.value c.deref-in-loop-pc-2.ensures.value c.in-Some.ensures.free in
    let all = counted c.args.code.now c.args.start.items c.loop-pc.live.items c.loop-pc.taken.items c.loop-pc.waits.items c.loop-pc.from c.in-Some.pc q c.fall_to-fall.result c.jump_to-jump.result c.loop-pc.invariant free.0 c.fall_to-fall.ensures c.jump_to-jump.ensures in
    omega (arith, all)

pub release-requires-in-Some-clause-some : goal.release-requires-in-Some-clause-some
release-requires-in-Some-clause-some c = λ q.
    let free = free_at c.loop-pc.live.items c.deref-in-loop-pc.result.now c.loop-pc.waits.items c.deref-in-loop-pc-2.result.now c.in-Some.pc c.deref-in-loop-pc.ensures.value c.deref-in-loop-pc-2.ensures.value c.in-Some.ensures.free in
    let all = counted c.args.code.now c.args.start.items c.loop-pc.live.items c.loop-pc.taken.items c.loop-pc.waits.items c.loop-pc.from c.in-Some.pc q c.fall_to-fall.result c.jump_to-jump.result c.loop-pc.invariant free.0 c.fall_to-fall.ensures c.jump_to-jump.ensures in
    omega (arith, all, c.release.ensures.fewer q)

pub loop-pc-preserved : goal.loop-pc-preserved
loop-pc-preserved c =
    let code = c.args.code.now in
    let live = c.loop-pc.live.items in
    let waits = c.loop-pc.waits.items in
    let pc = c.in-Some.pc in
    let eLive = c.deref-in-loop-pc.ensures.value in
    let eWaits = c.deref-in-loop-pc-2.ensures.value in
    let free = free_at live c.deref-in-loop-pc.result.now waits c.deref-in-loop-pc-2.result.now pc eLive eWaits c.in-Some.ensures.free in
    let pushed : c.push.new.self.items ≡ c.loop-pc.taken.items ++ pc ∷ [] = search rules in
    subst (λ (xs : List ℕ). IsTaking code c.args.start.items (slice_set live pc false) xs c.release-in-Some.new.waits.items c.lower-from.result) (sym pushed)
    (taking_on code c.args.start.items live c.loop-pc.taken.items waits c.loop-pc.from pc c.loop-pc.invariant free
    (λ q h l f. c.in-Some.ensures.first q h l (free_at c.deref-in-loop-pc.result.now live c.deref-in-loop-pc-2.result.now waits q (sym eLive) (sym eWaits) f))
    c.release-in-Some.new.waits.items c.lower-from.result
    (omega (arith, c.release.ensures.len, c.release-in-Some.ensures.len, c.release-in-Some.new.waits.ok.0, c.loop-pc.waits.ok.0))
    (λ q.
    let a : one c.fall_to-fall.result q ≡ one (fall_to code pc) q = ap (λ (o : Option ℕ). one o q) c.fall_to-fall.ensures in
    let b : one c.jump_to-jump.result q ≡ one (jump_to code pc) q = ap (λ (o : Option ℕ). one o q) c.jump_to-jump.ensures in
    omega (arith, a, b, c.release.ensures.fewer q, c.release-in-Some.ensures.fewer q, hits_parts code pc q))
    c.lower-from.ensures.low
    (λ q to. if_some c.jump_to-jump.result c.lower-from.result q c.lower-from.ensures.jump (c.jump_to-jump.ensures ∙ to)))

pub returns-clause-left : goal.returns-clause-left
returns-clause-left c =
    taking_ended c.args.code.now c.args.start.items c.loop-pc.live.items c.loop-pc.taken.items c.loop-pc.waits.items c.loop-pc.from (omega (arith, c.requires.len, c.args.start.ok.0)) c.loop-pc.invariant
    (λ q h f. c.in_default.ensures.none q h (free_at c.deref-in-loop-pc.result.now c.loop-pc.live.items c.deref-in-loop-pc-2.result.now c.loop-pc.waits.items q (sym c.deref-in-loop-pc.ensures.value) (sym c.deref-in-loop-pc-2.ensures.value) f))
