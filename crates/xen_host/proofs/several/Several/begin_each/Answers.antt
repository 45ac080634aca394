use Rattle.std.proofs.Common.{◌≡◌, ◌<◌, ◌^◌, ℕ, suc, ◌+◌, ◌-◌, ◌++◌, ◌∙◌, ap, subst, sym, arith}
use Rattle.xen_host.specs.Sweeps.{BeginsLane, HaveBegun, sweep_at}
use Rattle.xen_host.specs.Wired.{wiring_of}
use Rattle.xen_host.specs.declared.lane_host.Ahead.{Ahead}
use Rattle.xen_host.specs.declared.several.Several.{Several}
use Rattle.xen_steps.specs.Places.{add32}
use Rattle.xen_host.proofs.SweepBeginLemmas.{is_shown}
use Rattle.xen_host.proofs.SweepLemmas.{keeps_then, went_then}
use Rattle.xen_host.proofs.several.Several.begin_each.Goals as goal

pub begin_lane-requires-clause-shown : goal.begin_lane-requires-clause-shown
begin_lane-requires-clause-shown g c =
    let i = c.each.invariant in
    let shown = ap (λ (v : Several). v.shown) i.same in
    let small : add32 c.each.host.ahead.start c.each.host.ahead.taken < 2 ^ 32 = omega arith in
    is_shown (add32 c.each.host.ahead.start c.each.host.ahead.taken) (c.each.self.shown - c.each.host.ahead.taken) small (omega (arith, shown, c.requires.shown))

pub each-preserved : goal.each-preserved
each-preserved g c =
    let i = c.each.invariant in
    let e = c.begin_lane.ensures in
    let w = wiring_of c.args.wires.now in
    let did = g.T.Tallies.did w.program.now.shapes in
    let n : suc c.each.k ≡ c.each.k + 1 = omega arith in
    let old = sweep_at (record c.args.self.now { rx_index = c.args.state.now.rx_index }) 0 c.args.counters.now c.args.host.now in
    let mid = sweep_at c.each.self 0 c.each.counters c.each.host in
    let new = sweep_at c.begin_lane.new.self 0 c.begin_lane.new.counters c.begin_lane.new.host in
    let count = ap (λ (a : Ahead). a.count) i.ahead in
    let begun = e.begun c.args.state.now (sym c.requires.start ∙ sym (ap (λ (a : Ahead). a.start) i.ahead)) (sym (ap (λ (v : Several). v.rx_index) i.same)) in
    let here : BeginsLane did w c.args.state.now c.args.self.now.shown c.args.host.now.ahead.count c.each.k mid new =
    subst (λ (x : ℕ). BeginsLane did w c.args.state.now x c.args.host.now.ahead.count c.each.k mid new) (ap (λ (v : Several). v.shown) i.same)
    (subst (λ (x : ℕ). BeginsLane did w c.args.state.now c.each.self.shown x c.each.k mid new) count begun) in
    record {
      fits = e.fits;
      same = e.same ∙ ap (λ (v : Several). record v { lanes = c.begin_lane.new.self.lanes }) i.same;
      begun = subst (λ (k : ℕ). HaveBegun did w c.args.state.now c.args.self.now.shown c.args.host.now.ahead.count k old new) n (mid, i.begun, here);
      ahead = e.ahead ∙ ap (λ (a : Ahead). record a { taken = c.begin_lane.new.host.ahead.taken }) i.ahead;
      taken = omega (arith, i.taken, e.taken);
      few = omega (arith, e.few, count);
      room = omega (arith, i.room, e.most);
      went = (i.went.0 ++ e.went.0, went_then did i.went.0 e.went.0 c.args.counters.now c.each.counters c.begin_lane.new.counters i.went.1 e.went.1);
      keeps = keeps_then c.args.host.now c.each.host c.begin_lane.new.host i.keeps e.keeps;
    }
