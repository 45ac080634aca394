use Rattle.bpf_note.specs.declared.op.Op.{Op as Operation}
use Rattle.std.proofs.Common.{◌≡◌, List, Option, ℕ, ◌≤◌, ◌+◌, ◌-◌, ◌++◌, ◌∙◌, ap, length, subst, sym, arith}
use Rattle.xdp_program.specs.Tallies.{Went}
use Rattle.xen_host.specs.LaneSteps.{answered_by}
use Rattle.xen_host.specs.Sweeps.{HaveStepped, StepsLane, sweep_at}
use Rattle.xen_host.specs.Wired.{wiring_of}
use Rattle.xen_host.specs.declared.lane.Next.{Next}
use Rattle.xen_host.specs.declared.several.Several.{Several}
use Rattle.xen_host.specs.SeveralFits.{NumbersFit}
use Rattle.xen_host.specs.declared.several.Phase.{Phase}
use Rattle.xen_host.proofs.SweepLemmas.{keeps_then, step_more, went_then}
use Rattle.xen_host.proofs.several.Several.step_each.Goals.{else-each-test, then-each-test+then-not-has_room, then-each-test+else-not-has_room+in-Sends, in-Goes, in-Held}
use Rattle.xen_host.proofs.several.Several.step_each.Goals as goal

pub each-preserved : goal.each-preserved
each-preserved g c =
    let i = c.each.invariant in
    let r = c.step_lane in
    let e = r.ensures in
    let w = wiring_of c.args.wires.now in
    let did = g.T.Tallies.did w.program.now.shapes in
    let from = c.args.self.now.held in
    let limit = length c.args.host.now.ops.now in
    let old = sweep_at c.args.self.now from c.args.counters.now c.args.host.now in
    let mid = sweep_at c.each.self c.each.answered c.each.counters c.each.host in
    let j = c.match-step_lane in
    let behind : answered_by r.result c.each.k c.each.answered ≡ j.answered = elim j.branch as (λ _. answered_by r.result c.each.k c.each.answered ≡ j.answered) [
      | in-Goes b ↦ ap (λ (x : Next). answered_by x c.each.k c.each.answered) b.in-Goes.is ∙ sym b.answered-is
      | in-Held b ↦ ap (λ (x : Next). answered_by x c.each.k c.each.answered) b.in-Held.is ∙ sym b.answered-is
    ] in
    let new = sweep_at r.new.self j.answered r.new.counters r.new.host in
    let numbers = subst (λ (p : Phase). NumbersFit p c.args.self.now) c.requires.phase c.requires.fits.numbers in
    record {
      fits = e.fits;
      same = e.same ∙ ap (λ (v : Several). record v { lanes = r.new.self.lanes; rx_index = r.new.self.rx_index }) i.same;
      stepped = step_more did w limit from c.each.k old mid new c.each.auto.k i.stepped
          (subst (λ (a : ℕ). StepsLane did w limit c.each.k mid (sweep_at r.new.self a r.new.counters r.new.host)) behind
          (subst (λ (x : ℕ). StepsLane did w x c.each.k mid (sweep_at r.new.self (answered_by r.result c.each.k c.each.answered) r.new.counters r.new.host)) i.keeps.room e.stepped));
      up = elim j.branch as (λ _. j.answered ≤ c.each.k + 1) [
        | in-Goes b ↦ omega (arith, b.answered-is, i.up)
        | in-Held b ↦ omega (arith, b.answered-is)
      ];
      limit = e.limit ∙ i.limit;
      low = omega (arith, e.own, c.each-test.true, numbers.1);
      room = omega (arith, e.most, i.keeps.room);
      went = (i.went.0 ++ e.went.0, went_then did i.went.0 e.went.0 c.args.counters.now c.each.counters r.new.counters i.went.1 e.went.1);
      keeps = keeps_then c.args.host.now c.each.host r.new.host i.keeps e.keeps;
    }

pub returns-clause-stepped : goal.returns-clause-stepped
returns-clause-stepped g c =
    let i = c.each.invariant in
    let w = wiring_of c.args.wires.now in
    let did = g.T.Tallies.did w.program.now.shapes in
    let from = c.args.self.now.held in
    let limit = length c.args.host.now.ops.now in
    let numbers = subst (λ (p : Phase). NumbersFit p c.args.self.now) c.requires.phase c.requires.fits.numbers in
    let k = c.each.k in
    let old = sweep_at c.args.self.now from c.args.counters.now c.args.host.now in
    let mid = sweep_at c.each.self c.each.answered c.each.counters c.each.host in
    let last = sweep_at c.each-test.self c.each.answered c.each-test.counters c.each-test.host in
    let few : k ≤ c.args.self.now.count = c.each.auto.k-end numbers.0 in
    let goal : Type 0 = (n : ℕ) × (from + n ≤ c.args.self.now.count) × HaveStepped did w limit from n old last in
    elim c.each-test.branch as (λ _. goal) [
      | else-each-test b ↦
          let same : mid ≡ last = λ j. sweep_at (sym b.self-is j) c.each.answered (sym b.counters-is j) (sym b.host-is j) in
          (k - from, omega (arith, few, c.each.auto.k), subst (λ x. HaveStepped did w limit from (k - from) old x) same i.stepped)
      | then-each-test+then-not-has_room b ↦
          let same : mid ≡ last = λ j. sweep_at (sym b.self-is j) c.each.answered (sym b.counters-is j) (sym b.host-is j) in
          (k - from, omega (arith, few, c.each.auto.k), subst (λ x. HaveStepped did w limit from (k - from) old x) same i.stepped)
      | then-each-test+else-not-has_room+in-Sends b ↦
          let r = b.step_lane in
          let new = sweep_at r.new.self (answered_by r.result k c.each.answered) r.new.counters r.new.host in
          let behind : answered_by r.result k c.each.answered ≡ c.each.answered = ap (λ (x : Next). answered_by x k c.each.answered) b.in-Sends.is in
          let same : new ≡ last = λ j. sweep_at (sym b.self-is j) (behind j) (sym b.counters-is j) (sym b.host-is j) in (
            k + 1 - from,
            omega (arith, b.each-test.true, c.each.auto.k),
            subst (λ x. HaveStepped did w limit from (k + 1 - from) old x) same
                (step_more did w limit from k old mid new c.each.auto.k i.stepped (subst (λ (x : ℕ). StepsLane did w x k mid new) i.keeps.room r.ensures.stepped)),
          )
    ]

pub returns-clause-went : goal.returns-clause-went
returns-clause-went g c =
    let i = c.each.invariant in
    let did = g.T.Tallies.did (wiring_of c.args.wires.now).program.now.shapes in
    let before = c.args.counters.now in
    let goal : Type 0 = (labels : List (Option Operation)) × Went did before c.each-test.counters labels in
    elim c.each-test.branch as (λ _. goal) [
      | else-each-test b ↦ (i.went.0, subst (λ x. Went did before x i.went.0) (sym b.counters-is) i.went.1)
      | then-each-test+then-not-has_room b ↦ (i.went.0, subst (λ x. Went did before x i.went.0) (sym b.counters-is) i.went.1)
      | then-each-test+else-not-has_room+in-Sends b ↦
          let r = b.step_lane in
          (i.went.0 ++ r.ensures.went.0, subst (λ x. Went did before x (i.went.0 ++ r.ensures.went.0)) (sym b.counters-is) (went_then did i.went.0 r.ensures.went.0 before c.each.counters r.new.counters i.went.1 r.ensures.went.1))
    ]
