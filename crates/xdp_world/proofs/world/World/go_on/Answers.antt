use Rattle.std.proofs.Common.{ℕ, ◌≡◌, ◌+◌, ◌-◌, ◌<◌, [], get_or, length, refl, ◌∙◌, subst, inr, arith}
use Rattle.std.specs.Prelude.{IsTrue}
use Rattle.xen_back.specs.Queues.{rest}
use Rattle.xen_back.specs.declared.queue.Queue.{Queue}
use Rattle.xen_steps.specs.Steps.{want_of}
use Rattle.xdp_world.specs.Replays.{IsNear, Pauses}
use Rattle.xdp_world.proofs.Begins.{queue_at}
use Rattle.xdp_world.proofs.Replays.{moved_enough, moved_near, near_none, read_none, replays_none, replays_step, replays_then}
use Rattle.xdp_world.proofs.world.World.go_on.Goals as goal

pub loop-event-init : goal.loop-event-init
loop-event-init c =
    let all : c.args.most ≡ c.args.most - 0 = omega arith in
    record {
      size = refl;
      shapes = refl;
      free = c.requires.free;
      enough = c.requires.enough;
      near = λ d. subst (λ (n : ℕ). IsNear n (get_or c.args.self.now.queues.items c.args.queue d)) all (inr (c.requires.enough d).now);
      replays = replays_none c.args.self.now c.args.queue;
    }

pub has_paused-requires : goal.has_paused-requires
has_paused-requires c = omega (arith, c.requires.queue, c.loop-event.invariant.size)

pub returns-then-has_paused-clause-size : goal.returns-then-has_paused-clause-size
returns-then-has_paused-clause-size c = c.loop-event.invariant.size

pub returns-then-has_paused-clause-shapes : goal.returns-then-has_paused-clause-shapes
returns-then-has_paused-clause-shapes c = c.loop-event.invariant.shapes

pub returns-then-has_paused-clause-free : goal.returns-then-has_paused-clause-free
returns-then-has_paused-clause-free c = c.loop-event.invariant.free

pub returns-then-has_paused-clause-enough : goal.returns-then-has_paused-clause-enough
returns-then-has_paused-clause-enough c = c.loop-event.invariant.enough

pub returns-then-has_paused-clause-replays : goal.returns-then-has_paused-clause-replays
returns-then-has_paused-clause-replays c = c.loop-event.invariant.replays

pub step-requires : goal.step-requires
step-requires c = omega (arith, c.requires.queue, c.loop-event.invariant.size)

pub returns-in_err-step-clause-size : goal.returns-in_err-step-clause-size
returns-in_err-step-clause-size c = c.step.ensures.size ∙ c.loop-event.invariant.size

pub returns-in_err-step-clause-shapes : goal.returns-in_err-step-clause-shapes
returns-in_err-step-clause-shapes c = c.step.ensures.shapes ∙ c.loop-event.invariant.shapes

pub loop-event-preserved : goal.loop-event-preserved
loop-event-preserved c =
    let i = c.loop-event.invariant in
    let before = c.loop-event.self in
    let after = c.step.new.self in
    let queue = c.args.queue in
    let s = c.in_ok-step.ensures.ok in
    let left = c.args.most - c.loop-event._event in
    let q : Queue → Queue = λ d. get_or before.queues.items queue d in
    let q' : Queue → Queue = λ d. get_or after.queues.items queue d in
    let away : (d : Queue) → Pauses (want_of (rest (q d))) → ⊥ = λ d p. let t : IsTrue c.has_paused.result = (c.has_paused.ensures d).1 p in cc (t, c.if-has_paused.false) in
    let there : queue < length before.queues.items = omega (arith, c.requires.queue, i.size, before.queues.ok.0) in
    let d = queue_at before.queues.items queue there in
    let fewer : left - 1 ≡ c.args.most - (c.loop-event._event + 1) = omega arith in
    record {
      size = c.step.ensures.size ∙ i.size;
      shapes = c.step.ensures.shapes ∙ i.shapes;
      free = c.step.ensures.free queue i.free;
      enough = λ d. moved_enough c.args.most 0 (q d) (q' d) s.event (i.enough d) (s.moved i.free d);
      near = λ d. subst (λ (n : ℕ). IsNear n (q' d)) fewer (moved_near left 0 (q d) (q' d) s.event (i.near d) (away d) (s.moved i.free d));
      replays = replays_then c.args.self.now before after queue [] [] i.replays
          (replays_step before after queue 0 [] s (read_none 0 (q d) (q' d) s.event (away d) (s.moved i.free d)));
    }

pub returns-clause-size : goal.returns-clause-size
returns-clause-size c = c.loop-event.invariant.size

pub returns-clause-shapes : goal.returns-clause-shapes
returns-clause-shapes c = c.loop-event.invariant.shapes

pub returns-clause-free : goal.returns-clause-free
returns-clause-free c = c.loop-event.invariant.free

pub returns-clause-enough : goal.returns-clause-enough
returns-clause-enough c = c.loop-event.invariant.enough

pub returns-clause-pauses : goal.returns-clause-pauses
returns-clause-pauses c = λ d.
    let q = get_or c.loop-event.self.queues.items c.args.queue d in
    let none : c.args.most - c.loop-event._event ≡ 0 = omega (arith, c.loop-event-test.false) in
    near_none q (subst (λ (n : ℕ). IsNear n q) none (c.loop-event.invariant.near d))

pub returns-clause-replays : goal.returns-clause-replays
returns-clause-replays c = c.loop-event.invariant.replays
