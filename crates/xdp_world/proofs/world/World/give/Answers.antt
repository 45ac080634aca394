use Rattle.std.proofs.Common.{ℕ, ◌≡◌, ◌+◌, ◌<◌, List, [], ◌∷◌, ◌++◌, drop, get_or, length, sym, ◌∙◌, subst, take, arith}
use Rattle.std.proofs.lemmas.List.{append-nil, take-append-drop, take_all, take_more}
use Rattle.std.specs.Prelude.{IsTrue}
use Rattle.xen_back.specs.Queues.{rest}
use Rattle.xen_steps.specs.Steps.{want_of}
use Rattle.xen_steps.specs.declared.want.Want.TheVariants as want
use Rattle.xdp_world.specs.Replays.{Replays}
use Rattle.xdp_world.proofs.Begins.{queue_at}
use Rattle.xdp_world.proofs.Replays.{moved_enough, read_one, replays_step, replays_then, rests_done, rests_none}
use Rattle.xdp_world.proofs.world.World.give.Goals as goal

pub loop-answer-init : goal.loop-answer-init
loop-answer-init c =
    let g = c.in_ok-go_on.ensures in
    record { size = c.go_on.ensures.size; shapes = c.go_on.ensures.shapes; free = g.free; enough = g.enough; pauses = g.pauses; replays = g.replays }

pub has_halted-requires : goal.has_halted-requires
has_halted-requires c = omega (arith, c.requires.queue, c.loop-answer.invariant.size)

pub returns-then-has_halted-clause-size : goal.returns-then-has_halted-clause-size
returns-then-has_halted-clause-size c = c.loop-answer.invariant.size

pub returns-then-has_halted-clause-shapes : goal.returns-then-has_halted-clause-shapes
returns-then-has_halted-clause-shapes c = c.loop-answer.invariant.shapes

pub returns-then-has_halted-clause-took : goal.returns-then-has_halted-clause-took
returns-then-has_halted-clause-took c =
    let answers = c.args.answers.now in
    let i = c.loop-answer.answer-index in
    record {
      given = take i answers;
      left = drop i answers;
      split = sym (take-append-drop i answers);
      replays = c.loop-answer.invariant.replays;
      rests = λ d. rests_done (want_of (rest (get_or c.loop-answer.self.queues.items c.args.queue d))) (drop i answers) ((c.has_halted.ensures d).0 c.if-has_halted.true);
    }

pub step-requires : goal.step-requires
step-requires c = omega (arith, c.requires.queue, c.loop-answer.invariant.size)

pub returns-in_err-step-clause-size : goal.returns-in_err-step-clause-size
returns-in_err-step-clause-size c = c.step.ensures.size ∙ c.loop-answer.invariant.size

pub returns-in_err-step-clause-shapes : goal.returns-in_err-step-clause-shapes
returns-in_err-step-clause-shapes c = c.step.ensures.shapes ∙ c.loop-answer.invariant.shapes

pub go_on-requires-in-loop-answer-clause-queue : goal.go_on-requires-in-loop-answer-clause-queue
go_on-requires-in-loop-answer-clause-queue c = omega (arith, c.requires.queue, c.loop-answer.invariant.size, c.step.ensures.size)

pub go_on-requires-in-loop-answer-clause-enough : goal.go_on-requires-in-loop-answer-clause-enough
go_on-requires-in-loop-answer-clause-enough c = λ d.
    let s = c.in_ok-step.ensures.ok in
    let before = c.loop-answer.self.queues.items in
    let after = c.step.new.self.queues.items in
    let answer : ℕ = get_or c.args.answers.now c.loop-answer.answer-index 0 in
    moved_enough c.args.most answer (get_or before c.args.queue d) (get_or after c.args.queue d) s.event (c.loop-answer.invariant.enough d) (s.moved c.loop-answer.invariant.free d)

pub go_on-requires-in-loop-answer-clause-free : goal.go_on-requires-in-loop-answer-clause-free
go_on-requires-in-loop-answer-clause-free c = c.step.ensures.free c.args.queue c.loop-answer.invariant.free

pub returns-in_err-go_on-2-clause-size : goal.returns-in_err-go_on-2-clause-size
returns-in_err-go_on-2-clause-size c = c.go_on-in-loop-answer.ensures.size ∙ c.step.ensures.size ∙ c.loop-answer.invariant.size

pub returns-in_err-go_on-2-clause-shapes : goal.returns-in_err-go_on-2-clause-shapes
returns-in_err-go_on-2-clause-shapes c = c.go_on-in-loop-answer.ensures.shapes ∙ c.step.ensures.shapes ∙ c.loop-answer.invariant.shapes

pub loop-answer-preserved : goal.loop-answer-preserved
loop-answer-preserved c =
    let i = c.loop-answer.invariant in
    let answers = c.args.answers.now in
    let n = c.loop-answer.answer-index in
    let queue = c.args.queue in
    let before = c.loop-answer.self in
    let mid = c.step.new.self in
    let after = c.go_on-in-loop-answer.new.self in
    let g = c.in_ok-go_on-2.ensures in
    let s = c.in_ok-step.ensures.ok in
    let there : queue < length before.queues.items = omega (arith, c.requires.queue, i.size, before.queues.ok.0) in
    let d = queue_at before.queues.items queue there in
    let q = get_or before.queues.items queue d in
    let q' = get_or mid.queues.items queue d in
    let answer : ℕ = get_or answers n 0 in
    let away : want_of (rest q) ≡ want.Done → ⊥ = λ e. let t : IsTrue c.has_halted.result = (c.has_halted.ensures d).1 e in cc (t, c.if-has_halted.false) in
    let one : Replays before mid queue (answer ∷ []) = replays_step before mid queue answer (answer ∷ []) s (read_one answer q q' s.event (i.pauses d) away (s.moved i.free d)) in
    let so_far : Replays c.args.self.now mid queue (take n answers ++ answer ∷ []) = replays_then c.args.self.now before mid queue (take n answers) (answer ∷ []) i.replays one in
    let then : Replays c.args.self.now after queue ((take n answers ++ answer ∷ []) ++ []) = replays_then c.args.self.now mid after queue (take n answers ++ answer ∷ []) [] so_far g.replays in
    let more : (take n answers ++ answer ∷ []) ++ [] ≡ take (n + 1) answers = append-nil (take n answers ++ answer ∷ []) ∙ sym (take_more answers n 0 c.loop-answer-test.true) in
    record {
      size = c.go_on-in-loop-answer.ensures.size ∙ c.step.ensures.size ∙ i.size;
      shapes = c.go_on-in-loop-answer.ensures.shapes ∙ c.step.ensures.shapes ∙ i.shapes;
      free = g.free;
      enough = g.enough;
      pauses = g.pauses;
      replays = subst (λ (l : List ℕ). Replays c.args.self.now after queue l) more then;
    }

pub returns-clause-size : goal.returns-clause-size
returns-clause-size c = c.loop-answer.invariant.size

pub returns-clause-shapes : goal.returns-clause-shapes
returns-clause-shapes c = c.loop-answer.invariant.shapes

pub returns-clause-took : goal.returns-clause-took
returns-clause-took c =
    let answers = c.args.answers.now in
    let i = c.loop-answer.answer-index in
    let all : take i answers ≡ answers = take_all i answers c.loop-answer-test.false in
    record {
      given = answers;
      left = [];
      split = sym (append-nil answers);
      replays = subst (λ (l : List ℕ). Replays c.args.self.now c.loop-answer.self c.args.queue l) all c.loop-answer.invariant.replays;
      rests = λ d. rests_none (want_of (rest (get_or c.loop-answer.self.queues.items c.args.queue d))) (c.loop-answer.invariant.pauses d);
    }
