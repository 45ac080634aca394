use Rattle.std.proofs.Common.{◌≡◌, ◌<◌, ◌^◌, ℕ, Option, Some, refl, ap, sym, ◌∙◌, arith, subst}
use Rattle.xen_steps.specs.Answers.{Fits, counter_in, number, word_in}
use Rattle.xen_steps.specs.Steps.{next, next_by, want_of}
use Rattle.xen_steps.proofs.AnswerLemmas.{answered_event, fed_by}
use Rattle.xen_steps.proofs.FinishLemmas.{finishes_next}
use Rattle.xen_back.specs.Queues.{rest}
use Rattle.xen_back.specs.Rest.{rest_in, rest_of_stage}
use Rattle.xen_turns.specs.Within.{may_want}
use Rattle.xen_back.specs.declared.by_event.stage.Stage.{Stage}
use Rattle.xen_back.specs.declared.queue.Queue.{Queue}
use Rattle.xen_turns.specs.declared.state.State.{State}
use Rattle.xen_steps.specs.declared.want.Answer.{Answer}
use Rattle.xen_back.proofs.queue.Queue.feed.Goals as goal

-- a stage that was made of the queue's by an answer has left what follows that answer
fed : (q : Queue) (a : Answer) (now after : Stage) (taken : Option Stage) (state : State) (word counter : ℕ) →
    state ≡ q.engine.state → taken ≡ q.stage → taken ≡ Some now → word ≡ word_in a → counter ≡ counter_in a → Fits (want_of (rest q)) a →
    rest_in q.wiring state after ≡ next_by (rest_in q.wiring state now) word counter → rest_in q.wiring q.engine.state after ≡ next (rest q) (number a)
fed q a now after taken state word counter here mine some words counters fits went =
    let s = rest q in
    subst (λ (v : State). rest_in q.wiring v after ≡ next_by (rest_in q.wiring v now) word counter) here went
    ∙ ap (λ (g : Option Stage). next_by (rest_of_stage q.wiring q.engine.state g) word counter) (sym some ∙ mine)
    ∙ ap (λ v. next_by s v counter) words
    ∙ ap (λ v. next_by s (word_in a) v) counters
    ∙ fed_by s a fits

pub invariant_of-self : goal.invariant_of-self
invariant_of-self c =
    let q = c.args.self.now in
    let s = rest q in
    let a = c.args.answer in
    let word : word_in a < 2 ^ 32 = omega (arith, c.word-word.ensures, c.word-word.type_inv) in
    let counter : counter_in a < 2 ^ 64 = omega (arith, c.counter-counter.ensures, c.counter-counter.type_inv) in
    let went = fed q c.args.answer c.in-Some.stage c.stage_fed-next.result c.take.result c.state.result c.word-word.result c.counter-counter.result c.state.ensures c.take.ensures.value c.in-Some.is
    c.word-word.ensures c.counter-counter.ensures c.requires c.stage_fed-next.ensures in
    let e = answered_event (want_of s) a c.requires word counter in
    record {
      here = refl;
      rests = q.rests;
      wired = q.wired;
      turns = q.turns;
      left = finishes_next (may_want q.wiring) s (rest_in q.wiring q.engine.state c.stage_fed-next.result) e.0 q.left (number a, e.1, went);
    }

pub returns : goal.returns
returns c =
    record {
      rest = fed c.args.self.now c.args.answer c.in-Some.stage c.stage_fed-next.result c.take.result c.state.result c.word-word.result c.counter-counter.result c.state.ensures c.take.ensures.value c.in-Some.is
          c.word-word.ensures c.counter-counter.ensures c.requires c.stage_fed-next.ensures;
      state = refl;
      same = record { wiring = refl; tx_ring = refl; rx_ring = refl };
    }
