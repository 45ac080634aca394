use Rattle.std.proofs.Common.{◌≡◌, ◌<◌, ◌^◌, refl, ap, ◌∙◌, arith}
use Rattle.xen_steps.specs.Answers.{counter_in, number, word_in}
use Rattle.xen_steps.specs.Drive.{IsPageWant}
use Rattle.xen_steps.specs.Steps.{next, next_by, want_of}
use Rattle.xen_steps.proofs.AnswerLemmas.{fed_by}
use Rattle.xen_steps.proofs.FinishLemmas.{finishes_next, finishes_want}
use Rattle.xen_back.specs.ByEvent.{frames_of, left_of}
use Rattle.xen_back.specs.Deliveries.{rest_moving}
use Rattle.xen_back.specs.declared.delivery.moving.Moving.{Moving}
use Rattle.xen_turns.proofs.ArriveLemmas.{page_event}
use Rattle.xen_back.proofs.delivery.underway.Delivering.feed.Goals as goal

pub invariant_of-self : goal.invariant_of-self
invariant_of-self c =
    let d = c.args.self.now in
    let s = left_of d in
    let a = c.args.answer in
    let went : rest_moving d.vif d.state c.moving_fed-self.result ≡ next s (number a) = c.moving_fed-self.ensures (counter_in a)
    ∙ ap (λ (m : Moving). next_by (rest_moving d.vif d.state m) c.word-word.result (counter_in a)) c.replace-moving.ensures.value
    ∙ ap (λ v. next_by s v (counter_in a)) c.word-word.ensures
    ∙ fed_by s a c.requires in
    let word : word_in a < 2 ^ 32 = omega (arith, c.word-word.ensures, c.word-word.type_inv) in
    let within = IsPageWant (frames_of d) in
    let e = page_event (frames_of d) (want_of s) a (finishes_want within s d.left) c.requires word in
    record { left = finishes_next within s (rest_moving d.vif d.state c.moving_fed-self.result) e.0 d.left (number a, e.1, went) }

pub returns : goal.returns
returns c =
    let d = c.args.self.now in
    let s = left_of d in
    let a = c.args.answer in
    record {
      left = c.moving_fed-self.ensures (counter_in a)
          ∙ ap (λ (m : Moving). next_by (rest_moving d.vif d.state m) c.word-word.result (counter_in a)) c.replace-moving.ensures.value
          ∙ ap (λ v. next_by s v (counter_in a)) c.word-word.ensures
          ∙ fed_by s a c.requires;
      vif = refl;
      state = refl;
    }
