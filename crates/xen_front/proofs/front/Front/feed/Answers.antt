use Rattle.std.proofs.Common.{List, ℕ, ap, refl, sym, ◌∙◌}
use Rattle.xen_steps.specs.Answers.{counter_in, number}
use Rattle.xen_steps.specs.Steps.{next_by}
use Rattle.xen_steps.proofs.AnswerLemmas.{fed_by}
use Rattle.xen_front.specs.Fronts.{rest}
use Rattle.xen_front.specs.Rest.{rest_at}
use Rattle.xen_front.specs.declared.by_event.phase.Phase.{Phase}
use Rattle.xen_front.proofs.ShortLemmas.{short_fed}
use Rattle.xen_front.proofs.front.Front.feed.Goals as goal

pub invariant_of-self-clause-short : goal.invariant_of-self-clause-short
invariant_of-self-clause-short c =
    let f = c.args.self.now in
    let s = rest f in
    short_fed f.wiring f.state c.phase_fed-self.new.state f.sent f.sent f.received c.phase_fed-self.new.received f.phase c.phase_fed-self.result (number c.args.answer) f.short
    (ap (λ (p : List ℕ). rest_at f.wiring c.phase_fed-self.new.state p c.phase_fed-self.new.received c.phase_fed-self.result) (sym c.bytes.ensures.same)
    ∙ c.phase_fed-self.ensures.rest (counter_in c.args.answer)
    ∙ ap (λ (x : Phase). next_by (rest_at f.wiring f.state c.bytes.result.now f.received x) c.word-word.result (counter_in c.args.answer)) c.replace-phase.ensures.value
    ∙ ap (λ (p : List ℕ). next_by (rest_at f.wiring f.state p f.received f.phase) c.word-word.result (counter_in c.args.answer)) c.bytes.ensures.same
    ∙ ap (λ v. next_by s v (counter_in c.args.answer)) c.word-word.ensures
    ∙ fed_by s c.args.answer c.requires)

pub returns : goal.returns
returns c =
    let f = c.args.self.now in
    let s = rest f in
    record {
      rest =
          ap (λ (p : List ℕ). rest_at f.wiring c.phase_fed-self.new.state p c.phase_fed-self.new.received c.phase_fed-self.result) (sym c.bytes.ensures.same)
          ∙ c.phase_fed-self.ensures.rest (counter_in c.args.answer)
          ∙ ap (λ (x : Phase). next_by (rest_at f.wiring f.state c.bytes.result.now f.received x) c.word-word.result (counter_in c.args.answer)) c.replace-phase.ensures.value
          ∙ ap (λ (p : List ℕ). next_by (rest_at f.wiring f.state p f.received f.phase) c.word-word.result (counter_in c.args.answer)) c.bytes.ensures.same
          ∙ ap (λ v. next_by s v (counter_in c.args.answer)) c.word-word.ensures
          ∙ fed_by s c.args.answer c.requires;
      wiring = refl;
    }
