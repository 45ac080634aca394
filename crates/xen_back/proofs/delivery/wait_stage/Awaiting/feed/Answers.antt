use Rattle.std.proofs.Common.{refl, ap, ◌∙◌}
use Rattle.xen_steps.specs.Answers.{counter_in}
use Rattle.xen_steps.specs.Steps.{next_by}
use Rattle.xen_steps.proofs.AnswerLemmas.{fed_by}
use Rattle.xen_back.specs.WaitsByEvent.{left_of_wait}
use Rattle.xen_back.proofs.delivery.wait_stage.Awaiting.feed.Goals as goal

pub returns : goal.returns
returns c =
    let a = c.args.self.now in
    let s = left_of_wait a in
    let counter = counter_in c.args.answer in
    record {
      left = c.looking_fed-self.ensures a.rx counter ∙ ap (λ v. next_by s v counter) c.word-word.ensures ∙ fed_by s c.args.answer c.requires;
      rx = refl;
      state = refl;
    }
