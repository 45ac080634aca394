use Rattle.std.proofs.Common.{refl}
use Rattle.xen_steps.specs.Answers.{number}
use Rattle.xen_steps.specs.Steps.{want_of}
use Rattle.xen_steps.proofs.AnswerLemmas.{answered_event}
use Rattle.xen_steps.proofs.DriveLemmas.{runs_alone, runs_more}
use Rattle.xen_turns.proofs.laws.feeding_takes_the_rests.Goals as goal

pub returns : goal.returns
returns c = record {
  kept = λ s left e p end g h. runs_alone s left e g p end h;
  only = λ s left e p end g h. runs_more s left e g p end h;
  fed = λ s a h l m. let e = answered_event (want_of s) a h l m in (e.0, (number a, e.1, refl));
}
