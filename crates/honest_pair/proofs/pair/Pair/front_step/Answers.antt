use Rattle.std.proofs.Common.{◌≡◌, ℕ, refl, sym, ◌∙◌, ap, subst, inl, inr}
use Rattle.xen_front.specs.Fronts.{rest}
use Rattle.xen_steps.specs.Steps.{next}
use Rattle.xen_steps.specs.Event.{Event, Occurs}
use Rattle.xen_steps.specs.declared.want.Want.{Want}
use Rattle.honest_pair.specs.Machine.Memory.{Memory, answer}
use Rattle.honest_pair.specs.Held.{memory_in}
use Rattle.honest_pair.specs.Shows.{IsGoing}
use Rattle.honest_pair.proofs.IdleLemmas.{not_done}
use Rattle.honest_pair.proofs.FrontLemmas.{goes_front, on_ok_map, rests_front}
use Rattle.honest_pair.proofs.pair.Pair.front_step.Goals as goal

-- the event of what was answered
occurring : (v : Want) (n : ℕ) (m : Memory) → n ≡ answer v m 0 → (e : Event) × Occurs v n e → (e : Event) × Occurs v (answer v m 0) e
occurring v n m is o = (o.0, subst (λ a. Occurs v a o.0) is o.1)

pub returns-in-Done : goal.returns-in-Done
returns-in-Done c = rests_front c.args.self.now _ refl refl refl refl refl refl (sym c.want-want.ensures.want ∙ c.in-Done.is)

pub returns-in-Done-want : goal.returns-in-Done-want
returns-in-Done-want c =
    let old = c.args.self.now in
    let v = c.want-want.result in
    let went : rest c.feed.new.self ≡ next (rest old.front) (answer v (memory_in old.memory) 0) = c.feed.ensures.rest ∙ ap (next (rest old.front)) c.answer-answer.ensures.number in
    on_ok_map c.receive.result c.receive.ensures (λ r. goes_front old c.receive.new.self r.world r.asleep r.calls v c.want-want.ensures.want c.in_default.not-Done (occurring v _ (memory_in old.memory) c.answer-answer.ensures.number c.answer-answer.ensures.occurs)
    (ap memory_in r.memory ∙ c.answer-answer.ensures.after) (r.front_wired ∙ c.feed.ensures.wiring) (inr (r.given, sym went ∙ r.over, r.free, r.received)))

pub returns-in_default-want : goal.returns-in_default-want
returns-in_default-want c =
    let old = c.args.self.now in
    let v = c.want-want.result in
    let went : rest c.feed.new.self ≡ next (rest old.front) (answer v (memory_in old.memory) 0) = c.feed.ensures.rest ∙ ap (next (rest old.front)) c.answer-answer.ensures.number in
    goes_front old _ refl refl refl v c.want-want.ensures.want c.in_default.not-Done (occurring v _ (memory_in old.memory) c.answer-answer.ensures.number c.answer-answer.ensures.occurs) c.answer-answer.ensures.after c.feed.ensures.wiring
    (inl (went, subst IsGoing went (not_done (rest c.feed.new.self) (λ e. c.in_default-want.not-Done (c.want.ensures.want ∙ e))), refl))
