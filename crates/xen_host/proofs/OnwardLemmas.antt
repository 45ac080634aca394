-- One of several turns that goes on, or begins, is under way then, as the others are.
use Rattle.std.proofs.Common.{◌≡◌, ◌≢◌, ℕ, true, false, Bool, ◌∷◌, ◌++◌, drop, refl, subst}
use Rattle.bpf_note.specs.declared.op.Op.{Op as Operation}
use Rattle.xdp_program.specs.Tallies.{Went}
use Rattle.xen_steps.specs.Finish.{Ends, Finishes}
use Rattle.xen_steps.specs.Steps.{Steps, ask, done, never}
use Rattle.xen_steps.specs.declared.want.Want.{Want}
use Rattle.xen_turns.specs.Tree.{whole_turn}
use Rattle.xen_turns.specs.Turned.{Ending}
use Rattle.xen_turns.specs.Within.{TurnsComplete, may_want}
use Rattle.xen_turns.specs.Woven.{by_turn}
use Rattle.xen_turns.specs.declared.state.State.{State}
use Rattle.xen_turns.specs.declared.wiring.Wiring.{Wiring}
use Rattle.xen_steps.specs.Drive.{Any}
use Rattle.xen_host.specs.Asks.{read_by}
use Rattle.xen_host.specs.EngineAt.{EngineAt, WorkAt}
use Rattle.xen_host.specs.LaneSteps.{goes_at, lane_at}
use Rattle.xen_host.specs.Lanes.{EndsPast, LaneAt, held_at, own}
use Rattle.xen_host.specs.Severals.{Group, ahead_of, look_of}
use Rattle.xen_host.specs.declared.stage.Stage.{Stage}
use Rattle.xen_host.specs.declared.stage.Stage.TheVariants as stage
use Rattle.xen_host.proofs.LanesOnwardLemmas.{lane_goes_onward}
use Rattle.xen_host.proofs.LanesStepLemmas.{ends_past_kept, ends_past_none}
use Rattle.xen_host.proofs.SweepLemmas.{AreLanesNow, GoesOnward, events_by}

finishing_ends : (within : Want → Type 0) (s : Steps Ending) → Finishes within s → Ends Any s
finishing_ends within (done x) h = tt
finishing_ends within (ask w k) h = (h.1.0, λ a e o. finishing_ends within (k a) (h.1.1 a e o))
finishing_ends within never h = h

pub all_end : (w : Wiring) → TurnsComplete w → (s : State) → Ends Any (whole_turn w s)
all_end w turns s = finishing_ends (may_want w) (whole_turn w s) (turns s)

-- One that is held goes on no more.
goes_unheld : (next : Bool) (g : Stage) (b : WorkAt) → goes_at next g b ≡ true → held_at g ≡ false
goes_unheld next stage.Ready b e = refl
goes_unheld next stage.Announce b e = refl
goes_unheld next (stage.Slot left) b e = refl
goes_unheld next (stage.Entry i at) b e = refl
goes_unheld next (stage.Page i f frame) b e = refl
goes_unheld next (stage.Fill f p) b e = refl
goes_unheld next (stage.Respond i) b e = refl
goes_unheld next stage.Push b e = cc e
goes_unheld next stage.Notice b e = refl
goes_unheld next (stage.Deliver producer) b e = refl
goes_unheld next (stage.Wait pages) b e = refl
goes_unheld next (stage.WaitLook pages) b e = refl
goes_unheld next stage.Several b e = refl

pub goes_onward : {C : Type 0} (did : Operation → C → C → Type 0) (w : Wiring) (g : Group) → TurnsComplete w → w.vif.tx ≢ w.vif.rx → GoesOnward did w g
goes_onward {C} did w g turns apart k before l more next rx rx_after limit made old new lane lane_after index first are engine on standing steps goes =
    let here : LaneAt = record { engine = lane_at w lane; began = l.began; asked = l.asked } in
    let there = subst (λ (e : EngineAt). AreLanesNow did w g (before ++ record { engine = e; began = l.began; asked = l.asked } ∷ more) rx made) engine are in
    let ends = EndsPast g.state.tx_index (ahead_of g) in
    let o = lane_goes_onward w (all_end w turns) apart g.producer ends (ends_past_none g.state.tx_index (ahead_of g)) (ends_past_kept g.state.tx_index (ahead_of g)) g.state (look_of w g) refl before here more next rx rx_after made (lane_at w lane_after)
    (λ labels. Went did old.counters new.counters labels) (own k) limit old.ops new.ops old.count new.count old.lent new.lent first there on (goes_unheld next lane.engine.stage (lane_at w lane).work on) steps.index goes in
    (o.0, o.1, o.2, subst (λ (i : ℕ). AreLanesNow did w g (before ++ o.0 ∷ more) rx_after (made ++ by_turn i (events_by did w g k (read_by l.asked (drop (own k) old.lent)) goes.labels goes.first goes.last new.lent))) index o.3)
