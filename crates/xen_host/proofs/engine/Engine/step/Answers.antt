use Rattle.std.proofs.Common.{[], ◌∷◌, refl, sym, ap, ◌∙◌, subst}
use Rattle.std.specs.Prelude.{slice_index}
use Rattle.xdp_program.specs.Tallies.{Went}
use Rattle.xen_host.specs.EarlySteps.{StepKeeps}
use Rattle.xen_host.specs.HostLed.{GoesOnAt}
use Rattle.xen_host.specs.declared.stage.Stage.{Stage}
use Rattle.xen_page.specs.declared.place.Place.{Place}
use Rattle.xen_steps.specs.Places.{page_word}
use Rattle.xen_host.proofs.EarlyStepLemmas.{keeps_other}
use Rattle.xen_host.proofs.FedLemmas.{words_below}
use Rattle.xen_host.proofs.RanLedLemmas.{ran_none}
use Rattle.xen_host.proofs.StageLemmas.{fill_goes}
use Rattle.xen_host.specs.EngineAt.{engine_at}
use Rattle.xen_host.proofs.engine.Engine.step.Goals as goal

pub returns-in-Announce : goal.returns-in-Announce
returns-in-Announce g c =
    let q = engine_at (g.W.Wires.wiring c.args.wires.now) (g.R.Room.held c.args.packet.now) c.args.self.now in
    let n = c.args.counters.now in
    let did = g.T.Tallies.did q.wires.program.now.shapes in
    let r = c.looked_again in
    record {
      led = subst (λ (x : Stage). GoesOnAt g.H.Host.was_asked g.H.Host.is_full g.H.Host.has_given x q (engine_at q.wires (g.R.Room.held r.new.packet) r.new.self) (Went did n n) c.args.host.now r.new.host) (sym c.in-Announce.is)
          (record { words = _; mid = c.word-producer.new.self; given = (refl, subst (λ (x : Place). g.H.Host.has_given c.args.host.now x (c.word-producer.result ∷ []) c.word-producer.new.self) (c.header.ensures ∙ ap (λ k. page_word k 0) c.tx.ensures) c.word-producer.ensures.given, (c.word-producer.type_inv, tt)); led = ran_none _ _ _ _ _ (Went (g.T.Tallies.did q.wires.program.now.shapes) c.args.counters.now c.args.counters.now) _ _ refl r.ensures.led });
      keeps = subst (λ (x : Stage). StepKeeps g.H.Host.has_given x q (engine_at q.wires (g.R.Room.held r.new.packet) r.new.self) c.args.host.now) (sym c.in-Announce.is)
          (keeps_other _ _ _ _ _ refl refl (λ h k. absurd (cc h)));
    }

pub returns-in-Slot : goal.returns-in-Slot
returns-in-Slot g c =
    let q = engine_at (g.W.Wires.wiring c.args.wires.now) (g.R.Room.held c.args.packet.now) c.args.self.now in
    let n = c.args.counters.now in
    let did = g.T.Tallies.did q.wires.program.now.shapes in
    let r = c.after_slot in
    record {
      led = subst (λ (x : Stage). GoesOnAt g.H.Host.was_asked g.H.Host.is_full g.H.Host.has_given x q (engine_at q.wires (g.R.Room.held r.new.packet) r.new.self) (Went did n r.new.counters) c.args.host.now r.new.host) (sym c.in-Slot.is)
          (record { words = _; mid = c.three.new.self; given = (refl, subst (λ (x : Place). g.H.Host.has_given c.args.host.now x (slice_index c.three.result 0 ∷ slice_index c.three.result 1 ∷ slice_index c.three.result 2 ∷ []) c.three.new.self) c.slot_place.ensures c.three.ensures.given, words_below (slice_index c.three.result 0 ∷ slice_index c.three.result 1 ∷ slice_index c.three.result 2 ∷ []) c.are_words.ensures); led = r.ensures.led });
      keeps = subst (λ (x : Stage). StepKeeps g.H.Host.has_given x q (engine_at q.wires (g.R.Room.held r.new.packet) r.new.self) c.args.host.now) (sym c.in-Slot.is)
          (record {
            early = λ h k. record {
              words = slice_index c.three.result 0 ∷ slice_index c.three.result 1 ∷ slice_index c.three.result 2 ∷ [];
              mid = c.three.new.self;
              given = (refl, subst (λ (x : Place). g.H.Host.has_given c.args.host.now x (slice_index c.three.result 0 ∷ slice_index c.three.result 1 ∷ slice_index c.three.result 2 ∷ []) c.three.new.self) c.slot_place.ensures c.three.ensures.given, words_below (slice_index c.three.result 0 ∷ slice_index c.three.result 1 ∷ slice_index c.three.result 2 ∷ []) c.are_words.ensures);
              stays = r.ensures.early k;
            };
            on = λ h k. r.ensures.on k;
            rx = λ h. r.ensures.rx;
            answers = λ h. absurd (cc h);
            late = λ h k. absurd (cc h);
          });
    }

pub returns-in-Entry : goal.returns-in-Entry
returns-in-Entry g c =
    let q = engine_at (g.W.Wires.wiring c.args.wires.now) (g.R.Room.held c.args.packet.now) c.args.self.now in
    let n = c.args.counters.now in
    let did = g.T.Tallies.did q.wires.program.now.shapes in
    let r = c.step_entry in
    record {
      led = subst (λ (x : Stage). GoesOnAt g.H.Host.was_asked g.H.Host.is_full g.H.Host.has_given x q (engine_at q.wires (g.R.Room.held r.new.packet) r.new.self) (Went did n r.new.counters) c.args.host.now r.new.host) (sym c.in-Entry.is) r.ensures.led;
      keeps = subst (λ (x : Stage). StepKeeps g.H.Host.has_given x q (engine_at q.wires (g.R.Room.held r.new.packet) r.new.self) c.args.host.now) (sym c.in-Entry.is)
          (r.ensures.keeps);
    }

pub returns-in-Push : goal.returns-in-Push
returns-in-Push g c =
    let q = engine_at (g.W.Wires.wiring c.args.wires.now) (g.R.Room.held c.args.packet.now) c.args.self.now in
    let n = c.args.counters.now in
    let did = g.T.Tallies.did q.wires.program.now.shapes in
    let r = c.after_event in
    record {
      led = subst (λ (x : Stage). GoesOnAt g.H.Host.was_asked g.H.Host.is_full g.H.Host.has_given x q (engine_at q.wires (g.R.Room.held r.new.packet) r.new.self) (Went did n n) c.args.host.now r.new.host) (sym c.in-Push.is)
          (record { words = _; mid = c.word-event.new.self; given = (refl, subst (λ (x : Place). g.H.Host.has_given c.args.host.now x (c.word-event.result ∷ []) c.word-event.new.self) (c.header-in-Push.ensures ∙ ap (λ k. page_word k 3) c.tx-in-Push.ensures) c.word-event.ensures.given, (c.word-event.type_inv, tt)); led = ran_none _ _ _ _ _ (Went (g.T.Tallies.did q.wires.program.now.shapes) c.args.counters.now c.args.counters.now) _ _ refl r.ensures.led });
      keeps = subst (λ (x : Stage). StepKeeps g.H.Host.has_given x q (engine_at q.wires (g.R.Room.held r.new.packet) r.new.self) c.args.host.now) (sym c.in-Push.is)
          (keeps_other _ _ _ _ _ refl refl (λ h k. absurd (cc k)));
    }

pub returns-in-Respond : goal.returns-in-Respond
returns-in-Respond g c =
    let q = engine_at (g.W.Wires.wiring c.args.wires.now) (g.R.Room.held c.args.packet.now) c.args.self.now in
    let n = c.args.counters.now in
    let did = g.T.Tallies.did q.wires.program.now.shapes in
    let r = c.respond_from in
    record {
      led = subst (λ (x : Stage). GoesOnAt g.H.Host.was_asked g.H.Host.is_full g.H.Host.has_given x q (engine_at q.wires q.work.packet r.new.self) (Went did n n) c.args.host.now r.new.host) (sym c.in-Respond.is)
          (record { words = []; mid = c.args.host.now; given = (refl, refl); led = ran_none _ _ _ _ _ (Went (g.T.Tallies.did q.wires.program.now.shapes) c.args.counters.now c.args.counters.now) _ _ refl (r.ensures.led q.work.packet) });
      keeps = subst (λ (x : Stage). StepKeeps g.H.Host.has_given x q (engine_at q.wires q.work.packet r.new.self) c.args.host.now) (sym c.in-Respond.is)
          (record { early = λ h k. absurd (cc h); on = λ h k. absurd (cc h); rx = λ h. absurd (cc h); answers = λ h. r.ensures.rx; late = λ h k. r.ensures.late });
    }

pub returns-in-Notice : goal.returns-in-Notice
returns-in-Notice g c =
    let q = engine_at (g.W.Wires.wiring c.args.wires.now) (g.R.Room.held c.args.packet.now) c.args.self.now in
    let n = c.args.counters.now in
    let did = g.T.Tallies.did q.wires.program.now.shapes in
    let r = c.answered in
    record {
      led = subst (λ (x : Stage). GoesOnAt g.H.Host.was_asked g.H.Host.is_full g.H.Host.has_given x q (engine_at q.wires (g.R.Room.held r.new.packet) r.new.self) (Went did n n) c.args.host.now r.new.host) (sym c.in-Notice.is)
          (record { words = []; mid = c.args.host.now; given = (refl, refl); led = ran_none _ _ _ _ _ (Went (g.T.Tallies.did q.wires.program.now.shapes) c.args.counters.now c.args.counters.now) _ _ refl (r.ensures.led q.wires) });
      keeps = subst (λ (x : Stage). StepKeeps g.H.Host.has_given x q (engine_at q.wires (g.R.Room.held r.new.packet) r.new.self) c.args.host.now) (sym c.in-Notice.is)
          (keeps_other _ _ _ _ _ refl refl (λ h k. absurd (cc h)));
    }

pub returns-in-Page : goal.returns-in-Page
returns-in-Page g c =
    let q = engine_at (g.W.Wires.wiring c.args.wires.now) (g.R.Room.held c.args.packet.now) c.args.self.now in
    let n = c.args.counters.now in
    let did = g.T.Tallies.did q.wires.program.now.shapes in
    let r = c.step_page in
    record {
      led = subst (λ (x : Stage). GoesOnAt g.H.Host.was_asked g.H.Host.is_full g.H.Host.has_given x q (engine_at q.wires (g.R.Room.held r.new.packet) r.new.self) (Went did n r.new.counters) c.args.host.now r.new.host) (sym c.in-Page.is) r.ensures.led;
      keeps = subst (λ (x : Stage). StepKeeps g.H.Host.has_given x q (engine_at q.wires (g.R.Room.held r.new.packet) r.new.self) c.args.host.now) (sym c.in-Page.is)
          (r.ensures.keeps);
    }

pub returns-in-Fill : goal.returns-in-Fill
returns-in-Fill g c =
    let q = engine_at (g.W.Wires.wiring c.args.wires.now) (g.R.Room.held c.args.packet.now) c.args.self.now in
    let n = c.args.counters.now in
    let did = g.T.Tallies.did q.wires.program.now.shapes in
    let r = c.after_fill in
    record {
      led = subst (λ (x : Stage). GoesOnAt g.H.Host.was_asked g.H.Host.is_full g.H.Host.has_given x q (engine_at q.wires (g.R.Room.held r.new.packet) r.new.self) (Went did n n) c.args.host.now r.new.host) (sym c.in-Fill.is)
          (fill_goes _ _ _ c.in-Fill.fill c.in-Fill.purpose q (engine_at q.wires (g.R.Room.held r.new.packet) r.new.self) (Went did n n) _ _ refl r.ensures.led);
      keeps = subst (λ (x : Stage). StepKeeps g.H.Host.has_given x q (engine_at q.wires (g.R.Room.held r.new.packet) r.new.self) c.args.host.now) (sym c.in-Fill.is)
          (keeps_other _ _ _ _ _ refl refl (λ h k. r.ensures.late));
    }

pub returns-in-Deliver : goal.returns-in-Deliver
returns-in-Deliver g c =
    let q = engine_at (g.W.Wires.wiring c.args.wires.now) (g.R.Room.held c.args.packet.now) c.args.self.now in
    let n = c.args.counters.now in
    let did = g.T.Tallies.did q.wires.program.now.shapes in
    let r = c.start_delivery in
    record {
      led = subst (λ (x : Stage). GoesOnAt g.H.Host.was_asked g.H.Host.is_full g.H.Host.has_given x q (engine_at q.wires (g.R.Room.held r.new.packet) r.new.self) (Went did n n) c.args.host.now r.new.host) (sym c.in-Deliver.is)
          (r.ensures.led, refl);
      keeps = subst (λ (x : Stage). StepKeeps g.H.Host.has_given x q (engine_at q.wires (g.R.Room.held r.new.packet) r.new.self) c.args.host.now) (sym c.in-Deliver.is)
          (keeps_other _ _ _ _ _ refl refl (λ h k. absurd (cc h)));
    }

pub returns-in-Wait : goal.returns-in-Wait
returns-in-Wait g c =
    let q = engine_at (g.W.Wires.wiring c.args.wires.now) (g.R.Room.held c.args.packet.now) c.args.self.now in
    let n = c.args.counters.now in
    let did = g.T.Tallies.did q.wires.program.now.shapes in
    let r = c.wait_begun in
    record {
      led = subst (λ (x : Stage). GoesOnAt g.H.Host.was_asked g.H.Host.is_full g.H.Host.has_given x q (engine_at q.wires q.work.packet r.new.self) (Went did n n) c.args.host.now r.new.host) (sym c.in-Wait.is)
          ((r.ensures.led q.work.packet), refl);
      keeps = subst (λ (x : Stage). StepKeeps g.H.Host.has_given x q (engine_at q.wires q.work.packet r.new.self) c.args.host.now) (sym c.in-Wait.is)
          (keeps_other _ _ _ _ _ refl refl (λ h k. absurd (cc h)));
    }

pub returns-in-WaitLook : goal.returns-in-WaitLook
returns-in-WaitLook g c =
    let q = engine_at (g.W.Wires.wiring c.args.wires.now) (g.R.Room.held c.args.packet.now) c.args.self.now in
    let n = c.args.counters.now in
    let did = g.T.Tallies.did q.wires.program.now.shapes in
    let r = c.wait_looked in
    record {
      led = subst (λ (x : Stage). GoesOnAt g.H.Host.was_asked g.H.Host.is_full g.H.Host.has_given x q (engine_at q.wires q.work.packet r.new.self) (Went did n n) c.args.host.now r.new.host) (sym c.in-WaitLook.is)
          (record { words = _; mid = c.word-producer-in-WaitLook.new.self; given = (refl, subst (λ (x : Place). g.H.Host.has_given c.args.host.now x (c.word-producer-in-WaitLook.result ∷ []) c.word-producer-in-WaitLook.new.self) (c.header-in-WaitLook.ensures ∙ ap (λ k. page_word k 0) c.rx.ensures) c.word-producer-in-WaitLook.ensures.given, (c.word-producer-in-WaitLook.type_inv, tt)); led = (r.ensures.led q.wires q.work.packet) }, refl);
      keeps = subst (λ (x : Stage). StepKeeps g.H.Host.has_given x q (engine_at q.wires q.work.packet r.new.self) c.args.host.now) (sym c.in-WaitLook.is)
          (keeps_other _ _ _ _ _ refl refl (λ h k. absurd (cc h)));
    }

pub returns-in-Ready-clause-keeps : goal.returns-in-Ready-clause-keeps
returns-in-Ready-clause-keeps g c =
    let q = engine_at (g.W.Wires.wiring c.args.wires.now) (g.R.Room.held c.args.packet.now) c.args.self.now in
    subst (λ (x : Stage). StepKeeps g.H.Host.has_given x q q c.args.host.now) (sym c.in-Ready.is) (keeps_other _ _ _ _ _ refl refl (λ h k. absurd (cc k)))

pub returns-in-Several-clause-keeps : goal.returns-in-Several-clause-keeps
returns-in-Several-clause-keeps g c =
    let q = engine_at (g.W.Wires.wiring c.args.wires.now) (g.R.Room.held c.args.packet.now) c.args.self.now in
    subst (λ (x : Stage). StepKeeps g.H.Host.has_given x q q c.args.host.now) (sym c.in-Several.is) (keeps_other _ _ _ _ _ refl refl (λ h k. absurd (cc h)))
