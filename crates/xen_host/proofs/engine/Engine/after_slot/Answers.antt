use Rattle.std.proofs.Common.{◌≡◌, ◌++◌, List, [], ◌∷◌, sym, ap, ◌∙◌, subst, refl}
use Rattle.std.specs.Prelude.{Option, Some, Result, Ok}
use Rattle.xen_steps.specs.Steps.{bind}
use Rattle.xdp_program.specs.Tallies.{Went}
use Rattle.xen_host.specs.HostLed.{TurnRanLeads}
use Rattle.xen_host.proofs.RanLedLemmas.{ran_from_same, ran_led}
use Rattle.xen_netif.specs.Chain.{Slot}
use Rattle.xen_netif.specs.Segments.{offered_fragments, segments_of}
use Rattle.xen_host.proofs.OffloadLemmas.{made_behind, made_of, stands_alone}
use Rattle.xen_turns.specs.Tree.{after_chain, after_scan, judged, read_slots}
use Rattle.xen_netif.specs.Standing.{standing}
use Rattle.xen_netif.specs.declared.chain.ChainState.{ChainState}
use Rattle.xen_netif.specs.declared.fault.ChainFault.{ChainFault}
use Rattle.xen_host.specs.Offload.{Offload}
use Rattle.xen_netif.specs.declared.chain.ChainState.TheVariants as wanted
use Rattle.xen_host.specs.EngineAt.{engine_at}
use Rattle.xen_host.specs.Rest.{offload_behind}
use Rattle.xen_host.proofs.EarlyLemmas.{early_as, late_early}
use Rattle.xen_turns.specs.declared.state.State.{State}
use Rattle.xen_host.specs.Early.{EarlyFrom}
use Rattle.xen_host.proofs.engine.Engine.after_slot.Goals as goal

pub returns-then-is_alone-clause-led : goal.returns-then-is_alone-clause-led
returns-then-is_alone-clause-led g c =
    let q = engine_at (g.W.Wires.wiring c.args.wires.now) (g.R.Room.held c.args.packet.now) c.args.self.now in
    let w = q.wires in
    let rest = λ (l : List Slot). read_slots w q.state.tx_index c.args.left l in
    let n = c.args.counters.now in
    let did = g.T.Tallies.did q.wires.program.now.shapes in
    let empty : q.work.chain ≡ [] = c.if-is_empty.ensures.0 refl in
    let flags = c.if-is_alone.ensures.alone refl in
    let is = stands_alone c.args.slot flags.0 flags.1 in
    let same = ap (λ (o : Option (Result ChainState ChainFault)). bind (judged (c.args.slot ∷ []) o (rest (c.args.slot ∷ []))) (after_scan w q.state)) is in
    subst (λ (l : List Slot). TurnRanLeads g.H.Host.was_asked g.H.Host.is_full (offload_behind w.offers l c.args.slot q.offload) (bind (judged (l ++ c.args.slot ∷ []) (standing (l ++ c.args.slot ∷ [])) (rest (l ++ c.args.slot ∷ []))) (after_scan w q.state)) (engine_at q.wires (g.R.Room.held c.after_only_slot.new.packet) c.after_only_slot.new.self) (Went did n n) c.args.host.now c.after_only_slot.new.host) (sym empty)
    (ran_led _ _ _ _ _ _ (Went did n n) _ _ refl (sym same) c.after_only_slot.ensures.led)

pub returns-in-Err-clause-led : goal.returns-in-Err-clause-led
returns-in-Err-clause-led g c =
    let q = engine_at (g.W.Wires.wiring c.args.wires.now) (g.R.Room.held c.args.packet.now) c.args.self.now in
    let w = q.wires in
    let l = q.work.chain ++ c.args.slot ∷ [] in
    let rest = read_slots w q.state.tx_index c.args.left l in
    let from = bind (judged l (standing l) rest) (after_scan w q.state) in
    let same = ap (λ (o : Option (Result ChainState ChainFault)). bind (judged l o rest) (after_scan w q.state)) (c.push.ensures.standing ∙ ap (λ (r : Result ChainState ChainFault). Some r) c.in-Err.is) in
    let n = c.args.counters.now in
    let did = g.T.Tallies.did q.wires.program.now.shapes in
    let st = c.push.ensures.standing ∙ ap (λ (r : Result ChainState ChainFault). Some r) c.in-Err.is in
    subst (λ (f : Offload). TurnRanLeads g.H.Host.was_asked g.H.Host.is_full f from (engine_at q.wires (g.R.Room.held c.halt.new.packet) c.halt.new.self) (Went did n n) c.args.host.now c.halt.new.host) (made_of c.offload_behind-self.result _ _ c.offload_behind-self.ensures.flags c.offload_behind-self.ensures.segments ∙ made_behind w.offers q.work.chain c.args.slot q.offload _ _ refl st)
    (ran_led _ _ _ _ _ _ (Went (g.T.Tallies.did q.wires.program.now.shapes) c.args.counters.now c.args.counters.now) _ _ refl (sym same) (c.halt.ensures.led q.wires))

pub returns-in-Ok-Complete-clause-led : goal.returns-in-Ok-Complete-clause-led
returns-in-Ok-Complete-clause-led g c =
    let q = engine_at (g.W.Wires.wiring c.args.wires.now) (g.R.Room.held c.args.packet.now) c.args.self.now in
    let w = q.wires in
    let l = q.work.chain ++ c.args.slot ∷ [] in
    let rest = read_slots w q.state.tx_index c.args.left l in
    let from = bind (judged l (standing l) rest) (after_scan w q.state) in
    let is : standing l ≡ Some (Ok (wanted.Complete)) = c.push.ensures.standing ∙ ap (λ (r : Result ChainState ChainFault). Some r) (c.in-Ok-Complete.is ∙ ap (λ (x : ChainState). Ok x) c.in-Ok-Complete.field-0-is) in
    let same = ap (λ (o : Option (Result ChainState ChainFault)). bind (judged l o rest) (after_scan w q.state)) is in
    let whole = ap (λ (x : List Slot). after_chain w q.state x (offered_fragments w.offers x)) c.in-Ok-Complete.ensures.ok in
    let segments : c.segments.result ≡ segments_of w.offers l = c.segments.ensures ∙ ap (λ o. segments_of o c.push.new.self) c.offers.ensures ∙ ap (segments_of w.offers) c.in-Ok-Complete.ensures.ok in
    let offload = made_of c.cut_into-self.result _ _ (c.cut_into-self.ensures.flags ∙ c.offload_behind-self.ensures.flags) (c.cut_into-self.ensures.segments ∙ segments)
    ∙ made_behind w.offers q.work.chain c.args.slot q.offload _ (Some (Ok wanted.Complete)) refl is in
    subst (λ (f : Offload). TurnRanLeads g.H.Host.was_asked g.H.Host.is_full f from (engine_at q.wires (g.R.Room.held c.begin_copy.new.packet) c.begin_copy.new.self) (Went (g.T.Tallies.did q.wires.program.now.shapes) c.args.counters.now c.begin_copy.new.counters) c.args.host.now c.begin_copy.new.host) offload
    (ran_from_same _ _ _ _ _ _ _ _ _ (whole ∙ sym same) c.begin_copy.ensures.led)

pub returns-in-Ok-Data-clause-led : goal.returns-in-Ok-Data-clause-led
returns-in-Ok-Data-clause-led g c =
    let q = engine_at (g.W.Wires.wiring c.args.wires.now) (g.R.Room.held c.args.packet.now) c.args.self.now in
    let w = q.wires in
    let l = q.work.chain ++ c.args.slot ∷ [] in
    let rest = read_slots w q.state.tx_index c.args.left l in
    let from = bind (judged l (standing l) rest) (after_scan w q.state) in
    let is : standing l ≡ Some (Ok (wanted.Data)) = c.push.ensures.standing ∙ ap (λ (r : Result ChainState ChainFault). Some r) (c.in-Ok-Data.is ∙ ap (λ (x : ChainState). Ok x) c.in-Ok-Data.field-0-is) in
    let same = ap (λ (o : Option (Result ChainState ChainFault)). bind (judged l o rest) (after_scan w q.state)) is in
    let more = ap (λ (x : List Slot). bind (read_slots w q.state.tx_index c.args.left x) (after_scan w q.state)) c.in-Ok-Data.ensures.ok in
    let n = c.args.counters.now in
    let did = g.T.Tallies.did q.wires.program.now.shapes in
    subst (λ (f : Offload). TurnRanLeads g.H.Host.was_asked g.H.Host.is_full f from (engine_at q.wires (g.R.Room.held c.more_slots.new.packet) c.more_slots.new.self) (Went did n n) c.args.host.now c.more_slots.new.host) (made_of c.offload_behind-self.result _ _ c.offload_behind-self.ensures.flags c.offload_behind-self.ensures.segments ∙ made_behind w.offers q.work.chain c.args.slot q.offload _ _ refl is)
    (ran_led _ _ _ _ _ _ (Went (g.T.Tallies.did q.wires.program.now.shapes) c.args.counters.now c.args.counters.now) _ _ refl (more ∙ sym same) c.more_slots.ensures.led)

pub returns-in-Ok-Extra-clause-led : goal.returns-in-Ok-Extra-clause-led
returns-in-Ok-Extra-clause-led g c =
    let q = engine_at (g.W.Wires.wiring c.args.wires.now) (g.R.Room.held c.args.packet.now) c.args.self.now in
    let w = q.wires in
    let l = q.work.chain ++ c.args.slot ∷ [] in
    let rest = read_slots w q.state.tx_index c.args.left l in
    let from = bind (judged l (standing l) rest) (after_scan w q.state) in
    let is : standing l ≡ Some (Ok (wanted.Extra)) = c.push.ensures.standing ∙ ap (λ (r : Result ChainState ChainFault). Some r) (c.in-Ok-Extra.is ∙ ap (λ (x : ChainState). Ok x) c.in-Ok-Extra.field-0-is) in
    let same = ap (λ (o : Option (Result ChainState ChainFault)). bind (judged l o rest) (after_scan w q.state)) is in
    let more = ap (λ (x : List Slot). bind (read_slots w q.state.tx_index c.args.left x) (after_scan w q.state)) c.in-Ok-Extra.ensures.ok in
    let n = c.args.counters.now in
    let did = g.T.Tallies.did q.wires.program.now.shapes in
    let m = c.more_slots-in-Ok-Extra in
    subst (λ (f : Offload). TurnRanLeads g.H.Host.was_asked g.H.Host.is_full f from (engine_at q.wires (g.R.Room.held m.new.packet) m.new.self) (Went did n n) c.args.host.now m.new.host) (made_of c.offload_behind-self.result _ _ c.offload_behind-self.ensures.flags c.offload_behind-self.ensures.segments ∙ made_behind w.offers q.work.chain c.args.slot q.offload _ _ refl is)
    (ran_led _ _ _ _ _ _ (Went (g.T.Tallies.did q.wires.program.now.shapes) c.args.counters.now c.args.counters.now) _ _ refl (more ∙ sym same) m.ensures.led)

pub returns-then-is_alone-clause-early : goal.returns-then-is_alone-clause-early
returns-then-is_alone-clause-early g c =
    let q = engine_at (g.W.Wires.wiring c.args.wires.now) (g.R.Room.held c.args.packet.now) c.args.self.now in
    let w = q.wires in
    let one = c.args.slot ∷ [] in
    let rest = λ (t : State) (x : List Slot). read_slots w t.tx_index c.args.left x in
    let empty : q.work.chain ≡ [] = c.if-is_empty.ensures.0 refl in
    let flags = c.if-is_alone.ensures.alone refl in
    let is = stands_alone c.args.slot flags.0 flags.1 in
    subst (λ (l : List Slot). EarlyFrom (λ (t : State). bind (judged (l ++ one) (standing (l ++ one)) (rest t (l ++ one))) (after_scan w t)) q.state (engine_at q.wires (g.R.Room.held c.after_only_slot.new.packet) c.after_only_slot.new.self)) (sym empty)
    (early_as _ _ _ _ (λ (t : State). sym (ap (λ (o : Option (Result ChainState ChainFault)). bind (judged one o (rest t one)) (after_scan w t)) is)) c.after_only_slot.ensures.early)

pub returns-in-Err-clause-early : goal.returns-in-Err-clause-early
returns-in-Err-clause-early g c = late_early _ _ _ c.halt.ensures.late

pub returns-in-Ok-Complete-clause-early : goal.returns-in-Ok-Complete-clause-early
returns-in-Ok-Complete-clause-early g c =
    let q = engine_at (g.W.Wires.wiring c.args.wires.now) (g.R.Room.held c.args.packet.now) c.args.self.now in
    let w = q.wires in
    let l = q.work.chain ++ c.args.slot ∷ [] in
    let rest = λ (t : State) (x : List Slot). read_slots w t.tx_index c.args.left x in
    let is : standing l ≡ Some (Ok (wanted.Complete)) = c.push.ensures.standing ∙ ap (λ (r : Result ChainState ChainFault). Some r) (c.in-Ok-Complete.is ∙ ap (λ (x : ChainState). Ok x) c.in-Ok-Complete.field-0-is) in
    early_as _ _ _ _
    (λ (t : State). ap (λ (x : List Slot). after_chain w t x (offered_fragments w.offers x)) c.in-Ok-Complete.ensures.ok ∙ sym (ap (λ (o : Option (Result ChainState ChainFault)). bind (judged l o (rest t l)) (after_scan w t)) is))
    c.begin_copy.ensures.early

pub returns-in-Ok-Data-clause-early : goal.returns-in-Ok-Data-clause-early
returns-in-Ok-Data-clause-early g c =
    let q = engine_at (g.W.Wires.wiring c.args.wires.now) (g.R.Room.held c.args.packet.now) c.args.self.now in
    let w = q.wires in
    let l = q.work.chain ++ c.args.slot ∷ [] in
    let rest = λ (t : State) (x : List Slot). read_slots w t.tx_index c.args.left x in
    let is : standing l ≡ Some (Ok (wanted.Data)) = c.push.ensures.standing ∙ ap (λ (r : Result ChainState ChainFault). Some r) (c.in-Ok-Data.is ∙ ap (λ (x : ChainState). Ok x) c.in-Ok-Data.field-0-is) in
    early_as _ _ _ _
    (λ (t : State). ap (λ (x : List Slot). bind (read_slots w t.tx_index c.args.left x) (after_scan w t)) c.in-Ok-Data.ensures.ok ∙ sym (ap (λ (o : Option (Result ChainState ChainFault)). bind (judged l o (rest t l)) (after_scan w t)) is))
    c.more_slots.ensures.early

pub returns-in-Ok-Extra-clause-early : goal.returns-in-Ok-Extra-clause-early
returns-in-Ok-Extra-clause-early g c =
    let q = engine_at (g.W.Wires.wiring c.args.wires.now) (g.R.Room.held c.args.packet.now) c.args.self.now in
    let w = q.wires in
    let l = q.work.chain ++ c.args.slot ∷ [] in
    let rest = λ (t : State) (x : List Slot). read_slots w t.tx_index c.args.left x in
    let is : standing l ≡ Some (Ok (wanted.Extra)) = c.push.ensures.standing ∙ ap (λ (r : Result ChainState ChainFault). Some r) (c.in-Ok-Extra.is ∙ ap (λ (x : ChainState). Ok x) c.in-Ok-Extra.field-0-is) in
    early_as _ _ _ _
    (λ (t : State). ap (λ (x : List Slot). bind (read_slots w t.tx_index c.args.left x) (after_scan w t)) c.in-Ok-Extra.ensures.ok ∙ sym (ap (λ (o : Option (Result ChainState ChainFault)). bind (judged l o (rest t l)) (after_scan w t)) is))
    c.more_slots-in-Ok-Extra.ensures.early
