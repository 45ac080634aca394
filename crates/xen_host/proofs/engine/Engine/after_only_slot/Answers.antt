use Rattle.std.proofs.Common.{Bool, true, false, ℕ, ◌≡◌, ◌<◌, ◌≤◌, List, [], ◌∷◌, length, sym, ap, arith, ◌∙◌, subst}
use Rattle.std.specs.Prelude.{IsTrue, Ok, Result, ◌&&◌}
use Rattle.std.specs.List.{list_all}
use Rattle.xen_netif.specs.Fragments.{is_in_page}
use Rattle.xen_netif.specs.Slots.{tx_flags_of}
use Rattle.xen_host.specs.EngineAt.{WorkAt}
use Rattle.xen_host.specs.Fits.{HasCopyRoom}
use Rattle.xen_steps.specs.Steps.{bind}
use Rattle.xen_netif.specs.Chain.{Slot}
use Rattle.xen_netif.specs.Segments.{offered_fragments}
use Rattle.xen_netif.specs.declared.fault.SizeFault.{SizeFault}
use Rattle.xen_netif.specs.declared.fragment.Fragment.{Fragment}
use Rattle.xen_netif.specs.declared.status.Status.TheVariants.{Error}
use Rattle.xen_netif.proofs.SegmentLemmas.{plain_offered}
use Rattle.xen_turns.specs.Tree.{after_chain, after_copy, copy, respond}
use Rattle.xen_turns.specs.Turned.{Refused}
use Rattle.xen_turns.specs.declared.turn.PacketRefusal.TheVariants as refusal
use Rattle.xen_turns.proofs.RestLemmas.{copy_at}
use Rattle.xen_host.specs.EngineAt.{engine_at}
use Rattle.xen_host.specs.HostLed.{TurnLeads}
use Rattle.xen_host.specs.Offload.{Offload}
use Rattle.xen_host.proofs.HostLedLemmas.{asked_from}
use Rattle.xen_host.proofs.OffloadLemmas.{alone_behind}
use Rattle.xen_host.proofs.EarlyLemmas.{early_as, late_early}
use Rattle.xen_turns.specs.declared.state.State.{State}
use Rattle.xen_host.proofs.engine.Engine.after_only_slot.Goals as goal

-- a fragment that is all
in_page_alone : (f : Fragment) → IsTrue (is_in_page f) → IsTrue (list_all is_in_page (f ∷ []))
in_page_alone f h = by (is_in_page f) h
  where
    by : (b : Bool) → IsTrue b → IsTrue (b && true)
    by true h = h
    by false h = h

room_alone : (b : WorkAt) (f : Fragment) → b.fragments ≡ f ∷ [] → b.packet ≡ [] → IsTrue (is_in_page f) → f.size ≤ 65535 → HasCopyRoom b 0
room_alone b f one none inside short =
    record { within = omega arith; in_page = rw one (in_page_alone f inside); room = rw none (rw one (omega (arith, short))) }

pub returns-in-Err-clause-led : goal.returns-in-Err-clause-led
returns-in-Err-clause-led g c =
    let q = engine_at (g.W.Wires.wiring c.args.wires.now) (g.R.Room.held c.args.packet.now) c.args.self.now in
    let w = q.wires in
    let chain = c.args.slot ∷ [] in
    let l = c.of_bits-self.result in
    let offload = alone_behind w.offers c.args.slot q.offload l c.requires.plain c.requires.alone (c.of_bits-self.ensures.flags ∙ ap tx_flags_of c.flag_bits.ensures) c.of_bits-self.ensures.segments in
    let refused = plain_offered w.offers c.args.slot [] c.requires.plain ∙ c.in-Err.ensures.answer in
    let kept = ap (λ (l : List Slot). respond w q.state l Error (Refused (refusal.Size c.in-Err.fault) 0 (length l))) c.hold.ensures in
    let same = kept ∙ sym (ap (λ (r : Result (List Fragment) SizeFault). after_chain w q.state chain r) refused) in
    subst (λ (f : Offload). TurnLeads g.H.Host.was_asked g.H.Host.is_full f (after_chain w q.state chain (offered_fragments w.offers chain)) (engine_at w (g.R.Room.held c.args.packet.now) c.refuse.new.self) c.args.host.now c.refuse.new.host) offload
    (asked_from _ _ _ _ _ _ _ _ _ same (c.refuse.ensures.led q.work.packet))

pub returns-in-Ok-clause-led : goal.returns-in-Ok-clause-led
returns-in-Ok-clause-led g c =
    let q = engine_at (g.W.Wires.wiring c.args.wires.now) (g.R.Room.held c.args.packet.now) c.args.self.now in
    let w = q.wires in
    let chain = c.args.slot ∷ [] in
    let l = c.of_bits-self.result in
    let offload = alone_behind w.offers c.args.slot q.offload l c.requires.plain c.requires.alone (c.of_bits-self.ensures.flags ∙ ap tx_flags_of c.flag_bits.ensures) c.of_bits-self.ensures.segments in
    let fs = c.put_alone.new.room.items in
    let held = c.hold.new.self in
    let p = g.R.Room.held c.clear.new.self in
    let f = c.in-Ok.fragment in
    let taken = plain_offered w.offers c.args.slot [] c.requires.plain ∙ (c.in-Ok.ensures.answer ∙ ap (λ (l : List Fragment). Ok l) (sym c.put_alone.ensures)) in
    let some : 0 < length fs = rw c.put_alone.ensures (omega arith) in
    let first = sym (ap (λ z. bind z (after_copy w q.state held)) (copy_at w fs 0 p some)) in
    let none = ap (λ (l : List ℕ). bind (copy w fs l) (after_copy w q.state held)) c.clear.ensures in
    let kept = ap (λ (l : List Slot). bind (copy w fs []) (after_copy w q.state l)) c.hold.ensures in
    let same = first ∙ none ∙ kept ∙ sym (ap (λ (r : Result (List Fragment) SizeFault). after_chain w q.state chain r) taken) in
    subst (λ (f : Offload). TurnLeads g.H.Host.was_asked g.H.Host.is_full f (after_chain w q.state chain (offered_fragments w.offers chain)) (engine_at w p c.read_entry_of.new.self) c.args.host.now c.read_entry_of.new.host) offload
    (asked_from _ _ _ _ _ _ _ _ _ same (c.read_entry_of.ensures.led p (room_alone _ f c.put_alone.ensures c.clear.ensures c.in-Ok.ensures.in_page c.in-Ok.ensures.short)))

pub returns-in-Err-clause-early : goal.returns-in-Err-clause-early
returns-in-Err-clause-early g c = late_early _ _ _ c.refuse.ensures.late

pub returns-in-Ok-clause-early : goal.returns-in-Ok-clause-early
returns-in-Ok-clause-early g c =
    let q = engine_at (g.W.Wires.wiring c.args.wires.now) (g.R.Room.held c.args.packet.now) c.args.self.now in
    let w = q.wires in
    let chain = c.args.slot ∷ [] in
    let fs = c.put_alone.new.room.items in
    let held = c.hold.new.self in
    let p = g.R.Room.held c.clear.new.self in
    let taken = plain_offered w.offers c.args.slot [] c.requires.plain ∙ (c.in-Ok.ensures.answer ∙ ap (λ (l : List Fragment). Ok l) (sym c.put_alone.ensures)) in
    let some : 0 < length fs = rw c.put_alone.ensures (omega arith) in
    early_as _ _ _ _
    (λ (t : State). sym (ap (λ z. bind z (after_copy w t held)) (copy_at w fs 0 p some)) ∙ ap (λ (l : List ℕ). bind (copy w fs l) (after_copy w t held)) c.clear.ensures
    ∙ ap (λ (l : List Slot). bind (copy w fs []) (after_copy w t l)) c.hold.ensures ∙ sym (ap (λ (r : Result (List Fragment) SizeFault). after_chain w t chain r) taken))
    (c.read_entry_of.ensures.early p)
