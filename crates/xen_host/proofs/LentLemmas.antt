-- A delivery of a packet is one, wherever its bytes lie.
use Rattle.std.proofs.Common.{◌≡◌, List, [], length, ℕ, Option, Some, refl, sym, ◌∙◌, subst, true, false}
use Rattle.std.specs.Prelude.{IsSome}
use Rattle.xen_netif.specs.Offloads.{is_taken}
use Rattle.xen_netif.specs.declared.offload.RxOffload.{RxOffload}
use Rattle.xen_page.specs.declared.access.Access.{Access}
use Rattle.xen_page.proofs.AccessLemmas.{performs_none}
use Rattle.xen_turns.specs.Delivered.{IsDeliverable, IsDelivery, is_frame, no_frame, not_accepted}
use Rattle.xen_turns.specs.declared.delivery.delivering.Delivery.{Delivery}
use Rattle.xen_turns.specs.declared.delivery.delivering.Delivery.TheVariants as delivery
use Rattle.xen_turns.specs.declared.state.State.{State}
use Rattle.xen_host.specs.Driven.{HasDeliveredAt}
use Rattle.xen_host.specs.EngineAt.{EngineAt, WorkAt}
use Rattle.xen_host.specs.UnderWay.{resting_at}
use Rattle.xen_host.proofs.EngineLemmas.{ready_at}
use Rattle.xen_host.proofs.TaskLemmas.{at_rest}
use Rattle.xen_host.proofs.TurnLemmas.{packet_there}

-- between two, by the state
pub at_some : (e : EngineAt) (s : State) → resting_at e ≡ Some s → IsSome (resting_at e)
at_some e s r = subst (λ (o : Option State). IsSome o) (sym r) refl

module _ {B C : Type 0} (log : B → Option (List Access)) (gives : B → Access → B → Type 0) where
  -- What can't be delivered is touched by nobody.
  pub none_delivered : (old : EngineAt) (work : WorkAt) (o : RxOffload) (packet : List ℕ) (bus : B) (counters : C) → IsSome (resting_at old) → is_frame packet ≡ false →
      HasDeliveredAt log gives old (record old { work = work }) o packet delivery.NoFrame bus bus counters counters
  none_delivered old work o packet bus counters rests short =
      record {
        trace = [];
        is_delivery = no_frame short;
        performed = performs_none log gives bus;
        counters = refl;
        copied = λ t. absurd (cc (sym t.0 ∙ short));
        rests = at_rest (record old { work = work }) rests;
        wires = refl;
      }

  -- So is what isn't accepted.
  pub untaken : (old : EngineAt) (work : WorkAt) (o : RxOffload) (packet : List ℕ) (bus : B) (counters : C) → IsSome (resting_at old) → is_frame packet ≡ true →
      is_taken old.wires.accepts (length packet) o ≡ false → HasDeliveredAt log gives old (record old { work = work }) o packet delivery.NotAccepted bus bus counters counters
  untaken old work o packet bus counters rests frame refused =
      record {
        trace = [];
        is_delivery = not_accepted frame refused;
        performed = performs_none log gives bus;
        counters = refl;
        copied = λ t. absurd (cc (sym t.1 ∙ refused));
        rests = at_rest (record old { work = work }) rests;
        wires = refl;
      }

  -- What its engine was lent is this packet.
  pub lent_delivered : (old new : EngineAt) (lent work : WorkAt) (o : RxOffload) (packet held : List ℕ) (what : Delivery) (bus bus' : B) (before after : C) → held ≡ packet → work.packet ≡ packet →
      HasDeliveredAt log gives (record old { work = lent }) new o held what bus bus' before after → HasDeliveredAt log gives old (record new { work = work }) o packet what bus bus' before after
  lent_delivered old new lent work o packet held what bus bus' before after same is d =
      let to = record new { work = work } in
      record {
        trace = d.trace;
        is_delivery = subst (λ (p : List ℕ). IsDelivery old.wires old.state o p d.trace new.state what) same d.is_delivery;
        performed = d.performed;
        counters = d.counters;
        copied = λ frame. packet_there to (ready_at to (at_some to new.state d.rests)) ∙ is;
        rests = d.rests;
        wires = d.wires;
      }

  -- The packet that its room held is there.
  pub delivered_packet : (old new : EngineAt) (o : RxOffload) (packet : List ℕ) (what : Delivery) (bus bus' : B) (before after : C) → IsDeliverable old.wires.accepts o packet →
      HasDeliveredAt log gives old new o packet what bus bus' before after → new.work.packet ≡ packet
  delivered_packet old new o packet what bus bus' before after deliverable d = sym (packet_there new (ready_at new (at_some new new.state d.rests))) ∙ d.copied deliverable
