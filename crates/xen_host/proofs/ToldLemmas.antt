-- What the last op shows.
use Rattle.std.proofs.Common.{◌≡◌, ℕ, ◌⊎◌, inl, inr, List, sym, subst, true}
use Rattle.xen_steps.specs.Steps.{Steps}
use Rattle.xen_turns.specs.Deliveries.{Arrival}
use Rattle.xen_turns.specs.Turned.{Ending}
use Rattle.xen_turns.specs.Waits.{Wait}
use Rattle.xen_turns.specs.declared.delivery.wait.Awaited.{Awaited}
use Rattle.xen_turns.specs.declared.delivery.delivering.Delivery.{Delivery}
use Rattle.xen_turns.specs.declared.turn.Kind.{Kind}
use Rattle.xen_host.specs.Asks.{Ask, takes_none}
use Rattle.xen_host.specs.Asks as ask
use Rattle.xen_host.specs.Led.{DeliveryEnds, IsOn, IsTurnOver, TurnEnds, WaitEnds}
use Rattle.xen_host.specs.Rest.{is_delivering, is_turning, is_waiting, reads_in, rest_in, rest_of_delivery, rest_of_wait}
use Rattle.xen_host.specs.Told.{IsOther, IsToldAt}
use Rattle.xen_host.specs.EngineAt.{EngineAt}
use Rattle.xen_host.specs.declared.stage.Stage.{Stage}
use Rattle.xen_host.specs.declared.stage.Stage.TheVariants as stage
use Rattle.xen_turns.specs.declared.wiring.Wiring.{Wiring}
use Rattle.xen_host.proofs.EndLemmas.{delivery_split, turn_split, wait_split}

-- What takes no answer is neither an entry nor a PUSH.
pub other_none : (a : Ask) → takes_none a ≡ true → IsOther a
other_none (ask.Read at count) h = cc h
other_none (ask.Entry at reference rights) h = cc h
other_none (ask.Push at word read) h = cc h
other_none (ask.Write at count) h = tt
other_none (ask.Store at word) h = tt
other_none (ask.StoreTwo at x y) h = tt
other_none (ask.Notify port) h = tt
other_none (ask.TurnOver kind) h = cc h
other_none (ask.DeliveryOver what) h = cc h
other_none (ask.WaitOver what) h = cc h

-- What is over.
over_told : (table : List ℕ) (g : Stage) (last over : Ask) → g ≡ stage.Ready → last ≡ over → IsOther over → IsToldAt table g last
over_told table g last over ready is other =
    subst (λ (x : Stage). IsToldAt table x last) (sym ready) (subst IsOther (sym is) other)

pub turn_told : (w : Wiring) (e : EngineAt) (last : Ask) (left : Steps Ending) → e.wires ≡ w → TurnEnds e last left → IsToldAt w.vif.table.now e.stage last
turn_told w e last left same h = subst (λ (x : Wiring). IsToldAt x.vif.table.now e.stage last) same (by (turn_split e last left h))
  where
    by : ((k : Kind) × (last ≡ ask.TurnOver k) × IsTurnOver e k left) ⊎ IsOn (rest_in e.wires e.state e.stage e.work) (reads_in e.stage) (is_turning e.stage) (IsToldAt e.wires.vif.table.now e.stage) last left → IsToldAt e.wires.vif.table.now e.stage last
    by (inl x) = over_told e.wires.vif.table.now e.stage last (ask.TurnOver x.0) x.2.ready x.1 tt
    by (inr on) = on.told

pub delivery_told : (w : Wiring) (packet : List ℕ) (e : EngineAt) (last : Ask) (left : Steps Arrival) → e.wires ≡ w → DeliveryEnds packet e last left → IsToldAt w.vif.table.now e.stage last
delivery_told w packet e last left same h = subst (λ (x : Wiring). IsToldAt x.vif.table.now e.stage last) same (by (delivery_split packet e last left h))
  where
    by : ((what : Delivery) × (last ≡ ask.DeliveryOver what) × (e.stage ≡ stage.Ready)) ⊎ IsOn (rest_of_delivery e.wires.vif e.state e.stage e.work) (reads_in e.stage) (is_delivering e.stage) (IsToldAt e.wires.vif.table.now e.stage) last left → IsToldAt e.wires.vif.table.now e.stage last
    by (inl x) = over_told e.wires.vif.table.now e.stage last (ask.DeliveryOver x.0) x.2 x.1 tt
    by (inr on) = on.told

pub wait_told : (w : Wiring) (packet : List ℕ) (e : EngineAt) (last : Ask) (left : Steps Wait) → e.wires ≡ w → WaitEnds packet e last left → IsToldAt w.vif.table.now e.stage last
wait_told w packet e last left same h = subst (λ (x : Wiring). IsToldAt x.vif.table.now e.stage last) same (by (wait_split packet e last left h))
  where
    by : ((what : Awaited) × (last ≡ ask.WaitOver what) × (e.stage ≡ stage.Ready)) ⊎ IsOn (rest_of_wait e.wires.vif.rx e.state e.stage) (reads_in e.stage) (is_waiting e.stage) (IsToldAt e.wires.vif.table.now e.stage) last left → IsToldAt e.wires.vif.table.now e.stage last
    by (inl x) = over_told e.wires.vif.table.now e.stage last (ask.WaitOver x.0) x.2 x.1 tt
    by (inr on) = on.told
