-- One of several turns begins, as its contract says: all are under way then.
use Rattle.std.proofs.Common.{◌≡◌, ◌≢◌, ℕ, zero, suc, ◌+◌, ◌<◌, ◌^◌, true, List, [], ◌∷◌, ◌++◌, length, map, drop, refl, sym, ap, subst, arith}
use Rattle.std.specs.Prelude.{Option, None, Some}
use Rattle.bpf_note.specs.declared.op.Op.{Op as Operation}
use Rattle.xen_steps.specs.Drive.{Any, LedBy}
use Rattle.xen_steps.specs.Event.{Event, Read}
use Rattle.xen_steps.specs.Finish.{Ends}
use Rattle.xen_steps.specs.Places.{available}
use Rattle.xen_steps.specs.Steps.{Steps, bind}
use Rattle.xen_steps.proofs.DriveLemmas.{gone_append}
use Rattle.xen_rx_fill.specs.Places.{tx_word}
use Rattle.xen_turns.specs.Program.{event_of}
use Rattle.xen_turns.specs.Tree.{after_look, look as look_spec, seen, unless_halted, whole_turn}
use Rattle.xen_turns.specs.Turned.{Ending}
use Rattle.xen_turns.specs.Woven.{Made, by_turn}
use Rattle.xen_turns.specs.declared.state.State.{State}
use Rattle.xen_turns.specs.declared.wiring.Wiring.{Wiring}
use Rattle.xen_host.specs.Early.{at_rx, engine_at_rx, is_early}
use Rattle.xen_host.specs.EngineAt.{EngineAt}
use Rattle.xen_host.specs.Fits.{Fits}
use Rattle.xen_host.specs.LaneHosts.{said_by}
use Rattle.xen_host.specs.LaneSteps.{LaneBegins, did_own, slot_reads}
use Rattle.xen_host.specs.Lanes.{AreLanes, EndsAt, EndsEach, IsLane, LaneAt, did_in}
use Rattle.xen_host.specs.Quiet.{Calm}
use Rattle.xen_host.specs.Told.{IsToldAt}
use Rattle.xen_host.specs.UnderWay.{IsTurningAt, TurnGoesAt}
use Rattle.xen_host.specs.declared.op.HostOp.{HostOp}
use Rattle.xen_host.proofs.LaneBeginLemmas.{slots_of}
use Rattle.xen_host.proofs.LaneFreeLemmas.{begins_free}
use Rattle.xen_host.proofs.LanesFromLemmas.{look_at}
use Rattle.xen_host.proofs.LanesOnwardLemmas.{begun_calm, begun_lane, lane_begins_onward, slots_are_calm}

-- ---- a look that shows slots

shows : (w : Wiring) (b : State) (shown : ℕ) (o : Option ℕ) → o ≡ Some shown → 0 < shown → bind (seen w b.tx_index o) (after_look w b) ≡ after_look w b (Some shown)
shows w b zero o e some = absurd (omega (arith, some))
shows w b (suc n) o e some = ap (λ q. bind (seen w b.tx_index q) (after_look w b)) e

pub looked_at : (w : Wiring) (b : State) (p shown : ℕ) → b.halt ≡ None → p < 2 ^ 32 → available b.tx_index p ≡ Some shown → 0 < shown → LedBy (whole_turn w b) (Read (tx_word w.vif 0) p ∷ []) (after_look w b (Some shown))
looked_at w b p shown running small there some =
    let whole : whole_turn w b ≡ bind (look_spec w b.tx_index) (after_look w b) = ap (λ h. unless_halted w b h) running in
    subst (λ q. LedBy q (Read (tx_word w.vif 0) p ∷ []) (after_look w b (Some shown))) (sym whole)
    (bind (seen w b.tx_index (available b.tx_index p)) (after_look w b), (p, (small, refl), refl), shows w b shown (available b.tx_index p) there some)

look_same : (w : Wiring) (p : ℕ) (lanes : List LaneAt) → look_at w p (Read (tx_word w.vif 0) p ∷ []) lanes ≡ Read (tx_word w.vif 0) p ∷ []
look_same w p [] = refl
look_same w p (l ∷ lanes) = look_same w p lanes

-- ---- one begins

pub lane_begins : (w : Wiring) (completes : (s : State) → Ends Any (whole_turn w s)) (apart : w.vif.tx ≢ w.vif.rx) (p : ℕ) (small : p < 2 ^ 32) (ends : Steps Ending → Type 0) (s b : State) (lanes : List LaneAt)
    (rx : ℕ) (made : List Made) (went : List (Option Operation) → Type 0) (shown i ahead taken place limit : ℕ) (new : EngineAt) (ops ops_after : List HostOp) (count count_after : ℕ) (lent lent_after : List ℕ) →
    new.wires ≡ w → b.halt ≡ None → 0 < shown → available b.tx_index p ≡ Some shown → Fits new.stage new.work →
    (d : LaneBegins went b shown i ahead taken place limit new ops ops_after count count_after lent lent_after) →
    AreLanes w s p (Read (tx_word w.vif 0) p ∷ []) (EndsAt b.tx_index) lanes rx made → (lanes ≡ [] → b.tx_index ≡ s.tx_index) →
    ((events : List Event) → EndsEach w ends events new) →
    (l' : LaneAt) × (l'.engine ≡ new) × (l'.asked ≡ d.last) × AreLanes w s p (Read (tx_word w.vif 0) p ∷ []) ends (lanes ++ l' ∷ []) rx (made ++ by_turn (length lanes)
    (slot_reads w b.tx_index lent i d.slots ++ (map event_of d.labels ++ did_in (said_by w.vif.tx (d.first ++ d.last ∷ [])) (drop place lent_after))))
lane_begins w completes apart p small ends s b lanes rx made went shown i ahead taken place limit new ops ops_after count count_after lent lent_after wires running some there fits d are begins ended =
    let look = Read (tx_word w.vif 0) p ∷ [] in
    let l' : LaneAt = record { engine = new; began = b; asked = d.last } in
    let reads = slot_reads w b.tx_index lent i d.slots in
    let own = did_own place d.first d.last lent_after in
    let led : (x : ℕ) → LedBy (whole_turn new.wires (at_rx x b)) look (after_look new.wires (at_rx x b) (Some shown)) = λ x.
    subst (λ q. LedBy (whole_turn q (at_rx x b)) look (after_look q (at_rx x b) (Some shown))) (sym wires) (looked_at w (at_rx x b) p shown running small there some) in
    let first = led b.rx_index in
    let went_on : TurnGoesAt new d.last b (look ++ (reads ++ (map event_of d.labels ++ own))) =
    subst (λ q. TurnGoesAt new d.last b (look ++ (slot_reads q b.tx_index lent i d.slots ++ (map event_of d.labels ++ own)))) wires (d.turn look first) in
    let gathered : LedBy (after_look new.wires b (Some shown)) (slot_reads new.wires b.tx_index lent i d.slots) d.left =
    subst (λ q. LedBy q (slot_reads new.wires b.tx_index lent i d.slots) d.left) (sym (slots_of new.wires b shown some)) d.gathered in
    let gone : LedBy (whole_turn w b) (look ++ reads) d.left =
    subst (λ q. LedBy (whole_turn q b) (look ++ slot_reads q b.tx_index lent i d.slots) d.left) wires
    (gone_append (whole_turn new.wires b) (after_look new.wires b (Some shown)) d.left look (slot_reads new.wires b.tx_index lent i d.slots) first gathered) in
    let quiet : Calm w 0 d.left = subst (λ q. Calm q 0 d.left) wires d.quiet in
    let told : IsToldAt w.vif.table.now new.stage d.last = subst (λ (q : Wiring). IsToldAt q.vif.table.now new.stage d.last) wires d.asks.told in
    let free : is_early new.stage ≡ true → (x : ℕ) → IsTurningAt (engine_at_rx x new) (at_rx x b) (look ++ (reads ++ (map event_of d.labels ++ own))) d.last = λ early x.
    subst (λ q. IsTurningAt (engine_at_rx x new) (at_rx x b) (look ++ (slot_reads q b.tx_index lent i d.slots ++ (map event_of d.labels ++ own))) d.last) wires
    (begins_free went b shown i ahead taken place limit new ops ops_after count count_after lent lent_after d fits early some look first x (led x)) in
    let lane = begun_lane w completes apart look refl b running new wires reads d.labels d.first d.last place lent_after d.asks.take_none told (slots_are_calm w b.tx_index lent i d.slots) went_on d.on d.left gone quiet d.halting free in
    let calm = begun_calm w completes apart look refl b running new wires reads d.labels d.first d.last place lent_after d.asks.take_none told (slots_are_calm w b.tx_index lent i d.slots) went_on d.on d.left gone quiet d.halting free in
    let events = reads ++ (map event_of d.labels ++ did_in (said_by w.vif.tx (d.first ++ d.last ∷ [])) (drop place lent_after)) in
    (l', refl, refl, lane_begins_onward w p ends s look lanes rx made l' events are begins calm (subst (λ q. IsLane w q events l') (sym (look_same w p lanes)) lane) (ended events))
