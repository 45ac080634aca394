-- Several turns side by side, after each has begun.
use Rattle.std.proofs.Common.{◌≡◌, ℕ, ◌≤◌, ◌+◌, ◌&&◌, true, List, [], ◌∷◌, ◌++◌, length, take, drop, map, refl, sym, ap, ◌∙◌, subst, arith}
use Rattle.std.specs.Prelude.{Bool}
use Rattle.bpf_note.specs.declared.op.Op.{Op as Operation}
use Rattle.xdp_program.specs.Tallies.{Went}
use Rattle.xen_ring.specs.Index.{distance}
use Rattle.xen_steps.specs.Event.{Event, Read}
use Rattle.xen_steps.specs.Steps.{Steps}
use Rattle.xen_rx_fill.specs.Places.{tx_word}
use Rattle.xen_turns.specs.Turned.{Ending}
use Rattle.xen_turns.specs.Woven.{Made, of_turn}
use Rattle.xen_turns.specs.declared.state.State.{State}
use Rattle.xen_turns.specs.declared.wiring.Wiring.{Wiring}
use Rattle.xen_host.specs.Asks.{Ask}
use Rattle.xen_host.specs.EngineAt.{EngineAt}
use Rattle.xen_host.specs.LaneSteps.{lane_at}
use Rattle.xen_host.specs.Lanes.{AreFrom, AreLanes, EndsPast, IsChained, LaneAt, all_held, is_held, rx_behind}
use Rattle.xen_host.specs.LentWords.{lent_words}
use Rattle.xen_host.specs.Queues.{wired_to, wiring}
use Rattle.xen_host.specs.Severals.{AreAhead, AreRead, AreTogether, AreUnderWay, GoneTogether, Group, IsAhead, IsGroup, IsGroupAt, ahead_of, asked_by, gone_by, look_of, made_by_all}
use Rattle.xen_host.specs.Sweeps.{HaveBegun, SweepAt, sweep_at}
use Rattle.xen_host.specs.Wired.{wiring_of}
use Rattle.xen_host.specs.declared.engine.Engine.{Engine}
use Rattle.xen_host.specs.declared.lane_host.LaneHost.{LaneHost}
use Rattle.xen_host.specs.declared.queue.Queue.{Queue}
use Rattle.xen_host.specs.declared.several.Phase.{Phase}
use Rattle.xen_host.specs.declared.several.Phase.TheVariants as phase
use Rattle.xen_host.specs.declared.wires.OwnedWiring.{OwnedWiring}
use Rattle.xen_host.proofs.SweepBeginLemmas.{BeginsOnward, CursorEnds, SoBegun, begins_on}

-- ---- how the last ends

chained_also : (w : Wiring) (ends also : Steps Ending → Type 0) → ((x : Steps Ending) → ends x → also x) → (events : List Event) (e : EngineAt) (more : List LaneAt) → IsChained w ends events e more → IsChained w also events e more
chained_also w ends also f events e [] h = (f _ h.0, λ a b x. f _ (h.1 a b x))
chained_also w ends also f events e (next ∷ more) h = h

from_also : (w : Wiring) (p : ℕ) (ends also : Steps Ending → Type 0) → ((x : Steps Ending) → ends x → also x) → (k x : ℕ) (held : Bool) (look : List Event) (lanes : List LaneAt) (made : List Made) →
    AreFrom w p ends k x held look lanes made → AreFrom w p also k x held look lanes made
from_also w p ends also f k x held look [] made h = tt
from_also w p ends also f k x held look (l ∷ more) made h = (
  record { lane = h.0.lane; rx = h.0.rx; quiet = h.0.quiet; chained = chained_also w ends also f (of_turn k made) l.engine more h.0.chained },
  from_also w p ends also f (k + 1) (rx_behind w x (of_turn k made) l) (held && is_held l.engine) (Read (tx_word w.vif 0) p ∷ []) more made h.1,
)

pub lanes_also : (w : Wiring) (s : State) (p : ℕ) (look : List Event) (ends also : Steps Ending → Type 0) (lanes : List LaneAt) (rx : ℕ) (made : List Made) → ((x : Steps Ending) → ends x → also x) →
    AreLanes w s p look ends lanes rx made → AreLanes w s p look also lanes rx made
lanes_also w s p look ends also lanes rx made f h =
    record { first = h.first; from = from_also w p ends also f 0 s.rx_index true look lanes made h.from; none_else = h.none_else; order = h.order; sent = h.sent }

-- ---- all have begun

so_begun : {C : Type 0} (did : Operation → C → C → Type 0) (w : Wiring) (g : Group) (old : SweepAt C) → old.rx ≡ g.state.rx_index → old.taken ≡ 0 → old.count ≡ 0 → length old.lanes ≡ 16 → SoBegun did w g 0 old old
so_begun did w g old rx taken none all = record {
  dids = [];
  many_did = refl;
  lanes = [];
  many = refl;
  engines = refl;
  asks = refl;
  are = record { first = tt; from = tt; none_else = tt; order = tt; sent = rx };
  rx = rx;
  slots = omega arith;
  few = omega (arith, taken);
  none = λ z. taken;
  before = tt;
  read = sym taken;
  asked = tt;
  said = sym (ap (λ n. drop n old.ops) none);
  counted = none;
  history = refl;
  front = refl;
  all = all;
}

pub begun_together : {C : Type 0} (did : Operation → C → C → Type 0) (old new : Queue) (counters counters_after : C) (host host_after : LaneHost) (g : Group) → old.several.phase ≡ phase.Slots → new.several.phase ≡ phase.Lanes → wired_to new ≡ wired_to old → new.engine ≡ old.engine →
    new.several.held ≡ 0 → length old.several.lanes ≡ 16 → host.count ≡ 0 → host.ahead.taken ≡ 0 → host_after.ahead.taken ≡ old.several.ahead → BeginsOnward did (wiring old) g →
    HaveBegun did (wiring old) old.engine.state old.several.shown old.several.ahead new.several.count (sweep_at (record old.several { rx_index = old.engine.state.rx_index }) 0 counters host)
    (sweep_at new.several 0 counters_after host_after) →
    AreTogether old g → GoneTogether (Went did counters counters_after) old new (lent_words host.words.now) (lent_words host_after.words.now) host.ops.now host_after.ops.now host_after.count g
begun_together {C} did old new counters counters_after host host_after g slots lanes wires engine held all none taken taken_after onward s t =
    let w = wiring old in
    let u : IsAhead old g = subst (λ (p : Phase). IsGroupAt p old g) slots t.at in
    let first : SweepAt C = sweep_at (record old.several { rx_index = old.engine.state.rx_index }) 0 counters host in
    let last : SweepAt C = sweep_at new.several 0 counters_after host_after in
    let few : ahead_of g ≤ g.most = omega arith in
    let begun : HaveBegun did w g.state (distance g.state.tx_index g.producer) (ahead_of g) new.several.count first last =
    subst (λ (x : State). HaveBegun did w x (distance g.state.tx_index g.producer) (ahead_of g) new.several.count first last) t.group.state
    (subst (λ (n : ℕ). HaveBegun did w old.engine.state n (ahead_of g) new.several.count first last) u.shown
    (subst (λ (n : ℕ). HaveBegun did w old.engine.state old.several.shown n new.several.count first last) u.ahead s)) in
    let f = begins_on did w g (omega (arith, few, t.group.few)) onward new.several.count first last (so_begun did w g first (ap (λ (x : State). x.rx_index) t.group.state) taken none all) begun in
    let ended : last.taken ≡ ahead_of g = taken_after ∙ u.ahead in
    let w_is : wiring new ≡ w = ap (λ (x : OwnedWiring). wiring_of x) wires in
    let g' = gone_by phase.Slots w g (lent_words host_after.words.now) f.dids in
    let phase_back : Phase → Type 0 = λ p. AreTogether new (gone_by p w g (lent_words host_after.words.now) f.dids) in
    let made_is : g'.made ≡ made_by_all w (lent_words host_after.words.now) f.dids = ap (λ (m : List Made). m ++ made_by_all w (lent_words host_after.words.now) f.dids) u.made in
    let are : AreLanes w g.state g.producer (look_of w g) (EndsPast g.state.tx_index (ahead_of g)) f.lanes new.several.rx_index g'.made =
    subst (λ (m : List Made). AreLanes w g.state g.producer (look_of w g) (EndsPast g.state.tx_index (ahead_of g)) f.lanes new.several.rx_index m) (sym made_is)
    (lanes_also w g.state g.producer (look_of w g) (CursorEnds did w g last.taken) (EndsPast g.state.tx_index (ahead_of g)) f.lanes new.several.rx_index _ (λ x e. subst (λ (n : ℕ). EndsPast g.state.tx_index n x) ended e.0) f.are) in
    let on : AreUnderWay new g' = record {
      lanes = f.lanes;
      engines = f.engines ∙ ap (λ (x : Wiring). map (lane_at x) (take new.several.count new.several.lanes)) (sym w_is);
      asks = f.asks ∙ sym (ap (λ (a : List Ask). asked_by phase.Slots a f.dids) u.asked);
      are = subst (λ (x : Wiring). AreLanes x g.state g.producer (look_of x g) (EndsPast g.state.tx_index (ahead_of g)) f.lanes new.several.rx_index g'.made) (sym w_is) are;
      few = omega (arith, f.slots, f.few, few);
      held = ap (λ (n : ℕ). all_held (take n f.lanes)) held;
    } in
    let group : IsGroup new g' = record {
      stage = ap (λ (e : Engine). e.stage) engine ∙ t.group.stage;
      state = ap (λ (e : Engine). e.state) engine ∙ t.group.state;
      live = t.group.live;
      small = t.group.small;
      some = t.group.some;
      ring = t.group.ring;
      many = t.group.many;
      few = t.group.few;
    } in
    record {
      dids = f.dids;
      read = subst (λ (p : Phase). AreRead p w g (lent_words host.words.now) f.dids) (sym slots) (subst (λ (n : ℕ). AreAhead w g.state.tx_index 0 0 n (lent_words host.words.now) f.dids) ended f.read);
      history = f.history;
      asked = f.asked;
      said = f.said;
      counted = f.counted;
      phase_is = lanes;
      together = subst phase_back (sym slots) (record { group = group; at = subst (λ (p : Phase). IsGroupAt p new g') (sym lanes) on });
    }
