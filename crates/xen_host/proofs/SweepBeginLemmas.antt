-- Several turns begin one after another: what all have come to, with what each did.
use Rattle.std.proofs.Common.{◌≡◌, ℕ, zero, suc, ◌<◌, ◌≤◌, ◌+◌, ◌-◌, ◌*◌, ◌%◌, ◌^◌, List, [], ◌∷◌, ◌++◌, Some, None, length, take, drop, map, refl, sym, ap, ◌∙◌, subst, length-append, arith}
use Rattle.std.specs.Prelude.{set, slice_get}
use Rattle.std.proofs.lemmas.List.{length-map, map-append}
use Rattle.bpf_note.specs.declared.op.Op.{Op as Operation}
use Rattle.xdp_program.specs.Tallies.{Went}
use Rattle.xen_ring.specs.Index.{distance}
use Rattle.std.proofs.lemmas.Bool.Decides.{nat_tests}
use Rattle.xen_steps.specs.Places.{add32, available}
use Rattle.xen_steps.specs.Steps.{Steps}
use Rattle.xen_rx_fill.specs.Places.{tx_slot}
use Rattle.xen_turns.specs.Turned.{Ending}
use Rattle.xen_turns.specs.Woven.{Made, by_turn}
use Rattle.xen_turns.specs.declared.wiring.Wiring.{Wiring}
use Rattle.xen_host.specs.Asks.{Ask, reads_at}
use Rattle.xen_host.specs.EngineAt.{EngineAt}
use Rattle.xen_host.specs.LaneHosts.{lane_op_at, said_by}
use Rattle.xen_host.specs.LaneSteps.{IsShown, LaneBegins, lane_at, slot_at, slot_reads}
use Rattle.xen_host.specs.Lanes.{AreLanes, EndsAt, EndsPast, LaneAt, own}
use Rattle.xen_host.specs.Severals.{AreAhead, AreAsked, Group, LaneDid, ahead_of, asked_by, asks_by, labels_by, look_of, made_by, made_by_all, ops_by}
use Rattle.xen_host.specs.Stands.{Stands}
use Rattle.xen_host.specs.Sweeps.{BeginsLane, HaveBegun, SweepAt}
use Rattle.xen_host.specs.declared.lane.Lane.{Lane}
use Rattle.xen_host.specs.declared.op.HostOp.{HostOp}
use Rattle.xen_host.specs.declared.several.Phase.TheVariants as phase
use Rattle.xen_host.proofs.DidLemmas.{AllBefore, asked_still, asks_more, before_more, begun_more, labels_more, made_more, made_same, ops_more, same_part}
use Rattle.xen_host.proofs.SeveralLemmas.{behind_first}
use Rattle.xen_host.proofs.SweepLemmas.{events_by, stage_at, stages_before, went_then}

-- slots that a producer may show
pub is_shown : (t n : ℕ) → t < 2 ^ 32 → n ≤ 256 → IsShown t n
is_shown t n small few =
    let p = (t + n) % 2 ^ 32 in
    let far : distance t p ≡ n = omega (arith, small, few) in
    let shows : available t p ≡ Some n = grind (arith, nat_tests) in
    (p, omega arith, shows)

-- one more that has taken slots
ahead_more : (w : Wiring) (tx k from to n : ℕ) (lent : List ℕ) (dids : List LaneDid) (d : LaneDid) → AreAhead w tx k from to lent dids → d.turn ≡ k + length dids → d.reads ≡ slot_reads w (add32 tx to) lent to n →
    AreAhead w tx k from (to + n) lent (dids ++ d ∷ [])
ahead_more w tx k from to n lent [] d h turn reads =
    (n, turn ∙ (let z : k + 0 ≡ k = omega arith in z), subst (λ (i : ℕ). d.reads ≡ slot_reads w (add32 tx i) lent i n) (sym h) reads, ap (λ i. i + n) h)
ahead_more w tx k from to n lent (x ∷ dids) d h turn reads =
    (h.0, h.1, h.2, ahead_more w tx (k + 1) (from + h.0) to n lent dids d h.3 (turn ∙ (let z : k + suc (length dids) ≡ (k + 1) + length dids = omega arith in z)) reads)

-- slots are of the words in front
slots_same : (w : Wiring) (t i n : ℕ) (l r : List ℕ) → take 48 l ≡ take 48 r → i + n ≤ 16 → slot_reads w t l i n ≡ slot_reads w t r i n
slots_same w t i zero l r e h = refl
slots_same w t i (suc n) l r e h =
    let here : slot_at l (i + n) ≡ slot_at r (i + n) = same_part 48 (3 * (i + n)) 3 l r e (omega (arith, h)) in
    let more = slots_same w t i n l r e (omega (arith, h)) in
    ap (λ x. x ++ reads_at (tx_slot w.vif (add32 t n) 0) (slot_at l (i + n))) more ∙ ap (λ x. slot_reads w t r i n ++ reads_at (tx_slot w.vif (add32 t n) 0) x) here

-- the first k + 1, of which the last is another
pub taken_more : (k : ℕ) (l : List Lane) (x : Lane) → k < length l → take (k + 1) (set l k x) ≡ take k l ++ x ∷ []
taken_more k [] x h = absurd (omega (arith, h))
taken_more zero (a ∷ l) x h = refl
taken_more (suc k) (a ∷ l) x h =
    let e : suc k + 1 ≡ suc (k + 1) = omega arith in
    ap (λ n. take n (a ∷ set l k x)) e ∙ ap (λ (r : List Lane). a ∷ r) (taken_more k l x (omega (arith, h)))

there_at : (k : ℕ) (l : List Lane) → k < length l → (x : Lane) × (slice_get l k ≡ Some x)
there_at k [] h = absurd (omega (arith, h))
there_at zero (a ∷ l) h = (a, refl)
there_at (suc k) (a ∷ l) h = there_at k l (omega (arith, h))

set_length : (k : ℕ) (l : List Lane) (x : Lane) → length (set l k x) ≡ length l
set_length k [] x = refl
set_length zero (a ∷ l) x = refl
set_length (suc k) (a ∷ l) x = ap (λ n. suc n) (set_length k l x)

front_less : (n m : ℕ) (l r : List ℕ) → n ≤ m → take m l ≡ take m r → take n l ≡ take n r
front_less n m l r h e = same_part m 0 n l r e (omega (arith, h))

module _ {C : Type 0} (did : Operation → C → C → Type 0) (w : Wiring) (g : Group) where
  -- What is left of the last that has begun: the next begins where it ends, as long as there are slots.
  abbrev pub CursorEnds : ℕ → Steps Ending → Type 0
  CursorEnds i s = EndsPast g.state.tx_index i s × (i < ahead_of g → EndsAt (add32 g.state.tx_index i) s)

  abbrev pub AreBegunNow : ℕ → List LaneAt → ℕ → List Made → Type 0
  AreBegunNow i lanes rx made = AreLanes w g.state g.producer (look_of w g) (CursorEnds i) lanes rx made

  -- One that begins is under way then, behind the others.
  abbrev pub BeginsOnward : Type 0
  BeginsOnward = (k rx i taken count count_after : ℕ) (lanes : List LaneAt) (made : List Made) (old new : C) (lane_after : Lane) (ops ops_after : List HostOp) (lent lent_after : List ℕ) → length lanes ≡ k → i < ahead_of g →
      (k ≡ 0 → i ≡ 0) → rx ≡ g.state.rx_index → AreBegunNow i lanes rx made → Stands (lane_at w lane_after) →
      (b : LaneBegins (λ labels. Went did old new labels) (record { tx_index = add32 g.state.tx_index i; rx_index = rx; halt = None }) (distance g.state.tx_index g.producer - i) i (ahead_of g) taken (own k) (count + 1) (lane_at w lane_after) ops ops_after count count_after lent lent_after) →
      (l' : LaneAt) × (l'.engine ≡ lane_at w lane_after) × (l'.asked ≡ b.last) ×
      AreBegunNow taken (lanes ++ l' ∷ []) rx (made ++ by_turn k (events_by did w g k (slot_reads w (add32 g.state.tx_index i) lent i b.slots) b.labels b.first b.last lent_after))

  -- So far `k` have begun.
  pub record SoBegun (k : ℕ) (old mid : SweepAt C) : Type 0 where
    pub dids : List LaneDid
    pub many_did : length dids ≡ k
    pub lanes : List LaneAt
    pub many : length lanes ≡ k
    pub engines : map (λ l. l.engine) lanes ≡ map (lane_at w) (take k mid.lanes)
    pub asks : map (λ l. l.asked) lanes ≡ asked_by phase.Slots [] dids
    pub are : AreBegunNow mid.taken lanes mid.rx (made_by_all w mid.lent dids)
    pub rx : mid.rx ≡ g.state.rx_index
    pub slots : k ≤ mid.taken
    pub few : mid.taken ≤ ahead_of g
    pub none : k ≡ 0 → mid.taken ≡ 0
    pub before : AllBefore k dids
    pub read : AreAhead w g.state.tx_index 0 0 mid.taken old.lent dids
    pub asked : AreAsked w.vif.table.now (length w.vif.owners.now) (map (λ l. l.engine.stage) mid.lanes) dids
    pub said : mid.ops ≡ ops_by w dids ++ drop mid.count old.ops
    pub counted : mid.count ≡ length (ops_by w dids)
    pub history : Went did old.counters mid.counters (labels_by dids)
    pub front : take 48 mid.lent ≡ take 48 old.lent
    pub all : length mid.lanes ≡ 16

module _ {C : Type 0} (did : Operation → C → C → Type 0) (w : Wiring) (g : Group) (k : ℕ) (old mid new : SweepAt C) (f : SoBegun did w g k old mid) (more : mid.taken < ahead_of g) (sixteen : ahead_of g ≤ 16)
    (st : BeginsLane did w g.state (distance g.state.tx_index g.producer) (ahead_of g) k mid new) (onward : BeginsOnward did w g) where
  pub begin_on : SoBegun did w g (k + 1) old new
  begin_on =
      let b = st.begins in
      let said = b.asks.said in
      let low : k < length mid.lanes = omega (arith, f.slots, more, sixteen, f.all) in
      let d : LaneDid = record { turn = k; reads = slot_reads w (add32 g.state.tx_index mid.taken) mid.lent mid.taken b.slots; labels = b.labels; first = b.first; last = b.last } in
      let ops = map (λ a. lane_op_at (own k) a) (said_by w.vif.tx (asks_by d)) in
      let many_ops : length ops ≡ length (said_by w.vif.tx (asks_by d)) = length-map (said_by w.vif.tx (asks_by d)) (λ a. lane_op_at (own k) a) in
      let counted : new.count ≡ mid.count + length ops = said.counted ∙ ap (λ n. mid.count + n) (sym many_ops) in
      let made = made_by_all w mid.lent f.dids in
      let o = onward k mid.rx mid.taken new.taken mid.count new.count f.lanes made mid.counters new.counters st.lane_after mid.ops new.ops mid.lent new.lent f.many more f.none f.rx f.are st.stands b in
      let still : made ≡ made_by_all w new.lent f.dids = made_same w k mid.lent new.lent f.dids (sym said.front) f.before in
      let made_is : made ++ made_by w new.lent d ≡ made_by_all w new.lent (f.dids ++ d ∷ []) = ap (λ x. x ++ made_by w new.lent d) still ∙ sym (made_more w new.lent f.dids d) in
      let stages_still = asked_still w.vif.table.now (length w.vif.owners.now) k (map (λ l. l.engine.stage) mid.lanes) (map (λ l. l.engine.stage) new.lanes) f.dids
      (λ j x i e. ap (λ (l : List Lane). slice_get (map (λ l. l.engine.stage) l) j) st.lanes ∙ stages_before k mid.lanes st.lane_after j x i e) f.before f.asked in
      let there = there_at k mid.lanes low in
      let slots_are = slots_same w (add32 g.state.tx_index mid.taken) mid.taken b.slots mid.lent old.lent f.front (omega (arith, b.taken_is, b.few, sixteen)) in
      record {
        dids = f.dids ++ d ∷ [];
        many_did = length-append f.dids (d ∷ []) ∙ ap (λ n. n + 1) f.many_did;
        lanes = f.lanes ++ o.0 ∷ [];
        many = length-append f.lanes (o.0 ∷ []) ∙ ap (λ n. n + 1) f.many;
        engines = map-append (λ l. l.engine) f.lanes (o.0 ∷ []) ∙ ap (λ (l : List EngineAt). l ++ o.0.engine ∷ []) f.engines ∙ ap (λ (x : EngineAt). map (lane_at w) (take k mid.lanes) ++ x ∷ []) o.1 ∙
            sym (map-append (lane_at w) (take k mid.lanes) (st.lane_after ∷ [])) ∙ ap (λ (l : List Lane). map (lane_at w) l) (sym (ap (λ (l : List Lane). take (k + 1) l) st.lanes ∙ taken_more k mid.lanes st.lane_after low));
        asks = map-append (λ l. l.asked) f.lanes (o.0 ∷ []) ∙ ap (λ (l : List Ask). l ++ o.0.asked ∷ []) f.asks ∙ ap (λ (x : Ask). asked_by phase.Slots [] f.dids ++ x ∷ []) o.2 ∙ sym (begun_more [] f.dids d);
        are = subst (λ (m : List Made). AreBegunNow did w g new.taken (f.lanes ++ o.0 ∷ []) new.rx m) made_is (subst (λ (x : ℕ). AreBegunNow did w g new.taken (f.lanes ++ o.0 ∷ []) x (made ++ made_by w new.lent d)) (sym st.rx) o.3);
        rx = st.rx ∙ f.rx;
        slots = omega (arith, f.slots, b.taken_is, b.some);
        few = b.few;
        none = λ z. absurd (omega (arith, z));
        before = before_more k f.dids d f.before refl b.asks.sized;
        read = subst (λ (n : ℕ). AreAhead w g.state.tx_index 0 0 n old.lent (f.dids ++ d ∷ [])) (sym b.taken_is)
            (ahead_more w g.state.tx_index 0 0 mid.taken b.slots old.lent f.dids d f.read (sym f.many_did ∙ (let z : length f.dids ≡ 0 + length f.dids = omega arith in z)) slots_are);
        asked = asks_more w.vif.table.now (length w.vif.owners.now) (map (λ l. l.engine.stage) new.lanes) f.dids d st.lane_after.engine.stage stages_still b.asks.take_none b.asks.sized b.asks.within
            (ap (λ (l : List Lane). slice_get (map (λ l. l.engine.stage) l) k) st.lanes ∙ stage_at k mid.lanes there.0 st.lane_after there.1) b.asks.told;
        said = said.filled ∙ ap (λ (l : List HostOp). take mid.count l ++ (ops ++ drop new.count l)) f.said ∙ behind_first (ops_by w f.dids) ops old.ops mid.count new.count f.counted counted ∙ ap (λ l. l ++ drop new.count old.ops) (sym (ops_more w f.dids d));
        counted = counted ∙ ap (λ n. n + length ops) f.counted ∙ sym (length-append (ops_by w f.dids) ops) ∙ ap (λ (l : List HostOp). length l) (sym (ops_more w f.dids d));
        history = subst (λ l. Went did old.counters new.counters l) (sym (labels_more f.dids d)) (went_then did (labels_by f.dids) b.labels old.counters mid.counters new.counters f.history b.history);
        front = front_less 48 (own k) new.lent mid.lent (omega arith) said.front ∙ f.front;
        all = ap (λ (l : List Lane). length l) st.lanes ∙ set_length k mid.lanes st.lane_after ∙ f.all;
      }

-- n of them begin.
pub begins_on : {C : Type 0} (did : Operation → C → C → Type 0) (w : Wiring) (g : Group) → ahead_of g ≤ 16 → BeginsOnward did w g → (n : ℕ) (old new : SweepAt C) → SoBegun did w g 0 old old →
    HaveBegun did w g.state (distance g.state.tx_index g.producer) (ahead_of g) n old new → SoBegun did w g n old new
begins_on did w g sixteen onward zero old new f s = subst (λ x. SoBegun did w g 0 old x) (sym s) f
begins_on did w g sixteen onward (suc n) old new f s =
    let before = begins_on did w g sixteen onward n old s.0 f s.1 in
    subst (λ (k : ℕ). SoBegun did w g k old new) (omega arith) (begin_on did w g n old s.0 new before (omega (arith, s.2.begins.taken_is, s.2.begins.some, s.2.begins.few)) sixteen s.2 onward)
