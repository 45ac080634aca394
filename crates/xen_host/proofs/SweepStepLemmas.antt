-- One of several turns goes on, and what all have come to then.
use Rattle.std.proofs.Common.{◌≡◌, ℕ, zero, suc, ◌<◌, ◌≤◌, ◌+◌, ◌&&◌, ◌==◌, ◌⊎◌, inl, inr, true, false, List, [], ◌∷◌, ◌++◌, Some, length, take, drop, map, refl, sym, ap, ◌∙◌, subst, append_assoc, length-append, arith}
use Rattle.std.specs.Prelude.{Bool, if◌then◌else◌, set, slice_get}
use Rattle.std.proofs.lemmas.Bool.Decides.{nat_tests}
use Rattle.std.proofs.lemmas.List.{length-map, take-append-le}
use Rattle.std.proofs.Math.Seq.{take-length}
use Rattle.bpf_note.specs.declared.op.Op.{Op as Operation}
use Rattle.xdp_program.specs.Tallies.{Went}
use Rattle.xen_turns.specs.Woven.{Made}
use Rattle.xen_turns.specs.declared.state.State.{State}
use Rattle.xen_turns.specs.declared.wiring.Wiring.{Wiring}
use Rattle.xen_host.specs.Asks.{Ask, read_by}
use Rattle.xen_host.specs.EngineAt.{EngineAt, WorkAt}
use Rattle.xen_host.specs.LaneHosts.{lane_op_at, said_by}
use Rattle.xen_host.specs.LaneSteps.{goes_at, goes_on, index_behind, lane_at}
use Rattle.xen_host.specs.Lanes.{LaneAt, all_held, is_held, own}
use Rattle.xen_host.specs.Severals.{AreAsked, Group, LaneDid, asks_by, labels_by, made_by, made_by_all, ops_by}
use Rattle.xen_host.specs.Stands.{Stands}
use Rattle.xen_host.specs.Sweeps.{HaveStepped, StepsLane, SweepAt}
use Rattle.xen_host.specs.declared.lane.Lane.{Lane}
use Rattle.xen_host.specs.declared.op.HostOp.{HostOp}
use Rattle.xen_host.specs.declared.several.Phase.TheVariants as phase
use Rattle.xen_host.specs.declared.stage.Stage.{Stage}
use Rattle.xen_host.specs.declared.stage.Stage.TheVariants as stage
use Rattle.xen_host.proofs.DidLemmas.{answers_more, asked_more, asked_still, asks_more, before_more, before_next, labels_more, made_more, made_same, ops_more}
use Rattle.xen_host.proofs.SeveralLemmas.{behind_first}
use Rattle.xen_host.proofs.SweepLemmas.{AreLanesNow, GoesOnward, SoFar, Split, asked_at, behind_next, behind_still, got_mapped, mapped_get, mapped_set, set_same, set_split, split, stage_at, stages_before, taken_get, taken_split, went_then}

-- ---- those that are answered

held_more : (l r : List LaneAt) → all_held l ≡ true → all_held r ≡ true → all_held (l ++ r) ≡ true
held_more [] r h k = k
held_more (a ∷ l) r h k =
    let both = and_both (is_held a.engine) (all_held l) h in
    ap (λ b. b && all_held (l ++ r)) both.0 ∙ held_more l r both.1 k
  where
    and_both : (b c : Bool) → (b && c) ≡ true → (b ≡ true) × (c ≡ true)
    and_both true c e = (refl, e)
    and_both false c e = cc e

one_more : (before more : List LaneAt) (x : LaneAt) → take (length before + 1) (before ++ x ∷ more) ≡ before ++ x ∷ []
one_more [] more x = refl
one_more (a ∷ before) more x =
    let e : length (a ∷ before) + 1 ≡ suc (length before + 1) = omega arith in
    ap (λ n. take n (a ∷ (before ++ x ∷ more))) e ∙ ap (λ (r : List LaneAt). a ∷ r) (one_more before more x)

-- the first that aren't answered begin behind the k-th, or where they did
pub answered_next : (k : ℕ) (h : Bool) (before more : List LaneAt) (l l' : LaneAt) (answered : ℕ) → length before ≡ k → is_held l'.engine ≡ h → answered ≤ k → all_held (take answered (before ++ l ∷ more)) ≡ true →
    (all_held (take (if (answered == k) && h then k + 1 else answered) (before ++ l' ∷ more)) ≡ true) × ((if (answered == k) && h then k + 1 else answered) ≤ k + 1)
answered_next k h before more l l' answered index is up held = by (answered == k) h refl is
  where
    le : answered ≤ length before
    le = omega (arith, index, up)

    still : all_held (take answered (before ++ l' ∷ more)) ≡ true
    still = ap (λ x. all_held x) (take-append-le answered before (l' ∷ more) le ∙ sym (take-append-le answered before (l ∷ more) le)) ∙ held

    by : (b c : Bool) → (answered == k) ≡ b → is_held l'.engine ≡ c →
        (all_held (take (if b && c then k + 1 else answered) (before ++ l' ∷ more)) ≡ true) × ((if b && c then k + 1 else answered) ≤ k + 1)
    by true true e f =
        let same : answered ≡ k = grind (arith, nat_tests) in
        let front : all_held before ≡ true = ap (λ x. all_held x) (sym (ap (λ n. take n (before ++ l ∷ more)) (same ∙ sym index) ∙ take-append-le (length before) before (l ∷ more) (omega arith) ∙ take-length before)) ∙ held in
        (ap (λ n. all_held (take (n + 1) (before ++ l' ∷ more))) (sym index) ∙ ap (λ x. all_held x) (one_more before more l') ∙ held_more before (l' ∷ []) front (ap (λ b. b && true) f), omega arith)
    by true false e f = (still, omega (arith, up))
    by false c e f = (still, omega (arith, up))

-- if it is the next, all before it are answered
next_held : (k answered : ℕ) (before more : List LaneAt) (l : LaneAt) → length before ≡ k → all_held (take answered (before ++ l ∷ more)) ≡ true → (answered == k) ≡ true → all_held before ≡ true
next_held k answered before more l index held e =
    let same : answered ≡ k = grind (arith, nat_tests) in
    ap (λ x. all_held x) (sym (ap (λ n. take n (before ++ l ∷ more)) (same ∙ sym index) ∙ take-append-le (length before) before (l ∷ more) (omega arith) ∙ take-length before)) ∙ held

set_get : {A : Type 0} (l : List A) (k j : ℕ) (x y : A) → slice_get (set l k x) j ≡ Some y → (y ≡ x) ⊎ (slice_get l j ≡ Some y)
set_get [] k j x y e = inr e
set_get (a ∷ l) zero zero x y e = let same : Some x ≡ Some y = e in inl (cc same)
set_get (a ∷ l) zero (suc j) x y e = inr e
set_get (a ∷ l) (suc k) zero x y e = inr e
set_get (a ∷ l) (suc k) (suc j) x y e = set_get l k j x y e

-- one that waits sends nothing
waits_index : (next : Bool) (x : ℕ) (g : Stage) (s : State) (b : WorkAt) → goes_at next g b ≡ false → index_behind x g s ≡ x
waits_index next x stage.Ready s b e = refl
waits_index next x stage.Announce s b e = refl
waits_index next x (stage.Slot left) s b e = refl
waits_index next x (stage.Entry i at) s b e = refl
waits_index next x (stage.Page i f frame) s b e = refl
waits_index next x (stage.Fill f p) s b e = cc e
waits_index next x (stage.Respond i) s b e = refl
waits_index next x stage.Push s b e = refl
waits_index next x stage.Notice s b e = refl
waits_index next x (stage.Deliver producer) s b e = refl
waits_index next x (stage.Wait pages) s b e = refl
waits_index next x (stage.WaitLook pages) s b e = refl
waits_index next x stage.Several s b e = refl

module _ {C : Type 0} (did : Operation → C → C → Type 0) (w : Wiring) (g : Group) (count limit k : ℕ) (h : k < count) (old mid new : SweepAt C) (st : StepsLane did w limit k mid new) (f : SoFar did w g count k old mid) where
  engine_there : slice_get (map (lane_at w) (take count mid.lanes)) k ≡ Some (lane_at w st.lane)
  engine_there = mapped_get (lane_at w) k (take count mid.lanes) st.lane (taken_get count k mid.lanes h ∙ st.there)

  at : (l : LaneAt) × (slice_get f.lanes k ≡ Some l) × (l.engine ≡ lane_at w st.lane)
  at = got_mapped (λ l. l.engine) k f.lanes (lane_at w st.lane) (ap (λ (l : List EngineAt). slice_get l k) f.engines ∙ engine_there)

  cut : Split f.lanes k at.0
  cut = split f.lanes k at.0 at.1

  standing : Stands (lane_at w st.lane)
  standing = f.stand k st.lane h st.there

  stand_all : (j : ℕ) (l : Lane) → j < count → slice_get new.lanes j ≡ Some l → Stands (lane_at w l)
  stand_all j l i e = by (set_get mid.lanes k j st.lane_after l (ap (λ (x : List Lane). slice_get x j) (sym st.lanes) ∙ e))
    where
      by : (l ≡ st.lane_after) ⊎ (slice_get mid.lanes j ≡ Some l) → Stands (lane_at w l)
      by (inl same) = subst (λ (x : Lane). Stands (lane_at w x)) (sym same) (st.stands standing)
      by (inr there) = f.stand j l i there

  engines_then : map (lane_at w) (take count new.lanes) ≡ set (map (lane_at w) (take count mid.lanes)) k (lane_at w st.lane_after)
  engines_then = ap (λ (l : List Lane). map (lane_at w) (take count l)) st.lanes ∙ ap (λ (l : List Lane). map (lane_at w) l) (taken_split count k mid.lanes st.lane st.lane_after st.there h) ∙ mapped_set (lane_at w) k (take count mid.lanes) st.lane_after

  stages_still : AreAsked w.vif.table.now (length w.vif.owners.now) (map (λ l. l.engine.stage) new.lanes) f.dids
  stages_still =
      asked_still w.vif.table.now (length w.vif.owners.now) k (map (λ l. l.engine.stage) mid.lanes) (map (λ l. l.engine.stage) new.lanes) f.dids
      (λ j x i e. ap (λ (l : List Lane). slice_get (map (λ l. l.engine.stage) l) j) st.lanes ∙ stages_before k mid.lanes st.lane_after j x i e) f.before f.asked

  held_cut : all_held (take mid.answered (cut.before ++ at.0 ∷ cut.more)) ≡ true
  held_cut = ap (λ (l : List LaneAt). all_held (take mid.answered l)) (sym cut.is) ∙ f.held

  -- It waits.
  waited : goes_on (mid.answered == k) (lane_at w st.lane) ≡ false → SoFar did w g count (k + 1) old new
  waited e =
      let wt = (st.steps standing).waits e in
      let rx : new.rx ≡ mid.rx = (st.steps standing).index ∙ waits_index (mid.answered == k) mid.rx st.lane.engine.stage st.lane_after.engine.state (lane_at w st.lane).work e in
      let held_is : is_held at.0.engine ≡ is_held (lane_at w st.lane_after) = ap (λ (x : EngineAt). is_held x) (at.2 ∙ sym wt.kept) in
      let next = answered_next k (is_held (lane_at w st.lane_after)) cut.before cut.more at.0 at.0 mid.answered cut.index held_is f.up held_cut in
      record {
        dids = f.dids;
        lanes = f.lanes;
        engines = f.engines ∙ sym (engines_then ∙ ap (λ (x : EngineAt). set (map (lane_at w) (take count mid.lanes)) k x) wt.kept ∙ set_same k (map (lane_at w) (take count mid.lanes)) (lane_at w st.lane) engine_there);
        asks = f.asks;
        are = subst (λ (l : List ℕ). AreLanesNow did w g f.lanes new.rx (g.made ++ made_by_all w l f.dids)) (sym wt.words) (subst (λ (x : ℕ). AreLanesNow did w g f.lanes x (g.made ++ made_by_all w mid.lent f.dids)) (sym rx) f.are);
        held = ap (λ (n : ℕ). all_held (take n f.lanes)) st.answered ∙ ap (λ (l : List LaneAt). all_held (take (if (mid.answered == k) && is_held (lane_at w st.lane_after) then k + 1 else mid.answered) l)) cut.is ∙ next.0;
        up = subst (λ (n : ℕ). n ≤ k + 1) (sym st.answered) next.1;
        before = before_next k f.dids f.before;
        read = f.read;
        asked = stages_still;
        said = wt.ops_are ∙ f.said ∙ ap (λ n. ops_by w f.dids ++ drop n old.ops) (sym wt.none);
        counted = wt.none ∙ f.counted;
        history = subst (λ (c : C). Went did old.counters c (labels_by f.dids)) wt.history f.history;
        lent = ap (λ (l : List ℕ). drop (own (k + 1)) l) wt.words ∙ behind_still k old.lent mid.lent f.lent;
        stand = stand_all;
      }

  -- It goes on.
  gone : GoesOnward did w g → goes_on (mid.answered == k) (lane_at w st.lane) ≡ true → SoFar did w g count (k + 1) old new
  gone onward e =
      let goes = (st.steps standing).goes e in
      let said = goes.asks.said in
      let d : LaneDid = record { turn = k; reads = read_by at.0.asked (drop (own k) mid.lent); labels = goes.labels; first = goes.first; last = goes.last } in
      let ops = map (λ a. lane_op_at (own k) a) (said_by w.vif.tx (asks_by d)) in
      let many : length ops ≡ length (said_by w.vif.tx (asks_by d)) = length-map (said_by w.vif.tx (asks_by d)) (λ a. lane_op_at (own k) a) in
      let counted : new.count ≡ mid.count + length ops = said.counted ∙ ap (λ n. mid.count + n) (sym many) in
      let made = g.made ++ made_by_all w mid.lent f.dids in
      let o = onward k cut.before at.0 cut.more (mid.answered == k) mid.rx new.rx limit made mid new st.lane st.lane_after cut.index
      (next_held k mid.answered cut.before cut.more at.0 cut.index held_cut) (subst (λ (l : List LaneAt). AreLanesNow did w g l mid.rx made) cut.is f.are) at.2 e standing (st.steps standing) goes in
      let lanes = cut.before ++ o.0 ∷ cut.more in
      let is_set : set f.lanes k o.0 ≡ lanes = ap (λ (l : List LaneAt). set l k o.0) cut.is ∙ ap (λ (n : ℕ). set (cut.before ++ at.0 ∷ cut.more) n o.0) (sym cut.index) ∙ set_split cut.before cut.more at.0 o.0 in
      let next = answered_next k (is_held (lane_at w st.lane_after)) cut.before cut.more at.0 o.0 mid.answered cut.index (ap (λ (x : EngineAt). is_held x) o.1) f.up held_cut in
      let still : made_by_all w mid.lent f.dids ≡ made_by_all w new.lent f.dids = made_same w k mid.lent new.lent f.dids (sym said.front) f.before in
      let made_is : made ++ made_by w new.lent d ≡ g.made ++ made_by_all w new.lent (f.dids ++ d ∷ []) =
      append_assoc g.made (made_by_all w mid.lent f.dids) (made_by w new.lent d) ∙ ap (λ x. g.made ++ (x ++ made_by w new.lent d)) still ∙ ap (λ x. g.made ++ x) (sym (made_more w new.lent f.dids d)) in
      let asked_there : slice_get g.asked k ≡ Some at.0.asked = sym (asked_at k g.asked f.dids f.before) ∙ ap (λ (l : List Ask). slice_get l k) (sym f.asks) ∙ mapped_get (λ l. l.asked) k f.lanes at.0 at.1 in
      record {
        dids = f.dids ++ d ∷ [];
        lanes = lanes;
        engines = ap (λ (l : List LaneAt). map (λ l. l.engine) l) (sym is_set) ∙ mapped_set (λ l. l.engine) k f.lanes o.0 ∙ ap (λ (x : EngineAt). set (map (λ l. l.engine) f.lanes) k x) o.1 ∙ ap (λ (l : List EngineAt). set l k (lane_at w st.lane_after)) f.engines ∙ sym engines_then;
        asks = ap (λ (l : List LaneAt). map (λ l. l.asked) l) (sym is_set) ∙ mapped_set (λ l. l.asked) k f.lanes o.0 ∙ ap (λ (x : Ask). set (map (λ l. l.asked) f.lanes) k x) o.2 ∙ ap (λ (l : List Ask). set l k goes.last) f.asks ∙ sym (asked_more g.asked f.dids d);
        are = subst (λ (m : List Made). AreLanesNow did w g lanes new.rx m) made_is o.3;
        held = ap (λ (n : ℕ). all_held (take n lanes)) st.answered ∙ next.0;
        up = subst (λ (n : ℕ). n ≤ k + 1) (sym st.answered) next.1;
        before = before_more k f.dids d f.before refl goes.asks.sized;
        read = answers_more g.asked 0 old.lent f.dids d at.0.asked (omega arith) f.before f.read asked_there (ap (λ l. read_by at.0.asked l) f.lent);
        asked = asks_more w.vif.table.now (length w.vif.owners.now) (map (λ l. l.engine.stage) new.lanes) f.dids d st.lane_after.engine.stage stages_still goes.asks.take_none goes.asks.sized goes.asks.within
            (ap (λ (l : List Lane). slice_get (map (λ l. l.engine.stage) l) k) st.lanes ∙ stage_at k mid.lanes st.lane st.lane_after st.there) goes.asks.told;
        said = said.filled ∙ ap (λ (l : List HostOp). take mid.count l ++ (ops ++ drop new.count l)) f.said ∙ behind_first (ops_by w f.dids) ops old.ops mid.count new.count f.counted counted ∙ ap (λ l. l ++ drop new.count old.ops) (sym (ops_more w f.dids d));
        counted = counted ∙ ap (λ n. n + length ops) f.counted ∙ sym (length-append (ops_by w f.dids) ops) ∙ ap (λ (l : List HostOp). length l) (sym (ops_more w f.dids d));
        history = subst (λ l. Went did old.counters new.counters l) (sym (labels_more f.dids d)) (went_then did (labels_by f.dids) goes.labels old.counters mid.counters new.counters f.history goes.history);
        lent = behind_next k old.lent mid.lent new.lent said.behind f.lent;
        stand = stand_all;
      }

  pub step_on : GoesOnward did w g → SoFar did w g count (k + 1) old new
  step_on onward = by (goes_on (mid.answered == k) (lane_at w st.lane)) refl
    where
      by : (b : Bool) → goes_on (mid.answered == k) (lane_at w st.lane) ≡ b → SoFar did w g count (k + 1) old new
      by false e = waited e
      by true e = gone onward e

-- n of them go on.
pub steps_on : {C : Type 0} (did : Operation → C → C → Type 0) (w : Wiring) (g : Group) (count limit from : ℕ) → GoesOnward did w g → (n : ℕ) (old mid new : SweepAt C) → from + n ≤ count →
    HaveStepped did w limit from n mid new → SoFar did w g count from old mid → SoFar did w g count (from + n) old new
steps_on did w g count limit from onward zero old mid new h s f = subst (λ (k : ℕ). SoFar did w g count k old new) (omega arith) (subst (λ x. SoFar did w g count from old x) (sym s) f)
steps_on did w g count limit from onward (suc n) old mid new h s f =
    let before = steps_on did w g count limit from onward n old mid s.0 (omega (arith, h)) s.1 f in
    subst (λ (k : ℕ). SoFar did w g count k old new) (omega arith) (step_on did w g count limit (from + n) (omega (arith, h)) old s.0 new s.2 before onward)
