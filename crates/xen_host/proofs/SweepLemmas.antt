-- Several turns go on one after another: what all have come to, with what each did.
use Rattle.std.proofs.Common.{◌≡◌, ℕ, zero, suc, ◌<◌, ◌≤◌, ◌+◌, ◌-◌, true, List, [], ◌∷◌, ◌++◌, Some, None, Option, length, take, drop, map, refl, sym, ap, ◌∙◌, subst, arith}
use Rattle.std.specs.Prelude.{Bool, set, slice_get}
use Rattle.std.proofs.Math.Seq.{drop-nil}
use Rattle.bpf_note.specs.declared.op.Op.{Op as Operation}
use Rattle.xdp_program.specs.Tallies.{Went}
use Rattle.xen_steps.specs.Event.{Event}
use Rattle.xen_turns.specs.Program.{event_of}
use Rattle.xen_turns.specs.Woven.{Made, by_turn}
use Rattle.xen_turns.specs.declared.wiring.Wiring.{Wiring}
use Rattle.xen_host.specs.Asks.{Ask, read_by}
use Rattle.xen_host.specs.LaneHosts.{said_by}
use Rattle.xen_host.specs.LaneSteps.{LaneGoes, LaneSteps, goes_on, indexed, lane_at}
use Rattle.xen_host.specs.Lanes.{AreLanes, EndsPast, LaneAt, all_held, did_in, own}
use Rattle.xen_host.specs.Severals.{AreAnswers, AreAsked, Group, LaneDid, ahead_of, asked_by, labels_by, look_of, made_by_all, ops_by}
use Rattle.xen_host.specs.Stands.{Stands}
use Rattle.xen_host.specs.Sweeps.{HaveStepped, KeepsRoom, StepsLane, SweepAt}
use Rattle.xen_host.specs.declared.lane.Lane.{Lane}
use Rattle.xen_host.specs.declared.lane_host.LaneHost.{LaneHost}
use Rattle.xen_host.specs.declared.several.Phase.TheVariants as phase
use Rattle.xen_host.specs.declared.stage.Stage.{Stage}
use Rattle.xen_host.proofs.DidLemmas.{AllBefore}

-- ---- lists

-- A list about its k-th.
pub record Split {A : Type 0} (l : List A) (k : ℕ) (x : A) : Type 0 where
  pub before : List A
  pub more : List A
  pub is : l ≡ before ++ x ∷ more
  pub index : length before ≡ k

pub split : {A : Type 0} (l : List A) (k : ℕ) (x : A) → slice_get l k ≡ Some x → Split l k x
split [] k x e = absurd (cc e)
split {A} (a ∷ l) zero x e =
    let same : Some a ≡ Some x = e in
    let is : a ≡ x = cc same in
    record { before = []; more = l; is = ap (λ (y : A). y ∷ l) is; index = refl }
split {A} (a ∷ l) (suc k) x e =
    let s = split l k x e in
    record { before = a ∷ s.before; more = s.more; is = ap (λ (y : List A). a ∷ y) s.is; index = ap (λ (n : ℕ). suc n) s.index }

pub set_split : {A : Type 0} (before more : List A) (x y : A) → set (before ++ x ∷ more) (length before) y ≡ before ++ y ∷ more
set_split [] more x y = refl
set_split {A} (a ∷ before) more x y = ap (λ (l : List A). a ∷ l) (set_split before more x y)

pub drop_twice : {A : Type 0} (n m : ℕ) (l : List A) → drop m (drop n l) ≡ drop (n + m) l
drop_twice zero m l = let e : m ≡ 0 + m = omega arith in ap (λ k. drop k l) e
drop_twice (suc n) m [] = drop-nil m ∙ sym (drop-nil (suc n + m))
drop_twice {A} (suc n) m (a ∷ l) = let e : suc (n + m) ≡ suc n + m = omega arith in drop_twice n m l ∙ ap (λ k. drop k (a ∷ l)) e

pub went_then : {C : Type 0} (did : Operation → C → C → Type 0) (one more : List (Option Operation)) (a b c : C) → Went did a b one → Went did b c more → Went did a c (one ++ more)
went_then did [] more a b c g h = subst (λ x. Went did x c more) (sym g) h
went_then did (None ∷ one) more a b c g h = went_then did one more a b c g h
went_then did (Some op ∷ one) more a b c g h = (g.0, g.1, went_then did one more g.0 b c g.2 h)

pub get_set : {A : Type 0} (l : List A) (k : ℕ) (x : A) → k < length l → slice_get (set l k x) k ≡ Some x
get_set [] k x h = absurd (omega (arith, h))
get_set (a ∷ l) zero x h = refl
get_set (a ∷ l) (suc k) x h = get_set l k x (omega (arith, h))

-- one more has gone on
pub step_more : {C : Type 0} (did : Operation → C → C → Type 0) (w : Wiring) (limit from k : ℕ) (old mid new : SweepAt C) → from ≤ k → HaveStepped did w limit from (k - from) old mid → StepsLane did w limit k mid new →
    HaveStepped did w limit from (k + 1 - from) old new
step_more did w limit from k old mid new h s t =
    let n : suc (k - from) ≡ k + 1 - from = omega (arith, h) in
    let at : k ≡ from + (k - from) = omega (arith, h) in
    subst (λ (m : ℕ). HaveStepped did w limit from m old new) n (mid, s, subst (λ (j : ℕ). StepsLane did w limit j mid new) at t)

pub keeps_then : (a b c : LaneHost) → KeepsRoom a b → KeepsRoom b c → KeepsRoom a c
keeps_then a b c h k = record { tx = k.tx ∙ h.tx; room = k.room ∙ h.room; width = k.width ∙ h.width; ops = k.ops ∙ h.ops; words = k.words ∙ h.words }

-- the lent words behind the own ones of the k-th
pub behind_next : (k : ℕ) (old mid new : List ℕ) → drop (own k + 1024) new ≡ drop (own k + 1024) mid → drop (own k) mid ≡ drop (own k) old → drop (own (k + 1)) new ≡ drop (own (k + 1)) old
behind_next k old mid new e f =
    let n : own (k + 1) ≡ own k + 1024 = omega arith in
    ap (λ i. drop i new) n ∙ e ∙ sym (drop_twice (own k) 1024 mid) ∙ ap (λ l. drop 1024 l) f ∙ drop_twice (own k) 1024 old ∙ sym (ap (λ i. drop i old) n)

pub behind_still : (k : ℕ) (old mid : List ℕ) → drop (own k) mid ≡ drop (own k) old → drop (own (k + 1)) mid ≡ drop (own (k + 1)) old
behind_still k old mid f = behind_next k old mid mid refl f

-- what a later one was asked last is what it was
pub asked_at : (k : ℕ) (asked : List Ask) (dids : List LaneDid) → AllBefore k dids → slice_get (asked_by phase.Lanes asked dids) k ≡ slice_get asked k
asked_at k asked [] b = refl
asked_at k asked (d ∷ more) b = asked_at k (set asked d.turn d.last) more b.2 ∙ get_other asked d.turn k d.last b.0
  where
    get_other : (l : List Ask) (i k : ℕ) (x : Ask) → i < k → slice_get (set l i x) k ≡ slice_get l k
    get_other [] i k x h = refl
    get_other (a ∷ l) i zero x h = absurd (omega (arith, h))
    get_other (a ∷ l) zero (suc k) x h = refl
    get_other (a ∷ l) (suc i) (suc k) x h = get_other l i k x (omega (arith, h))

-- those before the k-th stay where they are
pub stages_before : (k : ℕ) (l : List Lane) (x : Lane) (j : ℕ) (g : Stage) → j < k → slice_get (map (λ l. l.engine.stage) l) j ≡ Some g → slice_get (map (λ l. l.engine.stage) (set l k x)) j ≡ Some g
stages_before k [] x j g h e = e
stages_before zero (a ∷ l) x j g h e = absurd (omega (arith, h))
stages_before (suc k) (a ∷ l) x zero g h e = e
stages_before (suc k) (a ∷ l) x (suc j) g h e = stages_before k l x j g (omega (arith, h)) e

pub stage_at : (k : ℕ) (l : List Lane) (x y : Lane) → slice_get l k ≡ Some x → slice_get (map (λ l. l.engine.stage) (set l k y)) k ≡ Some y.engine.stage
stage_at k [] x y e = absurd (cc e)
stage_at zero (a ∷ l) x y e = refl
stage_at (suc k) (a ∷ l) x y e = stage_at k l x y e

-- the first of them, about the k-th
pub taken_split : {A : Type 0} (n k : ℕ) (l : List A) (x y : A) → slice_get l k ≡ Some x → k < n → take n (set l k y) ≡ set (take n l) k y
taken_split n k [] x y e h = absurd (cc e)
taken_split zero k (a ∷ l) x y e h = absurd (omega (arith, h))
taken_split (suc n) zero (a ∷ l) x y e h = refl
taken_split {A} (suc n) (suc k) (a ∷ l) x y e h = ap (λ (r : List A). a ∷ r) (taken_split n k l x y e (omega (arith, h)))

pub taken_get : {A : Type 0} (n k : ℕ) (l : List A) → k < n → slice_get (take n l) k ≡ slice_get l k
taken_get zero k l h = absurd (omega (arith, h))
taken_get (suc n) k [] h = refl
taken_get (suc n) zero (a ∷ l) h = refl
taken_get (suc n) (suc k) (a ∷ l) h = taken_get n k l (omega (arith, h))

pub mapped_get : {A B : Type 0} (f : A → B) (k : ℕ) (l : List A) (x : A) → slice_get l k ≡ Some x → slice_get (map f l) k ≡ Some (f x)
mapped_get f k [] x e = absurd (cc e)
mapped_get {A} {B} f zero (a ∷ l) x e = ap (λ (o : Option A). option_map f o) e
  where
    option_map : (A → B) → Option A → Option B
    option_map f None = None
    option_map f (Some a) = Some (f a)
mapped_get f (suc k) (a ∷ l) x e = mapped_get f k l x e

pub got_mapped : {A B : Type 0} (f : A → B) (k : ℕ) (l : List A) (y : B) → slice_get (map f l) k ≡ Some y → (x : A) × (slice_get l k ≡ Some x) × (f x ≡ y)
got_mapped f k [] y e = absurd (cc e)
got_mapped {A} {B} f zero (a ∷ l) y e = let same : Some (f a) ≡ Some y = e in (a, refl, cc same)
got_mapped f (suc k) (a ∷ l) y e = got_mapped f k l y e

pub mapped_set : {A B : Type 0} (f : A → B) (k : ℕ) (l : List A) (x : A) → map f (set l k x) ≡ set (map f l) k (f x)
mapped_set f k [] x = refl
mapped_set f zero (a ∷ l) x = refl
mapped_set {A} {B} f (suc k) (a ∷ l) x = ap (λ (r : List B). f a ∷ r) (mapped_set f k l x)

pub set_same : {A : Type 0} (k : ℕ) (l : List A) (x : A) → slice_get l k ≡ Some x → set l k x ≡ l
set_same k [] x e = refl
set_same {A} zero (a ∷ l) x e = let same : Some a ≡ Some x = e in let is : a ≡ x = cc same in ap (λ (y : A). y ∷ l) (sym is)
set_same {A} (suc k) (a ∷ l) x e = ap (λ (r : List A). a ∷ r) (set_same k l x e)

-- ---- what all have come to

module _ {C : Type 0} (did : Operation → C → C → Type 0) (w : Wiring) (g : Group) where
  -- What the k-th made in a step, by the lent words behind it.
  abbrev pub events_by : ℕ → List Event → List (Option Operation) → List Ask → Ask → List ℕ → List Event
  events_by k reads labels first last lent = reads ++ (map event_of labels ++ did_in (said_by w.vif.tx (first ++ last ∷ [])) (drop (own k) lent))

  abbrev pub AreLanesNow : List LaneAt → ℕ → List Made → Type 0
  AreLanesNow lanes rx made = AreLanes w g.state g.producer (look_of w g) (EndsPast g.state.tx_index (ahead_of g)) lanes rx made

  -- One that goes on is under way then, as the others are.
  abbrev pub GoesOnward : Type 0
  GoesOnward = (k : ℕ) (before : List LaneAt) (l : LaneAt) (more : List LaneAt) (next : Bool) (rx rx_after limit : ℕ) (made : List Made) (old new : SweepAt C) (lane lane_after : Lane) →
      length before ≡ k → (next ≡ true → all_held before ≡ true) → AreLanesNow (before ++ l ∷ more) rx made → l.engine ≡ lane_at w lane → goes_on next (lane_at w lane) ≡ true → Stands (lane_at w lane) →
      (s : LaneSteps (λ labels. Went did old.counters new.counters labels) next rx rx_after (own k) limit (lane_at w lane) (lane_at w lane_after) old.ops new.ops old.count new.count old.lent new.lent) →
      (goes : LaneGoes (λ labels. Went did old.counters new.counters labels) (own k) limit (indexed rx (lane_at w lane)) (lane_at w lane_after) old.ops new.ops old.count new.count old.lent new.lent) →
      (l' : LaneAt) × (l'.engine ≡ lane_at w lane_after) × (l'.asked ≡ goes.last) ×
      AreLanesNow (before ++ l' ∷ more) rx_after (made ++ by_turn k (events_by k (read_by l.asked (drop (own k) old.lent)) goes.labels goes.first goes.last new.lent))

  -- So far the first `k` of `count` have gone on.
  pub record SoFar (count k : ℕ) (old mid : SweepAt C) : Type 0 where
    pub dids : List LaneDid
    pub lanes : List LaneAt
    pub engines : map (λ l. l.engine) lanes ≡ map (lane_at w) (take count mid.lanes)
    pub asks : map (λ l. l.asked) lanes ≡ asked_by phase.Lanes g.asked dids
    pub are : AreLanesNow lanes mid.rx (g.made ++ made_by_all w mid.lent dids)
    pub held : all_held (take mid.answered lanes) ≡ true
    pub up : mid.answered ≤ k
    pub before : AllBefore k dids
    pub read : AreAnswers g.asked 0 old.lent dids
    pub asked : AreAsked w.vif.table.now (length w.vif.owners.now) (map (λ l. l.engine.stage) mid.lanes) dids
    pub said : mid.ops ≡ ops_by w dids ++ drop mid.count old.ops
    pub counted : mid.count ≡ length (ops_by w dids)
    pub history : Went did old.counters mid.counters (labels_by dids)
    pub lent : drop (own k) mid.lent ≡ drop (own k) old.lent
    pub stand : (j : ℕ) (l : Lane) → j < count → slice_get mid.lanes j ≡ Some l → Stands (lane_at w l)
