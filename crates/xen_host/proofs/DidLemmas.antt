-- What several turns did in a step, one behind another.
use Rattle.std.proofs.Common.{◌≡◌, ℕ, zero, suc, ◌<◌, ◌≤◌, ◌+◌, true, false, List, [], ◌∷◌, ◌++◌, Some, take, drop, map, refl, sym, ap, ◌∙◌, append_assoc, append-nil, arith}
use Rattle.std.specs.Prelude.{if◌then◌else◌, set, slice_get}
use Rattle.xen_turns.specs.Program.{event_of}
use Rattle.xen_turns.specs.Woven.{by_turn}
use Rattle.xen_turns.specs.declared.wiring.Wiring.{Wiring}
use Rattle.xen_host.specs.Asks.{AllInPages, AllSized, Ask, DeliveryOver, Entry, IsSized, Notify, Push, Read, Store, StoreTwo, TakeNone, TurnOver, WaitOver, Write, did_by, read_by, writes_at}
use Rattle.xen_host.specs.LaneHosts.{is_said, lane_op_at, said_by}
use Rattle.xen_host.specs.Lanes.{did_in, own}
use Rattle.xen_host.specs.Severals.{AreAnswers, AreAsked, LaneDid, asked_by, asks_by, labels_by, made_by, made_by_all, ops_by}
use Rattle.xen_host.specs.Told.{IsToldAt}
use Rattle.xen_host.specs.declared.several.Phase.TheVariants as phase
use Rattle.xen_host.specs.declared.stage.Stage.{Stage}

-- Each is of a turn before this one.
abbrev pub AllBefore : ℕ → List LaneDid → Type 0
AllBefore k [] = Unit {0}
AllBefore k (d ∷ more) = (d.turn < k) × AllSized (asks_by d) × AllBefore k more

-- ---- the lent words in front stay

take_part : (n m c : ℕ) (l : List ℕ) → m + c ≤ n → take c (drop m (take n l)) ≡ take c (drop m l)
take_part n m zero l h = refl
take_part n zero (suc c) [] h = ap (λ (x : List ℕ). take (suc c) x) (take_none n)
  where
    take_none : (n : ℕ) → ◌≡◌ {A = List ℕ} (take n []) []
    take_none zero = refl
    take_none (suc n) = refl
take_part zero zero (suc c) (a ∷ l) h = absurd (omega (arith, h))
take_part (suc n) zero (suc c) (a ∷ l) h = ap (λ x. a ∷ x) (take_part n zero c l (omega (arith, h)))
take_part zero (suc m) (suc c) l h = absurd (omega (arith, h))
take_part (suc n) (suc m) (suc c) [] h = refl
take_part (suc n) (suc m) (suc c) (a ∷ l) h = take_part n m (suc c) l (omega (arith, h))

pub same_part : (n m c : ℕ) (l r : List ℕ) → take n l ≡ take n r → m + c ≤ n → take c (drop m l) ≡ take c (drop m r)
same_part n m c l r e h = sym (take_part n m c l h) ∙ ap (λ x. take c (drop m x)) e ∙ take_part n m c r h

did_same : (n m : ℕ) (l r : List ℕ) (a : Ask) → take n l ≡ take n r → m + 1024 ≤ n → IsSized a → did_by a (drop m l) ≡ did_by a (drop m r)
did_same n m l r (Write at count) e h z = ap (λ x. writes_at at x) (same_part n m count l r e (omega (arith, h, z.1)))
did_same n m l r (Read at count) e h z = refl
did_same n m l r (Entry at reference rights) e h z = refl
did_same n m l r (Store at word) e h z = refl
did_same n m l r (StoreTwo at x y) e h z = refl
did_same n m l r (Push at word read) e h z = refl
did_same n m l r (Notify port) e h z = refl
did_same n m l r (TurnOver kind) e h z = refl
did_same n m l r (DeliveryOver what) e h z = refl
did_same n m l r (WaitOver what) e h z = refl

in_same : (tx n m : ℕ) (l r : List ℕ) (asks : List Ask) → take n l ≡ take n r → m + 1024 ≤ n → AllSized asks → did_in (said_by tx asks) (drop m l) ≡ did_in (said_by tx asks) (drop m r)
in_same tx n m l r [] e h z = refl
in_same tx n m l r (a ∷ asks) e h z =
    let more = in_same tx n m l r asks e h z.1 in
    elim (is_said tx a) as (λ b. did_in (if b then a ∷ said_by tx asks else said_by tx asks) (drop m l) ≡ did_in (if b then a ∷ said_by tx asks else said_by tx asks) (drop m r)) [
      | true ↦ ap (λ x. x ++ did_in (said_by tx asks) (drop m l)) (did_same n m l r a e h z.0) ∙ ap (λ x. did_by a (drop m r) ++ x) more
      | false ↦ more
    ]

pub made_same : (w : Wiring) (k : ℕ) (l r : List ℕ) (dids : List LaneDid) → take (own k) l ≡ take (own k) r → AllBefore k dids → made_by_all w l dids ≡ made_by_all w r dids
made_same w k l r [] e b = refl
made_same w k l r (d ∷ more) e b =
    let here = in_same w.vif.tx (own k) (own d.turn) l r (asks_by d) e (omega (arith, b.0)) b.1 in
    ap (λ x. by_turn d.turn (d.reads ++ (map event_of d.labels ++ x)) ++ made_by_all w l more) here ∙ ap (λ x. made_by w r d ++ x) (made_same w k l r more e b.2)

-- ---- one more

pub made_more : (w : Wiring) (lent : List ℕ) (dids : List LaneDid) (d : LaneDid) → made_by_all w lent (dids ++ d ∷ []) ≡ made_by_all w lent dids ++ made_by w lent d
made_more w lent [] d = append-nil (made_by w lent d)
made_more w lent (x ∷ dids) d = ap (λ l. made_by w lent x ++ l) (made_more w lent dids d) ∙ sym (append_assoc (made_by w lent x) (made_by_all w lent dids) (made_by w lent d))

pub labels_more : (dids : List LaneDid) (d : LaneDid) → labels_by (dids ++ d ∷ []) ≡ labels_by dids ++ d.labels
labels_more [] d = append-nil d.labels
labels_more (x ∷ dids) d = ap (λ l. x.labels ++ l) (labels_more dids d) ∙ sym (append_assoc x.labels (labels_by dids) d.labels)

pub ops_more : (w : Wiring) (dids : List LaneDid) (d : LaneDid) → ops_by w (dids ++ d ∷ []) ≡ ops_by w dids ++ map (λ a. lane_op_at (own d.turn) a) (said_by w.vif.tx (asks_by d))
ops_more w [] d = append-nil (map (λ a. lane_op_at (own d.turn) a) (said_by w.vif.tx (asks_by d)))
ops_more w (x ∷ dids) d =
    let one = map (λ a. lane_op_at (own x.turn) a) (said_by w.vif.tx (asks_by x)) in
    let last = map (λ a. lane_op_at (own d.turn) a) (said_by w.vif.tx (asks_by d)) in
    ap (λ l. one ++ l) (ops_more w dids d) ∙ sym (append_assoc one (ops_by w dids) last)

pub asked_more : (asked : List Ask) (dids : List LaneDid) (d : LaneDid) → asked_by phase.Lanes asked (dids ++ d ∷ []) ≡ set (asked_by phase.Lanes asked dids) d.turn d.last
asked_more asked [] d = refl
asked_more asked (x ∷ dids) d = asked_more (set asked x.turn x.last) dids d

pub begun_more : (asked : List Ask) (dids : List LaneDid) (d : LaneDid) → asked_by phase.Slots asked (dids ++ d ∷ []) ≡ asked_by phase.Slots asked dids ++ d.last ∷ []
begun_more asked [] d = refl
begun_more asked (x ∷ dids) d = begun_more (asked ++ x.last ∷ []) dids d

pub before_more : (k : ℕ) (dids : List LaneDid) (d : LaneDid) → AllBefore k dids → d.turn ≡ k → AllSized (asks_by d) → AllBefore (k + 1) (dids ++ d ∷ [])
before_more k [] d b e z = (omega (arith, e), z, tt)
before_more k (x ∷ dids) d b e z = (omega (arith, b.0), b.1, before_more k dids d b.2 e z)

pub before_next : (k : ℕ) (dids : List LaneDid) → AllBefore k dids → AllBefore (k + 1) dids
before_next k [] b = tt
before_next k (x ∷ dids) b = (omega (arith, b.0), b.1, before_next k dids b.2)

pub answers_more : (asked : List Ask) (from : ℕ) (lent : List ℕ) (dids : List LaneDid) (d : LaneDid) (a : Ask) → from ≤ d.turn → AllBefore d.turn dids → AreAnswers asked from lent dids → slice_get asked d.turn ≡ Some a → d.reads ≡ read_by a (drop (own d.turn) lent) →
    AreAnswers asked from lent (dids ++ d ∷ [])
answers_more asked from lent [] d a f b h there is = (f, (a, there, is), tt)
answers_more asked from lent (x ∷ dids) d a f b h there is = (h.0, h.1, answers_more asked (x.turn + 1) lent dids d a (omega (arith, b.0)) b.2 h.2 there is)

pub asks_more : (table : List ℕ) (frames : ℕ) (stages : List Stage) (dids : List LaneDid) (d : LaneDid) (g : Stage) → AreAsked table frames stages dids →
    TakeNone d.first → AllSized (asks_by d) → AllInPages frames (asks_by d) → slice_get stages d.turn ≡ Some g → IsToldAt table g d.last → AreAsked table frames stages (dids ++ d ∷ [])
asks_more table frames stages [] d g h none sized pages there told = (none, sized, pages, (g, there, told), tt)
asks_more table frames stages (x ∷ dids) d g h none sized pages there told = (h.0, h.1, h.2, h.3, asks_more table frames stages dids d g h.4 none sized pages there told)

-- the stages of those before it stay
pub asked_still : (table : List ℕ) (frames k : ℕ) (old new : List Stage) (dids : List LaneDid) → ((j : ℕ) (g : Stage) → j < k → slice_get old j ≡ Some g → slice_get new j ≡ Some g) → AllBefore k dids →
    AreAsked table frames old dids → AreAsked table frames new dids
asked_still table frames k old new [] same b h = tt
asked_still table frames k old new (d ∷ more) same b h = (h.0, h.1, h.2, (h.3.0, same d.turn h.3.0 b.0 h.3.1, h.3.2), asked_still table frames k old new more same b.2 h.4)
