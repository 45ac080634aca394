-- The host of a lane: what it was asked stands in the ops of all, and its words in the lent ones.
use Rattle.std.proofs.Common.{◌≡◌, ℕ, zero, suc, ◌+◌, ◌-◌, ◌<◌, ◌≤◌, ◌⊎◌, inl, inr, Bool, true, false, List, [], ◌∷◌, ◌++◌, length, take, drop, map, refl, sym, ap, ◌∙◌, subst, append_assoc, append-nil, length-append, arith}
use Rattle.std.proofs.Math.Seq.{drop-append-add, take-append_seam}
use Rattle.std.proofs.lemmas.List.{drop-drop, length-take, take-append-drop}
use Rattle.std.specs.Prelude.{if◌then◌else◌}
use Rattle.xen_page.specs.declared.place.Place.{Place}
use Rattle.xen_host.specs.Asks.{AllInPages, AllSized, Ask, IsSized, TakeNone, WordsStay, did_all, needs_no_answer, takes_none, writes_at}
use Rattle.xen_host.specs.Asks as ask
use Rattle.xen_host.specs.Buses.{AllHeld, IsHeld}
use Rattle.xen_host.specs.Hosts.{Asked, WasAskedAll, WasGiven, asks_of, events_of}
use Rattle.xen_host.specs.LaneHosts.{HasLaneGiven, IsLaneFull, IsLaneLent, IsLanePut, StaysBeside, is_said, lane_op_at, said_by}
use Rattle.xen_host.specs.LaneSteps.{LaneAsks, LaneSaid, did_own}
use Rattle.xen_host.specs.LentWords.{lent_words}
use Rattle.xen_host.specs.Told.{IsToldAt}
use Rattle.xen_host.specs.declared.lane_host.LaneHost.{LaneHost}
use Rattle.xen_host.specs.declared.op.HostOp.{HostOp}
use Rattle.xen_host.specs.declared.stage.Stage.{Stage}
use Rattle.xen_turns.specs.declared.wiring.Wiring.{Wiring}
use Rattle.xen_host.proofs.HostLemmas.{Keeping, asks_append, events_same, stays}
use Rattle.xen_host.proofs.LedLemmas.{did_more, keeps}
use Rattle.xen_host.proofs.LentWordLemmas.{lent_length}

-- ---- the ops

abbrev pub lane_ops : ℕ → ℕ → List Asked → List HostOp
lane_ops tx own all = map (λ a. lane_op_at own a) (said_by tx (asks_of all))

put_front : (front ops first : List HostOp) (k : ℕ) (o : HostOp) → ops ≡ front ++ drop k first → k ≡ length front →
    take k ops ++ o ∷ drop (k + 1) ops ≡ (front ++ o ∷ []) ++ drop (k + 1) first
put_front front ops first k o e n =
    let before : take k ops ≡ front = ap (λ l. take k l) e ∙ ap (λ j. take j (front ++ drop k first)) n ∙ take-append_seam front (drop k first) in
    let behind : drop (k + 1) ops ≡ drop (k + 1) first =
    ap (λ l. drop (k + 1) l) e ∙ ap (λ j. drop (j + 1) (front ++ drop k first)) n ∙ drop-append-add front (drop k first) 1 ∙ drop-drop 1 k first in
    ap (λ l. l ++ o ∷ drop (k + 1) ops) before ∙ ap (λ l. front ++ o ∷ l) behind ∙ sym (append_assoc front (o ∷ []) (drop (k + 1) first))

-- These stand in front of the ops that were lent.
abbrev pub LaneStand : List HostOp → List HostOp → LaneHost → Type 0
LaneStand first front h = (h.ops.now ≡ front ++ drop h.count first) × (h.count ≡ length front)

one_more : (front : List HostOp) (o : HostOp) → length (front ++ o ∷ []) ≡ length front + 1
one_more front o = length-append front (o ∷ [])

lane_stand : (first : List HostOp) (tx own : ℕ) (all : List Asked) (front : List HostOp) (old new : LaneHost) → old.tx ≡ tx → old.own ≡ own → LaneStand first front old →
    WasAskedAll IsLanePut old all new → LaneStand first (front ++ lane_ops tx own all) new
lane_stand first tx own [] front old new t o s e =
    subst (λ (h : LaneHost). LaneStand first (front ++ []) h) e (subst (λ l. LaneStand first l old) (sym (append-nil front)) s)
lane_stand first tx own (a ∷ all) front old new t o s e =
    by (is_said tx a.ask) refl (λ next h. lane_stand first tx own all next e.0 new (e.1.beside.tx ∙ t) (e.1.beside.own ∙ o) h e.2)
  where
    by : (b : Bool) → is_said tx a.ask ≡ b → ((next : List HostOp) → LaneStand first next e.0 → LaneStand first (next ++ lane_ops tx own all) new) →
        LaneStand first (front ++ map (λ x. lane_op_at own x) (if b then a.ask ∷ said_by tx (asks_of all) else said_by tx (asks_of all))) new
    by true is further =
        let mid = e.0 in
        let p = e.1.said (ap (λ k. is_said k a.ask) t ∙ is) in
        let op = lane_op_at own a.ask in
        let same : mid.ops.now ≡ (front ++ op ∷ []) ++ drop mid.count first =
        p.2 ∙ ap (λ k. take old.count old.ops.now ++ lane_op_at k a.ask ∷ drop (old.count + 1) old.ops.now) o
        ∙ put_front front old.ops.now first old.count op s.0 s.1 ∙ ap (λ k. (front ++ op ∷ []) ++ drop k first) (sym p.1) in
        let count : mid.count ≡ length (front ++ op ∷ []) = p.1 ∙ ap (λ k. k + 1) s.1 ∙ sym (one_more front op) in
        subst (λ l. LaneStand first l new) (append_assoc front (op ∷ []) (lane_ops tx own all)) (further (front ++ op ∷ []) (same, count))
    by false is further =
        let k = e.1.kept (ap (λ k. is_said k a.ask) t ∙ is) in
        further front (k.1 ∙ s.0 ∙ ap (λ j. front ++ drop j first) (sym k.0), k.0 ∙ s.1)

-- All but its ops, and its own words, stay, and it has said no more than it might.
pub record LaneWithin (old new : LaneHost) : Type 0 where
  pub room : new.count ≤ new.limit
  pub beside : StaysBeside old new

beside_none : (h : LaneHost) → StaysBeside h h
beside_none h = record { base = refl; limit = refl; own = refl; ahead = refl; tx = refl; room = refl; width = refl; ops = refl; words = refl }

beside_then : (old mid new : LaneHost) → StaysBeside old mid → StaysBeside mid new → StaysBeside old new
beside_then old mid new a b = record {
  base = b.base ∙ a.base;
  limit = b.limit ∙ a.limit;
  own = b.own ∙ a.own;
  ahead = b.ahead ∙ a.ahead;
  tx = b.tx ∙ a.tx;
  room = b.room ∙ a.room;
  width = b.width ∙ a.width;
  ops = b.ops ∙ a.ops;
  words = b.words ∙ a.words;
}

one_within : (a : Asked) (old mid : LaneHost) → old.count ≤ old.limit → IsLanePut old a.ask a.words mid → mid.count ≤ mid.limit
one_within a old mid le put = by (is_said old.tx a.ask) refl
  where
    by : (b : Bool) → is_said old.tx a.ask ≡ b → mid.count ≤ mid.limit
    by true is = let p = put.said is in omega (arith, p.0, p.1, put.beside.limit)
    by false is = let k = put.kept is in omega (arith, k.0, put.beside.limit, le)

pub lane_within : (all : List Asked) (old new : LaneHost) → old.count ≤ old.limit → WasAskedAll IsLanePut old all new → LaneWithin old new
lane_within [] old new le e = subst (λ (h : LaneHost). LaneWithin old h) e (record { room = le; beside = beside_none old })
lane_within (a ∷ all) old new le e =
    let r = lane_within all e.0 new (one_within a old e.0 le e.1) e.2 in
    record { room = r.room; beside = beside_then old e.0 new e.1.beside r.beside }

-- ---- the lent words

no_write : (a : Ask) (words : List ℕ) (old new : LaneHost) → old.base < old.count → IsLaneLent a words old new → (new.words.now ≡ old.words.now) × (keeps a ≡ true)
no_write (ask.Read at count) words old new some h = (h, refl)
no_write (ask.Entry at reference rights) words old new some h = (h, refl)
no_write (ask.Write at count) words old new some h = absurd (omega (arith, some, h.0))
no_write (ask.Store at word) words old new some h = (h, refl)
no_write (ask.StoreTwo at x y) words old new some h = (h, refl)
no_write (ask.Push at word read) words old new some h = (h, refl)
no_write (ask.Notify port) words old new some h = (h, refl)
no_write (ask.TurnOver kind) words old new some h = (h, refl)
no_write (ask.DeliveryOver what) words old new some h = (h, refl)
no_write (ask.WaitOver what) words old new some h = (h, refl)

still_some : (a : Ask) (words : List ℕ) (old mid : LaneHost) → old.base < old.count → IsLanePut old a words mid → mid.base < mid.count
still_some a words old mid some put = by (is_said old.tx a) refl
  where
    by : (b : Bool) → is_said old.tx a ≡ b → mid.base < mid.count
    by true is = let p = put.said is in omega (arith, some, p.1, put.beside.base)
    by false is = let k = put.kept is in omega (arith, some, k.0, put.beside.base)

keep_rest : (all : List Asked) (old new : LaneHost) → old.base < old.count → WasAskedAll IsLanePut old all new → (new.words.now ≡ old.words.now) × Keeping all
keep_rest [] old new some e = (ap (λ (h : LaneHost). h.words.now) (sym e), tt)
keep_rest (a ∷ all) old new some e =
    let k = no_write a.ask a.words old e.0 some e.1.lent in
    let r = keep_rest all e.0 new (still_some a.ask a.words old e.0 some e.1) e.2 in
    (r.0 ∙ k.0, (k.1, r.1))

-- What takes no answer is said.
none_said : (tx : ℕ) (a : Ask) → takes_none a ≡ true → is_said tx a ≡ true
none_said tx (ask.Read at count) h = cc h
none_said tx (ask.Entry at reference rights) h = cc h
none_said tx (ask.Write at count) h = refl
none_said tx (ask.Store at word) h = refl
none_said tx (ask.StoreTwo at x y) h = refl
none_said tx (ask.Push at word read) h = cc h
none_said tx (ask.Notify port) h = refl
none_said tx (ask.TurnOver kind) h = cc h
none_said tx (ask.DeliveryOver what) h = cc h
none_said tx (ask.WaitOver what) h = cc h

-- What was asked after a first ask, which takes no answer unless it is all.
rest_kept : (first : List Asked) (last : Asked) (a : Asked) (all : List Asked) (old mid new : LaneHost) → a ∷ all ≡ first ++ last ∷ [] → TakeNone (asks_of first) → old.count ≡ old.base →
    IsLanePut old a.ask a.words mid → WasAskedAll IsLanePut mid all new → (new.words.now ≡ mid.words.now) × Keeping all
rest_kept [] last a [] old mid new is none fresh put e = (ap (λ (h : LaneHost). h.words.now) (sym e), tt)
rest_kept [] last a (b ∷ all) old mid new is none fresh put e = cc is
rest_kept (x ∷ first) last a all old mid new is none fresh put e =
    let same : x ≡ a = cc is in
    let p = put.said (none_said old.tx a.ask (subst (λ (y : Asked). takes_none y.ask ≡ true) same none.0)) in
    keep_rest all mid new (omega (arith, p.1, put.beside.base, fresh)) e

-- The lent words from the lane's own on.
abbrev pub own_words : LaneHost → List ℕ
own_words h = drop h.own (lent_words h.words.now)

-- What was asked, and the lent words after it.
pub record LaneWrote (all : List Asked) (old new : LaneHost) : Type 0 where
  pub stay : WordsStay (asks_of all) (own_words old) (own_words new)
  pub events : events_of all ≡ did_all (asks_of all) (own_words new)
  pub front : take old.own (lent_words new.words.now) ≡ take old.own (lent_words old.words.now)
  pub behind : drop (old.own + 1024) (lent_words new.words.now) ≡ drop (old.own + 1024) (lent_words old.words.now)

kept_first : (a : Asked) (all : List Asked) (old mid new : LaneHost) → keeps a.ask ≡ true → new.own ≡ old.own → mid.words.now ≡ old.words.now → new.words.now ≡ mid.words.now → Keeping all → LaneWrote (a ∷ all) old new
kept_first a all old mid new k o e f rest =
    let lent = own_words new in
    let words = ap lent_words (f ∙ e) in
    let same : lent ≡ own_words old = ap (λ j. drop j (lent_words new.words.now)) o ∙ ap (λ l. drop old.own l) words in
    record {
      stay = subst (λ (l : List ℕ). WordsStay (asks_of (a ∷ all)) l lent) same (stays (a ∷ all) lent (k, rest));
      events = events_same (a ∷ all) lent (k, rest);
      front = ap (λ l. take old.own l) words;
      behind = ap (λ l. drop (old.own + 1024) l) words;
    }

first_asked : (a : Ask) (words : List ℕ) (all : List Asked) (old mid new : LaneHost) → IsSized a → new.own ≡ old.own → IsLaneLent a words old mid → new.words.now ≡ mid.words.now → Keeping all →
    LaneWrote (record { ask = a; words = words } ∷ all) old new
first_asked (ask.Read at count) words all old mid new z o l f rest = kept_first (record { ask = ask.Read at count; words = words }) all old mid new refl o l f rest
first_asked (ask.Entry at reference rights) words all old mid new z o l f rest = kept_first (record { ask = ask.Entry at reference rights; words = words }) all old mid new refl o l f rest
first_asked (ask.Write at count) words all old mid new z o l f rest =
    let own = old.own in
    let before = lent_words old.words.now in
    let after = lent_words new.words.now in
    let lent = drop own after in
    let same : own_words new ≡ lent = ap (λ j. drop j after) o in
    let now = ap lent_words f in
    let front : take count words ≡ take count lent = sym (ap (λ (x : List ℕ). take count (drop own x)) now ∙ l.2) in
    let rests : drop (own + count) after ≡ drop (own + count) before = ap (λ (x : List ℕ). drop (own + count) x) now ∙ l.3 in
    let stay : drop count lent ≡ drop count (drop own before) = drop-drop count own after ∙ rests ∙ sym (drop-drop count own before) in
    let much : own + 1024 ≡ own + count + (1024 - count) = omega (arith, z.1) in
    record {
      stay = ap (λ (x : List ℕ). drop count x) same ∙ stay;
      events = ap (λ x. writes_at at x ++ events_of all) front ∙ ap (λ x. writes_at at (take count lent) ++ x) (events_same all lent rest)
          ∙ ap (λ (x : List ℕ). writes_at at (take count x) ++ did_all (asks_of all) x) (sym same);
      front = ap (λ (x : List ℕ). take own x) now ∙ l.1;
      behind = further own count before after much rests;
    }
  where
    further : (own count : ℕ) (before after : List ℕ) → own + 1024 ≡ own + count + (1024 - count) → drop (own + count) after ≡ drop (own + count) before → drop (own + 1024) after ≡ drop (own + 1024) before
    further own count before after much rests =
        let e = 1024 - count in
        ap (λ j. drop j after) much ∙ sym (drop-drop e (own + count) after) ∙ ap (λ l. drop e l) rests ∙ drop-drop e (own + count) before ∙ ap (λ j. drop j before) (sym much)
first_asked (ask.Store at word) words all old mid new z o l f rest = kept_first (record { ask = ask.Store at word; words = words }) all old mid new refl o l f rest
first_asked (ask.StoreTwo at x y) words all old mid new z o l f rest = kept_first (record { ask = ask.StoreTwo at x y; words = words }) all old mid new refl o l f rest
first_asked (ask.Push at word read) words all old mid new z o l f rest = kept_first (record { ask = ask.Push at word read; words = words }) all old mid new refl o l f rest
first_asked (ask.Notify port) words all old mid new z o l f rest = kept_first (record { ask = ask.Notify port; words = words }) all old mid new refl o l f rest
first_asked (ask.TurnOver kind) words all old mid new z o l f rest = kept_first (record { ask = ask.TurnOver kind; words = words }) all old mid new refl o l f rest
first_asked (ask.DeliveryOver what) words all old mid new z o l f rest = kept_first (record { ask = ask.DeliveryOver what; words = words }) all old mid new refl o l f rest
first_asked (ask.WaitOver what) words all old mid new z o l f rest = kept_first (record { ask = ask.WaitOver what; words = words }) all old mid new refl o l f rest

lane_wrote : (first : List Asked) (last : Asked) (a : Asked) (all : List Asked) (old new : LaneHost) → a ∷ all ≡ first ++ last ∷ [] → TakeNone (asks_of first) → old.count ≡ old.base → old.count ≤ old.limit → IsSized a.ask →
    WasAskedAll IsLanePut old (a ∷ all) new → LaneWrote (a ∷ all) old new
lane_wrote first last a all old new is none fresh le z e =
    let k = rest_kept first last a all old e.0 new is none fresh e.1 e.2 in
    let w = lane_within (a ∷ all) old new le e in
    first_asked a.ask a.words all old e.0 new z w.beside.own e.1.lent k.0 k.1

wrote_all : (first : List Asked) (last : Asked) (old new : LaneHost) → TakeNone (asks_of first) → old.count ≡ old.base → old.count ≤ old.limit → AllSized (asks_of (first ++ last ∷ [])) →
    WasAskedAll IsLanePut old (first ++ last ∷ []) new → LaneWrote (first ++ last ∷ []) old new
wrote_all [] last old new none fresh le z e = lane_wrote [] last last [] old new refl none fresh le z.0 e
wrote_all (a ∷ first) last old new none fresh le z e = lane_wrote (a ∷ first) last a (first ++ last ∷ []) old new refl none fresh le z.0 e

-- ---- a WRITE has as many words as it says

lent_held : (a : Ask) (words : List ℕ) (old new : LaneHost) → IsLaneLent a words old new → IsHeld a words
lent_held (ask.Write at count) words old new h = h.4
lent_held (ask.Read at count) words old new h = tt
lent_held (ask.Entry at reference rights) words old new h = tt
lent_held (ask.Store at word) words old new h = tt
lent_held (ask.StoreTwo at x y) words old new h = tt
lent_held (ask.Push at word read) words old new h = tt
lent_held (ask.Notify port) words old new h = tt
lent_held (ask.TurnOver kind) words old new h = tt
lent_held (ask.DeliveryOver what) words old new h = tt
lent_held (ask.WaitOver what) words old new h = tt

held_all : (all : List Asked) (old new : LaneHost) → WasAskedAll IsLanePut old all new → AllHeld all
held_all [] old new e = tt
held_all (a ∷ all) old new e = (lent_held a.ask a.words old e.0 e.1.lent, held_all all e.0 new e.2)

-- ---- what was asked of a lane's host is what stands in the ops of all

ops_split : (tx own : ℕ) (first : List Asked) (last : Asked) → lane_ops tx own (first ++ last ∷ []) ≡ map (λ a. lane_op_at own a) (said_by tx (asks_of first ++ last.ask ∷ []))
ops_split tx own first last = ap (λ (l : List Ask). map (λ a. lane_op_at own a) (said_by tx l)) (asks_append first last)

module _ (w : Wiring) (g : Stage) (first : List Asked) (last : Asked) (host host_after : LaneHost) (tx : host.tx ≡ w.vif.tx) (fresh : host.count ≡ host.base) (le : host.count ≤ host.limit) (room : host.limit ≤ length host.ops.now)
    (asked : WasAskedAll IsLanePut host (first ++ last ∷ []) host_after) (none : TakeNone (asks_of first)) (sized : AllSized (asks_of (first ++ last ∷ []))) where
  abbrev All : List Asked
  All = first ++ last ∷ []

  wrote : LaneWrote All host host_after
  wrote = wrote_all first last host host_after none fresh le sized asked

  pub asks_within : LaneWithin host host_after
  asks_within = lane_within All host host_after le asked

  abbrev own : ℕ
  own = host.own

  after_own : own_words host_after ≡ drop own (lent_words host_after.words.now)
  after_own = ap (λ j. drop j (lent_words host_after.words.now)) asks_within.beside.own

  said : LaneSaid w.vif.tx own (asks_of first ++ last.ask ∷ []) host.ops.now host_after.ops.now host.count host_after.count (lent_words host.words.now) (lent_words host_after.words.now)
  said =
      let ops = host.ops.now in
      let n = host.count in
      let front = take n ops in
      let long : length front ≡ n = omega (arith, length-take n ops, le, room) in
      let s = lane_stand ops w.vif.tx own All front host host_after tx refl (sym (take-append-drop n ops), sym long) asked in
      let is = ops_split w.vif.tx own first last in
      record {
        filled = s.0 ∙ append_assoc front (lane_ops w.vif.tx own All) (drop host_after.count ops) ∙ ap (λ l. front ++ (l ++ drop host_after.count ops)) is;
        counted = s.1 ∙ length-append front (lane_ops w.vif.tx own All) ∙ ap (λ j. j + length (lane_ops w.vif.tx own All)) long ∙ ap (λ (l : List HostOp). n + length l) is
            ∙ ap (λ j. n + j) (length_map (said_by w.vif.tx (asks_of first ++ last.ask ∷ [])));
        front = wrote.front;
        behind = wrote.behind;
        words = subst (λ (l : List Ask). WordsStay l (own_words host) (drop own (lent_words host_after.words.now))) (asks_append first last)
            (subst (λ (l : List ℕ). WordsStay (asks_of All) (own_words host) l) after_own wrote.stay);
        width = lent_length host_after.words.now ∙ asks_within.beside.width ∙ sym (lent_length host.words.now);
      }
    where
      length_map : (l : List Ask) → length (map (λ a. lane_op_at own a) l) ≡ length l
      length_map [] = refl
      length_map (a ∷ l) = ap suc (length_map l)

  pub lane_asks : IsLaneFull host_after ⊎ (needs_no_answer last.ask ≡ false) → IsToldAt w.vif.table.now g last.ask → (AllHeld (first ++ last ∷ []) → AllInPages (length w.vif.owners.now) (asks_of (first ++ last ∷ []))) →
      LaneAsks w host.own host.limit g (asks_of first) last.ask host.ops.now host_after.ops.now host.count host_after.count (lent_words host.words.now) (lent_words host_after.words.now)
  lane_asks stops told within = record {
    take_none = none;
    said = said;
    stops = by stops;
    sized = subst AllSized (asks_append first last) sized;
    told = told;
    within = subst (λ (l : List Ask). AllInPages (length w.vif.owners.now) l) (asks_append first last) (within (held_all All host host_after asked));
  }
    where
      by : IsLaneFull host_after ⊎ (needs_no_answer last.ask ≡ false) → (host_after.count ≡ host.limit) ⊎ (needs_no_answer last.ask ≡ false)
      by (inl e) = inl (e ∙ asks_within.beside.limit)
      by (inr e) = inr e

  pub lane_did : events_of (first ++ last ∷ []) ≡ did_own host.own (asks_of first) last.ask (lent_words host_after.words.now)
  lane_did =
      let lent = drop own (lent_words host_after.words.now) in
      wrote.events ∙ ap (λ (l : List ℕ). did_all (asks_of All) l) after_own ∙ ap (λ (l : List Ask). did_all l lent) (asks_append first last) ∙ did_more (asks_of first) last.ask lent

-- ---- the answer

pub lane_given : (at : Place) (n : ℕ) (host mid : LaneHost) (words : List ℕ) → WasGiven HasLaneGiven at n host words mid → (words ≡ take n (own_words host)) × (mid ≡ host)
lane_given at zero host mid words g = g
lane_given at (suc n) host mid words g = (g.1.0 ∙ ap (λ k. take k (own_words host)) g.0, g.1.1)
