-- C's host: what it was asked stands in its ops.
use Rattle.std.proofs.Common.{◌≡◌, ℕ, zero, suc, ◌+◌, ◌<◌, ◌≤◌, ◌⊎◌, inl, inr, true, false, Option, None, Some, List, [], ◌∷◌, ◌++◌, length, take, drop, map, refl, sym, ap, ◌∙◌, subst, append_assoc, append-nil, length-append, length-drop, arith}
use Rattle.std.proofs.lemmas.List.{length-take}
use Rattle.xen_host.specs.Offload.{Offload}
use Rattle.xen_netif.specs.declared.segments.Offers.{Offers}
use Rattle.xen_steps.specs.Event.{Event, Read}
use Rattle.xen_page.specs.declared.place.Place.{Place}
use Rattle.xen_steps.specs.Places.{page_word}
use Rattle.xen_steps.specs.Steps.{Steps}
use Rattle.xen_rx_fill.specs.Places.{tx_word}
use Rattle.xen_turns.specs.Program.{event_of}
use Rattle.xen_host.specs.Asks.{AllInPages, AllSized, Ask, TakeNone, WordsStay, did_all, did_by, needs_no_answer, op_of, read_by, reads_at, writes_at}
use Rattle.xen_host.specs.Asks as ask
use Rattle.xen_host.specs.Buses.{AllHeld, IsHeld}
use Rattle.xen_host.specs.Fed.{WaitsFor}
use Rattle.xen_host.specs.Hosts.{Asked, HasGiven, IsFull, IsLent, IsPut, IsSameLoan, WasAskedAll, WasGiven, asks_of, events_of}
use Rattle.xen_host.specs.LentWords.{lent_words}
use Rattle.xen_host.specs.Over.{BeginsOver, SteppedOver}
use Rattle.xen_host.specs.Queues.{DeliveryGoesOn, HasBegun, Stepped, TurnGoesOn, WaitGoesOn, seen, wired_to, wiring}
use Rattle.xen_host.specs.UnderWay.{WaitsForSome, first_read, read_by_some}
use Rattle.xen_host.specs.Rest.{due_in, offload_after, offload_behind, reads_in}
use Rattle.xen_host.specs.Said.{Said}
use Rattle.xen_host.specs.declared.host.Ops.{Ops}
use Rattle.bpf_note.specs.declared.op.Op.{Op as Operation}
use Rattle.xen_host.specs.declared.op.HostOp.{HostOp}
use Rattle.xen_host.specs.declared.queue.Queue.{Queue}
use Rattle.xen_host.specs.declared.stage.Stage.{Stage}
use Rattle.xen_host.specs.declared.stage.Stage.TheVariants as stage
use Rattle.xen_host.specs.EngineAt.{WorkAt}
use Rattle.xen_host.proofs.LedLemmas.{did_more, keeps, length_more, ops_more, put_ask, stay_kept}

pub asks_append : (all : List Asked) (a : Asked) → asks_of (all ++ a ∷ []) ≡ asks_of all ++ a.ask ∷ []
asks_append [] a = refl
asks_append (x ∷ all) a = ap (λ l. x.ask ∷ l) (asks_append all a)

-- ---- the ops

-- These stand in front of the ops that were lent.
abbrev pub Stand : List HostOp → List Ask → Ops → Type 0
Stand first done h = (h.ops.now ≡ map op_of done ++ drop h.count first) × (h.count ≡ length done)

stand_all : (first : List HostOp) (all : List Asked) (done : List Ask) (old new : Ops) → Stand first done old → WasAskedAll IsPut old all new → Stand first (done ++ asks_of all) new
stand_all first [] done old new s e = subst (λ h. Stand first (done ++ []) h) e (subst (λ l. Stand first l old) (sym (append-nil done)) s)
stand_all first (a ∷ all) done old new s e =
    let mid = e.0 in
    let put = e.1 in
    let one : old.count + 1 ≡ suc old.count = omega arith in
    let ops : mid.ops.now ≡ map op_of (done ++ a.ask ∷ []) ++ drop mid.count first =
    put.ops ∙ put_ask done a.ask old.ops.now first old.count (op_of a.ask) s.0 s.1 refl ∙ ap (λ k. map op_of (done ++ a.ask ∷ []) ++ drop k first) (sym put.counted) in
    let count : mid.count ≡ length (done ++ a.ask ∷ []) = put.counted ∙ one ∙ ap suc s.1 ∙ sym (length_more done a.ask) in
    subst (λ l. Stand first l new) (append_assoc done (a.ask ∷ []) (asks_of all)) (stand_all first all (done ++ a.ask ∷ []) mid new (ops, count) e.2)

pub put_length : (k : ℕ) (o : HostOp) (l : List HostOp) → k < length l → length (take k l ++ o ∷ drop (k + 1) l) ≡ length l
put_length k o l some = omega (arith, length-append (take k l) (o ∷ drop (k + 1) l), length-take k l, length-drop (k + 1) l, some)

-- As many as there were, and no more are said than there was room for.
abbrev pub Within : Ops → Ops → Type 0
Within old new = (new.count ≤ length new.ops.now) × (length new.ops.now ≡ length old.ops.now) × (length new.words.now ≡ length old.words.now) × IsSameLoan old new

pub within_all : (all : List Asked) (old new : Ops) → old.count ≤ length old.ops.now → WasAskedAll IsPut old all new → Within old new
within_all [] old new le e = subst (λ h. Within old h) e (le, refl, refl, (refl, refl))
within_all (a ∷ all) old new le e =
    let mid = e.0 in
    let put = e.1 in
    let n : length mid.ops.now ≡ length old.ops.now = ap length put.ops ∙ put_length old.count (op_of a.ask) old.ops.now put.room in
    let r = within_all all mid new (omega (arith, put.counted, put.room, n)) e.2 in
    (r.0, r.1 ∙ n, r.2 ∙ put.width, (r.3.0 ∙ put.loan.0, r.3.1 ∙ put.loan.1))

-- ---- one op

kept_lent : (a : Ask) (old new : Ops) → keeps a ≡ true → new.words.now ≡ old.words.now → IsLent a [] old new
kept_lent (ask.Read at count) old new k e = e
kept_lent (ask.Entry at reference rights) old new k e = e
kept_lent (ask.Write at count) old new k e = cc k
kept_lent (ask.Store at word) old new k e = e
kept_lent (ask.StoreTwo at x y) old new k e = e
kept_lent (ask.Push at word read) old new k e = e
kept_lent (ask.Notify port) old new k e = e
kept_lent (ask.TurnOver kind) old new k e = e
kept_lent (ask.DeliveryOver what) old new k e = e
kept_lent (ask.WaitOver what) old new k e = e

-- An op behind those that are said is an ask of a host, unless it is a WRITE.
pub put_asked : (a : Ask) (o : HostOp) (old new : Ops) → keeps a ≡ true → o ≡ op_of a → old.count < length old.ops.now → new.ops.now ≡ take old.count old.ops.now ++ o ∷ drop (old.count + 1) old.ops.now →
    new.count ≡ old.count + 1 → new.words.now ≡ old.words.now → IsSameLoan old new → IsPut old a [] new
put_asked a o old new k is room ops counted words loan = record {
  room = room;
  ops = ops ∙ ap (λ (x : HostOp). take old.count old.ops.now ++ x ∷ drop (old.count + 1) old.ops.now) is;
  counted = counted;
  lent = kept_lent a old new k words;
  width = ap (λ (l : List (List ℕ)). length l) words;
  loan = loan;
}

-- ---- the lent words

no_write : (a : Ask) (words : List ℕ) (old new : Ops) → 1 ≤ old.count → IsLent a words old new → (new.words.now ≡ old.words.now) × (keeps a ≡ true)
no_write (ask.Read at count) words old new some h = (h, refl)
no_write (ask.Entry at reference rights) words old new some h = (h, refl)
no_write (ask.Write at count) words old new some h = absurd (omega (arith, some, h.0))
no_write (ask.Store at word) words old new some h = (h, refl)
no_write (ask.StoreTwo at x y) words old new some h = (h, refl)
no_write (ask.Push at word read) words old new some h = (h, refl)
no_write (ask.Notify port) words old new some h = (h, refl)
no_write (ask.TurnOver kind) words old new some h = (h, refl)
no_write (ask.DeliveryOver what) words old new some h = (h, refl)
no_write (ask.WaitOver what) words old new some h = (h, refl)

-- what it writes doesn't depend on the lent words
did_same : (a : Ask) (x y : List ℕ) → keeps a ≡ true → did_by a x ≡ did_by a y
did_same (ask.Read at count) x y k = refl
did_same (ask.Entry at reference rights) x y k = refl
did_same (ask.Write at count) x y k = cc k
did_same (ask.Store at word) x y k = refl
did_same (ask.StoreTwo at u v) x y k = refl
did_same (ask.Push at word read) x y k = refl
did_same (ask.Notify port) x y k = refl
did_same (ask.TurnOver kind) x y k = refl
did_same (ask.DeliveryOver what) x y k = refl
did_same (ask.WaitOver what) x y k = refl

-- Asks of which none is a WRITE.
abbrev pub Keeping : List Asked → Type 0
Keeping [] = Unit {0}
Keeping (a ∷ all) = (keeps a.ask ≡ true) × Keeping all

keep_rest : (all : List Asked) (old new : Ops) → 1 ≤ old.count → WasAskedAll IsPut old all new → (new.words.now ≡ old.words.now) × Keeping all
keep_rest [] old new some e = (ap (λ (h : Ops). h.words.now) (sym e), tt)
keep_rest (a ∷ all) old new some e =
    let k = no_write a.ask a.words old e.0 some e.1.lent in
    let r = keep_rest all e.0 new (omega (arith, e.1.counted)) e.2 in
    (r.0 ∙ k.0, (k.1, r.1))

pub stays : (all : List Asked) (lent : List ℕ) → Keeping all → WordsStay (asks_of all) lent lent
stays [] lent k = refl
stays (a ∷ all) lent k = stay_kept a.ask (asks_of all) lent lent k.0 (stays all lent k.1)

pub events_same : (all : List Asked) (lent : List ℕ) → Keeping all → events_of all ≡ did_all (asks_of all) lent
events_same [] lent k = refl
events_same (a ∷ all) lent k = ap (λ l. did_by a.ask a.words ++ l) (events_same all lent k.1) ∙ ap (λ l. l ++ did_all (asks_of all) lent) (did_same a.ask a.words lent k.0)

-- What was asked, and the lent words after it.
abbrev pub Wrote : List Asked → Ops → Ops → Type 0
Wrote all old new = WordsStay (asks_of all) (lent_words old.words.now) (lent_words new.words.now) × (events_of all ≡ did_all (asks_of all) (lent_words new.words.now))

kept_first : (a : Asked) (all : List Asked) (old mid new : Ops) → keeps a.ask ≡ true → mid.words.now ≡ old.words.now → new.words.now ≡ mid.words.now → Keeping all → Wrote (a ∷ all) old new
kept_first a all old mid new k e f rest =
    let lent = lent_words new.words.now in
    let same : lent ≡ lent_words old.words.now = ap lent_words (f ∙ e) in
    (subst (λ (l : List ℕ). WordsStay (asks_of (a ∷ all)) l lent) same (stays (a ∷ all) lent (k, rest)), events_same (a ∷ all) lent (k, rest))

first_asked : (a : Ask) (words : List ℕ) (all : List Asked) (old mid new : Ops) → IsLent a words old mid → new.words.now ≡ mid.words.now → Keeping all → Wrote (record { ask = a; words = words } ∷ all) old new
first_asked (ask.Read at count) words all old mid new l f rest = kept_first (record { ask = ask.Read at count; words = words }) all old mid new refl l f rest
first_asked (ask.Entry at reference rights) words all old mid new l f rest = kept_first (record { ask = ask.Entry at reference rights; words = words }) all old mid new refl l f rest
first_asked (ask.Write at count) words all old mid new l f rest =
    let lent = lent_words new.words.now in
    let front : take count words ≡ take count lent = sym (ap (λ x. take count (lent_words x)) f ∙ l.2) in
    (ap (λ x. drop count (lent_words x)) f ∙ l.3, ap (λ x. writes_at at x ++ events_of all) front ∙ ap (λ x. writes_at at (take count lent) ++ x) (events_same all lent rest))
first_asked (ask.Store at word) words all old mid new l f rest = kept_first (record { ask = ask.Store at word; words = words }) all old mid new refl l f rest
first_asked (ask.StoreTwo at x y) words all old mid new l f rest = kept_first (record { ask = ask.StoreTwo at x y; words = words }) all old mid new refl l f rest
first_asked (ask.Push at word read) words all old mid new l f rest = kept_first (record { ask = ask.Push at word read; words = words }) all old mid new refl l f rest
first_asked (ask.Notify port) words all old mid new l f rest = kept_first (record { ask = ask.Notify port; words = words }) all old mid new refl l f rest
first_asked (ask.TurnOver kind) words all old mid new l f rest = kept_first (record { ask = ask.TurnOver kind; words = words }) all old mid new refl l f rest
first_asked (ask.DeliveryOver what) words all old mid new l f rest = kept_first (record { ask = ask.DeliveryOver what; words = words }) all old mid new refl l f rest
first_asked (ask.WaitOver what) words all old mid new l f rest = kept_first (record { ask = ask.WaitOver what; words = words }) all old mid new refl l f rest

wrote_all : (all : List Asked) (old new : Ops) → WasAskedAll IsPut old all new → Wrote all old new
wrote_all [] old new e = (ap (λ (h : Ops). lent_words h.words.now) (sym e), refl)
wrote_all (a ∷ all) old new e =
    let k = keep_rest all e.0 new (omega (arith, e.1.counted)) e.2 in
    first_asked a.ask a.words all old e.0 new e.1.lent k.0 k.1

-- A WRITE has as many words as it says.
lent_held : (a : Ask) (words : List ℕ) (old new : Ops) → IsLent a words old new → IsHeld a words
lent_held (ask.Write at count) words old new h = h.4
lent_held (ask.Read at count) words old new h = tt
lent_held (ask.Entry at reference rights) words old new h = tt
lent_held (ask.Store at word) words old new h = tt
lent_held (ask.StoreTwo at x y) words old new h = tt
lent_held (ask.Push at word read) words old new h = tt
lent_held (ask.Notify port) words old new h = tt
lent_held (ask.TurnOver kind) words old new h = tt
lent_held (ask.DeliveryOver what) words old new h = tt
lent_held (ask.WaitOver what) words old new h = tt

held_all : (all : List Asked) (old new : Ops) → WasAskedAll IsPut old all new → AllHeld all
held_all [] old new e = tt
held_all (a ∷ all) old new e = (lent_held a.ask a.words old e.0 e.1.lent, held_all all e.0 new e.2)

-- ---- what was asked of C's host is what stands in its ops

module _ (first : List Asked) (last : Asked) where
  abbrev All : List Asked
  All = first ++ last ∷ []

  said_of : (host host_after : Ops) (lent lent_after : List ℕ) → host.count ≡ 0 → WasAskedAll IsPut host All host_after → TakeNone (asks_of first) → IsFull host_after ⊎ (needs_no_answer last.ask ≡ false) →
      AllSized (asks_of All) → WordsStay (asks_of All) lent lent_after → Said (asks_of first) last.ask host.ops.now host_after.ops.now host_after.count lent lent_after
  said_of host host_after lent lent_after none asked take_none ends sized words =
      let asks = asks_of first in
      let ops = host.ops.now in
      let n = host_after.count in
      let is : asks_of All ≡ asks ++ last.ask ∷ [] = asks_append first last in
      let begins : Stand ops [] host = (sym (ap (λ k. drop k ops) none), none) in
      let s = stand_all ops All [] host host_after begins asked in
      let b = within_all All host host_after (omega (arith, none)) asked in
      record {
        take_none = take_none;
        filled = s.0 ∙ ap (λ (l : List Ask). map op_of l ++ drop n ops) is ∙ ap (λ l. l ++ drop n ops) (ops_more asks last.ask) ∙ append_assoc (map op_of asks) (op_of last.ask ∷ []) (drop n ops);
        counted = s.1 ∙ ap (λ (l : List Ask). length l) is ∙ length_more asks last.ask;
        room = omega (arith, b.0, b.1);
        stops = stops b.1 ends;
        words = subst (λ (l : List Ask). WordsStay l lent lent_after) is words;
        sized = subst AllSized is sized;
      }
    where
      stops : length host_after.ops.now ≡ length host.ops.now → IsFull host_after ⊎ (needs_no_answer last.ask ≡ false) → (host_after.count ≡ length host.ops.now) ⊎ (needs_no_answer last.ask ≡ false)
      stops n (inl e) = inl (e ∙ n)
      stops n (inr e) = inr e

  did_of : (lent : List ℕ) → events_of All ≡ did_all (asks_of All) lent → events_of All ≡ did_all (asks_of first) lent ++ did_by last.ask lent
  did_of lent e = e ∙ ap (λ (l : List Ask). did_all l lent) (asks_append first last) ∙ did_more (asks_of first) last.ask lent

  pages_of : (frames : ℕ) → AllInPages frames (asks_of All) → AllInPages frames (asks_of first ++ last.ask ∷ [])
  pages_of frames h = subst (λ (l : List Ask). AllInPages frames l) (asks_append first last) h

-- without a page of words there is no WRITE
unlent : (a : Ask) (words : List ℕ) (old new : Ops) → length old.words.now < 1024 → IsLent a words old new → keeps a ≡ true
unlent (ask.Read at count) words old new few h = refl
unlent (ask.Entry at reference rights) words old new few h = refl
unlent (ask.Write at count) words old new few h = absurd (omega (arith, few, h.1))
unlent (ask.Store at word) words old new few h = refl
unlent (ask.StoreTwo at x y) words old new few h = refl
unlent (ask.Push at word read) words old new few h = refl
unlent (ask.Notify port) words old new few h = refl
unlent (ask.TurnOver kind) words old new few h = refl
unlent (ask.DeliveryOver what) words old new few h = refl
unlent (ask.WaitOver what) words old new few h = refl

unlent_all : (all : List Asked) (old new : Ops) → length old.words.now < 1024 → WasAskedAll IsPut old all new → Keeping all
unlent_all [] old new few e = tt
unlent_all (a ∷ all) old new few e = (unlent a.ask a.words old e.0 few e.1.lent, unlent_all all e.0 new (omega (arith, few, e.1.width)) e.2)

-- A turn that begins without lent words has begun whatever these are.
pub begun_of : (old new : Queue) (producer : ℕ) (host host_after : Ops) → host.count ≡ 0 → length host.words.now < 1024 → BeginsOver IsPut IsFull old new producer host host_after →
    HasBegun old new producer host.ops.now host_after.ops.now host_after.count
begun_of old new producer host host_after none few d lent long =
    let all = d.first ++ d.last ∷ [] in
    let k = unlent_all all host host_after few d.asked in
    let did = did_of d.first d.last lent (events_same all lent k) in
    let s = old.engine.state in
    let reads = first_read s.halt (Read (tx_word (wiring old).vif 0) producer) in
    record {
      first = asks_of d.first;
      last = d.last.ask;
      said = said_of d.first d.last host host_after lent lent none d.asked d.take_none d.stops d.sized (stays all lent k);
      told = d.told;
      within = pages_of d.first d.last (length (seen old).wires.vif.owners.now) (d.within (held_all all host host_after d.asked));
      wires = d.wires;
      share = d.share;
      offload = d.offload;
      turn = subst (λ (t : List Event). TurnGoesOn new d.last.ask s (reads ++ t)) did d.turn;
    }

-- ---- a step

given_is : (at : Place) (n : ℕ) (host mid : Ops) (words : List ℕ) → WasGiven HasGiven at n host words mid → (words ≡ take n (lent_words host.words.now)) × (mid ≡ host)
given_is at zero host mid words g = g
given_is at (suc n) host mid words g = (g.1.0 ∙ ap (λ k. take k (lent_words host.words.now)) g.0, g.1.1)

take_twice : (n : ℕ) (l : List ℕ) → take n (take n l) ≡ take n l
take_twice zero l = refl
take_twice (suc n) [] = refl
take_twice (suc n) (a ∷ l) = ap (λ m. a ∷ m) (take_twice n l)

take_front : (n count : ℕ) (lent : List ℕ) → n ≡ count → take count (take n lent) ≡ take count lent
take_front n count lent e = ap (λ k. take k (take n lent)) (sym e) ∙ take_twice n lent ∙ ap (λ k. take k lent) e

-- What is read of the lent words stands in front of them.
pub read_same : {A : Type 0} (a : Ask) (n : ℕ) (s : Steps A) (lent : List ℕ) → WaitsFor a n s → read_by a (take n lent) ≡ read_by a lent
read_same (ask.Read at count) n s lent w = ap (λ l. reads_at at l) (take_front n count lent w.0)
read_same (ask.Entry at reference rights) n s lent w = ap (λ l. reads_at at l) (take_front n 2 lent w.0)
read_same (ask.Push at word read) n s lent w = ap (λ l. reads_at (page_word at.frame read) l) (take_front n 1 lent w.0)
read_same (ask.Write at count) n s lent w = refl
read_same (ask.Store at word) n s lent w = refl
read_same (ask.StoreTwo at x y) n s lent w = refl
read_same (ask.Notify port) n s lent w = refl
read_same (ask.TurnOver kind) n s lent w = refl
read_same (ask.DeliveryOver what) n s lent w = refl
read_same (ask.WaitOver what) n s lent w = refl

some_same : {A : Type 0} (a : Option Ask) (n : ℕ) (s : Steps A) (lent : List ℕ) → WaitsForSome a n s → read_by_some a (take n lent) ≡ read_by_some a lent
some_same None n s lent w = refl
some_same (Some a) n s lent w = read_same a n s lent w

pub offload_same : (o : Offers) (g : Stage) (b : WorkAt) (lent : List ℕ) (f : Offload) → offload_after o g b (take (reads_in g) lent) f ≡ offload_after o g b lent f
offload_same o stage.Ready b lent f = refl
offload_same o stage.Announce b lent f = refl
offload_same o (stage.Slot left) b lent f = ap (λ l. offload_behind o b.chain l f) (take_twice 3 lent)
offload_same o (stage.Entry i at) b lent f = refl
offload_same o (stage.Page i here frame) b lent f = refl
offload_same o (stage.Fill here p) b lent f = refl
offload_same o (stage.Respond i) b lent f = refl
offload_same o stage.Push b lent f = refl
offload_same o stage.Notice b lent f = refl
offload_same o (stage.Deliver producer) b lent f = refl
offload_same o (stage.Wait pages) b lent f = refl
offload_same o (stage.WaitLook pages) b lent f = refl
offload_same o stage.Several b lent f = refl

module _ (went : List (Option Operation) → Type 0) (same : Type 0) (old new : Queue) (host host_after : Ops) (d : SteppedOver IsPut IsFull HasGiven went same old new host host_after) where
  answered : (d.words ≡ take (reads_in old.engine.stage) (lent_words host.words.now)) × (d.mid ≡ host)
  answered = given_is (due_in (wiring old) old.engine.state old.engine.stage (seen old).work) (reads_in old.engine.stage) host d.mid d.words d.given

  put : WasAskedAll IsPut host (d.first ++ d.last ∷ []) host_after
  put = subst (λ (h : Ops). WasAskedAll IsPut h (d.first ++ d.last ∷ []) host_after) answered.1 d.asked

  -- It keeps its loans.
  pub step_within : host.count ≤ length host.ops.now → Within host host_after
  step_within le = within_all (d.first ++ d.last ∷ []) host host_after le put

  -- A step over C's host is one of its ops and lent words.
  pub stepped_of : host.count ≡ 0 → Stepped went same old new (lent_words host.words.now) (lent_words host_after.words.now) host.ops.now host_after.ops.now host_after.count
  stepped_of none =
      let lent = lent_words host.words.now in
      let lent_after = lent_words host_after.words.now in
      let all = d.first ++ d.last ∷ [] in
      let last = d.last.ask in
      let g = old.engine.stage in
      let wrote = wrote_all all host host_after put in
      let did = did_of d.first d.last lent_after wrote.1 in
      record {
        first = asks_of d.first;
        last = last;
        said = said_of d.first d.last host host_after lent lent_after none put d.take_none d.stops d.sized wrote.0;
        told = d.told;
        within = pages_of d.first d.last (length (seen old).wires.vif.owners.now) (d.within (held_all all host host_after put));
        wires = d.wires;
        offload = d.offload ∙ ap (λ l. offload_after (wired_to old).offers g (seen old).work l old.engine.offload) answered.0 ∙ offload_same (wired_to old).offers g (seen old).work lent old.engine.offload;
        labels = d.labels;
        history = d.history;
        turn = λ s trace asked token.
            let read = ap (λ l. read_by asked l) answered.0 ∙ read_same asked (reads_in g) _ lent token.waits in
            let ran = map event_of d.labels in
            subst (λ (t : List Event). TurnGoesOn new last s (trace ++ t)) (ap (λ r. r ++ (ran ++ events_of all)) read ∙ ap (λ e. read_by asked lent ++ (ran ++ e)) did) (d.turn s trace asked token);
        delivery = λ s o packet trace asked token.
            let read = ap (λ l. read_by_some asked l) answered.0 ∙ some_same asked (reads_in g) _ lent token.0.waits in
            let r = d.delivery s o packet trace asked token in
            (subst (λ (t : List Event). DeliveryGoesOn new last s o packet (trace ++ t)) (ap (λ r. r ++ events_of all) read ∙ ap (λ e. read_by_some asked lent ++ e) did) r.0, r.1);
        wait = λ s pages packet trace asked token.
            let read = ap (λ l. read_by_some asked l) answered.0 ∙ some_same asked (reads_in g) _ lent token.0.waits in
            let r = d.wait s pages packet trace asked token in
            (subst (λ (t : List Event). WaitGoesOn new last s pages packet (trace ++ t)) (ap (λ r. r ++ events_of all) read ∙ ap (λ e. read_by_some asked lent ++ e) did) r.0, r.1);
      }
