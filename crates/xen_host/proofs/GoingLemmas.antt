-- A step over a bus: what was due is read, what is asked is made, and the task goes on.
use Rattle.std.proofs.Common.{◌≡◌, ℕ, zero, suc, ◌<◌, ◌≤◌, true, false, List, [], ◌∷◌, ◌++◌, Option, None, Some, refl, sym, ap, ◌∙◌, subst, length, map, take, arith, append-nil, append_assoc}
use Rattle.xen_page.specs.Access.{Performs}
use Rattle.xen_page.specs.declared.access.Access.{Access}
use Rattle.xen_page.specs.declared.place.Place.{Place}
use Rattle.xen_page.proofs.AccessLemmas.{performs_none, performs_then}
use Rattle.xen_steps.specs.Drive.{accesses}
use Rattle.xen_steps.specs.Event.{Event}
use Rattle.xen_steps.specs.Places.{page_word}
use Rattle.xen_steps.specs.Steps.{Steps}
use Rattle.xen_steps.proofs.DriveLemmas.{accesses-append}
use Rattle.xen_turns.specs.Drive.{labels}
use Rattle.xen_turns.specs.Program.{event_of}
use Rattle.xen_turns.specs.declared.state.State.{State}
use Rattle.xen_host.specs.Asks.{AllInPages, AllSized, Ask, IsInPages, IsSized, Read, Entry, Write, Store, StoreTwo, Push, Notify, TurnOver, DeliveryOver, WaitOver, TakeNone, did_by, read_by, reads_at, takes_none, writes_at}
use Rattle.xen_host.specs.Buses.{AllHeld, HasRead, IsHeld, IsInBus, IsMade, over_after}
use Rattle.xen_host.specs.Fed.{AsksReads, WaitsFor}
use Rattle.xen_host.specs.Hosts.{WasGiven}
use Rattle.xen_host.specs.Hosts.{Asked, WasAskedAll, asks_of, events_of}
use Rattle.xen_host.specs.Rest.{due_in, reads_in}
use Rattle.xen_host.specs.declared.over_bus.Over.{Over}
use Rattle.xen_host.specs.declared.over_bus.OverBus.{OverBus}
use Rattle.xen_host.specs.Driving.{GoesOn, Task, delivery, turn, wait}
use Rattle.bpf_note.specs.declared.op.Op.{Op as Operation}
use Rattle.xen_turns.specs.declared.wiring.Wiring.{Wiring}
use Rattle.xen_host.specs.EngineAt.{EngineAt}
use Rattle.xen_host.specs.Going.{Counted, IsGone, KeepsAll, StepsOnBus}
use Rattle.xen_host.specs.Stands.{Stands}
use Rattle.xen_host.specs.Asks.{is_over}
use Rattle.xen_host.proofs.EndLemmas.{reads_of_delivery, reads_of_turn, reads_of_wait}
use Rattle.xen_host.proofs.TaskLemmas.{delivers_on, keeps_then, turns_on, waits_on}
use Rattle.xen_host.proofs.TraceLemmas.{counted_append, counted_none, counted_of, did_none, effects, effects_append, labels_append, program_none, read_all, read_by_none, write_all}

-- ---- which words are due

abbrev pub IsDue : Ask → Place → ℕ → Type 0
IsDue (Read at count) due n = (n ≡ count) × (0 < n → due ≡ at)
IsDue (Entry at reference rights) due n = (n ≡ 2) × (0 < n → due ≡ at)
IsDue (Push at word read) due n = (n ≡ 1) × (0 < n → due ≡ page_word at.frame read)
IsDue a due n = n ≡ 0

-- what a computation asks for first lies in one place
same_place : {A : Type 0} (at due : Place) (n : ℕ) (s : Steps A) → AsksReads at n s → AsksReads due n s → 0 < n → due ≡ at
same_place at due zero s h r some = absurd (omega (arith, some))
same_place at due (suc n) s h r some = cc (h.0, r.0)

pub due_of : {A : Type 0} (a : Ask) (due : Place) (n : ℕ) (s : Steps A) → WaitsFor a n s → AsksReads due n s → IsDue a due n
due_of (Read at count) due n s w r = (w.0, same_place at due n s (subst (λ m. AsksReads at m s) (sym w.0) w.1) r)
due_of (Entry at reference rights) due n s w r = (w.0, same_place at due n s (subst (λ m. AsksReads at m s) (sym w.0) w.1) r)
due_of (Push at word read) due n s w r = (w.0, same_place (page_word at.frame read) due n s (subst (λ m. AsksReads (page_word at.frame read) m s) (sym w.0) w.1) r)
due_of (Write at count) due n s w r = w
due_of (Store at word) due n s w r = w
due_of (StoreTwo at first second) due n s w r = w
due_of (Notify port) due n s w r = w
due_of (TurnOver x) due n s w r = absurd w
due_of (DeliveryOver x) due n s w r = absurd w
due_of (WaitOver x) due n s w r = absurd w

due_at : (k : Task) (q : EngineAt) (a : Ask) (s : State) (t : List Event) → is_over a ≡ false → GoesOn k q a s t → IsDue a (due_in q.wires q.state q.stage q.work) (reads_in q.stage)
due_at turn q a s t o g = let u = turns_on q a s t o g in due_of a _ _ _ u.waits (reads_of_turn q.wires q.state q.stage q.work u.is_here)
due_at (delivery left packet) q a s t o g = let u = delivers_on q a s left packet t o g in due_of a _ _ _ u.0.waits (reads_of_delivery q.wires q.state q.stage q.work u.0.is_here)
due_at (wait pages packet) q a s t o g = let u = waits_on q a s pages packet t o g in due_of a _ _ _ u.0.waits (reads_of_wait q.wires q.state q.stage q.work u.0.is_here)

take_all : (n : ℕ) (l : List ℕ) → length l ≡ n → take n l ≡ l
take_all zero [] e = refl
take_all zero (x ∷ l) e = absurd (omega (arith, e))
take_all (suc n) [] e = refl
take_all (suc n) (x ∷ l) e = ap (λ m. x ∷ m) (take_all n l (omega (arith, e)))

-- ---- what isn't over

pub open_of : (a : Ask) → over_after a None ≡ None → is_over a ≡ false
open_of (Read at count) e = refl
open_of (Entry at reference rights) e = refl
open_of (Write at count) e = refl
open_of (Store at word) e = refl
open_of (StoreTwo at first second) e = refl
open_of (Push at word read) e = refl
open_of (Notify port) e = refl
open_of (TurnOver x) e = absurd (cc e)
open_of (DeliveryOver x) e = absurd (cc e)
open_of (WaitOver x) e = absurd (cc e)

none_over : (a : Ask) (o : Option Over) → takes_none a ≡ true → over_after a o ≡ o
none_over (Write at count) o t = refl
none_over (Store at word) o t = refl
none_over (StoreTwo at first second) o t = refl
none_over (Notify port) o t = refl
none_over (Read at count) o t = absurd (cc t)
none_over (Entry at reference rights) o t = absurd (cc t)
none_over (Push at word read) o t = absurd (cc t)
none_over (TurnOver x) o t = absurd (cc t)
none_over (DeliveryOver x) o t = absurd (cc t)
none_over (WaitOver x) o t = absurd (cc t)

module _ {B : Type 0} (log : B → Option (List Access)) (gives : B → Access → B → Type 0) (size : B → ℕ) where
  -- ---- what was due is read

  pub record IsAnswered (a : Ask) (words : List ℕ) (old new : OverBus B) : Type 0 where
    pub performed : Performs log gives old.bus.now (accesses (read_by a words)) new.bus.now
    pub sized : size new.bus.now ≡ size old.bus.now
    pub over : new.over ≡ old.over

  some_read : (at due : Place) (n : ℕ) (words : List ℕ) (old new : OverBus B) → (0 < n → due ≡ at) → IsInBus (size old.bus.now) at n → WasGiven (HasRead log gives size) due n old words new →
      Performs log gives old.bus.now (accesses (reads_at at (take n words))) new.bus.now × (size new.bus.now ≡ size old.bus.now) × (new.over ≡ old.over)
  some_read at due zero words old new is inside g = (
    subst (λ (h : OverBus B). Performs log gives old.bus.now [] h.bus.now) (sym g.1) (performs_none log gives old.bus.now),
    ap (λ (h : OverBus B). size h.bus.now) g.1,
    ap (λ (h : OverBus B). h.over) g.1,
  )
  some_read at due (suc n) words old new is inside g =
      let r = g.1 in
      let e : due ≡ at = is (omega arith) in
      let here : IsInBus (size old.bus.now) due (length words) = subst (λ (p : Place). IsInBus (size old.bus.now) p (length words)) (sym e) (subst (λ m. IsInBus (size old.bus.now) at m) (sym g.0) inside) in
      let did = subst (λ (p : Place). Performs log gives old.bus.now (accesses (reads_at p words)) new.bus.now) e (r.read.performed here) in
      (subst (λ l. Performs log gives old.bus.now (accesses (reads_at at l)) new.bus.now) (sym (take_all (suc n) words g.0)) did, r.read.sized, r.over)

  none_read : (due : Place) (n : ℕ) (words : List ℕ) (old new : OverBus B) → n ≡ 0 → WasGiven (HasRead log gives size) due n old words new →
      Performs log gives old.bus.now [] new.bus.now × (size new.bus.now ≡ size old.bus.now) × (new.over ≡ old.over)
  none_read due n words old new e g =
      let h : WasGiven (HasRead log gives size) due 0 old words new = subst (λ m. WasGiven (HasRead log gives size) due m old words new) e g in
      (subst (λ (h : OverBus B). Performs log gives old.bus.now [] h.bus.now) (sym h.1) (performs_none log gives old.bus.now), ap (λ (h : OverBus B). size h.bus.now) h.1, ap (λ (h : OverBus B). h.over) h.1)

  pub answered_by : (frames : ℕ) (a : Ask) (due : Place) (n : ℕ) (words : List ℕ) (old new : OverBus B) → size old.bus.now ≡ frames → IsInPages frames a → IsDue a due n → WasGiven (HasRead log gives size) due n old words new → IsAnswered a words old new
  answered_by frames (Read at count) due n words old new sized inside is g =
      let k = is.0 in
      let r = some_read at due count words old new (subst (λ m. 0 < m → due ≡ at) k is.1) (omega (arith, sized, inside.0), inside.1) (subst (λ m. WasGiven (HasRead log gives size) due m old words new) k g) in
      record { performed = r.0; sized = r.1; over = r.2 }
  answered_by frames (Entry at reference rights) due n words old new sized inside is g =
      let k = is.0 in
      let r = some_read at due 2 words old new (subst (λ m. 0 < m → due ≡ at) k is.1) (omega (arith, sized, inside.0), inside.1) (subst (λ m. WasGiven (HasRead log gives size) due m old words new) k g) in
      record { performed = r.0; sized = r.1; over = r.2 }
  answered_by frames (Push at word read) due n words old new sized inside is g =
      let k = is.0 in
      let there = page_word at.frame read in
      let r = some_read there due 1 words old new (subst (λ m. 0 < m → due ≡ there) k is.1) (omega (arith, sized, inside.0), inside.2) (subst (λ m. WasGiven (HasRead log gives size) due m old words new) k g) in
      record { performed = r.0; sized = r.1; over = r.2 }
  answered_by frames (Write at count) due n words old new sized inside is g = let r = none_read due n words old new is g in record { performed = r.0; sized = r.1; over = r.2 }
  answered_by frames (Store at word) due n words old new sized inside is g = let r = none_read due n words old new is g in record { performed = r.0; sized = r.1; over = r.2 }
  answered_by frames (StoreTwo at x y) due n words old new sized inside is g = let r = none_read due n words old new is g in record { performed = r.0; sized = r.1; over = r.2 }
  answered_by frames (Notify port) due n words old new sized inside is g = let r = none_read due n words old new is g in record { performed = r.0; sized = r.1; over = r.2 }
  answered_by frames (TurnOver x) due n words old new sized inside is g = let r = none_read due n words old new is g in record { performed = r.0; sized = r.1; over = r.2 }
  answered_by frames (DeliveryOver x) due n words old new sized inside is g = let r = none_read due n words old new is g in record { performed = r.0; sized = r.1; over = r.2 }
  answered_by frames (WaitOver x) due n words old new sized inside is g = let r = none_read due n words old new is g in record { performed = r.0; sized = r.1; over = r.2 }

  -- ---- the loan of the bus stays

  given_loan : (due : Place) (n : ℕ) (words : List ℕ) (old new : OverBus B) → WasGiven (HasRead log gives size) due n old words new → new.bus.ghost_name ≡ old.bus.ghost_name
  given_loan due zero words old new g = ap (λ (h : OverBus B). h.bus.ghost_name) g.1
  given_loan due (suc n) words old new g = g.1.loan

  pub asked_loan : (all : List Asked) (old new : OverBus B) → WasAskedAll (IsMade log gives size) old all new → new.bus.ghost_name ≡ old.bus.ghost_name
  asked_loan [] old new e = ap (λ (h : OverBus B). h.bus.ghost_name) (sym e)
  asked_loan (a ∷ all) old new e = asked_loan all e.0 new e.2 ∙ e.1.loan

  -- ---- what is asked is made

  pub held_all : (all : List Asked) (old new : OverBus B) → WasAskedAll (IsMade log gives size) old all new → AllHeld all
  held_all [] old new e = tt
  held_all (a ∷ all) old new e = (e.1.held, held_all all e.0 new e.2)

  pub record AreMade (first : List Asked) (last : Asked) (old new : OverBus B) : Type 0 where
    pub performed : Performs log gives old.bus.now (accesses (events_of (first ++ last ∷ []))) new.bus.now
    pub sized : size new.bus.now ≡ size old.bus.now
    pub over : new.over ≡ over_after last.ask old.over

  pub made_all : (frames : ℕ) (first : List Asked) (last : Asked) (old new : OverBus B) → size old.bus.now ≡ frames → TakeNone (asks_of first) → AllInPages frames (asks_of (first ++ last ∷ [])) →
      WasAskedAll (IsMade log gives size) old (first ++ last ∷ []) new → AreMade first last old new
  made_all frames [] last old new sized none inside e =
      let m = e.1 in
      let did = m.performed (subst (λ f. IsInPages f last.ask) (sym sized) inside.0) in
      let one : accesses (did_by last.ask last.words ++ []) ≡ accesses (did_by last.ask last.words) = ap accesses (append-nil (did_by last.ask last.words)) in
      subst (λ (h : OverBus B). AreMade [] last old h) e.2 (record {
        performed = subst (λ l. Performs log gives old.bus.now l e.0.bus.now) (sym one) did;
        sized = m.sized;
        over = m.over;
      })
  made_all frames (a ∷ first) last old new sized none inside e =
      let m = e.1 in
      let did = m.performed (subst (λ f. IsInPages f a.ask) (sym sized) inside.0) in
      let r = made_all frames first last e.0 new (m.sized ∙ sized) none.1 inside.1 e.2 in
      let rest = events_of (first ++ last ∷ []) in
      record {
        performed = subst (λ l. Performs log gives old.bus.now l new.bus.now) (sym (accesses-append (did_by a.ask a.words) rest)) (performs_then log gives old.bus.now e.0.bus.now new.bus.now (accesses (did_by a.ask a.words)) (accesses rest) did r.performed);
        sized = r.sized ∙ m.sized;
        over = r.over ∙ ap (λ o. over_after last.ask o) (m.over ∙ none_over a.ask old.over none.0);
      }

-- ---- how much was done

taken : (n : ℕ) (l : List ℕ) → length l ≡ n → length (take n l) ≡ n
taken n l e = ap (λ (m : List ℕ). length m) (take_all n l e) ∙ e

some_due : (a : Ask) (due : Place) (words read : List ℕ) → is_over a ≡ false → IsSized a → IsHeld a words → IsDue a due (length read) → 1 ≤ effects (did_by a words ++ read_by a read)
some_due (Read at count) due words read o s h c =
    let e = read_all at (take count read) in
    let k = taken count read c.0 in
    let l = s.0 in
    omega (arith, e, k, l)
some_due (Entry at reference rights) due words read o s h c =
    let e = read_all at (take 2 read) in
    let k = taken 2 read c.0 in
    omega (arith, e, k)
some_due (Write at count) due words read o s h c =
    let e = write_all at (take count words) in
    let k = taken count words h in
    let l = s.0 in
    let a = ap effects (append-nil (writes_at at (take count words))) in
    omega (arith, e, k, l, a)
some_due (Store at word) due words read o s h c = omega arith
some_due (StoreTwo at first second) due words read o s h c = omega arith
some_due (Push at word next) due words read o s h c = omega arith
some_due (Notify port) due words read o s h c = omega arith
some_due (TurnOver x) due words read o s h c = absurd (cc o)
some_due (DeliveryOver x) due words read o s h c = absurd (cc o)
some_due (WaitOver x) due words read o s h c = absurd (cc o)

given_count : {H : Type 0} (gave : H → Place → List ℕ → H → Type 0) (due : Place) (n : ℕ) (old new : H) (words : List ℕ) → WasGiven gave due n old words new → length words ≡ n
given_count gave due zero old new words g = ap (λ (l : List ℕ). length l) g.0
given_count gave due (suc n) old new words g = g.0

pub events_split : (first : List Asked) (last : Asked) → events_of (first ++ last ∷ []) ≡ events_of first ++ did_by last.ask last.words
events_split [] last = append-nil (did_by last.ask last.words)
events_split (a ∷ first) last = ap (λ l. did_by a.ask a.words ++ l) (events_split first last) ∙ sym (append_assoc (did_by a.ask a.words) (events_of first) (did_by last.ask last.words))

pub events_none : (all : List Asked) → labels (events_of all) ≡ []
events_none [] = refl
events_none (a ∷ all) = labels_append (did_by a.ask a.words) (events_of all) ∙ ap (λ l. l ++ labels (events_of all)) (did_none a.ask a.words) ∙ events_none all

pub sized_last : (first : List Asked) (last : Asked) → AllSized (asks_of (first ++ last ∷ [])) → IsSized last.ask
sized_last [] last h = h.0
sized_last (a ∷ first) last h = sized_last first last h.1

pub held_last : (first : List Asked) (last : Asked) → AllHeld (first ++ last ∷ []) → IsHeld last.ask last.words
held_last [] last h = h.0
held_last (a ∷ first) last h = held_last first last h.1

pub inside_last : (frames : ℕ) (first : List Asked) (last : Asked) → AllInPages frames (asks_of (first ++ last ∷ [])) → IsInPages frames last.ask
inside_last frames [] last h = h.0
inside_last frames (a ∷ first) last h = inside_last frames first last h.1

-- the parts of a round in their order
ordered : (t r p f l : List Event) → t ++ (r ++ (p ++ (f ++ l))) ≡ ((t ++ (r ++ p)) ++ f) ++ l
ordered t r p f l =
    ap (λ x. t ++ x) (sym (append_assoc r p (f ++ l))) ∙ sym (append_assoc t (r ++ p) (f ++ l)) ∙ sym (append_assoc (t ++ (r ++ p)) f l)

touched : (t r p d : List Event) → accesses p ≡ [] → accesses (t ++ (r ++ (p ++ d))) ≡ accesses t ++ (accesses r ++ accesses d)
touched t r p d e =
    accesses-append t (r ++ (p ++ d)) ∙ ap (λ l. accesses t ++ l) (accesses-append r (p ++ d) ∙ ap (λ l. accesses r ++ l) (accesses-append p d ∙ ap (λ l. l ++ accesses d) e))

grown : (x a r p f : List Event) (n : ℕ) → n ≤ effects x → 1 ≤ effects (a ++ r) → suc n ≤ effects (((x ++ a) ++ (r ++ p)) ++ f)
grown x a r p f n h k =
    let e1 = effects_append ((x ++ a) ++ (r ++ p)) f in
    let e2 = effects_append (x ++ a) (r ++ p) in
    let e3 = effects_append x a in
    let e4 = effects_append r p in
    let e5 = effects_append a r in
    omega (arith, e1, e2, e3, e4, e5, h, k)

module _ {B C : Type 0} (log : B → Option (List Access)) (gives : B → Access → B → Type 0) (size : B → ℕ) (did : Operation → C → C → Type 0) where
  pub stepped_loan : (old new : EngineAt) (before after : C) (host host_after : OverBus B) → StepsOnBus log gives size did old new before after host host_after → host_after.bus.ghost_name ≡ host.bus.ghost_name
  stepped_loan old new before after host host_after h =
      asked_loan log gives size (h.first ++ h.last ∷ []) h.mid host_after h.asked ∙ given_loan log gives size _ (reads_in old.stage) h.words host h.mid h.given

  -- With the events of a step, those of a program's run among them, what is under way goes on or is over.
  record Moved (k : Task) (s : State) (new : EngineAt) (last : Ask) (t read made : List Event) (before after : C) : Type 0 where
    pub ran : List Event
    pub silent : accesses ran ≡ []
    pub history : Counted did ran before after
    pub keeps : KeepsAll k before after
    pub goes : GoesOn k new last s (t ++ (read ++ (ran ++ made)))

  moved : (k : Task) (s : State) (old new : EngineAt) (before after : C) (host host_after : OverBus B) (h : StepsOnBus log gives size did old new before after host host_after) (t : List Event) (a : Ask) → is_over a ≡ false → GoesOn k old a s t →
      Moved k s new h.last.ask t (read_by a h.words) (events_of (h.first ++ h.last ∷ [])) before after
  moved turn s old new before after host host_after h t a o g =
      record {
        ran = map event_of h.labels;
        silent = program_none h.labels;
        history = counted_of did h.labels before after h.history;
        keeps = tt;
        goes = h.turn s t a (turns_on old a s t o g);
      }
  moved (delivery left packet) s old new before after host host_after h t a o g =
      let d = h.delivery s left packet t (Some a) (delivers_on old a s left packet t o g) in
      record { ran = []; silent = refl; history = sym d.1; keeps = d.1; goes = d.0 }
  moved (wait pages packet) s old new before after host host_after h t a o g =
      let d = h.wait s pages packet t (Some a) (waits_on old a s pages packet t o g) in
      record { ran = []; silent = refl; history = sym d.1; keeps = d.1; goes = d.0 }

  -- One round of the loop.
  pub gone_on : (k : Task) (s : State) (w : Wiring) (bus : B) (before : C) (n : ℕ) (old new : EngineAt) (counters after : C) (host host_after : OverBus B) →
      IsGone log gives size did k s w bus before n old counters host → host.over ≡ None → Stands new → StepsOnBus log gives size did old new counters after host host_after → IsGone log gives size did k s w bus before (suc n) new after host_after
  gone_on k s w bus before n old new counters after host host_after c goes_on st h =
      let a = c.last.ask in
      let words = c.last.words in
      let x = did_by a words in
      let t = c.earlier ++ x in
      let o = open_of a (sym c.over ∙ goes_on) in
      let frames = length w.vif.owners.now in
      let all = h.first ++ h.last ∷ [] in
      let due = due_in old.wires old.state old.stage old.work in
      let is = due_at k old a s t o c.goes in
      let r = answered_by log gives size frames a due (reads_in old.stage) h.words host h.mid c.sized c.inside is h.given in
      let holds = held_all log gives size all h.mid host_after h.asked in
      let inside : AllInPages frames (asks_of all) = subst (λ (v : Wiring). AllInPages (length v.vif.owners.now) (asks_of all)) c.wires (h.within holds) in
      let made = made_all log gives size frames h.first h.last h.mid host_after (r.sized ∙ c.sized) h.take_none inside h.asked in
      let m = moved k s old new counters after host host_after h t a o c.goes in
      let read = read_by a h.words in
      let front = events_of h.first in
      let last = did_by h.last.ask h.last.words in
      let split = events_split h.first h.last in
      let earlier = (t ++ (read ++ m.ran)) ++ front in
      let here : t ++ (read ++ (m.ran ++ events_of all)) ≡ earlier ++ last = ap (λ l. t ++ (read ++ (m.ran ++ l))) split ∙ ordered t read m.ran front last in
      let ran : Counted did m.ran counters after = m.history in
      let quiet = counted_none did (events_of all) after (events_none all) in
      let history = counted_append did t (read ++ (m.ran ++ events_of all)) before counters after c.counted
      (counted_append did read (m.ran ++ events_of all) counters counters after (counted_none did read counters (read_by_none a h.words))
      (counted_append did m.ran (events_of all) counters after after ran quiet)) in
      let through = performs_then log gives bus host.bus.now host_after.bus.now (accesses t) (accesses read ++ accesses (events_of all)) c.performed
      (performs_then log gives host.bus.now h.mid.bus.now host_after.bus.now (accesses read) (accesses (events_of all)) r.performed made.performed) in
      record {
        earlier = earlier;
        last = h.last;
        performed = subst (λ l. Performs log gives bus l host_after.bus.now) (sym (touched t read m.ran (events_of all) m.silent) ∙ ap accesses here) through;
        counted = subst (λ l. Counted did l before after) here history;
        keeps = keeps_then k before counters after c.keeps m.keeps;
        goes = subst (λ l. GoesOn k new h.last.ask s l) here m.goes;
        stands = st;
        wide = sized_last h.first h.last h.sized;
        held = held_last h.first h.last holds;
        inside = inside_last frames h.first h.last inside;
        over = made.over ∙ ap (λ o. over_after h.last.ask o) (r.over ∙ goes_on);
        sized = made.sized ∙ r.sized ∙ c.sized;
        wires = h.wires ∙ c.wires;
        some = grown c.earlier x read m.ran front n c.some (some_due a due words h.words o c.wide c.held (subst (λ j. IsDue a due j) (sym (given_count (HasRead log gives size) due (reads_in old.stage) host h.mid h.words h.given)) is));
      }
