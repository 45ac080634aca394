-- A turn whose program has not run goes on in the same way at each rx index.
use Rattle.std.proofs.Common.{◌≡◌, ℕ, zero, suc, ◌+◌, ◌/◌, true, List, [], ◌∷◌, ◌++◌, length, drop, take, refl, sym, ap, ◌∙◌, subst, append-nil}
use Rattle.xen_netif.specs.Standing.{standing}
use Rattle.xen_netif.specs.Chain.{Slot}
use Rattle.xen_page.specs.declared.place.Place.{Place}
use Rattle.xen_steps.specs.Drive.{LedBy}
use Rattle.xen_steps.specs.Event.{Event}
use Rattle.xen_steps.specs.Pages.{AreWords, covered}
use Rattle.xen_steps.specs.Places.{add32, page_word}
use Rattle.xen_steps.specs.Steps.{Steps, ask, done, never}
use Rattle.xen_steps.specs.declared.want.Want.{Want}
use Rattle.xen_steps.specs.declared.want.Want.TheVariants as want
use Rattle.xen_steps.proofs.DriveLemmas.{gone_append, gone_more}
use Rattle.xen_turns.specs.Tree.{after_copy, after_scan, copy, judged, read_slots, whole_turn}
use Rattle.xen_turns.specs.Turned.{Ending}
use Rattle.xen_turns.specs.declared.state.State.{State}
use Rattle.xen_turns.specs.declared.wiring.Wiring.{Wiring}
use Rattle.xen_host.specs.Asks.{Ask, read_by, reads_at}
use Rattle.xen_host.specs.Asks as ask
use Rattle.xen_host.specs.Early.{StaysEarly, at_rx, engine_at_rx, is_early}
use Rattle.xen_host.specs.EngineAt.{EngineAt, WorkAt}
use Rattle.xen_host.specs.Fed.{AsksReads, WaitsFor, fed}
use Rattle.xen_host.specs.Lanes.{rest_of}
use Rattle.xen_host.specs.Rest.{due_in, is_turning, reads_in, rest_in}
use Rattle.xen_host.specs.UnderWay.{IsTurningAt}
use Rattle.xen_host.specs.declared.stage.Stage.{Stage}
use Rattle.xen_host.specs.declared.stage.Stage.TheVariants as stage
use Rattle.xen_host.proofs.AskLemmas.{asks_slot, asks_words}
use Rattle.xen_host.proofs.LanesStepLemmas.{gone_rest}
use Rattle.xen_host.proofs.StepLemmas.{waits_led}

-- ---- no computation leads to itself

pub no_loop : {A : Type 0} (s : Steps A) (e : Event) (u : List Event) → LedBy s (e ∷ u) s → ⊥
no_loop (done x) e u g = absurd g.1.1
no_loop {A} (ask w k) e u g = by u
    (gone_more (k g.1.0) (ask w k) (k g.1.0) u e (subst (λ (q : Steps A). LedBy q u (ask w k)) g.1.2 g.2) (g.1.0, g.1.1, refl)) (λ x v h. no_loop (k g.1.0) x v h)
  where
    by : (u : List Event) → LedBy (k g.1.0) (u ++ e ∷ []) (k g.1.0) → ((x : Event) (v : List Event) → LedBy (k g.1.0) (x ∷ v) (k g.1.0) → ⊥) → ⊥
    by [] h further = further e [] h
    by (x ∷ u) h further = further x (u ++ e ∷ []) h
no_loop never e u g = absurd g.1.1

pub loop_none : {A : Type 0} (s m : Steps A) (u : List Event) → s ≡ m → LedBy s u m → u ≡ []
loop_none s m [] e g = refl
loop_none {A} s m (x ∷ u) e g = absurd (no_loop s x u (subst (λ (q : Steps A). LedBy s (x ∷ u) q) (sym e) g))

-- ---- what is waited for

-- what an early stage waits for stands at the same place at each rx index
early_asks : (w : Wiring) (s : State) (g : Stage) (b : WorkAt) → is_early g ≡ true → AsksReads (due_in w s g b) (reads_in g) (rest_in w s g b)
early_asks w s (stage.Slot left) b h =
    asks_slot w (add32 s.tx_index (length b.chain)) (λ (slot : Slot). judged (b.chain ++ slot ∷ []) (standing (b.chain ++ slot ∷ [])) (read_slots w s.tx_index left (b.chain ++ slot ∷ []))) (after_scan w s)
early_asks w s (stage.Entry i at) b h = (refl, λ a. (refl, λ d. tt))
early_asks w s (stage.Page i f frame) b h = asks_words f frame (f.offset / 4) (covered f) b.packet (copy w (drop i b.fragments)) (after_copy w s b.chain)
early_asks w s stage.Ready b h = cc h
early_asks w s stage.Announce b h = cc h
early_asks w s (stage.Fill f p) b h = cc h
early_asks w s (stage.Respond i) b h = cc h
early_asks w s stage.Push b h = cc h
early_asks w s stage.Notice b h = cc h
early_asks w s (stage.Deliver producer) b h = cc h
early_asks w s (stage.Wait pages) b h = cc h
early_asks w s (stage.WaitLook pages) b h = cc h
early_asks w s stage.Several b h = cc h

early_due : (w : Wiring) (s t : State) (g : Stage) (b : WorkAt) → is_early g ≡ true → s.tx_index ≡ t.tx_index → due_in w s g b ≡ due_in w t g b
early_due w s t (stage.Slot left) b h e = ap (λ i. due_in w (record s { tx_index = i }) (stage.Slot left) b) e
early_due w s t (stage.Entry i at) b h e = refl
early_due w s t (stage.Page i f frame) b h e = refl
early_due w s t stage.Ready b h e = cc h
early_due w s t stage.Announce b h e = cc h
early_due w s t (stage.Fill f p) b h e = cc h
early_due w s t (stage.Respond i) b h e = cc h
early_due w s t stage.Push b h e = cc h
early_due w s t stage.Notice b h e = cc h
early_due w s t (stage.Deliver producer) b h e = cc h
early_due w s t (stage.Wait pages) b h e = cc h
early_due w s t (stage.WaitLook pages) b h e = cc h
early_due w s t stage.Several b h e = cc h

early_turning : (g : Stage) → is_early g ≡ true → is_turning g ≡ true
early_turning (stage.Slot left) h = refl
early_turning (stage.Entry i at) h = refl
early_turning (stage.Page i f frame) h = refl
early_turning stage.Ready h = cc h
early_turning stage.Announce h = cc h
early_turning (stage.Fill f p) h = cc h
early_turning (stage.Respond i) h = cc h
early_turning stage.Push h = cc h
early_turning stage.Notice h = cc h
early_turning (stage.Deliver producer) h = cc h
early_turning (stage.Wait pages) h = cc h
early_turning (stage.WaitLook pages) h = cc h
early_turning stage.Several h = cc h

abbrev pub place_of : Want → Place → Place
place_of (want.Read at) d = at
place_of (want.Write at v) d = d
place_of want.Instr d = d
place_of (want.Load m k j) d = d
place_of (want.Add m k j delta) d = d
place_of (want.Notify port) d = d
place_of want.Done d = d

reads_same : {A B : Type 0} (d at : Place) (n : ℕ) (s : Steps A) (t : Steps B) → AsksReads d n s → AsksReads d n t → AsksReads at n s → AsksReads at n t
reads_same d at zero s t a b c = tt
reads_same d at (suc n) s t a b c = let e : at ≡ d = ap (λ q. place_of q d) (sym c.0 ∙ a.0) in subst (λ p. AsksReads p (suc n) t) (sym e) b

-- The same ask waits for the same words of two computations that ask for reads of one place.
waits_same : {A B : Type 0} (a : Ask) (d : Place) (n : ℕ) (s : Steps A) (t : Steps B) → AsksReads d n s → AsksReads d n t → WaitsFor a n s → WaitsFor a n t
waits_same {A} {B} (ask.Read at count) d n s t x y h =
    (h.0, reads_same d at count s t (subst (λ k. AsksReads d k s) h.0 x) (subst (λ k. AsksReads d k t) h.0 y) h.1)
waits_same (ask.Entry at reference rights) d n s t x y h =
    (h.0, reads_same d at 2 s t (subst (λ k. AsksReads d k s) h.0 x) (subst (λ k. AsksReads d k t) h.0 y) h.1)
waits_same (ask.Push at word read) d n s t x y h =
    (h.0, reads_same d (page_word at.frame read) 1 s t (subst (λ k. AsksReads d k s) h.0 x) (subst (λ k. AsksReads d k t) h.0 y) h.1)
waits_same (ask.Write at count) d n s t x y h = h
waits_same (ask.Store at word) d n s t x y h = h
waits_same (ask.StoreTwo at p q) d n s t x y h = h
waits_same (ask.Notify port) d n s t x y h = h
waits_same (ask.TurnOver k) d n s t x y h = absurd h
waits_same (ask.DeliveryOver what) d n s t x y h = absurd h
waits_same (ask.WaitOver what) d n s t x y h = absurd h

-- ---- the words that are read

take_twice : (n : ℕ) (l : List ℕ) → take n (take n l) ≡ take n l
take_twice zero [] = refl
take_twice zero (x ∷ l) = refl
take_twice (suc n) [] = refl
take_twice (suc n) (x ∷ l) = ap (λ q. x ∷ q) (take_twice n l)

-- an ask reads the first words alone
read_first : {A : Type 0} (a : Ask) (n : ℕ) (s : Steps A) (lent : List ℕ) → WaitsFor a n s → read_by a lent ≡ read_by a (take n lent)
read_first (ask.Read at count) n s lent h = ap (λ l. reads_at at l) (sym (take_twice count lent)) ∙ ap (λ k. reads_at at (take count (take k lent))) (sym h.0)
read_first (ask.Entry at reference rights) n s lent h = ap (λ l. reads_at at l) (sym (take_twice 2 lent)) ∙ ap (λ k. reads_at at (take 2 (take k lent))) (sym h.0)
read_first (ask.Push at word read) n s lent h = ap (λ l. reads_at (page_word at.frame read) l) (sym (take_twice 1 lent)) ∙ ap (λ k. reads_at (page_word at.frame read) (take 1 (take k lent))) (sym h.0)
read_first (ask.Write at count) n s lent h = refl
read_first (ask.Store at word) n s lent h = refl
read_first (ask.StoreTwo at p q) n s lent h = refl
read_first (ask.Notify port) n s lent h = refl
read_first (ask.TurnOver k) n s lent h = absurd h
read_first (ask.DeliveryOver what) n s lent h = absurd h
read_first (ask.WaitOver what) n s lent h = absurd h

-- ---- a step

-- A step between two stages before the program's run makes reads alone, and is one at each rx index.
pub early_free : (w : Wiring) (old new : EngineAt) (b : State) (t rest : List Event) (asked last : Ask) (lent : List ℕ) → old.wires ≡ w → new.wires ≡ w → is_early old.stage ≡ true → is_early new.stage ≡ true →
    AreWords (take (reads_in old.stage) lent) → length (take (reads_in old.stage) lent) ≡ reads_in old.stage →
    StaysEarly (λ s. fed (rest_in w s old.stage old.work) (take (reads_in old.stage) lent)) old.state new →
    IsTurningAt old b t asked → IsTurningAt new b (t ++ (read_by asked lent ++ rest)) last →
    (x : ℕ) (s : State) (trace : List Event) → IsTurningAt (engine_at_rx x old) (at_rx x s) trace asked → IsTurningAt (engine_at_rx x new) (at_rx x s) (trace ++ (read_by asked lent ++ rest)) last
early_free w old new b t rest asked last lent same same_new was is below all stays before after x s trace token =
    let n = reads_in old.stage in
    let words = take n lent in
    let old_rest : State → Steps Ending = λ st. rest_in w st old.stage old.work in
    let read = read_first asked n (rest_of old) lent before.waits in
    let gone : LedBy (whole_turn w b) t (old_rest old.state) = subst (λ q. LedBy (whole_turn q b) t (rest_in q old.state old.stage old.work)) same before.gone in
    let there : LedBy (whole_turn w b) (t ++ (read_by asked lent ++ rest)) (rest_in w new.state new.stage new.work) = subst (λ q. LedBy (whole_turn q b) (t ++ (read_by asked lent ++ rest)) (rest_in q new.state new.stage new.work)) same_new after.gone in
    let led = gone_rest (whole_turn w b) (old_rest old.state) (rest_in w new.state new.stage new.work) t (read_by asked lent ++ rest) gone there in
    let waits : WaitsFor asked n (old_rest old.state) = subst (λ q. WaitsFor asked n (rest_in q old.state old.stage old.work)) same before.waits in
    let reads = waits_led asked n (old_rest old.state) words below all waits in
    let more = gone_rest (old_rest old.state) (fed (old_rest old.state) words) (rest_in w new.state new.stage new.work) (read_by asked words) rest reads
    (subst (λ l. LedBy (old_rest old.state) (l ++ rest) (rest_in w new.state new.stage new.work)) read led) in
    let left : (x : ℕ) → rest_in w (at_rx x new.state) new.stage new.work ≡ fed (old_rest (at_rx x old.state)) words = λ x.
    subst (λ q. rest_in w (at_rx x q) new.stage new.work ≡ fed (old_rest (at_rx x old.state)) words) (sym stays.state)
    (subst (λ q. rest_in q (at_rx x old.state) new.stage new.work ≡ fed (old_rest (at_rx x old.state)) words) same_new (stays.left x)) in
    let here : fed (old_rest old.state) words ≡ rest_in w new.state new.stage new.work = sym (subst (λ k. rest_in w (at_rx k new.state) new.stage new.work ≡ fed (old_rest old.state) words) (ap (λ (q : State). q.rx_index) (sym stays.state)) (left old.state.rx_index)) in
    let none : rest ≡ [] = loop_none (fed (old_rest old.state) words) (rest_in w new.state new.stage new.work) rest here more in
    let did : read_by asked words ≡ read_by asked lent ++ rest = sym read ∙ sym (append-nil (read_by asked lent)) ∙ ap (λ l. read_by asked lent ++ l) (sym none) in
    let gone_x : LedBy (whole_turn w (at_rx x s)) trace (old_rest (at_rx x old.state)) = subst (λ q. LedBy (whole_turn q (at_rx x s)) trace (rest_in q (at_rx x old.state) old.stage old.work)) same token.gone in
    let waits_x : WaitsFor asked n (old_rest (at_rx x old.state)) = subst (λ q. WaitsFor asked n (rest_in q (at_rx x old.state) old.stage old.work)) same token.waits in
    let reads_x = waits_led asked n (old_rest (at_rx x old.state)) words below all waits_x in
    let all_x = gone_append (whole_turn w (at_rx x s)) (old_rest (at_rx x old.state)) (fed (old_rest (at_rx x old.state)) words) trace (read_by asked words) gone_x reads_x in
    let new_x : LedBy (whole_turn w (at_rx x s)) (trace ++ (read_by asked lent ++ rest)) (rest_in w (at_rx x new.state) new.stage new.work) =
    subst (λ l. LedBy (whole_turn w (at_rx x s)) (trace ++ l) (rest_in w (at_rx x new.state) new.stage new.work)) did
    (subst (λ q. LedBy (whole_turn w (at_rx x s)) (trace ++ read_by asked words) q) (sym (left x)) all_x) in
    record {
      gone = subst (λ q. LedBy (whole_turn q (at_rx x s)) (trace ++ (read_by asked lent ++ rest)) (rest_in q (at_rx x new.state) new.stage new.work)) (sym same_new) new_x;
      waits = waits_same last (due_in new.wires new.state new.stage new.work) (reads_in new.stage) (rest_of new) (rest_of (engine_at_rx x new))
          (early_asks new.wires new.state new.stage new.work is)
          (subst (λ d. AsksReads d (reads_in new.stage) (rest_of (engine_at_rx x new))) (early_due new.wires (at_rx x new.state) new.state new.stage new.work is refl) (early_asks new.wires (at_rx x new.state) new.stage new.work is)) after.waits;
      is_here = early_turning new.stage is;
    }
