-- What was asked and answered as events, and where it lies.
use Rattle.std.proofs.Common.{◌≡◌, ℕ, zero, suc, ◌+◌, ◌<◌, ◌≤◌, true, append-nil, List, [], ◌∷◌, ◌++◌, length, take, refl, sym, ap, ◌∙◌, arith, subst}
use Rattle.bpf_note.specs.Shape.{Shape}
use Rattle.xen_page.specs.Mapping.{frame_place}
use Rattle.xen_page.specs.declared.place.Place.{Place}
use Rattle.xen_steps.specs.Drive.{LedBy, Goes, IsPageWant}
use Rattle.xen_steps.specs.Event.{Event, Occurs, Read, Write}
use Rattle.xen_steps.specs.Finish.{Finishes}
use Rattle.xen_steps.specs.Pages.{AreWords}
use Rattle.xen_steps.specs.Places.{page_word}
use Rattle.xen_steps.specs.Steps.{Steps, next, want_of}
use Rattle.xen_steps.specs.declared.want.Want.{Want}
use Rattle.xen_steps.specs.declared.want.Want.TheVariants as want
use Rattle.xen_steps.proofs.DriveLemmas.{occurs_read}
use Rattle.xen_steps.proofs.FinishLemmas.{finishes_gone, finishes_next, finishes_want}
use Rattle.xen_turns.specs.Within.{IsWithin}
use Rattle.xen_host.specs.Asks.{AllInPages, AllSized, Ask, IsInPages, IsSized, TakeNone, did_by, read_by, reads_at, takes_none, writes_at}
use Rattle.xen_host.specs.Asks as ask
use Rattle.xen_host.specs.Buses.{AllHeld, IsHeld}
use Rattle.xen_host.specs.Fed.{AsksReads, WaitsFor, fed}
use Rattle.xen_host.specs.Hosts.{Asked, asks_of, events_of}
use Rattle.xen_host.proofs.HostLedLemmas.{gone_split}

-- as many as there are
pub take_all : (n : ℕ) (words : List ℕ) → length words ≡ n → take n words ≡ words
take_all zero [] e = refl
take_all zero (v ∷ vs) e = absurd (omega (arith, e))
take_all (suc n) [] e = refl
take_all (suc n) (v ∷ vs) e = ap (λ l. v ∷ l) (take_all n vs (omega (arith, e)))

-- words that were read
reads_led : {A : Type 0} (s : Steps A) (at : Place) (vs : List ℕ) → AreWords vs → AsksReads at (length vs) s → LedBy s (reads_at at vs) (fed s vs)
reads_led s at [] b a = refl
reads_led s at (v ∷ vs) b a = (next s v, (v, occurs_read (want_of s) at v a.0 b.0, refl), reads_led (next s v) (frame_place at) vs b.1 (a.1 v))

pub read_led : {A : Type 0} (s : Steps A) (at : Place) (n : ℕ) (words : List ℕ) → AreWords words → length words ≡ n → AsksReads at n s → LedBy s (reads_at at words) (fed s words)
read_led s at n words b e a = reads_led s at words b (subst (λ k. AsksReads at k s) (sym e) a)

-- The first of them are all.
first_led : {A : Type 0} (s : Steps A) (at : Place) (n : ℕ) (words : List ℕ) → AreWords words → length words ≡ n → AsksReads at n s → LedBy s (reads_at at (take n words)) (fed s words)
first_led {A = A} s at n words b e a = subst (λ l. LedBy {A = A} s (reads_at at l) (fed s words)) (sym (take_all n words e)) (read_led s at n words b e a)

none_led : {A : Type 0} (s : Steps A) (words : List ℕ) → length words ≡ 0 → LedBy s [] (fed s words)
none_led s [] e = refl
none_led s (v ∷ vs) e = absurd (omega (arith, e))

-- What was asked last is answered.
pub waits_led : {A : Type 0} (a : Ask) (n : ℕ) (s : Steps A) (words : List ℕ) → AreWords words → length words ≡ n → WaitsFor a n s → LedBy s (read_by a words) (fed s words)
waits_led (ask.Read at count) n s words b e w = first_led s at count words b (e ∙ w.0) w.1
waits_led (ask.Entry at reference rights) n s words b e w = first_led s at 2 words b (e ∙ w.0) w.1
waits_led (ask.Push at word read) n s words b e w = first_led s (page_word at.frame read) 1 words b (e ∙ w.0) w.1
waits_led (ask.Write at count) n s words b e w = none_led s words (e ∙ w)
waits_led (ask.Store at word) n s words b e w = none_led s words (e ∙ w)
waits_led (ask.StoreTwo at x y) n s words b e w = none_led s words (e ∙ w)
waits_led (ask.Notify port) n s words b e w = none_led s words (e ∙ w)
waits_led (ask.TurnOver kind) n s words b e w = absurd w
waits_led (ask.DeliveryOver what) n s words b e w = absurd w
waits_led (ask.WaitOver what) n s words b e w = absurd w

-- ---- where what is asked lies

-- The words that are wanted lie in the first `frames` frames.
pub record AreInPages (frames : ℕ) (within : Want → Type 0) : Type 0 where
  pub reads : (at : Place) → within (want.Read at) → (at.frame < frames) × (at.word < 1024)
  pub writes : (at : Place) (v : ℕ) → within (want.Write at v) → (at.frame < frames) × (at.word < 1024)

pub turn_pages : (frames : ℕ) (shapes : List Shape) → AreInPages frames (IsWithin frames shapes)
turn_pages frames shapes = record { reads = λ at h. h; writes = λ at v h. h }

pub page_pages : (frames : ℕ) → AreInPages frames (IsPageWant frames)
page_pages frames = record { reads = λ at h. h; writes = λ at v h. h }

wrote : (w : Want) (a : ℕ) (at : Place) (v : ℕ) → Occurs w a (Write at v) → w ≡ want.Write at v
wrote (want.Read p) a at v h = cc h.1
wrote (want.Write p x) a at v h = cc h.1
wrote want.Instr a at v h = cc h.1
wrote (want.Load m k j) a at v h = cc h.1
wrote (want.Add m k j delta) a at v h = cc h.1
wrote (want.Notify port) a at v h = cc h.1
wrote want.Done a at v h = absurd h

module _ {A : Type 0} (frames : ℕ) (within : Want → Type 0) (in_pages : AreInPages frames within) where
  reads_within : (at : Place) (n : ℕ) (s : Steps A) → 1 ≤ n → AsksReads at n s → Finishes within s → (at.frame < frames) × (at.word + n ≤ 1024)
  reads_within at zero s l a h = absurd (omega arith)
  reads_within at (suc zero) s l a h =
      let one : within (want.Read at) = subst within a.0 (finishes_want within s h (λ d. cc (a.0, d))) in
      let p = in_pages.reads at one in
      (p.0, omega (arith, p.1))
  reads_within at (suc (suc n)) s l a h =
      let later = finishes_next within s (next s 0) (Read at 0) h (0, occurs_read (want_of s) at 0 a.0 (omega arith), refl) in
      let more = reads_within (frame_place at) (suc n) (next s 0) (omega arith) (a.1 0) later in
      (more.0, omega (arith, more.1))

  one_written : (at : Place) (v : ℕ) (s m : Steps A) → Goes s (Write at v) m → Finishes within s → (at.frame < frames) × (at.word < 1024)
  one_written at v s m g h =
      let e = wrote (want_of s) g.0 at v g.1 in
      in_pages.writes at v (subst within e (finishes_want within s h (λ d. cc (e, d))))

  writes_within : (at : Place) (vs : List ℕ) (s left : Steps A) → 1 ≤ length vs → LedBy s (writes_at at vs) left → Finishes within s → (at.frame < frames) × (at.word + length vs ≤ 1024)
  writes_within at [] s left l g h = absurd (omega arith)
  writes_within at (v ∷ []) s left l g h = let p = one_written at v s g.0 g.1 h in (p.0, omega (arith, p.1))
  writes_within at (v ∷ u ∷ vs) s left l g h =
      let more = writes_within (frame_place at) (u ∷ vs) g.0 left (omega arith) g.2 (finishes_next within s g.0 (Write at v) h g.1) in
      (more.0, omega (arith, more.1))

  -- an ask that takes no answer
  did_within : (a : Ask) (words : List ℕ) (s left : Steps A) → IsHeld a words → IsSized a → takes_none a ≡ true → LedBy s (did_by a words) left → Finishes within s → IsInPages frames a
  did_within (ask.Read at count) words s left l z e g h = cc e
  did_within (ask.Entry at reference rights) words s left l z e g h = cc e
  did_within (ask.Write at count) words s left l z e g h =
      let n : length (take count words) ≡ count = ap (λ (m : List ℕ). length m) (take_all count words l) ∙ l in
      let w = writes_within at (take count words) s left (omega (arith, n, z.0)) g h in
      (w.0, omega (arith, w.1, n))
  did_within (ask.Store at word) words s left l z e g h = writes_within at (word ∷ []) s left (omega arith) g h
  did_within (ask.StoreTwo at x y) words s left l z e g h = writes_within at (x ∷ y ∷ []) s left (omega arith) g h
  did_within (ask.Push at word read) words s left l z e g h = cc e
  did_within (ask.Notify port) words s left l z e g h = tt
  did_within (ask.TurnOver kind) words s left l z e g h = tt
  did_within (ask.DeliveryOver what) words s left l z e g h = tt
  did_within (ask.WaitOver what) words s left l z e g h = tt

  -- what is asked last, and waited for
  pub last_within : (a : Ask) (n : ℕ) (words : List ℕ) (s left : Steps A) → IsHeld a words → IsSized a → LedBy s (did_by a words) left → WaitsFor a n left → Finishes within s → IsInPages frames a
  last_within (ask.Read at count) n words s left l z g w h = reads_within at count left z.0 w.1 (finishes_gone within s left [] h g)
  last_within (ask.Entry at reference rights) n words s left l z g w h = reads_within at 2 left (omega arith) w.1 (finishes_gone within s left [] h g)
  last_within (ask.Push at word read) n words s left l z g w h =
      let p = writes_within at (word ∷ []) s left (omega arith) g h in
      let r = reads_within (page_word at.frame read) 1 left (omega arith) w.1 (finishes_gone within s left (Write at word ∷ []) h g) in
      (p.0, p.1, omega (arith, r.1))
  last_within (ask.Write at count) n words s left l z g w h = did_within (ask.Write at count) words s left l z refl g h
  last_within (ask.Store at word) n words s left l z g w h = did_within (ask.Store at word) words s left l z refl g h
  last_within (ask.StoreTwo at x y) n words s left l z g w h = did_within (ask.StoreTwo at x y) words s left l z refl g h
  last_within (ask.Notify port) n words s left l z g w h = tt
  last_within (ask.TurnOver kind) n words s left l z g w h = tt
  last_within (ask.DeliveryOver what) n words s left l z g w h = tt
  last_within (ask.WaitOver what) n words s left l z g w h = tt

  pub all_within : (first : List Asked) (last : Asked) (s left : Steps A) → AllHeld (first ++ last ∷ []) → AllSized (asks_of (first ++ last ∷ [])) → TakeNone (asks_of first) →
      LedBy s (events_of (first ++ last ∷ [])) left → ((m : Steps A) → LedBy m (did_by last.ask last.words) left → Finishes within m → IsInPages frames last.ask) → Finishes within s → AllInPages frames (asks_of (first ++ last ∷ []))
  all_within [] last s left l z t g by h = (by s (subst (λ (q : List Event). LedBy s q left) (append-nil (did_by last.ask last.words)) g) h, tt)
  all_within (a ∷ more) last s left l z t g by h =
      let did = did_by a.ask a.words in
      let r = gone_split s left did (events_of (more ++ last ∷ [])) g in
      (did_within a.ask a.words s r.0 l.0 z.0 t.0 r.1 h, all_within more last r.0 left l.1 z.1 t.1 r.2 by (finishes_gone within s r.0 did h r.1))
