-- The runs of a transmit are its part of a trace.
use Rattle.std.proofs.Common.{◌≡◌, ℕ, zero, suc, ◌+◌, ◌-◌, ◌<◌, ◌≤◌, ◌^◌, Bool, true, false, List, [], ◌∷◌, ◌++◌, Option, Some, None, Result, Ok, Err, refl, sym, ◌∙◌, ap, length, arith, append_assoc, length-append, subst}
use Rattle.std.specs.Prelude.{nat_lt, if◌then◌else◌}
use Rattle.std.proofs.lemmas.List.{append-nil}
use Rattle.std.proofs.lemmas.Bool.{ltb-true, ltb-false, lt-ltb, le-ltb}
use Rattle.xen_netif.specs.Slots.{rx_req_of}
use Rattle.xen_netif.specs.declared.offload.RxOffload.{RxOffload}
use Rattle.xen_netif.specs.declared.rx.RxReq.{RxReq}
use Rattle.xen_page.specs.declared.fault.GrantFault.{GrantFault}
use Rattle.xen_page.specs.declared.entry.Rights.TheVariants.{ReadWrite}
use Rattle.xen_ring.specs.Index.{is_due}
use Rattle.xen_rx_fill.specs.Entries.{entry}
use Rattle.xen_steps.specs.Event.{Event, Read, Write}
use Rattle.xen_rx_fill.specs.Packets.{slots, takes_extra, words, word_of, buffer_word, response_word}
use Rattle.xen_rx_fill.specs.Shared.{notices}
use Rattle.xen_steps.specs.Places.{add32, available}
use Rattle.xen_rx_fill.specs.Places.{rx_slot, rx_word}
use Rattle.xen_rx_fill.specs.Sending.{IsPosted, is_posted, AreTargets, all, refusing, passing, for_extra, buffer_writes, rx_writes, IsRxRespond, IsTransmit, rx_overflow, too_few, refused, sent}
use Rattle.xen_steps.specs.Steps.{Steps, done, bind, Runs}
use Rattle.xen_rx_fill.specs.Transmit.{Posted, targeted, requested, posted, read_targets, outcome_of, rx_notice, rx_answer, rx_respond, fill, after_targets, found, transmit}
use Rattle.xen_rx_fill.specs.declared.by_event.phase.TransmitOutcome.{TransmitOutcome}
use Rattle.xen_rx_fill.specs.declared.by_event.phase.TransmitOutcome.TheVariants as outcome
use Rattle.xen_rx_fill.specs.declared.target.Grants.{Grants}
use Rattle.xen_rx_fill.specs.declared.target.Grants.TheVariants.{Passed, Refused}
use Rattle.xen_rx_fill.specs.declared.target.Target.{Target}
use Rattle.xen_rx_fill.specs.declared.vif.Vif.{Vif}
use Rattle.xen_rx_fill.proofs.EntryParts.{entry_parts, runs_entry}
use Rattle.xen_steps.proofs.StepsLemmas.{split, join}

-- a slot's two words and what follows them
record PostedFirst (w : Vif) (i : ℕ) (rest : RxReq → Steps Posted) (p : List Event) (s : Posted) : Type 0 where
  pub a : ℕ
  pub g : ℕ
  pub back : List Event
  pub joined : p ≡ Read (rx_slot w i 0) a ∷ Read (rx_slot w i 1) g ∷ back
  pub small : a < 2 ^ 32
  pub short : g < 2 ^ 32
  pub later : Runs (rest (rx_req_of (a ∷ g ∷ []))) back s

posted_parts : (w : Vif) (i : ℕ) (rest : RxReq → Steps Posted) (p : List Event) (s : Posted) → Runs (posted w i rest) p s → PostedFirst w i rest p s
posted_parts w i rest [] s h = absurd h
posted_parts w i rest (y ∷ []) s h = absurd h.2
posted_parts w i rest (y ∷ z ∷ p) s h =
    record { a = h.0; g = h.2.0; back = p; joined = rw (h.1.1, h.2.1.1) refl; small = h.1.0; short = h.2.1.0; later = h.2.2 }

-- a slot for a page
runs_posted : (w : Vif) (i : ℕ) (extra : Bool) (before : List Target) (go : List Target → Steps Posted) (p q : List Event) (id : ℕ) (r : Result ℕ GrantFault) (s : Posted) → extra ≡ false →
    IsPosted w i p id r → Runs (targeted before go id r) q s → Runs (posted w i (requested w extra before go)) (p ++ q) s
runs_posted w i true before go p q id r s none o h = cc
runs_posted w i false before go _ q _ _ s none (is_posted a g p r la lg e) h =
    let k = rx_req_of (a ∷ g ∷ []) in
    (a, (la, refl), (g, (lg, refl), join (entry w ReadWrite k.gref) (targeted before go k.id) p q r s (runs_entry w ReadWrite k.gref p r e) h))

-- the slot for the extra
runs_extra : (w : Vif) (i : ℕ) (extra : Bool) (before : List Target) (go : List Target → Steps Posted) (a g : ℕ) (q : List Event) (s : Posted) → extra ≡ true → a < 2 ^ 32 → g < 2 ^ 32 →
    Runs (go (before ++ record { id = (rx_req_of (a ∷ g ∷ [])).id; frame = None } ∷ [])) q s →
    Runs (posted w i (requested w extra before go)) (Read (rx_slot w i 0) a ∷ Read (rx_slot w i 1) g ∷ q) s
runs_extra w i true before go a g q s some la lg h = (a, (la, refl), (g, (lg, refl), h))
runs_extra w i false before go a g q s some la lg h = cc

-- the slots
abbrev pub scanned : Grants → List Target → Posted
scanned Passed ts = Ok ts
scanned Refused ts = Err ts

record Scanned (w : Vif) (x : ℕ) (o : RxOffload) (i left : ℕ) (before : List Target) (p : List Event) (s : Posted) : Type 0 where
  pub grants : Grants
  pub more : List Target
  pub targets : AreTargets w x o i left p grants more
  pub ends : s ≡ scanned grants (before ++ more)

targeted_parts : (w : Vif) (x : ℕ) (o : RxOffload) (left : ℕ) (before : List Target) (p q : List Event) (id : ℕ) (r : Result ℕ GrantFault) (s : Posted) → takes_extra o (length before) ≡ false →
    IsPosted w (add32 x (length before)) p id r →
    ((b : List Target) → Runs (read_targets w x o left b) q s → Scanned w x o (length b) left b q s) →
    Runs (targeted before (read_targets w x o left) id r) q s → Scanned w x o (length before) (suc left) before (p ++ q) s
targeted_parts w x o left before p [] id (Err fault) s none e go h =
    rw append-nil (record { grants = Refused; more = record { id = id; frame = None } ∷ []; targets = refusing (length before) left id p fault none e; ends = sym h })
targeted_parts w x o left before p (y ∷ q) id (Err fault) s none e go h = absurd h
targeted_parts w x o left before p q id (Ok frame) s none e go h =
    let t : Target = record { id = id; frame = Some frame } in
    let d = go (before ++ t ∷ []) h in
    record {
      grants = d.grants;
      more = t ∷ d.more;
      targets = passing (length before) left id frame p q d.grants d.more none e (rw (← (length-append before (t ∷ []))) d.targets);
      ends = d.ends ∙ ap (scanned d.grants) (append_assoc before (t ∷ []) d.more);
    }

requested_parts : (w : Vif) (x : ℕ) (o : RxOffload) (left : ℕ) (extra : Bool) (before : List Target) (a g : ℕ) (q : List Event) (s : Posted) → takes_extra o (length before) ≡ extra →
    a < 2 ^ 32 → g < 2 ^ 32 →
    ((b : List Target) (l : List Event) → Runs (read_targets w x o left b) l s → Scanned w x o (length b) left b l s) →
    Runs (requested w extra before (read_targets w x o left) (rx_req_of (a ∷ g ∷ []))) q s →
    Scanned w x o (length before) (suc left) before (Read (rx_slot w (add32 x (length before)) 0) a ∷ Read (rx_slot w (add32 x (length before)) 1) g ∷ q) s
requested_parts w x o left true before a g q s some la lg go h =
    let t : Target = record { id = (rx_req_of (a ∷ g ∷ [])).id; frame = None } in
    let d = go (before ++ t ∷ []) q h in
    record {
      grants = d.grants;
      more = t ∷ d.more;
      targets = for_extra (length before) left a g q d.grants d.more some la lg (rw (← (length-append before (t ∷ []))) d.targets);
      ends = d.ends ∙ ap (scanned d.grants) (append_assoc before (t ∷ []) d.more);
    }
requested_parts w x o left false before a g q s none la lg go h =
    let r = rx_req_of (a ∷ g ∷ []) in
    let two : List Event = Read (rx_slot w (add32 x (length before)) 0) a ∷ Read (rx_slot w (add32 x (length before)) 1) g ∷ [] in
    let e = split (entry w ReadWrite r.gref) (targeted before (read_targets w x o left) r.id) q s h in
    subst (λ l. Scanned w x o (length before) (suc left) before (two ++ l) s) (sym e.joined)
    (targeted_parts w x o left before (two ++ e.front) e.back r.id e.mid s none
    (is_posted a g e.front e.mid la lg (entry_parts w ReadWrite r.gref e.front e.mid e.first)) (λ b. go b e.back) e.later)

targets_parts : (w : Vif) (x : ℕ) (o : RxOffload) (left : ℕ) (before : List Target) (p : List Event) (s : Posted) → Runs (read_targets w x o left before) p s → Scanned w x o (length before) left before p s
targets_parts w x o zero before [] s h = record { grants = Passed; more = []; targets = all (length before); ends = sym h ∙ ap (scanned Passed) (sym (append-nil before)) }
targets_parts w x o zero before (e ∷ p) s h = absurd h
targets_parts w x o (suc left) before p s h =
    let i = posted_parts w (add32 x (length before)) (requested w (takes_extra o (length before)) before (read_targets w x o left)) p s h in
    rw i.joined (requested_parts w x o left (takes_extra o (length before)) before i.a i.g i.back s refl i.small i.short (λ b l. targets_parts w x o left b l s) i.later)

runs_targets : (w : Vif) (x : ℕ) (o : RxOffload) (i left : ℕ) (p : List Event) (grants : Grants) (ts : List Target) → AreTargets w x o i left p grants ts → (before : List Target) → length before ≡ i →
    Runs (read_targets w x o left before) p (scanned grants (before ++ ts))
runs_targets w x o _ _ _ _ _ (all i) before e = ap (scanned Passed) (sym (append-nil before))
runs_targets w x o _ _ _ _ _ (refusing i left id p fault none f) before e =
    let t : Target = record { id = id; frame = None } in
    let one = subst (λ j. IsPosted w (add32 x j) p id (Err fault)) (sym e) f in
    subst (λ l. Runs (read_targets w x o (suc left) before) l (scanned Refused (before ++ t ∷ []))) (append-nil p)
    (runs_posted w (add32 x (length before)) (takes_extra o (length before)) before (read_targets w x o left) p [] id (Err fault) (scanned Refused (before ++ t ∷ [])) (ap (takes_extra o) e ∙ none) one refl)
runs_targets w x o _ _ _ _ _ (passing i left id frame p q grants ts none f a) before e =
    let t : Target = record { id = id; frame = Some frame } in
    let one = subst (λ j. IsPosted w (add32 x j) p id (Ok frame)) (sym e) f in
    let n : length (before ++ t ∷ []) ≡ i + 1 = length-append before (t ∷ []) ∙ ap (λ j. j + 1) e in
    subst (λ l. Runs (read_targets w x o (suc left) before) (p ++ q) (scanned grants l)) (append_assoc before (t ∷ []) ts)
    (runs_posted w (add32 x (length before)) (takes_extra o (length before)) before (read_targets w x o left) p q id (Ok frame) (scanned grants ((before ++ t ∷ []) ++ ts)) (ap (takes_extra o) e ∙ none) one
    (runs_targets w x o (i + 1) left q grants ts a (before ++ t ∷ []) n))
runs_targets w x o _ _ _ _ _ (for_extra i left a g q grants ts some la lg f) before e =
    let t : Target = record { id = (rx_req_of (a ∷ g ∷ [])).id; frame = None } in
    let n : length (before ++ t ∷ []) ≡ i + 1 = length-append before (t ∷ []) ∙ ap (λ j. j + 1) e in
    subst (λ j. Runs (read_targets w x o (suc left) before) (Read (rx_slot w (add32 x j) 0) a ∷ Read (rx_slot w (add32 x j) 1) g ∷ q) (scanned grants (before ++ t ∷ ts))) e
    (subst (λ l. Runs (read_targets w x o (suc left) before) (Read (rx_slot w (add32 x (length before)) 0) a ∷ Read (rx_slot w (add32 x (length before)) 1) g ∷ q) (scanned grants l)) (append_assoc before (t ∷ []) ts)
    (runs_extra w (add32 x (length before)) (takes_extra o (length before)) before (read_targets w x o left) a g q (scanned grants ((before ++ t ∷ []) ++ ts)) (ap (takes_extra o) e ∙ some) la lg
    (runs_targets w x o (i + 1) left q grants ts f (before ++ t ∷ []) n)))

-- the buffers
fill_parts : (o : RxOffload) (ts : List Target) (packet : List ℕ) (n k : ℕ) (p : List Event) (u : Unit {0}) → Runs (fill o ts packet n k) p u → p ≡ buffer_writes o ts packet n k
fill_parts o ts packet zero k [] u h = refl
fill_parts o ts packet zero k (e ∷ p) u h = absurd h
fill_parts o ts packet (suc n) k [] u h = absurd h
fill_parts o ts packet (suc n) k (e ∷ p) u h = rw h.1.1 (ap (λ l. Write (buffer_word o ts k) (word_of packet k) ∷ l) (fill_parts o ts packet n (k + 1) p u h.2))

runs_fill : (o : RxOffload) (ts : List Target) (packet : List ℕ) (n k : ℕ) → Runs (fill o ts packet n k) (buffer_writes o ts packet n k) tt
runs_fill o ts packet zero k = refl
runs_fill o ts packet (suc n) k = (0, (refl, refl), runs_fill o ts packet n (k + 1))

-- the responses and the push
notice_parts : (w : Vif) (b : Bool) (o : TransmitOutcome) (p : List Event) (u : TransmitOutcome) → Runs (rx_notice w b o) p u → (p ≡ notices w b) × (o ≡ u)
notice_parts w false o [] u h = (refl, h)
notice_parts w false o (e ∷ p) u h = absurd h
notice_parts w true o [] u h = absurd h
notice_parts w true o (e ∷ []) u h = (rw h.1.1 refl, h.2)
notice_parts w true o (e ∷ y ∷ p) u h = absurd h.2

answer_parts : (w : Vif) (x : ℕ) (o : RxOffload) (packet : List ℕ) (grants : Grants) (n i : ℕ) (ts : List Target) (p : List Event) (u : TransmitOutcome) → Runs (rx_answer w x o packet grants n i ts) p u →
    (e : ℕ) × (e < 2 ^ 32) × (p ≡ rx_writes w x o packet grants n i ts ++ Write (rx_word w 2) (add32 x n) ∷ Read (rx_word w 3) e ∷ notices w (is_due x (add32 x n) e)) × (outcome_of grants n ≡ u)
answer_parts w x o packet grants n i [] [] u h = absurd h
answer_parts w x o packet grants n i [] (y ∷ []) u h = absurd h.2
answer_parts w x o packet grants n i [] (y ∷ z ∷ p) u h =
    let q = notice_parts w (is_due x (add32 x n) h.2.0) (outcome_of grants n) p u h.2.2 in
    (h.2.0, h.2.1.0, rw (h.1.1, h.2.1.1, q.0) refl, q.1)
answer_parts w x o packet grants n i (t ∷ ts) [] u h = absurd h
answer_parts w x o packet grants n i (t ∷ ts) (y ∷ []) u h = absurd h.2
answer_parts w x o packet grants n i (t ∷ ts) (y ∷ z ∷ p) u h =
    let q = answer_parts w x o packet grants n (i + 1) ts p u h.2.2 in
    (q.0, q.1, rw (h.1.1, h.2.1.1) (ap (λ l. Write (rx_slot w (add32 x i) 0) (response_word o grants packet n i t.id 0) ∷ Write (rx_slot w (add32 x i) 1) (response_word o grants packet n i t.id 1) ∷ l) q.2), q.3)

runs_notice : (w : Vif) (b : Bool) (o : TransmitOutcome) → Runs (rx_notice w b o) (notices w b) o
runs_notice w false o = refl
runs_notice w true o = (0, (refl, refl), refl)

runs_answer : (w : Vif) (x : ℕ) (o : RxOffload) (packet : List ℕ) (grants : Grants) (n i : ℕ) (ts : List Target) (e : ℕ) → e < 2 ^ 32 →
    Runs (rx_answer w x o packet grants n i ts) (rx_writes w x o packet grants n i ts ++ Write (rx_word w 2) (add32 x n) ∷ Read (rx_word w 3) e ∷ notices w (is_due x (add32 x n) e)) (outcome_of grants n)
runs_answer w x o packet grants n i [] e l = (0, (refl, refl), (e, (l, refl), runs_notice w (is_due x (add32 x n) e) (outcome_of grants n)))
runs_answer w x o packet grants n i (t ∷ ts) e l = (0, (refl, refl), (0, (refl, refl), runs_answer w x o packet grants n (i + 1) ts e l))

runs_respond : (w : Vif) (x : ℕ) (o : RxOffload) (packet : List ℕ) (grants : Grants) (ts : List Target) (p : List Event) → IsRxRespond w x o packet grants ts p → Runs (rx_respond w x o packet grants ts) p (outcome_of grants (length ts))
runs_respond w x o packet grants ts p h = rw h.2 (runs_answer w x o packet grants (length ts) 0 ts h.0 h.1)

less_none : (n : ℕ) → n - 0 ≡ n
less_none n = omega arith

-- the rows
module _ (w : Vif) (x : ℕ) (o : RxOffload) (packet : List ℕ) where
  scan_rows : (p m : ℕ) (grants : Grants) (ts : List Target) (p1 q : List Event) (u : TransmitOutcome) → p < 2 ^ 32 → available x p ≡ Some m → slots o packet ≤ m →
      AreTargets w x o 0 (slots o packet) p1 grants ts → Runs (after_targets w x o packet (scanned grants ts)) q u → IsTransmit w x o packet (Read (rx_word w 0) p ∷ (p1 ++ q)) u
  scan_rows p m Refused ts p1 q u l e le a h =
      let r = answer_parts w x o packet Refused (length ts) 0 ts q u h in
      subst (λ v. IsTransmit w x o packet (Read (rx_word w 0) p ∷ (p1 ++ q)) v) r.3 (refused p m p1 q ts l e le a (r.0, r.1, r.2))
  scan_rows p m Passed ts p1 q u l e le a h =
      let i = split (fill o ts packet (words packet) 0) (λ _. rx_respond w x o packet Passed ts) q u (subst (λ n. Runs (bind (fill o ts packet n 0) (λ _. rx_respond w x o packet Passed ts)) q u) (less_none (words packet)) h) in
      let r = answer_parts w x o packet Passed (length ts) 0 ts i.back u i.later in
      let j : q ≡ buffer_writes o ts packet (words packet) 0 ++ i.back = i.joined ∙ ap (λ f. f ++ i.back) (fill_parts o ts packet (words packet) 0 i.front i.mid i.first) in
      subst (λ v. IsTransmit w x o packet (Read (rx_word w 0) p ∷ (p1 ++ q)) v) r.3
      (subst (λ l. IsTransmit w x o packet (Read (rx_word w 0) p ∷ (p1 ++ l)) (outcome.Sent (length ts))) (sym j) (sent p m p1 i.back ts l e le a (r.0, r.1, r.2)))

  enough_rows : (p m : ℕ) (lacking : Bool) (q : List Event) (u : TransmitOutcome) → p < 2 ^ 32 → available x p ≡ Some m → nat_lt m (slots o packet) ≡ lacking →
      Runs (if lacking then done outcome.TooFew else bind (read_targets w x o (slots o packet) []) (after_targets w x o packet)) q u → IsTransmit w x o packet (Read (rx_word w 0) p ∷ q) u
  enough_rows p m true [] u l e le h = rw (← h) (too_few p m l e (ltb-true m (slots o packet) le))
  enough_rows p m true (y ∷ q) u l e le h = absurd h
  enough_rows p m false q u l e le h =
      let i = split (read_targets w x o (slots o packet) []) (after_targets w x o packet) q u h in
      let s = targets_parts w x o (slots o packet) [] i.front i.mid i.first in
      rw i.joined (scan_rows p m s.grants s.more i.front i.back u l e (ltb-false m (slots o packet) le) s.targets (subst (λ (z : Posted). Runs (after_targets w x o packet z) i.back u) s.ends i.later))

  found_rows : (p : ℕ) (shown : Option ℕ) (q : List Event) (u : TransmitOutcome) → p < 2 ^ 32 → available x p ≡ shown → Runs (found w x o packet shown) q u → IsTransmit w x o packet (Read (rx_word w 0) p ∷ q) u
  found_rows p None [] u l e h = rw (← h) (rx_overflow p l e)
  found_rows p None (y ∷ q) u l e h = absurd h
  found_rows p (Some m) q u l e h = enough_rows p m (nat_lt m (slots o packet)) q u l e refl h

  pub transmit_parts : (p : List Event) (u : TransmitOutcome) → Runs (transmit w x o packet) p u → IsTransmit w x o packet p u
  transmit_parts [] u h = absurd h
  transmit_parts (y ∷ q) u h = rw h.1.1 (found_rows h.0 (available x h.0) q u h.1.0 refl h.2)

  -- and back
  runs_found : (p m : ℕ) (p1 q : List Event) (grants : Grants) (ts : List Target) (u : TransmitOutcome) → p < 2 ^ 32 → available x p ≡ Some m → slots o packet ≤ m →
      AreTargets w x o 0 (slots o packet) p1 grants ts → Runs (after_targets w x o packet (scanned grants ts)) q u → Runs (transmit w x o packet) (Read (rx_word w 0) p ∷ (p1 ++ q)) u
  runs_found p m p1 q grants ts u l e le a h = (
    p,
    (l, refl),
    subst (λ (v : Option ℕ). Runs (found w x o packet v) (p1 ++ q) u) (sym e)
        (subst (λ b. Runs (if b then done outcome.TooFew else bind (read_targets w x o (slots o packet) []) (after_targets w x o packet)) (p1 ++ q) u) (sym (le-ltb m (slots o packet) le))
        (join (read_targets w x o (slots o packet) []) (after_targets w x o packet) p1 q (scanned grants ts) u (runs_targets w x o 0 (slots o packet) p1 grants ts a [] refl) h)),
  )

  pub runs_transmit : (p : List Event) (u : TransmitOutcome) → IsTransmit w x o packet p u → Runs (transmit w x o packet) p u
  runs_transmit _ _ (rx_overflow p l e) = (p, (l, refl), subst (λ (v : Option ℕ). Runs (found w x o packet v) [] outcome.Overflow) (sym e) refl)
  runs_transmit _ _ (too_few p m l e h) = (
    p,
    (l, refl),
    subst (λ (v : Option ℕ). Runs (found w x o packet v) [] outcome.TooFew) (sym e)
        (subst (λ b. Runs (if b then done outcome.TooFew else bind (read_targets w x o (slots o packet) []) (after_targets w x o packet)) [] outcome.TooFew) (sym (lt-ltb m (slots o packet) h)) refl),
  )
  runs_transmit _ _ (refused p m p1 p2 ts l e le a r) = runs_found p m p1 p2 Refused ts (outcome.Refused (length ts)) l e le a (runs_respond w x o packet Refused ts p2 r)
  runs_transmit _ _ (sent p m p1 p2 ts l e le a r) =
      runs_found p m p1 (buffer_writes o ts packet (words packet) 0 ++ p2) Passed ts (outcome.Sent (length ts)) l e le a
      (subst (λ n. Runs (bind (fill o ts packet n 0) (λ _. rx_respond w x o packet Passed ts)) (buffer_writes o ts packet (words packet) 0 ++ p2) (outcome.Sent (length ts))) (sym (less_none (words packet)))
      (join (fill o ts packet (words packet) 0) (λ _. rx_respond w x o packet Passed ts) (buffer_writes o ts packet (words packet) 0) p2 tt (outcome.Sent (length ts)) (runs_fill o ts packet (words packet) 0) (runs_respond w x o packet Passed ts p2 r)))
