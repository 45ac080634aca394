-- How many events a transmit has at most, and where.
use Rattle.std.proofs.Common.{◌≡◌, ℕ, zero, suc, ◌+◌, ◌-◌, ◌*◌, ◌/◌, ◌%◌, ◌<◌, ◌≤◌, Bool, true, false, List, [], ◌∷◌, ◌++◌, Option, Some, None, Result, Ok, Err, IsTrue, refl, sym, ap, length, arith, length-append, subst, nat_lt}
use Rattle.std.specs.Prelude.{IfOk, slice_get, nat_le, if◌then◌else◌, ◌==◌}
use Rattle.std.proofs.lemmas.Bool.{ltb-false}
use Rattle.std.proofs.lemmas.Bool.Decides.{nat_tests}
use Rattle.xen_netif.specs.Offloads.{has_extra}
use Rattle.xen_netif.specs.Slots.{rx_req_of}
use Rattle.xen_netif.specs.declared.offload.RxOffload.{RxOffload}
use Rattle.xen_netif.specs.declared.rx.RxReq.{RxReq}
use Rattle.xen_page.specs.Entry.{entry_of, permits_access}
use Rattle.xen_page.specs.Grant.{allows, checked, owns, is_domain}
use Rattle.xen_page.specs.Table.{entry_place, place_in}
use Rattle.xen_page.specs.declared.entry.Entry.{Entry}
use Rattle.xen_page.specs.declared.fault.GrantFault.{GrantFault}
use Rattle.xen_page.specs.declared.fault.GrantFault.TheVariants as fault
use Rattle.xen_page.proofs.TableLemmas.{entry_frame_in}
use Rattle.xen_page.specs.declared.place.Place.{Place}
use Rattle.xen_page.specs.declared.entry.Rights.{Rights}
use Rattle.xen_page.specs.declared.entry.Rights.TheVariants.{ReadWrite}
use Rattle.xen_ring.specs.Index.{distance, is_due}
use Rattle.xen_steps.specs.Drive.{Any, Bounded, IsPageWant}
use Rattle.xen_steps.specs.Places.{add32, available}
use Rattle.xen_steps.specs.Steps.{Steps, done, bind}
use Rattle.xen_steps.specs.declared.want.Want.{Want}
use Rattle.xen_steps.proofs.DriveLemmas.{bounded_le, bounded_bind}
use Rattle.xen_rx_fill.specs.Entries.{entry, entry_at}
use Rattle.xen_rx_fill.specs.Packets.{frame_in, pages, slot_of, slots, takes_extra, target_at, words}
use Rattle.xen_rx_fill.specs.Transmit.{Posted, after_targets, fill, found, outcome_of, posted, read_targets, requested, rx_answer, rx_notice, rx_respond, targeted, transmit}
use Rattle.xen_rx_fill.specs.Wired.{IsWired}
use Rattle.xen_rx_fill.specs.declared.by_event.phase.TransmitOutcome.{TransmitOutcome}
use Rattle.xen_rx_fill.specs.declared.by_event.phase.TransmitOutcome.TheVariants as outcome
use Rattle.xen_rx_fill.specs.declared.target.Grants.{Grants}
use Rattle.xen_rx_fill.specs.declared.target.Grants.TheVariants.{Passed, Refused}
use Rattle.xen_rx_fill.specs.declared.target.Target.{Target}
use Rattle.xen_rx_fill.specs.declared.vif.Vif.{Vif}

some_inside : {A : Type 0} (xs : List A) (k : ℕ) (x : A) → slice_get xs k ≡ Some x → k < length xs
some_inside [] k x e = cc
some_inside (y ∷ ys) zero x e = omega arith
some_inside (y ∷ ys) (suc k) x e = let r = some_inside ys k x e in omega (arith, r)

owned_inside : (owners : List ℕ) (domain frame : ℕ) → IsTrue (owns owners domain frame) → frame < length owners
owned_inside owners domain frame h = by (slice_get owners frame) refl h
  where
    by : (o : Option ℕ) → slice_get owners frame ≡ o → IsTrue (is_domain o domain) → frame < length owners
    by None e h = cc
    by (Some x) e h = some_inside owners frame x e

-- a frame that is checked is there
checked_inside : (owners : List ℕ) (granter user : ℕ) (e : Entry) (rights : Rights) (frame : ℕ) → checked owners granter user e rights ≡ Ok frame → frame < length owners
checked_inside owners granter user e rights frame h = by (permits_access e) (e.domid == user) (allows e rights) (owns owners granter e.frame) refl h
  where
    by : (a b c d : Bool) → owns owners granter e.frame ≡ d →
        (if a then (if b then (if c then (if d then Ok e.frame else Err fault.BadPage) else Err fault.PermissionDenied) else Err fault.PermissionDenied) else Err fault.BadGntref) ≡ Ok frame → frame < length owners
    by true true true true o h = let same : e.frame ≡ frame = cc in subst (λ f. f < length owners) same (owned_inside owners granter e.frame o)
    by true true true false o h = cc
    by true true false d o h = cc
    by true false c d o h = cc
    by false b c d o h = cc

-- as a clause says it
pub granted_inside : (w : Vif) (e : Entry) (rights : Rights) (r : Result ℕ GrantFault) → r ≡ checked w.owners.now w.granter w.user e rights → IfOk r (λ frame. frame < length w.owners.now)
granted_inside w e rights (Ok frame) h = checked_inside w.owners.now w.granter w.user e rights frame (sym h)
granted_inside w e rights (Err fault) h = tt

available_few : (index prod m : ℕ) → available index prod ≡ Some m → m ≤ 256
available_few index prod m e = by (nat_le (distance index prod) 256) refl e
  where
    by : (b : Bool) → nat_le (distance index prod) 256 ≡ b → (if b then Some (distance index prod) else None) ≡ Some m → m ≤ 256
    by true t e = let same : distance index prod ≡ m = cc in grind (arith, nat_tests)
    by false t e = cc

place_word : (o : Option ℕ) (g : ℕ) (at : Place) → place_in o g ≡ Some at → at.word < 1023
place_word None g at e = cc
place_word (Some frame) g at e = let same : 2 * (g % 512) ≡ at.word = ap (λ o. word_of o) e in omega (arith, same)
  where
    word_of : Option Place → ℕ
    word_of None = 0
    word_of (Some p) = p.word

pub entry_word_small : (table : List ℕ) (g : ℕ) (at : Place) → entry_place table g ≡ Some at → at.word < 1023
entry_word_small table g at e = place_word (slice_get table (g / 512)) g at e

-- a mapped ring is there
pub frame_inside : (w : Vif) (frame : ℕ) → slice_get w.owners.now frame ≡ Some w.granter → frame < length w.owners.now
frame_inside w frame e = some_inside w.owners.now frame w.granter e

more_slots : (extra : Bool) (n : ℕ) → n ≤ (if extra then n + 1 else n)
more_slots true n = omega arith
more_slots false n = omega arith

module _ (w : Vif) (h : IsWired w) where
  abbrev size : ℕ
  size = length w.owners.now

  abbrev within : Want → Type 0
  within = IsPageWant size

  -- a checked frame is there
  abbrev pub IsThere : Result ℕ GrantFault → Type 0
  IsThere (Ok frame) = frame < size
  IsThere (Err fault) = Unit {0}

  is_there : (e : Entry) (rights : Rights) (r : Result ℕ GrantFault) → checked w.owners.now w.granter w.user e rights ≡ r → IsThere r
  is_there e rights (Ok frame) c = checked_inside w.owners.now w.granter w.user e rights frame c
  is_there e rights (Err fault) c = tt

  pub bounded_entry_at : (rights : Rights) (gref : ℕ) (o : Option Place) → entry_place w.table.now gref ≡ o → Bounded within IsThere (entry_at w rights o) 2
  bounded_entry_at rights gref None e = tt
  bounded_entry_at rights gref (Some at) e =
      let inside : at.frame < size = owned_inside w.owners.now w.granter at.frame (entry_frame_in (λ frame. IsTrue (owns w.owners.now w.granter frame)) w.table.now gref at e h.table.2) in
      let small : at.word < 1023 = entry_word_small w.table.now gref at e in
      (omega arith, (inside, omega (arith, small)), λ a. (omega arith, (inside, omega (arith, small)), λ b. is_there (entry_of a b) rights (checked w.owners.now w.granter w.user (entry_of a b) rights) refl))

  -- a transmit: where the producer shows enough slots, the packet has at most 256 pages
  rx_inside : w.rx < size
  rx_inside = some_inside w.owners.now w.rx w.granter h.rx

  abbrev AllThere : List Target → Type 0
  AllThere [] = Unit {0}
  AllThere (t ∷ ts) = (frame_in t.frame < size) × AllThere ts

  there_more : (ts : List Target) (t : Target) → AllThere ts → frame_in t.frame < size → AllThere (ts ++ t ∷ [])
  there_more [] t a l = (l, tt)
  there_more (u ∷ ts) t a l = (a.0, there_more ts t a.1 l)

  target_there : (ts : List Target) (i : ℕ) → AllThere ts → frame_in (target_at ts i).frame < size
  target_there [] i a = let r = rx_inside in omega (arith, r)
  target_there (t ∷ ts) zero a = a.0
  target_there (t ∷ ts) (suc i) a = target_there ts i a.1

  abbrev ArePosted : ℕ → Posted → Type 0
  ArePosted n (Ok ts) = AllThere ts × (length ts ≤ n)
  ArePosted n (Err ts) = length ts ≤ n

  bounded_posted : (n : ℕ) (P : Posted → Type 0) (i : ℕ) (rest : RxReq → Steps Posted) → ((q : RxReq) → Bounded within P (rest q) n) → Bounded within P (posted w i rest) (2 + n)
  bounded_posted n P i rest g = (
    omega arith,
    (rx_inside, omega arith),
    λ a. (
      omega arith,
      (rx_inside, omega arith),
      λ b. let k = rx_req_of (a ∷ b ∷ []) in bounded_le within P (rest k) n (2 + n - 1 - 1) (g k) (omega arith),
    ),
  )

  bounded_targeted : (x : ℕ) (o : RxOffload) (total left : ℕ) (before : List Target) (id : ℕ) (r : Result ℕ GrantFault) → length before < total → IsThere r →
      ((frame : ℕ) → frame < size → Bounded within (ArePosted total) (read_targets w x o left (before ++ record { id = id; frame = Some frame } ∷ [])) (4 * left)) →
      Bounded within (ArePosted total) (targeted before (read_targets w x o left) id r) (4 * left)
  bounded_targeted x o total left before id (Ok frame) l t g = g frame t
  bounded_targeted x o total left before id (Err fault) l t g = let t : Target = record { id = id; frame = None } in omega (arith, length-append before (t ∷ []))

  bounded_requested : (x : ℕ) (o : RxOffload) (total left : ℕ) (extra : Bool) (before : List Target) (q : RxReq) → length before < total →
      ((t : Target) → frame_in t.frame < size → Bounded within (ArePosted total) (read_targets w x o left (before ++ t ∷ [])) (4 * left)) →
      Bounded within (ArePosted total) (requested w extra before (read_targets w x o left) q) (2 + 4 * left)
  bounded_requested x o total left true before q l g =
      let t : Target = record { id = q.id; frame = None } in
      let inside = rx_inside in
      bounded_le within (ArePosted total) (read_targets w x o left (before ++ t ∷ [])) (4 * left) (2 + 4 * left) (g t (omega (arith, inside))) (omega arith)
  bounded_requested x o total left false before q l g =
      bounded_bind within IsThere (ArePosted total) (entry w ReadWrite q.gref) (targeted before (read_targets w x o left) q.id) 2 (4 * left) (2 + 4 * left)
      (bounded_entry_at ReadWrite q.gref (entry_place w.table.now q.gref) refl)
      (λ r t. bounded_targeted x o total left before q.id r l t (λ frame f. g (record { id = q.id; frame = Some frame }) f)) (omega arith)

  bounded_targets : (x : ℕ) (o : RxOffload) (total left : ℕ) (before : List Target) → AllThere before → length before + left ≤ total →
      Bounded within (ArePosted total) (read_targets w x o left before) (4 * left)
  bounded_targets x o total zero before a l = (a, omega arith)
  bounded_targets x o total (suc left) before a l =
      bounded_le within (ArePosted total) (read_targets w x o (suc left) before) (2 + (2 + 4 * left)) (4 * suc left)
      (bounded_posted (2 + 4 * left) (ArePosted total) (add32 x (length before)) (requested w (takes_extra o (length before)) before (read_targets w x o left))
      (λ q. bounded_requested x o total left (takes_extra o (length before)) before q (omega arith)
      (λ t f. bounded_targets x o total left (before ++ t ∷ []) (there_more before t a f) (omega (arith, length-append before (t ∷ []))))))
      (omega arith)

  bounded_fill : (o : RxOffload) (ts : List Target) (packet : List ℕ) (n k : ℕ) → AllThere ts → Bounded within Any (fill o ts packet n k) n
  bounded_fill o ts packet zero k a = tt
  bounded_fill o ts packet (suc n) k a =
      (omega arith, (target_there ts (slot_of o (k / 1024)) a, omega arith), λ v. bounded_le within Any (fill o ts packet n (k + 1)) n (suc n - 1) (bounded_fill o ts packet n (k + 1) a) (omega arith))

  bounded_rx_notice : (b : Bool) (o : TransmitOutcome) → Bounded within Any (rx_notice w b o) 1
  bounded_rx_notice false o = tt
  bounded_rx_notice true o = (omega arith, tt, λ a. tt)

  bounded_rx_answer : (x : ℕ) (o : RxOffload) (packet : List ℕ) (grants : Grants) (n i : ℕ) (ts : List Target) → Bounded within Any (rx_answer w x o packet grants n i ts) (2 * length ts + 3)
  bounded_rx_answer x o packet grants n i [] =
      (omega arith, (rx_inside, omega arith), λ a. (omega arith, (rx_inside, omega arith), λ v. bounded_rx_notice (is_due x (add32 x n) v) (outcome_of grants n)))
  bounded_rx_answer x o packet grants n i (t ∷ ts) = (
    omega arith,
    (rx_inside, omega arith),
    λ a. (
      omega arith,
      (rx_inside, omega arith),
      λ b. bounded_le within Any (rx_answer w x o packet grants n (i + 1) ts) (2 * length ts + 3) (2 * suc (length ts) + 3 - 1 - 1) (bounded_rx_answer x o packet grants n (i + 1) ts) (omega arith),
    ),
  )

  bounded_after_targets : (x : ℕ) (o : RxOffload) (packet : List ℕ) (p : Posted) → words packet ≤ 262144 → ArePosted 256 p → Bounded within Any (after_targets w x o packet p) 262659
  bounded_after_targets x o packet (Ok ts) l a =
      bounded_bind within Any Any (fill o ts packet (words packet - 0) 0) (λ u. rx_respond w x o packet Passed ts) (words packet - 0) 515 262659 (bounded_fill o ts packet (words packet - 0) 0 a.0)
      (λ v u. bounded_le within Any (rx_respond w x o packet Passed ts) (2 * length ts + 3) 515 (bounded_rx_answer x o packet Passed (length ts) 0 ts) (omega (arith, a.1))) (omega (arith, l))
  bounded_after_targets x o packet (Err ts) l a = bounded_le within Any (rx_respond w x o packet Refused ts) (2 * length ts + 3) 262659 (bounded_rx_answer x o packet Refused (length ts) 0 ts) (omega (arith, a))

  bounded_enough : (x : ℕ) (o : RxOffload) (packet : List ℕ) (m : ℕ) (lacking : Bool) → nat_lt m (slots o packet) ≡ lacking → m ≤ 256 →
      Bounded within Any (if lacking then done outcome.TooFew else bind (read_targets w x o (slots o packet) []) (after_targets w x o packet)) 263683
  bounded_enough x o packet m true e l = tt
  bounded_enough x o packet m false e l =
      let few : slots o packet ≤ 256 = omega (arith, ltb-false m (slots o packet) e) in
      let paged : pages packet ≤ slots o packet = more_slots (has_extra o) (pages packet) in
      let short : words packet ≤ 262144 = omega (arith, few, paged) in
      bounded_bind within (ArePosted 256) Any (read_targets w x o (slots o packet) []) (after_targets w x o packet) (4 * slots o packet) 262659 263683
      (bounded_targets x o 256 (slots o packet) [] tt (omega (arith, few))) (λ p a. bounded_after_targets x o packet p short a) (omega (arith, few))

  bounded_found : (x : ℕ) (o : RxOffload) (packet : List ℕ) (shown : Option ℕ) → ((m : ℕ) → shown ≡ Some m → m ≤ 256) → Bounded within Any (found w x o packet shown) 263683
  bounded_found x o packet None g = tt
  bounded_found x o packet (Some m) g = bounded_enough x o packet m (nat_lt m (slots o packet)) refl (g m refl)

  pub bounded_transmit : (x : ℕ) (o : RxOffload) (packet : List ℕ) → Bounded within Any (transmit w x o packet) 263684
  bounded_transmit x o packet = (omega arith, (rx_inside, omega arith), λ p. bounded_found x o packet (available x p) (available_few x p))
