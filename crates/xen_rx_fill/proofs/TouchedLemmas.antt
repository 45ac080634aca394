-- The places that a transmit touches.
use Rattle.std.proofs.Common.{◌≡◌, ℕ, zero, suc, ◌+◌, ◌*◌, ◌/◌, ◌%◌, ◌<◌, Bool, true, false, nat_lt, List, [], ◌∷◌, ◌++◌, Result, Ok, Err, refl, sym, ap, length, arith, subst, inr}
use Rattle.std.specs.Prelude.{if◌then◌else◌, ◌&&◌, ◌==◌}
use Rattle.std.proofs.lemmas.Bool.{eqb-true, ltb-true, ltb-false}
use Rattle.xen_netif.specs.Offloads.{has_extra}
use Rattle.xen_netif.specs.declared.offload.RxOffload.{RxOffload}
use Rattle.xen_page.specs.Mapping.{frame_place}
use Rattle.xen_page.specs.declared.fault.GrantFault.{GrantFault}
use Rattle.xen_page.specs.declared.entry.Rights.{Rights}
use Rattle.xen_page.specs.declared.entry.Rights.TheVariants.{ReadOnly, ReadWrite}
use Rattle.xen_ring.specs.Index.{is_due}
use Rattle.xen_steps.specs.Event.{Event, Read, Write}
use Rattle.xen_steps.specs.Places.{add32}
use Rattle.xen_rx_fill.specs.Packets.{frame_in, pages, response_word, slot_of, slots, takes_extra, target_at, word_of, words}
use Rattle.xen_rx_fill.specs.Places.{rx_slot, rx_word}
use Rattle.xen_rx_fill.specs.Sending.{IsPosted, is_posted, AreTargets, all, refusing, passing, for_extra, buffer_writes, rx_writes, IsRxRespond, IsTransmit, rx_overflow, too_few, refused, sent}
use Rattle.xen_rx_fill.specs.Shared.{IsEntry, outside, inside, notices}
use Rattle.xen_rx_fill.specs.Touched.{AreNext, here, later, IsGranted, IsAllowed, ring, entry_flags, entry_frame, source, tx_response, rx_response, pushed, announced, buffer, notified, instruction, loaded, added, AllAllowed}
use Rattle.xen_rx_fill.specs.declared.by_event.phase.TransmitOutcome.{TransmitOutcome}
use Rattle.xen_rx_fill.specs.declared.target.Grants.{Grants}
use Rattle.xen_rx_fill.specs.declared.target.Grants.TheVariants.{Passed, Refused}
use Rattle.xen_rx_fill.specs.declared.target.Target.{Target}
use Rattle.xen_rx_fill.specs.declared.vif.Vif.{Vif}

-- a trace that has all pairs of neighbours of another
abbrev pub Has : List Event → List Event → Type 0
Has p t = (e f : Event) → AreNext e f p → AreNext e f t

in_front : (e f : Event) (p q : List Event) → AreNext e f p → AreNext e f (p ++ q)
in_front e f _ q (here t) = here (t ++ q)
in_front e f _ q (later x t h) = later x (t ++ q) (in_front e f t q h)

pub front : (p q : List Event) → Has p (p ++ q)
front p q e f h = in_front e f p q h

in_back : (e f : Event) (p q : List Event) → AreNext e f q → AreNext e f (p ++ q)
in_back e f [] q h = h
in_back e f (x ∷ p) q h = later x (p ++ q) (in_back e f p q h)

pub back : (p q : List Event) → Has q (p ++ q)
back p q e f h = in_back e f p q h

pub granted_on : (w : Vif) (rights : Rights) (p t : List Event) (frame : ℕ) → Has p t → IsGranted w rights p frame → IsGranted w rights t frame
granted_on w rights p t frame h g =
    record { gref = g.gref; at = g.at; a = g.a; b = g.b; place = g.place; read = h (Read g.at g.a) (Read (frame_place g.at) g.b) g.read; grants = g.grants }

allowed_on : (w : Vif) (p t : List Event) (e : Event) → Has p t → IsAllowed w p e → IsAllowed w t e
allowed_on w p t _ h (ring frame k v r l) = ring frame k v r l
allowed_on w p t _ h (entry_flags gref v at e) = entry_flags gref v at e
allowed_on w p t _ h (entry_frame gref v at e) = entry_frame gref v at e
allowed_on w p t _ h (source frame k v l g) = source frame k v l (granted_on w ReadOnly p t frame h g)
allowed_on w p t _ h (tx_response i v) = tx_response i v
allowed_on w p t _ h (rx_response i j v l) = rx_response i j v l
allowed_on w p t _ h (pushed frame v r) = pushed frame v r
allowed_on w p t _ h (announced v) = announced v
allowed_on w p t _ h (buffer frame k v l g) = buffer frame k v l (granted_on w ReadWrite p t frame h g)
allowed_on w p t _ h notified = notified
allowed_on w p t _ h instruction = instruction
allowed_on w p t _ h (loaded m k j v) = loaded m k j v
allowed_on w p t _ h (added m k j delta old) = added m k j delta old

pub all_on : (w : Vif) (p t q : List Event) → Has p t → AllAllowed w p q → AllAllowed w t q
all_on w p t [] h a = tt
all_on w p t (e ∷ q) h a = (allowed_on w p t e h a.0, all_on w p t q h a.1)

pub append : (w : Vif) (t p q : List Event) → AllAllowed w t p → AllAllowed w t q → AllAllowed w t (p ++ q)
append w t [] q h i = i
append w t (e ∷ p) q h i = (h.0, append w t p q h.1 i)

-- two parts, each by itself
pub both : (w : Vif) (p q : List Event) → AllAllowed w p p → AllAllowed w q q → AllAllowed w (p ++ q) (p ++ q)
both w p q h i = append w (p ++ q) p q (all_on w p (p ++ q) p (front p q) h) (all_on w q (p ++ q) q (back p q) i)

pub of_notices : (w : Vif) (t : List Event) (b : Bool) → AllAllowed w t (notices w b)
of_notices w t false = tt
of_notices w t true = (notified, tt)

-- entries and what they grant
pub of_entry : (w : Vif) (t : List Event) (rights : Rights) (gref : ℕ) (p : List Event) (r : Result ℕ GrantFault) → IsEntry w rights gref p r → AllAllowed w t p
of_entry w t rights gref _ _ (outside e) = tt
of_entry w t rights gref _ _ (inside at a b e la lb) = (entry_flags gref a at e, (entry_frame gref b at e, tt))

pub grants_by : (w : Vif) (rights : Rights) (gref : ℕ) (p : List Event) (r : Result ℕ GrantFault) (frame : ℕ) → IsEntry w rights gref p r → r ≡ Ok frame → IsGranted w rights p frame
grants_by w rights gref _ _ frame (outside e) h = cc
grants_by w rights gref _ _ frame (inside at a b e la lb) h =
    record { gref = gref; at = at; a = a; b = b; place = e; read = here []; grants = h }

-- the transmit
of_posted : (w : Vif) (t : List Event) (i : ℕ) (p : List Event) (id : ℕ) (r : Result ℕ GrantFault) → IsPosted w i p id r → AllAllowed w t p
of_posted w t i _ _ _ (is_posted a g p r la lg e) =
    (ring w.rx (16 + 2 * (i % 256) + 0) a (inr refl) (omega arith), (ring w.rx (16 + 2 * (i % 256) + 1) g (inr refl) (omega arith), of_entry w t ReadWrite g p r e))

posted_grants : (w : Vif) (i : ℕ) (p : List Event) (id : ℕ) (r : Result ℕ GrantFault) (frame : ℕ) → IsPosted w i p id r → r ≡ Ok frame → IsGranted w ReadWrite p frame
posted_grants w i _ _ _ frame (is_posted a g p r la lg e) h =
    granted_on w ReadWrite p (Read (rx_slot w i 0) a ∷ Read (rx_slot w i 1) g ∷ p) frame (back (Read (rx_slot w i 0) a ∷ Read (rx_slot w i 1) g ∷ []) p) (grants_by w ReadWrite g p r frame e h)

of_targets : (w : Vif) (t : List Event) (x : ℕ) (o : RxOffload) (i left : ℕ) (p : List Event) (grants : Grants) (ts : List Target) → AreTargets w x o i left p grants ts → AllAllowed w t p
of_targets w t x o _ _ _ _ _ (all i) = tt
of_targets w t x o _ _ _ _ _ (refusing i left id p fault none f) = of_posted w t (add32 x i) p id (Err fault) f
of_targets w t x o _ _ _ _ _ (passing i left id frame p q grants ts none f a) = append w t p q (of_posted w t (add32 x i) p id (Ok frame) f) (of_targets w t x o (i + 1) left q grants ts a)
of_targets w t x o _ _ _ _ _ (for_extra i left a g q grants ts some la lg f) =
    let k = add32 x i in
    (ring w.rx (16 + 2 * (k % 256) + 0) a (inr refl) (omega arith), (ring w.rx (16 + 2 * (k % 256) + 1) g (inr refl) (omega arith), of_targets w t x o (i + 1) left q grants ts f))

both_ways : (b : Bool) → b ≡ true → b ≡ false → ⊥
both_ways true h i = cc
both_ways false h i = cc

targets_grant : (w : Vif) (x : ℕ) (o : RxOffload) (i left : ℕ) (p : List Event) (grants : Grants) (ts : List Target) → AreTargets w x o i left p grants ts → grants ≡ Passed →
    (j : ℕ) → j < length ts → takes_extra o (i + j) ≡ false → IsGranted w ReadWrite p (frame_in (target_at ts j).frame)
targets_grant w x o _ _ _ _ _ (all i) e j l d = absurd (omega arith)
targets_grant w x o _ _ _ _ _ (refusing i left id p fault none f) e j l d = cc
targets_grant w x o _ _ _ _ _ (passing i left id frame p q grants ts none f a) e zero l d = granted_on w ReadWrite p (p ++ q) frame (front p q) (posted_grants w (add32 x i) p id (Ok frame) frame f refl)
targets_grant w x o _ _ _ _ _ (passing i left id frame p q grants ts none f a) e (suc j) l d =
    let after : i + suc j ≡ i + 1 + j = omega arith in
    granted_on w ReadWrite q (p ++ q) (frame_in (target_at ts j).frame) (back p q)
    (targets_grant w x o (i + 1) left q grants ts a e j (omega arith) (subst (λ m. takes_extra o m ≡ false) after d))
targets_grant w x o _ _ _ _ _ (for_extra i left a g q grants ts some la lg f) e zero l d =
    let same : i + 0 ≡ i = omega arith in absurd (both_ways (takes_extra o i) some (subst (λ m. takes_extra o m ≡ false) same d))
targets_grant w x o _ _ _ _ _ (for_extra i left a g q grants ts some la lg f) e (suc j) l d =
    let after : i + suc j ≡ i + 1 + j = omega arith in
    let two : List Event = Read (rx_slot w (add32 x i) 0) a ∷ Read (rx_slot w (add32 x i) 1) g ∷ [] in
    granted_on w ReadWrite q (two ++ q) (frame_in (target_at ts j).frame) (back two q)
    (targets_grant w x o (i + 1) left q grants ts f e j (omega arith) (subst (λ m. takes_extra o m ≡ false) after d))

targets_count : (w : Vif) (x : ℕ) (o : RxOffload) (i left : ℕ) (p : List Event) (grants : Grants) (ts : List Target) → AreTargets w x o i left p grants ts → grants ≡ Passed → length ts ≡ left
targets_count w x o _ _ _ _ _ (all i) e = refl
targets_count w x o _ _ _ _ _ (refusing i left id p fault none f) e = cc
targets_count w x o _ _ _ _ _ (passing i left id frame p q grants ts none f a) e = ap suc (targets_count w x o (i + 1) left q grants ts a e)
targets_count w x o _ _ _ _ _ (for_extra i left a g q grants ts some la lg f) e = ap suc (targets_count w x o (i + 1) left q grants ts f e)

-- a page's slot is one of the packet's, and doesn't take the extra
slot_in : (extra moved : Bool) (page m : ℕ) → page < m → (if extra && moved then page + 1 else page) < (if extra then m + 1 else m)
slot_in false moved page m l = l
slot_in true true page m l = omega (arith, l)
slot_in true false page m l = omega (arith, l)

not_second : (moved : Bool) (page : ℕ) → nat_lt 0 page ≡ moved → (second : Bool) → ((if moved then page + 1 else page) == 1) ≡ second → second ≡ false
not_second moved page e false h = refl
not_second true page e true h = absurd (omega (arith, eqb-true (page + 1) 1 h, ltb-true 0 page e))
not_second false page e true h = absurd (omega (arith, eqb-true page 1 h, ltb-false 0 page e))

after_none : (m : ℕ) → m ≡ 0 + m
after_none m = omega arith

slot_for_page : (extra : Bool) (page : ℕ) → (extra && (if extra && nat_lt 0 page then page + 1 else page) == 1) ≡ false
slot_for_page false page = refl
slot_for_page true page = not_second (nat_lt 0 page) page refl ((if nat_lt 0 page then page + 1 else page) == 1) refl

of_fill : (w : Vif) (t : List Event) (o : RxOffload) (ts : List Target) (packet : List ℕ) (n k : ℕ) → ((j : ℕ) → j < k + n → IsGranted w ReadWrite t (frame_in (target_at ts (slot_of o (j / 1024))).frame)) → AllAllowed w t (buffer_writes o ts packet n k)
of_fill w t o ts packet zero k h = tt
of_fill w t o ts packet (suc n) k h =
    (buffer (frame_in (target_at ts (slot_of o (k / 1024))).frame) (k % 1024) (word_of packet k) (omega arith) (h k (omega arith)), of_fill w t o ts packet n (k + 1) (λ j l. h j (omega arith)))

of_rx_writes : (w : Vif) (t : List Event) (x : ℕ) (o : RxOffload) (packet : List ℕ) (grants : Grants) (n i : ℕ) (ts : List Target) → AllAllowed w t (rx_writes w x o packet grants n i ts)
of_rx_writes w t x o packet grants n i [] = tt
of_rx_writes w t x o packet grants n i (s ∷ ts) =
    (rx_response (add32 x i) 0 (response_word o grants packet n i s.id 0) (omega arith), (rx_response (add32 x i) 1 (response_word o grants packet n i s.id 1) (omega arith), of_rx_writes w t x o packet grants n (i + 1) ts))

of_rx_respond : (w : Vif) (t : List Event) (x : ℕ) (o : RxOffload) (packet : List ℕ) (grants : Grants) (ts : List Target) (p : List Event) → IsRxRespond w x o packet grants ts p → AllAllowed w t p
of_rx_respond w t x o packet grants ts p h =
    let q : List Event = Write (rx_word w 2) (add32 x (length ts)) ∷ Read (rx_word w 3) h.0 ∷ notices w (is_due x (add32 x (length ts)) h.0) in
    subst (λ l. AllAllowed w t l) (sym h.2)
    (append w t (rx_writes w x o packet grants (length ts) 0 ts) q (of_rx_writes w t x o packet grants (length ts) 0 ts)
    (pushed w.rx (add32 x (length ts)) (inr refl), (ring w.rx 3 h.0 (inr refl) (omega arith), of_notices w t (is_due x (add32 x (length ts)) h.0))))

page_of : (len k : ℕ) → k < (len + 3) / 4 → k / 1024 < (len + 4095) / 4096
page_of len k h = omega arith

pub of_transmit : (w : Vif) (x : ℕ) (o : RxOffload) (packet : List ℕ) (t : List Event) (out : TransmitOutcome) → IsTransmit w x o packet t out → AllAllowed w t t
of_transmit w x o packet _ _ (rx_overflow p l e) = (ring w.rx 0 p (inr refl) (omega arith), tt)
of_transmit w x o packet _ _ (too_few p m l e h) = (ring w.rx 0 p (inr refl) (omega arith), tt)
of_transmit w x o packet _ _ (refused p m p1 p2 ts l e le a r) =
    let t : List Event = Read (rx_word w 0) p ∷ (p1 ++ p2) in
    (ring w.rx 0 p (inr refl) (omega arith), append w t p1 p2 (of_targets w t x o 0 (slots o packet) p1 Refused ts a) (of_rx_respond w t x o packet Refused ts p2 r))
of_transmit w x o packet _ _ (sent p m p1 p2 ts l e le a r) =
    let fills = buffer_writes o ts packet (words packet) 0 in
    let q : List Event = fills ++ p2 in
    let t : List Event = Read (rx_word w 0) p ∷ (p1 ++ q) in
    let n : length ts ≡ slots o packet = targets_count w x o 0 (slots o packet) p1 Passed ts a refl in
    let on : Has p1 t = λ e f i. later (Read (rx_word w 0) p) (p1 ++ q) (front p1 q e f i) in (
      ring w.rx 0 p (inr refl) (omega arith),
      append w t p1 q (of_targets w t x o 0 (slots o packet) p1 Passed ts a)
          (append w t fills p2
          (of_fill w t o ts packet (words packet) 0 (λ j k. granted_on w ReadWrite p1 t (frame_in (target_at ts (slot_of o (j / 1024))).frame) on
          (targets_grant w x o 0 (slots o packet) p1 Passed ts a refl (slot_of o (j / 1024))
          (rw n (slot_in (has_extra o) (nat_lt 0 (j / 1024)) (j / 1024) (pages packet) (page_of (length packet) j (omega arith))))
          (subst (λ m. takes_extra o m ≡ false) (after_none (slot_of o (j / 1024))) (slot_for_page (has_extra o) (j / 1024))))))
          (of_rx_respond w t x o packet Passed ts p2 r)),
    )
