-- How many accesses a transmit makes at most.
use Rattle.xen_steps.proofs.FigureLemmas.{HasAtMost, most_append}
use Rattle.std.proofs.Common.{◌≡◌, ℕ, zero, suc, ◌+◌, ◌*◌, ◌≤◌, Bool, true, false, List, [], ◌∷◌, ◌++◌, Result, Ok, Err, refl, sym, subst, ◌∙◌, ap, length, arith}
use Rattle.xen_netif.specs.Offloads.{has_extra}
use Rattle.xen_netif.specs.declared.offload.RxOffload.{RxOffload}
use Rattle.xen_netif.specs.declared.offload.RxOffload.TheVariants.{Whole, Validated, Blank, Segmented}
use Rattle.xen_netif.specs.declared.segments.Segments.{Segments}
use Rattle.xen_page.specs.declared.fault.GrantFault.{GrantFault}
use Rattle.xen_page.specs.declared.entry.Rights.{Rights}
use Rattle.xen_page.specs.declared.entry.Rights.TheVariants.{ReadWrite}
use Rattle.xen_ring.specs.Index.{is_due}
use Rattle.xen_steps.specs.Drive.{accesses}
use Rattle.xen_steps.specs.Event.{Event, Read, Write, Instr, Load, Add, Notify}
use Rattle.xen_steps.specs.Places.{add32}
use Rattle.xen_rx_fill.specs.Packets.{pages, slots, takes_extra, words}
use Rattle.xen_rx_fill.specs.Places.{rx_word}
use Rattle.xen_rx_fill.specs.Sending.{IsPosted, is_posted, AreTargets, all, refusing, passing, for_extra, buffer_writes, rx_writes, IsRxRespond, IsTransmit, rx_overflow, too_few, refused, sent}
use Rattle.xen_rx_fill.specs.Shared.{IsEntry, outside, inside, notices}
use Rattle.xen_rx_fill.specs.declared.by_event.phase.TransmitOutcome.{TransmitOutcome}
use Rattle.xen_rx_fill.specs.declared.target.Grants.{Grants}
use Rattle.xen_rx_fill.specs.declared.target.Grants.TheVariants.{Passed, Refused}
use Rattle.xen_rx_fill.specs.declared.target.Target.{Target}
use Rattle.xen_rx_fill.specs.declared.vif.Vif.{Vif}

abbrev pub n : List Event → ℕ
n p = length (accesses p)

pub n_append : (p q : List Event) → n (p ++ q) ≡ n p + n q
n_append [] q = omega arith
n_append (Read at v ∷ p) q = omega (arith, n_append p q)
n_append (Write at v ∷ p) q = omega (arith, n_append p q)
n_append (Instr ∷ p) q = n_append p q
n_append (Load m k j v ∷ p) q = n_append p q
n_append (Add m k j d o ∷ p) q = n_append p q
n_append (Notify port ∷ p) q = n_append p q

pub n_notices : (w : Vif) (b : Bool) → n (notices w b) ≡ 0
n_notices w false = refl
n_notices w true = refl

pub n_entry : (w : Vif) (rights : Rights) (gref : ℕ) (p : List Event) (r : Result ℕ GrantFault) → IsEntry w rights gref p r → n p ≤ 2
n_entry w rights gref _ _ (outside e) = omega arith
n_entry w rights gref _ _ (inside at a b e la lb) = omega arith

n_posted : (w : Vif) (i : ℕ) (p : List Event) (id : ℕ) (r : Result ℕ GrantFault) → IsPosted w i p id r → n p ≤ 4
n_posted w i _ _ _ (is_posted a g p r la lg e) = omega (arith, n_entry w ReadWrite g p r e)

n_targets : (w : Vif) (x : ℕ) (o : RxOffload) (i left : ℕ) (p : List Event) (grants : Grants) (ts : List Target) → AreTargets w x o i left p grants ts → (n p ≤ 4 * left) × (length ts ≤ left)
n_targets w x o _ _ _ _ _ (all i) = (omega arith, omega arith)
n_targets w x o _ _ _ _ _ (refusing i left id p fault none f) = (omega (arith, n_posted w (add32 x i) p id (Err fault) f), omega arith)
n_targets w x o _ _ _ _ _ (passing i left id frame p q grants ts none f a) =
    let r = n_targets w x o (i + 1) left q grants ts a in
    (omega (arith, r.0, n_append p q, n_posted w (add32 x i) p id (Ok frame) f), omega (arith, r.1))
n_targets w x o _ _ _ _ _ (for_extra i left a g q grants ts some la lg f) =
    let r = n_targets w x o (i + 1) left q grants ts f in
    (omega (arith, r.0), omega (arith, r.1))

-- the slot for the extra has no entry
not_second : (s : Segments) (i : ℕ) → i ≡ 1 → takes_extra (Segmented s) i ≡ false → ⊥
not_second s i e none = let no : true ≡ false = subst (λ j. takes_extra (Segmented s) j ≡ false) e none in cc

not_first : (s : Segments) (i : ℕ) → i ≡ 0 → takes_extra (Segmented s) i ≡ true → ⊥
not_first s i e some = let no : false ≡ true = subst (λ j. takes_extra (Segmented s) j ≡ true) e some in cc

n_second : (w : Vif) (x : ℕ) (s : Segments) (i left : ℕ) (p : List Event) (grants : Grants) (ts : List Target) → AreTargets w x (Segmented s) i left p grants ts → i ≡ 1 → 1 ≤ left → n p + 2 ≤ 4 * left
n_second w x s _ _ _ _ _ (all i) e l = absurd (omega arith)
n_second w x s _ _ _ _ _ (refusing i left id p fault none f) e l = absurd (not_second s i e none)
n_second w x s _ _ _ _ _ (passing i left id frame p q grants ts none f a) e l = absurd (not_second s i e none)
n_second w x s _ _ _ _ _ (for_extra i left a g q grants ts some la lg f) e l =
    let r = n_targets w x (Segmented s) (i + 1) left q grants ts f in omega (arith, r.0)

n_first : (w : Vif) (x : ℕ) (s : Segments) (i left : ℕ) (p : List Event) (grants : Grants) (ts : List Target) → AreTargets w x (Segmented s) i left p grants ts → i ≡ 0 → 2 ≤ left → n p + 2 ≤ 4 * left
n_first w x s _ _ _ _ _ (all i) e l = absurd (omega arith)
n_first w x s _ _ _ _ _ (refusing i left id p fault none f) e l = omega (arith, l, n_posted w (add32 x i) p id (Err fault) f)
n_first w x s _ _ _ _ _ (passing i left id frame p q grants ts none f a) e l =
    let later : 1 ≤ left = omega (arith, l) in
    let r = n_second w x s (i + 1) left q grants ts a (ap (λ j. j + 1) e) later in
    omega (arith, r, n_append p q, n_posted w (add32 x i) p id (Ok frame) f)
n_first w x s _ _ _ _ _ (for_extra i left a g q grants ts some la lg f) e l = absurd (not_first s i e some)

n_fill : (o : RxOffload) (ts : List Target) (packet : List ℕ) (m k : ℕ) → n (buffer_writes o ts packet m k) ≡ m
n_fill o ts packet zero k = refl
n_fill o ts packet (suc m) k = ap suc (n_fill o ts packet m (k + 1))

n_rx_writes : (w : Vif) (x : ℕ) (o : RxOffload) (packet : List ℕ) (grants : Grants) (m i : ℕ) (ts : List Target) → n (rx_writes w x o packet grants m i ts) ≡ 2 * length ts
n_rx_writes w x o packet grants m i [] = refl
n_rx_writes w x o packet grants m i (t ∷ ts) = omega (arith, n_rx_writes w x o packet grants m (i + 1) ts)

n_rx_respond : (w : Vif) (x : ℕ) (o : RxOffload) (packet : List ℕ) (grants : Grants) (ts : List Target) (p : List Event) → IsRxRespond w x o packet grants ts p → n p ≡ 2 * length ts + 2
n_rx_respond w x o packet grants ts p h =
    let q : List Event = Write (rx_word w 2) (add32 x (length ts)) ∷ Read (rx_word w 3) h.0 ∷ notices w (is_due x (add32 x (length ts)) h.0) in
    let two : n q ≡ 2 = ap (λ k. suc (suc k)) (n_notices w (is_due x (add32 x (length ts)) h.0)) in
    ap n h.2 ∙ n_append (rx_writes w x o packet grants (length ts) 0 ts) q ∙ ap (λ k. k + n q) (n_rx_writes w x o packet grants (length ts) 0 ts) ∙ ap (λ k. 2 * length ts + k) two

-- one for the extra
abbrev pub extras : Bool → ℕ
extras true = 1
extras false = 0

-- What reading the slots takes.
record IsReading (p : List Event) (ts : List Target) (extra : ℕ) : Type 0 where
  pub reads : n p ≤ 64 + 2 * extra
  pub few : length ts ≤ 16 + extra

n_plain : (w : Vif) (x : ℕ) (o : RxOffload) (packet : List ℕ) (p : List Event) (grants : Grants) (ts : List Target) → length packet ≤ 65535 →
    AreTargets w x o 0 (pages packet) p grants ts → IsReading p ts 0
n_plain w x o packet p grants ts s a = let r = n_targets w x o 0 (pages packet) p grants ts a in record { reads = omega (arith, r.0); few = omega (arith, r.1) }

n_extra : (w : Vif) (x : ℕ) (s : Segments) (m : ℕ) (p : List Event) (grants : Grants) (ts : List Target) → m ≤ 16 → AreTargets w x (Segmented s) 0 (m + 1) p grants ts → IsReading p ts 1
n_extra w x s zero p grants ts l a = let r = n_targets w x (Segmented s) 0 1 p grants ts a in record { reads = omega (arith, r.0); few = omega (arith, r.1) }
n_extra w x s (suc m) p grants ts l a =
    let r = n_targets w x (Segmented s) 0 (suc m + 1) p grants ts a in
    let f = n_first w x s 0 (suc m + 1) p grants ts a refl (omega arith) in
    record { reads = omega (arith, f); few = omega (arith, r.1) }

n_reading : (w : Vif) (x : ℕ) (o : RxOffload) (packet : List ℕ) (p : List Event) (grants : Grants) (ts : List Target) → length packet ≤ 65535 → AreTargets w x o 0 (slots o packet) p grants ts →
    IsReading p ts (extras (has_extra o))
n_reading w x Whole packet p grants ts s a = n_plain w x Whole packet p grants ts s a
n_reading w x Validated packet p grants ts s a = n_plain w x Validated packet p grants ts s a
n_reading w x Blank packet p grants ts s a = n_plain w x Blank packet p grants ts s a
n_reading w x (Segmented g) packet p grants ts s a = n_extra w x g (pages packet) p grants ts (omega (arith, s)) a

pub n_transmit : (w : Vif) (x : ℕ) (o : RxOffload) (packet : List ℕ) (p : List Event) (out : TransmitOutcome) → length packet ≤ 65535 → IsTransmit w x o packet p out →
    n p ≤ 16483 + 4 * extras (has_extra o)
n_transmit w x o packet _ _ s (rx_overflow p l e) = omega arith
n_transmit w x o packet _ _ s (too_few p m l e h) = omega arith
n_transmit w x o packet _ _ s (refused p m p1 p2 ts l e le a r) =
    let c = n_reading w x o packet p1 Refused ts s a in
    omega (arith, c.reads, c.few, n_append p1 p2, n_rx_respond w x o packet Refused ts p2 r)
n_transmit w x o packet _ _ s (sent p m p1 p2 ts l e le a r) =
    let c = n_reading w x o packet p1 Passed ts s a in
    let q : List Event = buffer_writes o ts packet (words packet) 0 ++ p2 in
    let short : words packet ≤ 16384 = omega (arith, s) in
    omega (arith, c.reads, c.few, short, n_append p1 q, n_append (buffer_writes o ts packet (words packet) 0) p2, n_fill o ts packet (words packet) 0, n_rx_respond w x o packet Passed ts p2 r)

-- with an extra or not
pub n_any : (b : Bool) (k : ℕ) → k ≤ 16483 + 4 * extras b → k ≤ 16487
n_any true k h = omega (arith, h)
n_any false k h = omega (arith, h)

pub n_none : (b : Bool) (k : ℕ) → b ≡ false → k ≤ 16483 + 4 * extras b → k ≤ 16483
n_none true k e h = cc
n_none false k e h = omega (arith, h)

-- no instruction, and at most one notice
pub most_notices : (w : Vif) (due : Bool) → HasAtMost (notices w due) 0 1
most_notices w false = record { steps = omega arith; told = omega arith }
most_notices w true = record { steps = omega arith; told = omega arith }

pub most_entry : (w : Vif) (rights : Rights) (gref : ℕ) (p : List Event) (r : Result ℕ GrantFault) → IsEntry w rights gref p r → HasAtMost p 0 0
most_entry w rights gref _ _ (outside e) = record { steps = omega arith; told = omega arith }
most_entry w rights gref _ _ (inside at a b e la lb) = record { steps = omega arith; told = omega arith }

most_posted : (w : Vif) (i : ℕ) (p : List Event) (id : ℕ) (r : Result ℕ GrantFault) → IsPosted w i p id r → HasAtMost p 0 0
most_posted w i _ _ _ (is_posted a g p r la lg e) = let h = most_entry w ReadWrite _ p r e in record { steps = h.steps; told = h.told }

most_targets : (w : Vif) (x : ℕ) (o : RxOffload) (i left : ℕ) (p : List Event) (grants : Grants) (ts : List Target) → AreTargets w x o i left p grants ts → HasAtMost p 0 0
most_targets w x o _ _ _ _ _ (all i) = record { steps = omega arith; told = omega arith }
most_targets w x o _ _ _ _ _ (refusing i left id p fault none f) = most_posted w (add32 x i) p id (Err fault) f
most_targets w x o _ _ _ _ _ (passing i left id frame p q grants ts none f a) =
    most_append p q 0 0 0 0 (most_posted w (add32 x i) p id (Ok frame) f) (most_targets w x o (i + 1) left q grants ts a)
most_targets w x o _ _ _ _ _ (for_extra i left a g q grants ts some la lg f) =
    let h = most_targets w x o (i + 1) left q grants ts f in record { steps = h.steps; told = h.told }

most_fill : (o : RxOffload) (ts : List Target) (packet : List ℕ) (m k : ℕ) → HasAtMost (buffer_writes o ts packet m k) 0 0
most_fill o ts packet zero k = record { steps = omega arith; told = omega arith }
most_fill o ts packet (suc m) k = let h = most_fill o ts packet m (k + 1) in record { steps = h.steps; told = h.told }

most_rx_writes : (w : Vif) (x : ℕ) (o : RxOffload) (packet : List ℕ) (grants : Grants) (m i : ℕ) (ts : List Target) → HasAtMost (rx_writes w x o packet grants m i ts) 0 0
most_rx_writes w x o packet grants m i [] = record { steps = omega arith; told = omega arith }
most_rx_writes w x o packet grants m i (t ∷ ts) = let h = most_rx_writes w x o packet grants m (i + 1) ts in record { steps = h.steps; told = h.told }

most_rx_respond : (w : Vif) (x : ℕ) (o : RxOffload) (packet : List ℕ) (grants : Grants) (ts : List Target) (p : List Event) → IsRxRespond w x o packet grants ts p → HasAtMost p 0 1
most_rx_respond w x o packet grants ts p h =
    let due = is_due x (add32 x (length ts)) h.0 in
    let q : List Event = Write (rx_word w 2) (add32 x (length ts)) ∷ Read (rx_word w 3) h.0 ∷ notices w due in
    let told = most_notices w due in
    let last : HasAtMost q 0 1 = record { steps = told.steps; told = told.told } in
    subst (λ l. HasAtMost l 0 1) (sym h.2) (most_append (rx_writes w x o packet grants (length ts) 0 ts) q 0 0 0 1 (most_rx_writes w x o packet grants (length ts) 0 ts) last)

most_after : (w : Vif) (v : ℕ) (p : List Event) → HasAtMost p 0 1 → HasAtMost (Read (rx_word w 0) v ∷ p) 0 1
most_after w v p h = record { steps = h.steps; told = h.told }

pub most_transmit : (w : Vif) (x : ℕ) (o : RxOffload) (packet : List ℕ) (p : List Event) (out : TransmitOutcome) → IsTransmit w x o packet p out → HasAtMost p 0 1
most_transmit w x o packet _ _ (rx_overflow p l e) = record { steps = omega arith; told = omega arith }
most_transmit w x o packet _ _ (too_few p m l e h) = record { steps = omega arith; told = omega arith }
most_transmit w x o packet _ _ (refused p m p1 p2 ts l e le a r) =
    most_after w p (p1 ++ p2) (most_append p1 p2 0 0 0 1 (most_targets w x o 0 (slots o packet) p1 Refused ts a) (most_rx_respond w x o packet Refused ts p2 r))
most_transmit w x o packet _ _ (sent p m p1 p2 ts l e le a r) =
    let fills = buffer_writes o ts packet (words packet) 0 in
    most_after w p (p1 ++ (fills ++ p2)) (most_append p1 (fills ++ p2) 0 0 0 1 (most_targets w x o 0 (slots o packet) p1 Passed ts a)
    (most_append fills p2 0 0 0 1 (most_fill o ts packet (words packet) 0) (most_rx_respond w x o packet Passed ts p2 r)))
