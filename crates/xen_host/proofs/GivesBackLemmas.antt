-- What a trace touches behind a push of responses.
use Rattle.std.proofs.Common.{◌≡◌, ℕ, zero, suc, ◌+◌, inl, inr, Bool, true, false, List, [], ◌∷◌, ◌++◌, Option, Some, None, Result, Ok, Err, length, map, refl, sym, ap, ◌∙◌, subst, append_assoc, append-nil}
use Rattle.std.specs.Prelude.{◌/◌}
use Rattle.bpf_note.specs.declared.op.Op.{Op}
use Rattle.bpf_note.specs.declared.op.Op.TheVariants as op
use Rattle.xen_netif.specs.Chain.{Slot}
use Rattle.xen_netif.specs.declared.fragment.Fragment.{Fragment}
use Rattle.xen_netif.specs.declared.offload.RxOffload.{RxOffload}
use Rattle.xen_netif.specs.declared.status.Status.{Status}
use Rattle.xen_page.specs.declared.fault.GrantFault.{GrantFault}
use Rattle.xen_page.specs.declared.place.Place.{Place}
use Rattle.xen_page.specs.declared.entry.Rights.{Rights}
use Rattle.xen_page.specs.declared.entry.Rights.TheVariants.{ReadOnly, ReadWrite}
use Rattle.xen_ring.specs.Index.{is_due}
use Rattle.xen_steps.specs.Event.{Event, Read, Write, Instr, Load, Add, Notify}
use Rattle.xen_steps.specs.Pages.{page_reads}
use Rattle.xen_steps.specs.Places.{add32}
use Rattle.xen_rx_fill.specs.Packets.{buffer_word, word_of, words}
use Rattle.xen_rx_fill.specs.Places.{rx_word, tx_word}
use Rattle.xen_rx_fill.specs.Sending.{AreTargets, IsPosted, IsRxRespond, IsTransmit, all, buffer_writes, for_extra, is_posted, passing, refused, refusing, rx_overflow, rx_writes, sent, too_few}
use Rattle.xen_rx_fill.specs.Shared.{IsEntry, inside, notices, outside}
use Rattle.xen_rx_fill.specs.declared.by_event.phase.TransmitOutcome.{TransmitOutcome}
use Rattle.xen_rx_fill.specs.declared.target.Grants.{Grants}
use Rattle.xen_rx_fill.specs.declared.target.Grants.TheVariants.{Passed, Refused}
use Rattle.xen_rx_fill.specs.declared.target.Target.{Target}
use Rattle.xen_rx_fill.specs.declared.vif.Vif.{Vif}
use Rattle.xen_turns.specs.Parts.{HasRead, IsCopy, IsLook, IsRespond, copied, denied, once, part, response_writes, slot_reads, slots_reads, twice}
use Rattle.xen_turns.specs.Program.{event_of}
use Rattle.xen_turns.specs.Responses.{Left, responses}
use Rattle.xen_turns.specs.Turns.{HasRun}
use Rattle.xen_turns.specs.declared.state.State.{State}
use Rattle.xen_turns.specs.declared.wiring.Wiring.{Wiring}
use Rattle.xen_host.specs.GivesBack.{AllOfRings, GivesBack, HasPushed, IsPush}

-- ---- parts that write nothing

-- nothing is written
abbrev pub IsCalm : List Event → Type 0
IsCalm [] = Unit {0}
IsCalm (Write at v ∷ t) = ⊥
IsCalm (e ∷ t) = IsCalm t

calm_append : (t u : List Event) → IsCalm t → IsCalm u → IsCalm (t ++ u)
calm_append [] u h k = k
calm_append (Read at v ∷ t) u h k = calm_append t u h k
calm_append (Write at v ∷ t) u h k = absurd h
calm_append (Instr ∷ t) u h k = calm_append t u h k
calm_append (Load m i j v ∷ t) u h k = calm_append t u h k
calm_append (Add m i j delta old ∷ t) u h k = calm_append t u h k
calm_append (Notify port ∷ t) u h k = calm_append t u h k

-- no push begins with this event
behind_one : (w : Vif) (e : Event) (t : List Event) → ((f : Event) → IsPush e f → ⊥) → GivesBack w t → GivesBack w (e ∷ t)
behind_one w e [] n h = tt
behind_one w e (f ∷ t) n h = (λ p. absurd (n f p), h)

pub behind_calm : (w : Vif) (t u : List Event) → IsCalm t → GivesBack w u → GivesBack w (t ++ u)
behind_calm w [] u c h = h
behind_calm w (Read at v ∷ t) u c h = behind_one w (Read at v) (t ++ u) (λ f p. p) (behind_calm w t u c h)
behind_calm w (Write at v ∷ t) u c h = absurd c
behind_calm w (Instr ∷ t) u c h = behind_one w Instr (t ++ u) (λ f p. p) (behind_calm w t u c h)
behind_calm w (Load m i j v ∷ t) u c h = behind_one w (Load m i j v) (t ++ u) (λ f p. p) (behind_calm w t u c h)
behind_calm w (Add m i j delta old ∷ t) u c h = behind_one w (Add m i j delta old) (t ++ u) (λ f p. p) (behind_calm w t u c h)
behind_calm w (Notify port ∷ t) u c h = behind_one w (Notify port) (t ++ u) (λ f p. p) (behind_calm w t u c h)

calm_entry : (w : Vif) (rights : Rights) (gref : ℕ) (t : List Event) (r : Result ℕ GrantFault) → IsEntry w rights gref t r → IsCalm t
calm_entry w rights gref _ _ (outside e) = tt
calm_entry w rights gref _ _ (inside at a b e k l) = tt

calm_page : (frame place : ℕ) (vs : List ℕ) → IsCalm (page_reads frame place vs)
calm_page frame place [] = tt
calm_page frame place (v ∷ vs) = calm_page frame (place + 1) vs

calm_copy : (w : Wiring) (fs : List Fragment) (t : List Event) (o : Option (List ℕ)) → IsCopy w fs t o → IsCalm t
calm_copy w _ _ _ copied = tt
calm_copy w _ _ _ (denied f fs t fault e) = calm_entry w.vif ReadOnly f.gref t (Err fault) e
calm_copy w _ _ _ (part f fs t u frame vs out e l b c) =
    let reads = page_reads frame (f.offset / 4) vs in
    calm_append t (reads ++ u) (calm_entry w.vif ReadOnly f.gref t (Ok frame) e) (calm_append reads u (calm_page frame (f.offset / 4) vs) (calm_copy w fs u out c))

calm_slot : (w : Wiring) (i : ℕ) (s : Slot) → IsCalm (slot_reads w i s)
calm_slot w i [] = tt
calm_slot w i (a ∷ []) = tt
calm_slot w i (a ∷ b ∷ []) = tt
calm_slot w i (a ∷ b ∷ c ∷ []) = tt
calm_slot w i (a ∷ b ∷ c ∷ d ∷ s) = tt

calm_slots : (w : Wiring) (x i : ℕ) (slots : List Slot) → IsCalm (slots_reads w x i slots)
calm_slots w x i [] = tt
calm_slots w x i (s ∷ slots) = calm_append (slot_reads w (add32 x i) s) (slots_reads w x (i + 1) slots) (calm_slot w (add32 x i) s) (calm_slots w x (i + 1) slots)

calm_program : (labels : List (Option Op)) → IsCalm (map event_of labels)
calm_program [] = tt
calm_program (None ∷ labels) = calm_program labels
calm_program (Some (op.Load m k j v) ∷ labels) = calm_program labels
calm_program (Some (op.Add m k j delta old) ∷ labels) = calm_program labels

calm_posted : (w : Vif) (i : ℕ) (t : List Event) (id : ℕ) (r : Result ℕ GrantFault) → IsPosted w i t id r → IsCalm t
calm_posted w i _ _ _ (is_posted a g t r k l e) = calm_entry w ReadWrite _ t r e

calm_targets : (w : Vif) (x : ℕ) (o : RxOffload) (i left : ℕ) (t : List Event) (grants : Grants) (ts : List Target) → AreTargets w x o i left t grants ts → IsCalm t
calm_targets w x o _ _ _ _ _ (all i) = tt
calm_targets w x o _ _ _ _ _ (refusing i left id t fault none h) = calm_posted w (add32 x i) t id (Err fault) h
calm_targets w x o _ _ _ _ _ (passing i left id frame t u grants ts none h more) =
    calm_append t u (calm_posted w (add32 x i) t id (Ok frame) h) (calm_targets w x o (i + 1) left u grants ts more)
calm_targets w x o _ _ _ _ _ (for_extra i left a g u grants ts some k l more) = calm_targets w x o (i + 1) left u grants ts more

-- ---- parts of the rings alone

rings_append : (w : Vif) (t u : List Event) → AllOfRings w t → AllOfRings w u → AllOfRings w (t ++ u)
rings_append w [] u h k = k
rings_append w (e ∷ t) u h k = (h.0, rings_append w t u h.1 k)

pub of_rings : (w : Vif) (t : List Event) → AllOfRings w t → GivesBack w t
of_rings w [] h = tt
of_rings w (e ∷ []) h = tt
of_rings w (e ∷ f ∷ t) h = (λ p. h.1.1, of_rings w (f ∷ t) h.1)

of_notices : (w : Vif) (due : Bool) → AllOfRings w (notices w due)
of_notices w true = (tt, tt)
of_notices w false = tt

of_responses : (w : Wiring) (x i : ℕ) (rs : List ℕ) → AllOfRings w.vif (response_writes w x i rs)
of_responses w x i [] = tt
of_responses w x i (r ∷ rs) = (inl refl, of_responses w x (i + 1) rs)

pub of_respond : (w : Wiring) (x : ℕ) (slots : List Slot) (st : Status) (t : List Event) → IsRespond w x slots st t → AllOfRings w.vif t
of_respond w x slots st t h =
    subst (λ l. AllOfRings w.vif l) (sym h.2)
    (rings_append w.vif (response_writes w x 0 (responses st slots)) _ (of_responses w x 0 (responses st slots)) (inl refl, (inl refl, of_notices w.vif (is_due x (add32 x (length slots)) h.0))))

of_replies : (w : Vif) (x : ℕ) (o : RxOffload) (packet : List ℕ) (grants : Grants) (n i : ℕ) (ts : List Target) → AllOfRings w (rx_writes w x o packet grants n i ts)
of_replies w x o packet grants n i [] = tt
of_replies w x o packet grants n i (t ∷ ts) = (inr refl, (inr refl, of_replies w x o packet grants n (i + 1) ts))

of_rx_respond : (w : Vif) (x : ℕ) (o : RxOffload) (packet : List ℕ) (grants : Grants) (ts : List Target) (t : List Event) → IsRxRespond w x o packet grants ts t → AllOfRings w t
of_rx_respond w x o packet grants ts t h =
    subst (λ l. AllOfRings w l) (sym h.2)
    (rings_append w (rx_writes w x o packet grants (length ts) 0 ts) _ (of_replies w x o packet grants (length ts) 0 ts) (inr refl, (inr refl, of_notices w (is_due x (add32 x (length ts)) h.0))))

-- ---- the words of a packet, behind which responses are written

abbrev pub BeginsWithWrite : List Event → Type 0
BeginsWithWrite (Write at v ∷ t) = Unit {0}
BeginsWithWrite t = ⊥

before_write : (w : Vif) (at : Place) (v : ℕ) (t : List Event) → BeginsWithWrite t → GivesBack w t → GivesBack w (Write at v ∷ t)
before_write w at v [] b h = absurd b
before_write w at v (Read from a ∷ t) b h = absurd b
before_write w at v (Write to x ∷ t) b h = (λ p. absurd p, h)
before_write w at v (Instr ∷ t) b h = absurd b
before_write w at v (Load m i j x ∷ t) b h = absurd b
before_write w at v (Add m i j delta old ∷ t) b h = absurd b
before_write w at v (Notify port ∷ t) b h = absurd b

buffers_begin : (o : RxOffload) (ts : List Target) (packet : List ℕ) (n k : ℕ) (u : List Event) → BeginsWithWrite u → BeginsWithWrite (buffer_writes o ts packet n k ++ u)
buffers_begin o ts packet zero k u b = b
buffers_begin o ts packet (suc n) k u b = tt

behind_buffers : (w : Vif) (o : RxOffload) (ts : List Target) (packet : List ℕ) (n k : ℕ) (u : List Event) → BeginsWithWrite u → GivesBack w u → GivesBack w (buffer_writes o ts packet n k ++ u)
behind_buffers w o ts packet zero k u b h = h
behind_buffers w o ts packet (suc n) k u b h =
    before_write w (buffer_word o ts k) (word_of packet k) (buffer_writes o ts packet n (k + 1) ++ u) (buffers_begin o ts packet n (k + 1) u b) (behind_buffers w o ts packet n (k + 1) u b h)

rx_begins : (w : Vif) (x : ℕ) (o : RxOffload) (packet : List ℕ) (grants : Grants) (ts : List Target) (t u : List Event) → IsRxRespond w x o packet grants ts t → BeginsWithWrite (t ++ u)
rx_begins w x o packet grants [] t u h = subst (λ l. BeginsWithWrite (l ++ u)) (sym h.2) tt
rx_begins w x o packet grants (s ∷ ts) t u h = subst (λ l. BeginsWithWrite (l ++ u)) (sym h.2) tt

-- ---- the parts of a turn

pub behind_look : (w : Wiring) (x : ℕ) (t : List Event) (o : Option ℕ) (u : List Event) → IsLook w x t o → GivesBack w.vif u → GivesBack w.vif (t ++ u)
behind_look w x _ _ u (once p l n) h = behind_calm w.vif (Read (tx_word w.vif 0) p ∷ []) u tt h
behind_look w x _ _ u (twice p q l m e) h =
    let again : GivesBack w.vif (Read (tx_word w.vif 0) q ∷ u) = behind_calm w.vif (Read (tx_word w.vif 0) q ∷ []) u tt h in
    let announced : GivesBack w.vif (Write (tx_word w.vif 1) (add32 x 1) ∷ Read (tx_word w.vif 0) q ∷ u) = (λ k. cc k.0, again) in
    behind_one w.vif (Read (tx_word w.vif 0) p) (Write (tx_word w.vif 1) (add32 x 1) ∷ Read (tx_word w.vif 0) q ∷ u) (λ f k. k) announced

pub behind_read : (w : Wiring) (s : State) (n : ℕ) (t1 t2 : List Event) (slots : List Slot) (u : List Event) → HasRead w s n t1 t2 slots → GivesBack w.vif u → GivesBack w.vif (t1 ++ (t2 ++ u))
behind_read w s n t1 t2 slots u r h =
    behind_look w s.tx_index t1 (Some n) (t2 ++ u) r.look
    (behind_calm w.vif t2 u (subst IsCalm (sym r.read.reads) (calm_slots w s.tx_index 0 slots)) h)

pub behind_copy : (w : Wiring) (fs : List Fragment) (t : List Event) (o : Option (List ℕ)) (u : List Event) → IsCopy w fs t o → GivesBack w.vif u → GivesBack w.vif (t ++ u)
behind_copy w fs t o u c h = behind_calm w.vif t u (calm_copy w fs t o c) h

pub behind_run : (w : Wiring) (s : State) (t : List Event) (slots : List Slot) (out : Left) (u : List Event) → HasRun w s t slots out → GivesBack w.vif u → GivesBack w.vif (t ++ u)
behind_run w s t slots out u r h =
    let ran : GivesBack w.vif (r.runs ++ u) = behind_calm w.vif r.runs u (subst IsCalm (sym r.ran.events) (calm_program r.ran.labels)) h in
    let all = behind_read w s r.n r.looks r.reads slots (r.copies ++ (r.runs ++ u)) r.read (behind_copy w r.fragments r.copies (Some r.packet) (r.runs ++ u) r.copied ran) in
    subst (λ (l : List Event). GivesBack w.vif l) (apart r.looks r.reads r.copies r.runs ∙ ap (λ l. l ++ u) (sym r.joined)) all
  where
    apart : (p1 p2 p3 p4 : List Event) → (p1 ++ (p2 ++ (p3 ++ (p4 ++ u)))) ≡ (p1 ++ (p2 ++ (p3 ++ p4))) ++ u
    apart p1 p2 p3 p4 =
        ap (λ l. p1 ++ (p2 ++ l)) (sym (append_assoc p3 p4 u)) ∙ ap (λ l. p1 ++ l) (sym (append_assoc p2 (p3 ++ p4) u)) ∙ sym (append_assoc p1 (p2 ++ (p3 ++ p4)) u)

pub behind_transmit : (w : Vif) (x : ℕ) (o : RxOffload) (packet : List ℕ) (t : List Event) (out : TransmitOutcome) (u : List Event) → IsTransmit w x o packet t out → AllOfRings w u → GivesBack w (t ++ u)
behind_transmit w x o packet _ _ u (rx_overflow p l e) h = behind_one w (Read (rx_word w 0) p) u (λ f k. k) (of_rings w u h)
behind_transmit w x o packet _ _ u (too_few p m l e f) h = behind_one w (Read (rx_word w 0) p) u (λ f k. k) (of_rings w u h)
behind_transmit w x o packet _ _ u (refused p m p1 p2 ts l e f a r) h =
    behind_one w (Read (rx_word w 0) p) ((p1 ++ p2) ++ u) (λ f k. k)
    (subst (λ (l : List Event). GivesBack w l) (sym (append_assoc p1 p2 u))
    (behind_calm w p1 (p2 ++ u) (calm_targets w x o 0 _ p1 Refused ts a) (of_rings w (p2 ++ u) (rings_append w p2 u (of_rx_respond w x o packet Refused ts p2 r) h))))
behind_transmit w x o packet _ _ u (sent p m p1 p2 ts l e f a r) h =
    let filled = buffer_writes o ts packet (words packet) 0 in
    let rest = behind_buffers w o ts packet (words packet) 0 (p2 ++ u) (rx_begins w x o packet Passed ts p2 u r) (of_rings w (p2 ++ u) (rings_append w p2 u (of_rx_respond w x o packet Passed ts p2 r) h)) in
    behind_one w (Read (rx_word w 0) p) ((p1 ++ (filled ++ p2)) ++ u) (λ f k. k)
    (subst (λ (l : List Event). GivesBack w l) (sym (append_assoc p1 (filled ++ p2) u ∙ ap (λ l. p1 ++ l) (append_assoc filled p2 u)))
    (behind_calm w p1 (filled ++ (p2 ++ u)) (calm_targets w x o 0 _ p1 Passed ts a) rest))

pub all_of : (w : Vif) (t : List Event) → GivesBack w (t ++ []) → GivesBack w t
all_of w t h = subst (λ (l : List Event). GivesBack w l) (append-nil t) h

-- ---- that responses are pushed

pub pushed_behind : (ring index : ℕ) (t u : List Event) → HasPushed ring index u → HasPushed ring index (t ++ u)
pushed_behind ring index t u h =
    record { before = t ++ h.before; event = h.event; after = h.after; joined = ap (λ l. t ++ l) h.joined ∙ sym (append_assoc t h.before _) }

pub pushed_respond : (w : Wiring) (x : ℕ) (slots : List Slot) (st : Status) (t : List Event) → IsRespond w x slots st t → HasPushed w.vif.tx (add32 x (length slots)) t
pushed_respond w x slots st t h = record { before = response_writes w x 0 (responses st slots); event = h.0; after = notices w.vif (is_due x (add32 x (length slots)) h.0); joined = h.2 }

pub pushed_rx : (w : Vif) (x : ℕ) (o : RxOffload) (packet : List ℕ) (grants : Grants) (ts : List Target) (t : List Event) → IsRxRespond w x o packet grants ts t → HasPushed w.rx (add32 x (length ts)) t
pushed_rx w x o packet grants ts t h = record { before = rx_writes w x o packet grants (length ts) 0 ts; event = h.0; after = notices w (is_due x (add32 x (length ts)) h.0); joined = h.2 }
