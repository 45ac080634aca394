-- The places that a turn touches.
use Rattle.bpf_note.specs.declared.op.Op.TheVariants as op
use Rattle.xen_netif.specs.declared.offload.RxOffload.TheVariants.{Whole}
use Rattle.xen_rx_fill.proofs.TouchedLemmas.{front, back, granted_on, all_on, append, both, of_notices, of_entry, grants_by, of_transmit}
use Rattle.std.proofs.Common.{ℕ, ◌+◌, ◌*◌, ◌/◌, ◌%◌, ◌≤◌, List, [], ◌∷◌, ◌++◌, Option, Some, None, Ok, Err, refl, sym, length, map, arith, subst, inl}
use Rattle.bpf_note.specs.declared.op.Op.{Op}
use Rattle.xen_netif.specs.Chain.{Slot}
use Rattle.xen_netif.specs.declared.fragment.Fragment.{Fragment}
use Rattle.xen_netif.specs.declared.status.Status.{Status}
use Rattle.xen_netif.specs.declared.status.Status.TheVariants.{Okay, Error}
use Rattle.xen_ring.specs.Index.{is_due}
use Rattle.xen_steps.specs.Event.{Event, Read, Write}
use Rattle.xen_turns.specs.Parts.{IsLook, once, twice, slot_reads, slots_reads, IsCopy, copied, denied, part, response_writes, IsRespond, HasRead}
use Rattle.xen_rx_fill.specs.Shared.{notices}
use Rattle.xen_steps.specs.Pages.{page_reads}
use Rattle.xen_steps.specs.Places.{add32}
use Rattle.xen_rx_fill.specs.Places.{tx_word}
use Rattle.xen_turns.specs.Program.{event_of}
use Rattle.xen_rx_fill.specs.Touched.{IsGranted, ring, source, tx_response, pushed, announced, instruction, loaded, added, AllAllowed}
use Rattle.xen_turns.specs.Tree.{Left, responses, status_of}
use Rattle.xen_turns.specs.Turned.{Turned}
use Rattle.xen_turns.specs.Turns.{HasRun, IsTurn, still_halted, idle, overflown, short, broken, refused_sizes, refused_grant, ran, halted_rx, refused_few, refused_rx, ran_tx}
use Rattle.xen_turns.specs.declared.state.State.{State}
use Rattle.xen_turns.specs.declared.wiring.Wiring.{Wiring}
use Rattle.xen_turns.proofs.Bounds.{AllInPage, covered_inside, fragments_are}
use Rattle.xen_page.specs.declared.entry.Rights.TheVariants.{ReadOnly}

-- of the tx ring
of_look : (w : Wiring) (t : ℕ) (p : List Event) (o : Option ℕ) → IsLook w t p o → AllAllowed w.vif p p
of_look w t _ _ (once p l h) = (ring w.vif.tx 0 p (inl refl) (omega arith), tt)
of_look w t _ _ (twice p q l m e) = (ring w.vif.tx 0 p (inl refl) (omega arith), (announced (add32 t 1), (ring w.vif.tx 0 q (inl refl) (omega arith), tt)))

of_slot : (w : Wiring) (t : List Event) (i : ℕ) (s : Slot) → AllAllowed w.vif t (slot_reads w i s)
of_slot w t i [] = tt
of_slot w t i (a ∷ []) = tt
of_slot w t i (a ∷ b ∷ []) = tt
of_slot w t i (a ∷ b ∷ c ∷ []) = (
  ring w.vif.tx (16 + 3 * (i % 256) + 0) a (inl refl) (omega arith),
  (ring w.vif.tx (16 + 3 * (i % 256) + 1) b (inl refl) (omega arith), (ring w.vif.tx (16 + 3 * (i % 256) + 2) c (inl refl) (omega arith), tt)),
)
of_slot w t i (a ∷ b ∷ c ∷ d ∷ s) = tt

of_slots : (w : Wiring) (t : List Event) (x i : ℕ) (slots : List Slot) → AllAllowed w.vif t (slots_reads w x i slots)
of_slots w t x i [] = tt
of_slots w t x i (s ∷ slots) = append w.vif t (slot_reads w (add32 x i) s) (slots_reads w x (i + 1) slots) (of_slot w t (add32 x i) s) (of_slots w t x (i + 1) slots)

of_responses : (w : Wiring) (t : List Event) (x i : ℕ) (rs : List ℕ) → AllAllowed w.vif t (response_writes w x i rs)
of_responses w t x i [] = tt
of_responses w t x i (r ∷ rs) = (tx_response (add32 x i) r, of_responses w t x (i + 1) rs)

of_respond : (w : Wiring) (x : ℕ) (slots : List Slot) (st : Status) (p : List Event) → IsRespond w x slots st p → AllAllowed w.vif p p
of_respond w x slots st p h =
    let q : List Event = Write (tx_word w.vif 2) (add32 x (length slots)) ∷ Read (tx_word w.vif 3) h.0 ∷ notices w.vif (is_due x (add32 x (length slots)) h.0) in
    subst (λ l. AllAllowed w.vif p l) (sym h.2)
    (append w.vif p (response_writes w x 0 (responses st slots)) q (of_responses w p x 0 (responses st slots))
    (pushed w.vif.tx (add32 x (length slots)) (inl refl), (ring w.vif.tx 3 h.0 (inl refl) (omega arith), of_notices w.vif p (is_due x (add32 x (length slots)) h.0))))

of_page : (w : Wiring) (t : List Event) (frame place : ℕ) (vs : List ℕ) → IsGranted w.vif ReadOnly t frame → place + length vs ≤ 1024 → AllAllowed w.vif t (page_reads frame place vs)
of_page w t frame place [] g l = tt
of_page w t frame place (v ∷ vs) g l = (source frame place v (omega arith) g, of_page w t frame (place + 1) vs g (omega arith))

of_copy : (w : Wiring) (fs : List Fragment) (p : List Event) (o : Option (List ℕ)) → AllInPage fs → IsCopy w fs p o → AllAllowed w.vif p p
of_copy w _ _ _ h copied = tt
of_copy w _ _ _ h (denied f fs p fault e) = of_entry w.vif p ReadOnly f.gref p (Err fault) e
of_copy w _ _ _ h (part f fs p q frame vs out e l b c) =
    let reads = page_reads frame (f.offset / 4) vs in
    let t = p ++ (reads ++ q) in
    let g = granted_on w.vif ReadOnly p t frame (front p (reads ++ q)) (grants_by w.vif ReadOnly f.gref p (Ok frame) frame e refl) in
    append w.vif t p (reads ++ q) (of_entry w.vif t ReadOnly f.gref p (Ok frame) e)
    (append w.vif t reads q (of_page w t frame (f.offset / 4) vs g (omega (arith, l, covered_inside f h.0)))
    (all_on w.vif q t q (λ e f i. back p (reads ++ q) e f (back reads q e f i)) (of_copy w fs q out h.1 c)))

of_program : (w : Wiring) (t : List Event) (labels : List (Option Op)) → AllAllowed w.vif t (map event_of labels)
of_program w t [] = tt
of_program w t (None ∷ labels) = (instruction, of_program w t labels)
of_program w t (Some (op.Load m k j v) ∷ labels) = (loaded m k j v, of_program w t labels)
of_program w t (Some (op.Add m k j delta old) ∷ labels) = (added m k j delta old, of_program w t labels)

-- the rows
of_read : (w : Wiring) (s : State) (n : ℕ) (p1 p2 : List Event) (slots : List Slot) → HasRead w s n p1 p2 slots → AllAllowed w.vif p1 p1 × AllAllowed w.vif p2 p2
of_read w s n p1 p2 slots h = (of_look w s.tx_index p1 (Some n) h.look, subst (λ l. AllAllowed w.vif p2 l) (sym h.read.reads) (of_slots w p2 s.tx_index 0 slots))

of_run : (w : Wiring) (s : State) (p : List Event) (slots : List Slot) (out : Left) → HasRun w s p slots out → AllAllowed w.vif p p
of_run w s p slots out h =
    let r = of_read w s h.n h.looks h.reads slots h.read in
    let c = of_copy w h.fragments h.copies (Some h.packet) (fragments_are w.offers slots h.fragments h.sizes).in_page h.copied in
    let g : AllAllowed w.vif h.runs h.runs = subst (λ l. AllAllowed w.vif h.runs l) (sym h.ran.events) (of_program w h.runs h.ran.labels) in
    subst (λ l. AllAllowed w.vif l l) (sym h.joined) (both w.vif h.looks (h.reads ++ (h.copies ++ h.runs)) r.0 (both w.vif h.reads (h.copies ++ h.runs) r.1 (both w.vif h.copies h.runs c g)))

pub turn_touches : (w : Wiring) (s : State) (p : List Event) (new : State) (u : Turned) → IsTurn w s p new u → AllAllowed w.vif p p
turn_touches w s _ _ _ (still_halted cause h) = tt
turn_touches w s _ _ _ (idle p1 h l) = of_look w s.tx_index p1 (Some 0) l
turn_touches w s _ _ _ (overflown p1 h l) = of_look w s.tx_index p1 None l
turn_touches w s _ _ _ (short p1 p2 n slots a e v) = let r = of_read w s n p1 p2 slots a in both w.vif p1 p2 r.0 r.1
turn_touches w s _ _ _ (broken p1 p2 n slots fault a v) = let r = of_read w s n p1 p2 slots a in both w.vif p1 p2 r.0 r.1
turn_touches w s _ _ _ (refused_sizes p1 p2 p6 n slots fault a v f g) =
    let r = of_read w s n p1 p2 slots a in both w.vif p1 (p2 ++ p6) r.0 (both w.vif p2 p6 r.1 (of_respond w s.tx_index slots Error p6 g))
turn_touches w s _ _ _ (refused_grant p1 p2 p3 p6 n slots fragments a v f c g) =
    let r = of_read w s n p1 p2 slots a in
    both w.vif p1 (p2 ++ (p3 ++ p6)) r.0 (both w.vif p2 (p3 ++ p6) r.1 (both w.vif p3 p6 (of_copy w fragments p3 None (fragments_are w.offers slots fragments f).in_page c) (of_respond w s.tx_index slots Error p6 g)))
turn_touches w s _ _ _ (ran p p6 slots out a e g) = both w.vif p p6 (of_run w s p slots out a) (of_respond w s.tx_index slots (status_of out.number) p6 g)
turn_touches w s _ _ _ (halted_rx p p5 slots out a e t) = both w.vif p p5 (of_run w s p slots out a) (of_transmit w.vif s.rx_index Whole out.packet p5 _ t)
turn_touches w s _ _ _ (refused_few p p5 p6 slots out a e t g) = both w.vif p (p5 ++ p6) (of_run w s p slots out a) (both w.vif p5 p6 (of_transmit w.vif s.rx_index Whole out.packet p5 _ t) (of_respond w s.tx_index slots Error p6 g))
turn_touches w s _ _ _ (refused_rx p p5 p6 used slots out a e t g) = both w.vif p (p5 ++ p6) (of_run w s p slots out a) (both w.vif p5 p6 (of_transmit w.vif s.rx_index Whole out.packet p5 _ t) (of_respond w s.tx_index slots Error p6 g))
turn_touches w s _ _ _ (ran_tx p p5 p6 used slots out a e t g) = both w.vif p (p5 ++ p6) (of_run w s p slots out a) (both w.vif p5 p6 (of_transmit w.vif s.rx_index Whole out.packet p5 _ t) (of_respond w s.tx_index slots Okay p6 g))
