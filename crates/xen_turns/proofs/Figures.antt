-- How many accesses a turn makes at most.
use Rattle.xen_netif.specs.declared.offload.RxOffload.TheVariants.{Whole}
use Rattle.xen_rx_fill.specs.declared.by_event.phase.TransmitOutcome.{TransmitOutcome}
use Rattle.bpf_verify.specs.Consistent.{instructions}
use Rattle.xen_steps.proofs.FigureLemmas.{HasAtMost, most_append, most_more}
use Rattle.xen_rx_fill.proofs.Figures.{most_entry, most_notices, most_transmit}
use Rattle.xen_rx_fill.specs.Sending.{IsTransmit}
use Rattle.std.proofs.Common.{append_assoc}
use Rattle.xen_turns.proofs.ChainLemmas.{is_open, open_beginning, standing_chain}
use Rattle.xen_rx_fill.proofs.Figures.{n, n_append, n_notices, n_entry, n_transmit}
use Rattle.std.proofs.Common.{◌≡◌, ℕ, suc, ◌+◌, ◌-◌, ◌*◌, ◌/◌, ◌%◌, ◌<◌, ◌≤◌, ◌^◌, Bool, true, false, IsTrue, List, [], ◌∷◌, ◌++◌, Option, Some, None, Result, Ok, Err, refl, sym, ◌∙◌, ap, length, map, take, drop, sum_by, arith, length-append, subst, nat_lt}
use Rattle.std.specs.Prelude.{if◌then◌else◌, ◌==◌}
use Rattle.std.specs.List.{list_all}
use Rattle.std.proofs.lemmas.Bool.Decides.{nat_tests}
use Rattle.std.proofs.lemmas.List.{length-take}
use Rattle.std.proofs.lemmas.List.Sums.{sum_by-cons}
use Rattle.bpf_note.specs.declared.op.Op.{Op}
use Rattle.bpf_note.specs.declared.op.Op.TheVariants as op
use Rattle.xen_netif.specs.Chain.{Slot}
use Rattle.xen_netif.specs.Copy.{copy_of}
use Rattle.xen_netif.specs.Fragments.{fragment_of, fragment_size, is_in_page, later_fragment, sized_fragments, slot_size, split}
use Rattle.xen_netif.specs.Segments.{no_offers, offered_fragments}
use Rattle.xen_netif.specs.declared.segments.Offers.{Offers}
use Rattle.xen_netif.proofs.FragmentLemmas.{few_later}
use Rattle.xen_netif.proofs.SegmentLemmas.{few_behind, plain_taken, taken_of}
use Rattle.xen_netif.specs.Standing.{standing}
use Rattle.xen_netif.specs.declared.chain.ChainState.TheVariants as wanted
use Rattle.xen_netif.specs.declared.fault.SizeFault.TheVariants as size_fault
use Rattle.xen_netif.specs.declared.fragment.Fragment.{Fragment}
use Rattle.xen_netif.specs.declared.status.Status.{Status}
use Rattle.xen_netif.specs.declared.status.Status.TheVariants.{Okay, Error}
use Rattle.xen_ring.specs.Index.{is_due}
use Rattle.bpf_vm.specs.Course.{start_state}
use Rattle.xen_steps.specs.Drive.{accesses}
use Rattle.xen_steps.specs.Event.{Event, Read, Write}
use Rattle.xen_turns.specs.Parts.{IsLook, once, twice, slot_reads, slots_reads, IsSlotRead, AllWords, behind, IsCopy, copied, denied, part, response_writes, IsRespond, HasRead}
use Rattle.xen_rx_fill.specs.Shared.{notices}
use Rattle.xen_steps.specs.Pages.{page_reads}
use Rattle.xen_steps.specs.Places.{add32}
use Rattle.xen_rx_fill.specs.Places.{tx_word}
use Rattle.xen_turns.specs.Program.{event_of}
use Rattle.xen_turns.specs.Tree.{Left, responses, status_of}
use Rattle.xen_steps.specs.Pages.{covered}
use Rattle.xen_turns.specs.Turned.{Turned}
use Rattle.xen_turns.specs.Turns.{HasRun, IsTurn, still_halted, idle, overflown, short, broken, refused_sizes, refused_grant, ran, halted_rx, refused_few, refused_rx, ran_tx}
use Rattle.xen_turns.specs.declared.state.State.{State}
use Rattle.xen_turns.specs.declared.wiring.Wiring.{Wiring}
use Rattle.xen_turns.proofs.Bounds.{standing_length, responses_length}
use Rattle.xen_turns.proofs.WalkLemmas.{walk_length}
use Rattle.xen_page.specs.declared.entry.Rights.TheVariants.{ReadOnly}

n_look : (w : Wiring) (t : ℕ) (p : List Event) (o : Option ℕ) → IsLook w t p o → n p ≤ 3
n_look w t _ _ (once p l h) = omega arith
n_look w t _ _ (twice p q l m e) = omega arith

n_slot : (w : Wiring) (i : ℕ) (s : Slot) → n (slot_reads w i s) ≤ 3
n_slot w i [] = omega arith
n_slot w i (a ∷ []) = omega arith
n_slot w i (a ∷ b ∷ []) = omega arith
n_slot w i (a ∷ b ∷ c ∷ []) = omega arith
n_slot w i (a ∷ b ∷ c ∷ d ∷ s) = omega arith

n_slots : (w : Wiring) (t i : ℕ) (slots : List Slot) → n (slots_reads w t i slots) ≤ 3 * length slots
n_slots w t i [] = omega arith
n_slots w t i (s ∷ slots) = omega (arith, n_append (slot_reads w (add32 t i) s) (slots_reads w t (i + 1) slots), n_slot w (add32 t i) s, n_slots w t (i + 1) slots)

n_responses : (w : Wiring) (t i : ℕ) (rs : List ℕ) → n (response_writes w t i rs) ≡ length rs
n_responses w t i [] = refl
n_responses w t i (r ∷ rs) = ap suc (n_responses w t (i + 1) rs)

n_respond : (w : Wiring) (t : ℕ) (slots : List Slot) (st : Status) (p : List Event) → IsRespond w t slots st p → n p ≡ length slots + 2
n_respond w t slots st p h =
    let q : List Event = Write (tx_word w.vif 2) (add32 t (length slots)) ∷ Read (tx_word w.vif 3) h.0 ∷ notices w.vif (is_due t (add32 t (length slots)) h.0) in
    let two : n q ≡ 2 = ap (λ k. suc (suc k)) (n_notices w.vif (is_due t (add32 t (length slots)) h.0)) in
    ap n h.2 ∙ n_append (response_writes w t 0 (responses st slots)) q ∙ ap (λ k. k + n q) (n_responses w t 0 (responses st slots) ∙ responses_length st slots) ∙ ap (λ k. length slots + k) two

n_page : (frame place : ℕ) (vs : List ℕ) → n (page_reads frame place vs) ≡ length vs
n_page frame place [] = refl
n_page frame place (v ∷ vs) = ap suc (n_page frame (place + 1) vs)

covered_few : (f : Fragment) → 4 * covered f ≤ f.size + 6
covered_few f = by (f.size == 0) refl
  where
    by : (none : Bool) → (f.size == 0) ≡ none → 4 * (if none then 0 else (f.offset + f.size - 1) / 4 + 1 - f.offset / 4) ≤ f.size + 6
    by true e = omega arith
    by false e = omega arith

n_copy : (w : Wiring) (fs : List Fragment) (p : List Event) (o : Option (List ℕ)) → IsCopy w fs p o → 4 * n p ≤ sum_by fragment_size fs + 14 * length fs
n_copy w _ _ _ copied = omega arith
n_copy w _ _ _ (denied f fs p fault e) = omega (arith, n_entry w.vif ReadOnly f.gref p (Err fault) e, sum_by-cons fragment_size f fs)
n_copy w _ _ _ (part f fs p q frame vs out e l b c) =
    omega (arith, n_entry w.vif ReadOnly f.gref p (Ok frame) e, n_append p (page_reads frame (f.offset / 4) vs ++ q), n_append (page_reads frame (f.offset / 4) vs) q, n_page frame (f.offset / 4) vs, l, covered_few f, n_copy w fs q out c, sum_by-cons fragment_size f fs)

-- the copy is no longer than its fragments
abbrev pub IsShort : ℕ → Option (List ℕ) → Type 0
IsShort size None = Unit {0}
IsShort size (Some packet) = length packet ≤ size

take_short : (size : ℕ) (l : List ℕ) → length (take size l) ≤ size
take_short size l = omega (arith, length-take size l)

pub copy_short : (w : Wiring) (fs : List Fragment) (p : List Event) (o : Option (List ℕ)) → IsCopy w fs p o → IsShort (sum_by fragment_size fs) o
copy_short w _ _ _ copied = omega arith
copy_short w _ _ _ (denied f fs p fault e) = tt
copy_short w _ _ _ (part f fs p q frame vs out e l b c) = subst (λ k. IsShort k (behind (copy_of f vs) out)) (sym (sum_by-cons fragment_size f fs)) (by out (copy_short w fs q out c))
  where
    by : (out : Option (List ℕ)) → IsShort (sum_by fragment_size fs) out → IsShort (f.size + sum_by fragment_size fs) (behind (copy_of f vs) out)
    by None h = tt
    by (Some later) h = omega (arith, h, length-append (copy_of f vs) later, take_short f.size (drop (f.offset % 4) (Rattle.xen_netif.specs.Copy.bytes_of vs)))

-- a chain's fragments: at most 18, of at most 65,535 bytes
pub record AreFew (fs : List Fragment) : Type 0 where
  pub count : length fs ≤ 18
  pub size : sum_by fragment_size fs ≤ 65535

later_sizes : (later : List Slot) → sum_by fragment_size (map later_fragment later) ≡ sum_by slot_size later
later_sizes [] = refl
later_sizes (s ∷ later) = sum_by-cons fragment_size (later_fragment s) (map later_fragment later) ∙ ap (λ k. slot_size s + k) (later_sizes later) ∙ sym (sum_by-cons slot_size s later)

later_count : (later : List Slot) → length (map later_fragment later) ≡ length later
later_count [] = refl
later_count (s ∷ later) = ap suc (later_count later)

slot_small : (s : Slot) → IsSlotRead s → slot_size s < 2 ^ 16
slot_small [] h = absurd h
slot_small (a ∷ []) h = absurd h
slot_small (a ∷ b ∷ []) h = absurd h
slot_small (a ∷ b ∷ c ∷ []) h = omega (arith, h.2)
slot_small (a ∷ b ∷ c ∷ d ∷ s) h = absurd h

sized_few : (first : Slot) (later : List Slot) (fs : List Fragment) → slot_size first < 2 ^ 16 → length later ≤ 17 → sized_fragments first later ≡ Ok fs → AreFew fs
sized_few first later fs small l e = by (nat_lt (slot_size first) 14) (nat_lt (slot_size first) (sum_by slot_size later)) (list_all is_in_page (split first later)) refl e
  where
    by : (b c d : Bool) → nat_lt (slot_size first) (sum_by slot_size later) ≡ c →
        (if b then Err size_fault.ShortPacket else (if c then Err size_fault.LaterSizes else (if d then Ok (split first later) else Err size_fault.PastPage))) ≡ Ok fs → AreFew fs
    by true c d y e = cc
    by false true d y e = cc
    by false false false y e = cc
    by false false true y e =
        let same : split first later ≡ fs = cc in
        let some : sum_by slot_size later ≤ slot_size first = grind (arith, nat_tests) in
        let total : sum_by fragment_size (split first later) ≡ slot_size first - sum_by slot_size later + sum_by slot_size later = sum_by-cons fragment_size (fragment_of first (slot_size first - sum_by slot_size later)) (map later_fragment later) ∙ ap (λ k. slot_size first - sum_by slot_size later + k) (later_sizes later) in
        subst AreFew same (record { count = omega (arith, l, later_count later); size = omega (arith, total, some, small) })

pub chain_few : (o : Offers) (slots : List Slot) (fs : List Fragment) → AllWords slots → standing slots ≡ Some (Ok wanted.Complete) → offered_fragments o slots ≡ Ok fs → AreFew fs
chain_few o [] fs h v e = let same : [] ≡ fs = cc in subst AreFew same (record { count = omega arith; size = omega arith })
chain_few o (first ∷ later) fs h v e =
    let t = taken_of o first later fs e in
    sized_few first t.rest fs (slot_small first h.0) (few_behind o first later t.rest v t.behind) t.sized

-- a chain whose packet is taken has at most so many slots more than eighteen
abbrev pub FewSlots : Offers → ℕ → Type 0
FewSlots o k = (slots : List Slot) (fs : List Fragment) → standing slots ≡ Some (Ok wanted.Complete) → offered_fragments o slots ≡ Ok fs → length slots ≤ 18 + k

-- an extra at most, and none where nothing is offered
pub one_more : (o : Offers) → FewSlots o 1
one_more o [] fs v e = omega arith
one_more o (first ∷ later) fs v e =
    let t = taken_of o first later fs e in
    omega (arith, t.most, few_behind o first later t.rest v t.behind)

pub none_more : FewSlots no_offers 0
none_more [] fs v e = omega arith
none_more (first ∷ later) fs v e = omega (arith, few_later first later v (plain_taken first later fs e))

-- the slots that were read: at most 24, since all but the last want more
open_length : (slots : List Slot) → IsTrue (is_open (standing slots)) → length slots ≤ 23
open_length slots h = by (standing slots) refl h
  where
    by : (o : Option (Result _ _)) → standing slots ≡ o → IsTrue (is_open o) → length slots ≤ 23
    by (Some (Ok wanted.Data)) e h = standing_length slots wanted.Data e
    by (Some (Ok wanted.Extra)) e h = standing_length slots wanted.Extra e
    by (Some (Ok wanted.Complete)) e h = cc
    by (Some (Err fault)) e h = cc
    by None e h = cc

read_few : (slots : List Slot) → ((k : ℕ) → k < length slots → IsTrue (is_open (standing (take k slots)))) → length slots ≤ 24
read_few [] h = omega arith
read_few (s ∷ slots) h =
    let l = open_length (take (length slots) (s ∷ slots)) (h (length slots) (omega arith)) in
    omega (arith, l, length-take (length slots) (s ∷ slots))

n_program : (labels : List (Option Op)) → n (map event_of labels) ≡ 0
n_program [] = refl
n_program (None ∷ labels) = n_program labels
n_program (Some (op.Load m k j v) ∷ labels) = n_program labels
n_program (Some (op.Add m k j d v) ∷ labels) = n_program labels

-- the rows
n_read : (w : Wiring) (s : State) (m : ℕ) (p1 p2 : List Event) (slots : List Slot) → HasRead w s m p1 p2 slots → (n p1 ≤ 3) × (n p2 ≤ 3 * length slots)
n_read w s m p1 p2 slots h =
    let e = h.read.reads in
    let l = n_slots w s.tx_index 0 slots in
    (n_look w s.tx_index p1 (Some m) h.look, subst (λ q. n q ≤ 3 * length slots) (sym e) l)

-- of what precedes a response: few slots, and a packet of at most 65,535 bytes
n_run : (w : Wiring) (k : ℕ) → FewSlots w.offers k → (s : State) (p : List Event) (slots : List Slot) (out : Left) → HasRun w s p slots out →
    (n p ≤ 16503 + 3 * k) × (length slots ≤ 18 + k) × (length out.packet ≤ 65535)
n_run w k most s p slots out h =
    let few = chain_few w.offers slots h.fragments h.read.read.words (standing_chain slots h.whole) h.sizes in
    let short_chain = most slots h.fragments (standing_chain slots h.whole) h.sizes in
    let c = n_copy w h.fragments h.copies (Some h.packet) h.copied in
    let r = n_read w s h.n h.looks h.reads slots h.read in
    let none : n h.runs ≡ 0 = ap n h.ran.events ∙ n_program h.ran.labels in
    let same : n p ≡ n (h.looks ++ (h.reads ++ (h.copies ++ h.runs))) = ap n h.joined in
    let short : length h.packet ≤ sum_by fragment_size h.fragments = copy_short w h.fragments h.copies (Some h.packet) h.copied in
    let kept : length out.packet ≡ length h.packet = walk_length w.program.now.code h.ran.r0 out.packet (start_state w.program.now.shapes w.lists.now h.packet w.ifindex w.queue) h.ran.labels h.ran.walk in (
      omega (arith, few.count, few.size, short_chain, c, r.0, r.1, none, same, n_append h.looks (h.reads ++ (h.copies ++ h.runs)), n_append h.reads (h.copies ++ h.runs), n_append h.copies h.runs),
      short_chain,
      omega (arith, short, kept, few.size),
    )

pub turn_accesses : (w : Wiring) (k : ℕ) → FewSlots w.offers k → (s : State) (p : List Event) (new : State) (u : Turned) → IsTurn w s p new u → length (accesses p) ≤ 33026 + 4 * k
turn_accesses w k most s _ _ _ (still_halted cause h) = omega arith
turn_accesses w k most s _ _ _ (idle p1 h l) = omega (arith, n_look w s.tx_index p1 (Some 0) l)
turn_accesses w k most s _ _ _ (overflown p1 h l) = omega (arith, n_look w s.tx_index p1 None l)
turn_accesses w k most s _ _ _ (short p1 p2 m slots a e v) = let r = n_read w s m p1 p2 slots a in omega (arith, n_append p1 p2, r.0, r.1, read_few slots (λ k l. open_beginning (take k slots) (a.read.wanted k l)))
turn_accesses w k most s _ _ _ (broken p1 p2 m slots fault a v) = let r = n_read w s m p1 p2 slots a in omega (arith, n_append p1 p2, r.0, r.1, read_few slots (λ k l. open_beginning (take k slots) (a.read.wanted k l)))
turn_accesses w k most s _ _ _ (refused_sizes p1 p2 p6 m slots fault a v f g) =
    let r = n_read w s m p1 p2 slots a in
    omega (arith, n_append p1 (p2 ++ p6), n_append p2 p6, r.0, r.1, read_few slots (λ k l. open_beginning (take k slots) (a.read.wanted k l)), n_respond w s.tx_index slots Error p6 g)
turn_accesses w k most s _ _ _ (refused_grant p1 p2 p3 p6 m slots fragments a v f c g) =
    let r = n_read w s m p1 p2 slots a in
    let few = chain_few w.offers slots fragments a.read.words (standing_chain slots v) f in
    omega (arith, n_append p1 (p2 ++ (p3 ++ p6)), n_append p2 (p3 ++ p6), n_append p3 p6, r.0, r.1, few.count, few.size, most slots fragments (standing_chain slots v) f, n_copy w fragments p3 None c, n_respond w s.tx_index slots Error p6 g)
turn_accesses w k most s _ _ _ (ran p p6 slots out a e g) =
    let r = n_run w k most s p slots out a in
    omega (arith, n_append p p6, r.0, r.1, n_respond w s.tx_index slots (status_of out.number) p6 g)
turn_accesses w k most s _ _ _ (halted_rx p p5 slots out a e t) =
    let r = n_run w k most s p slots out a in
    omega (arith, n_append p p5, r.0, n_transmit w.vif s.rx_index Whole out.packet p5 _ r.2 t)
turn_accesses w k most s _ _ _ (refused_few p p5 p6 slots out a e t g) =
    let r = n_run w k most s p slots out a in
    omega (arith, n_append p (p5 ++ p6), n_append p5 p6, r.0, r.1, n_transmit w.vif s.rx_index Whole out.packet p5 _ r.2 t, n_respond w s.tx_index slots Error p6 g)
turn_accesses w k most s _ _ _ (refused_rx p p5 p6 used slots out a e t g) =
    let r = n_run w k most s p slots out a in
    omega (arith, n_append p (p5 ++ p6), n_append p5 p6, r.0, r.1, n_transmit w.vif s.rx_index Whole out.packet p5 _ r.2 t, n_respond w s.tx_index slots Error p6 g)
turn_accesses w k most s _ _ _ (ran_tx p p5 p6 used slots out a e t g) =
    let r = n_run w k most s p slots out a in
    omega (arith, n_append p (p5 ++ p6), n_append p5 p6, r.0, r.1, n_transmit w.vif s.rx_index Whole out.packet p5 _ r.2 t, n_respond w s.tx_index slots Okay p6 g)

-- the instructions and the notices
most_look : (w : Wiring) (t : ℕ) (p : List Event) (o : Option ℕ) → IsLook w t p o → HasAtMost p 0 0
most_look w t _ _ (once p l h) = record { steps = omega arith; told = omega arith }
most_look w t _ _ (twice p q l m e) = record { steps = omega arith; told = omega arith }

most_slot : (w : Wiring) (i : ℕ) (s : Slot) → HasAtMost (slot_reads w i s) 0 0
most_slot w i [] = record { steps = omega arith; told = omega arith }
most_slot w i (a ∷ []) = record { steps = omega arith; told = omega arith }
most_slot w i (a ∷ b ∷ []) = record { steps = omega arith; told = omega arith }
most_slot w i (a ∷ b ∷ c ∷ []) = record { steps = omega arith; told = omega arith }
most_slot w i (a ∷ b ∷ c ∷ d ∷ s) = record { steps = omega arith; told = omega arith }

most_slots : (w : Wiring) (t i : ℕ) (slots : List Slot) → HasAtMost (slots_reads w t i slots) 0 0
most_slots w t i [] = record { steps = omega arith; told = omega arith }
most_slots w t i (s ∷ slots) = most_append (slot_reads w (add32 t i) s) (slots_reads w t (i + 1) slots) 0 0 0 0 (most_slot w (add32 t i) s) (most_slots w t (i + 1) slots)

most_read : (w : Wiring) (s : State) (m : ℕ) (p1 p2 : List Event) (slots : List Slot) → HasRead w s m p1 p2 slots → HasAtMost (p1 ++ p2) 0 0
most_read w s m p1 p2 slots h =
    most_append p1 p2 0 0 0 0 (most_look w s.tx_index p1 (Some m) h.look) (subst (λ q. HasAtMost q 0 0) (sym h.read.reads) (most_slots w s.tx_index 0 slots))

most_responses : (w : Wiring) (t i : ℕ) (rs : List ℕ) → HasAtMost (response_writes w t i rs) 0 0
most_responses w t i [] = record { steps = omega arith; told = omega arith }
most_responses w t i (r ∷ rs) = let h = most_responses w t (i + 1) rs in record { steps = h.steps; told = h.told }

most_respond : (w : Wiring) (t : ℕ) (slots : List Slot) (st : Status) (p : List Event) → IsRespond w t slots st p → HasAtMost p 0 1
most_respond w t slots st p h =
    let due = is_due t (add32 t (length slots)) h.0 in
    let q : List Event = Write (tx_word w.vif 2) (add32 t (length slots)) ∷ Read (tx_word w.vif 3) h.0 ∷ notices w.vif due in
    let told = most_notices w.vif due in
    let last : HasAtMost q 0 1 = record { steps = told.steps; told = told.told } in
    subst (λ l. HasAtMost l 0 1) (sym h.2) (most_append (response_writes w t 0 (responses st slots)) q 0 0 0 1 (most_responses w t 0 (responses st slots)) last)

most_page : (frame place : ℕ) (vs : List ℕ) → HasAtMost (page_reads frame place vs) 0 0
most_page frame place [] = record { steps = omega arith; told = omega arith }
most_page frame place (v ∷ vs) = let h = most_page frame (place + 1) vs in record { steps = h.steps; told = h.told }

most_copy : (w : Wiring) (fs : List Fragment) (p : List Event) (o : Option (List ℕ)) → IsCopy w fs p o → HasAtMost p 0 0
most_copy w _ _ _ copied = record { steps = omega arith; told = omega arith }
most_copy w _ _ _ (denied f fs p fault e) = most_entry w.vif ReadOnly f.gref p (Err fault) e
most_copy w _ _ _ (part f fs p q frame vs out e l b c) =
    most_append p (page_reads frame (f.offset / 4) vs ++ q) 0 0 0 0 (most_entry w.vif ReadOnly f.gref p (Ok frame) e)
    (most_append (page_reads frame (f.offset / 4) vs) q 0 0 0 0 (most_page frame (f.offset / 4) vs) (most_copy w fs q out c))

most_program : (labels : List (Option Op)) → HasAtMost (map event_of labels) (length labels) 0
most_program [] = record { steps = omega arith; told = omega arith }
most_program (None ∷ labels) = let h = most_program labels in record { steps = omega (arith, h.steps); told = h.told }
most_program (Some (op.Load m k j v) ∷ labels) = let h = most_program labels in record { steps = omega (arith, h.steps); told = h.told }
most_program (Some (op.Add m k j d v) ∷ labels) = let h = most_program labels in record { steps = omega (arith, h.steps); told = h.told }

most_run : (w : Wiring) (s : State) (p : List Event) (slots : List Slot) (out : Left) → HasRun w s p slots out → HasAtMost p (instructions w.program.now.code) 0
most_run w s p slots out h =
    let n = instructions w.program.now.code in
    let ran : HasAtMost h.runs n 0 = most_more h.runs (length h.ran.labels) 0 n 0 (subst (λ q. HasAtMost q (length h.ran.labels) 0) (sym h.ran.events) (most_program h.ran.labels)) h.ran.within (omega arith) in
    let look : HasAtMost h.looks 0 0 = most_look w s.tx_index h.looks (Some h.n) h.read.look in
    let read : HasAtMost h.reads 0 0 = subst (λ q. HasAtMost q 0 0) (sym h.read.read.reads) (most_slots w s.tx_index 0 slots) in
    let copied : HasAtMost h.copies 0 0 = most_copy w h.fragments h.copies (Some h.packet) h.copied in
    let all = most_append h.looks (h.reads ++ (h.copies ++ h.runs)) 0 0 (0 + (0 + n)) (0 + (0 + 0)) look (most_append h.reads (h.copies ++ h.runs) 0 0 (0 + n) (0 + 0) read (most_append h.copies h.runs 0 0 n 0 copied ran)) in
    subst (λ q. HasAtMost q n 0) (sym h.joined) (most_more (h.looks ++ (h.reads ++ (h.copies ++ h.runs))) _ _ n 0 all (omega arith) (omega arith))

-- a run, a transmit and a response
module _ (w : Wiring) (s : State) where
  abbrev steps : ℕ
  steps = instructions w.program.now.code

  up : (p : List Event) (a b : ℕ) → HasAtMost p a b → a ≤ steps → b ≤ 2 → HasAtMost p steps 2
  up p a b h l m = most_more p a b steps 2 h l m

  most_sent : (p p5 p6 : List Event) (slots : List Slot) (out : Left) (o : TransmitOutcome) (st : Status) → HasRun w s p slots out → IsTransmit w.vif s.rx_index Whole out.packet p5 o → IsRespond w s.tx_index slots st p6 →
      HasAtMost (p ++ (p5 ++ p6)) steps 2
  most_sent p p5 p6 slots out o st a t g =
      up (p ++ (p5 ++ p6)) (steps + (0 + 0)) (0 + (1 + 1)) (most_append p (p5 ++ p6) steps 0 (0 + 0) (1 + 1) (most_run w s p slots out a)
      (most_append p5 p6 0 1 0 1 (most_transmit w.vif s.rx_index Whole out.packet p5 o t) (most_respond w s.tx_index slots st p6 g))) (omega arith) (omega arith)

  pub turn_most : (p : List Event) (new : State) (u : Turned) → IsTurn w s p new u → HasAtMost p steps 2
  turn_most _ _ _ (still_halted cause h) = record { steps = omega arith; told = omega arith }
  turn_most _ _ _ (idle p1 h l) = up p1 0 0 (most_look w s.tx_index p1 (Some 0) l) (omega arith) (omega arith)
  turn_most _ _ _ (overflown p1 h l) = up p1 0 0 (most_look w s.tx_index p1 None l) (omega arith) (omega arith)
  turn_most _ _ _ (short p1 p2 m slots a e v) = up (p1 ++ p2) 0 0 (most_read w s m p1 p2 slots a) (omega arith) (omega arith)
  turn_most _ _ _ (broken p1 p2 m slots fault a v) = up (p1 ++ p2) 0 0 (most_read w s m p1 p2 slots a) (omega arith) (omega arith)
  turn_most _ _ _ (refused_sizes p1 p2 p6 m slots fault a v f g) =
      let h = most_append (p1 ++ p2) p6 0 0 0 1 (most_read w s m p1 p2 slots a) (most_respond w s.tx_index slots Error p6 g) in
      up (p1 ++ (p2 ++ p6)) (0 + 0) (0 + 1) (subst (λ q. HasAtMost q (0 + 0) (0 + 1)) (append_assoc p1 p2 p6) h) (omega arith) (omega arith)
  turn_most _ _ _ (refused_grant p1 p2 p3 p6 m slots fragments a v f c g) =
      let h = most_append (p1 ++ p2) (p3 ++ p6) 0 0 (0 + 0) (0 + 1) (most_read w s m p1 p2 slots a) (most_append p3 p6 0 0 0 1 (most_copy w fragments p3 None c) (most_respond w s.tx_index slots Error p6 g)) in
      up (p1 ++ (p2 ++ (p3 ++ p6))) (0 + (0 + 0)) (0 + (0 + 1)) (subst (λ q. HasAtMost q (0 + (0 + 0)) (0 + (0 + 1))) (append_assoc p1 p2 (p3 ++ p6)) h) (omega arith) (omega arith)
  turn_most _ _ _ (ran p p6 slots out a e g) =
      up (p ++ p6) (steps + 0) (0 + 1) (most_append p p6 steps 0 0 1 (most_run w s p slots out a) (most_respond w s.tx_index slots (status_of out.number) p6 g)) (omega arith) (omega arith)
  turn_most _ _ _ (halted_rx p p5 slots out a e t) =
      up (p ++ p5) (steps + 0) (0 + 1) (most_append p p5 steps 0 0 1 (most_run w s p slots out a) (most_transmit w.vif s.rx_index Whole out.packet p5 _ t)) (omega arith) (omega arith)
  turn_most _ _ _ (refused_few p p5 p6 slots out a e t g) = most_sent p p5 p6 slots out _ Error a t g
  turn_most _ _ _ (refused_rx p p5 p6 used slots out a e t g) = most_sent p p5 p6 slots out _ Error a t g
  turn_most _ _ _ (ran_tx p p5 p6 used slots out a e t g) = most_sent p p5 p6 slots out _ Okay a t g
