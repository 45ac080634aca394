-- A turn reads each word once, its transmit's among them.
use Rattle.std.proofs.Common.{◌≡◌, ◌≢◌, ℕ, zero, suc, ◌+◌, ◌*◌, ◌%◌, ◌<◌, ◌≤◌, true, false, List, [], ◌∷◌, ◌++◌, Some, None, length, refl, ◌∙◌, ap, append-nil, arith, subst}
use Rattle.std.proofs.lemmas.List.Elements.{Contains-append_left, Contains-append_right}
use Rattle.xen_netif.specs.Chain.{Slot}
use Rattle.xen_page.specs.declared.place.Place.{Place}
use Rattle.xen_ring.specs.Index.{is_due}
use Rattle.xen_steps.specs.Event.{Event, Read, Write}
use Rattle.xen_steps.specs.Places.{add32}
use Rattle.xen_netif.specs.declared.offload.RxOffload.TheVariants.{Whole}
use Rattle.xen_rx_fill.specs.Places.{rx_slot, rx_word}
use Rattle.xen_rx_fill.specs.Packets.{pages, words}
use Rattle.xen_rx_fill.specs.Sending.{AreTargets, IsRxRespond, IsTransmit, all, buffer_writes, for_extra, passing, refused, refusing, rx_overflow, rx_writes, sent, too_few}
use Rattle.xen_rx_fill.specs.declared.by_event.phase.TransmitOutcome.{TransmitOutcome}
use Rattle.xen_rx_fill.specs.declared.by_event.phase.TransmitOutcome.TheVariants as outcome
use Rattle.xen_rx_fill.specs.declared.target.Grants.{Grants}
use Rattle.xen_rx_fill.specs.declared.target.Grants.TheVariants.{Passed, Refused}
use Rattle.xen_rx_fill.specs.declared.target.Target.{Target}
use Rattle.xen_rx_fill.specs.Shared.{notices}
use Rattle.xen_turns.specs.Once.{AllOther, AreDistinct, ArePosted, HaltReads, PostedDistinct, SendReads, SlotsRead, TurnsOnce, places_read, posted_places, sent_places, target_places, notice_reads}
use Rattle.xen_turns.specs.Parts.{HasRead, IsRespond}
use Rattle.xen_turns.specs.Tree.{Left, status_of}
use Rattle.xen_netif.specs.declared.status.Status.{Status}
use Rattle.xen_netif.specs.declared.status.Status.TheVariants as status
use Rattle.xen_turns.specs.Turns.{HasRun, still_halted, idle, overflown, short, broken, refused_sizes, refused_grant, ran, halted_rx, refused_few, refused_rx, ran_tx}
use Rattle.xen_turns.specs.declared.state.State.{State}
use Rattle.xen_turns.specs.declared.turn.Halt.{Halt}
use Rattle.xen_turns.specs.declared.turn.Halt.TheVariants as halt
use Rattle.xen_turns.specs.declared.wiring.Wiring.{Wiring}
use Rattle.xen_turns.proofs.OnceLemmas.{Within, chain_reads, grant_reads, idle_read, look_read, no_notices, places_read-append, posted_within, ran_reads, respond_read, size_reads, targets_once, word_in}

-- a transmit writes its buffers and responses, and reads none of them
no_words : (ts : List Target) (packet : List ℕ) (n k : ℕ) → places_read (buffer_writes Whole ts packet n k) ≡ []
no_words ts packet zero k = refl
no_words ts packet (suc n) k = no_words ts packet n (k + 1)

no_rx_responses : (w : Wiring) (x : ℕ) (packet : List ℕ) (grants : Grants) (n i : ℕ) (ts : List Target) → places_read (rx_writes w.vif x Whole packet grants n i ts) ≡ []
no_rx_responses w x packet grants n i [] = refl
no_rx_responses w x packet grants n i (t ∷ ts) = no_rx_responses w x packet grants n (i + 1) ts

rx_respond_read : (w : Wiring) (x : ℕ) (packet : List ℕ) (grants : Grants) (ts : List Target) (p : List Event) → IsRxRespond w.vif x Whole packet grants ts p → places_read p ≡ rx_word w.vif 3 ∷ []
rx_respond_read w x packet grants ts p h =
    let due = is_due x (add32 x (length ts)) h.0 in
    let writes = rx_writes w.vif x Whole packet grants (length ts) 0 ts in
    let last : List Event = Write (rx_word w.vif 2) (add32 x (length ts)) ∷ Read (rx_word w.vif 3) h.0 ∷ notices w.vif due in
    ap places_read h.2 ∙ places_read-append writes last ∙ ap (λ l. l ++ places_read last) (no_rx_responses w x packet grants (length ts) 0 ts) ∙ ap (λ l. rx_word w.vif 3 ∷ l) (no_notices w due)

-- as many slots pass as were wanted
all_passed : (w : Wiring) (x i left : ℕ) (p : List Event) (grants : Grants) (ts : List Target) → AreTargets w.vif x Whole i left p grants ts → grants ≡ Passed → length ts ≡ left
all_passed w x _ _ _ _ _ (all i) e = refl
all_passed w x _ _ _ _ _ (refusing i left id p fault none o) e = let no : ⊥ = cc in absurd no
all_passed w x _ _ _ _ _ (passing i left id frame p q grants ts none o a) e = ap suc (all_passed w x (i + 1) left q grants ts a e)
all_passed w x _ _ _ _ _ (for_extra i left a g q grants ts some la lg f) e = absurd (let wrong : false ≡ true = some in cc)

abbrev Sent : Wiring → ℕ → List ℕ → List Event → TransmitOutcome → Type 0
Sent w x packet p outcome.Overflow = places_read p ≡ rx_word w.vif 0 ∷ []
Sent w x packet p outcome.TooFew = places_read p ≡ rx_word w.vif 0 ∷ []
Sent w x packet p (outcome.Refused used) = (grefs : List ℕ) × (places_read p ≡ sent_places w x grefs) × ArePosted w x 0 grefs p
Sent w x packet p (outcome.Sent used) = (grefs : List ℕ) × (length grefs ≡ pages packet) × (places_read p ≡ sent_places w x grefs) × ArePosted w x 0 grefs p

-- the slots behind the producer, and before what comes after them
behind_producer : (a : Event) (p1 p2 : List Event) → Within p1 (a ∷ (p1 ++ p2))
behind_producer a p1 p2 e h = let c = Contains-append_left p1 p2 e h in let less = c.1 in (suc c.0, omega (arith, less), c.2)

sent_reads : (w : Wiring) (x : ℕ) (packet : List ℕ) (p : List Event) (o : TransmitOutcome) → IsTransmit w.vif x Whole packet p o → Sent w x packet p o
sent_reads w x packet _ _ (rx_overflow p l e) = refl
sent_reads w x packet _ _ (too_few p m l e f) = refl
sent_reads w x packet _ _ (refused p m p1 p2 ts l e f a r) =
    let t = targets_once w x 0 (pages packet) p1 Refused ts a in (
      t.0,
      ap (λ l. rx_word w.vif 0 ∷ l) (places_read-append p1 p2 ∙ ap (λ l. l ++ places_read p2) t.2 ∙ ap (λ l. target_places w x 0 t.0 ++ l) (rx_respond_read w x packet Refused ts p2 r)),
      posted_within w x 0 t.0 p1 (Read (rx_word w.vif 0) p ∷ (p1 ++ p2)) (behind_producer (Read (rx_word w.vif 0) p) p1 p2) t.3,
    )
sent_reads w x packet _ _ (sent p m p1 p2 ts l e f a r) =
    let t = targets_once w x 0 (pages packet) p1 Passed ts a in
    let writes = buffer_writes Whole ts packet (words packet) 0 in
    let end : places_read (writes ++ p2) ≡ rx_word w.vif 3 ∷ [] =
    places_read-append writes p2 ∙ ap (λ l. l ++ places_read p2) (no_words ts packet (words packet) 0) ∙ rx_respond_read w x packet Passed ts p2 r in (
      t.0,
      t.1 ∙ all_passed w x 0 (pages packet) p1 Passed ts a refl,
      ap (λ l. rx_word w.vif 0 ∷ l) (places_read-append p1 (writes ++ p2) ∙ ap (λ l. l ++ places_read (writes ++ p2)) t.2 ∙ ap (λ l. target_places w x 0 t.0 ++ l) end),
      posted_within w x 0 t.0 p1 (Read (rx_word w.vif 0) p ∷ (p1 ++ (writes ++ p2))) (behind_producer (Read (rx_word w.vif 0) p) p1 (writes ++ p2)) t.3,
    )

-- a transmit, and the responses behind it
then_told : (w : Wiring) (t : ℕ) (slots : List Slot) (st : Status) (p5 p6 : List Event) (l : List Place) → places_read p5 ≡ l → IsRespond w t slots st p6 → places_read (p5 ++ p6) ≡ l ++ notice_reads w
then_told w t slots st p5 p6 l e r = places_read-append p5 p6 ∙ ap (λ k. k ++ places_read p6) e ∙ ap (λ k. l ++ k) (respond_read w t slots st p6 r)

-- words of two rx slots differ
other_posted : (w : Wiring) (x i k j l : ℕ) → j < 2 → l < 2 → 0 < k → k < 256 → rx_slot w.vif (add32 x i) j ≢ rx_slot w.vif (add32 x (i + k)) l
other_posted w x i k j l a b some few e =
    let same : 16 + 2 * ((x + i) % 4294967296 % 256) + j ≡ 16 + 2 * ((x + (i + k)) % 4294967296 % 256) + l = ap word_in e in
    absurd (omega (arith, same, a, b, some, few))

others_posted : (w : Wiring) (x i k j n : ℕ) → j < 2 → 0 < k → k + n ≤ 256 → AllOther (rx_slot w.vif (add32 x i) j) (posted_places w x (i + k) n)
others_posted w x i k j zero a some few = tt
others_posted w x i k j (suc n) a some few =
    let less : k < 256 = omega (arith, few) in
    let later = subst (λ m. AllOther (rx_slot w.vif (add32 x i) j) (posted_places w x m n)) (let e : i + (k + 1) ≡ i + k + 1 = omega arith in e) (others_posted w x i (k + 1) j n a (omega arith) (omega (arith, few))) in
    (other_posted w x i k j 0 a (omega arith) some less, (other_posted w x i k j 1 a (omega arith) some less, later))

posted_apart : (w : Wiring) (x i n : ℕ) → n ≤ 256 → AreDistinct (posted_places w x i n)
posted_apart w x i zero few = tt
posted_apart w x i (suc n) few =
    let others : (j : ℕ) → j < 2 → AllOther (rx_slot w.vif (add32 x i) j) (posted_places w x (i + 1) n) = λ j a. others_posted w x i 1 j n a (omega arith) (omega (arith, few)) in
    let apart : rx_slot w.vif (add32 x i) 0 ≢ rx_slot w.vif (add32 x i) 1 = λ e. let same : 16 + 2 * ((x + i) % 4294967296 % 256) + 0 ≡ 16 + 2 * ((x + i) % 4294967296 % 256) + 1 = ap word_in e in absurd (omega (arith, same)) in
    ((apart, others 0 (omega arith)), (others 1 (omega arith), posted_apart w x (i + 1) n (omega (arith, few))))

pub posted_distinct : PostedDistinct
posted_distinct w x n few = posted_apart w x 0 n few

-- the transmit of a turn lies within the turn
sent_within : (p p5 p6 : List Event) → Within p5 (p ++ (p5 ++ p6))
sent_within p p5 p6 e h = Contains-append_right p (p5 ++ p6) e (Contains-append_left p5 p6 e h)

-- a packet that is sent, and answered
send_reads : (w : Wiring) (s : State) (p p5 p6 : List Event) (slots : List Slot) (out : Left) (st : Status) (grefs : List ℕ) → HasRun w s p slots out → places_read p5 ≡ sent_places w s.rx_index grefs → ArePosted w s.rx_index 0 grefs p5 → IsRespond w s.tx_index slots st p6 → SendReads w s (p ++ (p5 ++ p6)) (length slots) grefs
send_reads w s p p5 p6 slots out st grefs a e posted g =
    let places = sent_places w s.rx_index grefs in
    (posted_within w s.rx_index 0 grefs p5 (p ++ (p5 ++ p6)) (sent_within p p5 p6) posted, ran_reads w s p (p5 ++ p6) slots out (places ++ notice_reads w) a (then_told w s.tx_index slots st p5 p6 places e g))

-- a queue that halts in its turn hadn't halted before
halts : (w : Wiring) (s : State) (p : List Event) (cause : Halt) → s.halt ≡ None → HaltReads w s p cause → (s.halt ≡ None → HaltReads w s p cause) × (s.halt ≢ None → p ≡ [])
halts w s p cause running reads = (λ h. reads, λ h. absurd (h running))

still : (w : Wiring) (s : State) (p : List Event) (cause : Halt) → p ≡ [] → s.halt ≡ Some cause → (s.halt ≡ None → HaltReads w s p cause) × (s.halt ≢ None → p ≡ [])
still w s p cause none e = (λ h. let no : ⊥ = cc in absurd no, λ h. none)

running : (w : Wiring) (s : State) (p : List Event) (slots : List Slot) (out : Left) → HasRun w s p slots out → s.halt ≡ None
running w s p slots out h = h.read.running

-- slots that were read, and nothing after them
only_slots : (w : Wiring) (s : State) (n : ℕ) (p1 p2 : List Event) (slots : List Slot) → HasRead w s n p1 p2 slots → SlotsRead w s (p1 ++ p2) slots []
only_slots w s n p1 p2 slots h = subst (λ l. SlotsRead w s (p1 ++ l) slots []) (append-nil p2) (chain_reads w s n p1 p2 [] slots [] h refl)

pub turns_once : TurnsOnce
turns_once w s _ _ _ (still_halted cause h) = still w s [] cause refl h
turns_once w s _ _ _ (idle p1 h l) = idle_read w s.tx_index p1 (Some 0) l refl
turns_once w s _ _ _ (overflown p1 h l) = halts w s p1 halt.TxProducer h (look_read w s.tx_index p1 None l)
turns_once w s _ _ _ (short p1 p2 n slots r e b) = halts w s (p1 ++ p2) halt.ShortChain r.running (slots, only_slots w s n p1 p2 slots r)
turns_once w s _ _ _ (broken p1 p2 n slots fault r f) = halts w s (p1 ++ p2) (halt.Chain fault) r.running (slots, only_slots w s n p1 p2 slots r)
turns_once w s _ _ _ (refused_sizes p1 p2 p6 n slots fault r c e g) = size_reads w s n p1 p2 p6 slots fault r e g
turns_once w s _ _ _ (refused_grant p1 p2 p3 p6 n slots fragments r c e k g) = grant_reads w s n p1 p2 p3 p6 slots fragments r e k g
turns_once w s _ _ _ (ran p p6 slots out a e g) = (λ h. ran_reads w s p p6 slots out (notice_reads w) a (respond_read w s.tx_index slots (status_of out.number) p6 g), λ h. absurd (e h))
turns_once w s _ _ _ (halted_rx p p5 slots out a e t) =
    halts w s (p ++ p5) halt.RxProducer (running w s p slots out a) (length slots, ran_reads w s p p5 slots out (rx_word w.vif 0 ∷ []) a (sent_reads w s.rx_index out.packet p5 outcome.Overflow t))
turns_once w s _ _ _ (refused_few p p5 p6 slots out a e t g) =
    let sent = sent_reads w s.rx_index out.packet p5 outcome.TooFew t in
    ran_reads w s p (p5 ++ p6) slots out (rx_word w.vif 0 ∷ notice_reads w) a (then_told w s.tx_index slots status.Error p5 p6 (rx_word w.vif 0 ∷ []) sent g)
turns_once w s _ _ _ (refused_rx p p5 p6 used slots out a e t g) =
    let sent = sent_reads w s.rx_index out.packet p5 (outcome.Refused used) t in
    (sent.0, send_reads w s p p5 p6 slots out status.Error sent.0 a sent.1 sent.2 g)
turns_once w s _ _ _ (ran_tx p p5 p6 used slots out a e t g) =
    let sent = sent_reads w s.rx_index out.packet p5 (outcome.Sent used) t in
    (λ h. absurd (h refl), λ h. (sent.0, sent.1, send_reads w s p p5 p6 slots out status.Okay sent.0 a sent.2 sent.3 g))
