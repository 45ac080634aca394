-- Each turn is a run of a whole turn.
use Rattle.xen_turns.proofs.ChainLemmas.{is_open, open_beginning, standing_chain, standing_fault}
use Rattle.std.proofs.Common.{◌≡◌, ◌≢◌, ℕ, zero, suc, ◌+◌, ◌<◌, ◌≤◌, ◌^◌, Bool, true, false, IsTrue, List, [], ◌∷◌, ◌++◌, Option, Some, None, Result, Ok, Err, refl, sym, ◌∙◌, ap, length, take, arith, subst}
use Rattle.std.specs.Prelude.{◌==◌, if◌then◌else◌}
use Rattle.std.proofs.lemmas.Bool.Decides.{nat_tests}
use Rattle.std.proofs.lemmas.List.{append-nil}
use Rattle.xen_netif.specs.Chain.{Slot}
use Rattle.xen_netif.specs.Segments.{offered_fragments}
use Rattle.xen_netif.specs.Standing.{standing}
use Rattle.xen_netif.specs.declared.chain.ChainState.{ChainState}
use Rattle.xen_netif.specs.declared.chain.ChainState.TheVariants as wanted
use Rattle.xen_netif.specs.declared.fault.ChainFault.{ChainFault}
use Rattle.xen_netif.specs.declared.fault.SizeFault.{SizeFault}
use Rattle.xen_netif.specs.declared.fragment.Fragment.{Fragment}
use Rattle.xen_netif.specs.declared.status.Status.{Status}
use Rattle.xen_netif.specs.declared.status.Status.TheVariants.{Okay, Error}
use Rattle.xen_ring.specs.Index.{is_due}
use Rattle.xen_steps.specs.Event.{Event, Read, Write}
use Rattle.xen_steps.specs.Places.{add32, available}
use Rattle.xen_netif.specs.declared.offload.RxOffload.TheVariants.{Whole}
use Rattle.xen_rx_fill.specs.Places.{tx_word}
use Rattle.xen_steps.specs.Steps.{done, Runs}
use Rattle.xen_turns.specs.Tree.{Left, Scan, look, seen, after_look, read_slot, read_slots, judged, after_scan, after_chain, after_copy, after_run, after_transmit, after_slots, send, answer, notice, respond, responses, answered, copy, program, run_of, status_of, unless_halted, whole_turn}
use Rattle.xen_turns.specs.Turned.{Ending, Turned, Idle, Ran, Refused, Halted}
use Rattle.xen_turns.specs.Parts.{IsLook, once, twice, slot_reads, slots_reads, IsSlotRead, AllWords, AreRead, response_writes, IsRespond, HasRead}
use Rattle.xen_rx_fill.specs.Shared.{notices}
use Rattle.xen_rx_fill.specs.Transmit.{transmit}
use Rattle.xen_turns.specs.Turns.{HasRun, IsTurn, still_halted, idle, overflown, short, broken, refused_sizes, refused_grant, ran, halted_rx, refused_few, refused_rx, ran_tx}
use Rattle.xen_rx_fill.specs.Sending.{IsTransmit}
use Rattle.xen_rx_fill.specs.declared.by_event.phase.TransmitOutcome.{TransmitOutcome}
use Rattle.xen_rx_fill.specs.declared.by_event.phase.TransmitOutcome.TheVariants as outcome
use Rattle.xen_turns.specs.declared.state.State.{State}
use Rattle.xen_turns.specs.declared.turn.Halt.{Halt}
use Rattle.xen_turns.specs.declared.turn.Halt.TheVariants as halt
use Rattle.xen_turns.specs.declared.turn.PacketRefusal.TheVariants as refusal
use Rattle.xen_turns.specs.declared.wiring.Wiring.{Wiring}
use Rattle.xen_turns.proofs.CopyParts.{runs_copy}
use Rattle.xen_turns.proofs.ProgramLemmas.{runs_program}
use Rattle.xen_rx_fill.proofs.SendParts.{runs_transmit}
use Rattle.xen_steps.proofs.StepsLemmas.{join}
use Rattle.xen_turns.proofs.TurnParts.{ScanEnds, is_whole, is_faulty, none_left, regroup, shift}

seen_runs : (w : Wiring) (t : ℕ) (o : Option ℕ) → o ≢ Some 0 → Runs (seen w t o) [] o
seen_runs w t None n = refl
seen_runs w t (Some zero) n = absurd (n refl)
seen_runs w t (Some (suc m)) n = refl

look_runs : (w : Wiring) (t : ℕ) (p : List Event) (o : Option ℕ) → IsLook w t p o → Runs (look w t) p o
look_runs w t _ _ (once p l n) = (p, (l, refl), seen_runs w t (available t p) n)
look_runs w t _ _ (twice p q l m e) =
    (p, (l, refl), subst (λ o. Runs (seen w t o) (Write (tx_word w.vif 1) (add32 t 1) ∷ Read (tx_word w.vif 0) q ∷ []) (available t q)) (sym e) (0, (refl, refl), (q, (m, refl), refl)))

slot_runs : (w : Wiring) (i : ℕ) (s : Slot) → IsSlotRead s → Runs (read_slot w i) (slot_reads w i s) s
slot_runs w i [] h = absurd h
slot_runs w i (a ∷ []) h = absurd h
slot_runs w i (a ∷ b ∷ []) h = absurd h
slot_runs w i (a ∷ b ∷ c ∷ []) h = (a, (h.0, refl), (b, (h.1, refl), (c, (h.2, refl), refl)))
slot_runs w i (a ∷ b ∷ c ∷ d ∷ s) h = absurd h

notice_runs : (w : Wiring) (b : Bool) (e : Ending) → Runs (notice w b e) (notices w.vif b) e
notice_runs w false e = refl
notice_runs w true e = (0, (refl, refl), refl)

answer_runs : (w : Wiring) (t n i : ℕ) (rs : List ℕ) (e : Ending) (v : ℕ) → v < 2 ^ 32 →
    Runs (answer w t n i rs e) (response_writes w t i rs ++ Write (tx_word w.vif 2) (add32 t n) ∷ Read (tx_word w.vif 3) v ∷ notices w.vif (is_due t (add32 t n) v)) e
answer_runs w t n i [] e v l = (0, (refl, refl), (v, (l, refl), notice_runs w (is_due t (add32 t n) v) e))
answer_runs w t n i (r ∷ rs) e v l = (0, (refl, refl), answer_runs w t n (i + 1) rs e v l)

respond_runs : (w : Wiring) (s : State) (slots : List Slot) (st : Status) (u : Turned) (p : List Event) → IsRespond w s.tx_index slots st p → Runs (respond w s slots st u) p (answered s (length slots), u)
respond_runs w s slots st u p h = rw h.2 (answer_runs w s.tx_index (length slots) 0 (responses st slots) (answered s (length slots), u) h.0 h.1)

-- the ends of a scan, seen after its first slot
ends_back : (left : ℕ) (slots : List Slot) (s : Slot) (more : List Slot) (x : Scan) → ScanEnds (suc left) slots (s ∷ more) x → ScanEnds left (slots ++ s ∷ []) more x
ends_back left slots s more _ (is_whole h) = rw (← (shift slots s more)) (is_whole (rw (← (shift slots s more)) at h))
ends_back left slots s more _ (is_faulty c h) = is_faulty c (rw (← (shift slots s more)) at h)
ends_back left slots s more _ (none_left l h) = none_left (omega arith) (rw (← (shift slots s more)) at h)

-- what a list that wants more doesn't say
not_whole : (o : Option (Result ChainState ChainFault)) → IsTrue (is_open o) → o ≡ Some (Ok wanted.Complete) → ⊥
not_whole o h e = let g = subst (λ o. IsTrue (is_open o)) e h in cc

not_faulty : (o : Option (Result ChainState ChainFault)) (fault : ChainFault) → IsTrue (is_open o) → o ≡ Some (Err fault) → ⊥
not_faulty o fault h e = let g = subst (λ o. IsTrue (is_open o)) e h in cc

none_more : (left : ℕ) (slots : List Slot) (x : Scan) → IsTrue (is_open (standing slots)) → ScanEnds left slots [] x → (x ≡ Err halt.ShortChain) × (left ≡ 0)
none_more left slots _ v (is_whole h) = absurd (not_whole (standing slots) v (ap standing (sym (append-nil slots)) ∙ h))
none_more left slots _ v (is_faulty c h) = absurd (not_faulty (standing slots) c v (ap standing (sym (append-nil slots)) ∙ h))
none_more left slots _ v (none_left l h) = (refl, omega arith)

-- after a slot that ends the chain none was read
module _ (w : Wiring) (t l : ℕ) (slots : List Slot) (s : Slot) where
  whole_runs : (ms : List Slot) (x : Scan) → standing (slots ++ s ∷ []) ≡ Some (Ok wanted.Complete) → (0 < length ms → IsTrue (is_open (standing (slots ++ s ∷ [])))) → ScanEnds (suc l) slots (s ∷ ms) x →
      Runs {A = Scan} (done (Ok (slots ++ s ∷ []))) (slots_reads w t (length slots + 1) ms) x
  whole_runs [] _ e o (is_whole h) = refl
  whole_runs [] _ e o (is_faulty c h) = cc
  whole_runs [] _ e o (none_left k h) = absurd (not_whole (standing (slots ++ s ∷ [])) h e)
  whole_runs (m ∷ ms) x e o en = absurd (not_whole (standing (slots ++ s ∷ [])) (o (omega arith)) e)

  faulty_runs : (fault : ChainFault) (ms : List Slot) (x : Scan) → standing (slots ++ s ∷ []) ≡ Some (Err fault) → (0 < length ms → IsTrue (is_open (standing (slots ++ s ∷ [])))) → ScanEnds (suc l) slots (s ∷ ms) x →
      Runs {A = Scan} (done (Err (halt.Chain fault))) (slots_reads w t (length slots + 1) ms) x
  faulty_runs fault [] _ e o (is_whole h) = cc
  faulty_runs fault [] _ e o (is_faulty c h) = let same : fault ≡ c = cc in ap (λ c. Err (halt.Chain c)) same
  faulty_runs fault [] _ e o (none_left k h) = absurd (not_faulty (standing (slots ++ s ∷ [])) fault h e)
  faulty_runs fault (m ∷ ms) x e o en = absurd (not_faulty (standing (slots ++ s ∷ [])) fault (o (omega arith)) e)

-- a list that wants more, or is whole, or has a fault: nothing else is read
judged_runs : (w : Wiring) (t l : ℕ) (slots : List Slot) (s : Slot) (ms : List Slot) (x : Scan) (v : Option (Result ChainState ChainFault)) → standing (slots ++ s ∷ []) ≡ v →
    (0 < length ms → IsTrue (is_open (standing (slots ++ s ∷ [])))) → ScanEnds (suc l) slots (s ∷ ms) x →
    (IsTrue (is_open (standing (slots ++ s ∷ []))) → Runs (read_slots w t l (slots ++ s ∷ [])) (slots_reads w t (length slots + 1) ms) x) →
    Runs (judged (slots ++ s ∷ []) v (read_slots w t l (slots ++ s ∷ []))) (slots_reads w t (length slots + 1) ms) x
judged_runs w t l slots s ms x (Some (Ok wanted.Data)) e o en go = go (rw e refl)
judged_runs w t l slots s ms x (Some (Ok wanted.Extra)) e o en go = go (rw e refl)
judged_runs w t l slots s ms x (Some (Ok wanted.Complete)) e o en go = whole_runs w t l slots s ms x e o en
judged_runs w t l slots s ms x (Some (Err fault)) e o en go = faulty_runs w t l slots s fault ms x e o en
judged_runs w t l slots s ms x None e o en go = absurd (nowhere ms x e o en)
  where
    nowhere : (ms : List Slot) (x : Scan) → standing (slots ++ s ∷ []) ≡ None → (0 < length ms → IsTrue (is_open (standing (slots ++ s ∷ [])))) → ScanEnds (suc l) slots (s ∷ ms) x → ⊥
    nowhere [] _ e o (is_whole h) = cc
    nowhere [] _ e o (is_faulty c h) = cc
    nowhere [] _ e o (none_left k h) = let g = subst (λ o. IsTrue (is_open o)) e h in cc
    nowhere (m ∷ ms) x e o en = let g = subst (λ o. IsTrue (is_open o)) e (o (omega arith)) in cc

length_one : (slots : List Slot) (s : Slot) → length (slots ++ s ∷ []) ≡ length slots + 1
length_one [] s = refl
length_one (x ∷ slots) s = let e = length_one slots s in omega (arith, e)

slots_runs : (w : Wiring) (t left : ℕ) (slots more : List Slot) (x : Scan) → IsTrue (is_open (standing slots)) → AllWords more → ((k : ℕ) → k < length more → IsTrue (is_open (standing (slots ++ take k more)))) →
    length more ≤ left → ScanEnds left slots more x → Runs (read_slots w t left slots) (slots_reads w t (length slots) more) x
slots_runs w t left slots [] x v ws wt le en = let q = none_more left slots x v en in rw (q.1, q.0) refl
slots_runs w t zero slots (s ∷ ms) x v ws wt le en = absurd (omega arith)
slots_runs w t (suc l) slots (s ∷ ms) x v ws wt le en =
    join (read_slot w (add32 t (length slots))) (λ s. judged (slots ++ s ∷ []) (standing (slots ++ s ∷ [])) (read_slots w t l (slots ++ s ∷ [])))
    (slot_reads w (add32 t (length slots)) s) (slots_reads w t (length slots + 1) ms) s x (slot_runs w (add32 t (length slots)) s ws.0)
    (judged_runs w t l slots s ms x (standing (slots ++ s ∷ [])) refl
    (λ h. wt 1 (omega arith)) en
    (λ e. subst (λ i. Runs (read_slots w t l (slots ++ s ∷ [])) (slots_reads w t i ms) x) (length_one slots s)
    (slots_runs w t l (slots ++ s ∷ []) ms x e ws.1 (λ k h. subst (λ (q : List Slot). IsTrue (is_open (standing q))) (sym (shift slots s (take k ms))) (wt (suc k) (omega arith))) (omega arith) (ends_back l slots s ms x en))))

-- the rows
looked_runs : (w : Wiring) (s : State) (p1 p : List Event) (o : Option ℕ) (r : Ending) → s.halt ≡ None → IsLook w s.tx_index p1 o → Runs (after_look w s o) p r → Runs (whole_turn w s) (p1 ++ p) r
looked_runs w s p1 p o r h l g = subst (λ (x : Option Halt). Runs (unless_halted w s x) (p1 ++ p) r) (sym h) (join (look w s.tx_index) (after_look w s) p1 p o r (look_runs w s.tx_index p1 o l) g)

scanned_by : (w : Wiring) (s : State) (p1 p2 p : List Event) (n : ℕ) (slots : List Slot) (x : Scan) (r : Ending) → HasRead w s n p1 p2 slots → ScanEnds n [] slots x → 0 < n → IsLook w s.tx_index p1 (Some n) → AreRead w s.tx_index n p2 slots →
    Runs (after_scan w s x) p r → Runs (whole_turn w s) (p1 ++ (p2 ++ p)) r
scanned_by w s p1 p2 p zero slots x r a en n0 l v g = absurd (omega arith)
scanned_by w s p1 p2 p (suc n) slots x r a en n0 l v g =
    looked_runs w s p1 (p2 ++ p) (Some (suc n)) r a.running l
    (join (read_slots w s.tx_index (suc n) []) (after_scan w s) p2 p x r (rw v.reads (slots_runs w s.tx_index (suc n) [] slots x refl v.words (λ k l. open_beginning (take k slots) (v.wanted k l)) v.within en)) g)

scanned_runs : (w : Wiring) (s : State) (p1 p2 p : List Event) (n : ℕ) (slots : List Slot) (x : Scan) (r : Ending) → HasRead w s n p1 p2 slots → ScanEnds n [] slots x →
    Runs (after_scan w s x) p r → Runs (whole_turn w s) (p1 ++ (p2 ++ p)) r
scanned_runs w s p1 p2 p n slots x r a en g = scanned_by w s p1 p2 p n slots x r a en a.some a.look a.read g

chain_runs : (w : Wiring) (s : State) (p1 p2 p : List Event) (n : ℕ) (slots : List Slot) (o : Result (List Fragment) SizeFault) (r : Ending) → HasRead w s n p1 p2 slots → standing slots ≡ Some (Ok wanted.Complete) → offered_fragments w.offers slots ≡ o →
    Runs (after_chain w s slots o) p r → Runs (whole_turn w s) (p1 ++ (p2 ++ p)) r
chain_runs w s p1 p2 p n slots o r a v f g = scanned_runs w s p1 p2 p n slots (Ok slots) r a (is_whole v) (subst (λ (o : Result (List Fragment) SizeFault). Runs (after_chain w s slots o) p r) (sym f) g)

none_after : (w : Wiring) (s : State) (p : List Event) (r : Ending) → Runs (whole_turn w s) (p ++ []) r → Runs (whole_turn w s) p r
none_after w s p r h = subst (λ q. Runs (whole_turn w s) q r) (append-nil p) h

run_runs : (w : Wiring) (s : State) (p q : List Event) (slots : List Slot) (out : Left) (r : Ending) → HasRun w s p slots out → Runs (after_run w s slots out) q r → Runs (whole_turn w s) (p ++ q) r
run_runs w s p q slots out r a g =
    subst (λ t. Runs (whole_turn w s) t r) (sym (ap (λ l. l ++ q) a.joined ∙ sym (regroup a.looks a.reads a.copies a.runs q)))
    (chain_runs w s a.looks a.reads (a.copies ++ (a.runs ++ q)) a.n slots (Ok a.fragments) r a.read (standing_chain slots a.whole) a.sizes
    (join (copy w a.fragments []) (after_copy w s slots) a.copies (a.runs ++ q) (Some a.packet) r (runs_copy w a.fragments a.copies (Some a.packet) a.copied)
    (join (program (run_of w a.packet) 0) (after_run w s slots) a.runs q out r (runs_program w a.packet a.runs out a.ran) g)))

pub is_three : (n : ℕ) → n ≡ 3 → (n == 3) ≡ true
is_three n e = grind (arith, nat_tests)

pub not_three : (n : ℕ) → n ≢ 3 → (n == 3) ≡ false
not_three n e = grind (arith, nat_tests)

transmit_runs : (w : Wiring) (s : State) (p p5 p6 : List Event) (slots : List Slot) (out : Left) (o : TransmitOutcome) (r : Ending) → HasRun w s p slots out → out.number ≡ 3 → IsTransmit w.vif s.rx_index Whole out.packet p5 o →
    Runs (after_transmit w s slots out.packet out.ops o) p6 r → Runs (whole_turn w s) (p ++ (p5 ++ p6)) r
transmit_runs w s p p5 p6 slots out o r a n t h =
    run_runs w s p (p5 ++ p6) slots out r a
    (subst (λ b. Runs (if b then send w s slots out.packet out.ops else respond w s slots (status_of out.number) (Ran out.number out.packet out.ops (length slots))) (p5 ++ p6) r) (sym (is_three out.number n))
    (join (transmit w.vif s.rx_index Whole out.packet) (after_transmit w s slots out.packet out.ops) p5 p6 o r (runs_transmit w.vif s.rx_index Whole out.packet p5 o t) h))

pub runs_turn : (w : Wiring) (s : State) (p : List Event) (new : State) (u : Turned) → IsTurn w s p new u → Runs (whole_turn w s) p (new, u)
runs_turn w s _ _ _ (still_halted cause h) = subst (λ (x : Option Halt). Runs (unless_halted w s x) [] (s, Halted cause)) (sym h) refl
runs_turn w s _ _ _ (idle p1 h l) = none_after w s p1 (s, Idle) (looked_runs w s p1 [] (Some 0) (s, Idle) h l refl)
runs_turn w s _ _ _ (overflown p1 h l) = none_after w s p1 _ (looked_runs w s p1 [] None _ h l refl)
runs_turn w s _ _ _ (short p1 p2 n slots a e v) =
    subst (λ q. Runs (whole_turn w s) (p1 ++ q) (record s { halt = Some halt.ShortChain }, Halted halt.ShortChain)) (append-nil p2)
    (scanned_runs w s p1 p2 [] n slots (Err halt.ShortChain) _ a (none_left e (open_beginning slots v)) refl)
runs_turn w s _ _ _ (broken p1 p2 n slots fault a v) =
    subst (λ q. Runs (whole_turn w s) (p1 ++ q) (record s { halt = Some (halt.Chain fault) }, Halted (halt.Chain fault))) (append-nil p2)
    (scanned_runs w s p1 p2 [] n slots (Err (halt.Chain fault)) _ a (is_faulty fault (standing_fault slots fault v)) refl)
runs_turn w s _ _ _ (refused_sizes p1 p2 p6 n slots fault a v f r) =
    chain_runs w s p1 p2 p6 n slots (Err fault) _ a (standing_chain slots v) f (respond_runs w s slots Error (Refused (refusal.Size fault) 0 (length slots)) p6 r)
runs_turn w s _ _ _ (refused_grant p1 p2 p3 p6 n slots fragments a v f c r) =
    chain_runs w s p1 p2 (p3 ++ p6) n slots (Ok fragments) _ a (standing_chain slots v) f
    (join (copy w fragments []) (after_copy w s slots) p3 p6 None _ (runs_copy w fragments p3 None c) (respond_runs w s slots Error (Refused refusal.Grant 0 (length slots)) p6 r))
runs_turn w s _ _ _ (ran p p6 slots out a n r) =
    run_runs w s p p6 slots out _ a
    (subst (λ b. Runs (if b then send w s slots out.packet out.ops else respond w s slots (status_of out.number) (Ran out.number out.packet out.ops (length slots))) p6 (answered s (length slots), Ran out.number out.packet out.ops (length slots)))
    (sym (not_three out.number n)) (respond_runs w s slots (status_of out.number) (Ran out.number out.packet out.ops (length slots)) p6 r))
runs_turn w s _ _ _ (halted_rx p p5 slots out a n t) =
    subst (λ q. Runs (whole_turn w s) (p ++ q) (record s { halt = Some halt.RxProducer }, Halted halt.RxProducer)) (append-nil p5)
    (transmit_runs w s p p5 [] slots out outcome.Overflow _ a n t refl)
runs_turn w s _ _ _ (refused_few p p5 p6 slots out a n t r) =
    transmit_runs w s p p5 p6 slots out outcome.TooFew _ a n t (respond_runs w s slots Error (Refused refusal.FewSlots out.ops (length slots)) p6 r)
runs_turn w s _ _ _ (refused_rx p p5 p6 used slots out a n t r) =
    transmit_runs w s p p5 p6 slots out (outcome.Refused used) _ a n t (respond_runs w (after_slots s used) slots Error (Refused refusal.RxGrant out.ops (length slots)) p6 r)
runs_turn w s _ _ _ (ran_tx p p5 p6 used slots out a n t r) =
    transmit_runs w s p p5 p6 slots out (outcome.Sent used) _ a n t (respond_runs w (after_slots s used) slots Okay (Ran 3 out.packet out.ops (length slots)) p6 r)
