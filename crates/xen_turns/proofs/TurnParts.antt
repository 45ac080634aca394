-- Each run of a whole turn is a turn.
use Rattle.xen_turns.proofs.ChainLemmas.{beginning_by, chain_by, fault_by, is_open}
use Rattle.std.proofs.Common.{◌≡◌, ℕ, zero, suc, ◌+◌, ◌<◌, ◌≤◌, ◌^◌, Bool, true, false, IsTrue, List, [], ◌∷◌, ◌++◌, Option, Some, None, Result, Ok, Err, refl, sym, ◌∙◌, ap, length, take, arith, append_assoc, length-append, subst}
use Rattle.std.specs.Prelude.{◌==◌, if◌then◌else◌}
use Rattle.std.proofs.lemmas.Bool.Decides.{nat_tests}
use Rattle.std.proofs.lemmas.List.{append-nil}
use Rattle.xen_netif.specs.Chain.{Slot}
use Rattle.xen_netif.specs.Segments.{offered_fragments}
use Rattle.xen_netif.specs.Standing.{standing}
use Rattle.xen_netif.specs.declared.chain.ChainState.{ChainState}
use Rattle.xen_netif.specs.declared.chain.ChainState.TheVariants as wanted
use Rattle.xen_netif.specs.declared.fault.ChainFault.{ChainFault}
use Rattle.xen_netif.specs.declared.fault.SizeFault.{SizeFault}
use Rattle.xen_netif.specs.declared.fragment.Fragment.{Fragment}
use Rattle.xen_netif.specs.declared.status.Status.{Status}
use Rattle.xen_netif.specs.declared.status.Status.TheVariants.{Okay, Error}
use Rattle.xen_ring.specs.Index.{is_due}
use Rattle.xen_steps.specs.Event.{Event, Read, Write}
use Rattle.xen_steps.specs.Places.{add32, available}
use Rattle.xen_netif.specs.declared.offload.RxOffload.TheVariants.{Whole}
use Rattle.xen_rx_fill.specs.Places.{tx_slot, tx_word}
use Rattle.xen_steps.specs.Steps.{Runs}
use Rattle.xen_turns.specs.Tree.{Left, Scan, look, seen, after_look, read_slot, read_slots, judged, after_scan, after_chain, after_copy, after_run, after_transmit, after_slots, send, answer, notice, respond, responses, answered, copy, program, run_of, status_of, unless_halted, whole_turn}
use Rattle.xen_turns.specs.Turned.{Ending, Turned, Ran, Refused}
use Rattle.xen_turns.specs.Parts.{IsLook, once, twice, slot_reads, slots_reads, IsSlotRead, AllWords, IsCopy, response_writes, IsRespond, HasRead}
use Rattle.xen_rx_fill.specs.Shared.{notices}
use Rattle.xen_rx_fill.specs.Transmit.{transmit}
use Rattle.xen_turns.specs.Turns.{HasRun, IsTurn, still_halted, idle, overflown, short, broken, refused_sizes, refused_grant, ran, halted_rx, refused_few, refused_rx, ran_tx}
use Rattle.xen_rx_fill.specs.Sending.{IsTransmit}
use Rattle.xen_rx_fill.specs.declared.by_event.phase.TransmitOutcome.{TransmitOutcome}
use Rattle.xen_rx_fill.specs.declared.by_event.phase.TransmitOutcome.TheVariants as outcome
use Rattle.xen_turns.specs.declared.state.State.{State}
use Rattle.xen_turns.specs.declared.turn.Halt.{Halt}
use Rattle.xen_turns.specs.declared.turn.Halt.TheVariants as halt
use Rattle.xen_turns.specs.declared.turn.PacketRefusal.TheVariants as refusal
use Rattle.xen_turns.specs.declared.wiring.Wiring.{Wiring}
use Rattle.xen_turns.proofs.CopyParts.{copy_parts}
use Rattle.xen_turns.proofs.ProgramLemmas.{program_parts}
use Rattle.xen_rx_fill.proofs.SendParts.{transmit_parts}
use Rattle.xen_steps.proofs.StepsLemmas.{split}

-- a program's run on a packet that was read and copied, from its parts
abbrev pub run_parts : (w : Wiring) (s : State) (p1 p2 p3 p4 : List Event) (n : ℕ) (slots : List Slot) (fragments : List Fragment) (bytes : List ℕ) (out : Left) →
    HasRead w s n p1 p2 slots → standing slots ≡ Some (Ok wanted.Complete) → offered_fragments w.offers slots ≡ Ok fragments → IsCopy w fragments p3 (Some bytes) →
    Runs (program (run_of w bytes) 0) p4 out → HasRun w s (p1 ++ (p2 ++ (p3 ++ p4))) slots out
run_parts w s p1 p2 p3 p4 n slots fragments bytes out read whole sizes copied done = record {
  looks = p1;
  reads = p2;
  copies = p3;
  runs = p4;
  joined = refl;
  n = n;
  fragments = fragments;
  packet = bytes;
  read = read;
  whole = chain_by slots whole;
  sizes = sizes;
  copied = copied;
  ran = program_parts w bytes p4 out done;
}

-- looking
seen_parts : (w : Wiring) (t p : ℕ) (tr : List Event) (o x : Option ℕ) → p < 2 ^ 32 → available t p ≡ x → Runs (seen w t x) tr o → IsLook w t (Read (tx_word w.vif 0) p ∷ tr) o
seen_parts w t p [] o None l e h = rw (← (e ∙ h)) (once p l (λ z. cc))
seen_parts w t p (y ∷ tr) o None l e h = absurd h
seen_parts w t p [] o (Some zero) l e h = absurd h
seen_parts w t p (x ∷ []) o (Some zero) l e h = absurd h.2
seen_parts w t p (x ∷ y ∷ []) o (Some zero) l e h = rw (h.1.1, h.2.1.1, ← h.2.2) (twice p h.2.0 l h.2.1.0 e)
seen_parts w t p (x ∷ y ∷ z ∷ tr) o (Some zero) l e h = absurd h.2.2
seen_parts w t p [] o (Some (suc n)) l e h = rw (← (e ∙ h)) (once p l (λ z. cc))
seen_parts w t p (x ∷ tr) o (Some (suc n)) l e h = absurd h

look_parts : (w : Wiring) (t : ℕ) (p : List Event) (o : Option ℕ) → Runs (look w t) p o → IsLook w t p o
look_parts w t [] o h = absurd h
look_parts w t (e ∷ p) o h = rw h.1.1 (seen_parts w t h.0 p o (available t h.0) h.1.0 refl h.2)

-- one slot
slot_parts : (w : Wiring) (i : ℕ) (p : List Event) (s : Slot) → Runs (read_slot w i) p s → (p ≡ slot_reads w i s) × IsSlotRead s
slot_parts w i [] s h = absurd h
slot_parts w i (x ∷ []) s h = absurd h.2
slot_parts w i (x ∷ y ∷ []) s h = absurd h.2.2
slot_parts w i (x ∷ y ∷ z ∷ []) s h = rw (h.1.1, h.2.1.1, h.2.2.1.1, ← h.2.2.2) (refl, (h.1.0, h.2.1.0, h.2.2.1.0))
slot_parts w i (x ∷ y ∷ z ∷ u ∷ p) s h = absurd h.2.2.2

-- responses and the push
notice_parts : (w : Wiring) (b : Bool) (e : Ending) (p : List Event) (r : Ending) → Runs (notice w b e) p r → (p ≡ notices w.vif b) × (e ≡ r)
notice_parts w false e [] r h = (refl, h)
notice_parts w false e (x ∷ p) r h = absurd h
notice_parts w true e [] r h = absurd h
notice_parts w true e (x ∷ []) r h = (rw h.1.1 refl, h.2)
notice_parts w true e (x ∷ y ∷ p) r h = absurd h.2

answer_parts : (w : Wiring) (t n i : ℕ) (rs : List ℕ) (e : Ending) (p : List Event) (r : Ending) → Runs (answer w t n i rs e) p r →
    ((v : ℕ) × (v < 2 ^ 32) × (p ≡ response_writes w t i rs ++ Write (tx_word w.vif 2) (add32 t n) ∷ Read (tx_word w.vif 3) v ∷ notices w.vif (is_due t (add32 t n) v))) × (e ≡ r)
answer_parts w t n i [] e [] r h = absurd h
answer_parts w t n i [] e (x ∷ []) r h = absurd h.2
answer_parts w t n i [] e (x ∷ y ∷ p) r h =
    let q = notice_parts w (is_due t (add32 t n) h.2.0) e p r h.2.2 in
    ((h.2.0, h.2.1.0, rw (h.1.1, h.2.1.1, q.0) refl), q.1)
answer_parts w t n i (v ∷ rs) e [] r h = absurd h
answer_parts w t n i (v ∷ rs) e (x ∷ p) r h =
    let q = answer_parts w t n (i + 1) rs e p r h.2 in
    ((q.0.0, q.0.1, rw h.1.1 (ap (λ l. Write (tx_slot w.vif (add32 t i) 0) v ∷ l) q.0.2)), q.1)

respond_parts : (w : Wiring) (s : State) (slots : List Slot) (st : Status) (u : Turned) (p : List Event) (r : Ending) → Runs (respond w s slots st u) p r →
    IsRespond w s.tx_index slots st p × (◌≡◌ {A = Ending} (answered s (length slots), u) r)
respond_parts w s slots st u p r h = answer_parts w s.tx_index (length slots) 0 (responses st slots) (answered s (length slots), u) p r h

-- the slots that a scan reads after those before, and how it ends
pub data ScanEnds (left : ℕ) (slots more : List Slot) : Scan → Type 0 where
  is_whole : standing (slots ++ more) ≡ Some (Ok wanted.Complete) → ScanEnds left slots more (Ok (slots ++ more))
  is_faulty : (fault : ChainFault) → standing (slots ++ more) ≡ Some (Err fault) → ScanEnds left slots more (Err (halt.Chain fault))
  none_left : length more ≡ left → IsTrue (is_open (standing (slots ++ more))) → ScanEnds left slots more (Err halt.ShortChain)

pub record Scanned (w : Wiring) (t left : ℕ) (slots : List Slot) (p : List Event) (x : Scan) : Type 0 where
  pub more : List Slot
  pub reads : p ≡ slots_reads w t (length slots) more
  pub words : AllWords more
  pub wanted : (k : ℕ) → k < length more → IsTrue (is_open (standing (slots ++ take k more)))
  pub within : length more ≤ left
  pub ends : ScanEnds left slots more x

pub shift : (slots : List Slot) (s : Slot) (more : List Slot) → (slots ++ s ∷ []) ++ more ≡ slots ++ s ∷ more
shift slots s more = append_assoc slots (s ∷ []) more

ends_shift : (left : ℕ) (slots : List Slot) (s : Slot) (more : List Slot) (x : Scan) → ScanEnds left (slots ++ s ∷ []) more x → ScanEnds (suc left) slots (s ∷ more) x
ends_shift left slots s more _ (is_whole h) = rw (shift slots s more) (is_whole (rw (shift slots s more) at h))
ends_shift left slots s more _ (is_faulty c h) = is_faulty c (rw (shift slots s more) at h)
ends_shift left slots s more _ (none_left l h) = none_left (omega arith) (rw (shift slots s more) at h)

pub open_none : (slots : List Slot) → IsTrue (is_open (standing slots)) → IsTrue (is_open (standing (slots ++ [])))
open_none slots h = subst (λ (l : List Slot). IsTrue (is_open (standing l))) (sym (append-nil slots)) h

take_shift : (slots : List Slot) (s : Slot) (more : List Slot) (n : ℕ) → IsTrue (is_open (standing slots)) → ((k : ℕ) → k < n → IsTrue (is_open (standing ((slots ++ s ∷ []) ++ take k more)))) →
    (k : ℕ) → k < suc n → IsTrue (is_open (standing (slots ++ take k (s ∷ more))))
take_shift slots s more n v g zero l = open_none slots v
take_shift slots s more n v g (suc k) l = subst (λ (l : List Slot). IsTrue (is_open (standing l))) (shift slots s (take k more)) (g k (omega arith))

pub length_more : (slots : List Slot) (s : Slot) → length (slots ++ s ∷ []) ≡ length slots + 1
length_more slots s = length-append slots (s ∷ [])

module _ (w : Wiring) (t left : ℕ) (slots : List Slot) (s : Slot) (back : List Event) (x : Scan) (old : IsTrue (is_open (standing slots))) (p : List Event)
    (j : p ≡ slot_reads w (add32 t (length slots)) s ++ back) (ws : IsSlotRead s) where
  go_on : Scanned w t left (slots ++ s ∷ []) back x → Scanned w t (suc left) slots p x
  go_on r = record {
    more = s ∷ r.more;
    reads = j ∙ ap (λ b. slot_reads w (add32 t (length slots)) s ++ b) (r.reads ∙ ap (λ i. slots_reads w t i r.more) (length_more slots s));
    words = (ws, r.words);
    wanted = take_shift slots s r.more (length r.more) old r.wanted;
    within = omega (arith, r.within);
    ends = ends_shift left slots s r.more x r.ends;
  }

  stop : (y : Scan) → back ≡ [] → y ≡ x → ScanEnds (suc left) slots (s ∷ []) y → Scanned w t (suc left) slots p x
  stop y none e ends = record {
    more = s ∷ [];
    reads = j ∙ ap (λ b. slot_reads w (add32 t (length slots)) s ++ b) none;
    words = (ws, tt);
    wanted = take_shift slots s [] 0 old (λ k l. absurd (omega arith));
    within = omega arith;
    ends = subst (ScanEnds (suc left) slots (s ∷ [])) e ends;
  }

judged_parts : (w : Wiring) (t left : ℕ) (slots : List Slot) (s : Slot) (back : List Event) (x : Scan) → IsTrue (is_open (standing slots)) → (v : Option (Result ChainState ChainFault)) → standing (slots ++ s ∷ []) ≡ v →
    (p : List Event) → p ≡ slot_reads w (add32 t (length slots)) s ++ back → IsSlotRead s →
    (IsTrue (is_open (standing (slots ++ s ∷ []))) → Runs (read_slots w t left (slots ++ s ∷ [])) back x → Scanned w t left (slots ++ s ∷ []) back x) →
    Runs (judged (slots ++ s ∷ []) v (read_slots w t left (slots ++ s ∷ []))) back x → Scanned w t (suc left) slots p x
judged_parts w t left slots s back x old (Some (Ok wanted.Data)) e p j ws go h = go_on w t left slots s back x old p j ws (go (rw e refl) h)
judged_parts w t left slots s back x old (Some (Ok wanted.Extra)) e p j ws go h = go_on w t left slots s back x old p j ws (go (rw e refl) h)
judged_parts w t left slots s [] x old (Some (Ok wanted.Complete)) e p j ws go h = stop w t left slots s [] x old p j ws (Ok (slots ++ s ∷ [])) refl h (is_whole e)
judged_parts w t left slots s (y ∷ back) x old (Some (Ok wanted.Complete)) e p j ws go h = absurd h
judged_parts w t left slots s [] x old (Some (Err fault)) e p j ws go h = stop w t left slots s [] x old p j ws (Err (halt.Chain fault)) refl h (is_faulty fault e)
judged_parts w t left slots s (y ∷ back) x old (Some (Err fault)) e p j ws go h = absurd h
judged_parts w t left slots s back x old None e p j ws go h = absurd h

pub slots_parts : (w : Wiring) (t left : ℕ) (slots : List Slot) (p : List Event) (x : Scan) → IsTrue (is_open (standing slots)) → Runs (read_slots w t left slots) p x → Scanned w t left slots p x
slots_parts w t zero slots [] x v h =
    rw (← h) (record { more = []; reads = refl; words = tt; wanted = λ k l. absurd (omega arith); within = omega arith; ends = none_left refl (open_none slots v) })
slots_parts w t zero slots (e ∷ p) x v h = absurd h
slots_parts w t (suc left) slots p x v h =
    let i = split (read_slot w (add32 t (length slots))) (λ s. judged (slots ++ s ∷ []) (standing (slots ++ s ∷ [])) (read_slots w t left (slots ++ s ∷ []))) p x h in
    let one = slot_parts w (add32 t (length slots)) i.front i.mid i.first in
    judged_parts w t left slots i.mid i.back x v (standing (slots ++ i.mid ∷ [])) refl p (i.joined ∙ ap (λ f. f ++ i.back) one.0) one.1 (λ o g. slots_parts w t left (slots ++ i.mid ∷ []) i.back x o g) i.later

pub regroup : (p1 p2 p3 p4 q : List Event) → p1 ++ (p2 ++ (p3 ++ (p4 ++ q))) ≡ (p1 ++ (p2 ++ (p3 ++ p4))) ++ q
regroup p1 p2 p3 p4 q =
    sym (append_assoc p1 (p2 ++ (p3 ++ p4)) q
    ∙ ap (λ l. p1 ++ l) (append_assoc p2 (p3 ++ p4) q ∙ ap (λ l. p2 ++ l) (append_assoc p3 p4 q)))

-- an end: what a computation that is done gives
ended : (w : Wiring) (s : State) (p : List Event) (r : Ending) (a : State) (b : Turned) → ◌≡◌ {A = Ending} (a, b) r → IsTurn w s p a b → IsTurn w s p r.0 r.1
ended w s p r a b h t = subst (λ (z : Ending). IsTurn w s p z.0 z.1) h t

-- the rows
module _ (w : Wiring) (s : State) where
  transmit_rows : (p p5 p6 : List Event) (slots : List Slot) (out : Left) (o : TransmitOutcome) (r : Ending) → HasRun w s p slots out → out.number ≡ 3 → IsTransmit w.vif s.rx_index Whole out.packet p5 o →
      Runs (after_transmit w s slots out.packet out.ops o) p6 r → IsTurn w s (p ++ (p5 ++ p6)) r.0 r.1
  transmit_rows p p5 [] slots out outcome.Overflow r a n t h = ended w s (p ++ (p5 ++ [])) r _ _ h (rw append-nil (halted_rx p p5 slots out a n t))
  transmit_rows p p5 (e ∷ p6) slots out outcome.Overflow r a n t h = absurd h
  transmit_rows p p5 p6 slots out outcome.TooFew r a n t h =
      let q = respond_parts w s slots Error (Refused refusal.FewSlots out.ops (length slots)) p6 r h in
      ended w s (p ++ (p5 ++ p6)) r _ _ q.1 (refused_few p p5 p6 slots out a n t q.0)
  transmit_rows p p5 p6 slots out (outcome.Refused used) r a n t h =
      let q = respond_parts w (after_slots s used) slots Error (Refused refusal.RxGrant out.ops (length slots)) p6 r h in
      ended w s (p ++ (p5 ++ p6)) r _ _ q.1 (refused_rx p p5 p6 used slots out a n t q.0)
  transmit_rows p p5 p6 slots out (outcome.Sent used) r a n t h =
      let q = respond_parts w (after_slots s used) slots Okay (Ran 3 out.packet out.ops (length slots)) p6 r h in
      ended w s (p ++ (p5 ++ p6)) r _ _ q.1 (ran_tx p p5 p6 used slots out a n t q.0)

  run_rows : (p q : List Event) (slots : List Slot) (out : Left) (r : Ending) → HasRun w s p slots out → (tx : Bool) → (out.number == 3) ≡ tx →
      Runs (if tx then send w s slots out.packet out.ops else respond w s slots (status_of out.number) (Ran out.number out.packet out.ops (length slots))) q r → IsTurn w s (p ++ q) r.0 r.1
  run_rows p q slots out r a true e h =
      let i = split (transmit w.vif s.rx_index Whole out.packet) (after_transmit w s slots out.packet out.ops) q r h in
      rw i.joined (transmit_rows p i.front i.back slots out i.mid r a (grind (arith, nat_tests)) (transmit_parts w.vif s.rx_index Whole out.packet i.front i.mid i.first) i.later)
  run_rows p q slots out r a false e h =
      let g = respond_parts w s slots (status_of out.number) (Ran out.number out.packet out.ops (length slots)) q r h in
      ended w s (p ++ q) r _ _ g.1 (ran p q slots out a (grind (arith, nat_tests)) g.0)

  program_rows : (p1 p2 p3 p : List Event) (n : ℕ) (slots : List Slot) (fragments : List Fragment) (r : Ending) → HasRead w s n p1 p2 slots → standing slots ≡ Some (Ok wanted.Complete) → offered_fragments w.offers slots ≡ Ok fragments →
      (o : Option (List ℕ)) → IsCopy w fragments p3 o → Runs (after_copy w s slots o) p r → IsTurn w s (p1 ++ (p2 ++ (p3 ++ p))) r.0 r.1
  program_rows p1 p2 p3 p n slots fragments r a v f None c h =
      let q = respond_parts w s slots Error (Refused refusal.Grant 0 (length slots)) p r h in
      ended w s (p1 ++ (p2 ++ (p3 ++ p))) r _ _ q.1 (refused_grant p1 p2 p3 p n slots fragments a (chain_by slots v) f c q.0)
  program_rows p1 p2 p3 p n slots fragments r a v f (Some bytes) c h =
      let i = split (program (run_of w bytes) 0) (after_run w s slots) p r h in
      let run = run_parts w s p1 p2 p3 i.front n slots fragments bytes i.mid a v f c i.first in
      subst (λ t. IsTurn w s t r.0 r.1) (sym (ap (λ q. p1 ++ (p2 ++ (p3 ++ q))) i.joined ∙ regroup p1 p2 p3 i.front i.back))
      (run_rows (p1 ++ (p2 ++ (p3 ++ i.front))) i.back slots i.mid r run (i.mid.number == 3) refl i.later)

  chain_rows : (p1 p2 p : List Event) (n : ℕ) (slots : List Slot) (r : Ending) → HasRead w s n p1 p2 slots → standing slots ≡ Some (Ok wanted.Complete) →
      (o : Result (List Fragment) SizeFault) → offered_fragments w.offers slots ≡ o → Runs (after_chain w s slots o) p r → IsTurn w s (p1 ++ (p2 ++ p)) r.0 r.1
  chain_rows p1 p2 p n slots r a v (Err fault) f h =
      let q = respond_parts w s slots Error (Refused (refusal.Size fault) 0 (length slots)) p r h in
      ended w s (p1 ++ (p2 ++ p)) r _ _ q.1 (refused_sizes p1 p2 p n slots fault a (chain_by slots v) f q.0)
  chain_rows p1 p2 p n slots r a v (Ok fragments) f h =
      let i = split (copy w fragments []) (after_copy w s slots) p r h in
      rw i.joined (program_rows p1 p2 i.front i.back n slots fragments r a v f i.mid (copy_parts w fragments i.front i.mid i.first) i.later)

  scan_rows : (p1 p2 p : List Event) (n : ℕ) (slots : List Slot) (x : Scan) (r : Ending) → HasRead w s n p1 p2 slots → ScanEnds n [] slots x → Runs (after_scan w s x) p r → IsTurn w s (p1 ++ (p2 ++ p)) r.0 r.1
  scan_rows p1 p2 p n slots _ r a (is_whole v) h = chain_rows p1 p2 p n slots r a v (offered_fragments w.offers slots) refl h
  scan_rows p1 p2 [] n slots _ r a (is_faulty fault v) h = ended w s (p1 ++ (p2 ++ [])) r _ _ h (rw append-nil (broken p1 p2 n slots fault a (fault_by slots fault v)))
  scan_rows p1 p2 (y ∷ p) n slots _ r a (is_faulty fault v) h = absurd h
  scan_rows p1 p2 [] n slots _ r a (none_left e v) h = ended w s (p1 ++ (p2 ++ [])) r _ _ h (rw append-nil (short p1 p2 n slots a e (beginning_by slots v)))
  scan_rows p1 p2 (y ∷ p) n slots _ r a (none_left e v) h = absurd h

  look_rows : s.halt ≡ None → (p1 p : List Event) (o : Option ℕ) (r : Ending) → IsLook w s.tx_index p1 o → Runs (after_look w s o) p r → IsTurn w s (p1 ++ p) r.0 r.1
  look_rows running p1 [] None r l h = ended w s (p1 ++ []) r _ _ h (rw append-nil (overflown p1 running l))
  look_rows running p1 (y ∷ p) None r l h = absurd h
  look_rows running p1 [] (Some zero) r l h = ended w s (p1 ++ []) r _ _ h (rw append-nil (idle p1 running l))
  look_rows running p1 (y ∷ p) (Some zero) r l h = absurd h
  look_rows running p1 p (Some (suc n)) r l h =
      let i = split (read_slots w s.tx_index (suc n) []) (after_scan w s) p r h in
      let c = slots_parts w s.tx_index (suc n) [] i.front i.mid refl i.first in
      rw i.joined (scan_rows p1 i.front i.back (suc n) c.more i.mid r
      (record { running = running; look = l; some = omega arith; read = record { reads = c.reads; words = c.words; wanted = λ k l. beginning_by (take k c.more) (c.wanted k l); within = c.within } }) c.ends i.later)

unless_parts : (w : Wiring) (s : State) (o : Option Halt) (p : List Event) (r : Ending) → s.halt ≡ o → Runs (unless_halted w s o) p r → IsTurn w s p r.0 r.1
unless_parts w s (Some cause) [] r e h = ended w s [] r _ _ h (still_halted cause e)
unless_parts w s (Some cause) (x ∷ p) r e h = absurd h
unless_parts w s None p r e h =
    let i = split (look w s.tx_index) (after_look w s) p r h in
    rw i.joined (look_rows w s e i.front i.back i.mid r (look_parts w s.tx_index i.front i.mid i.first) i.later)

pub turn_parts : (w : Wiring) (s : State) (p : List Event) (new : State) (u : Turned) → Runs (whole_turn w s) p (new, u) → IsTurn w s p new u
turn_parts w s p new u h = unless_parts w s s.halt p (new, u) refl h
