-- How many events a turn has at most, and where.
use Rattle.xen_steps.specs.Drive.{Any, IsPageWant}
use Rattle.xen_steps.specs.declared.want.Want.{Want}
use Rattle.xen_steps.specs.declared.want.Want.TheVariants as wants
use Rattle.xen_steps.proofs.DriveLemmas.{bounded_wider}
use Rattle.xen_netif.specs.declared.offload.RxOffload.TheVariants.{Whole}
use Rattle.xen_rx_fill.proofs.Bounds.{IsThere, bounded_entry_at, bounded_transmit, frame_inside}
use Rattle.xen_turns.specs.Within.{IsWithin}
use Rattle.std.proofs.Common.{◌≡◌, ℕ, zero, suc, ◌+◌, ◌-◌, ◌*◌, ◌/◌, ◌%◌, ◌<◌, ◌≤◌, ◌^◌, Bool, true, false, ◌&&◌, List, [], ◌∷◌, ◌++◌, Option, Some, None, Result, Ok, Err, refl, sym, ◌∙◌, ap, length, arith, length-append, subst, nat_lt}
use Rattle.std.specs.Prelude.{if◌then◌else◌, ◌==◌}
use Rattle.std.specs.List.{list_all}
use Rattle.std.proofs.lemmas.Bool.Decides.{nat_tests}
use Rattle.std.proofs.lemmas.List.{length-map}
use Rattle.bpf_note.specs.Shape.{Shape, AreShapes}
use Rattle.bpf_verify.specs.Consistent.{instructions}
use Rattle.bpf_vm.specs.Course.{course, course_by, start_state}
use Rattle.bpf_flow.specs.Step.{Outcome as StepOutcome, Next, Loads, Adds, Exited, Fault, step}
use Rattle.bpf_note.specs.State.{State as Machine}
use Rattle.bpf_insn.specs.declared.insn.Insn.{Insn}
use Rattle.xen_netif.specs.Chain.{Slot, more_data, extra_info, is_known_extra, requests_of, requests_after}
use Rattle.xen_netif.specs.declared.tx.TxReq.{TxReq}
use Rattle.xen_netif.specs.Fragments.{is_in_page, later_fragment, sized_fragments, slot_size, split}
use Rattle.xen_netif.specs.Segments.{offered_fragments}
use Rattle.xen_netif.specs.declared.segments.Offers.{Offers}
use Rattle.xen_netif.proofs.SegmentLemmas.{taken_of}
use Rattle.xen_netif.specs.Slots.{asks_extra}
use Rattle.xen_netif.specs.Standing.{standing, after_data, after_extra}
use Rattle.xen_netif.specs.declared.chain.ChainState.{ChainState}
use Rattle.xen_netif.specs.declared.chain.ChainState.TheVariants as wanted
use Rattle.xen_netif.specs.declared.fault.ChainFault.{ChainFault}
use Rattle.xen_netif.specs.declared.fault.ChainFault.TheVariants as chain_fault
use Rattle.xen_netif.specs.declared.fault.SizeFault.{SizeFault}
use Rattle.xen_netif.specs.declared.fault.SizeFault.TheVariants as size_fault
use Rattle.xen_netif.specs.declared.fragment.Fragment.{Fragment}
use Rattle.xen_netif.specs.declared.status.Status.{Status}
use Rattle.xen_netif.specs.declared.status.Status.TheVariants as status
use Rattle.xen_page.specs.Table.{entry_place}
use Rattle.xen_page.specs.declared.fault.GrantFault.{GrantFault}
use Rattle.xen_page.specs.declared.entry.Rights.{Rights}
use Rattle.xen_page.specs.declared.entry.Rights.TheVariants.{ReadOnly}
use Rattle.xen_ring.specs.Index.{is_due}
use Rattle.xen_steps.specs.Drive.{Bounded}
use Rattle.xen_rx_fill.specs.Wired.{IsWired}
use Rattle.xen_steps.specs.Places.{add32, available}
use Rattle.xen_steps.specs.Steps.{Steps}
use Rattle.xen_rx_fill.specs.Entries.{entry}
use Rattle.xen_turns.specs.Tree.{Left, Scan, look, seen, after_look, read_slot, read_slots, judged, after_scan, after_chain, after_copy, after_run, after_transmit, after_slots, send, answer, notice, respond, responses, answered, copy, entered, program, run_of, status_of, unless_halted, whole_turn}
use Rattle.xen_steps.specs.Pages.{copy_words, covered}
use Rattle.xen_rx_fill.specs.Transmit.{transmit}
use Rattle.xen_rx_fill.specs.declared.by_event.phase.TransmitOutcome.{TransmitOutcome}
use Rattle.xen_rx_fill.specs.declared.by_event.phase.TransmitOutcome.TheVariants as outcome
use Rattle.xen_turns.specs.Turned.{Ending, Turned, Refused, Ran}
use Rattle.xen_turns.specs.declared.turn.PacketRefusal.TheVariants as refusal
use Rattle.xen_turns.specs.declared.state.State.{State}
use Rattle.xen_turns.specs.declared.turn.Halt.{Halt}
use Rattle.xen_turns.specs.declared.wiring.Wiring.{Wiring}
use Rattle.xen_steps.proofs.DriveLemmas.{bounded_le, bounded_bind}
use Rattle.xen_turns.proofs.WalkLemmas.{IsOf, course_of}

-- how long a list of slots is that no fault ends
pub data_length : (room : ℕ) (more : Bool) (slots : List Slot) (c : ChainState) → after_data room more slots ≡ Some (Ok c) → length slots ≤ room
data_length room false [] c e = omega arith
data_length room false (s ∷ slots) c e = cc
data_length zero true slots c e = cc
data_length (suc room) true [] c e = omega arith
data_length (suc room) true (s ∷ slots) c e = omega (arith, data_length room (more_data s) slots c e)

extra_length : (room : ℕ) (asked more : Bool) (slots : List Slot) (c : ChainState) → after_extra room asked more slots ≡ Some (Ok c) → length slots ≤ room + 17
extra_length room false more slots c e = omega (arith, data_length 17 more slots c e)
extra_length zero true more slots c e = cc
extra_length (suc room) true more [] c e = omega arith
extra_length (suc room) true more (s ∷ slots) c e = by (is_known_extra s) (λ g. extra_length room (asks_extra s) more slots c g) e
  where
    by : (known : Bool) → (after_extra room (asks_extra s) more slots ≡ Some (Ok c) → length slots ≤ room + 17) →
        (if known then after_extra room (asks_extra s) more slots else Some (Err chain_fault.UnknownExtra)) ≡ Some (Ok c) → length (s ∷ slots) ≤ suc room + 17
    by true go e = omega (arith, go e)
    by false go e = cc

pub standing_length : (slots : List Slot) (c : ChainState) → standing slots ≡ Some (Ok c) → length slots ≤ 23
standing_length [] c e = omega arith
standing_length (s ∷ slots) c e = omega (arith, extra_length 5 (extra_info s) (more_data s) slots c e)

after_length : (asked : Bool) (slots : List Slot) → length (requests_after asked slots) ≡ length slots
after_length asked [] = refl
after_length true (s ∷ slots) = ap suc (after_length (asks_extra s) slots)
after_length false (s ∷ slots) = ap suc (after_length false slots)

requests_length : (slots : List Slot) → length (requests_of slots) ≡ length slots
requests_length [] = refl
requests_length (s ∷ slots) = ap suc (after_length (extra_info s) slots)

-- a chain's slots are as many as its requests
pub requests_count : (slots : List Slot) (requests : List (Option TxReq)) → requests_of slots ≡ requests → length slots ≡ length requests
requests_count slots requests h = sym (requests_length slots) ∙ ap length h

pub responses_length : (st : Status) (slots : List Slot) → length (responses st slots) ≡ length slots
responses_length st slots = length-map (requests_of slots) _ ∙ requests_length slots

-- fragments that lie in their pages
abbrev pub AllInPage : List Fragment → Type 0
AllInPage [] = Unit {0}
AllInPage (f ∷ fs) = (f.offset + f.size ≤ 4096) × AllInPage fs

all_in_page : (fs : List Fragment) → list_all is_in_page fs ≡ true → AllInPage fs
all_in_page [] h = tt
all_in_page (f ∷ fs) h = by (is_in_page f) refl (list_all is_in_page fs) refl (all_in_page fs) h
  where
    by : (a : Bool) → is_in_page f ≡ a → (b : Bool) → list_all is_in_page fs ≡ b → (list_all is_in_page fs ≡ true → AllInPage fs) → (a && b) ≡ true → AllInPage (f ∷ fs)
    by true e true g go h = (grind (arith, nat_tests), go g)
    by true e false g go h = cc
    by false e b g go h = cc

-- a chain's fragments
pub record AreFragments (slots : List Slot) (fs : List Fragment) : Type 0 where
  pub in_page : AllInPage fs
  pub count : length fs ≤ length slots

sized_are : (first : Slot) (later : List Slot) (fs : List Fragment) → sized_fragments first later ≡ Ok fs → AreFragments (first ∷ later) fs
sized_are first later fs e = by (nat_lt (slot_size first) 14) (nat_lt (slot_size first) _) (list_all is_in_page (split first later)) refl e
  where
    by : (b c d : Bool) → list_all is_in_page (split first later) ≡ d →
        (if b then Err size_fault.ShortPacket else (if c then Err size_fault.LaterSizes else (if d then Ok (split first later) else Err size_fault.PastPage))) ≡ Ok fs → AreFragments (first ∷ later) fs
    by true c d g e = cc
    by false true d g e = cc
    by false false true g e =
        let same : split first later ≡ fs = cc in
        let n : length (split first later) ≡ length (first ∷ later) = ap suc (length-map later later_fragment) in
        subst (AreFragments (first ∷ later)) same (record { in_page = all_in_page (split first later) g; count = omega (arith, n) })
    by false false false g e = cc

pub fragments_are : (o : Offers) (slots : List Slot) (fs : List Fragment) → offered_fragments o slots ≡ Ok fs → AreFragments slots fs
fragments_are o [] fs e = let same : [] ≡ fs = cc in subst (AreFragments []) same (record { in_page = tt; count = omega arith })
fragments_are o (first ∷ later) fs e =
    let t = taken_of o first later fs e in
    let a = sized_are first t.rest fs t.sized in
    record { in_page = a.in_page; count = omega (arith, a.count, t.least) }

pub covered_inside : (f : Fragment) → f.offset + f.size ≤ 4096 → f.offset / 4 + covered f ≤ 1024
covered_inside f h = by (f.size == 0) refl
  where
    by : (none : Bool) → (f.size == 0) ≡ none → f.offset / 4 + (if none then 0 else (f.offset + f.size - 1) / 4 + 1 - f.offset / 4) ≤ 1024
    by true e = omega arith
    by false e = let some : 1 ≤ f.size = grind (arith, nat_tests) in omega arith

module _ (w : Wiring) (shapes : List Shape) (h : IsWired w.vif) where
  abbrev size : ℕ
  size = length w.vif.owners.now

  abbrev within : Want → Type 0
  within = IsWithin size shapes

  tx_inside : w.vif.tx < size
  tx_inside = frame_inside w.vif w.vif.tx h.tx

  page_within : (want : Want) → IsPageWant size want → within want
  page_within (wants.Read at) p = p
  page_within (wants.Write at v) p = p
  page_within wants.Instr p = absurd p
  page_within (wants.Load m k j) p = absurd p
  page_within (wants.Add m k j d) p = absurd p
  page_within (wants.Notify port) p = tt
  page_within wants.Done p = absurd p

  bounded_sent : (x : ℕ) (packet : List ℕ) → Bounded within Any (transmit w.vif x Whole packet) 263684
  bounded_sent x packet = bounded_wider (IsPageWant size) within page_within Any (transmit w.vif x Whole packet) 263684 (bounded_transmit w.vif h x Whole packet)

  bounded_entry_within : (rights : Rights) (gref : ℕ) → Bounded within (IsThere w.vif h) (entry w.vif rights gref) 2
  bounded_entry_within rights gref =
      bounded_wider (IsPageWant size) within page_within (IsThere w.vif h) (entry w.vif rights gref) 2 (bounded_entry_at w.vif h rights gref (entry_place w.vif.table.now gref) refl)

  bounded_seen : (t : ℕ) (o : Option ℕ) → Bounded within Any (seen w t o) 2
  bounded_seen t None = tt
  bounded_seen t (Some zero) = (omega arith, (tx_inside, omega arith), λ a. (omega arith, (tx_inside, omega arith), λ p. tt))
  bounded_seen t (Some (suc n)) = tt

  bounded_look : (t : ℕ) → Bounded within Any (look w t) 3
  bounded_look t = (omega arith, (tx_inside, omega arith), λ p. bounded_seen t (available t p))

  bounded_notice : (b : Bool) (e : Ending) → Bounded within Any (notice w b e) 1
  bounded_notice false e = tt
  bounded_notice true e = (omega arith, tt, λ a. tt)

  bounded_answer : (t n i : ℕ) (rs : List ℕ) (e : Ending) → Bounded within Any (answer w t n i rs e) (length rs + 3)
  bounded_answer t n i [] e = (omega arith, (tx_inside, omega arith), λ a. (omega arith, (tx_inside, omega arith), λ v. bounded_notice (is_due t (add32 t n) v) e))
  bounded_answer t n i (r ∷ rs) e =
      (omega arith, (tx_inside, omega arith), λ a. bounded_le within Any (answer w t n (i + 1) rs e) (length rs + 3) (suc (length rs) + 3 - 1) (bounded_answer t n (i + 1) rs e) (omega arith))

  bounded_respond : (s : State) (slots : List Slot) (st : Status) (u : Turned) → length slots ≤ 23 → Bounded within Any (respond w s slots st u) 26
  bounded_respond s slots st u few =
      bounded_le within Any (respond w s slots st u) (length (responses st slots) + 3) 26 (bounded_answer s.tx_index (length slots) 0 (responses st slots) (answered s (length slots), u)) (omega (arith, responses_length st slots))

  bounded_slot : (i : ℕ) → Bounded within Any (read_slot w i) 3
  bounded_slot i = (omega arith, (tx_inside, omega arith), λ a. (omega arith, (tx_inside, omega arith), λ b. (omega arith, (tx_inside, omega arith), λ c. tt)))

  -- a chain that was read is whole
  abbrev IsRead : Scan → Type 0
  IsRead (Ok slots) = standing slots ≡ Some (Ok wanted.Complete)
  IsRead (Err cause) = Unit {0}

  bounded_judged : (n : ℕ) (slots : List Slot) (v : Option (Result ChainState ChainFault)) (rest : Steps Scan) → standing slots ≡ v → (length slots ≤ 23 → Bounded within IsRead rest n) → Bounded within IsRead (judged slots v rest) n
  bounded_judged n slots (Some (Ok wanted.Data)) rest e g = g (standing_length slots wanted.Data e)
  bounded_judged n slots (Some (Ok wanted.Extra)) rest e g = g (standing_length slots wanted.Extra e)
  bounded_judged n slots (Some (Ok wanted.Complete)) rest e g = e
  bounded_judged n slots (Some (Err fault)) rest e g = tt
  bounded_judged n slots None rest e g = tt

  bounded_slots : (t left : ℕ) (slots : List Slot) → length slots ≤ 23 → Bounded within IsRead (read_slots w t left slots) (3 * (24 - length slots))
  bounded_slots t zero slots few = tt
  bounded_slots t (suc left) slots few =
      bounded_bind within Any IsRead (read_slot w (add32 t (length slots))) _ 3 (3 * (23 - length slots)) (3 * (24 - length slots)) (bounded_slot (add32 t (length slots)))
      (λ s u. bounded_judged (3 * (23 - length slots)) (slots ++ s ∷ []) (standing (slots ++ s ∷ [])) (read_slots w t left (slots ++ s ∷ [])) refl
      (λ l. let n : 3 * (24 - length (slots ++ s ∷ [])) ≤ 3 * (23 - length slots) = omega (arith, length-append slots (s ∷ [])) in
      bounded_le within IsRead (read_slots w t left (slots ++ s ∷ [])) (3 * (24 - length (slots ++ s ∷ []))) (3 * (23 - length slots)) (bounded_slots t left (slots ++ s ∷ []) l) n))
      (omega arith)

  bounded_after_transmit : (s : State) (slots : List Slot) (packet : List ℕ) (ops : ℕ) (o : TransmitOutcome) → length slots ≤ 23 → Bounded within Any (after_transmit w s slots packet ops o) 26
  bounded_after_transmit s slots packet ops outcome.Overflow few = tt
  bounded_after_transmit s slots packet ops outcome.TooFew few = bounded_respond s slots status.Error (Refused refusal.FewSlots ops (length slots)) few
  bounded_after_transmit s slots packet ops (outcome.Refused used) few = bounded_respond (after_slots s used) slots status.Error (Refused refusal.RxGrant ops (length slots)) few
  bounded_after_transmit s slots packet ops (outcome.Sent used) few = bounded_respond (after_slots s used) slots status.Okay (Ran 3 packet ops (length slots)) few

  bounded_ran : (s : State) (slots : List Slot) (r : Left) (tx : Bool) → length slots ≤ 23 →
      Bounded within Any (if tx then send w s slots r.packet r.ops else respond w s slots (status_of r.number) (Ran r.number r.packet r.ops (length slots))) 263710
  bounded_ran s slots r true few =
      bounded_bind within Any Any (transmit w.vif s.rx_index Whole r.packet) (after_transmit w s slots r.packet r.ops) 263684 26 263710 (bounded_sent s.rx_index r.packet) (λ o u. bounded_after_transmit s slots r.packet r.ops o few) (omega arith)
  bounded_ran s slots r false few =
      bounded_le within Any (respond w s slots (status_of r.number) (Ran r.number r.packet r.ops (length slots))) 26 263710 (bounded_respond s slots (status_of r.number) (Ran r.number r.packet r.ops (length slots)) few) (omega arith)

  bounded_words : (f : Fragment) (frame place n : ℕ) (bytes : List ℕ) → frame < size → place + n ≤ 1024 → Bounded within Any (copy_words f frame place n bytes) n
  bounded_words f frame place zero bytes l m = tt
  bounded_words f frame place (suc n) bytes l m =
      (omega arith, (l, omega (arith, m)), λ v. bounded_le within Any (copy_words f frame (place + 1) n _) n (suc n - 1) (bounded_words f frame (place + 1) n _ l (omega (arith, m))) (omega arith))

  bounded_entered : (f : Fragment) (rest : List ℕ → Steps (Option (List ℕ))) (n : ℕ) (bytes : List ℕ) (r : Result ℕ GrantFault) → f.offset + f.size ≤ 4096 → IsThere w.vif h r → ((b : List ℕ) → Bounded within Any (rest b) n) →
      Bounded within Any (entered f rest bytes r) (1024 + n)
  bounded_entered f rest n bytes (Err fault) p t g = tt
  bounded_entered f rest n bytes (Ok frame) p t g =
      let inside = covered_inside f p in
      bounded_bind within Any Any (copy_words f frame (f.offset / 4) (covered f) bytes) rest (covered f) n (1024 + n) (bounded_words f frame (f.offset / 4) (covered f) bytes t inside) (λ b u. g b) (omega (arith, inside))

  bounded_copy : (fs : List Fragment) (bytes : List ℕ) → AllInPage fs → Bounded within Any (copy w fs bytes) (1026 * length fs)
  bounded_copy [] bytes p = tt
  bounded_copy (f ∷ fs) bytes p =
      bounded_bind within (IsThere w.vif h) Any (entry w.vif ReadOnly f.gref) (entered f (copy w fs) bytes) 2 (1024 + 1026 * length fs) (1026 * suc (length fs))
      (bounded_entry_within ReadOnly f.gref) (λ r t. bounded_entered f (copy w fs) (1026 * length fs) bytes r p.0 t (λ b. bounded_copy fs b p.1)) (omega arith)

  bounded_by : (code : List Insn) (n : ℕ) (s : Machine) (ops : ℕ) (go : (t : Machine) (ops : ℕ) → IsOf shapes (course n code t) → Bounded within Any (program (course n code t) ops) n) →
      (o : StepOutcome) → IsOf shapes (course_by (course n code) s o) → Bounded within Any (program (course_by (course n code) s o) ops) (suc n)
  bounded_by code n s ops go (Next t) k = (omega arith, tt, λ a. bounded_le within Any (program (course n code t) ops) n (suc n - 1) (go t ops k) (omega arith))
  bounded_by code n s ops go (Loads m i j to) k =
      (omega arith, k.0, λ v. bounded_le within Any (program (course n code (to (v % 2 ^ 64))) (ops + 1)) n (suc n - 1) (go (to (v % 2 ^ 64)) (ops + 1) (k.1 v)) (omega arith))
  bounded_by code n s ops go (Adds m i j d to) k =
      (omega arith, k.0, λ v. bounded_le within Any (program (course n code (to (v % 2 ^ 64))) (ops + 1)) n (suc n - 1) (go (to (v % 2 ^ 64)) (ops + 1) (k.1 v)) (omega arith))
  bounded_by code n s ops go (Exited x) k = (omega arith, tt, λ a. tt)
  bounded_by code n s ops go Fault k = tt

  bounded_program : (code : List Insn) (n : ℕ) (s : Machine) (ops : ℕ) → IsOf shapes (course n code s) → Bounded within Any (program (course n code s) ops) n
  bounded_program code zero s ops k = tt
  bounded_program code (suc n) s ops k = bounded_by code n s ops (λ t o q. bounded_program code n t o q) (step code s) k

  module _ (maps : AreShapes shapes) (same : w.program.now.shapes ≡ shapes) where
    abbrev steps : ℕ
    steps = instructions w.program.now.code

    bounded_run : (packet : List ℕ) → Bounded within Any (program (run_of w packet) 0) steps
    bounded_run packet =
        let start = start_state w.program.now.shapes w.lists.now packet w.ifindex w.queue in
        bounded_program w.program.now.code steps start 0 (course_of w.program.now.code steps shapes start same maps)

    bounded_after_copy : (s : State) (slots : List Slot) (o : Option (List ℕ)) → length slots ≤ 23 → Bounded within Any (after_copy w s slots o) (steps + 263710)
    bounded_after_copy s slots None few = bounded_le within Any (after_copy w s slots None) 26 (steps + 263710) (bounded_respond s slots status.Error (Refused refusal.Grant 0 (length slots)) few) (omega arith)
    bounded_after_copy s slots (Some packet) few =
        bounded_bind within Any Any (program (run_of w packet) 0) (after_run w s slots) steps 263710 (steps + 263710) (bounded_run packet) (λ r u. bounded_ran s slots r (r.number == 3) few) (omega arith)

    bounded_after_chain : (s : State) (slots : List Slot) (o : Result (List Fragment) SizeFault) → offered_fragments w.offers slots ≡ o → length slots ≤ 23 → Bounded within Any (after_chain w s slots o) (23598 + (steps + 263710))
    bounded_after_chain s slots (Err fault) e few = bounded_le within Any (after_chain w s slots (Err fault)) 26 (23598 + (steps + 263710)) (bounded_respond s slots status.Error (Refused (refusal.Size fault) 0 (length slots)) few) (omega arith)
    bounded_after_chain s slots (Ok fs) e few =
        let a = fragments_are w.offers slots fs e in
        bounded_bind within Any Any (copy w fs []) (after_copy w s slots) (1026 * length fs) (steps + 263710) (23598 + (steps + 263710)) (bounded_copy fs [] a.in_page) (λ o u. bounded_after_copy s slots o few) (omega (arith, a.count))

    bounded_after_scan : (s : State) (x : Scan) → IsRead x → Bounded within Any (after_scan w s x) (23598 + (steps + 263710))
    bounded_after_scan s (Err cause) r = tt
    bounded_after_scan s (Ok slots) r = bounded_after_chain s slots (offered_fragments w.offers slots) refl (standing_length slots wanted.Complete r)

    bounded_after_look : (s : State) (o : Option ℕ) → Bounded within Any (after_look w s o) (72 + (23598 + (steps + 263710)))
    bounded_after_look s None = tt
    bounded_after_look s (Some zero) = tt
    bounded_after_look s (Some (suc n)) =
        bounded_bind within IsRead Any (read_slots w s.tx_index (suc n) []) (after_scan w s) 72 (23598 + (steps + 263710)) (72 + (23598 + (steps + 263710))) (bounded_slots s.tx_index (suc n) [] (omega arith)) (λ x r. bounded_after_scan s x r) (omega arith)

    bounded_unless : (s : State) (o : Option Halt) → Bounded within Any (unless_halted w s o) (287383 + steps)
    bounded_unless s (Some cause) = tt
    bounded_unless s None =
        bounded_bind within Any Any (look w s.tx_index) (after_look w s) 3 (72 + (23598 + (steps + 263710))) (287383 + steps) (bounded_look s.tx_index) (λ o u. bounded_after_look s o) (omega arith)

    pub bounded_turn : (s : State) → Bounded within Any (whole_turn w s) (287383 + steps)
    bounded_turn s = bounded_unless s s.halt
