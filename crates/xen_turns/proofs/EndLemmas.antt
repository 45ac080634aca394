-- A turn ends, whatever it is answered, and so a queue between turns has a rest.
use Rattle.xen_turns.proofs.ChainLemmas.{is_open}
use Rattle.xen_steps.proofs.FinishLemmas.{ends_bind, ends_by, ends_gone, finishes_any, some_run}
use Rattle.xen_netif.specs.declared.offload.RxOffload.TheVariants.{Whole}
use Rattle.xen_rx_fill.proofs.EndLemmas.{ends_entry, ends_transmit}
use Rattle.std.proofs.Common.{◌≡◌, ℕ, zero, suc, ◌+◌, ◌%◌, ◌<◌, ◌^◌, Bool, true, false, IsTrue, List, [], ◌∷◌, ◌++◌, Option, Some, None, Result, Ok, Err, refl, length, arith, subst, take, drop, ◌≤◌, sum_by}
use Rattle.std.specs.Prelude.{if◌then◌else◌, ◌==◌, slice_index}
use Rattle.std.proofs.lemmas.Bool.Decides.{nat_tests}
use Rattle.std.specs.Int.{w32, to_le_bytes}
use Rattle.bpf_note.specs.State.{context_start, stack_end, start_register}
use Rattle.bpf_verify.specs.Consistent.{IsConsistent}
use Rattle.bpf_vm.proofs.CourseLemmas.{accepted_ends}
use Rattle.xen_steps.specs.Drive.{LedBy}
use Rattle.bpf_vm.specs.Course.{start_state, Course, Exiting, Stepping, Loading, Adding, Broken, IsWhole}
use Rattle.xen_netif.specs.Chain.{Slot, more_data, extra_info, is_known_extra}
use Rattle.xen_netif.specs.Copy.{bytes_of, copy_of}
use Rattle.xen_netif.specs.Fragments.{fragment_size}
use Rattle.xen_netif.specs.Segments.{offered_fragments}
use Rattle.xen_netif.specs.Slots.{asks_extra}
use Rattle.xen_netif.specs.Standing.{standing, after_data, after_extra}
use Rattle.xen_netif.specs.declared.chain.ChainState.{ChainState}
use Rattle.xen_netif.specs.declared.chain.ChainState.TheVariants as wanted
use Rattle.xen_netif.specs.declared.fault.ChainFault.{ChainFault}
use Rattle.xen_netif.specs.declared.fault.ChainFault.TheVariants as fault
use Rattle.xen_netif.specs.declared.fault.SizeFault.{SizeFault}
use Rattle.xen_netif.specs.declared.fragment.Fragment.{Fragment}
use Rattle.xen_netif.specs.declared.status.Status.{Status}
use Rattle.xen_netif.specs.declared.status.Status.TheVariants as status
use Rattle.xen_page.specs.declared.fault.GrantFault.{GrantFault}
use Rattle.xen_page.specs.Table.{entry_place}
use Rattle.xen_page.specs.declared.entry.Rights.TheVariants.{ReadOnly}
use Rattle.xen_ring.specs.Index.{is_due}
use Rattle.xen_steps.specs.Finish.{Ends}
use Rattle.xen_steps.specs.Event.{Event}
use Rattle.xen_steps.specs.Places.{add32, available}
use Rattle.xen_steps.specs.Steps.{Steps, Runs}
use Rattle.xen_rx_fill.specs.Entries.{entry}
use Rattle.xen_turns.specs.Tree.{Left, Scan, look, seen, after_look, read_slot, read_slots, judged, after_scan, after_chain, after_copy, after_run, after_transmit, after_slots, send, answer, notice, respond, responses, answered, copy, entered, program, run_of, status_of, unless_halted, whole_turn}
use Rattle.xen_steps.specs.Pages.{copy_words, covered}
use Rattle.xen_turns.specs.Turned.{Ending, Turned, Ran, Refused}
use Rattle.xen_turns.specs.Parts.{AllWords, IsCopy, behind, copied, denied, part}
use Rattle.xen_rx_fill.specs.Transmit.{transmit}
use Rattle.xen_rx_fill.specs.declared.by_event.phase.TransmitOutcome.{TransmitOutcome}
use Rattle.xen_rx_fill.specs.declared.by_event.phase.TransmitOutcome.TheVariants as outcome
use Rattle.xen_turns.specs.declared.state.State.{State}
use Rattle.xen_turns.specs.declared.turn.Halt.{Halt}
use Rattle.xen_turns.specs.declared.turn.PacketRefusal.TheVariants as refusal
use Rattle.xen_turns.specs.declared.wiring.Wiring.{Wiring}
use Rattle.xen_steps.specs.Drive.{Any}
use Rattle.xen_turns.proofs.CopyParts.{copy_parts}
use Rattle.xen_turns.proofs.Figures.{IsShort, chain_few, copy_short}
use Rattle.xen_turns.proofs.TurnParts.{ScanEnds, is_whole, is_faulty, none_left, slots_parts}

-- a list that wants more stands somewhere with one more
data_some : (room : ℕ) (more : Bool) → (r : Result ChainState ChainFault) × (after_data room more [] ≡ Some r)
data_some room false = (Ok wanted.Complete, refl)
data_some zero true = (Err fault.TooManySlots, refl)
data_some (suc room) true = (Ok wanted.Data, refl)

data_more : (room : ℕ) (more : Bool) (slots : List Slot) (s : Slot) → IsTrue (is_open (after_data room more slots)) → (r : Result ChainState ChainFault) × (after_data room more (slots ++ s ∷ []) ≡ Some r)
data_more room false [] s h = cc
data_more room false (x ∷ slots) s h = cc
data_more zero true slots s h = cc
data_more (suc room) true [] s h = data_some room (more_data s)
data_more (suc room) true (x ∷ slots) s h = data_more room (more_data x) slots s h

extra_some : (room : ℕ) (asked more : Bool) → (r : Result ChainState ChainFault) × (after_extra room asked more [] ≡ Some r)
extra_some room false more = data_some 17 more
extra_some zero true more = (Err fault.TooManyExtras, refl)
extra_some (suc room) true more = (Ok wanted.Extra, refl)

extra_more : (room : ℕ) (asked more : Bool) (slots : List Slot) (s : Slot) → IsTrue (is_open (after_extra room asked more slots)) → (r : Result ChainState ChainFault) × (after_extra room asked more (slots ++ s ∷ []) ≡ Some r)
extra_more room false more slots s h = data_more 17 more slots s h
extra_more zero true more slots s h = cc
extra_more (suc room) true more [] s h = by (is_known_extra s)
  where
    by : (known : Bool) → (r : Result ChainState ChainFault) × ((if known then after_extra room (asks_extra s) more [] else Some (Err fault.UnknownExtra)) ≡ Some r)
    by true = extra_some room (asks_extra s) more
    by false = (Err fault.UnknownExtra, refl)
extra_more (suc room) true more (x ∷ slots) s h = by (is_known_extra x) (λ g. extra_more room (asks_extra x) more slots s g) h
  where
    by : (known : Bool) → (IsTrue (is_open (after_extra room (asks_extra x) more slots)) → (r : Result ChainState ChainFault) × (after_extra room (asks_extra x) more (slots ++ s ∷ []) ≡ Some r)) →
        IsTrue (is_open (if known then after_extra room (asks_extra x) more slots else Some (Err fault.UnknownExtra))) →
        (r : Result ChainState ChainFault) × ((if known then after_extra room (asks_extra x) more (slots ++ s ∷ []) else Some (Err fault.UnknownExtra)) ≡ Some r)
    by true go h = go h
    by false go h = cc

standing_more : (slots : List Slot) (s : Slot) → IsTrue (is_open (standing slots)) → (r : Result ChainState ChainFault) × (standing (slots ++ s ∷ []) ≡ Some r)
standing_more [] s h = extra_some 5 (extra_info s) (more_data s)
standing_more (x ∷ slots) s h = extra_more 5 (extra_info x) (more_data x) slots s h

-- the bytes of a copy
abbrev pub AllBytes : List ℕ → Type 0
AllBytes [] = Unit {0}
AllBytes (b ∷ bytes) = (b < 256) × AllBytes bytes

all_append : (l m : List ℕ) → AllBytes l → AllBytes m → AllBytes (l ++ m)
all_append [] m h i = i
all_append (b ∷ l) m h i = (h.0, all_append l m h.1 i)

all_take : (n : ℕ) (l : List ℕ) → AllBytes l → AllBytes (take n l)
all_take zero l h = tt
all_take (suc n) [] h = tt
all_take (suc n) (b ∷ l) h = (h.0, all_take n l h.1)

all_drop : (n : ℕ) (l : List ℕ) → AllBytes l → AllBytes (drop n l)
all_drop zero l h = h
all_drop (suc n) [] h = tt
all_drop (suc n) (b ∷ l) h = all_drop n l h.1

word_bytes : (v : ℕ) → AllBytes (to_le_bytes w32 v)
word_bytes v = (omega arith, (omega arith, (omega arith, (omega arith, tt))))

words_bytes : (vs : List ℕ) → AllBytes (bytes_of vs)
words_bytes [] = tt
words_bytes (v ∷ vs) = all_append (to_le_bytes w32 v) (bytes_of vs) (word_bytes v) (words_bytes vs)

abbrev AreBytes : Option (List ℕ) → Type 0
AreBytes None = Unit {0}
AreBytes (Some packet) = AllBytes packet

copy_bytes : (w : Wiring) (fs : List Fragment) (p : List Event) (o : Option (List ℕ)) → IsCopy w fs p o → AreBytes o
copy_bytes w _ _ _ copied = tt
copy_bytes w _ _ _ (denied f fs p fault e) = tt
copy_bytes w _ _ _ (part f fs p q frame vs out e l b c) = by out (copy_bytes w fs q out c)
  where
    by : (out : Option (List ℕ)) → AreBytes out → AreBytes (behind (copy_of f vs) out)
    by None h = tt
    by (Some later) h = all_append (copy_of f vs) later (all_take f.size (drop (f.offset % 4) (bytes_of vs)) (all_drop (f.offset % 4) (bytes_of vs) (words_bytes vs))) h

-- a packet that a queue copies
abbrev IsPacket : Option (List ℕ) → Type 0
IsPacket None = Unit {0}
IsPacket (Some packet) = (length packet ≤ 65535) × AllBytes packet

is_packet : (o : Option (List ℕ)) (size : ℕ) → size ≤ 65535 → IsShort size o → AreBytes o → IsPacket o
is_packet None size l s b = tt
is_packet (Some packet) size l s b = (omega (arith, l, s), b)

abbrev IsChain : Scan → Type 0
IsChain (Ok slots) = AllWords slots × (standing slots ≡ Some (Ok wanted.Complete))
IsChain (Err cause) = Unit {0}

is_chain : (n : ℕ) (more : List Slot) (x : Scan) → AllWords more → ScanEnds n [] more x → IsChain x
is_chain n more _ ws (is_whole h) = (ws, h)
is_chain n more _ ws (is_faulty fault h) = tt
is_chain n more _ ws (none_left l h) = tt

module _ (w : Wiring) where
  ends_notice : (b : Bool) (e : Ending) → Ends Any (notice w b e)
  ends_notice false e = tt
  ends_notice true e = (tt, λ a e o. tt)

  ends_answer : (t n i : ℕ) (rs : List ℕ) (e : Ending) → Ends Any (answer w t n i rs e)
  ends_answer t n i [] e = (tt, λ a x o. (tt, λ v y p. ends_notice (is_due t (add32 t n) v) e))
  ends_answer t n i (r ∷ rs) e = (tt, λ a x o. ends_answer t n (i + 1) rs e)

  ends_respond : (s : State) (slots : List Slot) (st : Status) (u : Turned) → Ends Any (respond w s slots st u)
  ends_respond s slots st u = ends_answer s.tx_index (length slots) 0 (responses st slots) (answered s (length slots), u)

  ends_program : (c : Course) (ops : ℕ) → IsWhole c → Ends Any (program c ops)
  ends_program (Exiting r0 packet) ops h = (tt, λ a e o. tt)
  ends_program (Stepping c) ops h = (tt, λ a e o. ends_program c ops h)
  ends_program (Loading m k j to) ops h = (tt, λ v e o. ends_program (to v) (ops + 1) (h v))
  ends_program (Adding m k j d to) ops h = (tt, λ v e o. ends_program (to v) (ops + 1) (h v))
  ends_program Broken ops h = absurd h

  ends_words : (f : Fragment) (frame place n : ℕ) (bytes : List ℕ) → Ends Any (copy_words f frame place n bytes)
  ends_words f frame place zero bytes = tt
  ends_words f frame place (suc n) bytes = (tt, λ v e o. ends_words f frame (place + 1) n _)

  ends_entered : (f : Fragment) (rest : List ℕ → Steps (Option (List ℕ))) (bytes : List ℕ) (r : Result ℕ GrantFault) → ((b : List ℕ) → Ends Any (rest b)) → Ends Any (entered f rest bytes r)
  ends_entered f rest bytes (Err x) g = tt
  ends_entered f rest bytes (Ok frame) g = ends_bind Any Any (copy_words f frame _ (covered f) bytes) rest (ends_words f frame _ (covered f) bytes) (λ b u. g b)

  ends_copy : (fs : List Fragment) (bytes : List ℕ) → Ends Any (copy w fs bytes)
  ends_copy [] bytes = tt
  ends_copy (f ∷ fs) bytes =
      ends_bind Any Any (entry w.vif ReadOnly f.gref) (entered f (copy w fs) bytes) (ends_entry w.vif ReadOnly (entry_place w.vif.table.now f.gref)) (λ r u. ends_entered f (copy w fs) bytes r (λ b. ends_copy fs b))

  ends_judged : (slots : List Slot) (v : Option (Result ChainState ChainFault)) (rest : Steps Scan) (r : Result ChainState ChainFault) → v ≡ Some r → (IsTrue (is_open v) → Ends Any rest) → Ends Any (judged slots v rest)
  ends_judged slots (Some (Ok wanted.Data)) rest r e g = g refl
  ends_judged slots (Some (Ok wanted.Extra)) rest r e g = g refl
  ends_judged slots (Some (Ok wanted.Complete)) rest r e g = tt
  ends_judged slots (Some (Err x)) rest r e g = tt
  ends_judged slots None rest r e g = cc

  ends_slots : (t left : ℕ) (slots : List Slot) → IsTrue (is_open (standing slots)) → Ends Any (read_slots w t left slots)
  ends_slots t zero slots h = tt
  ends_slots t (suc left) slots h =
      ends_bind Any Any (read_slot w (add32 t (length slots))) _ (tt, λ a x o. (tt, λ b y p. (tt, λ c z q. tt)))
      (λ s u. let r = standing_more slots s h in ends_judged (slots ++ s ∷ []) (standing (slots ++ s ∷ [])) (read_slots w t left (slots ++ s ∷ [])) r.0 r.1 (λ o. ends_slots t left (slots ++ s ∷ []) o))

  ends_after_transmit : (s : State) (slots : List Slot) (packet : List ℕ) (ops : ℕ) (o : TransmitOutcome) → Ends Any (after_transmit w s slots packet ops o)
  ends_after_transmit s slots packet ops outcome.Overflow = tt
  ends_after_transmit s slots packet ops outcome.TooFew = ends_respond s slots status.Error (Refused refusal.FewSlots ops (length slots))
  ends_after_transmit s slots packet ops (outcome.Refused used) = ends_respond (after_slots s used) slots status.Error (Refused refusal.RxGrant ops (length slots))
  ends_after_transmit s slots packet ops (outcome.Sent used) = ends_respond (after_slots s used) slots status.Okay (Ran 3 packet ops (length slots))

  ends_after_run : (s : State) (slots : List Slot) (r : Left) → Ends Any (after_run w s slots r)
  ends_after_run s slots r = by (r.number == 3)
    where
      by : (b : Bool) → Ends Any (if b then send w s slots r.packet r.ops else respond w s slots (status_of r.number) (Ran r.number r.packet r.ops (length slots)))
      by true = ends_bind Any Any (transmit w.vif s.rx_index Whole r.packet) (after_transmit w s slots r.packet r.ops) (ends_transmit w.vif s.rx_index Whole r.packet) (λ o u. ends_after_transmit s slots r.packet r.ops o)
      by false = ends_respond s slots (status_of r.number) (Ran r.number r.packet r.ops (length slots))

  module _ (whole : (packet : List ℕ) → length packet ≤ 65535 → AllBytes packet → IsWhole (run_of w packet)) where
    ends_after_copy : (s : State) (slots : List Slot) (o : Option (List ℕ)) → IsPacket o → Ends Any (after_copy w s slots o)
    ends_after_copy s slots None p = ends_respond s slots status.Error (Refused refusal.Grant 0 (length slots))
    ends_after_copy s slots (Some packet) p =
        ends_bind Any Any (program (run_of w packet) 0) (after_run w s slots) (ends_program (run_of w packet) 0 (whole packet p.0 p.1)) (λ r u. ends_after_run s slots r)

    ends_after_chain : (s : State) (slots : List Slot) (o : Result (List Fragment) SizeFault) → AllWords slots → standing slots ≡ Some (Ok wanted.Complete) → offered_fragments w.offers slots ≡ o → Ends Any (after_chain w s slots o)
    ends_after_chain s slots (Err x) ws h e = ends_respond s slots status.Error (Refused (refusal.Size x) 0 (length slots))
    ends_after_chain s slots (Ok fs) ws h e =
        let few = chain_few w.offers slots fs ws h e in
        ends_bind IsPacket Any (copy w fs []) (after_copy w s slots)
        (ends_by Any IsPacket (copy w fs []) (ends_copy fs [])
        (λ t o r. let c = copy_parts w fs t o r in is_packet o (sum_by fragment_size fs) few.size (copy_short w fs t o c) (copy_bytes w fs t o c)))
        (λ o p. ends_after_copy s slots o p)

    ends_after_scan : (s : State) (x : Scan) → IsChain x → Ends Any (after_scan w s x)
    ends_after_scan s (Err cause) h = tt
    ends_after_scan s (Ok slots) h = ends_after_chain s slots (offered_fragments w.offers slots) h.0 h.1 refl

    ends_seen : (t : ℕ) (o : Option ℕ) → Ends Any (seen w t o)
    ends_seen t None = tt
    ends_seen t (Some zero) = (tt, λ a e o. (tt, λ p x q. tt))
    ends_seen t (Some (suc n)) = tt

    ends_after_look : (s : State) (o : Option ℕ) → Ends Any (after_look w s o)
    ends_after_look s None = tt
    ends_after_look s (Some zero) = tt
    ends_after_look s (Some (suc n)) =
        ends_bind IsChain Any (read_slots w s.tx_index (suc n) []) (after_scan w s)
        (ends_by Any IsChain (read_slots w s.tx_index (suc n) []) (ends_slots s.tx_index (suc n) [] refl)
        (λ t x r. let c = slots_parts w s.tx_index (suc n) [] t x refl r in is_chain (suc n) c.more x c.words c.ends))
        (λ x h. ends_after_scan s x h)

    ends_unless : (s : State) (o : Option Halt) → Ends Any (unless_halted w s o)
    ends_unless s (Some cause) = tt
    ends_unless s None = ends_bind Any Any (look w s.tx_index) (after_look w s) (tt, λ p e o. ends_seen s.tx_index (available s.tx_index p)) (λ o u. ends_after_look s o)

    pub ends_turn : (s : State) → Ends Any (whole_turn w s)
    ends_turn s = ends_unless s s.halt

-- the start of an accepted program on a packet
pub start_words : (k x : ℕ) → start_register k ≡ Some x → x < 2 ^ 64
start_words k x e = by (k == 1) (k == 10) e
  where
    by : (a b : Bool) → (if a then Some context_start else if b then Some stack_end else None) ≡ Some x → x < 2 ^ 64
    by true b e = let same : context_start ≡ x = cc in subst (λ y. y < 2 ^ 64) same (omega arith)
    by false true e = let same : stack_end ≡ x = cc in subst (λ y. y < 2 ^ 64) same (omega arith)
    by false false e = cc

pub start_none : (k : ℕ) → 11 ≤ k → start_register k ≡ None
start_none k l = by (k == 1) (k == 10) refl refl
  where
    by : (a b : Bool) → (k == 1) ≡ a → (k == 10) ≡ b → (if a then Some context_start else if b then Some stack_end else None) ≡ None
    by true b e f = absurd (grind (arith, nat_tests))
    by false true e f = absurd (grind (arith, nat_tests))
    by false false e f = refl

byte_small : (l : List ℕ) (i : ℕ) → AllBytes l → slice_index l i < 256
byte_small [] zero h = omega arith
byte_small [] (suc i) h = omega arith
byte_small (b ∷ l) zero h = h.0
byte_small (b ∷ l) (suc i) h = byte_small l i h.1

pub run_whole : (w : Wiring) → IsConsistent w.program.now → w.ifindex < 2 ^ 32 → w.queue < 2 ^ 32 → (packet : List ℕ) → length packet ≤ 65535 → AllBytes packet → IsWhole (run_of w packet)
run_whole w c i q packet l b =
    accepted_ends w.program.now c (start_state w.program.now.shapes w.lists.now packet w.ifindex w.queue)
    (record {
      state = record {
        words = λ k x e. start_words k x e;
        registers = λ k m. start_none k m;
        stack_bytes = λ j v e. cc;
        stack_size = λ j m. refl;
        packet_bytes = λ j. byte_small packet j b;
        packet_size = l;
        ifindex_fits = i;
        queue_fits = q;
        maps = c.few_maps;
        shapes = c.maps;
      };
      pc = refl;
      reg = λ k. refl;
      stack = λ j. refl;
    })
    refl

-- what is left of a turn that ends has a run
ends_run : {A : Type 0} (P : A → Type 0) (s : Steps A) → Ends P s → (t : List Event) × (r : A) × Runs s t r
ends_run P s h = some_run (λ w. Unit {0}) s (finishes_any P s h)

pub rest_of_gone : {A : Type 0} (s s' : Steps A) (t : List Event) → Ends Any s → LedBy s t s' → (p : List Event) × (r : A) × Runs s' p r
rest_of_gone s s' t h g = ends_run Any s' (ends_gone Any s s' t h g)
