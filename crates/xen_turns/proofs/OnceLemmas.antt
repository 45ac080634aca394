-- A turn reads each word once.
use Rattle.std.proofs.Common.{◌≡◌, ◌≢◌, ℕ, zero, suc, ◌+◌, ◌*◌, ◌/◌, ◌%◌, ◌<◌, ◌≤◌, Bool, true, false, List, [], ◌∷◌, ◌++◌, Option, Some, None, Result, Ok, Err, length, map, refl, sym, ◌∙◌, ap, append_assoc, append-nil, arith, subst, inl, inr}
use Rattle.std.specs.Prelude.{nat_le, if◌then◌else◌}
use Rattle.std.specs.List.{Contains}
use Rattle.std.proofs.lemmas.List.Elements.{Contains-append_left, Contains-append_right}
use Rattle.std.proofs.lemmas.Bool.Decides.{nat_tests}
use Rattle.bpf_note.specs.declared.op.Op.{Op}
use Rattle.bpf_note.specs.declared.op.Op.TheVariants as op
use Rattle.xen_netif.specs.Chain.{Slot}
use Rattle.xen_netif.specs.Copy.{copy_of, covered}
use Rattle.xen_netif.specs.Segments.{offered_fragments}
use Rattle.xen_netif.specs.declared.fault.SizeFault.{SizeFault}
use Rattle.xen_netif.specs.declared.fragment.Fragment.{Fragment}
use Rattle.xen_page.specs.Entry.{entry_of}
use Rattle.xen_page.specs.Grant.{demands, first_fault}
use Rattle.xen_page.specs.Mapping.{frame_place}
use Rattle.xen_page.specs.Table.{entry_place}
use Rattle.xen_page.specs.declared.fault.GrantFault.{GrantFault}
use Rattle.xen_page.specs.declared.place.Place.{Place}
use Rattle.xen_page.specs.declared.entry.Rights.{Rights}
use Rattle.xen_page.specs.declared.entry.Rights.TheVariants.{ReadOnly, ReadWrite}
use Rattle.xen_ring.specs.Index.{distance, is_due}
use Rattle.xen_steps.specs.Event.{Event, Read, Write, Instr, Load, Add, Notify}
use Rattle.xen_steps.specs.Pages.{page_reads}
use Rattle.xen_steps.specs.Places.{add32, available, page_word}
use Rattle.xen_rx_fill.specs.Places.{rx_slot, tx_slot, tx_word}
use Rattle.xen_rx_fill.specs.Packets.{words}
use Rattle.xen_rx_fill.specs.Sending.{IsPosted, all, is_posted, for_extra, passing, refusing}
use Rattle.xen_rx_fill.specs.Shared.{IsEntry, inside, outside, notices}
use Rattle.xen_turns.specs.Once.{AllOther, AreDistinct, AreGranted, AreLooks, ArePosted, CoveredDistinct, FragmentsOnce, GrantReads, SizeReads, SlotsOnce, SlotsRead, TargetsOnce, TurnReads, copy_places, entry_places, page_places, places_read, slot_places, notice_reads}
use Rattle.xen_turns.specs.Parts.{behind, AllWords, HasRead, IsCopy, IsLook, IsRespond, copied, denied, once, part, response_writes, slots_reads, twice}
use Rattle.xen_turns.specs.Program.{event_of}
use Rattle.xen_turns.specs.Tree.{Left, responses}
use Rattle.xen_netif.specs.declared.status.Status.{Status}
use Rattle.xen_netif.specs.declared.status.Status.TheVariants as status
use Rattle.xen_turns.specs.Turns.{HasRun}
use Rattle.xen_turns.specs.declared.state.State.{State}
use Rattle.xen_turns.specs.declared.wiring.Wiring.{Wiring}

pub places_read-append : (t u : List Event) → places_read (t ++ u) ≡ places_read t ++ places_read u
places_read-append [] u = refl
places_read-append (Read at v ∷ t) u = ap (λ l. at ∷ l) (places_read-append t u)
places_read-append (Write at v ∷ t) u = places_read-append t u
places_read-append (Instr ∷ t) u = places_read-append t u
places_read-append (Load m k j v ∷ t) u = places_read-append t u
places_read-append (Add m k j d v ∷ t) u = places_read-append t u
places_read-append (Notify p ∷ t) u = places_read-append t u

abbrev pub word_in : Place → ℕ
word_in at = at.word

-- words of two slots of one ring differ
other_slot : (w : Wiring) (t i k j l : ℕ) → j < 3 → l < 3 → 0 < k → k < 256 → tx_slot w.vif (add32 t i) j ≢ tx_slot w.vif (add32 t (i + k)) l
other_slot w t i k j l a b some few e =
    let same : 16 + 3 * ((t + i) % 4294967296 % 256) + j ≡ 16 + 3 * ((t + (i + k)) % 4294967296 % 256) + l = ap word_in e in
    absurd (omega (arith, same, a, b, some, few))

other_slots : (w : Wiring) (t i k j n : ℕ) → j < 3 → 0 < k → k + n ≤ 256 → AllOther (tx_slot w.vif (add32 t i) j) (slot_places w t (i + k) n)
other_slots w t i k j zero a some few = tt
other_slots w t i k j (suc n) a some few =
    let less : k < 256 = omega (arith, few) in
    let later = subst (λ m. AllOther (tx_slot w.vif (add32 t i) j) (slot_places w t m n)) (let e : i + (k + 1) ≡ i + k + 1 = omega arith in e) (other_slots w t i (k + 1) j n a (omega arith) (omega (arith, few))) in
    (other_slot w t i k j 0 a (omega arith) some less, (other_slot w t i k j 1 a (omega arith) some less, (other_slot w t i k j 2 a (omega arith) some less, later)))

slots_distinct : (w : Wiring) (t i n : ℕ) → n ≤ 256 → AreDistinct (slot_places w t i n)
slots_distinct w t i zero few = tt
slots_distinct w t i (suc n) few =
    let others : (j : ℕ) → j < 3 → AllOther (tx_slot w.vif (add32 t i) j) (slot_places w t (i + 1) n) = λ j a. other_slots w t i 1 j n a (omega arith) (omega (arith, few)) in
    let apart : (j l : ℕ) → j < l → tx_slot w.vif (add32 t i) j ≢ tx_slot w.vif (add32 t i) l = λ j l h e. let same : 16 + 3 * ((t + i) % 4294967296 % 256) + j ≡ 16 + 3 * ((t + i) % 4294967296 % 256) + l = ap word_in e in absurd (omega (arith, same, h)) in
    ((apart 0 1 (omega arith), (apart 0 2 (omega arith), others 0 (omega arith))), ((apart 1 2 (omega arith), others 1 (omega arith)), (others 2 (omega arith), slots_distinct w t (i + 1) n (omega (arith, few)))))

slots_places : (w : Wiring) (t i : ℕ) (slots : List Slot) → AllWords slots → places_read (slots_reads w t i slots) ≡ slot_places w t i (length slots)
slots_places w t i [] h = refl
slots_places w t i ([] ∷ slots) h = absurd h.0
slots_places w t i ((a ∷ []) ∷ slots) h = absurd h.0
slots_places w t i ((a ∷ b ∷ []) ∷ slots) h = absurd h.0
slots_places w t i ((a ∷ b ∷ c ∷ []) ∷ slots) h = ap (λ l. tx_slot w.vif (add32 t i) 0 ∷ tx_slot w.vif (add32 t i) 1 ∷ tx_slot w.vif (add32 t i) 2 ∷ l) (slots_places w t (i + 1) slots h.1)
slots_places w t i ((a ∷ b ∷ c ∷ d ∷ s) ∷ slots) h = absurd h.0

pub few_shown : (t p n : ℕ) → available t p ≡ Some n → n ≤ 256
few_shown t p n e = by (nat_le (distance t p) 256) refl e
  where
    by : (b : Bool) → nat_le (distance t p) 256 ≡ b → (if b then Some (distance t p) else None) ≡ Some n → n ≤ 256
    by true m e = let le : distance t p ≤ 256 = grind (arith, nat_tests) in let same : distance t p ≡ n = cc in omega (arith, le, same)
    by false m e = let no : ⊥ = cc in absurd no

few_looked : (w : Wiring) (t : ℕ) (p : List Event) (o : Option ℕ) (n : ℕ) → IsLook w t p o → o ≡ Some n → n ≤ 256
few_looked w t _ _ n (once p l h) e = few_shown t p n e
few_looked w t _ _ n (twice p q l m h) e = few_shown t q n e

pub slots_once : SlotsOnce
slots_once w s n look p slots h =
    let few : length slots ≤ 256 = omega (arith, h.read.within, few_looked w s.tx_index look (Some n) n h.look refl) in
    let e : places_read p ≡ slot_places w s.tx_index 0 (length slots) = ap places_read h.read.reads ∙ slots_places w s.tx_index 0 slots h.read.words in
    (e, subst AreDistinct (sym e) (slots_distinct w s.tx_index 0 (length slots) few))

other_words : (frame place k n : ℕ) → 0 < k → AllOther (page_word frame place) (page_places frame (place + k) n)
other_words frame place k zero h = tt
other_words frame place k (suc n) h =
    let e : place + (k + 1) ≡ place + k + 1 = omega arith in
    (λ q. let same : place ≡ place + k = ap word_in q in absurd (omega (arith, same, h)), subst (λ m. AllOther (page_word frame place) (page_places frame m n)) e (other_words frame place (k + 1) n (omega arith)))

pub covered_distinct : CoveredDistinct
covered_distinct frame place zero = tt
covered_distinct frame place (suc n) = (other_words frame place 1 n (omega arith), covered_distinct frame (place + 1) n)

page_read : (frame place : ℕ) (vs : List ℕ) → places_read (page_reads frame place vs) ≡ page_places frame place (length vs)
page_read frame place [] = refl
page_read frame place (v ∷ vs) = ap (λ l. page_word frame place ∷ l) (page_read frame (place + 1) vs)

entry_read : (w : Wiring) (rights : Rights) (gref : ℕ) (p : List Event) (r : Result ℕ GrantFault) → IsEntry w.vif rights gref p r → places_read p ≡ entry_places (entry_place w.vif.table.now gref)
entry_read w rights gref _ _ (outside e) = sym (ap entry_places e)
entry_read w rights gref _ _ (inside at a b e l m) = sym (ap entry_places e)

-- what is granted is the value
value_of : (demands : List (Bool × GrantFault)) (value frame : ℕ) → first_fault demands value ≡ Ok frame → value ≡ frame
value_of [] value frame e = cc
value_of ((true, fault) ∷ demands) value frame e = value_of demands value frame e
value_of ((false, fault) ∷ demands) value frame e = let no : ⊥ = cc in absurd no

-- a granted frame is what the second word of its entry was answered
granted_frame : (w : Wiring) (rights : Rights) (gref : ℕ) (p : List Event) (r : Result ℕ GrantFault) (frame : ℕ) → IsEntry w.vif rights gref p r → r ≡ Ok frame →
    (at : Place) × (entry_place w.vif.table.now gref ≡ Some at) × Contains p (Read (frame_place at) frame)
granted_frame w rights gref _ _ frame (outside e) f = let no : ⊥ = cc in absurd no
granted_frame w rights gref _ _ frame (inside at a b e l m) f =
    let same : b ≡ frame = value_of (demands w.vif.owners.now w.vif.granter w.vif.user (entry_of a b) rights) b frame f in
    (at, e, (1, omega arith, ap (Read (frame_place at)) same))

abbrev pub Within : List Event → List Event → Type 0
Within p q = (e : Event) → Contains p e → Contains q e

granted_within : (w : Wiring) (fs : List Fragment) (frames : List ℕ) (p q : List Event) → Within p q → AreGranted w fs frames p → AreGranted w fs frames q
granted_within w fs [] p q h g = tt
granted_within w [] (frame ∷ frames) p q h g = absurd g
granted_within w (f ∷ fs) (frame ∷ frames) p q h g = ((g.0.0, g.0.1, h (Read (frame_place g.0.0) frame) g.0.2), granted_within w fs frames p q h g.1)

pub posted_within : (w : Wiring) (x i : ℕ) (grefs : List ℕ) (p q : List Event) → Within p q → ArePosted w x i grefs p → ArePosted w x i grefs q
posted_within w x i [] p q h g = tt
posted_within w x i (gref ∷ grefs) p q h g = (h (Read (rx_slot w.vif (add32 x i) 1) gref) g.0, posted_within w x (i + 1) grefs p q h g.1)

none_behind : (bytes : List ℕ) (out : Option (List ℕ)) → behind bytes out ≡ None → out ≡ None
none_behind bytes None e = refl
none_behind bytes (Some later) e = let no : ⊥ = cc in absurd no

pub fragments_once : FragmentsOnce
fragments_once w _ _ _ copied = ([], refl, tt, λ h. refl, λ h. let no : ⊥ = cc in absurd no)
fragments_once w _ _ _ (denied f fs p fault e) = ([], entry_read w ReadOnly f.gref p (Err fault) e, tt, λ h. absurd (h refl), λ h. omega arith)
fragments_once w _ _ _ (part f fs p q frame words out e count below c) =
    let i = fragments_once w fs q out c in
    let reads = page_reads frame (f.offset / 4) words in
    let words_read : places_read reads ≡ page_places frame (f.offset / 4) (covered f) = page_read frame (f.offset / 4) words ∙ ap (page_places frame (f.offset / 4)) count in
    let entry = entry_read w ReadOnly f.gref p (Ok frame) e in
    let first = granted_frame w ReadOnly f.gref p (Ok frame) frame e refl in
    let behind_it : Within q (p ++ (reads ++ q)) = λ e h. Contains-append_right p (reads ++ q) e (Contains-append_right reads q e h) in (
      frame ∷ i.0,
      places_read-append p (reads ++ q)
          ∙ ap (λ l. l ++ places_read (reads ++ q)) entry
          ∙ ap (λ l. entry_places (entry_place w.vif.table.now f.gref) ++ l)
          (places_read-append reads q ∙ ap (λ l. l ++ places_read q) words_read ∙ ap (λ l. page_places frame (f.offset / 4) (covered f) ++ l) i.1),
      ((first.0, first.1, Contains-append_left p (reads ++ q) (Read (frame_place first.0) frame) first.2), granted_within w fs i.0 q (p ++ (reads ++ q)) behind_it i.2),
      λ h. ap suc (i.3 (λ none. h (ap (behind (copy_of f words)) none))),
      λ h. let less = i.4 (none_behind (copy_of f words) out h) in omega (arith, less),
    )

-- a posted slot, of a reference
posted_read : (w : Wiring) (i : ℕ) (p : List Event) (id : ℕ) (r : Result ℕ GrantFault) → IsPosted w.vif i p id r →
    (gref : ℕ) × (places_read p ≡ rx_slot w.vif i 0 ∷ rx_slot w.vif i 1 ∷ entry_places (entry_place w.vif.table.now gref)) × Contains p (Read (rx_slot w.vif i 1) gref)
posted_read w i _ _ _ (is_posted a g p r la lg e) =
    (g, ap (λ l. rx_slot w.vif i 0 ∷ rx_slot w.vif i 1 ∷ l) (entry_read w ReadWrite g p r e), (1, omega arith, refl))

pub targets_once : TargetsOnce
targets_once w x _ _ _ _ _ (all i) = ([], refl, refl, tt)
targets_once w x _ _ _ _ _ (refusing i left id p fault none o) =
    let q = posted_read w (add32 x i) p id (Err fault) o in
    (q.0 ∷ [], refl, q.1 ∙ ap (λ l. rx_slot w.vif (add32 x i) 0 ∷ rx_slot w.vif (add32 x i) 1 ∷ l) (sym (append-nil (entry_places (entry_place w.vif.table.now q.0)))), (q.2, tt))
targets_once w x _ _ _ _ _ (passing i left id frame p q grants ts none o a) =
    let first = posted_read w (add32 x i) p id (Ok frame) o in
    let later = targets_once w x (i + 1) left q grants ts a in (
      first.0 ∷ later.0,
      ap suc later.1,
      places_read-append p q ∙ ap (λ l. l ++ places_read q) first.1
          ∙ ap (λ l. rx_slot w.vif (add32 x i) 0 ∷ rx_slot w.vif (add32 x i) 1 ∷ (entry_places (entry_place w.vif.table.now first.0) ++ l)) later.2,
      (Contains-append_left p q (Read (rx_slot w.vif (add32 x i) 1) first.0) first.2, posted_within w x (i + 1) later.0 q (p ++ q) (λ e h. Contains-append_right p q e h) later.3),
    )
targets_once w x _ _ _ _ _ (for_extra i left a g q grants ts some la lg f) = absurd (let wrong : false ≡ true = some in cc)

no_responses : (w : Wiring) (t i : ℕ) (rs : List ℕ) → places_read (response_writes w t i rs) ≡ []
no_responses w t i [] = refl
no_responses w t i (r ∷ rs) = no_responses w t (i + 1) rs

pub no_notices : (w : Wiring) (b : Bool) → places_read (notices w.vif b) ≡ []
no_notices w true = refl
no_notices w false = refl

no_steps : (labels : List (Option Op)) → places_read (map event_of labels) ≡ []
no_steps [] = refl
no_steps (None ∷ labels) = no_steps labels
no_steps (Some (op.Load m k j v) ∷ labels) = no_steps labels
no_steps (Some (op.Add m k j d v) ∷ labels) = no_steps labels

pub respond_read : (w : Wiring) (t : ℕ) (slots : List Slot) (st : Status) (p : List Event) → IsRespond w t slots st p → places_read p ≡ tx_word w.vif 3 ∷ []
respond_read w t slots st p h =
    let due = is_due t (add32 t (length slots)) h.0 in
    let last : List Event = Write (tx_word w.vif 2) (add32 t (length slots)) ∷ Read (tx_word w.vif 3) h.0 ∷ notices w.vif due in
    ap places_read h.2 ∙ places_read-append (response_writes w t 0 (responses st slots)) last ∙ ap (λ l. l ++ places_read last) (no_responses w t 0 (responses st slots)) ∙ ap (λ l. tx_word w.vif 3 ∷ l) (no_notices w due)

pub look_read : (w : Wiring) (t : ℕ) (p : List Event) (o : Option ℕ) → IsLook w t p o → AreLooks w (places_read p)
look_read w t _ _ (once p l h) = inl refl
look_read w t _ _ (twice p q l m h) = inr refl

pub idle_read : (w : Wiring) (t : ℕ) (p : List Event) (o : Option ℕ) → IsLook w t p o → o ≡ Some 0 → places_read p ≡ tx_word w.vif 0 ∷ tx_word w.vif 0 ∷ []
idle_read w t _ _ (once p l h) e = absurd (h e)
idle_read w t _ _ (twice p q l m h) e = refl

-- slots that were read, and the reads of what comes after them
pub chain_reads : (w : Wiring) (s : State) (n : ℕ) (p1 p2 q : List Event) (slots : List Slot) (rest : List Place) → HasRead w s n p1 p2 slots → places_read q ≡ rest → SlotsRead w s (p1 ++ (p2 ++ q)) slots rest
chain_reads w s n p1 p2 q slots rest h e =
    let places = slot_places w s.tx_index 0 (length slots) in
    record {
      before = p1;
      looked = look_read w s.tx_index p1 (Some n) h.look;
      later = q;
      answered = ap (λ l. p1 ++ (l ++ q)) h.read.reads;
      read = places_read-append p1 (p2 ++ q)
          ∙ ap (λ l. places_read p1 ++ l) (places_read-append p2 q ∙ ap (λ l. l ++ places_read q) (slots_once w s n p1 p2 slots h).0 ∙ ap (λ l. places ++ l) e);
    }

-- a packet of wrong sizes
pub size_reads : (w : Wiring) (s : State) (n : ℕ) (p1 p2 p6 : List Event) (slots : List Slot) (fault : SizeFault) → HasRead w s n p1 p2 slots → offered_fragments w.offers slots ≡ Err fault → IsRespond w s.tx_index slots status.Error p6 → SizeReads w s (p1 ++ (p2 ++ p6)) fault (length slots) (notice_reads w)
size_reads w s n p1 p2 p6 slots fault h e g = record {
  slots = slots;
  counted = refl;
  sizes = e;
  read = chain_reads w s n p1 p2 p6 slots (notice_reads w) h (respond_read w s.tx_index slots status.Error p6 g);
}

-- the places of a part are those of all of it behind what comes first
within_joined : (p1 p2 p3 p6 : List Event) → Within p3 (p1 ++ (p2 ++ (p3 ++ p6)))
within_joined p1 p2 p3 p6 e h = Contains-append_right p1 (p2 ++ (p3 ++ p6)) e (Contains-append_right p2 (p3 ++ p6) e (Contains-append_left p3 p6 e h))

-- a packet of which a grant fails
pub grant_reads : (w : Wiring) (s : State) (n : ℕ) (p1 p2 p3 p6 : List Event) (slots : List Slot) (fs : List Fragment) → HasRead w s n p1 p2 slots → offered_fragments w.offers slots ≡ Ok fs → IsCopy w fs p3 None → IsRespond w s.tx_index slots status.Error p6 → GrantReads w s (p1 ++ (p2 ++ (p3 ++ p6))) (length slots) (notice_reads w)
grant_reads w s n p1 p2 p3 p6 slots fs h e k g =
    let copies = fragments_once w fs p3 None k in
    let later : places_read (p3 ++ p6) ≡ copy_places w fs copies.0 ++ notice_reads w =
    places_read-append p3 p6 ∙ ap (λ l. l ++ places_read p6) copies.1 ∙ ap (λ l. copy_places w fs copies.0 ++ l) (respond_read w s.tx_index slots status.Error p6 g) in
    record {
      slots = slots;
      counted = refl;
      fragments = fs;
      sizes = e;
      frames = copies.0;
      granted = granted_within w fs copies.0 p3 (p1 ++ (p2 ++ (p3 ++ p6))) (within_joined p1 p2 p3 p6) copies.2;
      denied = copies.4 refl;
      read = chain_reads w s n p1 p2 (p3 ++ p6) slots (copy_places w fs copies.0 ++ notice_reads w) h later;
    }

-- the reads of a packet that was run on, and of what comes after it
pub ran_reads : (w : Wiring) (s : State) (p q : List Event) (slots : List Slot) (out : Left) (last : List Place) → HasRun w s p slots out → places_read q ≡ last → TurnReads w s (p ++ q) (length slots) last
ran_reads w s p q slots out last h e =
    let copies = fragments_once w h.fragments h.copies (Some h.packet) h.copied in
    let copy = copy_places w h.fragments copies.0 in
    let none : places_read h.runs ≡ [] = ap places_read h.ran.events ∙ no_steps h.ran.labels in
    let behind_run : places_read (h.runs ++ q) ≡ last = places_read-append h.runs q ∙ ap (λ l. l ++ places_read q) none ∙ e in
    let tail : places_read (h.copies ++ (h.runs ++ q)) ≡ copy ++ last =
    places_read-append h.copies (h.runs ++ q) ∙ ap (λ l. l ++ places_read (h.runs ++ q)) copies.1 ∙ ap (λ l. copy ++ l) behind_run in
    let joined : p ++ q ≡ h.looks ++ (h.reads ++ (h.copies ++ (h.runs ++ q))) =
    ap (λ l. l ++ q) h.joined ∙ append_assoc h.looks (h.reads ++ (h.copies ++ h.runs)) q
    ∙ ap (λ l. h.looks ++ l) (append_assoc h.reads (h.copies ++ h.runs) q ∙ ap (λ l. h.reads ++ l) (append_assoc h.copies h.runs q)) in
    let inside : Within h.copies (p ++ q) = subst (Within h.copies) (sym joined) (within_joined h.looks h.reads h.copies (h.runs ++ q)) in
    record {
      slots = slots;
      counted = refl;
      fragments = h.fragments;
      sizes = h.sizes;
      frames = copies.0;
      granted = granted_within w h.fragments copies.0 h.copies (p ++ q) inside copies.2;
      whole = copies.3 (λ e. cc);
      read = subst (λ l. SlotsRead w s l slots (copy ++ last)) (sym joined) (chain_reads w s h.n h.looks h.reads (h.copies ++ (h.runs ++ q)) slots (copy ++ last) h.read tail);
    }
