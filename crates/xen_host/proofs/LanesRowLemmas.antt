-- Rows of the table of turns: which of them use the rx index, and that a row that answers is one for each event index.
use Rattle.std.proofs.Common.{◌≡◌, ◌≢◌, ℕ, ◌+◌, ◌<◌, ◌^◌, ◌⊎◌, Bool, true, false, List, [], ◌∷◌, ◌++◌, length, map, refl, sym, ap, ◌∙◌, subst, arith, append-nil, append_assoc}
use Rattle.std.specs.Prelude.{◌||◌, not, Option, None, Some}
use Rattle.std.proofs.lemmas.Bool.{and_parts}
use mathlib.Core.Logic.{inl, inr, ⊎_elim}
use Rattle.bpf_insn.specs.declared.insn.Insn.{Insn}
use Rattle.bpf_note.specs.State.{State as Machine}
use Rattle.bpf_note.specs.declared.op.Op.{Op as Operation}
use Rattle.bpf_note.specs.declared.op.Op.TheVariants as operation
use Rattle.bpf_vm.specs.Run.{Walk, ends, goes}
use Rattle.xen_netif.specs.Chain.{Slot}
use Rattle.xen_netif.specs.declared.status.Status.{Status}
use Rattle.xen_netif.specs.declared.status.Status.TheVariants.{Okay, Error}
use Rattle.xen_netif.specs.declared.offload.RxOffload.TheVariants.{Whole}
use Rattle.xen_page.specs.declared.place.Place.{Place}
use Rattle.xen_steps.specs.Event.{Event, Read, Write, Instr, Load, Add, Notify}
use Rattle.xen_steps.specs.Places.{add32}
use Rattle.xen_rx_fill.specs.Sending.{IsTransmit, rx_overflow}
use Rattle.xen_rx_fill.specs.Shared.{notices}
use Rattle.xen_rx_fill.specs.declared.by_event.phase.TransmitOutcome.TheVariants as outcome
use Rattle.xen_turns.specs.Parts.{HasRead, IsLook, IsRespond, once, response_writes, slot_reads, slots_reads, twice}
use Rattle.xen_turns.specs.Program.{event_of}
use Rattle.xen_turns.specs.Responses.{Left, after_slots, answered as answered_spec, responses, status_of}
use Rattle.xen_turns.specs.Several.{pushed}
use Rattle.xen_turns.specs.Turned.{Turned, Ran, Refused}
use Rattle.xen_turns.specs.declared.turn.PacketRefusal.TheVariants as refusal
use Rattle.xen_turns.specs.Turns.{HasRun, IsTurn, broken, halted_rx, idle, overflown, ran, ran_tx, refused_few, refused_grant, refused_rx, refused_sizes, short, still_halted}
use Rattle.xen_turns.specs.declared.state.State.{State}
use Rattle.xen_turns.specs.declared.wiring.Wiring.{Wiring}
use Rattle.xen_turns.specs.Woven.{is_in_order}
use Rattle.xen_host.specs.Early.{at_rx}
use Rattle.xen_host.specs.Lanes.{is_calm}

-- ---- a program's events

abbrev pub is_program : Event → Bool
is_program (Read at v) = false
is_program (Write at v) = false
is_program Instr = true
is_program (Load m k j v) = true
is_program (Add m k j delta old) = true
is_program (Notify port) = false

abbrev pub has_program : List Event → Bool
has_program [] = false
has_program (e ∷ t) = is_program e || has_program t

either : (a b c : Bool) → (a || (b || c)) ≡ ((a || b) || c)
either true b c = refl
either false b c = refl

pub program_append : (t u : List Event) → has_program (t ++ u) ≡ (has_program t || has_program u)
program_append [] u = refl
program_append (e ∷ t) u = ap (λ b. is_program e || b) (program_append t u) ∙ either (is_program e) (has_program t) (has_program u)

or_left : (a b : Bool) → a ≡ true → (a || b) ≡ true
or_left true b e = refl
or_left false b e = cc e

or_right : (a b : Bool) → b ≡ true → (a || b) ≡ true
or_right true b e = refl
or_right false b e = e

pub program_left : (t u : List Event) → has_program t ≡ true → has_program (t ++ u) ≡ true
program_left t u e = program_append t u ∙ or_left (has_program t) (has_program u) e

pub program_right : (t u : List Event) → has_program u ≡ true → has_program (t ++ u) ≡ true
program_right t u e = program_append t u ∙ or_right (has_program t) (has_program u) e

neither : (a b : Bool) → a ≡ false → b ≡ false → (a || b) ≡ false
neither true b e f = cc e
neither false b e f = f

pub program_none : (t u : List Event) → has_program t ≡ false → has_program u ≡ false → has_program (t ++ u) ≡ false
program_none t u e f = program_append t u ∙ neither (has_program t) (has_program u) e f

ordered : (w : Wiring) (e : Event) → not (is_in_order w e) ≡ true → is_program e ≡ false
ordered w (Read at v) h = refl
ordered w (Write at v) h = refl
ordered w Instr h = cc h
ordered w (Load m k j v) h = cc h
ordered w (Add m k j delta old) h = cc h
ordered w (Notify port) h = refl

pub calm_program : (w : Wiring) (t : List Event) → is_calm w t ≡ true → has_program t ≡ false
calm_program w [] h = refl
calm_program w (e ∷ t) h =
    let p = and_parts (not (is_in_order w e)) (is_calm w t) h in
    neither (is_program e) (has_program t) (ordered w e p.0) (calm_program w t p.1)

label_program : (label : Option Operation) → is_program (event_of label) ≡ true
label_program None = refl
label_program (Some (operation.Load m k j v)) = refl
label_program (Some (operation.Add m k j delta old)) = refl

walk_program : (code : List Insn) (r0 : ℕ) (packet : List ℕ) (s : Machine) (labels : List (Option Operation)) → Walk code r0 packet s labels → has_program (map event_of labels) ≡ true
walk_program code r0 packet s _ (ends _ e p) = refl
walk_program code r0 packet s _ (goes _ t label labels to w) = or_left (is_program (event_of label)) (has_program (map event_of labels)) (label_program label)

pub run_program : (w : Wiring) (s : State) (p : List Event) (slots : List Slot) (out : Left) → HasRun w s p slots out → has_program p ≡ true
run_program w s p slots out run =
    let r = run.ran in
    let here : has_program run.runs ≡ true = ap has_program r.events ∙ walk_program w.program.now.code r.r0 out.packet _ r.labels r.walk in
    ap has_program run.joined ∙ program_right run.looks (run.reads ++ (run.copies ++ run.runs)) (program_right run.reads (run.copies ++ run.runs) (program_right run.copies run.runs here))

-- ---- the rx index

read_at : (w : Wiring) (s : State) (n : ℕ) (looks reads : List Event) (slots : List Slot) (x : ℕ) → HasRead w s n looks reads slots → HasRead w (at_rx x s) n looks reads slots
read_at w s n looks reads slots x h = record { running = h.running; look = h.look; some = h.some; read = h.read }

ran_not : {A : Type 0} (w : Wiring) (s : State) (p u : List Event) (slots : List Slot) (out : Left) → HasRun w s p slots out → has_program (p ++ u) ≡ false → A
ran_not w s p u slots out run none = let e = sym (program_left p u (run_program w s p slots out run)) ∙ none in cc e

-- A row without a run is one at each rx index.
pub row_forgets_rx : (w : Wiring) (s : State) (t : List Event) (after : State) (u : Turned) (x : ℕ) → has_program t ≡ false → IsTurn w s t after u → IsTurn w (at_rx x s) t (at_rx x after) u
row_forgets_rx w s _ _ _ x none (still_halted cause h) = still_halted cause h
row_forgets_rx w s _ _ _ x none (idle looks h k) = idle looks h k
row_forgets_rx w s _ _ _ x none (overflown looks h k) = overflown looks h k
row_forgets_rx w s _ _ _ x none (short looks reads n slots read end begins) = short looks reads n slots (read_at w s n looks reads slots x read) end begins
row_forgets_rx w s _ _ _ x none (broken looks reads n slots fault read faulty) = broken looks reads n slots fault (read_at w s n looks reads slots x read) faulty
row_forgets_rx w s _ _ _ x none (halted_rx p sends slots out run tx sends_all) = ran_not w s p sends slots out run none
row_forgets_rx w s _ _ _ x none (refused_sizes looks reads q n slots fault read chain sizes responded) =
    refused_sizes looks reads q n slots fault (read_at w s n looks reads slots x read) chain sizes responded
row_forgets_rx w s _ _ _ x none (refused_grant looks reads copies q n slots fragments read chain sizes copy responded) =
    refused_grant looks reads copies q n slots fragments (read_at w s n looks reads slots x read) chain sizes copy responded
row_forgets_rx w s _ _ _ x none (ran p q slots out run other responded) = ran_not w s p q slots out run none
row_forgets_rx w s _ _ _ x none (refused_few p sends q slots out run tx sends_all responded) = ran_not w s p (sends ++ q) slots out run none
row_forgets_rx w s _ _ _ x none (refused_rx p sends q used slots out run tx sends_all responded) = ran_not w s p (sends ++ q) slots out run none
row_forgets_rx w s _ _ _ x none (ran_tx p sends q used slots out run tx sends_all responded) = ran_not w s p (sends ++ q) slots out run none

-- ---- the last event

abbrev pub LastIs : (Event → Type 0) → List Event → Type 0
LastIs P [] = ⊥
LastIs P (e ∷ []) = P e
LastIs P (e ∷ f ∷ t) = LastIs P (f ∷ t)

last_append : (P : Event → Type 0) (t u : List Event) → LastIs P u → LastIs P (t ++ u)
last_append P [] u h = h
last_append P (e ∷ []) [] h = absurd h
last_append P (e ∷ []) (f ∷ u) h = h
last_append P (e ∷ d ∷ t) u h = last_append P (d ∷ t) u h

pub last_of : (P : Event → Type 0) (t : List Event) (e : Event) (u : List Event) → LastIs P (t ++ e ∷ u) → LastIs P (e ∷ u)
last_of P [] e u h = h
last_of P (d ∷ []) e u h = h
last_of P (d ∷ c ∷ t) e u h = last_of P (c ∷ t) e u h

-- a read, but of no event index
abbrev pub IsOtherRead : Event → Type 0
IsOtherRead (Read at v) = at.word ≢ 3
IsOtherRead (Write at v) = ⊥
IsOtherRead Instr = ⊥
IsOtherRead (Load m k j v) = ⊥
IsOtherRead (Add m k j delta old) = ⊥
IsOtherRead (Notify port) = ⊥

look_last : (w : Wiring) (t : ℕ) (looks : List Event) (o : Option ℕ) → IsLook w t looks o → LastIs IsOtherRead looks
look_last w t _ _ (once p lt some) = λ e. omega (arith, e)
look_last w t _ _ (twice p q lt lq none) = λ e. omega (arith, e)

slot_last : (w : Wiring) (i : ℕ) (slot : Slot) → (slot_reads w i slot ≡ []) ⊎ LastIs IsOtherRead (slot_reads w i slot)
slot_last w i [] = inl refl
slot_last w i (a ∷ []) = inl refl
slot_last w i (a ∷ b ∷ []) = inl refl
slot_last w i (a ∷ b ∷ c ∷ []) = inr (λ e. omega (arith, e))
slot_last w i (a ∷ b ∷ c ∷ d ∷ more) = inl refl

slots_last : (w : Wiring) (t i : ℕ) (slots : List Slot) → (slots_reads w t i slots ≡ []) ⊎ LastIs IsOtherRead (slots_reads w t i slots)
slots_last w t i [] = inl refl
slots_last w t i (slot ∷ slots) =
    ⊎_elim (λ e. ⊎_elim (λ f. inl (ap (λ l. slot_reads w (add32 t i) slot ++ l) e ∙ append-nil (slot_reads w (add32 t i) slot) ∙ f))
    (λ f. inr (subst (λ l. LastIs IsOtherRead (slot_reads w (add32 t i) slot ++ l)) (sym e) (subst (λ l. LastIs IsOtherRead l) (sym (append-nil (slot_reads w (add32 t i) slot))) f)))
    (slot_last w (add32 t i) slot))
    (λ l. inr (last_append IsOtherRead (slot_reads w (add32 t i) slot) (slots_reads w t (i + 1) slots) l)) (slots_last w t (i + 1) slots)

read_last : (w : Wiring) (s : State) (n : ℕ) (looks reads : List Event) (slots : List Slot) → HasRead w s n looks reads slots → LastIs IsOtherRead (looks ++ reads)
read_last w s n looks reads slots h =
    subst (λ l. LastIs IsOtherRead (looks ++ l)) (sym h.read.reads)
    (⊎_elim (λ e. subst (λ l. LastIs IsOtherRead (looks ++ l)) (sym e) (subst (λ l. LastIs IsOtherRead l) (sym (append-nil looks)) (look_last w s.tx_index looks (Some n) h.look)))
    (λ l. last_append IsOtherRead looks (slots_reads w s.tx_index 0 slots) l) (slots_last w s.tx_index 0 slots))

-- ---- rows that answer

-- A row whose responses are pushed is one for each event index.
pub record Answers (w : Wiring) (s : State) (t : List Event) (after : State) (u : Turned) : Type 0 where
  pub events : List Event
  pub event : ℕ
  pub trace : t ≡ events ++ pushed w s.tx_index after.tx_index event
  pub halt : after.halt ≡ s.halt
  pub each : (e : ℕ) → e < 2 ^ 32 → IsTurn w s (events ++ pushed w s.tx_index after.tx_index e) after u

answers_by : (w : Wiring) (s after : State) (front q : List Event) (slots : List Slot) (st : Status) (u : Turned) → after.tx_index ≡ add32 s.tx_index (length slots) → after.halt ≡ s.halt →
    IsRespond w s.tx_index slots st q → ((q : List Event) → IsRespond w s.tx_index slots st q → IsTurn w s (front ++ q) after u) → Answers w s (front ++ q) after u
answers_by w s after front q slots st u index halt respond turn =
    let writes = response_writes w s.tx_index 0 (responses st slots) in
    let next = add32 s.tx_index (length slots) in
    record {
      events = front ++ writes;
      event = respond.0;
      trace = ap (λ l. front ++ l) respond.2 ∙ sym (append_assoc front writes (pushed w s.tx_index next respond.0)) ∙ ap (λ x. (front ++ writes) ++ pushed w s.tx_index x respond.0) (sym index);
      halt = halt;
      each = λ e lt. subst (λ x. IsTurn w s ((front ++ writes) ++ pushed w s.tx_index x e) after u) (sym index)
          (subst (λ l. IsTurn w s l after u) (sym (append_assoc front writes (pushed w s.tx_index next e))) (turn (writes ++ pushed w s.tx_index next e) (e, lt, refl)));
    }

answers_behind : (w : Wiring) (s after : State) (front mid q : List Event) (slots : List Slot) (st : Status) (u : Turned) → after.tx_index ≡ add32 s.tx_index (length slots) → after.halt ≡ s.halt →
    IsRespond w s.tx_index slots st q → ((q : List Event) → IsRespond w s.tx_index slots st q → IsTurn w s (front ++ (mid ++ q)) after u) → Answers w s (front ++ (mid ++ q)) after u
answers_behind w s after front mid q slots st u index halt respond turn =
    subst (λ l. Answers w s l after u) (append_assoc front mid q)
    (answers_by w s after (front ++ mid) q slots st u index halt respond (λ q r. subst (λ l. IsTurn w s l after u) (sym (append_assoc front mid q)) (turn q r)))

-- A row answers, or it ends with another read than that of the event index.
pub row_answers : (w : Wiring) (s : State) (t : List Event) (after : State) (u : Turned) → s.halt ≡ None → IsTurn w s t after u → Answers w s t after u ⊎ LastIs IsOtherRead t
row_answers w s _ _ _ run (still_halted cause h) = let e = sym run ∙ h in cc e
row_answers w s _ _ _ run (idle looks h k) = inr (look_last w s.tx_index looks (Some 0) k)
row_answers w s _ _ _ run (overflown looks h k) = inr (look_last w s.tx_index looks None k)
row_answers w s _ _ _ run (short looks reads n slots read end begins) = inr (read_last w s n looks reads slots read)
row_answers w s _ _ _ run (broken looks reads n slots fault read faulty) = inr (read_last w s n looks reads slots read)
row_answers w s _ _ _ run (halted_rx p sends slots out ranit tx sends_all) = inr (last_append IsOtherRead p sends (overflow_last w s.rx_index out.packet sends sends_all))
  where
    overflow_last : (w : Wiring) (x : ℕ) (packet : List ℕ) (sends : List Event) → IsTransmit w.vif x Whole packet sends outcome.Overflow → LastIs IsOtherRead sends
    overflow_last w x packet _ (rx_overflow p lt none) = λ e. omega (arith, e)
row_answers w s _ _ _ run (refused_sizes looks reads q n slots fault read chain sizes responded) =
    inl (answers_behind w s (answered_spec s (length slots)) looks reads q slots Error (Refused (refusal.Size fault) 0 (length slots)) refl refl responded
    (λ q r. refused_sizes looks reads q n slots fault read chain sizes r))
row_answers w s _ _ _ run (refused_grant looks reads copies q n slots fragments read chain sizes copy responded) =
    let after = answered_spec s (length slots) in
    let u = Refused refusal.Grant 0 (length slots) in
    let e : (q : List Event) → looks ++ ((reads ++ copies) ++ q) ≡ looks ++ (reads ++ (copies ++ q)) = λ q. ap (λ l. looks ++ l) (append_assoc reads copies q) in
    inl (subst (λ l. Answers w s l after u) (e q) (answers_behind w s after looks (reads ++ copies) q slots Error u refl refl responded
    (λ q r. subst (λ l. IsTurn w s l after u) (sym (e q)) (refused_grant looks reads copies q n slots fragments read chain sizes copy r))))
row_answers w s _ _ _ run (ran p q slots out ranit other responded) =
    inl (answers_by w s (answered_spec s (length slots)) p q slots (status_of out.number) (Ran out.number out.packet out.ops (length slots)) refl refl responded (λ q r. ran p q slots out ranit other r))
row_answers w s _ _ _ run (refused_few p sends q slots out ranit tx sends_all responded) =
    inl (answers_behind w s (answered_spec s (length slots)) p sends q slots Error (Refused refusal.FewSlots out.ops (length slots)) refl refl responded
    (λ q r. refused_few p sends q slots out ranit tx sends_all r))
row_answers w s _ _ _ run (refused_rx p sends q used slots out ranit tx sends_all responded) =
    inl (answers_behind w s (answered_spec (after_slots s used) (length slots)) p sends q slots Error (Refused refusal.RxGrant out.ops (length slots)) refl refl responded
    (λ q r. refused_rx p sends q used slots out ranit tx sends_all r))
row_answers w s _ _ _ run (ran_tx p sends q used slots out ranit tx sends_all responded) =
    inl (answers_behind w s (answered_spec (after_slots s used) (length slots)) p sends q slots Okay (Ran 3 out.packet out.ops (length slots)) refl refl responded
    (λ q r. ran_tx p sends q used slots out ranit tx sends_all r))

-- ---- the end of a trace

pub snoc_same : (t u : List Event) (x y : Event) → t ++ x ∷ [] ≡ u ++ y ∷ [] → (t ≡ u) × (x ≡ y)
snoc_same [] [] x y e = (refl, cc e)
snoc_same [] (b ∷ []) x y e = cc e
snoc_same [] (b ∷ c ∷ u) x y e = cc e
snoc_same (a ∷ []) [] x y e = cc e
snoc_same (a ∷ c ∷ t) [] x y e = cc e
snoc_same (a ∷ t) (b ∷ u) x y e =
    let head : a ≡ b = cc e in
    let tail : t ++ x ∷ [] ≡ u ++ y ∷ [] = cc e in
    let r = snoc_same t u x y tail in
    (ap (λ l. a ∷ l) r.0 ∙ ap (λ h. h ∷ u) head, r.1)

-- a read of the event index and what comes behind it
pub push_same : (w : Wiring) (t u : List Event) (at : Place) (v e : ℕ) (x : Event) (b c : Bool) →
    t ++ Read at v ∷ notices w.vif b ≡ u ++ x ∷ Read at e ∷ notices w.vif c → t ≡ u ++ x ∷ []
push_same w t u at v e x false false h = (snoc_same t (u ++ x ∷ []) (Read at v) (Read at e) (h ∙ sym (append_assoc u (x ∷ []) (Read at e ∷ [])))).0
push_same w t u at v e x true true h =
    let n = Notify w.vif.port in
    let r = snoc_same (t ++ Read at v ∷ []) (u ++ x ∷ Read at e ∷ []) n n (append_assoc t (Read at v ∷ []) (n ∷ []) ∙ h ∙ sym (append_assoc u (x ∷ Read at e ∷ []) (n ∷ []))) in
    (snoc_same t (u ++ x ∷ []) (Read at v) (Read at e) (r.0 ∙ sym (append_assoc u (x ∷ []) (Read at e ∷ [])))).0
push_same w t u at v e x true false h =
    let n = Notify w.vif.port in
    let r = snoc_same (t ++ Read at v ∷ []) (u ++ x ∷ []) n (Read at e) (append_assoc t (Read at v ∷ []) (n ∷ []) ∙ h ∙ sym (append_assoc u (x ∷ []) (Read at e ∷ []))) in
    let f : n ≡ Read at e = r.1 in cc f
push_same w t u at v e x false true h =
    let n = Notify w.vif.port in
    let r = snoc_same t (u ++ x ∷ Read at e ∷ []) (Read at v) n (h ∙ sym (append_assoc u (x ∷ Read at e ∷ []) (n ∷ []))) in
    let f : Read at v ≡ n = r.1 in cc f
