-- Turns that are made side by side, and that one of them is a turn of the table.
use Rattle.std.proofs.Common.{Bool, true, false, ◌≡◌, ℕ, zero, suc, ◌<◌, ◌≤◌, ◌^◌, List, [], ◌∷◌, ◌++◌, Option, Some, None, length, slice_get, refl, sym, ◌∙◌, ap, append_assoc, append-nil, arith, subst}
use Rattle.std.specs.Prelude.{min, if◌then◌else◌}
use Rattle.xen_netif.specs.Chain.{IsChain, Slot}
use Rattle.xen_netif.specs.declared.status.Status.{Status}
use Rattle.xen_netif.specs.declared.status.Status.TheVariants.{Okay, Error}
use Rattle.xen_ring.specs.Index.{distance}
use Rattle.xen_steps.specs.Event.{Event, Read, Write}
use Rattle.xen_steps.specs.Places.{add32}
use Rattle.xen_rx_fill.specs.Places.{tx_word}
use Rattle.xen_turns.specs.Parts.{IsLook, IsRespond, once, response_writes, twice}
use Rattle.xen_turns.specs.Responses.{Left, responses, status_of}
use Rattle.xen_turns.specs.Several.{IsAnswered, IsSeveral, Part, alone, answered as all_answered, halted, pushed}
use Rattle.xen_turns.specs.Turned.{Turned, Idle, Halted}
use Rattle.xen_turns.specs.Turns.{HasRun, IsTurn, broken, halted_rx, idle, overflown, ran, ran_tx, refused_few, refused_grant, refused_rx, refused_sizes, short, still_halted}
use Rattle.xen_turns.specs.Woven.{AllBelow, AreWoven, IsRising, Made, events_of, is_in_order, of_turn, turns_in_order}
use Rattle.xen_turns.specs.declared.state.State.{State}
use Rattle.xen_turns.specs.declared.wiring.Wiring.{Wiring}
use Rattle.xen_turns.proofs.ChainLemmas.{standing_chain}
use Rattle.xen_turns.proofs.OnceLemmas.{few_shown}

made_alone : (t : List Made) → AllBelow 1 t → events_of t ≡ of_turn 0 t
made_alone [] h = refl
made_alone (m ∷ t) h = let z : m.turn ≡ 0 = omega (arith, h.0) in rw z (ap (λ l. m.event ∷ l) (made_alone t h.1))

pub woven_alone : (w : Wiring) (events : List Event) (made : List Made) → AreWoven w (events ∷ []) made → events_of made ≡ events
woven_alone w events made v = let one : Some events ≡ Some (of_turn 0 made) = v.each 0 (omega arith) in made_alone made v.none_else ∙ cc one

pub several_alone : (w : Wiring) (s : State) (t : List Event) (after : State) (us : List Turned) → IsSeveral w s 1 t after us →
    (u : Turned) × (us ≡ u ∷ []) × IsTurn w s t after u
several_alone w s _ _ _ (alone t after u x none) = (u, refl, x)
several_alone w s _ _ _ (all_answered look made p n event [] after run seen some few are least woven small) = absurd (omega (arith, some))
several_alone w s _ _ _ (all_answered look made p n event (a ∷ []) after run seen some few are least woven small) =
    (a.turned, refl, rw (woven_alone w a.events made woven) (rw are.1 (are.0 event small)))
several_alone w s _ _ _ (all_answered look made p n event (a ∷ b ∷ more) after run seen some few are least woven small) = absurd (omega (arith, few))
several_alone w s _ _ _ (halted look made p n event [] mid last [] cause run seen few are turn same begun woven small) =
    (Halted cause, refl, rw (woven_alone w last.events made woven) (rw append-nil (rw (sym are) turn)))
several_alone w s _ _ _ (halted look made p n event [] mid last (e ∷ more) cause run seen few are turn same begun woven small) = absurd (omega (arith, few))
several_alone w s _ _ _ (halted look made p n event (a ∷ more) mid last begun cause run seen few are turn same begins woven small) = absurd (omega (arith, few))

-- the other way: the look ends with a read of the producer
ends_with_producer : (w : Wiring) (t : ℕ) (looks : List Event) (o : Option ℕ) → IsLook w t looks o → (look : List Event) × (p : ℕ) × (looks ≡ look ++ Read (tx_word w.vif 0) p ∷ [])
ends_with_producer w t _ _ (once p lt some) = ([], p, refl)
ends_with_producer w t _ _ (twice p q lt lq none) = (Read (tx_word w.vif 0) p ∷ Write (tx_word w.vif 1) (add32 t 1) ∷ [], q, refl)

look_few : (w : Wiring) (t n : ℕ) (looks : List Event) (o : Option ℕ) → IsLook w t looks o → o ≡ Some n → n ≤ 256
look_few w t n _ _ (once p lt some) e = few_shown t p n e
look_few w t n _ _ (twice p q lt lq none) e = few_shown t q n e

chain_some : (slots : List Slot) → IsChain slots → 0 < length slots
chain_some [] c = absurd (cc (standing_chain [] c))
chain_some (x ∷ more) c = omega arith

pub far : (t k : ℕ) → t < 2 ^ 32 → k < 2 ^ 32 → distance t (add32 t k) ≡ k
far t k h g = omega arith

abbrev all_made : List Event → List Made
all_made [] = []
all_made (e ∷ t) = record { turn = 0; event = e } ∷ all_made t

made_all : (t : List Event) → events_of (all_made t) ≡ t
made_all [] = refl
made_all (e ∷ t) = ap (λ l. e ∷ l) (made_all t)

made_first : (t : List Event) → of_turn 0 (all_made t) ≡ t
made_first [] = refl
made_first (e ∷ t) = ap (λ l. e ∷ l) (made_first t)

made_below : (t : List Event) → AllBelow 1 (all_made t)
made_below [] = tt
made_below (e ∷ t) = (omega arith, made_below t)

made_rising : (w : Wiring) (t : List Event) → IsRising 0 (turns_in_order w (all_made t))
made_rising w [] = tt
made_rising w (e ∷ t) = by (is_in_order w e) (made_rising w t)
  where
    by : (b : Bool) → IsRising 0 (turns_in_order w (all_made t)) → IsRising 0 (if b then 0 ∷ turns_in_order w (all_made t) else turns_in_order w (all_made t))
    by true h = (omega arith, h)
    by false h = h

woven_of : (w : Wiring) (events : List Event) → AreWoven w (events ∷ []) (all_made events)
woven_of w events = record { each = by; none_else = made_below events; order = made_rising w events }
  where
    by : (k : ℕ) → k < length (events ∷ []) → slice_get (events ∷ []) k ≡ Some (of_turn k (all_made events))
    by zero h = ap Some (sym (made_first events))
    by (suc k) h = absurd (omega (arith, h))

-- a turn that answers slots: what is between its look and its responses stays, whatever event index is read
answers : (w : Wiring) (s after : State) (looks mid q : List Event) (n : ℕ) (slots : List Slot) (st : Status) (u : Turned) → s.tx_index < 2 ^ 32 → s.halt ≡ None →
    IsLook w s.tx_index looks (Some n) → IsChain slots → length slots ≤ n → after.tx_index ≡ add32 s.tx_index (length slots) → IsRespond w s.tx_index slots st q →
    ((q : List Event) → IsRespond w s.tx_index slots st q → IsTurn w s (looks ++ (mid ++ q)) after u) → IsSeveral w s 1 (looks ++ (mid ++ q)) after (u ∷ [])
answers w s after looks mid q n slots st u small run seen chain within index respond turn =
    let writes = response_writes w s.tx_index 0 (responses st slots) in
    let event = respond.0 in
    let found = ends_with_producer w s.tx_index looks (Some n) seen in
    let look : List Event = found.0 ++ Read (tx_word w.vif 0) found.1 ∷ [] in
    let few = look_few w s.tx_index n looks (Some n) seen refl in
    let a : Part = record { events = mid ++ writes; after = after; turned = u } in
    let next = add32 s.tx_index (length slots) in
    let is : IsAnswered w s looks a = λ e lt. subst (λ x. IsTurn w s (looks ++ ((mid ++ writes) ++ pushed w s.tx_index x e)) after u) (sym index)
    (rw append_assoc (turn (writes ++ pushed w s.tx_index next e) (e, lt, refl))) in
    let far : distance s.tx_index next ≡ length slots = far s.tx_index (length slots) small (omega (arith, few, within)) in
    let least : min n 1 ≤ distance s.tx_index after.tx_index = rw index (rw far (omega (arith, chain_some slots chain))) in
    let whole : IsSeveral w s 1 (look ++ (events_of (all_made a.events) ++ pushed w s.tx_index after.tx_index event)) after (u ∷ []) =
    all_answered found.0 (all_made a.events) found.1 n event (a ∷ []) after run (subst (λ l. IsLook w s.tx_index l (Some n)) found.2 seen) (omega arith) (omega arith)
    (subst (λ l. IsAnswered w s l a) found.2 is, refl) least (woven_of w a.events) respond.1 in
    let same : events_of (all_made a.events) ++ pushed w s.tx_index after.tx_index event ≡ mid ++ q =
    ap (λ l. l ++ pushed w s.tx_index after.tx_index event) (made_all a.events) ∙ (ap (λ x. (mid ++ writes) ++ pushed w s.tx_index x event) index
    ∙ (append_assoc mid writes (pushed w s.tx_index next event) ∙ ap (λ l. mid ++ l) (sym respond.2))) in
    subst (λ l. IsSeveral w s 1 (l ++ (mid ++ q)) after (u ∷ [])) (sym found.2) (subst (λ l. IsSeveral w s 1 (look ++ l) after (u ∷ [])) same whole)

-- as `answers`, of a packet on which the program ran: p are its look and all up to the run's end, and `sends` what comes before the responses
after_run : (w : Wiring) (s after : State) (p sends q : List Event) (slots : List Slot) (st : Status) (out : Left) (u : Turned) → s.tx_index < 2 ^ 32 → HasRun w s p slots out →
    after.tx_index ≡ add32 s.tx_index (length slots) → IsRespond w s.tx_index slots st q →
    ((q : List Event) → IsRespond w s.tx_index slots st q → IsTurn w s (p ++ (sends ++ q)) after u) → IsSeveral w s 1 (p ++ (sends ++ q)) after (u ∷ [])
after_run w s after p sends q slots st out u small run index respond turn =
    let rest = run.reads ++ (run.copies ++ run.runs) in
    let same : (q : List Event) → run.looks ++ ((rest ++ sends) ++ q) ≡ p ++ (sends ++ q) =
    λ q. ap (λ l. run.looks ++ l) (append_assoc rest sends q) ∙ (sym (append_assoc run.looks rest (sends ++ q)) ∙ ap (λ l. l ++ (sends ++ q)) (sym run.joined)) in
    subst (λ l. IsSeveral w s 1 l after (u ∷ [])) (same q)
    (answers w s after run.looks (rest ++ sends) q run.n slots st u small run.read.running run.read.look run.whole run.read.read.within index respond
    (λ q r. subst (λ l. IsTurn w s l after u) (sym (same q)) (turn q r)))

-- a row of the table is a turn of one packet
pub turn_alone : (w : Wiring) (s : State) (t : List Event) (after : State) (u : Turned) → s.tx_index < 2 ^ 32 → IsTurn w s t after u → IsSeveral w s 1 t after (u ∷ [])
turn_alone w s _ _ _ small (still_halted cause h) = alone [] s (Halted cause) (still_halted cause h) tt
turn_alone w s _ _ _ small (idle looks h k) = alone looks s Idle (idle looks h k) tt
turn_alone w s _ _ _ small (overflown looks h k) = alone looks _ _ (overflown looks h k) tt
turn_alone w s _ _ _ small (short looks reads n slots read end begins) = alone (looks ++ reads) _ _ (short looks reads n slots read end begins) tt
turn_alone w s _ _ _ small (broken looks reads n slots fault read faulty) = alone (looks ++ reads) _ _ (broken looks reads n slots fault read faulty) tt
turn_alone w s _ _ _ small (halted_rx p sends slots out run tx sends_all) = alone (p ++ sends) _ _ (halted_rx p sends slots out run tx sends_all) tt
turn_alone w s _ _ _ small (refused_sizes looks reads q n slots fault read chain sizes responded) =
    answers w s _ looks reads q n slots Error _ small read.running read.look chain read.read.within refl responded
    (λ q r. refused_sizes looks reads q n slots fault read chain sizes r)
turn_alone w s _ _ _ small (refused_grant looks reads copies q n slots fragments read chain sizes copy responded) =
    rw (sym (append_assoc reads copies q)) (answers w s _ looks (reads ++ copies) q n slots Error _ small read.running read.look chain read.read.within refl responded
    (λ q r. rw append_assoc (refused_grant looks reads copies q n slots fragments read chain sizes copy r)))
turn_alone w s _ _ _ small (ran p q slots out run other responded) = after_run w s _ p [] q slots (status_of out.number) out _ small run refl responded (λ q r. ran p q slots out run other r)
turn_alone w s _ _ _ small (refused_few p sends q slots out run tx sends_all responded) =
    after_run w s _ p sends q slots Error out _ small run refl responded (λ q r. refused_few p sends q slots out run tx sends_all r)
turn_alone w s _ _ _ small (refused_rx p sends q used slots out run tx sends_all responded) =
    after_run w s _ p sends q slots Error out _ small run refl responded (λ q r. refused_rx p sends q used slots out run tx sends_all r)
turn_alone w s _ _ _ small (ran_tx p sends q used slots out run tx sends_all responded) =
    after_run w s _ p sends q slots Okay out _ small run refl responded (λ q r. ran_tx p sends q used slots out run tx sends_all r)
