-- How many events a turn of several packets has.
use Rattle.std.proofs.Common.{Bool, true, false, ◌≡◌, ℕ, zero, suc, ◌+◌, ◌*◌, ◌<◌, ◌≤◌, List, [], ◌∷◌, ◌++◌, Some, length, slice_get, refl, sym, ◌∙◌, ap, arith, length-append}
use Rattle.std.specs.Prelude.{◌==◌}
use Rattle.std.proofs.Math.Nat.{mul-add, mul-le-mul_left, mul-suc}
use Rattle.std.proofs.lemmas.Bool.Decides.{nat_tests}
use Rattle.xen_steps.specs.Drive.{accesses, accesses_of, program_events}
use Rattle.xen_steps.specs.Event.{Event, Read, Write, Notify, Instr, Load, Add}
use Rattle.xen_rx_fill.specs.Places.{tx_word}
use Rattle.xen_rx_fill.specs.Shared.{notices}
use Rattle.xen_ring.specs.Index.{is_due}
use Rattle.xen_turns.specs.Several.{AreAnswered, AreBegun, IsAnswered, IsSeveral, Part, alone, answered as all_answered, events_in, halted, pushed}
use Rattle.xen_turns.specs.Turned.{Turned, Halted}
use Rattle.xen_turns.specs.Turns.{IsTurn}
use Rattle.xen_turns.specs.Woven.{AllBelow, AreWoven, Made, events_of, of_turn}
use Rattle.xen_turns.specs.declared.state.State.{State}
use Rattle.xen_turns.specs.declared.wiring.Wiring.{Wiring}
use Rattle.bpf_verify.specs.Consistent.{instructions}
use Rattle.xen_turns.proofs.Figures.{one_more, turn_accesses, turn_most}

-- what events weigh
abbrev pub total : (Event → ℕ) → List Event → ℕ
total g [] = 0
total g (e ∷ t) = g e + total g t

total-append : (g : Event → ℕ) (t u : List Event) → total g (t ++ u) ≡ total g t + total g u
total-append g [] u = omega arith
total-append g (e ∷ t) u = let h = total-append g t u in omega (arith, h)

-- of n turns from the j-th on
abbrev of_turns : (Event → ℕ) → (j n : ℕ) → List Made → ℕ
of_turns g j zero made = 0
of_turns g j (suc n) made = total g (of_turn j made) + of_turns g (j + 1) n made

none_made : (g : Event → ℕ) (j n : ℕ) → of_turns g j n [] ≡ 0
none_made g j zero = refl
none_made g j (suc n) = let h = none_made g (j + 1) n in omega (arith, h)

-- an event more of a turn that isn't among them, or of one that is
other_made : (g : Event → ℕ) (j n : ℕ) (m : Made) (made : List Made) → m.turn < j → of_turns g j n (m ∷ made) ≡ of_turns g j n made
other_made g j zero m made h = refl
other_made g j (suc n) m made h =
    let not : (m.turn == j) ≡ false = grind (arith, nat_tests, h) in
    let more = other_made g (j + 1) n m made (omega (arith, h)) in
    rw not (ap (λ k. total g (of_turn j made) + k) more)

one_made : (g : Event → ℕ) (j n : ℕ) (m : Made) (made : List Made) → j ≤ m.turn → m.turn < j + n → of_turns g j n (m ∷ made) ≡ g m.event + of_turns g j n made
one_made g j zero m made h k = absurd (omega (arith, h, k))
one_made g j (suc n) m made h k = by (m.turn == j) refl (λ past. one_made g (j + 1) n m made past (omega (arith, k)))
  where
    by : (b : Bool) → (m.turn == j) ≡ b → (j + 1 ≤ m.turn → of_turns g (j + 1) n (m ∷ made) ≡ g m.event + of_turns g (j + 1) n made) → of_turns g j (suc n) (m ∷ made) ≡ g m.event + of_turns g j (suc n) made
    by true e rest =
        let at : m.turn ≡ j = grind (arith, nat_tests, e) in
        let same = other_made g (j + 1) n m made (omega (arith, at)) in
        rw e (rw same (omega arith))
    by false e rest =
        let past : j + 1 ≤ m.turn = grind (arith, nat_tests, e, h) in
        let more = rest past in
        rw e (rw more (omega arith))

all_made : (g : Event → ℕ) (n : ℕ) (made : List Made) → AllBelow n made → total g (events_of made) ≡ of_turns g 0 n made
all_made g n [] h = sym (none_made g 0 n)
all_made g n (m ∷ made) h = ap (λ k. g m.event + k) (all_made g n made h.1) ∙ sym (one_made g 0 n m made (omega arith) (omega (arith, h.0)))

-- of a list of traces
abbrev of_parts : (Event → ℕ) → List (List Event) → ℕ
of_parts g [] = 0
of_parts g (p ∷ ps) = total g p + of_parts g ps

by_parts : (g : Event → ℕ) (j : ℕ) (ps : List (List Event)) (made : List Made) → ((k : ℕ) → k < length ps → slice_get ps k ≡ Some (of_turn (j + k) made)) →
    of_turns g j (length ps) made ≡ of_parts g ps
by_parts g j [] made h = refl
by_parts g j (p ∷ ps) made h =
    let here : j + 0 ≡ j = omega arith in
    let first : Some p ≡ Some (of_turn (j + 0) made) = h 0 (omega arith) in
    let same : p ≡ of_turn (j + 0) made = cc first in
    let later = by_parts g (j + 1) ps made (λ k lt. let at : j + 1 + k ≡ j + suc k = omega arith in rw at (h (suc k) (omega (arith, lt)))) in
    ap (λ k. total g (of_turn k made) + of_turns g (j + 1) (length ps) made) (sym here) ∙ (ap (λ l. total g l + of_turns g (j + 1) (length ps) made) (sym same)
    ∙ ap (λ k. total g p + k) later)

woven_total : (w : Wiring) (g : Event → ℕ) (ps : List (List Event)) (made : List Made) → AreWoven w ps made → total g (events_of made) ≡ of_parts g ps
woven_total w g ps made v = all_made g (length ps) made v.none_else ∙ by_parts g 0 ps made (λ k lt. let at : 0 + k ≡ k = omega arith in rw at (v.each k lt))

-- An event's weight, of which a turn has so much at most. Each push of responses weighs the same.
record Weighs (w : Wiring) (g : Event → ℕ) (most push : ℕ) : Type 0 where
  same : (old new event : ℕ) → total g (pushed w old new event) ≡ push
  turn : (s : State) (t : List Event) (after : State) (u : Turned) → IsTurn w s t after u → total g t ≤ most

one_answered : (w : Wiring) (g : Event → ℕ) (most push : ℕ) → Weighs w g most push → (s : State) (look : List Event) (a : Part) → IsAnswered w s look a →
    total g look + total g a.events + push ≤ most
one_answered w g most push x s look a h =
    let whole = x.turn s (look ++ (a.events ++ pushed w s.tx_index a.after.tx_index 0)) a.after a.turned (h 0 (omega arith)) in
    let first = total-append g look (a.events ++ pushed w s.tx_index a.after.tx_index 0) in
    let second = total-append g a.events (pushed w s.tx_index a.after.tx_index 0) in
    let third = x.same s.tx_index a.after.tx_index 0 in
    omega (arith, whole, first, second, third)

all_answered_weigh : (w : Wiring) (g : Event → ℕ) (most push : ℕ) → Weighs w g most push → (p : ℕ) (s : State) (look : List Event) (a : Part) (more : List Part) (end : State) →
    AreAnswered w p s look (a ∷ more) end → total g look + of_parts g (events_in (a ∷ more)) + push ≤ most * length (a ∷ more)
all_answered_weigh w g most push x p s look a [] end h =
    let one = one_answered w g most push x s look a h.0 in
    let times = mul-suc most 0 in
    omega (arith, one, times)
all_answered_weigh w g most push x p s look a (b ∷ more) end h =
    let one = one_answered w g most push x s look a h.0 in
    let later = all_answered_weigh w g most push x p a.after (Read (tx_word w.vif 0) p ∷ []) b more end h.1 in
    let times = mul-suc most (length (b ∷ more)) in
    omega (arith, one, later, times)

all_begun_weigh : (w : Wiring) (g : Event → ℕ) (most push : ℕ) → Weighs w g most push → (p : ℕ) (begun : List (List Event)) → AreBegun w p begun →
    of_parts g begun ≤ most * length begun
all_begun_weigh w g most push x p [] h = omega arith
all_begun_weigh w g most push x p (events ∷ more) h =
    let b = h.0 in
    let whole = x.turn b.state (Read (tx_word w.vif 0) p ∷ (events ++ b.rest)) b.after b.turned b.turn in
    let front = total-append g events b.rest in
    let later = all_begun_weigh w g most push x p more h.1 in
    let times = mul-suc most (length more) in
    omega (arith, whole, front, later, times)

parts-append : (g : Event → ℕ) (ps qs : List (List Event)) → of_parts g (ps ++ qs) ≡ of_parts g ps + of_parts g qs
parts-append g [] qs = omega arith
parts-append g (p ∷ ps) qs = let h = parts-append g ps qs in omega (arith, h)

several_weigh : (w : Wiring) (g : Event → ℕ) (most push : ℕ) → Weighs w g most push → (s : State) (packets : ℕ) (t : List Event) (after : State) (us : List Turned) →
    0 < packets → IsSeveral w s packets t after us → (n : ℕ) × (n ≤ packets) × (total g t ≤ most * n)
several_weigh w g most push x s packets _ _ _ some (alone t after u turn none) =
    let times = mul-suc most 0 in
    let whole = x.turn s t after u turn in
    (1, some, omega (arith, whole, times))
several_weigh w g most push x s packets _ _ _ some (all_answered look made p n event [] after run seen any few are least woven small) = absurd (omega (arith, any))
several_weigh w g most push x s packets _ _ _ some (all_answered look made p n event (a ∷ more) after run seen any few are least woven small) =
    let looks = look ++ Read (tx_word w.vif 0) p ∷ [] in
    let weigh = all_answered_weigh w g most push x p s looks a more after are in
    let first = total-append g looks (events_of made ++ pushed w s.tx_index after.tx_index event) in
    let second = total-append g (events_of made) (pushed w s.tx_index after.tx_index event) in
    let third = x.same s.tx_index after.tx_index event in
    let fourth = woven_total w g (events_in (a ∷ more)) made woven in
    (length (a ∷ more), few, omega (arith, weigh, first, second, third, fourth))
several_weigh w g most push x s packets _ _ _ some (halted look made p n event [] mid last begun cause run seen few are turn same begins woven small) =
    let looks = look ++ Read (tx_word w.vif 0) p ∷ [] in
    let whole = x.turn mid (looks ++ last.events) last.after (Halted cause) turn in
    let front = total-append g looks last.events in
    let first = total-append g looks (events_of made ++ []) in
    let second = total-append g (events_of made) [] in
    let later = all_begun_weigh w g most push x p begun begins in
    let all = woven_total w g (last.events ∷ begun) made woven in
    let times = mul-suc most (length begun) in
    (suc (length begun), omega (arith, few), omega (arith, whole, front, first, second, later, all, times))
several_weigh w g most push x s packets _ _ _ some (halted look made p n event (a ∷ more) mid last begun cause run seen few are turn same begins woven small) =
    let looks = look ++ Read (tx_word w.vif 0) p ∷ [] in
    let weigh = all_answered_weigh w g most push x p s looks a more mid are in
    let whole = x.turn mid (Read (tx_word w.vif 0) p ∷ last.events) last.after (Halted cause) turn in
    let first = total-append g looks (events_of made ++ pushed w s.tx_index mid.tx_index event) in
    let second = total-append g (events_of made) (pushed w s.tx_index mid.tx_index event) in
    let third = x.same s.tx_index mid.tx_index event in
    let later = all_begun_weigh w g most push x p begun begins in
    let parts = parts-append g (events_in (a ∷ more)) (last.events ∷ begun) in
    let all = woven_total w g (events_in (a ∷ more) ++ (last.events ∷ begun)) made woven in
    let times = mul-suc most (length begun) in
    let sum = mul-add most (length (a ∷ more)) (suc (length begun)) in
    (length (a ∷ more) + suc (length begun), omega (arith, few), omega (arith, weigh, whole, first, second, third, later, parts, all, times, sum))

-- accesses, and instructions of a program
abbrev access_weight : Event → ℕ
access_weight e = length (accesses_of e)

accesses_weigh : (t : List Event) → length (accesses t) ≡ total access_weight t
accesses_weigh [] = refl
accesses_weigh (e ∷ t) = length-append (accesses_of e) (accesses t) ∙ ap (λ k. access_weight e + k) (accesses_weigh t)

abbrev instruction_weight : Event → ℕ
instruction_weight e = program_events (e ∷ [])

instructions_weigh : (t : List Event) → program_events t ≡ total instruction_weight t
instructions_weigh [] = refl
instructions_weigh (Read at v ∷ t) = let h = instructions_weigh t in omega (arith, h)
instructions_weigh (Write at v ∷ t) = let h = instructions_weigh t in omega (arith, h)
instructions_weigh (Notify port ∷ t) = let h = instructions_weigh t in omega (arith, h)
instructions_weigh (Instr ∷ t) = let h = instructions_weigh t in omega (arith, h)
instructions_weigh (Load m k j v ∷ t) = let h = instructions_weigh t in omega (arith, h)
instructions_weigh (Add m k j delta old ∷ t) = let h = instructions_weigh t in omega (arith, h)

accesses_of_turns : (w : Wiring) → Weighs w access_weight 33030 2
accesses_of_turns w = record {
  same = λ old new event. by (is_due old new event);
  turn = λ s t after u h. let few = turn_accesses w 1 (one_more w.offers) s t after u h in let same = accesses_weigh t in omega (arith, few, same);
}
  where
    by : (b : Bool) → 1 + (1 + total access_weight (notices w.vif b)) ≡ 2
    by true = refl
    by false = refl

instructions_of_turns : (w : Wiring) → Weighs w instruction_weight (instructions w.program.now.code) 0
instructions_of_turns w = record {
  same = λ old new event. by (is_due old new event);
  turn = λ s t after u h. let few = (turn_most w s t after u h).steps in let same = instructions_weigh t in omega (arith, few, same);
}
  where
    by : (b : Bool) → 0 + (0 + total instruction_weight (notices w.vif b)) ≡ 0
    by true = refl
    by false = refl

pub several_accesses : (w : Wiring) (s : State) (packets : ℕ) (t : List Event) (after : State) (us : List Turned) → 0 < packets → IsSeveral w s packets t after us →
    length (accesses t) ≤ 33030 * packets
several_accesses w s packets t after us some h =
    let weigh = several_weigh w access_weight 33030 2 (accesses_of_turns w) s packets t after us some h in
    let same = accesses_weigh t in
    omega (arith, weigh.1, weigh.2, same)

pub several_instructions : (w : Wiring) (s : State) (packets : ℕ) (t : List Event) (after : State) (us : List Turned) → 0 < packets → IsSeveral w s packets t after us →
    program_events t ≤ instructions w.program.now.code * packets
several_instructions w s packets t after us some h =
    let weigh = several_weigh w instruction_weight (instructions w.program.now.code) 0 (instructions_of_turns w) s packets t after us some h in
    let same = instructions_weigh t in
    let wide = mul-le-mul_left (instructions w.program.now.code) weigh.1 in
    omega (arith, weigh.2, same, wide)
