-- Turns that were under way side by side are over: they are turns of the table, one after another.
use Rattle.std.proofs.Common.{◌≡◌, ℕ, ◌+◌, ◌⊎◌, Bool, true, false, List, [], ◌∷◌, ◌++◌, length, refl, sym, ap, ◌∙◌, subst, arith, append_assoc}
use Rattle.std.specs.Prelude.{None, if◌then◌else◌}
use Rattle.std.proofs.lemmas.Bool.{and_parts}
use mathlib.Core.Logic.{inl, inr, ⊎_elim}
use Rattle.xen_page.specs.declared.place.Place.{Place}
use Rattle.xen_ring.specs.Index.{is_due}
use Rattle.xen_steps.specs.Event.{Event, Read, Write}
use Rattle.xen_steps.specs.Places.{add32}
use Rattle.xen_steps.specs.Steps.{Steps, Runs}
use Rattle.xen_steps.proofs.FinishLemmas.{runs_gone}
use Rattle.xen_rx_fill.specs.Places.{tx_word}
use Rattle.xen_rx_fill.specs.Shared.{notices}
use Rattle.xen_turns.proofs.TurnParts.{turn_parts}
use Rattle.xen_turns.specs.Several.{AreAnswered, IsAnswered, Part, pushed}
use Rattle.xen_turns.specs.Tree.{notice, read_event, whole_turn}
use Rattle.xen_turns.specs.Turned.{Ending, Turned, turned}
use Rattle.xen_turns.specs.Turns.{IsTurn}
use Rattle.xen_turns.specs.Woven.{Made, of_turn}
use Rattle.xen_turns.specs.declared.state.State.{State}
use Rattle.xen_turns.specs.declared.wiring.Wiring.{Wiring}
use Rattle.xen_host.specs.Asks.{Ask}
use Rattle.xen_host.specs.Asks as ask
use Rattle.xen_host.specs.Early.{at_rx}
use Rattle.xen_host.specs.Lanes.{AreFrom, FirstBegins, IsLane, IsPlaced, LaneAt, all_held, held_at as stage_held, is_calm, is_held, is_withheld, rest_of, rx_behind, withheld}
use Rattle.xen_host.specs.Rest.{ended_at, is_turning, rest_in}
use Rattle.xen_host.specs.declared.stage.Stage.{Stage}
use Rattle.xen_host.specs.declared.stage.Stage.TheVariants as stage
use Rattle.xen_host.proofs.LanesCalmLemmas.{tell}
use Rattle.xen_host.proofs.LanesFromLemmas.{rx_of_calm, rx_of_ran}
use Rattle.xen_host.proofs.LanesRowLemmas.{Answers, IsOtherRead, LastIs, calm_program, has_program, last_of, program_none, push_same, row_answers, row_forgets_rx, snoc_same}
use Rattle.xen_host.proofs.LanesStepLemmas.{turning_of}

-- ---- a lane that is held

push_stage : (g : Stage) → stage_held g ≡ true → g ≡ stage.Push
push_stage stage.Ready h = cc h
push_stage stage.Announce h = cc h
push_stage (stage.Slot left) h = cc h
push_stage (stage.Entry i at) h = cc h
push_stage (stage.Page i f frame) h = cc h
push_stage (stage.Fill f purpose) h = cc h
push_stage (stage.Respond i) h = cc h
push_stage stage.Push h = refl
push_stage stage.Notice h = cc h
push_stage (stage.Deliver producer) h = cc h
push_stage (stage.Wait pages) h = cc h
push_stage (stage.WaitLook pages) h = cc h
push_stage stage.Several h = cc h

-- what its push would have done
pub did_push : (w : Wiring) (a : Ask) → is_withheld w a ≡ true → (at : Place) × (v : ℕ) × (withheld w a ≡ Write at v ∷ [])
did_push w (ask.Push at word read) h = (at, word, ap (λ b. if b then Write at word ∷ [] else []) h)
did_push w (ask.Read at count) h = cc h
did_push w (ask.Entry at reference rights) h = cc h
did_push w (ask.Write at count) h = cc h
did_push w (ask.Store at word) h = cc h
did_push w (ask.StoreTwo at x y) h = cc h
did_push w (ask.Notify port) h = cc h
did_push w (ask.TurnOver k) h = cc h
did_push w (ask.DeliveryOver what) h = cc h
did_push w (ask.WaitOver what) h = cc h

-- the notice that may be due, and the end
noticed : (w : Wiring) (b : Bool) (e : Ending) → Runs (notice w b e) (notices w.vif b) e
noticed w false e = refl
noticed w true e = (0, (refl, refl), refl)

pub event_runs : (w : Wiring) (t n : ℕ) (e : Ending) → Runs (read_event w t n e) (Read (tx_word w.vif 3) 0 ∷ notices w.vif (is_due t n 0)) e
event_runs w t n e = (0, (omega arith, refl), noticed w (is_due t n 0) e)

-- how it ends
abbrev pub end_of : LaneAt → Ending
end_of l = ended_at l.engine.state l.engine.work

abbrev pub due_of : LaneAt → Bool
due_of l = is_due l.engine.state.tx_index (add32 l.engine.state.tx_index (length l.engine.work.chain)) 0

held_rest : (l : LaneAt) → is_held l.engine ≡ true →
    rest_of l.engine ≡ read_event l.engine.wires l.engine.state.tx_index (add32 l.engine.state.tx_index (length l.engine.work.chain)) (end_of l)
held_rest l h = ap (λ g. rest_in l.engine.wires l.engine.state g l.engine.work) (push_stage l.engine.stage h)

pub held_runs : (w : Wiring) (l : LaneAt) → l.engine.wires ≡ w → is_held l.engine ≡ true → Runs (rest_of l.engine) (Read (tx_word w.vif 3) 0 ∷ notices w.vif (due_of l)) (end_of l)
held_runs w l e h =
    subst (λ q. Runs q (Read (tx_word w.vif 3) 0 ∷ notices w.vif (due_of l)) (end_of l)) (sym (held_rest l h))
    (subst (λ q. Runs (read_event q l.engine.state.tx_index (add32 l.engine.state.tx_index (length l.engine.work.chain)) (end_of l)) (Read (tx_word w.vif 3) 0 ∷ notices w.vif (due_of l)) (end_of l)) (sym e)
    (event_runs w l.engine.state.tx_index (add32 l.engine.state.tx_index (length l.engine.work.chain)) (end_of l)))

held_turns : (l : LaneAt) → is_held l.engine ≡ true → is_turning l.engine.stage ≡ true
held_turns l h = ap is_turning (push_stage l.engine.stage h)

-- its row, with the event index 0
held_row : (w : Wiring) (look events : List Event) (l : LaneAt) → IsLane w look events l → is_held l.engine ≡ true →
    IsTurn w l.began ((look ++ (events ++ withheld w l.asked)) ++ Read (tx_word w.vif 3) 0 ∷ notices w.vif (due_of l)) (end_of l).0 (end_of l).1
held_row w look events l lane h =
    let t = look ++ (events ++ withheld w l.asked) in
    let u = Read (tx_word w.vif 3) 0 ∷ notices w.vif (due_of l) in
    let token = turning_of l.engine l.asked l.began t lane.going (held_turns l h) in
    let run : Runs (whole_turn w l.began) (t ++ u) (end_of l) =
    subst (λ q. Runs (whole_turn q l.began) (t ++ u) (end_of l)) lane.wires
    (runs_gone (whole_turn l.engine.wires l.began) (rest_of l.engine) t u (end_of l) token.gone (held_runs w l lane.wires h)) in
    turn_parts w l.began (t ++ u) (end_of l).0 (end_of l).1 run

ends_with_event : (w : Wiring) (b : Bool) → LastIs IsOtherRead (Read (tx_word w.vif 3) 0 ∷ notices w.vif b) → ⊥
ends_with_event w false h = h refl
ends_with_event w true h = h

-- the part that it is
abbrev pub part_of : List Event → LaneAt → Part
part_of events l = record { events = events; after = (end_of l).0; turned = (end_of l).1 }

pub held_answers : (w : Wiring) (look events : List Event) (l : LaneAt) → IsLane w look events l → is_held l.engine ≡ true →
    IsAnswered w l.began look (part_of events l) × ((end_of l).0.halt ≡ None)
held_answers w look events l lane h =
    ⊎_elim (λ a. by a) (λ last. absurd (ends_with_event w (due_of l) (last_of IsOtherRead (look ++ (events ++ withheld w l.asked)) (Read (tx_word w.vif 3) 0) (notices w.vif (due_of l)) last)))
    (row_answers w l.began ((look ++ (events ++ withheld w l.asked)) ++ Read (tx_word w.vif 3) 0 ∷ notices w.vif (due_of l)) (end_of l).0 (end_of l).1 lane.running (held_row w look events l lane h))
  where
    by : Answers w l.began ((look ++ (events ++ withheld w l.asked)) ++ Read (tx_word w.vif 3) 0 ∷ notices w.vif (due_of l)) (end_of l).0 (end_of l).1 →
        IsAnswered w l.began look (part_of events l) × ((end_of l).0.halt ≡ None)
    by a =
        let after = (end_of l).0 in
        let x = Write (tx_word w.vif 2) after.tx_index in
        let push = did_push w l.asked (lane.held ∙ h) in
        let cut = push_same w (look ++ (events ++ withheld w l.asked)) a.events (tx_word w.vif 3) 0 a.event x (due_of l) (is_due l.began.tx_index after.tx_index a.event) a.trace in
        let joined : (look ++ events) ++ Write push.0 push.1 ∷ [] ≡ a.events ++ x ∷ [] =
        append_assoc look events (Write push.0 push.1 ∷ []) ∙ ap (λ q. look ++ (events ++ q)) (sym push.2) ∙ cut in
        let same = (snoc_same (look ++ events) a.events (Write push.0 push.1) x joined).0 in (
          λ e lt. subst (λ q. IsTurn w l.began q after (end_of l).1) (append_assoc look events (pushed w l.began.tx_index after.tx_index e))
              (subst (λ q. IsTurn w l.began (q ++ pushed w l.began.tx_index after.tx_index e) after (end_of l).1) (sym same) (a.each e lt)),
          a.halt ∙ lane.running,
        )

pushed_program : (w : Wiring) (old new e : ℕ) → has_program (pushed w old new e) ≡ false
pushed_program w old new e = by (is_due old new e)
  where
    by : (b : Bool) → has_program (notices w.vif b) ≡ false
    by true = refl
    by false = refl

-- A lane that made nothing in order answers from each rx index.
pub calm_answers : (w : Wiring) (look events : List Event) (l : LaneAt) (x : ℕ) → has_program look ≡ false → is_calm w events ≡ true → IsAnswered w l.began look (part_of events l) →
    IsAnswered w (at_rx x l.began) look (record { events = events; after = at_rx x (end_of l).0; turned = (end_of l).1 })
calm_answers w look events l x none calm a = λ e lt.
    let t = pushed w l.began.tx_index (end_of l).0.tx_index e in
    row_forgets_rx w l.began (look ++ (events ++ t)) (end_of l).0 (end_of l).1 x
    (program_none look (events ++ t) none (program_none events t (calm_program w events calm) (pushed_program w l.began.tx_index (end_of l).0.tx_index e))) (a e lt)

-- ---- all of them

-- what becomes of its packet
abbrev pub result_of : LaneAt → Turned
result_of l = turned l.engine.work.answer.kind l.engine.work.packet

-- the state behind a lane, from the one in which it begins in the turns' order
abbrev pub state_behind : Wiring → ℕ → List Event → LaneAt → State
state_behind w x events l = at_rx (rx_behind w x events l) (end_of l).0

abbrev pub part_from : Wiring → ℕ → List Event → LaneAt → Part
part_from w x events l = record { events = events; after = state_behind w x events l; turned = (end_of l).1 }

abbrev pub parts_from : Wiring → (k x : ℕ) → List LaneAt → List Made → List Part
parts_from w k x [] made = []
parts_from w k x (l ∷ more) made = part_from w x (of_turn k made) l ∷ parts_from w (k + 1) (rx_behind w x (of_turn k made) l) more made

abbrev pub state_from : Wiring → (k x : ℕ) → State → List LaneAt → List Made → State
state_from w k x s [] made = s
state_from w k x s (l ∷ more) made = state_from w (k + 1) (rx_behind w x (of_turn k made) l) (state_behind w x (of_turn k made) l) more made

pub state_same : (s b : State) → b.tx_index ≡ s.tx_index → b.rx_index ≡ s.rx_index → b.halt ≡ s.halt → b ≡ s
state_same s b t x h =
    ap (λ i. record b { tx_index = i }) t ∙ ap (λ i. record { tx_index = s.tx_index; rx_index = i; halt = b.halt }) x ∙ ap (λ i. record { tx_index = s.tx_index; rx_index = s.rx_index; halt = i }) h

-- one lane, from the state in which it begins in the turns' order
placed_answers : (w : Wiring) (ends : Steps Ending → Type 0) (look events : List Event) (s : State) (l : LaneAt) (more : List LaneAt) → s.halt ≡ None → l.began.tx_index ≡ s.tx_index → has_program look ≡ false →
    IsPlaced w ends look events s.rx_index true l more → is_held l.engine ≡ true → IsAnswered w s look (part_from w s.rx_index events l)
placed_answers w ends look events s l more run t none placed h =
    let a = held_answers w look events l placed.lane h in
    ⊎_elim
    (λ calm.
    subst (λ b. IsAnswered w b look (part_from w s.rx_index events l)) (state_same s (at_rx s.rx_index l.began) t refl (placed.lane.running ∙ sym run))
    (subst (λ x. IsAnswered w (at_rx s.rx_index l.began) look (record { events = events; after = at_rx x (end_of l).0; turned = (end_of l).1 })) (sym (rx_of_calm w s.rx_index events l calm))
    (calm_answers w look events l s.rx_index none calm a.0)))
    (λ ran.
    subst (λ b. IsAnswered w b look (part_from w s.rx_index events l)) (state_same s l.began t (placed.rx ran) (placed.lane.running ∙ sym run))
    (subst (λ x. IsAnswered w l.began look (record { events = events; after = at_rx x (end_of l).0; turned = (end_of l).1 })) (sym (rx_of_ran w s.rx_index events l ran)) a.0))
    (tell (is_calm w events))

first_of_all : (s : State) (lanes : List LaneAt) → FirstBegins s lanes → (l : LaneAt) (more : List LaneAt) → lanes ≡ l ∷ more → l.began.tx_index ≡ s.tx_index
first_of_all s lanes f l more e = subst (λ q. FirstBegins s q) e f

-- the next begins where this one ends
next_begins : (w : Wiring) (ends : Steps Ending → Type 0) (look events : List Event) (x : ℕ) (l : LaneAt) (more : List LaneAt) → IsPlaced w ends look events x true l more → is_held l.engine ≡ true →
    FirstBegins (state_behind w x events l) more
next_begins w ends look events x l [] placed h = tt
next_begins w ends look events x l (next ∷ more) placed h =
    sym (placed.chained.0 (Read (tx_word w.vif 3) 0 ∷ notices w.vif (due_of l)) (end_of l) (held_runs w l placed.lane.wires h) (held_answers w look events l placed.lane h).1)

pub all_answer : (w : Wiring) (p : ℕ) (ends : Steps Ending → Type 0) (k : ℕ) (s : State) (look : List Event) (lanes : List LaneAt) (made : List Made) → s.halt ≡ None → FirstBegins s lanes → has_program look ≡ false →
    AreFrom w p ends k s.rx_index true look lanes made → all_held lanes ≡ true →
    AreAnswered w p s look (parts_from w k s.rx_index lanes made) (state_from w k s.rx_index s lanes made) × ((state_from w k s.rx_index s lanes made).halt ≡ None)
all_answer w p ends k s look [] made run first none a h = (refl, run)
all_answer w p ends k s look (l ∷ more) made run first none a h =
    let held = and_parts (is_held l.engine) (all_held more) h in
    let events = of_turn k made in
    let b = state_behind w s.rx_index events l in
    let here = placed_answers w ends look events s l more run first none a.0 held.0 in
    let tail = all_answer w p ends (k + 1) b (Read (tx_word w.vif 0) p ∷ []) more made (held_answers w look events l a.0.lane held.0).1 (next_begins w ends look events s.rx_index l more a.0 held.0) refl
    (subst (λ q. AreFrom w p ends (k + 1) (rx_behind w s.rx_index events l) q (Read (tx_word w.vif 0) p ∷ []) more made) held.0 a.1) held.1 in
    ((here, tail.0), tail.1)
