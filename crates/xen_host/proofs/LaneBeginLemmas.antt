-- One of several turns begins, with slots that were read ahead.
use Rattle.std.proofs.Common.{◌≡◌, ℕ, zero, suc, ◌+◌, ◌-◌, ◌<◌, ◌≤◌, ◌^◌, ◌⊎◌, inl, inr, Bool, true, false, List, [], ◌∷◌, ◌++◌, length, map, refl, sym, ap, ◌∙◌, subst, length-append, nat_le, arith}
use Rattle.std.specs.Prelude.{◌≢◌, ◌==◌, Option, Some, None, Result, Ok, Err, if◌then◌else◌}
use Rattle.std.proofs.lemmas.Bool.Decides.{nat_tests}
use Rattle.bpf_note.specs.declared.op.Op.{Op as Operation}
use Rattle.xen_netif.specs.Chain.{Slot}
use Rattle.xen_netif.specs.Segments.{offered_fragments}
use Rattle.xen_netif.specs.Standing.{standing}
use Rattle.xen_netif.specs.declared.chain.ChainState.{ChainState}
use Rattle.xen_netif.specs.declared.chain.ChainState.TheVariants as wanted
use Rattle.xen_netif.specs.declared.fault.ChainFault.{ChainFault}
use Rattle.xen_netif.specs.declared.fault.SizeFault.{SizeFault}
use Rattle.xen_netif.specs.declared.fragment.Fragment.{Fragment}
use Rattle.xen_netif.specs.declared.offload.RxOffload.TheVariants.{Whole}
use Rattle.xen_netif.specs.declared.status.Status.{Status}
use Rattle.xen_netif.specs.declared.status.Status.TheVariants as status
use Rattle.xen_ring.specs.Index.{distance, is_due}
use Rattle.xen_steps.specs.Drive.{LedBy}
use Rattle.xen_steps.specs.Event.{Event, Read}
use Rattle.xen_steps.specs.Pages.{AreWords}
use Rattle.xen_steps.specs.Places.{add32, available}
use Rattle.xen_steps.specs.Steps.{Runs, Steps, bind}
use Rattle.xen_steps.proofs.DriveLemmas.{gone_append}
use Rattle.xen_steps.proofs.FinishLemmas.{finishes_gone, runs_gone}
use Rattle.xen_steps.proofs.StepsLemmas.{split}
use Rattle.xen_rx_fill.specs.Places.{tx_slot, tx_word}
use Rattle.xen_rx_fill.specs.Transmit.{transmit}
use Rattle.xen_rx_fill.specs.Wired.{IsWired}
use Rattle.xen_rx_fill.specs.declared.by_event.phase.TransmitOutcome.{TransmitOutcome}
use Rattle.xen_rx_fill.specs.declared.by_event.phase.TransmitOutcome.TheVariants as outcome
use Rattle.xen_turns.specs.Program.{event_of}
use Rattle.xen_turns.specs.Tree.{Left, after_chain, after_copy, after_look, after_run, after_scan, after_slots, after_transmit, answer, answered, copy, halted, judged, notice, program, read_slot, read_slots, respond, responses, run_of, seen, send, status_of, unless_halted, whole_turn}
use Rattle.xen_turns.specs.Turned.{Ending, Ran, Refused, Turned}
use Rattle.xen_turns.specs.Within.{Completes, TurnsComplete, may_want}
use Rattle.xen_turns.specs.declared.state.State.{State}
use Rattle.xen_turns.specs.declared.turn.Halt.{Halt}
use Rattle.xen_turns.specs.declared.turn.Halt.TheVariants as halt
use Rattle.xen_turns.specs.declared.turn.Kind.{Kind}
use Rattle.xen_turns.specs.declared.turn.PacketRefusal.TheVariants as refusal
use Rattle.xen_turns.specs.declared.wiring.Wiring.{Wiring}
use Rattle.xen_turns.proofs.RestLemmas.{after_look_some, seen_some}
use Rattle.xen_host.specs.Asks.{Ask, TurnOver, reads_at}
use Rattle.xen_host.specs.Early.{EarlyFrom, at_rx, engine_at_rx, is_early, is_late}
use Rattle.xen_host.specs.EngineAt.{EngineAt, engine_at}
use Rattle.xen_host.specs.HostLed.{TurnRanLeads}
use Rattle.xen_host.specs.Hosts.{asks_of, events_of}
use Rattle.xen_host.specs.LaneHosts.{IsLaneFull, IsLanePut}
use Rattle.xen_host.specs.LaneSteps.{AnswersSome, IsShown, LaneBegins, ScansTo, did_own, slot_at, slot_reads}
use Rattle.xen_host.specs.Lanes.{EndsAt, rest_of}
use Rattle.xen_host.specs.Led.{IsOn, IsTurnOver, TurnEnds}
use Rattle.xen_host.specs.LentWords.{lent_words}
use Rattle.xen_host.specs.Offload.{Offload}
use Rattle.xen_host.specs.Quiet.{Calm, Halts, Within}
use Rattle.xen_host.specs.Rest.{is_turning, reads_in, rest_in}
use Rattle.xen_host.specs.Stands.{Stands}
use Rattle.xen_host.specs.Told.{IsToldAt}
use Rattle.xen_host.specs.UnderWay.{TurnGoesAt}
use Rattle.xen_host.specs.declared.engine.Engine.{Engine}
use Rattle.xen_host.specs.declared.lane_host.LaneHost.{LaneHost}
use Rattle.xen_host.specs.declared.op.HostOp.{HostOp}
use Rattle.xen_host.specs.declared.stage.Stage.{Stage}
use Rattle.xen_host.proofs.AskLemmas.{asks_slot}
use Rattle.xen_host.proofs.EndLemmas.{turn_ended, turn_split}
use Rattle.xen_host.proofs.LanesQuietLemmas.{chain_calm}
use Rattle.xen_host.proofs.LaneHostLemmas.{LaneWithin, asks_within, lane_asks, lane_did}
use Rattle.xen_host.proofs.StepLemmas.{read_led}
use Rattle.xen_host.proofs.ToldLemmas.{turn_told}
use Rattle.xen_host.proofs.TurnLemmas.{turn_goes}

-- ---- the slots of a chain

-- What is left once a chain has one slot more.
abbrev pub after_one : State → List Slot → Wiring → ℕ → Steps Ending
after_one s chain w more = bind (judged chain (standing chain) (read_slots w s.tx_index more chain)) (after_scan w s)

abbrev pub wanting : State → List Slot → Wiring → ℕ → Steps Ending
wanting s chain w more = bind (read_slots w s.tx_index more chain) (after_scan w s)

pub scan_none : (s : State) (lent : List ℕ) (i : ℕ) → ScansTo s lent i 0 (wanting s [])
scan_none s lent i w more = let e : 0 + more ≡ more = omega arith in ap (λ (k : ℕ). bind (read_slots w s.tx_index k []) (after_scan w s)) e

-- None is taken yet.
pub scan_begins : (s : State) (lent : List ℕ) (i : ℕ) (chain : List Slot) → chain ≡ [] → (i + length chain ≡ i) × (standing chain ≢ Some (Ok wanted.Complete)) × ScansTo s lent i (length chain) (wanting s chain)
scan_begins s lent i chain e =
    let none : i + 0 ≡ i = omega arith in
    subst (λ (l : List Slot). (i + length l ≡ i) × (standing l ≢ Some (Ok wanted.Complete)) × ScansTo s lent i (length l) (wanting s l)) (sym e) (none, (λ h. cc h), scan_none s lent i)

-- One slot more is read.
pub scan_more : (s : State) (lent : List ℕ) (i n : ℕ) (chain : List Slot) (slot : Slot) → length slot ≡ 3 → length chain ≡ n → slot_at lent (i + n) ≡ slot → AreWords slot →
    ScansTo s lent i n (wanting s chain) → ScansTo s lent i (suc n) (after_one s (chain ++ slot ∷ []))
scan_more s lent i n chain (a ∷ b ∷ c ∷ []) three count is below h w more =
    let slot = a ∷ b ∷ c ∷ [] in
    let t = s.tx_index in
    let at = tx_slot w.vif (add32 t (length chain)) 0 in
    let f = λ (x : Slot). judged (chain ++ x ∷ []) (standing (chain ++ x ∷ [])) (read_slots w t more (chain ++ x ∷ [])) in
    let here = bind (bind (read_slot w (add32 t (length chain))) f) (after_scan w s) in
    let read : LedBy here (reads_at at slot) (after_one s (chain ++ slot ∷ []) w more) =
    read_led here at 3 slot below refl (asks_slot w (add32 t (length chain)) f (after_scan w s)) in
    let same : reads_at at slot ≡ reads_at (tx_slot w.vif (add32 t n) 0) (slot_at lent (i + n)) =
    ap (λ k. reads_at (tx_slot w.vif (add32 t k) 0) slot) count ∙ ap (λ l. reads_at (tx_slot w.vif (add32 t n) 0) l) (sym is) in
    let all : n + suc more ≡ suc n + more = omega arith in
    let whole = λ (k : ℕ). bind (read_slots w t k []) (after_scan w s) in
    subst (λ (k : ℕ). LedBy (whole k) (slot_reads w t lent i (suc n)) (after_one s (chain ++ slot ∷ []) w more)) all
    (gone_append (whole (n + suc more)) here (after_one s (chain ++ slot ∷ []) w more) (slot_reads w t lent i n) (reads_at (tx_slot w.vif (add32 t n) 0) (slot_at lent (i + n)))
    (h w (suc more)) (subst (λ (l : List Event). LedBy here l (after_one s (chain ++ slot ∷ []) w more)) same read))
scan_more s lent i n chain [] three count is below h w more = absurd (omega (arith, three))
scan_more s lent i n chain (a ∷ []) three count is below h w more = absurd (omega (arith, three))
scan_more s lent i n chain (a ∷ b ∷ []) three count is below h w more = absurd (omega (arith, three))
scan_more s lent i n chain (a ∷ b ∷ c ∷ d ∷ l) three count is below h w more = absurd (omega (arith, three))

-- By where the chain stands then.
one_after : (s : State) (lent : List ℕ) (i n : ℕ) (chain : List Slot) (o : Option (Result ChainState ChainFault)) (left : Wiring → ℕ → Steps Ending) → standing chain ≡ o →
    ((w : Wiring) (more : ℕ) → bind (judged chain o (read_slots w s.tx_index more chain)) (after_scan w s) ≡ left w more) → ScansTo s lent i n (after_one s chain) → ScansTo s lent i n left
one_after s lent i n chain o left is same h w more =
    subst (λ (x : Steps Ending). LedBy (bind (read_slots w s.tx_index (n + more) []) (after_scan w s)) (slot_reads w s.tx_index lent i n) x)
    (ap (λ (x : Option (Result ChainState ChainFault)). bind (judged chain x (read_slots w s.tx_index more chain)) (after_scan w s)) is ∙ same w more) (h w more)

pub scan_whole : (s : State) (lent : List ℕ) (i n : ℕ) (chain : List Slot) → standing chain ≡ Some (Ok wanted.Complete) → ScansTo s lent i n (after_one s chain) →
    ScansTo s lent i n (λ w more. after_chain w s chain (offered_fragments w.offers chain))
scan_whole s lent i n chain is h = one_after s lent i n chain _ (λ w more. after_chain w s chain (offered_fragments w.offers chain)) is (λ w more. refl) h

pub scan_broken : (s : State) (lent : List ℕ) (i n : ℕ) (chain : List Slot) (fault : ChainFault) → standing chain ≡ Some (Err fault) → ScansTo s lent i n (after_one s chain) →
    ScansTo s lent i n (λ w more. halted s (halt.Chain fault))
scan_broken s lent i n chain fault is h = one_after s lent i n chain _ (λ w more. halted s (halt.Chain fault)) is (λ w more. refl) h

-- It wants more.
pub scan_wants : (s : State) (lent : List ℕ) (i n : ℕ) (chain : List Slot) (c : ChainState) → (c ≡ wanted.Complete → ⊥) → standing chain ≡ Some (Ok c) → ScansTo s lent i n (after_one s chain) → ScansTo s lent i n (wanting s chain)
scan_wants s lent i n chain wanted.Complete not is h = absurd (not refl)
scan_wants s lent i n chain wanted.Data not is h = one_after s lent i n chain _ (wanting s chain) is (λ w more. refl) h
scan_wants s lent i n chain wanted.Extra not is h = one_after s lent i n chain _ (wanting s chain) is (λ w more. refl) h

-- ---- where a chain ends

notice_end : (w : Wiring) (b : Bool) (e : Ending) (p : List Event) (r : Ending) → Runs (notice w b e) p r → e ≡ r
notice_end w false e [] r h = h
notice_end w false e (x ∷ p) r h = absurd h
notice_end w true e [] r h = absurd h
notice_end w true e (x ∷ []) r h = h.2
notice_end w true e (x ∷ y ∷ p) r h = absurd h.2

answer_end : (w : Wiring) (t n i : ℕ) (rs : List ℕ) (e : Ending) (p : List Event) (r : Ending) → Runs (answer w t n i rs e) p r → e ≡ r
answer_end w t n i [] e [] r h = absurd h
answer_end w t n i [] e (x ∷ []) r h = absurd h.2
answer_end w t n i [] e (x ∷ y ∷ p) r h = notice_end w (is_due t (add32 t n) h.2.0) e p r h.2.2
answer_end w t n i (v ∷ rs) e [] r h = absurd h
answer_end w t n i (v ∷ rs) e (x ∷ p) r h = answer_end w t n (i + 1) rs e p r h.2

ends_bind : {A : Type 0} (t : ℕ) (m : Steps A) (f : A → Steps Ending) → ((x : A) → EndsAt t (f x)) → EndsAt t (bind m f)
ends_bind t m f g p r runs live = let i = split m f p r runs in g i.mid i.back r i.later live

respond_at : (w : Wiring) (s : State) (slots : List Slot) (st : Status) (u : Turned) → EndsAt (add32 s.tx_index (length slots)) (respond w s slots st u)
respond_at w s slots st u p r runs live =
    ap (λ (e : Ending). e.0.tx_index) (sym (answer_end w s.tx_index (length slots) 0 (responses st slots) (answered s (length slots), u) p r runs))

halted_never : (s : State) (cause : Halt) (p : List Event) (r : Ending) → Runs (halted s cause) p r → r.0.halt ≡ None → ⊥
halted_never s cause [] r runs live = let some : Some cause ≡ r.0.halt = ap (λ (e : Ending). e.0.halt) runs in cc (some, live)
halted_never s cause (x ∷ p) r runs live = runs

-- One that halts ends at no index.
pub halted_at : (t : ℕ) (s : State) (cause : Halt) → EndsAt t (halted s cause)
halted_at t s cause p r runs live = absurd (halted_never s cause p r runs live)

after_transmit_at : (w : Wiring) (s : State) (slots : List Slot) (packet : List ℕ) (ops : ℕ) (o : TransmitOutcome) → EndsAt (add32 s.tx_index (length slots)) (after_transmit w s slots packet ops o)
after_transmit_at w s slots packet ops outcome.Overflow = halted_at (add32 s.tx_index (length slots)) s halt.RxProducer
after_transmit_at w s slots packet ops outcome.TooFew = respond_at w s slots status.Error (Refused refusal.FewSlots ops (length slots))
after_transmit_at w s slots packet ops (outcome.Refused used) = respond_at w (after_slots s used) slots status.Error (Refused refusal.RxGrant ops (length slots))
after_transmit_at w s slots packet ops (outcome.Sent used) = respond_at w (after_slots s used) slots status.Okay (Ran 3 packet ops (length slots))

after_run_at : (w : Wiring) (s : State) (slots : List Slot) (r : Left) → EndsAt (add32 s.tx_index (length slots)) (after_run w s slots r)
after_run_at w s slots r = by (r.number == 3)
  where
    by : (b : Bool) → EndsAt (add32 s.tx_index (length slots)) (if b then send w s slots r.packet r.ops else respond w s slots (status_of r.number) (Ran r.number r.packet r.ops (length slots)))
    by true = ends_bind (add32 s.tx_index (length slots)) (transmit w.vif s.rx_index Whole r.packet) (after_transmit w s slots r.packet r.ops) (after_transmit_at w s slots r.packet r.ops)
    by false = respond_at w s slots (status_of r.number) (Ran r.number r.packet r.ops (length slots))

after_copy_at : (w : Wiring) (s : State) (slots : List Slot) (o : Option (List ℕ)) → EndsAt (add32 s.tx_index (length slots)) (after_copy w s slots o)
after_copy_at w s slots None = respond_at w s slots status.Error (Refused refusal.Grant 0 (length slots))
after_copy_at w s slots (Some packet) = ends_bind (add32 s.tx_index (length slots)) (program (run_of w packet) 0) (after_run w s slots) (after_run_at w s slots)

pub after_chain_at : (w : Wiring) (s : State) (slots : List Slot) (o : Result (List Fragment) SizeFault) → EndsAt (add32 s.tx_index (length slots)) (after_chain w s slots o)
after_chain_at w s slots (Err fault) = respond_at w s slots status.Error (Refused (refusal.Size fault) 0 (length slots))
after_chain_at w s slots (Ok fragments) = ends_bind (add32 s.tx_index (length slots)) (copy w fragments []) (after_copy w s slots) (after_copy_at w s slots)

-- ---- how many slots are answered

some_end : (t n : ℕ) (s : Steps Ending) → n ≤ 256 → EndsAt (add32 t n) s → AnswersSome t n s
some_end t n s few h p r runs live = (n, omega arith, few, h p r runs live)

fewer : (t n k : ℕ) (s : Steps Ending) → n ≤ k → AnswersSome t k s → AnswersSome t n s
fewer t n k s le h p r runs live = let x = h p r runs live in (x.0, omega (arith, le, x.1), x.2, x.3)

-- What is read of a chain behind its first slots.
pub scan_past : (w : Wiring) (s : State) (more : ℕ) (chain : List Slot) → length chain + more ≤ 256 → AnswersSome s.tx_index (length chain) (bind (read_slots w s.tx_index more chain) (after_scan w s))
scan_past w s zero chain few p r runs live = absurd (halted_never s halt.ShortChain p r runs live)
scan_past w s (suc more) chain few [] r runs live = absurd runs
scan_past w s (suc more) chain few (x ∷ []) r runs live = absurd runs.2
scan_past w s (suc more) chain few (x ∷ y ∷ []) r runs live = absurd runs.2.2
scan_past w s (suc more) chain few (x ∷ y ∷ z ∷ p) r runs live =
    let slot = runs.0 ∷ runs.2.0 ∷ runs.2.2.0 ∷ [] in
    let next = chain ++ slot ∷ [] in
    let long : length next ≡ length chain + 1 = length-append chain (slot ∷ []) in
    by slot next long (standing next) (scan_past w s more next (omega (arith, few, long))) runs.2.2.2
  where
    by : (slot : Slot) (next : List Slot) → length next ≡ length chain + 1 → (o : Option (Result ChainState ChainFault)) → AnswersSome s.tx_index (length next) (bind (read_slots w s.tx_index more next) (after_scan w s)) →
        Runs (bind (judged next o (read_slots w s.tx_index more next)) (after_scan w s)) p r → (m : ℕ) × (length chain ≤ m) × (m ≤ 256) × (r.0.tx_index ≡ add32 s.tx_index m)
    by slot next long (Some (Ok wanted.Complete)) further h =
        (length next, omega (arith, long), omega (arith, long, few), after_chain_at w s next (offered_fragments w.offers next) p r h live)
    by slot next long (Some (Ok wanted.Data)) further h = let k = further p r h live in (k.0, omega (arith, long, k.1), k.2, k.3)
    by slot next long (Some (Ok wanted.Extra)) further h = let k = further p r h live in (k.0, omega (arith, long, k.1), k.2, k.3)
    by slot next long (Some (Err fault)) further h = absurd (halted_never s (halt.Chain fault) p r h live)
    by slot next long None further h = absurd h

pub halted_past : (t n : ℕ) (s : State) (cause : Halt) → AnswersSome t n (halted s cause)
halted_past t n s cause p r runs live = absurd (halted_never s cause p r runs live)

pub chain_past : (w : Wiring) (s : State) (slots : List Slot) (n : ℕ) (o : Result (List Fragment) SizeFault) → length slots ≡ n → n ≤ 256 → AnswersSome s.tx_index n (after_chain w s slots o)
chain_past w s slots n o is few = some_end s.tx_index n (after_chain w s slots o) few (subst (λ (k : ℕ). EndsAt (add32 s.tx_index k) (after_chain w s slots o)) is (after_chain_at w s slots o))

-- What is left of it ends so too.
rest_runs : (Q : Ending → Type 0) (from left : Steps Ending) (u : List Event) (new : EngineAt) (last : Ask) → ((p : List Event) (r : Ending) → Runs from p r → Q r) → LedBy from u left → TurnEnds new last left →
    (p : List Event) (r : Ending) → Runs (rest_of new) p r → Q r
rest_runs Q from left u new last h led end p r runs = by (turn_split new last left end)
  where
    by : ((k : Kind) × (last ≡ TurnOver k) × IsTurnOver new k left) ⊎ IsOn (rest_in new.wires new.state new.stage new.work) (reads_in new.stage) (is_turning new.stage) (IsToldAt new.wires.vif.table.now new.stage) last left → Q r
    by (inl x) = absurd (subst (λ (g : Stage). Runs (rest_in new.wires new.state g new.work) p r) x.2.ready runs)
    by (inr on) = h (u ++ p) r (runs_gone from left u p r led (subst (λ (x : Steps Ending). Runs x p r) (sym on.is_rest) runs))

-- ---- the beginning

-- A look that shows slots.
pub shown_led : (w : Wiring) (s : State) (p n : ℕ) → s.halt ≡ None → p < 2 ^ 32 → available s.tx_index p ≡ Some n → 0 < n → LedBy (whole_turn w s) (Read (tx_word w.vif 0) p ∷ []) (after_look w s (Some n))
shown_led w s p n live small shown some =
    subst (λ (o : Option Halt). LedBy (unless_halted w s o) (Read (tx_word w.vif 0) p ∷ []) (after_look w s (Some n))) (sym live) (
      bind (seen w s.tx_index (available s.tx_index p)) (after_look w s),
      (p, (small, refl), refl),
      ap (λ (o : Option ℕ). bind (seen w s.tx_index o) (after_look w s)) shown ∙ ap (λ (x : Steps (Option ℕ)). bind x (after_look w s)) (seen_some w s.tx_index n some),
    )

pub slots_of : (w : Wiring) (s : State) (n : ℕ) → 0 < n → after_look w s (Some n) ≡ bind (read_slots w s.tx_index n []) (after_scan w s)
slots_of w s n some = let e : suc (n - 1) ≡ n = omega (arith, some) in after_look_some w s n some ∙ ap (λ k. bind (read_slots w s.tx_index k []) (after_scan w s)) e

-- No more than a ring has are shown.
pub shown_few : (t n : ℕ) → IsShown t n → n ≤ 256
shown_few t n h = by (nat_le (distance t h.0) 256) refl h.2
  where
    by : (b : Bool) → nat_le (distance t h.0) 256 ≡ b → (if b then Some (distance t h.0) else None) ≡ Some n → n ≤ 256
    by true le e = let is : distance t h.0 ≡ n = cc e in let k : distance t h.0 ≤ 256 = grind (arith, nat_tests) in omega (arith, is, k)
    by false le e = absurd (cc e)

-- A whole chain makes nothing but responses before it reads.
pub whole_calm : (w : Wiring) (s : State) (chain : List Slot) → 0 < length chain → Calm w 0 (after_chain w s chain (offered_fragments w.offers chain))
whole_calm w s [] some = absurd (omega (arith, some))
whole_calm w s (first ∷ later) some = chain_calm w s first later

pub record LaneBegun (w : Wiring) (packet : List ℕ) (e : Engine) (went : List (Option Operation) → Type 0) (s : State) (shown i ahead taken : ℕ) (host host_after : LaneHost) : Type 0 where
  pub stands : Stands (engine_at w packet e)
  pub within : LaneWithin host host_after
  pub labels : List (Option Operation)
  pub history : went labels
  pub begins : LaneBegins went s shown i ahead taken host.own host.limit (engine_at w packet e) host.ops.now host_after.ops.now host.count host_after.count (lent_words host.words.now) (lent_words host_after.words.now)

module _ (w : Wiring) (packet : List ℕ) (e : Engine) (went : List (Option Operation) → Type 0) (s : State) (i n more ahead : ℕ) (host host_after : LaneHost) (offload : Offload) (from : State → Steps Ending)
    (wired : IsWired w.vif) (turns : TurnsComplete w) (live : s.halt ≡ None) (shown : IsShown s.tx_index (n + more)) (some : 0 < n) (few : i + n ≤ ahead)
    (tx : host.tx ≡ w.vif.tx) (fresh : host.count ≡ host.base) (le : host.count ≤ host.limit) (room : host.limit ≤ length host.ops.now) (ends : (x : ℕ) → (i + n ≡ ahead) ⊎ EndsAt (add32 s.tx_index n) (from (at_rx x s))) (past : (x : ℕ) → AnswersSome s.tx_index n (from (at_rx x s)))
    (scanned : (x : ℕ) → LedBy (bind (read_slots w s.tx_index (n + more) []) (after_scan w (at_rx x s))) (slot_reads w s.tx_index (lent_words host.words.now) i n) (from (at_rx x s)))
    (h : TurnRanLeads IsLanePut IsLaneFull offload (from s) (engine_at w packet e) went host host_after)
    (early : EarlyFrom from s (engine_at w packet e)) (on : is_early e.stage ≡ false → is_late e.stage ≡ true) (rx : e.state.rx_index ≡ s.rx_index)
    (quiet : Calm w 0 (from s)) (halting : Within Halts 0 (from s)) where
  -- What is left behind the slots.
  abbrev start : Steps Ending
  start = from s

  abbrev new : EngineAt
  new = engine_at w packet e

  abbrev lent : List ℕ
  lent = lent_words host.words.now

  abbrev slots : List Event
  slots = slot_reads w s.tx_index lent i n

  any : 0 < n + more
  any = omega (arith, some)

  -- From what a look shows to what is left behind the slots.
  read : LedBy (after_look w s (Some (n + more))) slots start
  read = subst (λ (x : Steps Ending). LedBy x slots start) (sym (slots_of w s (n + more) any)) (scanned s.rx_index)

  completes : Completes w h.between
  completes =
      let look = Read (tx_word w.vif 0) shown.0 ∷ [] in
      let whole = whole_turn w s in
      let led = gone_append whole (after_look w s (Some (n + more))) start look slots (shown_led w s shown.0 (n + more) live shown.1 shown.2 any) read in
      finishes_gone (may_want w) start h.between (map event_of h.ran.labels) (finishes_gone (may_want w) whole start (look ++ slots) (turns s) led) h.ran.gone

  abbrev all_events : List Event
  all_events = map event_of h.ran.labels ++ events_of (h.led.first ++ h.led.last ∷ [])

  all_led : LedBy start all_events h.led.left
  all_led = gone_append start h.between h.led.left (map event_of h.ran.labels) (events_of (h.led.first ++ h.led.last ∷ [])) h.ran.gone h.led.gone

  pub lane_begun : LaneBegun w packet e went s (n + more) i ahead (i + n) host host_after
  lane_begun =
      let l = h.led in
      let ended = turn_ended w offload h.between new refl l completes in
      let did = lane_did w e.stage l.first l.last host host_after tx fresh le room l.asked l.take_none l.sized in
      let ran = map event_of h.ran.labels in
      let events = events_of (l.first ++ l.last ∷ []) in
      let done = did_own host.own (asks_of l.first) l.last.ask (lent_words host_after.words.now) in
      record {
        stands = record { fits = l.fits; wired = wired; turns = turns; left = ended.task };
        within = asks_within w e.stage l.first l.last host host_after tx fresh le room l.asked l.take_none l.sized;
        labels = h.ran.labels;
        history = h.ran.history;
        begins = record {
          first = asks_of l.first;
          last = l.last.ask;
          asks = lane_asks w e.stage l.first l.last host host_after tx fresh le room l.asked l.take_none l.sized l.stops (turn_told w new l.last.ask l.left refl l.is_end) ended.inside;
          slots = n;
          some = some;
          taken_is = refl;
          few = few;
          ends = by (ends s.rx_index);
          past = rest_runs (λ r. r.0.halt ≡ None → (m : ℕ) × (n ≤ m) × (m ≤ 256) × (r.0.tx_index ≡ add32 s.tx_index m)) start h.led.left all_events new h.led.last.ask (past s.rx_index) all_led h.led.is_end;
          each = λ k x.
              let same : from (at_rx x s) ≡ rest_of (engine_at_rx x new) = sym ((early k).left x) ∙ ap (λ (t : State). rest_in w (at_rx x t) e.stage new.work) (sym (early k).state) in
              (subst (λ (z : Steps Ending). (i + n ≡ ahead) ⊎ EndsAt (add32 s.tx_index n) z) same (ends x), subst (λ (z : Steps Ending). AnswersSome s.tx_index n z) same (past x));
          left = start;
          gathered = scanned s.rx_index;
          quiet = quiet;
          halting = halting;
          labels = h.ran.labels;
          history = h.ran.history;
          turn = λ look g.
              let u = slots ++ (ran ++ events) in
              let led = gone_append (whole_turn w s) (after_look w s (Some (n + more))) l.left look u g
              (gone_append (after_look w s (Some (n + more))) start l.left slots (ran ++ events) read (gone_append start h.between l.left ran events h.ran.gone l.gone)) in
              subst (λ (x : List Event). TurnGoesAt new l.last.ask s (look ++ (slots ++ (ran ++ x)))) did (turn_goes new s (look ++ u) l.last.ask l.left led l.is_end);
          state = λ k. (early k).state;
          early = λ k x. subst (λ (z : Steps Ending). LedBy (bind (read_slots w s.tx_index (n + more) []) (after_scan w (at_rx x s))) slots z) (sym ((early k).left x)) (scanned x);
          on = on;
          rx = rx;
        };
      }
    where
      by : (i + n ≡ ahead) ⊎ EndsAt (add32 s.tx_index n) start → (i + n ≡ ahead) ⊎ EndsAt (add32 s.tx_index n) (rest_of new)
      by (inl e) = inl e
      by (inr k) = inr (rest_runs (λ r. r.0.halt ≡ None → r.0.tx_index ≡ add32 s.tx_index n) start h.led.left all_events new h.led.last.ask k all_led h.led.is_end)

-- What is known of its operations in other words.
pub begins_also : (went also : List (Option Operation) → Type 0) → ((labels : List (Option Operation)) → went labels → also labels) → (s : State) (shown i ahead taken own limit : ℕ) (e : EngineAt) (ops ops_after : List HostOp) (count count_after : ℕ) (words words_after : List ℕ) →
    LaneBegins went s shown i ahead taken own limit e ops ops_after count count_after words words_after → LaneBegins also s shown i ahead taken own limit e ops ops_after count count_after words words_after
begins_also went also f s shown i ahead taken own limit e ops ops_after count count_after words words_after d = record {
  first = d.first;
  last = d.last;
  asks = d.asks;
  slots = d.slots;
  some = d.some;
  taken_is = d.taken_is;
  few = d.few;
  ends = d.ends;
  past = d.past;
  each = d.each;
  left = d.left;
  gathered = d.gathered;
  quiet = d.quiet;
  halting = d.halting;
  labels = d.labels;
  history = f d.labels d.history;
  turn = d.turn;
  state = d.state;
  early = d.early;
  on = d.on;
  rx = d.rx;
}
