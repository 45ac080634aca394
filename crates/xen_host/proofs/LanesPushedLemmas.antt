-- A turn that has pushed its responses is at the stage that says so, and what it made before is calm.
use Rattle.std.proofs.Common.{◌≡◌, ◌≢◌, ℕ, zero, suc, ◌+◌, ◌-◌, ◌*◌, ◌≤◌, ◌⊎◌, Bool, true, false, List, [], ◌∷◌, ◌++◌, length, drop, refl, sym, ap, ◌∙◌, subst, arith}
use Rattle.std.specs.Prelude.{◌||◌, Option, None, Some}
use mathlib.Core.Logic.{inl, inr, ⊎_elim}
use Rattle.bpf_vm.specs.Course.{Course, Exiting, Stepping, Loading, Adding, Broken}
use Rattle.xen_netif.specs.Chain.{Slot}
use Rattle.xen_netif.specs.declared.offload.RxOffload.{RxOffload}
use Rattle.xen_netif.specs.declared.offload.RxOffload.TheVariants.{Whole}
use Rattle.xen_page.specs.declared.entry.Rights.TheVariants.{ReadOnly}
use Rattle.xen_ring.specs.Index.{is_due}
use Rattle.xen_steps.specs.Drive.{LedBy}
use Rattle.xen_steps.specs.Event.{Event, Read, Write, Instr, Load, Add, Notify}
use Rattle.xen_steps.specs.Pages.{copy_words, covered}
use Rattle.xen_steps.specs.Steps.{Runs, Steps, ask, bind, done, never, next, want_of}
use Rattle.xen_steps.specs.declared.want.Want.{Want}
use Rattle.xen_steps.specs.declared.want.Want.TheVariants as want
use Rattle.xen_rx_fill.specs.Entries.{entry_at}
use Rattle.xen_rx_fill.specs.Packets.{words}
use Rattle.xen_rx_fill.specs.Places.{tx_word}
use Rattle.xen_rx_fill.specs.Shared.{notices}
use Rattle.xen_rx_fill.specs.Transmit.{fill as fill_words, outcome_of, rx_answer, rx_respond}
use Rattle.xen_rx_fill.specs.declared.by_event.phase.TransmitOutcome.{TransmitOutcome}
use Rattle.xen_rx_fill.specs.declared.target.Grants.{Grants}
use Rattle.xen_rx_fill.specs.declared.target.Grants.TheVariants.{Passed, Refused}
use Rattle.xen_rx_fill.specs.declared.target.Target.{Target}
use Rattle.xen_rx_fill.specs.declared.vif.Vif.{Vif}
use Rattle.xen_turns.proofs.TurnRuns.{runs_turn}
use Rattle.xen_turns.specs.Responses.{Left}
use Rattle.xen_turns.specs.Rest.{fragment_at}
use Rattle.xen_turns.specs.Tree.{after_copy, after_run, after_transmit, answer, copy, entered, notice, program, run_of, whole_turn}
use Rattle.xen_turns.specs.Turned.{Ending, turned}
use Rattle.xen_turns.specs.declared.state.State.{State}
use Rattle.xen_turns.specs.declared.wiring.Wiring.{Wiring}
use Rattle.xen_host.specs.Asks.{Ask}
use Rattle.xen_host.specs.Early.{is_early, is_late}
use Rattle.xen_host.specs.EngineAt.{EngineAt, WorkAt}
use Rattle.xen_host.specs.Lanes.{held_at as stage_held, is_calm, is_held, is_withheld, withheld}
use Rattle.xen_host.specs.Rest.{reads_in, rest_in}
use Rattle.xen_host.specs.UnderWay.{IsTurningAt, TurnGoesAt, packet_at}
use Rattle.xen_host.specs.declared.stage.Fill.{Fill}
use Rattle.xen_host.specs.declared.stage.Fill.TheVariants as fill
use Rattle.xen_host.specs.declared.stage.Purpose.TheVariants as purpose
use Rattle.xen_host.specs.declared.stage.Stage.{Stage}
use Rattle.xen_host.specs.declared.stage.Stage.TheVariants as stage
use Rattle.xen_host.proofs.LanesCalmLemmas.{calm_parts}
use Rattle.xen_host.proofs.LanesEndLemmas.{did_push, event_runs}
use Rattle.xen_host.proofs.LanesHaltLemmas.{reads_of, runs_rest}
use Rattle.xen_host.proofs.LanesMovesLemmas.{over_or_on}
use Rattle.xen_host.proofs.LanesQuietLemmas.{RunsNone, calm_led, rest_calm}
use Rattle.xen_host.specs.Quiet.{Calm, IsEventRead}
use Rattle.xen_host.proofs.LanesRowLemmas.{snoc_same}
use Rattle.xen_host.proofs.LanesStepLemmas.{gone_rest}

-- ---- wants

abbrev pub reads_word : Want → ℕ
reads_word (want.Read at) = at.word
reads_word (want.Write at v) = 0
reads_word want.Instr = 0
reads_word (want.Load m k j) = 0
reads_word (want.Add m k j delta) = 0
reads_word (want.Notify port) = 0
reads_word want.Done = 0

abbrev pub reads_frame : Want → ℕ
reads_frame (want.Read at) = at.frame
reads_frame (want.Write at v) = 0
reads_frame want.Instr = 0
reads_frame (want.Load m k j) = 0
reads_frame (want.Add m k j delta) = 0
reads_frame (want.Notify port) = 0
reads_frame want.Done = 0

abbrev pub is_read : Want → Bool
is_read (want.Read at) = true
is_read (want.Write at v) = false
is_read want.Instr = false
is_read (want.Load m k j) = false
is_read (want.Add m k j delta) = false
is_read (want.Notify port) = false
is_read want.Done = false

notice_reads : (w : Wiring) (b : Bool) (e : Ending) → is_read (want_of (notice w b e)) ≡ false
notice_reads w true e = refl
notice_reads w false e = refl

-- It reads the word of the event index, and no more.
event_word : (w : Wiring) (s : Steps Ending) → IsEventRead w s → reads_word (want_of s) ≡ 3
event_word w s e = ap (λ q. reads_word (want_of q)) e.3

event_frame : (w : Wiring) (s : Steps Ending) → IsEventRead w s → reads_frame (want_of s) ≡ w.vif.tx
event_frame w s e = ap (λ q. reads_frame (want_of q)) e.3

event_reads_first : (w : Wiring) (s : Steps Ending) → IsEventRead w s → is_read (want_of s) ≡ true
event_reads_first w s e = ap (λ q. is_read (want_of q)) e.3

event_reads_once : (w : Wiring) (s : Steps Ending) (a : ℕ) → IsEventRead w s → is_read (want_of (next s a)) ≡ false
event_reads_once w s a e = ap (λ q. is_read (want_of (next q a))) e.3 ∙ notice_reads w (is_due e.0 e.1 a) e.2

-- ---- what has work to do yet

abbrev pub is_work : Event → Bool
is_work (Read at v) = false
is_work (Write at v) = true
is_work Instr = true
is_work (Load m k j v) = true
is_work (Add m k j delta old) = true
is_work (Notify port) = false

abbrev pub has_work : List Event → Bool
has_work [] = false
has_work (e ∷ t) = is_work e || has_work t

abbrev pub Busy : {A : Type 0} → Steps A → Type 0
Busy (done x) = ⊥
Busy (ask (want.Read at) k) = (a : ℕ) → Busy (k a)
Busy (ask (want.Write at v) k) = Unit {0}
Busy (ask want.Instr k) = Unit {0}
Busy (ask (want.Load m j i) k) = Unit {0}
Busy (ask (want.Add m j i delta) k) = Unit {0}
Busy (ask (want.Notify port) k) = (a : ℕ) → Busy (k a)
Busy (ask want.Done k) = Unit {0}
Busy never = Unit {0}

busy_bind : {A B : Type 0} (m : Steps A) (f : A → Steps B) → ((x : A) → Busy (f x)) → Busy (bind m f)
busy_bind (done x) f h = h x
busy_bind (ask (want.Read at) k) f h = λ a. busy_bind (k a) f h
busy_bind (ask (want.Write at v) k) f h = tt
busy_bind (ask want.Instr k) f h = tt
busy_bind (ask (want.Load m j i) k) f h = tt
busy_bind (ask (want.Add m j i delta) k) f h = tt
busy_bind (ask (want.Notify port) k) f h = λ a. busy_bind (k a) f h
busy_bind (ask want.Done k) f h = tt
busy_bind never f h = tt

event_work : (e x : Event) (t : List Event) → e ≡ x → has_work (e ∷ t) ≡ (is_work x || has_work t)
event_work e x t h = ap (λ y. is_work y || has_work t) h

busy_runs : {A : Type 0} (s : Steps A) (t : List Event) (r : A) → Busy s → Runs s t r → has_work t ≡ true
busy_runs (done x) [] r b h = absurd b
busy_runs (done x) (e ∷ t) r b h = absurd h
busy_runs (ask w k) [] r b h = absurd h
busy_runs (ask (want.Read at) k) (e ∷ t) r b h = event_work e (Read at h.0) t h.1.1 ∙ busy_runs (k h.0) t r (b h.0) h.2
busy_runs (ask (want.Write at v) k) (e ∷ t) r b h = event_work e (Write at v) t h.1.1
busy_runs (ask want.Instr k) (e ∷ t) r b h = event_work e Instr t h.1.1
busy_runs (ask (want.Load m j i) k) (e ∷ t) r b h = event_work e (Load m j i h.0) t h.1.1
busy_runs (ask (want.Add m j i delta) k) (e ∷ t) r b h = event_work e (Add m j i delta h.0) t h.1.1
busy_runs (ask (want.Notify port) k) (e ∷ t) r b h = event_work e (Notify port) t h.1.1 ∙ busy_runs (k h.0) t r (b h.0) h.2
busy_runs (ask want.Done k) (e ∷ t) r b h = absurd h.1
busy_runs never t r b h = absurd h

notices_work : (w : Wiring) (b : Bool) → has_work (notices w.vif b) ≡ false
notices_work w true = refl
notices_work w false = refl

-- What reads the event index has nothing to do.
not_busy : {A : Type 0} (w : Wiring) (s : Steps Ending) → IsEventRead w s → Busy s → A
not_busy w s e b =
    let run = subst (λ q. Runs q (Read (tx_word w.vif 3) 0 ∷ notices w.vif (is_due e.0 e.1 0)) e.2) (sym e.3) (event_runs w e.0 e.1 e.2) in
    let f = sym (busy_runs s (Read (tx_word w.vif 3) 0 ∷ notices w.vif (is_due e.0 e.1 0)) e.2 b run) ∙ notices_work w (is_due e.0 e.1 0) in cc f

answer_busy : (w : Wiring) (t n i : ℕ) (rs : List ℕ) (e : Ending) → Busy (answer w t n i rs e)
answer_busy w t n i [] e = tt
answer_busy w t n i (r ∷ rs) e = tt

program_busy : {A : Type 0} (c : Course) (ops : ℕ) (f : Left → Steps A) → Busy (bind (program c ops) f)
program_busy (Exiting r0 packet) ops f = tt
program_busy (Stepping c) ops f = tt
program_busy (Loading m k j to) ops f = tt
program_busy (Adding m k j delta to) ops f = tt
program_busy Broken ops f = tt

copy_busy : (w : Wiring) (s : State) (chain : List Slot) (o : Option (List ℕ)) → Busy (after_copy w s chain o)
copy_busy w s chain None = answer_busy w _ _ _ _ _
copy_busy w s chain (Some packet) = program_busy (run_of w packet) 0 (after_run w s chain)

-- ---- the stages

rx_writes : (w : Vif) (x : ℕ) (o : RxOffload) (packet : List ℕ) (grants : Grants) (n i : ℕ) (ts : List Target) (f : TransmitOutcome → Steps Ending) → is_read (want_of (bind (rx_answer w x o packet grants n i ts) f)) ≡ false
rx_writes w x o packet grants n i [] f = refl
rx_writes w x o packet grants n i (t ∷ ts) f = refl

fill_writes : (w : Vif) (x : ℕ) (o : RxOffload) (packet : List ℕ) (ts : List Target) (n k : ℕ) (f : TransmitOutcome → Steps Ending) →
    is_read (want_of (bind (bind (fill_words o ts packet n k) (λ _. rx_respond w x o packet Passed ts)) f)) ≡ false
fill_writes w x o packet ts zero k f = rx_writes w x o packet Passed (length ts) 0 ts f
fill_writes w x o packet ts (suc n) k f = refl

answer_writes : (w : Wiring) (t n i : ℕ) (rs : List ℕ) (e : Ending) → is_read (want_of (answer w t n i rs e)) ≡ false
answer_writes w t n i [] e = refl
answer_writes w t n i (r ∷ rs) e = refl

outcome_writes : (w : Wiring) (s : State) (chain : List Slot) (packet : List ℕ) (ops : ℕ) (grants : Grants) (n : ℕ) → is_read (want_of (after_transmit w s chain packet ops (outcome_of grants n))) ≡ false
outcome_writes w s chain packet ops Refused n = answer_writes w _ _ _ _ _
outcome_writes w s chain packet ops Passed n = answer_writes w _ _ _ _ _

clash : {A : Type 0} (b : Bool) → b ≡ true → b ≡ false → A
clash true e f = cc f
clash false e f = cc e

not_filling : {A : Type 0} (w : Wiring) (s : State) (f : Fill) (ops : ℕ) (b : WorkAt) → w.vif.tx ≢ w.vif.rx → IsEventRead w (rest_in w s (stage.Fill f (purpose.Back ops)) b) → A
not_filling w s fill.Producer ops b apart e = let f = event_word w _ e in absurd (omega (arith, f))
not_filling w s (fill.Slot left) ops b apart e = let f = event_word w _ e in absurd (omega (arith, f))
not_filling w s (fill.Grant left id at) ops b apart e = let f = event_reads_once w _ 0 e in cc f
not_filling w s (fill.Words i) ops b apart e =
    clash (is_read (want_of (rest_in w s (stage.Fill (fill.Words i) (purpose.Back ops)) b))) (event_reads_first w _ e) (fill_writes w.vif s.rx_index Whole b.packet b.targets (words b.packet - 1024 * i) (1024 * i) (after_transmit w s b.chain b.packet ops))
not_filling w s (fill.Respond grants i) ops b apart e =
    clash (is_read (want_of (rest_in w s (stage.Fill (fill.Respond grants i) (purpose.Back ops)) b))) (event_reads_first w _ e) (rx_writes w.vif s.rx_index Whole b.packet grants (length b.targets) i (drop i b.targets) (after_transmit w s b.chain b.packet ops))
not_filling w s (fill.Push grants) ops b apart e = absurd (apart (sym (event_frame w _ e)))
not_filling w s (fill.Notice grants) ops b apart e =
    clash (is_read (want_of (rest_in w s (stage.Fill (fill.Notice grants) (purpose.Back ops)) b))) (event_reads_first w _ e) (outcome_writes w s b.chain b.packet ops grants (length b.targets))

-- A lane that reads the event index is held.
pub reads_event_held : (w : Wiring) (s : State) (g : Stage) (b : WorkAt) → w.vif.tx ≢ w.vif.rx → (is_early g ≡ false → is_late g ≡ true) → IsEventRead w (rest_in w s g b) → stage_held g ≡ true
reads_event_held w s stage.Push b apart on e = refl
reads_event_held w s stage.Ready b apart on e = let f = event_reads_first w _ e in cc f
reads_event_held w s (stage.Slot left) b apart on e = let f = event_word w _ e in absurd (omega (arith, f))
reads_event_held w s (stage.Entry i at) b apart on e = not_busy w _ e (busy_bind (bind (entry_at w.vif ReadOnly (Some at)) (entered (fragment_at b.fragments i) (copy w (drop (i + 1) b.fragments)) b.packet)) (after_copy w s b.chain) (λ o. copy_busy w s b.chain o))
reads_event_held w s (stage.Page i f frame) b apart on e = not_busy w _ e (busy_bind (bind (copy_words f frame _ (covered f) b.packet) (copy w (drop i b.fragments))) (after_copy w s b.chain) (λ o. copy_busy w s b.chain o))
reads_event_held w s (stage.Fill f (purpose.Back ops)) b apart on e = not_filling w s f ops b apart e
reads_event_held w s (stage.Fill f purpose.Delivery) b apart on e = let f = event_reads_first w _ e in cc f
reads_event_held w s (stage.Respond i) b apart on e = not_busy w _ e (answer_busy w _ _ _ _ _)
reads_event_held w s stage.Announce b apart on e = let f = on refl in cc f
reads_event_held w s stage.Notice b apart on e = let f = on refl in cc f
reads_event_held w s (stage.Deliver producer) b apart on e = let f = on refl in cc f
reads_event_held w s (stage.Wait pages) b apart on e = let f = on refl in cc f
reads_event_held w s (stage.WaitLook pages) b apart on e = let f = on refl in cc f
reads_event_held w s stage.Several b apart on e = let f = on refl in cc f

-- ---- a step that runs no program

runs_led : {A : Type 0} (s : Steps A) (t : List Event) (r : A) → Runs s t r → LedBy s t (done r)
runs_led (done x) [] r h = ap done h
runs_led (done x) (e ∷ t) r h = absurd h
runs_led (ask w k) [] r h = absurd h
runs_led (ask w k) (e ∷ t) r h = (k h.0, (h.0, h.1, refl), runs_led (k h.0) t r h.2)
runs_led never t r h = absurd h

-- What a calm computation leads to has made no push but the withheld one.
pub calm_from : (w : Wiring) (n : ℕ) (from : Steps Ending) (new : EngineAt) (b : State) (t events : List Event) (last : Ask) → new.wires ≡ w → w.vif.tx ≢ w.vif.rx → Calm w n from → LedBy (whole_turn w b) t from →
    TurnGoesAt new last b (t ++ (events ++ withheld w last)) → reads_of (events ++ withheld w last) ≤ n → is_withheld w last ≡ is_held new →
    (is_early new.stage ≡ false → is_late new.stage ≡ true) → is_calm w events ≡ true
calm_from w n from new b t events last same_new apart calm gone went few held on =
    let did = events ++ withheld w last in
    ⊎_elim
    (λ k.
    let r : Ending = (new.state, turned k.0 (packet_at new)) in
    let row = subst (λ a. TurnGoesAt new a b (t ++ did)) k.1 went in
    let run : Runs (whole_turn w b) (t ++ did) r = subst (λ q. Runs (whole_turn q b) (t ++ did) r) same_new (runs_turn new.wires b (t ++ did) new.state (turned k.0 (packet_at new)) row.0) in
    let led = runs_led from did r (runs_rest (whole_turn w b) from t did r gone run) in
    ⊎_elim (λ c. (calm_parts w events (withheld w last) c).0) (λ p. let f = event_reads_first w (done r) p.4 in cc f)
    (calm_led w n from (done r) did calm led few))
    (λ go.
    let after = rest_in w new.state new.stage new.work in
    let there : LedBy (whole_turn w b) (t ++ did) after = subst (λ q. LedBy (whole_turn q b) (t ++ did) (rest_in q new.state new.stage new.work)) same_new (go new b (t ++ did) went).gone in
    let led = gone_rest (whole_turn w b) from after t did gone there in
    ⊎_elim (λ c. (calm_parts w events (withheld w last) c).0)
    (λ p.
    let is = reads_event_held w new.state new.stage new.work apart on p.4 in
    let push = did_push w last (held ∙ is) in
    let cut : events ++ Write push.0 push.1 ∷ [] ≡ p.0 ++ Write (tx_word w.vif 2) p.1 ∷ [] = ap (λ l. events ++ l) (sym push.2) ∙ p.2 in
    ap (λ l. is_calm w l) (snoc_same events p.0 (Write push.0 push.1) (Write (tx_word w.vif 2) p.1) cut).0 ∙ p.3)
    (calm_led w n from after did calm led few))
    (over_or_on last)

-- What a step that runs no program made is calm, but for the push that is withheld.
pub keeps_calm : (w : Wiring) (old new : EngineAt) (b : State) (t events : List Event) (asked last : Ask) → old.wires ≡ w → new.wires ≡ w → w.vif.tx ≢ w.vif.rx → RunsNone old.stage old.work →
    IsTurningAt old b t asked → TurnGoesAt new last b (t ++ (events ++ withheld w last)) → reads_of (events ++ withheld w last) ≤ reads_in old.stage → is_withheld w last ≡ is_held new →
    (is_early new.stage ≡ false → is_late new.stage ≡ true) → is_calm w events ≡ true
keeps_calm w old new b t events asked last same same_new apart none token went few held on =
    let rest = rest_in w old.state old.stage old.work in
    let gone : LedBy (whole_turn w b) t rest = subst (λ q. LedBy (whole_turn q b) t (rest_in q old.state old.stage old.work)) same token.gone in
    calm_from w (reads_in old.stage) rest new b t events last same_new apart (rest_calm w old.state old.stage old.work none) gone went few held on
