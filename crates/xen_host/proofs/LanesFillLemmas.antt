-- A turn whose packet is on its way back has run its program.
use Rattle.std.proofs.Common.{◌≡◌, ℕ, zero, suc, ◌+◌, ◌-◌, ◌*◌, Bool, true, false, List, [], ◌∷◌, ◌++◌, length, drop, refl, sym, ap, ◌∙◌, subst}
use Rattle.std.specs.Prelude.{◌||◌, nat_lt, Option, None, Some, Result, Ok, Err, if◌then◌else◌}
use Rattle.xen_netif.specs.Chain.{Slot}
use Rattle.xen_netif.specs.declared.offload.RxOffload.{RxOffload}
use Rattle.xen_netif.specs.declared.offload.RxOffload.TheVariants.{Whole}
use Rattle.xen_netif.specs.declared.rx.RxReq.{RxReq}
use Rattle.xen_page.specs.declared.entry.Rights.{Rights}
use Rattle.xen_page.specs.declared.entry.Rights.TheVariants.{ReadWrite}
use Rattle.xen_page.specs.declared.fault.GrantFault.{GrantFault}
use Rattle.xen_page.specs.declared.place.Place.{Place}
use Rattle.xen_page.specs.Table.{entry_place}
use Rattle.xen_ring.specs.Index.{is_due}
use Rattle.xen_steps.specs.Drive.{Any, LedBy}
use Rattle.xen_steps.specs.Event.{Event, Occurs, Read, Write, Notify}
use Rattle.xen_steps.specs.Finish.{Ends}
use Rattle.xen_steps.specs.Places.{add32, available}
use Rattle.xen_steps.specs.Steps.{Runs, Steps, ask, bind, done, never}
use Rattle.xen_steps.specs.declared.want.Want.{Want}
use Rattle.xen_steps.specs.declared.want.Want.TheVariants as want
use Rattle.xen_steps.proofs.FinishLemmas.{runs_gone}
use Rattle.xen_rx_fill.specs.Entries.{entry_at}
use Rattle.xen_rx_fill.specs.Packets.{slots, takes_extra, words}
use Rattle.xen_rx_fill.specs.Transmit.{Posted, after_targets, fill as fill_words, fill_from, found, outcome_of, posted, read_targets, requested, rx_answer, rx_notice, rx_respond, targeted}
use Rattle.xen_rx_fill.specs.declared.by_event.phase.TransmitOutcome.{TransmitOutcome}
use Rattle.xen_rx_fill.specs.declared.by_event.phase.TransmitOutcome.TheVariants as outcome
use Rattle.xen_rx_fill.specs.declared.target.Grants.{Grants}
use Rattle.xen_rx_fill.specs.declared.target.Grants.TheVariants.{Passed, Refused as RefusedGrants}
use Rattle.xen_rx_fill.specs.declared.target.Target.{Target}
use Rattle.xen_rx_fill.specs.declared.vif.Vif.{Vif}
use Rattle.xen_turns.proofs.EndLemmas.{rest_of_gone}
use Rattle.xen_turns.proofs.TurnParts.{turn_parts}
use Rattle.xen_turns.specs.Tree.{after_transmit, answer, notice, whole_turn}
use Rattle.xen_turns.specs.Turned.{Ending, Turned, Idle, Ran, Refused, Halted}
use Rattle.xen_turns.specs.Turns.{IsTurn, broken, halted_rx, idle, overflown, ran, ran_tx, refused_few, refused_grant, refused_rx, refused_sizes, short, still_halted}
use Rattle.xen_turns.specs.declared.state.State.{State}
use Rattle.xen_turns.specs.declared.turn.Halt.TheVariants as halt
use Rattle.xen_turns.specs.declared.turn.PacketRefusal.TheVariants as refusal
use Rattle.xen_turns.specs.declared.wiring.Wiring.{Wiring}
use Rattle.xen_host.specs.Asks.{Ask}
use Rattle.xen_host.specs.EngineAt.{EngineAt, WorkAt}
use Rattle.xen_host.specs.Lanes.{is_filling, rest_of}
use Rattle.xen_host.specs.Rest.{is_turning, rest_filling, rest_in}
use Rattle.xen_host.specs.UnderWay.{IsTurningAt}
use Rattle.xen_host.specs.declared.stage.Fill.{Fill}
use Rattle.xen_host.specs.declared.stage.Fill.TheVariants as fill
use Rattle.xen_host.specs.declared.stage.Purpose.TheVariants as purpose
use Rattle.xen_host.specs.declared.stage.Stage.{Stage}
use Rattle.xen_host.specs.declared.stage.Stage.TheVariants as stage
use Rattle.xen_host.proofs.LanesRowLemmas.{has_program, program_append, program_left, run_program}

-- ---- no program runs in what is left

abbrev pub IsPlain : Want → Type 0
IsPlain (want.Read at) = Unit {0}
IsPlain (want.Write at v) = Unit {0}
IsPlain want.Instr = ⊥
IsPlain (want.Load m k j) = ⊥
IsPlain (want.Add m k j delta) = ⊥
IsPlain (want.Notify port) = Unit {0}
IsPlain want.Done = ⊥

abbrev pub IsQuiet : {A : Type 0} → Steps A → Type 0
IsQuiet (done x) = Unit {0}
IsQuiet (ask w k) = IsPlain w × ((a : ℕ) → IsQuiet (k a))
IsQuiet never = Unit {0}

pub quiet_bind : {A B : Type 0} (m : Steps A) (f : A → Steps B) → IsQuiet m → ((x : A) → IsQuiet (f x)) → IsQuiet (bind m f)
quiet_bind (done x) f h g = g x
quiet_bind (ask w k) f h g = (h.0, λ a. quiet_bind (k a) f (h.1 a) g)
quiet_bind never f h g = tt

plain_event : (w : Want) (a : ℕ) (e : Event) (t : List Event) → IsPlain w → Occurs w a e → has_program t ≡ false → has_program (e ∷ t) ≡ false
plain_event (want.Read at) a e t p o h = ap (λ x. has_program (x ∷ t)) o.1 ∙ h
plain_event (want.Write at v) a e t p o h = ap (λ x. has_program (x ∷ t)) o.1 ∙ h
plain_event want.Instr a e t p o h = absurd p
plain_event (want.Load m k j) a e t p o h = absurd p
plain_event (want.Add m k j delta) a e t p o h = absurd p
plain_event (want.Notify port) a e t p o h = ap (λ x. has_program (x ∷ t)) o.1 ∙ h
plain_event want.Done a e t p o h = absurd p

pub quiet_runs : {A : Type 0} (s : Steps A) (t : List Event) (r : A) → IsQuiet s → Runs s t r → has_program t ≡ false
quiet_runs (done x) [] r q h = refl
quiet_runs (done x) (e ∷ t) r q h = absurd h
quiet_runs (ask w k) [] r q h = absurd h
quiet_runs (ask w k) (e ∷ t) r q h = plain_event w h.0 e t q.0 h.1 (quiet_runs (k h.0) t r (q.1 h.0) h.2)
quiet_runs never t r q h = absurd h

-- ---- responses

quiet_notice : (w : Wiring) (b : Bool) (e : Ending) → IsQuiet (notice w b e)
quiet_notice w true e = (tt, λ a. tt)
quiet_notice w false e = tt

quiet_answer : (w : Wiring) (t n i : ℕ) (rs : List ℕ) (e : Ending) → IsQuiet (answer w t n i rs e)
quiet_answer w t n i [] e = (tt, λ a. (tt, λ v. quiet_notice w (is_due t (add32 t n) v) e))
quiet_answer w t n i (r ∷ rs) e = (tt, λ a. quiet_answer w t n (i + 1) rs e)

quiet_after : (w : Wiring) (s : State) (chain : List Slot) (packet : List ℕ) (ops : ℕ) (o : TransmitOutcome) → IsQuiet (after_transmit w s chain packet ops o)
quiet_after w s chain packet ops outcome.Overflow = tt
quiet_after w s chain packet ops outcome.TooFew = quiet_answer w _ _ _ _ _
quiet_after w s chain packet ops (outcome.Refused used) = quiet_answer w _ _ _ _ _
quiet_after w s chain packet ops (outcome.Sent used) = quiet_answer w _ _ _ _ _

-- ---- a transmit

quiet_rx_notice : (w : Vif) (b : Bool) (o : TransmitOutcome) → IsQuiet (rx_notice w b o)
quiet_rx_notice w true o = (tt, λ a. tt)
quiet_rx_notice w false o = tt

quiet_rx_answer : (w : Vif) (x : ℕ) (o : RxOffload) (packet : List ℕ) (grants : Grants) (n i : ℕ) (ts : List Target) → IsQuiet (rx_answer w x o packet grants n i ts)
quiet_rx_answer w x o packet grants n i [] = (tt, λ a. (tt, λ v. quiet_rx_notice w (is_due x (add32 x n) v) (outcome_of grants n)))
quiet_rx_answer w x o packet grants n i (t ∷ ts) = (tt, λ a. (tt, λ b. quiet_rx_answer w x o packet grants n (i + 1) ts))

quiet_fill : (o : RxOffload) (ts : List Target) (packet : List ℕ) (n k : ℕ) → IsQuiet (fill_words o ts packet n k)
quiet_fill o ts packet zero k = tt
quiet_fill o ts packet (suc n) k = (tt, λ a. quiet_fill o ts packet n (k + 1))

quiet_fill_from : (w : Vif) (x : ℕ) (o : RxOffload) (packet : List ℕ) (ts : List Target) (k : ℕ) → IsQuiet (fill_from w x o packet ts k)
quiet_fill_from w x o packet ts k = quiet_bind (fill_words o ts packet (words packet - k) k) (λ _. rx_respond w x o packet Passed ts) (quiet_fill o ts packet (words packet - k) k) (λ u. quiet_rx_answer w x o packet Passed (length ts) 0 ts)

quiet_after_targets : (w : Vif) (x : ℕ) (o : RxOffload) (packet : List ℕ) (p : Posted) → IsQuiet (after_targets w x o packet p)
quiet_after_targets w x o packet (Ok ts) = quiet_fill_from w x o packet ts 0
quiet_after_targets w x o packet (Err ts) = quiet_rx_answer w x o packet RefusedGrants (length ts) 0 ts

quiet_entry : (w : Vif) (rights : Rights) (at : Option Place) → IsQuiet (entry_at w rights at)
quiet_entry w rights None = tt
quiet_entry w rights (Some at) = (tt, λ a. (tt, λ b. tt))

quiet_targeted : (ts : List Target) (go : List Target → Steps Posted) (id : ℕ) (r : Result ℕ GrantFault) → ((ts : List Target) → IsQuiet (go ts)) → IsQuiet (targeted ts go id r)
quiet_targeted ts go id (Ok frame) h = h _
quiet_targeted ts go id (Err fault) h = tt

quiet_requested : (w : Vif) (extra : Bool) (ts : List Target) (go : List Target → Steps Posted) (request : RxReq) → ((ts : List Target) → IsQuiet (go ts)) → IsQuiet (requested w extra ts go request)
quiet_requested w true ts go request h = h _
quiet_requested w false ts go request h = quiet_bind (entry_at w ReadWrite (entry_place w.table.now request.gref)) (targeted ts go request.id) (quiet_entry w ReadWrite (entry_place w.table.now request.gref)) (λ r. quiet_targeted ts go request.id r h)

quiet_posted : (w : Vif) (i : ℕ) (rest : RxReq → Steps Posted) → ((request : RxReq) → IsQuiet (rest request)) → IsQuiet (posted w i rest)
quiet_posted w i rest h = (tt, λ a. (tt, λ g. h _))

quiet_targets : (w : Vif) (x : ℕ) (o : RxOffload) (left : ℕ) (ts : List Target) → IsQuiet (read_targets w x o left ts)
quiet_targets w x o zero ts = tt
quiet_targets w x o (suc left) ts =
    quiet_posted w (add32 x (length ts)) (requested w (takes_extra o (length ts)) ts (read_targets w x o left))
    (λ request. quiet_requested w (takes_extra o (length ts)) ts (read_targets w x o left) request (λ us. quiet_targets w x o left us))

quiet_found : (w : Vif) (x : ℕ) (o : RxOffload) (packet : List ℕ) (m : Option ℕ) → IsQuiet (found w x o packet m)
quiet_found w x o packet None = tt
quiet_found w x o packet (Some m) = by (nat_lt m (slots o packet))
  where
    by : (b : Bool) → IsQuiet (if b then done outcome.TooFew else bind (read_targets w x o (slots o packet) []) (after_targets w x o packet))
    by true = tt
    by false = quiet_bind (read_targets w x o (slots o packet) []) (after_targets w x o packet) (quiet_targets w x o (slots o packet) []) (λ p. quiet_after_targets w x o packet p)

quiet_filling : (w : Vif) (x : ℕ) (o : RxOffload) (f : Fill) (b : WorkAt) → IsQuiet (rest_filling w x o f b)
quiet_filling w x o fill.Producer b = (tt, λ p. quiet_found w x o b.packet (available x p))
quiet_filling w x o (fill.Slot left) b =
    quiet_bind (posted w (add32 x (length b.targets)) (requested w (takes_extra o (length b.targets)) b.targets (read_targets w x o left))) (after_targets w x o b.packet)
    (quiet_posted w (add32 x (length b.targets)) (requested w (takes_extra o (length b.targets)) b.targets (read_targets w x o left))
    (λ request. quiet_requested w (takes_extra o (length b.targets)) b.targets (read_targets w x o left) request (λ us. quiet_targets w x o left us)))
    (λ p. quiet_after_targets w x o b.packet p)
quiet_filling w x o (fill.Grant left id at) b =
    quiet_bind (bind (entry_at w ReadWrite (Some at)) (targeted b.targets (read_targets w x o left) id)) (after_targets w x o b.packet)
    (quiet_bind (entry_at w ReadWrite (Some at)) (targeted b.targets (read_targets w x o left) id) (quiet_entry w ReadWrite (Some at))
    (λ r. quiet_targeted b.targets (read_targets w x o left) id r (λ us. quiet_targets w x o left us)))
    (λ p. quiet_after_targets w x o b.packet p)
quiet_filling w x o (fill.Words i) b = quiet_fill_from w x o b.packet b.targets (1024 * i)
quiet_filling w x o (fill.Respond grants i) b = quiet_rx_answer w x o b.packet grants (length b.targets) i (drop i b.targets)
quiet_filling w x o (fill.Push grants) b = (tt, λ v. quiet_rx_notice w (is_due x (add32 x (length b.targets)) v) (outcome_of grants (length b.targets)))
quiet_filling w x o (fill.Notice grants) b = tt

-- ---- how it ends

-- such an end has a run before it
abbrev pub HasSent : Turned → Type 0
HasSent Idle = ⊥
HasSent (Ran number packet ops slots) = Unit {0}
HasSent (Refused (refusal.Size fault) ops slots) = ⊥
HasSent (Refused refusal.Grant ops slots) = ⊥
HasSent (Refused refusal.FewSlots ops slots) = Unit {0}
HasSent (Refused refusal.RxGrant ops slots) = Unit {0}
HasSent (Halted halt.RxProducer) = Unit {0}
HasSent (Halted halt.TxProducer) = ⊥
HasSent (Halted halt.ShortChain) = ⊥
HasSent (Halted (halt.Chain fault)) = ⊥

notice_ends : (w : Wiring) (b : Bool) (e r : Ending) (t : List Event) → Runs (notice w b e) t r → e ≡ r
notice_ends w false e r [] h = h
notice_ends w false e r (x ∷ t) h = absurd h
notice_ends w true e r [] h = absurd h
notice_ends w true e r (x ∷ []) h = h.2
notice_ends w true e r (x ∷ y ∷ t) h = absurd h.2

answer_ends : (w : Wiring) (t n i : ℕ) (rs : List ℕ) (e r : Ending) (p : List Event) → Runs (answer w t n i rs e) p r → e ≡ r
answer_ends w t n i [] e r [] h = absurd h
answer_ends w t n i [] e r (x ∷ []) h = absurd h.2
answer_ends w t n i [] e r (x ∷ y ∷ p) h = notice_ends w (is_due t (add32 t n) h.2.0) e r p h.2.2
answer_ends w t n i (a ∷ rs) e r [] h = absurd h
answer_ends w t n i (a ∷ rs) e r (x ∷ p) h = answer_ends w t n (i + 1) rs e r p h.2

after_ends : (w : Wiring) (s : State) (chain : List Slot) (packet : List ℕ) (ops : ℕ) (o : TransmitOutcome) (p : List Event) (r : Ending) → Runs (after_transmit w s chain packet ops o) p r → HasSent r.1
after_ends w s chain packet ops outcome.Overflow [] r h = subst (λ (e : Ending). HasSent e.1) h tt
after_ends w s chain packet ops outcome.Overflow (x ∷ p) r h = absurd h
after_ends w s chain packet ops outcome.TooFew p r h = subst (λ (e : Ending). HasSent e.1) (answer_ends w _ _ _ _ _ r p h) tt
after_ends w s chain packet ops (outcome.Refused used) p r h = subst (λ (e : Ending). HasSent e.1) (answer_ends w _ _ _ _ _ r p h) tt
after_ends w s chain packet ops (outcome.Sent used) p r h = subst (λ (e : Ending). HasSent e.1) (answer_ends w _ _ _ _ _ r p h) tt

pub bind_ends : {A B : Type 0} (P : B → Type 0) (m : Steps A) (f : A → Steps B) (p : List Event) (r : B) → ((x : A) (q : List Event) → Runs (f x) q r → P r) → Runs (bind m f) p r → P r
bind_ends P (done x) f p r g h = g x p h
bind_ends P (ask w k) f [] r g h = absurd h
bind_ends P (ask w k) f (e ∷ p) r g h = bind_ends P (k h.0) f p r g h.2
bind_ends P never f p r g h = absurd h

row_ran : (w : Wiring) (s : State) (t : List Event) (after : State) (u : Turned) → s.halt ≡ None → IsTurn w s t after u → HasSent u → has_program t ≡ true
row_ran w s _ _ _ run (still_halted cause h) sent = let e = sym run ∙ h in cc e
row_ran w s _ _ _ run (idle looks h k) sent = absurd sent
row_ran w s _ _ _ run (overflown looks h k) sent = absurd sent
row_ran w s _ _ _ run (short looks reads n slots read end begins) sent = absurd sent
row_ran w s _ _ _ run (broken looks reads n slots fault read faulty) sent = absurd sent
row_ran w s _ _ _ run (refused_sizes looks reads q n slots fault read chain sizes responded) sent = absurd sent
row_ran w s _ _ _ run (refused_grant looks reads copies q n slots fragments read chain sizes copy responded) sent = absurd sent
row_ran w s _ _ _ run (ran p q slots out ranit other responded) sent = program_left p q (run_program w s p slots out ranit)
row_ran w s _ _ _ run (halted_rx p sends slots out ranit tx sends_all) sent = program_left p sends (run_program w s p slots out ranit)
row_ran w s _ _ _ run (refused_few p sends q slots out ranit tx sends_all responded) sent = program_left p (sends ++ q) (run_program w s p slots out ranit)
row_ran w s _ _ _ run (refused_rx p sends q used slots out ranit tx sends_all responded) sent = program_left p (sends ++ q) (run_program w s p slots out ranit)
row_ran w s _ _ _ run (ran_tx p sends q used slots out ranit tx sends_all responded) sent = program_left p (sends ++ q) (run_program w s p slots out ranit)

only_left : (a b : Bool) → b ≡ false → (a || b) ≡ true → a ≡ true
only_left true b e h = refl
only_left false b e h = let f = sym e ∙ h in cc f

-- what is left of a turn at such a stage
rest_quiet : (w : Wiring) (s : State) (g : Stage) (b : WorkAt) → is_filling g ≡ true → is_turning g ≡ true → IsQuiet (rest_in w s g b) × ((p : List Event) (r : Ending) → Runs (rest_in w s g b) p r → HasSent r.1)
rest_quiet w s (stage.Fill f (purpose.Back ops)) b h t = (
  quiet_bind (rest_filling w.vif s.rx_index Whole f b) (after_transmit w s b.chain b.packet ops) (quiet_filling w.vif s.rx_index Whole f b) (λ o. quiet_after w s b.chain b.packet ops o),
  λ p r run. bind_ends (λ (e : Ending). HasSent e.1) (rest_filling w.vif s.rx_index Whole f b) (after_transmit w s b.chain b.packet ops) p r (λ o q h. after_ends w s b.chain b.packet ops o q r h) run,
)
rest_quiet w s (stage.Fill f purpose.Delivery) b h t = cc t
rest_quiet w s stage.Ready b h t = cc h
rest_quiet w s stage.Announce b h t = cc h
rest_quiet w s (stage.Slot left) b h t = cc h
rest_quiet w s (stage.Entry i at) b h t = cc h
rest_quiet w s (stage.Page i f frame) b h t = cc h
rest_quiet w s (stage.Respond i) b h t = cc h
rest_quiet w s stage.Push b h t = cc h
rest_quiet w s stage.Notice b h t = cc h
rest_quiet w s (stage.Deliver producer) b h t = cc h
rest_quiet w s (stage.Wait pages) b h t = cc h
rest_quiet w s (stage.WaitLook pages) b h t = cc h
rest_quiet w s stage.Several b h t = cc h

pub filling_ran : (w : Wiring) (e : EngineAt) (s : State) (t : List Event) (asked : Ask) → ((s : State) → Ends Any (whole_turn w s)) → e.wires ≡ w → s.halt ≡ None → IsTurningAt e s t asked → is_filling e.stage ≡ true →
    has_program t ≡ true
filling_ran w e s t asked completes same run token filling =
    let gone = subst (λ q. LedBy (whole_turn q s) t (rest_of e)) same token.gone in
    let more = rest_of_gone (whole_turn w s) (rest_of e) t (completes s) gone in
    let left = rest_quiet e.wires e.state e.stage e.work filling token.is_here in
    let row = turn_parts w s (t ++ more.0) more.1.0 more.1.1 (runs_gone (whole_turn w s) (rest_of e) t more.0 more.1 gone more.2) in
    let all = row_ran w s (t ++ more.0) more.1.0 more.1.1 run row (left.1 more.0 more.1 more.2) in
    only_left (has_program t) (has_program more.0) (quiet_runs (rest_of e) more.0 more.1 left.0 more.2) (sym (program_append t more.0) ∙ all)
