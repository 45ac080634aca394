-- A turn that is over before the event index is read has halted.
use Rattle.std.proofs.Common.{◌≡◌, ℕ, zero, suc, ◌+◌, ◌-◌, ◌*◌, ◌≤◌, ◌/◌, ◌%◌, ◌^◌, Bool, true, false, List, [], ◌∷◌, ◌++◌, length, drop, take, map, refl, ap, subst, arith}
use Rattle.std.specs.Prelude.{nat_lt, ◌==◌, Option, None, Some, Result, Ok, Err, if◌then◌else◌}
use Rattle.bpf_note.specs.declared.op.Op.{Op as Operation}
use Rattle.bpf_note.specs.declared.op.Op.TheVariants as operation
use Rattle.bpf_vm.specs.Course.{Course, Exiting, Stepping, Loading, Adding, Broken}
use Rattle.xen_netif.specs.Chain.{Slot}
use Rattle.xen_netif.specs.Segments.{offered_fragments}
use Rattle.xen_netif.specs.Standing.{standing}
use Rattle.xen_netif.specs.declared.chain.ChainState.{ChainState}
use Rattle.xen_netif.specs.declared.chain.ChainState.TheVariants as wanted
use Rattle.xen_netif.specs.declared.fault.ChainFault.{ChainFault}
use Rattle.xen_netif.specs.declared.fault.SizeFault.{SizeFault}
use Rattle.xen_netif.specs.declared.fragment.Fragment.{Fragment}
use Rattle.xen_netif.specs.declared.offload.RxOffload.{RxOffload}
use Rattle.xen_netif.specs.declared.offload.RxOffload.TheVariants.{Whole}
use Rattle.xen_netif.specs.declared.rx.RxReq.{RxReq}
use Rattle.xen_netif.specs.Copy.{bytes_in}
use Rattle.xen_netif.specs.Slots.{rx_req_of}
use Rattle.xen_page.specs.Entry.{entry_of}
use Rattle.xen_page.specs.Grant.{checked}
use Rattle.xen_page.specs.Mapping.{frame_place}
use Rattle.xen_page.specs.Table.{entry_place}
use Rattle.xen_page.specs.declared.entry.Rights.TheVariants.{ReadOnly, ReadWrite}
use Rattle.xen_page.specs.declared.fault.GrantFault.{GrantFault}
use Rattle.xen_page.specs.declared.place.Place.{Place}
use Rattle.xen_ring.specs.Index.{is_due}
use Rattle.xen_steps.specs.Drive.{LedBy}
use Rattle.xen_steps.proofs.DriveLemmas.{runs_alone}
use Rattle.xen_steps.specs.Event.{Event, Read, Write, Instr, Load, Add, Notify}
use Rattle.xen_steps.specs.Pages.{copy_words, covered}
use Rattle.xen_steps.specs.Places.{add32, available, page_word}
use Rattle.xen_steps.specs.Steps.{Runs, Steps, ask, bind, done, never}
use Rattle.xen_steps.specs.declared.want.Want.TheVariants as want
use Rattle.xen_rx_fill.specs.Entries.{entry_at}
use Rattle.xen_rx_fill.specs.Packets.{slots, takes_extra, words}
use Rattle.xen_rx_fill.specs.Transmit.{after_targets, fill as fill_words, found, outcome_of, read_targets, requested, rx_answer, rx_notice, targeted}
use Rattle.xen_rx_fill.specs.declared.by_event.phase.TransmitOutcome.{TransmitOutcome}
use Rattle.xen_rx_fill.specs.declared.by_event.phase.TransmitOutcome.TheVariants as outcome
use Rattle.xen_rx_fill.specs.declared.target.Grants.{Grants}
use Rattle.xen_rx_fill.specs.declared.target.Grants.TheVariants.{Passed, Refused as RefusedGrants}
use Rattle.xen_rx_fill.specs.declared.target.Target.{Target}
use Rattle.xen_rx_fill.specs.declared.vif.Vif.{Vif}
use Rattle.xen_turns.specs.Program.{event_of}
use Rattle.xen_turns.specs.Responses.{Left}
use Rattle.xen_turns.specs.Rest.{fragment_at}
use Rattle.xen_turns.specs.Tree.{respond, status_of, after_chain, after_copy, after_run, after_scan, after_transmit, answer, copy, entered, judged, program, read_slots, run_of, send}
use Rattle.xen_turns.proofs.TurnRuns.{runs_turn}
use Rattle.xen_turns.specs.Tree.{whole_turn}
use Rattle.xen_turns.specs.Turned.{Ending, Idle, Ran, Refused, Halted, turned}
use Rattle.xen_turns.specs.declared.state.State.{State}
use Rattle.xen_turns.specs.declared.turn.Kind.{Kind}
use Rattle.xen_turns.specs.declared.turn.Kind.TheVariants as kind
use Rattle.xen_turns.specs.declared.wiring.Wiring.{Wiring}
use Rattle.xen_host.specs.Asks.{Ask, TurnOver, did_all, did_by, read_by, reads_at, writes_at}
use Rattle.xen_host.specs.Asks as ask
use Rattle.xen_host.specs.EngineAt.{EngineAt, WorkAt}
use Rattle.xen_host.specs.Lanes.{IsHalt, rest_of}
use Rattle.xen_host.specs.UnderWay.{IsTurningAt, TurnGoesAt, packet_at}
use Rattle.xen_host.specs.Fed.{WaitsFor}
use Rattle.xen_host.specs.Quiet.{Halts, IsHalted, Within}
use Rattle.xen_host.specs.Rest.{reads_filling, reads_in, rest_filling, rest_in}
use Rattle.xen_host.specs.declared.stage.Fill.{Fill}
use Rattle.xen_host.specs.declared.stage.Fill.TheVariants as fill
use Rattle.xen_host.specs.declared.stage.Purpose.TheVariants as purpose
use Rattle.xen_host.specs.declared.stage.Stage.{Stage}
use Rattle.xen_host.specs.declared.stage.Stage.TheVariants as stage

-- ---- runs with no more than n reads

pub within_bind : {A B : Type 0} (Q : ℕ → B → Type 0) (n : ℕ) (m : Steps A) (f : A → Steps B) → Within (λ j x. Within Q j (f x)) n m → Within Q n (bind m f)
within_bind Q n (done x) f h = h
within_bind Q zero (ask (want.Read at) k) f h = tt
within_bind Q (suc n) (ask (want.Read at) k) f h = λ a. within_bind Q n (k a) f (h a)
within_bind Q n (ask (want.Write at v) k) f h = λ a. within_bind Q n (k a) f (h a)
within_bind Q n (ask want.Instr k) f h = λ a. within_bind Q n (k a) f (h a)
within_bind Q n (ask (want.Load m j i) k) f h = λ a. within_bind Q n (k a) f (h a)
within_bind Q n (ask (want.Add m j i delta) k) f h = λ a. within_bind Q n (k a) f (h a)
within_bind Q n (ask (want.Notify port) k) f h = λ a. within_bind Q n (k a) f (h a)
within_bind Q n (ask want.Done k) f h = tt
within_bind Q n never f h = tt

-- how many reads
abbrev pub reads_of : List Event → ℕ
reads_of [] = 0
reads_of (Read at v ∷ t) = suc (reads_of t)
reads_of (Write at v ∷ t) = reads_of t
reads_of (Instr ∷ t) = reads_of t
reads_of (Load m k j v ∷ t) = reads_of t
reads_of (Add m k j delta old ∷ t) = reads_of t
reads_of (Notify port ∷ t) = reads_of t

pub reads_append : (t u : List Event) → reads_of (t ++ u) ≡ reads_of t + reads_of u
reads_append [] u = omega arith
reads_append (Read at v ∷ t) u = let e = reads_append t u in omega (arith, e)
reads_append (Write at v ∷ t) u = reads_append t u
reads_append (Instr ∷ t) u = reads_append t u
reads_append (Load m k j v ∷ t) u = reads_append t u
reads_append (Add m k j delta old ∷ t) u = reads_append t u
reads_append (Notify port ∷ t) u = reads_append t u

pub event_reads : (e x : Event) (t : List Event) → e ≡ x → reads_of (e ∷ t) ≡ reads_of (x ∷ t)
event_reads e x t h = ap (λ y. reads_of (y ∷ t)) h

pub within_runs : {A : Type 0} (Q : ℕ → A → Type 0) (P : A → Type 0) → ((j : ℕ) (x : A) → Q j x → P x) → (n : ℕ) (s : Steps A) (t : List Event) (r : A) → Within Q n s → Runs s t r → reads_of t ≤ n → P r
within_runs {A} Q P q n (done x) [] r h run few = subst (λ (y : A). P y) run (q n x h)
within_runs Q P q n (done x) (e ∷ t) r h run few = absurd run
within_runs Q P q n (ask w k) [] r h run few = absurd run
within_runs Q P q zero (ask (want.Read at) k) (e ∷ t) r h run few = let f = event_reads e (Read at run.0) t run.1.1 in absurd (omega (arith, few, f))
within_runs Q P q (suc n) (ask (want.Read at) k) (e ∷ t) r h run few =
    let f = event_reads e (Read at run.0) t run.1.1 in within_runs Q P q n (k run.0) t r (h run.0) run.2 (omega (arith, few, f))
within_runs Q P q n (ask (want.Write at v) k) (e ∷ t) r h run few = let f = event_reads e (Write at v) t run.1.1 in within_runs Q P q n (k run.0) t r (h run.0) run.2 (omega (arith, few, f))
within_runs Q P q n (ask want.Instr k) (e ∷ t) r h run few = let f = event_reads e Instr t run.1.1 in within_runs Q P q n (k run.0) t r (h run.0) run.2 (omega (arith, few, f))
within_runs Q P q n (ask (want.Load m j i) k) (e ∷ t) r h run few = let f = event_reads e (Load m j i run.0) t run.1.1 in within_runs Q P q n (k run.0) t r (h run.0) run.2 (omega (arith, few, f))
within_runs Q P q n (ask (want.Add m j i delta) k) (e ∷ t) r h run few = let f = event_reads e (Add m j i delta run.0) t run.1.1 in within_runs Q P q n (k run.0) t r (h run.0) run.2 (omega (arith, few, f))
within_runs Q P q n (ask (want.Notify port) k) (e ∷ t) r h run few = let f = event_reads e (Notify port) t run.1.1 in within_runs Q P q n (k run.0) t r (h run.0) run.2 (omega (arith, few, f))
within_runs Q P q n (ask want.Done k) (e ∷ t) r h run few = absurd run.1
within_runs Q P q n never t r h run few = absurd run

-- ---- what the parts of a turn give

pub answer_halts : (w : Wiring) (t n i : ℕ) (rs : List ℕ) (e : Ending) → Within Halts 0 (answer w t n i rs e)
answer_halts w t n i [] e = λ a. tt
answer_halts w t n i (r ∷ rs) e = λ a. answer_halts w t n (i + 1) rs e

after_halts : (w : Wiring) (s : State) (chain : List Slot) (packet : List ℕ) (ops : ℕ) (o : TransmitOutcome) → Within Halts 0 (after_transmit w s chain packet ops o)
after_halts w s chain packet ops outcome.Overflow = tt
after_halts w s chain packet ops outcome.TooFew = answer_halts w _ _ _ _ _
after_halts w s chain packet ops (outcome.Refused used) = answer_halts w _ _ _ _ _
after_halts w s chain packet ops (outcome.Sent used) = answer_halts w _ _ _ _ _

program_halts : {A : Type 0} (Q : ℕ → A → Type 0) (c : Course) (ops : ℕ) (f : Left → Steps A) → ((x : Left) → Within Q 0 (f x)) → Within Q 0 (bind (program c ops) f)
program_halts Q (Exiting r0 packet) ops f h = λ a. h (record { number = r0 % 2 ^ 32; packet = packet; ops = ops })
program_halts Q (Stepping c) ops f h = λ a. program_halts Q c ops f h
program_halts Q (Loading m k j to) ops f h = λ a. program_halts Q (to a) (ops + 1) f h
program_halts Q (Adding m k j delta to) ops f h = λ a. program_halts Q (to a) (ops + 1) f h
program_halts Q Broken ops f h = tt

run_halts : (w : Wiring) (s : State) (chain : List Slot) (r : Left) → Within Halts 0 (after_run w s chain r)
run_halts w s chain r = by (r.number == 3)
  where
    by : (b : Bool) → Within Halts 0 (if b then send w s chain r.packet r.ops else respond w s chain (status_of r.number) (Ran r.number r.packet r.ops (length chain)))
    by true = tt
    by false = answer_halts w _ _ _ _ _

copy_halts : (w : Wiring) (s : State) (chain : List Slot) (o : Option (List ℕ)) → Within Halts 0 (after_copy w s chain o)
copy_halts w s chain None = answer_halts w _ _ _ _ _
copy_halts w s chain (Some packet) = program_halts Halts (run_of w packet) 0 (after_run w s chain) (λ r. run_halts w s chain r)

fragments_halt : (w : Wiring) (s : State) (chain : List Slot) (fs : List Fragment) (bytes : List ℕ) → Within Halts 0 (bind (copy w fs bytes) (after_copy w s chain))
fragments_halt w s chain [] bytes = copy_halts w s chain (Some bytes)
fragments_halt w s chain (f ∷ fs) bytes = by (entry_place w.vif.table.now f.gref)
  where
    by : (o : Option Place) → Within Halts 0 (bind (bind (entry_at w.vif ReadOnly o) (entered f (copy w fs) bytes)) (after_copy w s chain))
    by None = copy_halts w s chain None
    by (Some at) = tt

words_halt : (w : Wiring) (s : State) (chain : List Slot) (fs : List Fragment) (f : Fragment) (frame place n : ℕ) (bytes : List ℕ) →
    Within Halts n (bind (bind (copy_words f frame place n bytes) (copy w fs)) (after_copy w s chain))
words_halt w s chain fs f frame place zero bytes = fragments_halt w s chain fs bytes
words_halt w s chain fs f frame place (suc n) bytes = λ v. words_halt w s chain fs f frame (place + 1) n (bytes ++ bytes_in f place v)

-- a frame's words, of which none is read yet
frame_halts : (w : Wiring) (s : State) (chain : List Slot) (fs : List Fragment) (f : Fragment) (bytes : List ℕ) (r : Result ℕ GrantFault) →
    Within Halts 0 (bind (entered f (copy w fs) bytes r) (after_copy w s chain))
frame_halts w s chain fs f bytes (Err fault) = copy_halts w s chain None
frame_halts w s chain fs f bytes (Ok frame) = by (covered f)
  where
    by : (n : ℕ) → Within Halts 0 (bind (bind (copy_words f frame (f.offset / 4) n bytes) (copy w fs)) (after_copy w s chain))
    by zero = fragments_halt w s chain fs bytes
    by (suc n) = tt

pub chain_halts : (w : Wiring) (s : State) (chain : List Slot) (r : Result (List Fragment) SizeFault) → Within Halts 0 (after_chain w s chain r)
chain_halts w s chain (Err fault) = answer_halts w _ _ _ _ _
chain_halts w s chain (Ok fs) = fragments_halt w s chain fs []

pub slots_halt : (w : Wiring) (s : State) (left : ℕ) (chain : List Slot) → Within Halts 0 (bind (read_slots w s.tx_index left chain) (after_scan w s))
slots_halt w s zero chain = tt
slots_halt w s (suc left) chain = tt

judged_halts : (w : Wiring) (s : State) (left : ℕ) (chain : List Slot) (o : Option (Result ChainState ChainFault)) → Within Halts 0 (bind (judged chain o (read_slots w s.tx_index left chain)) (after_scan w s))
judged_halts w s left chain (Some (Ok wanted.Complete)) = chain_halts w s chain (offered_fragments w.offers chain)
judged_halts w s left chain (Some (Ok wanted.Data)) = slots_halt w s left chain
judged_halts w s left chain (Some (Ok wanted.Extra)) = slots_halt w s left chain
judged_halts w s left chain (Some (Err fault)) = tt
judged_halts w s left chain None = tt

-- ---- a transmit

module _ (f : TransmitOutcome → Steps Ending) (h : (o : TransmitOutcome) → Within Halts 0 (f o)) where
  notice_within : (w : Vif) (b : Bool) (o : TransmitOutcome) → Within Halts 0 (bind (rx_notice w b o) f)
  notice_within w true o = λ a. h o
  notice_within w false o = h o

  rx_within : (w : Vif) (x : ℕ) (o : RxOffload) (packet : List ℕ) (grants : Grants) (n i : ℕ) (ts : List Target) → Within Halts 0 (bind (rx_answer w x o packet grants n i ts) f)
  rx_within w x o packet grants n i [] = λ a. tt
  rx_within w x o packet grants n i (t ∷ ts) = λ a b. rx_within w x o packet grants n (i + 1) ts

  fill_within : (w : Vif) (x : ℕ) (o : RxOffload) (packet : List ℕ) (ts : List Target) (n k : ℕ) → Within Halts 0 (bind (bind (fill_words o ts packet n k) (λ _. rx_answer w x o packet Passed (length ts) 0 ts)) f)
  fill_within w x o packet ts zero k = rx_within w x o packet Passed (length ts) 0 ts
  fill_within w x o packet ts (suc n) k = λ a. fill_within w x o packet ts n (k + 1)

  targets_within : (w : Vif) (x : ℕ) (o : RxOffload) (packet : List ℕ) (left : ℕ) (ts : List Target) → Within Halts 0 (bind (bind (read_targets w x o left ts) (after_targets w x o packet)) f)
  targets_within w x o packet zero ts = fill_within w x o packet ts (words packet - 0) 0
  targets_within w x o packet (suc left) ts = tt

  targeted_within : (w : Vif) (x : ℕ) (o : RxOffload) (packet : List ℕ) (left : ℕ) (ts : List Target) (id : ℕ) (r : Result ℕ GrantFault) →
      Within Halts 0 (bind (bind (targeted ts (read_targets w x o left) id r) (after_targets w x o packet)) f)
  targeted_within w x o packet left ts id (Ok frame) = let us : List Target = ts ++ record { id = id; frame = Some frame } ∷ [] in targets_within w x o packet left us
  targeted_within w x o packet left ts id (Err fault) = let us : List Target = ts ++ record { id = id; frame = None } ∷ [] in rx_within w x o packet RefusedGrants (length us) 0 us

  requested_within : (w : Vif) (x : ℕ) (o : RxOffload) (packet : List ℕ) (left : ℕ) (ts : List Target) (extra : Bool) (request : RxReq) →
      Within Halts 0 (bind (bind (requested w extra ts (read_targets w x o left) request) (after_targets w x o packet)) f)
  requested_within w x o packet left ts true request = let us : List Target = ts ++ record { id = request.id; frame = None } ∷ [] in targets_within w x o packet left us
  requested_within w x o packet left ts false request = by (entry_place w.table.now request.gref)
    where
      by : (at : Option Place) → Within Halts 0 (bind (bind (bind (entry_at w ReadWrite at) (targeted ts (read_targets w x o left) request.id)) (after_targets w x o packet)) f)
      by None = let us : List Target = ts ++ record { id = request.id; frame = None } ∷ [] in rx_within w x o packet RefusedGrants (length us) 0 us
      by (Some at) = tt

  found_within : (w : Vif) (x : ℕ) (o : RxOffload) (packet : List ℕ) (m : Option ℕ) → Within Halts 0 (bind (found w x o packet m) f)
  found_within w x o packet None = h outcome.Overflow
  found_within w x o packet (Some m) = by (nat_lt m (slots o packet))
    where
      by : (b : Bool) → Within Halts 0 (bind (if b then done outcome.TooFew else bind (read_targets w x o (slots o packet) []) (after_targets w x o packet)) f)
      by true = h outcome.TooFew
      by false = targets_within w x o packet (slots o packet) []

  filling_within : (w : Vif) (x : ℕ) (o : RxOffload) (g : Fill) (b : WorkAt) → Within Halts (reads_filling g) (bind (rest_filling w x o g b) f)
  filling_within w x o fill.Producer b = λ p. found_within w x o b.packet (available x p)
  filling_within w x o (fill.Slot left) b = λ a g. requested_within w x o b.packet left b.targets (takes_extra o (length b.targets)) (rx_req_of (a ∷ g ∷ []))
  filling_within w x o (fill.Grant left id at) b = λ a c. targeted_within w x o b.packet left b.targets id (checked w.owners.now w.granter w.user (entry_of a c) ReadWrite)
  filling_within w x o (fill.Words i) b = fill_within w x o b.packet b.targets (words b.packet - 1024 * i) (1024 * i)
  filling_within w x o (fill.Respond grants i) b = rx_within w x o b.packet grants (length b.targets) i (drop i b.targets)
  filling_within w x o (fill.Push grants) b = λ v. notice_within w (is_due x (add32 x (length b.targets)) v) (outcome_of grants (length b.targets))
  filling_within w x o (fill.Notice grants) b = h (outcome_of grants (length b.targets))

-- ---- what is left of a lane

-- A lane that isn't answered goes on from such a stage.
abbrev pub goes_from : Stage → Bool
goes_from (stage.Slot left) = true
goes_from (stage.Entry i at) = true
goes_from (stage.Page i f frame) = true
goes_from (stage.Fill f purpose) = true
goes_from (stage.Respond i) = true
goes_from g = false

pub rest_halts : (w : Wiring) (s : State) (g : Stage) (b : WorkAt) → goes_from g ≡ true → Within Halts (reads_in g) (rest_in w s g b)
rest_halts w s (stage.Slot left) b h = λ x y z. judged_halts w s left (b.chain ++ (x ∷ y ∷ z ∷ []) ∷ []) (standing (b.chain ++ (x ∷ y ∷ z ∷ []) ∷ []))
rest_halts w s (stage.Entry i at) b h = λ x y. frame_halts w s b.chain (drop (i + 1) b.fragments) (fragment_at b.fragments i) b.packet (checked w.vif.owners.now w.vif.granter w.vif.user (entry_of x y) ReadOnly)
rest_halts w s (stage.Page i f frame) b h = words_halt w s b.chain (drop i b.fragments) f frame (f.offset / 4) (covered f) b.packet
rest_halts w s (stage.Fill f (purpose.Back ops)) b h = filling_within (after_transmit w s b.chain b.packet ops) (λ o. after_halts w s b.chain b.packet ops o) w.vif s.rx_index Whole f b
rest_halts w s (stage.Fill f purpose.Delivery) b h = none (reads_filling f)
  where
    none : (n : ℕ) → Within Halts n never
    none zero = tt
    none (suc n) = tt
rest_halts w s (stage.Respond i) b h = answer_halts w _ _ _ _ _
rest_halts w s stage.Ready b h = cc h
rest_halts w s stage.Announce b h = cc h
rest_halts w s stage.Push b h = cc h
rest_halts w s stage.Notice b h = cc h
rest_halts w s (stage.Deliver producer) b h = cc h
rest_halts w s (stage.Wait pages) b h = cc h
rest_halts w s (stage.WaitLook pages) b h = cc h
rest_halts w s stage.Several b h = cc h

-- ---- how many reads a step makes

reads_at_few : (at : Place) (n : ℕ) (l : List ℕ) → reads_of (reads_at at (take n l)) ≤ n
reads_at_few at zero l = none at l
  where
    none : (at : Place) (l : List ℕ) → reads_of (reads_at at (take 0 l)) ≤ 0
    none at [] = omega arith
    none at (v ∷ l) = omega arith
reads_at_few at (suc n) [] = omega arith
reads_at_few at (suc n) (v ∷ l) = let e = reads_at_few (frame_place at) n l in omega (arith, e)

pub read_few : {A : Type 0} (a : Ask) (n : ℕ) (s : Steps A) (lent : List ℕ) → WaitsFor a n s → reads_of (read_by a lent) ≤ n
read_few (ask.Read at count) n s lent h = let e = reads_at_few at count lent in omega (arith, e, h.0)
read_few (ask.Entry at reference rights) n s lent h = let e = reads_at_few at 2 lent in omega (arith, e, h.0)
read_few (ask.Push at word read) n s lent h = let e = reads_at_few (page_word at.frame read) 1 lent in omega (arith, e, h.0)
read_few (ask.Write at count) n s lent h = omega arith
read_few (ask.Store at word) n s lent h = omega arith
read_few (ask.StoreTwo at x y) n s lent h = omega arith
read_few (ask.Notify port) n s lent h = omega arith
read_few (ask.TurnOver k) n s lent h = absurd h
read_few (ask.DeliveryOver what) n s lent h = absurd h
read_few (ask.WaitOver what) n s lent h = absurd h

pub labels_no_read : (ls : List (Option Operation)) → reads_of (map event_of ls) ≡ 0
labels_no_read [] = refl
labels_no_read (None ∷ ls) = labels_no_read ls
labels_no_read (Some (operation.Load m k j v) ∷ ls) = labels_no_read ls
labels_no_read (Some (operation.Add m k j delta old) ∷ ls) = labels_no_read ls

writes_no_read : (at : Place) (l : List ℕ) → reads_of (writes_at at l) ≡ 0
writes_no_read at [] = refl
writes_no_read at (v ∷ l) = writes_no_read (frame_place at) l

pub did_no_read : (a : Ask) (lent : List ℕ) → reads_of (did_by a lent) ≡ 0
did_no_read (ask.Write at count) lent = writes_no_read at (take count lent)
did_no_read (ask.Read at count) lent = refl
did_no_read (ask.Entry at reference rights) lent = refl
did_no_read (ask.Push at word read) lent = refl
did_no_read (ask.Store at word) lent = refl
did_no_read (ask.StoreTwo at x y) lent = refl
did_no_read (ask.Notify port) lent = refl
did_no_read (ask.TurnOver k) lent = refl
did_no_read (ask.DeliveryOver what) lent = refl
did_no_read (ask.WaitOver what) lent = refl

pub all_no_read : (first : List Ask) (lent : List ℕ) → reads_of (did_all first lent) ≡ 0
all_no_read [] lent = refl
all_no_read (a ∷ more) lent =
    let e = reads_append (did_by a lent) (did_all more lent) in let f = did_no_read a lent in let g = all_no_read more lent in omega (arith, e, f, g)

-- what a run has left behind events that lead somewhere
pub runs_rest : {A : Type 0} (s m : Steps A) (t u : List Event) (r : A) → LedBy s t m → Runs s (t ++ u) r → Runs m u r
runs_rest s m [] u r g h = subst (λ q. Runs q u r) g h
runs_rest s m (e ∷ t) u r g h = runs_rest g.0 m t u r g.2 (runs_alone s g.0 e g.1 (t ++ u) r h)

halt_of : (k : Kind) (packet : List ℕ) → IsHalted (turned k packet) → IsHalt k
halt_of kind.Idle packet h = absurd h
halt_of (kind.Ran ops number slots) packet h = absurd h
halt_of (kind.Refused cause ops slots) packet h = absurd h
halt_of (kind.Halted cause) packet h = (cause, refl)

-- What is over after so few reads has halted.
pub halts_from : (w : Wiring) (n : ℕ) (from : Steps Ending) (new : EngineAt) (s : State) (t events : List Event) (k : Kind) → new.wires ≡ w → Within Halts n from → LedBy (whole_turn w s) t from → reads_of events ≤ n →
    TurnGoesAt new (TurnOver k) s (t ++ events) → IsHalt k
halts_from w n from new s t events k same halting gone few over =
    let r : Ending = (new.state, turned k (packet_at new)) in
    let run : Runs (whole_turn w s) (t ++ events) r = subst (λ q. Runs (whole_turn q s) (t ++ events) r) same (runs_turn new.wires s (t ++ events) new.state (turned k (packet_at new)) over.0) in
    halt_of k (packet_at new) (within_runs Halts (λ (r : Ending). IsHalted r.1) (λ j x h. h) n from events r halting (runs_rest (whole_turn w s) from t events r gone run) few)

-- A lane that is over after a step has halted.
pub over_halts : (e new : EngineAt) (s : State) (t events : List Event) (asked : Ask) (k : Kind) → goes_from e.stage ≡ true → new.wires ≡ e.wires → reads_of events ≤ reads_in e.stage →
    IsTurningAt e s t asked → TurnGoesAt new (TurnOver k) s (t ++ events) → IsHalt k
over_halts e new s t events asked k goes same few token over =
    halts_from e.wires (reads_in e.stage) (rest_of e) new s t events k same (rest_halts e.wires e.state e.stage e.work goes) token.gone few over
