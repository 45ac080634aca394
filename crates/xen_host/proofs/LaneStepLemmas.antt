-- A step of one of several turns.
use Rattle.std.proofs.Common.{◌≡◌, ℕ, ◌≤◌, Bool, true, false, List, [], ◌∷◌, ◌++◌, length, take, map, refl, sym, ap, ◌∙◌, subst}
use Rattle.std.specs.Prelude.{Option, if◌then◌else◌}
use Rattle.bpf_note.specs.declared.op.Op.{Op as Operation}
use Rattle.xen_page.specs.declared.place.Place.{Place}
use Rattle.xen_steps.specs.Event.{Event}
use Rattle.xen_steps.specs.Pages.{AreWords}
use Rattle.xen_turns.specs.Program.{event_of}
use Rattle.xen_turns.specs.declared.state.State.{State}
use Rattle.xen_host.specs.Asks.{read_by}
use Rattle.xen_host.specs.Early.{StaysEarly}
use Rattle.xen_host.specs.EarlySteps.{StepKeeps}
use Rattle.xen_host.specs.EngineAt.{EngineAt, WorkAt}
use Rattle.xen_host.specs.Fed.{fed}
use Rattle.xen_host.specs.Fits.{Fits}
use Rattle.xen_host.specs.HostLed.{GoesOnAt}
use Rattle.xen_host.specs.Hosts.{Asked, WasAskedAll, WasGiven, asks_of, events_of}
use Rattle.xen_host.specs.LaneHosts.{HasLaneGiven, IsLaneFull, IsLanePut}
use Rattle.xen_host.specs.LaneSteps.{LaneGoes, LaneSteps, did_own, goes_at, goes_on, index_behind, indexed, indexed_at, is_going, may_run, sends_at}
use Rattle.xen_host.specs.LentWords.{lent_words}
use Rattle.xen_host.specs.Rest.{due_in, is_stepping, offload_after, reads_in, rest_in}
use Rattle.xen_host.specs.Stands.{Stands}
use Rattle.xen_host.specs.StepsAt.{StepsAt}
use Rattle.xen_host.specs.UnderWay.{TurnGoesAt}
use Rattle.xen_host.specs.declared.lane_host.LaneHost.{LaneHost}
use Rattle.xen_host.specs.declared.op.HostOp.{HostOp}
use Rattle.xen_host.specs.declared.stage.Stage.{Stage}
use Rattle.xen_host.specs.declared.stage.Stage.TheVariants as stage
use Rattle.xen_host.proofs.EngineLemmas.{step_stands, stepped_at}
use Rattle.xen_host.proofs.HostLemmas.{offload_same, read_same}
use Rattle.xen_host.proofs.LaneIndexLemmas.{stands_indexed}
use Rattle.xen_host.proofs.LaneHostLemmas.{LaneWithin, lane_asks, lane_did, lane_given, lane_within, own_words}
use Rattle.xen_host.proofs.StageLemmas.{Under, delivery, given_length, given_words, nothing, turn, under, wait}

-- ---- what a step keeps, whatever holds of its engine

pub record LaneLed (new : EngineAt) (went : List (Option Operation) → Type 0) (host host_after : LaneHost) : Type 0 where
  pub fits : Fits new.stage new.work
  pub labels : List (Option Operation)
  pub history : went labels
  pub within : LaneWithin host host_after

within_none : (h : LaneHost) → h.count ≤ h.limit → LaneWithin h h
within_none h le = lane_within [] h h le refl

answered_within : (at : Place) (n : ℕ) (host mid host_after : LaneHost) (words : List ℕ) (all : List Asked) → host.count ≤ host.limit → WasGiven HasLaneGiven at n host words mid → WasAskedAll IsLanePut mid all host_after →
    LaneWithin host host_after
answered_within at n host mid host_after words all le given asked =
    let is = lane_given at n host mid words given in
    lane_within all host host_after le (subst (λ (h : LaneHost). WasAskedAll IsLanePut h all host_after) is.1 asked)

pub lane_led : (old new : EngineAt) (went : List (Option Operation) → Type 0) (host host_after : LaneHost) → host.count ≤ host.limit → Fits old.stage old.work →
    GoesOnAt IsLanePut IsLaneFull HasLaneGiven old.stage old new went host host_after → LaneLed new went host host_after
lane_led old new went host host_after le fits led = by (under old.stage old new went led)
  where
    by : Under IsLanePut IsLaneFull HasLaneGiven old.stage old new went host host_after → LaneLed new went host host_after
    by (nothing e h) = record {
      fits = subst (λ (x : EngineAt). Fits x.stage x.work) (sym h.0) fits;
      labels = [];
      history = h.2;
      within = subst (λ (x : LaneHost). LaneWithin host x) (sym h.1) (within_none host le);
    }
    by (turn t) =
        let a = t.led in
        let l = a.led.led in
        record { fits = l.fits; labels = a.led.ran.labels; history = a.led.ran.history; within = answered_within (due_in old.wires old.state old.stage old.work) (reads_in old.stage) host a.mid host_after a.words (l.first ++ l.last ∷ []) le a.given l.asked }
    by (delivery t) =
        let a = t.led in
        let l = a.led in
        record { fits = l.fits; labels = []; history = t.counters; within = answered_within (due_in old.wires old.state old.stage old.work) (reads_in old.stage) host a.mid host_after a.words (l.first ++ l.last ∷ []) le a.given l.asked }
    by (wait t) =
        let a = t.led in
        let l = a.led in
        record { fits = l.fits; labels = []; history = t.counters; within = answered_within (due_in old.wires old.state old.stage old.work) (reads_in old.stage) host a.mid host_after a.words (l.first ++ l.last ∷ []) le a.given l.asked }

-- ---- what it does

module _ (old new : EngineAt) (went : List (Option Operation) → Type 0) (host host_after : LaneHost) (tx : host.tx ≡ old.wires.vif.tx) (fresh : host.count ≡ host.base) (le : host.count ≤ host.limit) (room : host.limit ≤ length host.ops.now)
    (same : new.wires ≡ old.wires) (d : StepsAt IsLanePut IsLaneFull HasLaneGiven went (Unit {0}) old new host host_after) (keeps : StepKeeps HasLaneGiven old.stage old new host) where
  answered : (d.words ≡ take (reads_in old.stage) (own_words host)) × (d.mid ≡ host)
  answered = lane_given (due_in old.wires old.state old.stage old.work) (reads_in old.stage) host d.mid d.words d.given

  put : WasAskedAll IsLanePut host (d.first ++ d.last ∷ []) host_after
  put = subst (λ (h : LaneHost). WasAskedAll IsLanePut h (d.first ++ d.last ∷ []) host_after) answered.1 d.asked

  goes_of : LaneGoes went host.own host.limit old new host.ops.now host_after.ops.now host.count host_after.count (lent_words host.words.now) (lent_words host_after.words.now)
  goes_of =
      let lent = own_words host in
      let all = d.first ++ d.last ∷ [] in
      let did = lane_did old.wires new.stage d.first d.last host host_after tx fresh le room put d.take_none d.sized in
      let done = did_own host.own (asks_of d.first) d.last.ask (lent_words host_after.words.now) in
      record {
        first = asks_of d.first;
        last = d.last.ask;
        asks = lane_asks old.wires new.stage d.first d.last host host_after tx fresh le room put d.take_none d.sized d.stops d.told d.within;
        wires = same;
        offload = d.offload ∙ ap (λ l. offload_after old.wires.offers old.stage old.work l old.offload) answered.0 ∙ offload_same old.wires.offers old.stage old.work lent old.offload;
        labels = d.labels;
        history = d.history;
        turn = λ s trace asked token.
            let read = ap (λ l. read_by asked l) answered.0 ∙ read_same asked (reads_in old.stage) _ lent token.waits in
            let ran = map event_of d.labels in
            subst (λ (t : List Event). TurnGoesAt new d.last.ask s (trace ++ t)) (ap (λ r. r ++ (ran ++ events_of all)) read ∙ ap (λ e. read_by asked lent ++ (ran ++ e)) did) (d.turn s trace asked token);
        below = subst (λ (l : List ℕ). AreWords l) answered.0 (given_words HasLaneGiven (due_in old.wires old.state old.stage old.work) (reads_in old.stage) host d.mid d.words d.given);
        all = ap (λ (l : List ℕ). length l) (sym answered.0) ∙ given_length HasLaneGiven (due_in old.wires old.state old.stage old.work) (reads_in old.stage) host d.mid d.words d.given;
        early = λ h k.
            let m = keeps.early h k in
            let is = lane_given (due_in old.wires old.state old.stage old.work) (reads_in old.stage) host m.mid m.words m.given in
            subst (λ (l : List ℕ). StaysEarly (λ s. fed (rest_in old.wires s old.stage old.work) l) old.state new) is.0 m.stays;
        on = keeps.on;
        rx = keeps.rx;
        answers = keeps.answers;
        late = keeps.late;
      }

pub lane_goes : (old new : EngineAt) (went : List (Option Operation) → Type 0) (host host_after : LaneHost) → Stands old → host.tx ≡ old.wires.vif.tx → host.count ≡ host.base → host.count ≤ host.limit → host.limit ≤ length host.ops.now →
    new.wires ≡ old.wires → is_stepping old.stage ≡ true → GoesOnAt IsLanePut IsLaneFull HasLaneGiven old.stage old new went host host_after → StepKeeps HasLaneGiven old.stage old new host →
    LaneGoes went host.own host.limit old new host.ops.now host_after.ops.now host.count host_after.count (lent_words host.words.now) (lent_words host_after.words.now)
lane_goes old new went host host_after st tx fresh le room same busy led keeps =
    goes_of old new went host host_after tx fresh le room same (stepped_at old new st went (Unit {0}) (λ e. tt) same led busy) keeps

-- ---- with its rx index

pub record Took (x : ℕ) (q new : EngineAt) (went : List (Option Operation) → Type 0) (host host_after : LaneHost) : Type 0 where
  pub fits : Fits new.stage new.work
  pub labels : List (Option Operation)
  pub history : went labels
  pub within : LaneWithin host host_after
  pub stands : Stands q → Stands new
  pub goes : Stands q → LaneGoes went host.own host.limit (indexed x q) new host.ops.now host_after.ops.now host.count host_after.count (lent_words host.words.now) (lent_words host_after.words.now)

-- A step of an engine that is the lane's, with the rx index where it begins to use slots.
pub took : (x : ℕ) (q start new : EngineAt) (went : List (Option Operation) → Type 0) (host host_after : LaneHost) → start ≡ indexed x q → Fits start.stage start.work → host.tx ≡ start.wires.vif.tx → host.count ≡ host.base → host.count ≤ host.limit →
    host.limit ≤ length host.ops.now → new.wires ≡ start.wires → is_stepping start.stage ≡ true → GoesOnAt IsLanePut IsLaneFull HasLaneGiven start.stage start new went host host_after → StepKeeps HasLaneGiven start.stage start new host →
    Took x q new went host host_after
took x q start new went host host_after is fits tx fresh le room same busy led keeps =
    let l = lane_led start new went host host_after le fits led in
    let st = λ (h : Stands q). subst (λ (e : EngineAt). Stands e) (sym is) (stands_indexed x q h) in
    record {
      fits = l.fits;
      labels = l.labels;
      history = l.history;
      within = l.within;
      stands = λ h. step_stands IsLanePut IsLaneFull HasLaneGiven host host_after start (st h) new went same led;
      goes = λ h. subst (λ (e : EngineAt). LaneGoes went host.own host.limit e new host.ops.now host_after.ops.now host.count host_after.count (lent_words host.words.now) (lent_words host_after.words.now)) is
          (lane_goes start new went host host_after (st h) tx fresh le room same busy led keeps);
    }

-- Where its program doesn't run, its rx index is of no use.
pub indexed_rest : (x : ℕ) (q : EngineAt) → may_run q.stage ≡ false → indexed x q ≡ q
indexed_rest x q h = ap (λ (s : State). record q { state = s }) (by q.stage q.state h)
  where
    by : (g : Stage) (s : State) → may_run g ≡ false → indexed_at x g s ≡ s
    by (stage.Entry i at) s h = cc h
    by (stage.Page i f frame) s h = cc h
    by stage.Ready s h = refl
    by stage.Announce s h = refl
    by (stage.Slot left) s h = refl
    by (stage.Fill f p) s h = refl
    by (stage.Respond i) s h = refl
    by stage.Push s h = refl
    by stage.Notice s h = refl
    by (stage.Deliver producer) s h = refl
    by (stage.Wait pages) s h = refl
    by (stage.WaitLook pages) s h = refl
    by stage.Several s h = refl

-- And it goes on whether it is the next or not.
pub goes_rest : (next : Bool) (g : Stage) (b : WorkAt) → may_run g ≡ false → goes_at next g b ≡ is_going g
goes_rest next (stage.Entry i at) b h = cc h
goes_rest next (stage.Page i f frame) b h = cc h
goes_rest next stage.Ready b h = refl
goes_rest next stage.Announce b h = refl
goes_rest next (stage.Slot left) b h = refl
goes_rest next (stage.Fill f p) b h = refl
goes_rest next (stage.Respond i) b h = refl
goes_rest next stage.Push b h = refl
goes_rest next stage.Notice b h = refl
goes_rest next (stage.Deliver producer) b h = refl
goes_rest next (stage.Wait pages) b h = refl
goes_rest next (stage.WaitLook pages) b h = refl
goes_rest next stage.Several b h = refl

pub going_steps : (g : Stage) → is_going g ≡ true → is_stepping g ≡ true
going_steps stage.Ready h = cc h
going_steps stage.Several h = cc h
going_steps stage.Push h = cc h
going_steps stage.Announce h = refl
going_steps (stage.Slot left) h = refl
going_steps (stage.Entry i at) h = refl
going_steps (stage.Page i f frame) h = refl
going_steps (stage.Fill f p) h = refl
going_steps (stage.Respond i) h = refl
going_steps stage.Notice h = refl
going_steps (stage.Deliver producer) h = refl
going_steps (stage.Wait pages) h = refl
going_steps (stage.WaitLook pages) h = refl

-- The index behind the slots that it has used.
pub behind_by : (x : ℕ) (g : Stage) (s : State) → index_behind x g s ≡ (if sends_at g then s.rx_index else x)
behind_by x (stage.Fill f p) s = refl
behind_by x stage.Ready s = refl
behind_by x stage.Announce s = refl
behind_by x (stage.Slot left) s = refl
behind_by x (stage.Entry i at) s = refl
behind_by x (stage.Page i f frame) s = refl
behind_by x (stage.Respond i) s = refl
behind_by x stage.Push s = refl
behind_by x stage.Notice s = refl
behind_by x (stage.Deliver producer) s = refl
behind_by x (stage.Wait pages) s = refl
behind_by x (stage.WaitLook pages) s = refl
behind_by x stage.Several s = refl

pub behind_none : (x : ℕ) (g : Stage) (s : State) → is_going g ≡ false → index_behind x g s ≡ x
behind_none x stage.Ready s h = refl
behind_none x stage.Several s h = refl
behind_none x stage.Push s h = refl
behind_none x stage.Announce s h = cc h
behind_none x (stage.Slot left) s h = cc h
behind_none x (stage.Entry i at) s h = cc h
behind_none x (stage.Page i f frame) s h = cc h
behind_none x (stage.Fill f p) s h = cc h
behind_none x (stage.Respond i) s h = cc h
behind_none x stage.Notice s h = cc h
behind_none x (stage.Deliver producer) s h = cc h
behind_none x (stage.Wait pages) s h = cc h
behind_none x (stage.WaitLook pages) s h = cc h

-- ---- it waits

-- Nothing has changed.
pub stayed : (went : List (Option Operation) → Type 0) (next : Bool) (x own limit : ℕ) (q : EngineAt) (ops : List HostOp) (count : ℕ) (lent : List ℕ) → went [] → goes_on next q ≡ false → index_behind x q.stage q.state ≡ x →
    LaneSteps went next x x own limit q q ops ops count count lent lent
stayed went next x own limit q ops count lent none waits same = record {
  waits = λ h. record { kept = refl; ops_are = refl; none = refl; words = refl; history = none };
  goes = λ h. absurd (cc (h, waits));
  index = sym same;
}

-- It went on.
pub went_on : (went : List (Option Operation) → Type 0) (next : Bool) (x after own limit : ℕ) (q new : EngineAt) (ops ops_after : List HostOp) (count count_after : ℕ) (lent lent_after : List ℕ) → goes_on next q ≡ true → after ≡ index_behind x q.stage new.state →
    LaneGoes went own limit (indexed x q) new ops ops_after count count_after lent lent_after → LaneSteps went next x after own limit q new ops ops_after count count_after lent lent_after
went_on went next x after own limit q new ops ops_after count count_after lent lent_after goes same h = record {
  waits = λ k. absurd (cc (k, goes));
  goes = λ k. h;
  index = same;
}
