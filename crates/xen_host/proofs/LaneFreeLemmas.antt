-- A turn that goes on before its program's run goes on so at each rx index.
use Rattle.std.proofs.Common.{◌≡◌, ℕ, ◌<◌, true, List, [], ◌∷◌, ◌++◌, take, drop, map, refl, sym, ap, ◌∙◌, subst, append-nil, append_assoc, arith}
use Rattle.std.specs.Prelude.{Option, Some}
use Rattle.bpf_note.specs.declared.op.Op.{Op as Operation}
use Rattle.xen_page.specs.declared.place.Place.{Place}
use Rattle.xen_steps.specs.Drive.{LedBy}
use Rattle.xen_steps.specs.Event.{Event}
use Rattle.xen_steps.specs.Places.{page_word}
use Rattle.xen_steps.specs.Steps.{Steps, ask, done, never}
use Rattle.xen_steps.proofs.DriveLemmas.{gone_append, gone_more}
use Rattle.xen_turns.specs.Program.{event_of}
use Rattle.xen_turns.specs.Tree.{after_look, whole_turn}
use Rattle.xen_turns.specs.Turned.{Ending}
use Rattle.xen_turns.specs.declared.state.State.{State}
use Rattle.xen_turns.specs.declared.wiring.Wiring.{Wiring}
use Rattle.xen_host.specs.Asks.{Ask, read_by}
use Rattle.xen_host.specs.Asks as asks
use Rattle.xen_host.specs.Early.{at_rx, engine_at_rx, is_early}
use Rattle.xen_host.specs.EngineAt.{EngineAt, WorkAt}
use Rattle.xen_host.specs.Fed.{AsksReads, WaitsFor, fed}
use Rattle.xen_host.specs.Fits.{Fits}
use Rattle.xen_host.specs.LaneSteps.{LaneBegins, LaneGoes, did_own, slot_reads}
use Rattle.xen_host.specs.Rest.{due_in, is_turning, reads_in, rest_in}
use Rattle.xen_host.specs.UnderWay.{IsTurningAt}
use Rattle.xen_host.specs.declared.op.HostOp.{HostOp}
use Rattle.xen_host.specs.declared.stage.Stage.{Stage}
use Rattle.xen_host.specs.declared.stage.Stage.TheVariants as stage
use Rattle.xen_host.proofs.EndLemmas.{reads_of_turn}
use Rattle.xen_host.proofs.GoingLemmas.{due_of}
use Rattle.xen_host.proofs.HostLemmas.{read_same}
use Rattle.xen_host.proofs.LaneBeginLemmas.{slots_of}
use Rattle.xen_host.proofs.LanesStepLemmas.{gone_rest, turning_of}
use Rattle.xen_host.proofs.StepLemmas.{waits_led}

-- ---- no events lead from a computation to itself

nonempty : {A : Type 0} (s : Steps A) (t : List Event) (e : Event) → ((x : Event) (u : List Event) → LedBy s (x ∷ u) s → ⊥) → LedBy s (t ++ e ∷ []) s → ⊥
nonempty s [] e f h = f e [] h
nonempty s (x ∷ t) e f h = f x (t ++ e ∷ []) h

led_round : {A : Type 0} (s : Steps A) (e : Event) (t : List Event) → LedBy s (e ∷ t) s → ⊥
led_round (done x) e t g = absurd g.1.1
led_round never e t g = absurd g.1.1
led_round (ask w k) e t g =
    nonempty (k g.1.0) t e (λ x u h. led_round (k g.1.0) x u h) (subst (λ m. LedBy m (t ++ e ∷ []) m) g.1.2 (gone_more g.0 (ask w k) g.0 t e g.2 g.1))

pub round_none : {A : Type 0} (s : Steps A) (t : List Event) → LedBy s t s → t ≡ []
round_none s [] g = refl
round_none s (e ∷ t) g = absurd (led_round s e t g)

-- ---- what is waited for

-- What waits for words of one place waits for them whatever comes then.
waits_other : {A : Type 0} (a : Ask) (due : Place) (n : ℕ) (s other : Steps A) → 0 < n → WaitsFor a n s → AsksReads due n s → AsksReads due n other → WaitsFor a n other
waits_other {A} (asks.Read at count) due n s other some w r o =
    let d = due_of (asks.Read at count) due n s w r in (w.0, subst (λ (k : ℕ). AsksReads at k other) w.0 (subst (λ (p : Place). AsksReads p n other) (d.1 some) o))
waits_other {A} (asks.Entry at reference rights) due n s other some w r o =
    let d = due_of (asks.Entry at reference rights) due n s w r in (w.0, subst (λ (k : ℕ). AsksReads at k other) w.0 (subst (λ (p : Place). AsksReads p n other) (d.1 some) o))
waits_other {A} (asks.Push at word read) due n s other some w r o =
    let d = due_of (asks.Push at word read) due n s w r in (w.0, subst (λ (k : ℕ). AsksReads (page_word at.frame read) k other) w.0 (subst (λ (p : Place). AsksReads p n other) (d.1 some) o))
waits_other {A} (asks.Write at count) due n s other some w r o = w
waits_other {A} (asks.Store at word) due n s other some w r o = w
waits_other {A} (asks.StoreTwo at x y) due n s other some w r o = w
waits_other {A} (asks.Notify port) due n s other some w r o = w
waits_other {A} (asks.TurnOver k) due n s other some w r o = absurd w
waits_other {A} (asks.DeliveryOver what) due n s other some w r o = absurd w
waits_other {A} (asks.WaitOver what) due n s other some w r o = absurd w

-- What an early stage waits for lies in one place at each rx index.
early_due : (w : Wiring) (s : State) (x : ℕ) (g : Stage) (b : WorkAt) → is_early g ≡ true → due_in w (at_rx x s) g b ≡ due_in w s g b
early_due w s x (stage.Slot left) b h = refl
early_due w s x (stage.Entry i at) b h = refl
early_due w s x (stage.Page i f frame) b h = refl
early_due w s x stage.Ready b h = cc h
early_due w s x stage.Announce b h = cc h
early_due w s x (stage.Fill f p) b h = cc h
early_due w s x (stage.Respond i) b h = cc h
early_due w s x stage.Push b h = cc h
early_due w s x stage.Notice b h = cc h
early_due w s x (stage.Deliver producer) b h = cc h
early_due w s x (stage.Wait pages) b h = cc h
early_due w s x (stage.WaitLook pages) b h = cc h
early_due w s x stage.Several b h = cc h

pub early_turning : (g : Stage) → is_early g ≡ true → is_turning g ≡ true
early_turning (stage.Slot left) h = refl
early_turning (stage.Entry i at) h = refl
early_turning (stage.Page i f frame) h = refl
early_turning stage.Ready h = cc h
early_turning stage.Announce h = cc h
early_turning (stage.Fill f p) h = cc h
early_turning (stage.Respond i) h = cc h
early_turning stage.Push h = cc h
early_turning stage.Notice h = cc h
early_turning (stage.Deliver producer) h = cc h
early_turning (stage.Wait pages) h = cc h
early_turning (stage.WaitLook pages) h = cc h
early_turning stage.Several h = cc h

early_some : (g : Stage) (b : WorkAt) → is_early g ≡ true → Fits g b → 0 < reads_in g
early_some (stage.Slot left) b h fits = omega arith
early_some (stage.Entry i at) b h fits = omega arith
early_some (stage.Page i f frame) b h fits = fits.some
early_some stage.Ready b h fits = cc h
early_some stage.Announce b h fits = cc h
early_some (stage.Fill f p) b h fits = cc h
early_some (stage.Respond i) b h fits = cc h
early_some stage.Push b h fits = cc h
early_some stage.Notice b h fits = cc h
early_some (stage.Deliver producer) b h fits = cc h
early_some (stage.Wait pages) b h fits = cc h
early_some (stage.WaitLook pages) b h fits = cc h
early_some stage.Several b h fits = cc h

-- The same ask is waited for at another rx index.
pub early_waits : (w : Wiring) (s : State) (x : ℕ) (g : Stage) (b : WorkAt) (a : Ask) → is_early g ≡ true → Fits g b → WaitsFor a (reads_in g) (rest_in w s g b) → WaitsFor a (reads_in g) (rest_in w (at_rx x s) g b)
early_waits w s x g b a early fits waits =
    let here = early_turning g early in
    waits_other a (due_in w s g b) (reads_in g) (rest_in w s g b) (rest_in w (at_rx x s) g b) (early_some g b early fits) waits (reads_of_turn w s g b here)
    (subst (λ (p : Place). AsksReads p (reads_in g) (rest_in w (at_rx x s) g b)) (early_due w s x g b early) (reads_of_turn w (at_rx x s) g b here))

-- ---- a step

module _ (went : List (Option Operation) → Type 0) (own limit : ℕ) (old new : EngineAt) (ops ops_after : List HostOp) (count count_after : ℕ) (lent lent_after : List ℕ)
    (d : LaneGoes went own limit old new ops ops_after count count_after lent lent_after) (fits : Fits new.stage new.work)
    (was : is_early old.stage ≡ true) (is : is_early new.stage ≡ true) (asked : Ask) (s : State) (trace : List Event) (token : IsTurningAt old s trace asked) where
  abbrev words : List ℕ
  words = take (reads_in old.stage) (drop own lent)

  abbrev read : List Event
  read = read_by asked (drop own lent)

  abbrev made : List Event
  made = map event_of d.labels ++ did_own own d.first d.last lent_after

  abbrev left : State → Steps Ending
  left t = fed (rest_in old.wires t old.stage old.work) words

  on : IsTurningAt new s (trace ++ (read ++ made)) d.last
  on = turning_of new d.last s (trace ++ (read ++ made)) (d.turn s trace asked token) (early_turning new.stage is)

  -- With the words that were read, a turn at this rx index comes to what is left.
  read_led : (t : State) (u : List Event) (b : State) → LedBy (whole_turn old.wires b) u (rest_in old.wires t old.stage old.work) → WaitsFor asked (reads_in old.stage) (rest_in old.wires t old.stage old.work) →
      LedBy (whole_turn old.wires b) (u ++ read) (left t)
  read_led t u b gone waits =
      let rest = rest_in old.wires t old.stage old.work in
      let same = read_same asked (reads_in old.stage) rest (drop own lent) waits in
      gone_append (whole_turn old.wires b) rest (left t) u read gone (subst (λ (r : List Event). LedBy rest r (left t)) same (waits_led asked (reads_in old.stage) rest words d.below d.all waits))

  -- Behind them it made nothing.
  made_none : made ≡ []
  made_none =
      let first = read_led old.state trace s token.gone token.waits in
      let whole = subst (λ (w : Wiring). LedBy (whole_turn w s) (trace ++ (read ++ made)) (rest_in new.wires new.state new.stage new.work)) d.wires on.gone in
      let split = subst (λ (u : List Event). LedBy (whole_turn old.wires s) u (rest_in new.wires new.state new.stage new.work)) (sym (append_assoc trace read made)) whole in
      let here : rest_in new.wires new.state new.stage new.work ≡ left old.state = ap (λ (t : State). rest_in new.wires t new.stage new.work) (d.early was is).state ∙ (d.early was is).left old.state.rx_index in
      round_none (left old.state) made (subst (λ (z : Steps Ending). LedBy (left old.state) made z) here (gone_rest (whole_turn old.wires s) (left old.state) (rest_in new.wires new.state new.stage new.work) (trace ++ read) made first split))

  pub goes_free : (x : ℕ) (b : State) (u : List Event) → IsTurningAt (engine_at_rx x old) (at_rx x b) u asked →
      IsTurningAt (engine_at_rx x new) (at_rx x b) (u ++ (read_by asked (drop own lent) ++ (map event_of d.labels ++ did_own own d.first d.last lent_after))) d.last
  goes_free x b u t =
      let e = d.early was is in
      let there : left (at_rx x old.state) ≡ rest_in new.wires (at_rx x new.state) new.stage new.work = sym (e.left x) ∙ ap (λ (z : State). rest_in new.wires (at_rx x z) new.stage new.work) (sym e.state) in
      let led = subst (λ (z : Steps Ending). LedBy (whole_turn old.wires (at_rx x b)) (u ++ read) z) there (read_led (at_rx x old.state) u (at_rx x b) t.gone t.waits) in
      let none : read ++ [] ≡ read ++ made = ap (λ (m : List Event). read ++ m) (sym made_none) in
      let trace_is : u ++ read ≡ u ++ (read ++ made) = ap (λ (m : List Event). u ++ m) (sym (append-nil read) ∙ none) in
      record {
        gone = subst (λ (w : Wiring). LedBy (whole_turn w (at_rx x b)) (u ++ (read ++ made)) (rest_in new.wires (at_rx x new.state) new.stage new.work)) (sym d.wires)
            (subst (λ (m : List Event). LedBy (whole_turn old.wires (at_rx x b)) m (rest_in new.wires (at_rx x new.state) new.stage new.work)) trace_is led);
        waits = early_waits new.wires new.state x new.stage new.work d.last is fits on.waits;
        is_here = early_turning new.stage is;
      }

-- ---- its beginning

module _ (went : List (Option Operation) → Type 0) (s : State) (shown i ahead taken own limit : ℕ) (new : EngineAt) (ops ops_after : List HostOp) (count count_after : ℕ) (lent lent_after : List ℕ)
    (d : LaneBegins went s shown i ahead taken own limit new ops ops_after count count_after lent lent_after) (fits : Fits new.stage new.work) (is : is_early new.stage ≡ true) (some : 0 < shown)
    (look : List Event) (looked : LedBy (whole_turn new.wires s) look (after_look new.wires s (Some shown))) where
  abbrev slots : List Event
  slots = slot_reads new.wires s.tx_index lent i d.slots

  abbrev done_so : List Event
  done_so = map event_of d.labels ++ did_own own d.first d.last lent_after

  begun : IsTurningAt new s (look ++ (slots ++ done_so)) d.last
  begun = turning_of new d.last s (look ++ (slots ++ done_so)) (d.turn look looked) (early_turning new.stage is)

  scan_led : (x : ℕ) → LedBy (whole_turn new.wires (at_rx x s)) look (after_look new.wires (at_rx x s) (Some shown)) → LedBy (whole_turn new.wires (at_rx x s)) (look ++ slots) (rest_in new.wires (at_rx x s) new.stage new.work)
  scan_led x led =
      let b = at_rx x s in
      gone_append (whole_turn new.wires b) (after_look new.wires b (Some shown)) (rest_in new.wires b new.stage new.work) look slots led
      (subst (λ (z : Steps Ending). LedBy z slots (rest_in new.wires b new.stage new.work)) (sym (slots_of new.wires b shown some)) (d.early is x))

  done_none : done_so ≡ []
  done_none =
      let rest = rest_in new.wires s new.stage new.work in
      let first = scan_led s.rx_index looked in
      let same = ap (λ (t : State). rest_in new.wires t new.stage new.work) (d.state is) in
      let split = subst (λ (u : List Event). LedBy (whole_turn new.wires s) u (rest_in new.wires new.state new.stage new.work)) (sym (append_assoc look slots done_so)) begun.gone in
      round_none rest done_so (subst (λ (z : Steps Ending). LedBy rest done_so z) same (gone_rest (whole_turn new.wires s) rest (rest_in new.wires new.state new.stage new.work) (look ++ slots) done_so first split))

  pub begins_free : (x : ℕ) → LedBy (whole_turn new.wires (at_rx x s)) look (after_look new.wires (at_rx x s) (Some shown)) →
      IsTurningAt (engine_at_rx x new) (at_rx x s) (look ++ (slot_reads new.wires s.tx_index lent i d.slots ++ (map event_of d.labels ++ did_own own d.first d.last lent_after))) d.last
  begins_free x led =
      let none : slots ++ [] ≡ slots ++ done_so = ap (λ (m : List Event). slots ++ m) (sym done_none) in
      let trace_is : look ++ slots ≡ look ++ (slots ++ done_so) = ap (λ (m : List Event). look ++ m) (sym (append-nil slots) ∙ none) in
      let there : rest_in new.wires (at_rx x s) new.stage new.work ≡ rest_in new.wires (at_rx x new.state) new.stage new.work = ap (λ (t : State). rest_in new.wires (at_rx x t) new.stage new.work) (sym (d.state is)) in
      record {
        gone = subst (λ (z : Steps Ending). LedBy (whole_turn new.wires (at_rx x s)) (look ++ (slots ++ done_so)) z) there
            (subst (λ (m : List Event). LedBy (whole_turn new.wires (at_rx x s)) m (rest_in new.wires (at_rx x s) new.stage new.work)) trace_is (scan_led x led));
        waits = early_waits new.wires new.state x new.stage new.work d.last is fits begun.waits;
        is_here = early_turning new.stage is;
      }
