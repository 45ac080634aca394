-- A host that makes the accesses of each op goes on.
use Rattle.xen_host.specs.Queues.{seen, wired_to}
use Rattle.std.proofs.Common.{◌≡◌, ℕ, zero, suc, ◌≤◌, List, [], ◌∷◌, ◌++◌, Option, Some, sym, ap, ◌∙◌, subst, length, map, arith, append-nil, append_assoc}
use Rattle.xdp_program.specs.Ran.{IsHistory}
use Rattle.xen_page.specs.Access.{Performs}
use Rattle.xen_page.specs.declared.access.Access.{Access}
use Rattle.xen_page.proofs.AccessLemmas.{performs_then}
use Rattle.xen_steps.specs.Drive.{accesses}
use Rattle.xen_steps.specs.Event.{Event}
use Rattle.xen_steps.proofs.DriveLemmas.{accesses-append}
use Rattle.xen_turns.specs.Drive.{labels}
use Rattle.xen_turns.specs.declared.state.State.{State}
use Rattle.xen_host.specs.Asks.{AllSized, Ask, IsSized, did_all, did_by, read_by}
use Rattle.xen_host.specs.declared.wires.OwnedWiring.{OwnedWiring}
use Rattle.xen_host.specs.Driving.{GoesOn, Task}
use Rattle.xen_host.specs.Going.{KeepsAll}
use Rattle.xen_host.proofs.TaskLemmas.{keeps_then}
use Rattle.xen_host.proofs.TraceLemmas.{did_none, effects, effects_append, read_by_none}
use Rattle.xen_drive.specs.Hosts.{Held, Steps, StepsBy}
use Rattle.xen_drive.proofs.TaskLemmas.{moved}
use Rattle.xen_drive.proofs.TraceLemmas.{all_none, history_append, history_none, labels_none, some_effect}

-- What was done since a task began, of which at least n accesses and notices: the bus went through the accesses, and the counters through the operations. What was asked last isn't done yet.
pub record Carried {S : Type 0} (log : S → Option (List Access)) (gives : S → Access → S → Type 0) (k : Task) (s : State) (w : OwnedWiring) (bus : S) (before : List ℕ) (n : ℕ) (h : Held S) : Type 0 where
  pub trace : List Event
  pub performed : Performs log gives bus (accesses trace) h.bus
  pub counted : IsHistory w.program.shapes (map Some (labels trace)) before h.counters
  pub keeps : KeepsAll k before h.counters
  pub goes : GoesOn k (seen h.queue) h.last s (trace ++ (did_all h.first h.lent ++ did_by h.last h.lent))
  pub sized : IsSized h.last
  pub page : 1024 ≤ length h.lent
  pub wires : wired_to h.queue ≡ w
  pub some : n ≤ effects trace

pub last_sized : (first : List Ask) (last : Ask) → AllSized (first ++ last ∷ []) → IsSized last
last_sized [] last h = h.0
last_sized (a ∷ first) last h = last_sized first last h.1

-- what is done at a step joins what was done before
joined : (t x r p : List Event) → (t ++ x) ++ (r ++ p) ≡ t ++ ((x ++ r) ++ p)
joined t x r p = append_assoc t x (r ++ p) ∙ ap (λ l. t ++ l) (sym (append_assoc x r p))

touched : (t x r p : List Event) → accesses p ≡ [] → accesses ((t ++ x) ++ (r ++ p)) ≡ accesses t ++ accesses (x ++ r)
touched t x r p e =
    ap accesses (joined t x r p) ∙ accesses-append t ((x ++ r) ++ p) ∙ ap (λ l. accesses t ++ l) (accesses-append (x ++ r) p ∙ ap (λ l. accesses (x ++ r) ++ l) e ∙ append-nil (accesses (x ++ r)))

grown : (t x r p : List Event) (n : ℕ) → n ≤ effects t → 1 ≤ effects (x ++ r) → suc n ≤ effects ((t ++ x) ++ (r ++ p))
grown t x r p n h k =
    let a = ap effects (joined t x r p) in
    let b = effects_append t ((x ++ r) ++ p) in
    let c = effects_append (x ++ r) p in
    omega (arith, a, b, c, h, k)

after_first : (first : List Ask) (last : Ask) (lent read : List ℕ) → 1 ≤ effects (did_by last lent ++ read_by last read) → 1 ≤ effects ((did_all first lent ++ did_by last lent) ++ read_by last read)
after_first first last lent read h =
    let a = ap effects (append_assoc (did_all first lent) (did_by last lent) (read_by last read)) in
    let b = effects_append (did_all first lent) (did_by last lent ++ read_by last read) in
    omega (arith, a, b, h)

module _ {S : Type 0} (log : S → Option (List Access)) (gives : S → Access → S → Type 0) where
  module _ (k : Task) (s : State) (w : OwnedWiring) (bus : S) (before : List ℕ) where
    pub carried_on : (n : ℕ) (h h' : Held S) → Carried log gives k s w bus before n h → Steps log gives h h' → Carried log gives k s w bus before (suc n) h'
    carried_on n h h' c d =
        let x = did_all h.first h.lent ++ did_by h.last h.lent in
        let r = read_by h.last d.read in
        let m = moved k s h.queue h'.queue d.read h'.lent h.counters h'.counters d.ops d.ops_after d.count d.stepped (c.trace ++ x) h.last d.goes_on c.goes in
        let y = did_all d.stepped.first h'.lent ++ did_by d.stepped.last h'.lent in
        let shapes = w.program.shapes in
        let ran : IsHistory shapes (map Some (labels m.ran)) h.counters h'.counters = subst (λ (v : OwnedWiring). IsHistory v.program.shapes (map Some (labels m.ran)) h.counters h'.counters) c.wires m.history in
        let quiet = labels_none (did_all h.first h.lent) (did_by h.last h.lent) (all_none h.first h.lent) (did_none h.last h.lent) in
        let through = history_append shapes (c.trace ++ x) (r ++ m.ran) before h.counters h'.counters
        (history_append shapes c.trace x before h.counters h.counters c.counted (history_none shapes x h.counters quiet))
        (history_append shapes r m.ran h.counters h.counters h'.counters (history_none shapes r h.counters (read_by_none h.last d.read)) ran) in
        let here : (c.trace ++ x) ++ (r ++ (m.ran ++ y)) ≡ ((c.trace ++ x) ++ (r ++ m.ran)) ++ y =
        ap (λ l. (c.trace ++ x) ++ l) (sym (append_assoc r m.ran y)) ∙ sym (append_assoc (c.trace ++ x) (r ++ m.ran) y) in
        let at : GoesOn k (seen h'.queue) d.stepped.last s (((c.trace ++ x) ++ (r ++ m.ran)) ++ y) = subst (λ t. GoesOn k (seen h'.queue) d.stepped.last s t) here m.goes in
        record {
          trace = (c.trace ++ x) ++ (r ++ m.ran);
          performed = subst (λ l. Performs log gives bus l h'.bus) (sym (touched c.trace x r m.ran m.silent)) (performs_then log gives bus h.bus h'.bus (accesses c.trace) (accesses (x ++ r)) c.performed d.performed);
          counted = through;
          keeps = keeps_then k before h.counters h'.counters c.keeps m.keeps;
          goes = subst (λ (f : List Ask). GoesOn k (seen h'.queue) h'.last s (((c.trace ++ x) ++ (r ++ m.ran)) ++ (did_all f h'.lent ++ did_by h'.last h'.lent))) (sym d.first)
              (subst (λ (a : Ask). GoesOn k (seen h'.queue) a s (((c.trace ++ x) ++ (r ++ m.ran)) ++ (did_all d.stepped.first h'.lent ++ did_by a h'.lent))) (sym d.last) at);
          sized = subst (λ (a : Ask). IsSized a) (sym d.last) (last_sized d.stepped.first d.stepped.last d.stepped.said.sized);
          page = omega (arith, d.page, d.lends);
          wires = d.stepped.wires ∙ c.wires;
          some = grown c.trace x r m.ran n c.some (after_first h.first h.last h.lent d.read (some_effect h.last h.lent d.read d.goes_on c.sized c.page d.page));
        }

    pub carried_by : (n : ℕ) (h h' : Held S) → Carried log gives k s w bus before 0 h → StepsBy log gives n h h' → Carried log gives k s w bus before n h'
    carried_by zero h h' c d = subst (λ (x : Held S). Carried log gives k s w bus before 0 x) d c
    carried_by (suc n) h h' c d = carried_on n d.0 h' (carried_by n h d.0 c d.1) d.2
