-- A world in which one queue is stepped.
use Rattle.std.proofs.Common.{◌≡◌, ℕ, ◌+◌, ◌-◌, List, [], ◌∷◌, ◌++◌, Option, Some, None, length, refl, sym, ◌∙◌, ap, subst, arith, append_assoc, inl, inr, ⊎_elim}
use Rattle.std.proofs.lemmas.List.{append-nil}
use Rattle.bpf_verify.specs.Consistent.{Accepted, IsConsistent, instructions}
use Rattle.xen_page.specs.declared.place.Place.{Place}
use Rattle.xen_steps.specs.Drive.{Any, Bounded, LedBy}
use Rattle.xen_steps.specs.Event.{Event, Occurs, Read, Write, Instr, Load, Add, Notify}
use Rattle.xen_steps.specs.Steps.{Steps, want_of}
use Rattle.xen_steps.specs.declared.want.Want.{Want}
use Rattle.xen_steps.specs.declared.want.Want.TheVariants as want
use Rattle.xen_steps.proofs.DriveLemmas.{bounded_done, bounded_gone, bounded_le, bounded_next, bounded_wider}
use Rattle.xen_back.specs.Queues.{rest, state_of, wiring_of}
use Rattle.xen_turns.specs.Tree.{unless_halted, whole_turn}
use Rattle.xen_turns.specs.Turned.{Ending}
use Rattle.xen_turns.specs.Within.{IsWithin}
use Rattle.xen_back.specs.declared.queue.Queue.{Queue}
use Rattle.xen_turns.specs.declared.state.State.{State}
use Rattle.xen_turns.specs.declared.turn.Halt.{Halt}
use Rattle.xen_turns.specs.declared.wiring.Wiring.{Wiring}
use Rattle.xen_back.proofs.RestLemmas.{ready_rest}
use Rattle.xen_turns.proofs.Bounds.{bounded_turn}
use Rattle.xdp_world.specs.Core.{IsHalted, IsUnfinished, Turns, started_at}
use Rattle.xdp_world.specs.Entries.{Entry, Serves}
use Rattle.xdp_world.specs.Happens.{Comes, Moved}
use Rattle.xdp_world.specs.Replay.{AreOf, Stops, halts, reads, read_answer, read_answers}
use Rattle.xdp_world.specs.Replays.{Anything, IsEnough, IsNear, Pauses, Replays, Rests}
use Rattle.xdp_world.specs.Stands.{IsStep, SoFar}
use Rattle.xdp_world.specs.declared.kept.Kept.{Kept}
use Rattle.xdp_world.specs.declared.world.World.{World}

-- 287,383 events and one for each instruction are enough for a queue of a program of n
pub enough : (q : Queue) (n : ℕ) → IsConsistent (wiring_of q).program.now → instructions (wiring_of q).program.now.code ≡ n → (front : List Event) →
    LedBy (whole_turn (wiring_of q) (state_of q)) front (rest q) → IsEnough (287383 + n) q
enough q n ok is front gone =
    let w = wiring_of q in
    let whole : (s : State) → Bounded Anything Any (whole_turn w s) (287383 + n) = λ s.
    subst (λ (m : ℕ). Bounded Anything Any (whole_turn w s) (287383 + m)) is
    (bounded_wider (IsWithin (length w.vif.owners.now) w.program.now.shapes) Anything (λ x h. tt) Any (whole_turn w s) (287383 + instructions w.program.now.code)
    (bounded_turn w w.program.now.shapes q.wired ok.maps refl s)) in
    record {
      now = bounded_le Anything Any (rest q) (287383 + n - length front) (287383 + n)
          (bounded_gone Anything Any (whole_turn w (state_of q)) (rest q) front (287383 + n) (whole (state_of q)) gone) (omega arith);
      later = whole;
    }

comes_enough : (most : ℕ) (q q' : Queue) (m : Steps Ending) (k : Option Kept) → Bounded Anything Any m most →
    ((s : State) → Bounded Anything Any (whole_turn (wiring_of q) s) most) → wiring_of q' ≡ wiring_of q → Comes q m q' k → IsEnough most q'
comes_enough most q q' m None b l w c = record {
  now = subst (λ (x : Steps Ending). Bounded Anything Any x most) (sym c.1) b;
  later = λ s. subst (λ (x : Wiring). Bounded Anything Any (whole_turn x s) most) (sym w) (l s);
}
comes_enough most q q' m (Some k) b l w c =
    let later : (s : State) → Bounded Anything Any (whole_turn (wiring_of q') s) most = λ s. subst (λ (x : Wiring). Bounded Anything Any (whole_turn x s) most) (sym w) (l s) in
    record { now = subst (λ (x : Steps Ending). Bounded Anything Any x most) (sym (ready_rest q' c.3)) (later (state_of q')); later = later }

-- a step leaves enough
pub moved_enough : (most answer : ℕ) (q q' : Queue) (o : Option Event) → IsEnough most q → Moved answer q o q' → IsEnough most q'
moved_enough most answer q q' None h m = record {
  now = subst (λ (x : Steps Ending). Bounded Anything Any x most) (sym m.1) h.now;
  later = λ s. subst (λ (x : Wiring). Bounded Anything Any (whole_turn x s) most) (sym m.2) (h.later s);
}
moved_enough most answer q q' (Some e) h m =
    comes_enough most q q' m.0 m.1 (bounded_le Anything Any m.0 (most - 1) most (bounded_next Anything Any (rest q) m.0 e most h.now m.2) (omega arith)) h.later m.5 m.4

pauses_done : (w : Want) → w ≡ want.Done → Pauses w
pauses_done w e = subst Pauses (sym e) tt

pauses_whole : (w : Wiring) (s : State) (o : Option Halt) → Pauses (want_of (unless_halted w s o))
pauses_whole w s None = tt
pauses_whole w s (Some cause) = tt

comes_near : (n : ℕ) (q q' : Queue) (m : Steps Ending) (k : Option Kept) → Bounded Anything Any m n → Comes q m q' k → IsNear n q'
comes_near n q q' m None b c = inr (subst (λ (x : Steps Ending). Bounded Anything Any x n) (sym c.1) b)
comes_near n q q' m (Some k) b c = inl (subst (λ (x : Steps Ending). Pauses (want_of x)) (sym (ready_rest q' c.3)) (pauses_whole (wiring_of q') (state_of q') (state_of q').halt))

-- a step that no read pauses leaves one event fewer
pub moved_near : (n answer : ℕ) (q q' : Queue) (o : Option Event) → IsNear n q → (Pauses (want_of (rest q)) → ⊥) → Moved answer q o q' → IsNear (n - 1) q'
moved_near n answer q q' None h away m = absurd (away (pauses_done (want_of (rest q)) m.0))
moved_near n answer q q' (Some e) h away m =
    ⊎_elim {C = IsNear (n - 1) q'} (λ p. absurd (away p)) (λ b. comes_near (n - 1) q q' m.0 m.1 (bounded_next Anything Any (rest q) m.0 e n b m.2) m.4) h

pub near_none : (q : Queue) → IsNear 0 q → Pauses (want_of (rest q))
near_none q h = ⊎_elim {C = Pauses (want_of (rest q))} (λ p. p) (λ b. pauses_done (want_of (rest q)) (bounded_done Anything Any (rest q) b)) h

occurs_read : (w : Want) (a : ℕ) (at : Place) (n : ℕ) → Occurs w a (Read at n) → Pauses w
occurs_read (want.Read p) a at n o = tt
occurs_read (want.Write p v) a at n o = absurd (cc)
occurs_read want.Instr a at n o = absurd (cc)
occurs_read (want.Load m k j) a at n o = absurd (cc)
occurs_read (want.Add m k j delta) a at n o = absurd (cc)
occurs_read (want.Notify p) a at n o = absurd (cc)
occurs_read want.Done a at n o = tt

-- a step that no read pauses reads nothing
pub read_none : (answer : ℕ) (q q' : Queue) (o : Option Event) → (Pauses (want_of (rest q)) → ⊥) → Moved answer q o q' → read_answer o ≡ []
read_none answer q q' None away m = refl
read_none answer q q' (Some (Read at n)) away m = absurd (away (occurs_read (want_of (rest q)) m.2.0 at n m.2.1))
read_none answer q q' (Some (Write at v)) away m = refl
read_none answer q q' (Some Instr) away m = refl
read_none answer q q' (Some (Load a k j v)) away m = refl
read_none answer q q' (Some (Add a k j delta old)) away m = refl
read_none answer q q' (Some (Notify p)) away m = refl

occurs_paused : (w : Want) (a : ℕ) (e : Event) → Pauses w → Occurs w a e → (at : Place) × (e ≡ Read at a)
occurs_paused (want.Read p) a e h o = (p, o.1)
occurs_paused (want.Write p v) a e h o = absurd h
occurs_paused want.Instr a e h o = absurd h
occurs_paused (want.Load m k j) a e h o = absurd h
occurs_paused (want.Add m k j delta) a e h o = absurd h
occurs_paused (want.Notify p) a e h o = absurd h
occurs_paused want.Done a e h o = absurd o

read_is : (e : Event) (at : Place) (a answer : ℕ) → e ≡ Read at a → Serves e answer → read_answer (Some e) ≡ answer ∷ []
read_is (Read p n) at a answer e s = ap (λ (x : ℕ). x ∷ []) s
read_is (Write p v) at a answer e s = absurd (cc)
read_is Instr at a answer e s = absurd (cc)
read_is (Load m k j v) at a answer e s = absurd (cc)
read_is (Add m k j delta old) at a answer e s = absurd (cc)
read_is (Notify p) at a answer e s = absurd (cc)

-- a step of a queue that wants to read takes the answer
pub read_one : (answer : ℕ) (q q' : Queue) (o : Option Event) → Pauses (want_of (rest q)) → (want_of (rest q) ≡ want.Done → ⊥) → Moved answer q o q' → read_answer o ≡ answer ∷ []
read_one answer q q' None h n m = absurd (n m.0)
read_one answer q q' (Some e) h n m =
    let r = occurs_paused (want_of (rest q)) m.2.0 e h m.2.1 in
    read_is e r.0 m.2.0 answer r.1 m.3

of_append : (q : ℕ) (a b : List Entry) → AreOf q a → AreOf q b → AreOf q (a ++ b)
of_append q [] b h g = g
of_append q (e ∷ a) b h g = (h.0, of_append q a b h.1 g)

reads_append : (a b : List Entry) → read_answers (a ++ b) ≡ read_answers a ++ read_answers b
reads_append [] b = refl
reads_append (e ∷ a) b = ap (λ l. read_answer e.event ++ l) (reads_append a b) ∙ sym (append_assoc (read_answer e.event) (read_answers a) (read_answers b))

pub replays_none : (a : World) (q : ℕ) → Replays a a q []
replays_none a q wirings start begin es h = ([], tt, refl, rw append-nil h)

pub replays_then : (a b c : World) (q : ℕ) (g h : List ℕ) → Replays a b q g → Replays b c q h → Replays a c q (g ++ h)
replays_then a b c q g h x y wirings start begin es s =
    let m = x wirings start begin es s in
    let n = y wirings start begin (es ++ m.0) m.3 in (
      m.0 ++ n.0,
      of_append q m.0 n.0 m.1 n.1,
      reads_append m.0 n.0 ∙ ap (λ l. l ++ read_answers n.0) m.2 ∙ ap (λ l. g ++ l) n.2,
      rw (← append_assoc es m.0 n.0) n.3,
    )

pub replays_step : (a b : World) (q answer : ℕ) (r : List ℕ) → (s : IsStep a b q answer) → read_answer s.event ≡ r → Replays a b q r
replays_step a b q answer r s e wirings start begin es h =
    let entry : Entry = record { queue = q; answer = answer; event = s.event } in
    (entry ∷ [], (refl, tt), append-nil (read_answer s.event) ∙ e, s.stands wirings start begin es h)

halted_by : (w : Wiring) (start : ℕ) (ev : List Event) (ks : List Kept) (s : State) (front : List Event) (left : Steps Ending) (o : Option Halt) → s.halt ≡ o →
    Turns w (started_at start) ev ks s front → IsUnfinished w s front left → want_of left ≡ want.Done → IsHalted w start ev
halted_by w start ev ks s front left None e j u d = absurd (u.isnt_over e d)
halted_by w start ev ks s front left (Some cause) e j u d =
    record { kept = ks; end = s; cause = cause; halted = e; joined = subst (λ (l : List Event). Turns w (started_at start) ev ks s l) (u.stopped cause e) j }

-- a queue that wants nothing has halted
halted : (w : Wiring) (start : ℕ) (ev : List Event) (ks : List Kept) (q : Queue) → SoFar w start ev ks q → want_of (rest q) ≡ want.Done → IsHalted w start ev
halted w start ev ks q h d = halted_by w start ev ks (state_of q) h.front (rest q) (state_of q).halt refl h.joined h.unfinished d

stops_by : (w : Wiring) (start : ℕ) (ev : List Event) (ks : List Kept) (q : Queue) (left : List ℕ) (x : Want) → want_of (rest q) ≡ x → SoFar w start ev ks q → Rests x left → Stops w start ev ks left
stops_by w start ev ks q left (want.Read at) e h r =
    reads (record { end = state_of q; front = h.front; left = rest q; joined = h.joined; unfinished = h.unfinished }) at e r
stops_by w start ev ks q left want.Done e h r = halts (halted w start ev ks q h e)
stops_by w start ev ks q left (want.Write p v) e h r = absurd r
stops_by w start ev ks q left want.Instr e h r = absurd r
stops_by w start ev ks q left (want.Load m k j) e h r = absurd r
stops_by w start ev ks q left (want.Add m k j delta) e h r = absurd r
stops_by w start ev ks q left (want.Notify p) e h r = absurd r

pub stops : (w : Wiring) (start : ℕ) (ev : List Event) (ks : List Kept) (q : Queue) (left : List ℕ) → SoFar w start ev ks q → Rests (want_of (rest q)) left → Stops w start ev ks left
stops w start ev ks q left h r = stops_by w start ev ks q left (want_of (rest q)) refl h r

-- a queue that wants to read, or nothing, when none is left
pub rests_none : (w : Want) → Pauses w → Rests w []
rests_none (want.Read p) h = refl
rests_none want.Done h = tt
rests_none (want.Write p v) h = absurd h
rests_none want.Instr h = absurd h
rests_none (want.Load m k j) h = absurd h
rests_none (want.Add m k j delta) h = absurd h
rests_none (want.Notify p) h = absurd h

pub rests_done : (w : Want) (left : List ℕ) → w ≡ want.Done → Rests w left
rests_done w left e = subst (λ (x : Want). Rests x left) (sym e) tt

-- the same number of events is enough for a queue that has come through events
pub enough_begun : (accepted : Accepted) (w : Wiring) (start : ℕ) (ev : List Event) (ks : List Kept) (q : Queue) → IsConsistent accepted → w.program.now ≡ accepted →
    SoFar w start ev ks q → IsEnough (287383 + instructions accepted.code) q
enough_begun accepted w start ev ks q ok is h =
    let program : (wiring_of q).program.now ≡ accepted = ap (λ (x : Wiring). x.program.now) h.wired ∙ is in
    enough q (instructions accepted.code) (subst IsConsistent (sym program) ok) (ap (λ (x : Accepted). instructions x.code) program) h.front
    (subst (λ (x : Wiring). LedBy (whole_turn x (state_of q)) h.front (rest q)) (sym h.wired) h.unfinished.gone)
