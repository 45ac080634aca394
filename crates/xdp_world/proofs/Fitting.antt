-- What a queue is doing fits it.
use Rattle.std.proofs.Common.{◌≡◌, ◌≢◌, ℕ, ◌<◌, true, false, List, Option, Some, None, length, get_or, set, slice_get, refl, sym, ◌∙◌, ap, subst, get_or-set_same, get_or-set_other, ⊎_elim, length-set}
use Rattle.std.proofs.lemmas.Bool.Decides.{eqb_tells}
use Rattle.std.specs.Prelude.{IsTrue}
use Rattle.bpf_note.specs.Shape.{Shape}
use Rattle.xen_steps.specs.Drive.{IsPageWant}
use Rattle.xen_steps.specs.Steps.{want_of}
use Rattle.xen_steps.specs.declared.want.Want.{Want}
use Rattle.xen_steps.specs.declared.want.Want.TheVariants as want
use Rattle.xen_back.specs.Queues.{IsReady, rest, wiring_of}
use Rattle.xen_turns.specs.Within.{IsWithin}
use Rattle.xen_back.specs.declared.by_event.phase.Phase.TheVariants as phase
use Rattle.xen_back.specs.declared.by_event.stage.Stage.{Stage}
use Rattle.xen_back.specs.declared.by_event.stage.Stage.TheVariants as stage
use Rattle.xen_back.specs.declared.delivery.wait_stage.Awaiting.{Awaiting}
use Rattle.xen_back.specs.declared.delivery.underway.Delivering.{Delivering}
use Rattle.xen_back.specs.declared.queue.Queue.{Queue}
use Rattle.xdp_world.specs.Doings.{AllFit, Fits, is_between, is_call, is_ready, want_at}
use Rattle.xdp_world.specs.declared.doing.Doing.{Doing}
use Rattle.xdp_world.specs.declared.doing.Doing.TheVariants as doing
use Rattle.xdp_world.proofs.Worlds.{get_set, get_set_other}

pub ready_true : (q : Queue) → IsReady q → IsTrue (is_ready q.stage)
ready_true q h = subst (λ (s : Option Stage). IsTrue (is_ready s)) (sym h.1) refl

at_ready : (s : Option Stage) → IsTrue (is_ready s) → (p : List ℕ) × (s ≡ Some (stage.At p phase.Ready))
at_ready (Some (stage.At p phase.Ready)) h = (p, refl)
at_ready s h = absurd (cc)

pub true_ready : (q : Queue) → IsTrue (is_ready q.stage) → IsReady q
true_ready q h = at_ready q.stage h

-- a place of a page is one that a queue may want
pub page_within : (n : ℕ) (shapes : List Shape) (w : Want) → IsPageWant n w → IsWithin n shapes w
page_within n shapes (want.Read at) h = h
page_within n shapes (want.Write at v) h = h
page_within n shapes want.Instr h = absurd h
page_within n shapes (want.Load m k j) h = absurd h
page_within n shapes (want.Add m k j d) h = absurd h
page_within n shapes (want.Notify p) h = tt
page_within n shapes want.Done h = absurd h

-- one queue changes, and what it is doing
pub fit_set : (ats : List Doing) (qs : List Queue) (i : ℕ) (at : Doing) (q : Queue) → i < length ats → i < length qs → AllFit ats qs → Fits at q → AllFit (set ats i at) (set qs i q)
fit_set ats qs i at q la l h f j d e m =
    ⊎_elim {C = Fits (get_or (set ats i at) j d) (get_or (set qs i q) j e)}
    (λ p. rw (p.1, get_or-set_same ats i at d la, get_or-set_same qs i q e l) f)
    (λ p. let n : j ≢ i = p.1 in let k : j < length qs = simp length-set at m in rw (get_or-set_other ats i j at d n, get_or-set_other qs i j q e n) (h j d e k))
    (eqb_tells j i)

-- a queue that has no call of the host under way wants what its turn wants
pub free_want : (q : Queue) (o : Option Doing) → is_call o ≡ false → want_at q o ≡ want_of (rest q)
free_want q None h = refl
free_want q (Some doing.Between) h = refl
free_want q (Some doing.Turn) h = refl
free_want q (Some (doing.Delivery d)) h = absurd (cc)
free_want q (Some (doing.Wait a)) h = absurd (cc)

pub not_call : (at : Doing) → ((x : Delivering) → at ≡ doing.Delivery x → ⊥) → ((x : Awaiting) → at ≡ doing.Wait x → ⊥) → is_call (Some at) ≡ false
not_call doing.Between n m = refl
not_call doing.Turn n m = refl
not_call (doing.Delivery d) n m = absurd (n d refl)
not_call (doing.Wait a) n m = absurd (m a refl)

pub between_is : (at : Doing) → is_between (Some at) ≡ true → at ≡ doing.Between
between_is doing.Between h = refl
between_is doing.Turn h = absurd (cc)
between_is (doing.Delivery d) h = absurd (cc)
between_is (doing.Wait a) h = absurd (cc)

-- one queue changes, and its program keeps the shapes of the counters
pub shapes_set : (qs : List Queue) (i : ℕ) (q : Queue) (ss ss' : List Shape) → i < length qs → ((j : ℕ) (d : Queue) → j < length qs → (wiring_of (get_or qs j d)).program.now.shapes ≡ ss) →
    ss' ≡ ss → (wiring_of q).program.now.shapes ≡ ss → (j : ℕ) (d : Queue) → j < length (set qs i q) → (wiring_of (get_or (set qs i q) j d)).program.now.shapes ≡ ss'
shapes_set qs i q ss ss' l h s e j d m =
    ⊎_elim {C = (wiring_of (get_or (set qs i q) j d)).program.now.shapes ≡ ss'}
    (λ p. rw (p.1, get_or-set_same qs i q d l) (e ∙ sym s))
    (λ p. let n : j ≢ i = p.1 in let k : j < length qs = simp length-set at m in rw (get_or-set_other qs i j q d n) (h j d k ∙ sym s))
    (eqb_tells j i)

-- what is free stays free
pub free_set : (ats : List Doing) (i : ℕ) (at at' : Doing) → i < length ats → slice_get ats i ≡ Some at → (is_call (Some at) ≡ false → is_call (Some at') ≡ false) →
    (j : ℕ) → is_call (slice_get ats j) ≡ false → is_call (slice_get (set ats i at') j) ≡ false
free_set ats i at at' l is f j h =
    ⊎_elim {C = is_call (slice_get (set ats i at') j) ≡ false}
    (λ p. ap (λ (n : ℕ). is_call (slice_get (set ats i at') n)) p.1 ∙ ap is_call (get_set ats i at' l)
    ∙ f (ap is_call (sym is) ∙ ap (λ (n : ℕ). is_call (slice_get ats n)) (sym p.1) ∙ h))
    (λ p. ap is_call (get_set_other ats i j at' p.1) ∙ h)
    (eqb_tells j i)
