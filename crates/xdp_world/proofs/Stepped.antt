-- What a step says of the queue that made it.
use Rattle.std.proofs.Common.{◌≡◌, ℕ, false, Option, Some, None, refl, sym, ◌∙◌, ap, subst}
use Rattle.bpf_maps.specs.Seats.{TotalsView}
use Rattle.bpf_note.specs.declared.op.Op.{Op}
use Rattle.xen_steps.specs.Drive.{Goes}
use Rattle.xen_steps.specs.Event.{Event}
use Rattle.xen_back.specs.ByEvent.{left_of}
use Rattle.xen_back.specs.Queues.{wiring_of}
use Rattle.xen_back.specs.WaitsByEvent.{left_of_wait}
use Rattle.xen_turns.specs.declared.delivery.wait.Awaited.{Awaited}
use Rattle.xen_turns.specs.declared.delivery.delivering.Delivery.{Delivery}
use Rattle.xen_back.specs.declared.delivery.wait_stage.Awaiting.{Awaiting}
use Rattle.xen_back.specs.declared.delivery.underway.Delivering.{Delivering}
use Rattle.xen_back.specs.declared.queue.Queue.{Queue}
use Rattle.xdp_world.specs.Carries.{Carries, Looks, Moves, after_turn, carries, doing_after, looks, rests, turns}
use Rattle.xdp_world.specs.Doings.{is_call}
use Rattle.xdp_world.specs.Happens.{Moved, MovedBy}
use Rattle.xdp_world.specs.declared.doing.Doing.{Doing}
use Rattle.xdp_world.specs.declared.doing.Doing.TheVariants as doing
use Rattle.xdp_world.specs.declared.kept.Kept.{Kept}

busy_not : (at : Doing) (x : Delivering) → is_call (Some at) ≡ false → at ≡ doing.Delivery x → ⊥
busy_not at x n e = let h : is_call (Some (doing.Delivery x)) ≡ false = subst (λ (y : Doing). is_call (Some y) ≡ false) e n in cc

waits_not : (at : Doing) (x : Awaiting) → is_call (Some at) ≡ false → at ≡ doing.Wait x → ⊥
waits_not at x n e = let h : is_call (Some (doing.Wait x)) ≡ false = subst (λ (y : Doing). is_call (Some y) ≡ false) e n in cc

apart : (x : Delivering) (y : Awaiting) → doing.Delivery x ≡ doing.Wait y → ⊥
apart x y e = cc

pub moved_of : (q q' : Queue) (at at' : Doing) (c d : TotalsView) (a : ℕ) (e : Option Event) (o : Option Op) (k : Option Kept) (what : Option Delivery) (r : Option Awaited) → wiring_of q' ≡ wiring_of q →
    Moves q q' at at' c d a e o k what r → is_call (Some at) ≡ false → Moved a q e q'
moved_of q q' at at' c d a _ _ _ _ _ wi (rests n w e r) f = (w, r.rest, wi)
moved_of q q' at at' c d a _ _ _ _ _ wi (turns o k n e v) f = (v.mid, k, v.goes, v.serves, v.comes, wi)
moved_of q q' at at' c d a _ _ _ _ _ wi (carries x what e dc v) f = absurd (busy_not at x f e)
moved_of q q' at at' c d a _ _ _ _ _ wi (looks x r e dc v) f = absurd (waits_not at x f e)

pub moved_by_of : (q q' : Queue) (at at' : Doing) (c d : TotalsView) (a : ℕ) (e : Option Event) (o : Option Op) (k : Option Kept) (what : Option Delivery) (r : Option Awaited) → wiring_of q' ≡ wiring_of q →
    Moves q q' at at' c d a e o k what r → is_call (Some at) ≡ false → MovedBy a q e k q'
moved_by_of q q' at at' c d a _ _ _ _ _ wi (rests n w e r) f = (w, r.rest, r.state, wi, refl)
moved_by_of q q' at at' c d a _ _ _ _ _ wi (turns o k n e v) f = (v.mid, v.goes, v.serves, v.comes, wi)
moved_by_of q q' at at' c d a _ _ _ _ _ wi (carries x what e dc v) f = absurd (busy_not at x f e)
moved_by_of q q' at at' c d a _ _ _ _ _ wi (looks x r e dc v) f = absurd (waits_not at x f e)

same_delivery : (x y : Delivering) → doing.Delivery x ≡ doing.Delivery y → x ≡ y
same_delivery x y e = cc

carries_of : (q q' : Queue) (at' : Doing) (a : ℕ) (what : Option Delivery) (x y : Delivering) → y ≡ x → (v : Carries q y q' at' a what) → (w : Carries q x q' at' a what) × (w.event ≡ v.event)
carries_of q q' at' a what x y e v =
    (record { event = v.event; mid = v.mid; goes = subst (λ (z : Delivering). Goes (left_of z) v.event v.mid) e v.goes; serves = v.serves; quiet = v.quiet; lands = v.lands }, refl)

pub carried_of : (q q' : Queue) (at at' : Doing) (c d : TotalsView) (a : ℕ) (e : Option Event) (o : Option Op) (k : Option Kept) (what : Option Delivery) (r : Option Awaited) (x : Delivering) →
    Moves q q' at at' c d a e o k what r → at ≡ doing.Delivery x → (v : Carries q x q' at' a what) × (e ≡ Some v.event) × (k ≡ None)
carried_of q q' at at' c d a _ _ _ _ _ x (rests n w e r) is = absurd (busy_not at x n is)
carried_of q q' at at' c d a _ _ _ _ _ x (turns o k n e v) is = absurd (busy_not at x n is)
carried_of q q' at at' c d a _ _ _ _ _ x (carries y what e dc v) is =
    let w = carries_of q q' at' a what x y (same_delivery y x (sym e ∙ is)) v in
    (w.0, ap Some (sym w.1), refl)
carried_of q q' at at' c d a _ _ _ _ _ x (looks y r e dc v) is = absurd (apart x y (sym is ∙ e))

same_wait : (x y : Awaiting) → doing.Wait x ≡ doing.Wait y → x ≡ y
same_wait x y e = cc

looks_of : (q q' : Queue) (at' : Doing) (a : ℕ) (r : Option Awaited) (x y : Awaiting) → y ≡ x → (v : Looks q y q' at' a r) → (w : Looks q x q' at' a r) × (w.event ≡ v.event)
looks_of q q' at' a r x y e v =
    (record { event = v.event; mid = v.mid; goes = subst (λ (z : Awaiting). Goes (left_of_wait z) v.event v.mid) e v.goes; serves = v.serves; quiet = v.quiet; resumes = v.resumes }, refl)

pub looked_of : (q q' : Queue) (at at' : Doing) (c d : TotalsView) (a : ℕ) (e : Option Event) (o : Option Op) (k : Option Kept) (what : Option Delivery) (r : Option Awaited) (x : Awaiting) →
    Moves q q' at at' c d a e o k what r → at ≡ doing.Wait x → (v : Looks q x q' at' a r) × (e ≡ Some v.event) × (k ≡ None) × (what ≡ None)
looked_of q q' at at' c d a _ _ _ _ _ x (rests n w e r) is = absurd (waits_not at x n is)
looked_of q q' at at' c d a _ _ _ _ _ x (turns o k n e v) is = absurd (waits_not at x n is)
looked_of q q' at at' c d a _ _ _ _ _ x (carries y what e dc v) is = absurd (apart y x (sym e ∙ is))
looked_of q q' at at' c d a _ _ _ _ _ x (looks y r e dc v) is =
    let w = looks_of q q' at' a r x y (same_wait y x (sym e ∙ is)) v in
    (w.0, ap Some (sym w.1), refl, refl)

-- where no wait was under way, none is over
pub unwaited_of : (q q' : Queue) (at at' : Doing) (c d : TotalsView) (a : ℕ) (e : Option Event) (o : Option Op) (k : Option Kept) (what : Option Delivery) (r : Option Awaited) →
    Moves q q' at at' c d a e o k what r → ((x : Awaiting) → at ≡ doing.Wait x → ⊥) → r ≡ None
unwaited_of q q' at at' c d a _ _ _ _ _ (rests n w e r) f = refl
unwaited_of q q' at at' c d a _ _ _ _ _ (turns o k n e v) f = refl
unwaited_of q q' at at' c d a _ _ _ _ _ (carries x what e dc v) f = refl
unwaited_of q q' at at' c d a _ _ _ _ _ (looks x r e dc v) f = absurd (f x e)

free_after : (k : Option Kept) → is_call (Some (after_turn k)) ≡ false
free_after None = refl
free_after (Some k) = refl

pub free_of : (q q' : Queue) (at at' : Doing) (c d : TotalsView) (a : ℕ) (e : Option Event) (o : Option Op) (k : Option Kept) (what : Option Delivery) (r : Option Awaited) →
    Moves q q' at at' c d a e o k what r → is_call (Some at) ≡ false → (is_call (Some at') ≡ false) × (what ≡ None)
free_of q q' at at' c d a _ _ _ _ _ (rests n w e r) f = (ap (λ (x : Doing). is_call (Some x)) e ∙ n, refl)
free_of q q' at at' c d a _ _ _ _ _ (turns o k n e v) f = (ap (λ (x : Doing). is_call (Some x)) e ∙ free_after k, refl)
free_of q q' at at' c d a _ _ _ _ _ (carries x what e dc v) f = absurd (busy_not at x f e)
free_of q q' at at' c d a _ _ _ _ _ (looks x r e dc v) f = absurd (waits_not at x f e)

pub doing_of : (q q' : Queue) (at at' : Doing) (c d : TotalsView) (a : ℕ) (e : Option Event) (o : Option Op) (k : Option Kept) (what : Option Delivery) (r : Option Awaited) →
    Moves q q' at at' c d a e o k what r → is_call (Some at) ≡ false → at' ≡ doing_after at e k
doing_of q q' at at' c d a _ _ _ _ _ (rests n w e r) f = e
doing_of q q' at at' c d a _ _ _ _ _ (turns o k n e v) f = e
doing_of q q' at at' c d a _ _ _ _ _ (carries x what e dc v) f = absurd (busy_not at x f e)
doing_of q q' at at' c d a _ _ _ _ _ (looks x r e dc v) f = absurd (waits_not at x f e)
