-- A world on which no delivery and no wait was begun.
use Rattle.bpf_maps.specs.Beginning.{Beginning}
use Rattle.std.proofs.Common.{◌≡◌, ℕ, zero, suc, ◌<◌, true, false, Bool, cond, eqb, List, [], ◌∷◌, ◌++◌, Some, length, take, get_or, slice_get, refl, sym, ◌∙◌, ap, subst}
use Rattle.xen_steps.specs.Event.{Event}
use Rattle.xen_back.specs.Queues.{state_of}
use Rattle.xen_back.specs.declared.queue.Queue.{Queue}
use Rattle.xen_turns.specs.declared.wiring.Wiring.{Wiring}
use Rattle.xdp_world.specs.Activities.{HasHalted, Item, all_came, deliveries_in, turns_in, waits_in}
use Rattle.xdp_world.specs.Calls.{Call, HaveCome, Stepped, all_stepped, entries_of, items_of}
use Rattle.xdp_world.specs.Core.{HaveEvents, IsHalted, Turns, started_at}
use Rattle.xdp_world.specs.Doings.{IsAt, is_call}
use Rattle.xdp_world.specs.Entries.{Entry, events_of, listed}
use Rattle.xdp_world.specs.Stands.{HasCome, SoFar, Stands, delivered_in, kept_in, waited_in}
use Rattle.xdp_world.specs.declared.doing.Doing.{Doing}
use Rattle.xdp_world.specs.declared.doing.Doing.TheVariants as doing
use Rattle.xdp_world.specs.declared.kept.Kept.{Kept}
use Rattle.xdp_world.specs.declared.report.Delivered.{Delivered}
use Rattle.xdp_world.specs.declared.report.Waited.{Waited}
use Rattle.xdp_world.specs.declared.world.World.{World}
use Rattle.xdp_world.proofs.Acts.{came_append, came_none, came_same, deliveries_all, given_not, plain, slots_not, turns_all, waits_all}
use Rattle.xdp_world.proofs.Comes.{in_turn}

cond_came : (b : Bool) (l : List Event) → cond b (all_came l) [] ≡ all_came (cond b l [])
cond_came true l = refl
cond_came false l = refl

pub items_stepped : (q : ℕ) (es : List Entry) → items_of q (all_stepped es) ≡ all_came (events_of q es)
items_stepped q [] = refl
items_stepped q (e ∷ es) =
    (λ i. cond_came (eqb e.queue q) (listed e.event) i ++ items_stepped q es i) ∙ sym (came_append (cond (eqb e.queue q) (listed e.event) []) (events_of q es))

pub entries_stepped : (es : List Entry) → entries_of (all_stepped es) ≡ es
entries_stepped [] = refl
entries_stepped (e ∷ es) = ap (λ (l : List Entry). e ∷ l) (entries_stepped es)

pub stepped_append : (a b : List Entry) → all_stepped (a ++ b) ≡ all_stepped a ++ all_stepped b
stepped_append [] b = refl
stepped_append (e ∷ a) b = ap (λ (l : List Call). Stepped e ∷ l) (stepped_append a b)

take_stepped : (n : ℕ) (es : List Entry) → take n (all_stepped es) ≡ all_stepped (take n es)
take_stepped zero es = refl
take_stepped (suc n) [] = refl
take_stepped (suc n) (e ∷ es) = ap (λ (l : List Call). Stepped e ∷ l) (take_stepped n es)

get_stepped : (es : List Entry) (i : ℕ) (e : Entry) → slice_get es i ≡ Some e → slice_get (all_stepped es) i ≡ Some (Stepped e)
get_stepped [] i e h = absurd (cc)
get_stepped (x ∷ es) zero e h = let s : x ≡ e = cc in ap (λ (y : Entry). Some (Stepped y)) s
get_stepped (x ∷ es) (suc i) e h = get_stepped es i e h

-- no call of the host is under way where none was begun
no_call : (w : Wiring) (q : Queue) (at : Doing) (front : List Item) (left : List Event) → front ≡ all_came left → IsAt w q at front → is_call (Some at) ≡ false
no_call w q doing.Between front left e h = refl
no_call w q doing.Turn front left e h = refl
no_call w q (doing.Delivery d) front left e h = absurd (given_not h.0 h.1 left (sym h.2 ∙ e))
no_call w q (doing.Wait a) front left e h = absurd (slots_not h.0 h.1 left (sym h.2 ∙ e))

pub record Plainly (w : Wiring) (start : ℕ) (ev : List Event) (ks : List Kept) (dl : List Delivered) (wl : List Waited) (q : Queue) (at : Doing) : Type 0 where
  pub sofar : SoFar w start ev ks q
  pub none : dl ≡ []
  pub no_wait : wl ≡ []
  pub free : is_call (Some at) ≡ false

pub plainly : (w : Wiring) (start : ℕ) (items : List Item) (ev : List Event) (ks : List Kept) (dl : List Delivered) (wl : List Waited) (q : Queue) (at : Doing) → items ≡ all_came ev →
    HasCome w start items ks dl wl q at → Plainly w start ev ks dl wl q at
plainly w start items ev ks dl wl q at e h =
    let p = plain w (started_at start) items h.deeds (state_of q) h.front ev e h.joined in
    let n = no_call w q at h.front p.left p.rest h.stands_at in
    let x = in_turn w q at h.front n h.stands_at in
    let same : p.left ≡ x.events = came_same p.left x.events (sym p.rest ∙ x.are) in
    let kept : p.kept ≡ ks = sym (turns_all p.kept) ∙ ap turns_in (sym p.deeds) ∙ sym h.turns in
    record {
      sofar = record {
        wired = h.wired;
        front = x.events;
        joined = subst (λ (l : List Event). Turns w (started_at start) ev ks (state_of q) l) same (subst (λ (l : List Kept). Turns w (started_at start) ev l (state_of q) p.left) kept p.joined);
        unfinished = x.unfinished;
      };
      none = h.deliveries ∙ ap (deliveries_in 0) p.deeds ∙ deliveries_all 0 p.kept;
      no_wait = h.waits ∙ ap (waits_in 0 0) p.deeds ∙ waits_all 0 0 p.kept;
      free = n;
    }

plain_halted : (w : Wiring) (start : ℕ) (items : List Item) (ev : List Event) → items ≡ all_came ev → HasHalted w start items → IsHalted w start ev
plain_halted w start items ev e h =
    let p = plain w (started_at start) items h.deeds h.end [] ev e h.joined in
    record {
      kept = p.kept;
      end = h.end;
      cause = h.cause;
      halted = h.halted;
      joined = subst (λ (l : List Event). Turns w (started_at start) ev p.kept h.end l) (came_none p.left p.rest) p.joined;
    }

pub have_events : (wirings : ℕ → Wiring) (start : ℕ) (es : List Entry) → HaveCome wirings start (all_stepped es) → HaveEvents wirings start es
have_events wirings start es h i e at n =
    plain_halted (wirings e.queue) start (items_of e.queue (take i (all_stepped es))) (events_of e.queue (take i es))
    (ap (items_of e.queue) (take_stepped i es) ∙ items_stepped e.queue (take i es)) (h i e (get_stepped es i e at) n)

-- what a world stands for that was only stepped, of one queue
pub plain_queue : (world : World) (wirings : ℕ → Wiring) (start : ℕ) (begin : Beginning) (es : List Entry) → Stands world wirings start begin es → (i : ℕ) (d : Queue) (e : Doing) → i < length world.queues.items →
    Plainly (wirings i) start (events_of i es) (kept_in world.turns.items i) (delivered_in world.deliveries.items i) (waited_in world.waits.items i) (get_or world.queues.items i d) (get_or world.doing.items i e)
plain_queue world wirings start begin es h i d e l =
    plainly (wirings i) start (items_of i (all_stepped es)) (events_of i es) (kept_in world.turns.items i) (delivered_in world.deliveries.items i) (waited_in world.waits.items i) (get_or world.queues.items i d) (get_or world.doing.items i e)
    (items_stepped i es) (h.each i d e l)

pub sofar_of : (world : World) (wirings : ℕ → Wiring) (start : ℕ) (begin : Beginning) (es : List Entry) → Stands world wirings start begin es → (i : ℕ) (d : Queue) → i < length world.queues.items →
    SoFar (wirings i) start (events_of i es) (kept_in world.turns.items i) (get_or world.queues.items i d)
sofar_of world wirings start begin es h i d l = (plain_queue world wirings start begin es h i d doing.Between l).sofar
