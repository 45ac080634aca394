-- A back that sleeps looks at its port.
use Rattle.std.proofs.Common.{◌≡◌, refl, sym, ◌∙◌, ap, subst, arith, Bool, true, false, [], ◌++◌, map}
use Rattle.std.specs.Prelude.{if◌then◌else◌, not}
use Rattle.std.proofs.lemmas.List.{append-nil}
use Rattle.xen_back.specs.Queues.{wiring_of}
use Rattle.xen_back.specs.declared.queue.Queue.{Queue}
use Rattle.xen_turns.specs.declared.wiring.Wiring.{Wiring}
use Rattle.xen_front.specs.Fronts.{wiring_of as front_wiring}
use Rattle.honest_pair.specs.Machine.Log.{back_asks}
use Rattle.honest_pair.specs.Machine.Memory.{Memory}
use Rattle.honest_pair.specs.Machine.Pair.{BackAt, Asleep, First, Second, Delivering, Waiting, BackStep, Pair, on_back, turns_of, wake}
use Rattle.honest_pair.specs.Machine.Traces.{BackIsAnswered}
use Rattle.honest_pair.proofs.Machine.TraceLemmas.{back_follows}
use Rattle.xdp_world.specs.Activities.{all_came}
use Rattle.xdp_world.specs.Stands.{StandsFor, delivered_in, kept_in, waited_in}
use Rattle.xdp_world.specs.declared.doing.Doing.{Doing}
use Rattle.xdp_world.specs.declared.world.World.{World}
use Rattle.honest_pair.specs.Held.{memory_in}
use Rattle.honest_pair.specs.Words.{taken}
use Rattle.honest_pair.specs.declared.calling.Calling.{Calling}
use Rattle.honest_pair.specs.declared.calling.Calling.TheVariants as calling
use Rattle.honest_pair.specs.declared.awaits.Awaits.TheVariants as awaits
use Rattle.honest_pair.specs.Deeds.{AllKept, bytes_in, deliveries_of, waits_of}
use Rattle.honest_pair.specs.Shows.{BackShows, Does, FrontShows, doing_at, queue_in}
use Rattle.honest_pair.specs.declared.pair.Pair.{Pair as Held}
use Rattle.honest_pair.proofs.BackLemmas.{half_going, ready_rest, some_queue, world_doing}

-- a sleeping back looks at its port
woken_shows : (w : Wiring) (p : Pair) (q : Queue) (x : Doing) (b : Bool) (at : BackAt) → wiring_of q ≡ w → BackShows w q x true calling.Nothing at p.back → p.at ≡ at → p.memory.pending ≡ b →
    BackShows w q x (not b) calling.Nothing (on_back w at p 0).at (on_back w at p 0).back × ((on_back w at p 0).memory ≡ taken p.memory)
woken_shows w p q x b (First n t) wi h e i = let z = h.0 in absurd (cc)
woken_shows w p q x b (Second packet left t) wi h e i = let z = h.0 in absurd (cc)
woken_shows w p q x b (Delivering sl packet t) wi h e i = let z = h.1 in absurd (cc)
woken_shows w p q x b (Waiting sl pages t) wi h e i = let z = h.1 in absurd (cc)
woken_shows w p q x true Asleep wi h e i =
    subst (λ z. BackShows w q x false calling.Nothing (wake w z p).at (wake w z p).back × ((wake w z p).memory ≡ taken p.memory)) (sym i)
    ((refl, refl, h.2, ready_rest w q p.back h.3 wi h.4, half_going w p.back, h.4), ap (λ z. record { word = p.memory.word; pending = false; awaits = if z then awaits.Nothing else p.memory.awaits }) (sym i))
woken_shows w p q x false Asleep wi h e i =
    subst (λ z. BackShows w q x true calling.Nothing (wake w z p).at (wake w z p).back × ((wake w z p).memory ≡ taken p.memory)) (sym i)
    (subst (λ z. BackShows w q x true calling.Nothing z p.back) (sym e) h, ap (λ z. record { word = p.memory.word; pending = z; awaits = p.memory.awaits }) i ∙ ap (λ z. record { word = p.memory.word; pending = false; awaits = if z then awaits.Nothing else p.memory.awaits }) (sym i))

wake_same : (w : Wiring) (p : Pair) (b : Bool) → ((wake w b p).front ≡ p.front) × ((wake w b p).activity ≡ p.activity) × ((wake w b p).received ≡ p.received) × ((wake w b p).deeds ≡ p.deeds)
wake_same w p true = (refl, refl, refl, refl)
wake_same w p false = (refl, refl, refl, refl)

woken_same : (w : Wiring) (p : Pair) (q : Queue) (x : Doing) (at : BackAt) → BackShows w q x true calling.Nothing at p.back → ((on_back w at p 0).front ≡ p.front) × ((on_back w at p 0).activity ≡ p.activity) × ((on_back w at p 0).received ≡ p.received) × ((on_back w at p 0).deeds ≡ p.deeds) × (back_asks at p.memory 0 ≡ []) × BackIsAnswered at p.memory 0
woken_same w p q x Asleep h = let r = wake_same w p p.memory.pending in (r.0, r.1, r.2, r.3, refl, tt)
woken_same w p q x (First n t) h = let z = h.0 in absurd (cc)
woken_same w p q x (Second packet left t) h = let z = h.0 in absurd (cc)
woken_same w p q x (Delivering sl packet t) h = let z = h.1 in absurd (cc)
woken_same w p q x (Waiting sl pages t) h = let z = h.1 in absurd (cc)

pub wakes : (old new : Held) → old.asleep ≡ true → old.calling ≡ calling.Nothing → new.calling ≡ old.calling → new.world ≡ old.world → new.front ≡ old.front → new.received ≡ old.received →
    memory_in new.memory ≡ taken (memory_in old.memory) → new.asleep ≡ not (memory_in old.memory).pending → Does old new BackStep
wakes old new aw dl dn wo f r mem sl = record {
  bytes = tt;
  does = λ bw fw p s.
      let q : Queue = some_queue old in
      let x : Doing = (world_doing old).0 in
      let all : (d : Queue) (e : Doing) → BackShows bw (queue_in old.world d) (doing_at old.world e) true calling.Nothing p.at p.back =
      λ d e. subst (λ (b : Bool). BackShows bw (queue_in old.world d) (doing_at old.world e) b calling.Nothing p.at p.back) aw
      (subst (λ (b : Calling). BackShows bw (queue_in old.world d) (doing_at old.world e) old.asleep b p.at p.back) dl (s.back d e)) in
      let same = woken_same bw p (queue_in old.world q) (doing_at old.world x) p.at (all q x) in
      let p' : Pair = on_back bw p.at p 0 in
      let each : (d : Queue) (e : Doing) → BackShows bw (queue_in old.world d) (doing_at old.world e) (not p.memory.pending) calling.Nothing p'.at p'.back × (p'.memory ≡ taken p.memory) =
      λ d e. woken_shows bw p (queue_in old.world d) (doing_at old.world e) p.memory.pending p.at (s.back_wired d) (all d e) refl refl in
      let slept : not p.memory.pending ≡ new.asleep = ap (λ (m : Memory). not m.pending) (sym s.memory) ∙ sym sl in (
        0,
        omega arith,
        record {
          memory = mem ∙ ap taken s.memory ∙ sym (each q x).1;
          front_wired = ap front_wiring f ∙ s.front_wired;
          front = subst (λ z. FrontShows z p'.activity p'.front) (sym f) (subst (λ z. FrontShows old.front z p'.front) (sym same.1) (subst (λ z. FrontShows old.front p.activity z) (sym same.0) s.front));
          back_wired = λ d. subst (λ (z : World). wiring_of (queue_in z d) ≡ bw) (sym wo) (s.back_wired d);
          back = λ d e. subst (λ (z : World). BackShows bw (queue_in z d) (doing_at z e) new.asleep new.calling p'.at p'.back) (sym wo)
              (subst (λ (b : Calling). BackShows bw (queue_in old.world d) (doing_at old.world e) new.asleep b p'.at p'.back) (sym (dn ∙ dl))
              (subst (λ (b : Bool). BackShows bw (queue_in old.world d) (doing_at old.world e) b calling.Nothing p'.at p'.back) slept (each d e).0));
          received = ap (λ z. map bytes_in z.items) r ∙ s.received ∙ sym same.2;
          turns = subst (λ (z : World). AllKept (turns_of p'.deeds) (kept_in z.turns.items 0)) (sym wo) (subst (λ z. AllKept (turns_of z) (kept_in old.world.turns.items 0)) (sym same.3) s.turns);
          deliveries = ap (λ (z : World). delivered_in z.deliveries.items 0) wo ∙ s.deliveries ∙ ap (deliveries_of 0) (sym same.3);
          waits = ap (λ (z : World). waited_in z.waits.items 0) wo ∙ s.waits ∙ ap (waits_of 0 0) (sym same.3);
        },
        record {
          shapes = ap (λ (z : World). z.counters.shapes) wo;
          stands = λ wirings start begin cs h. ([], subst (λ (z : World). StandsFor z wirings start begin (cs ++ [])) (sym wo) (subst (StandsFor old.world wirings start begin) (sym (append-nil cs)) h), tt, ap all_came (sym same.4));
        },
        back_follows bw p p.at 0 refl same.5,
        tt,
      );
}
