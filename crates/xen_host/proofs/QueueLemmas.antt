-- A step of a queue: what it is of goes on, and the queue stays as it has to be.
use Rattle.std.proofs.Common.{◌≡◌, ℕ, ◌<◌, ◌≤◌, true, inl, inr, List, [], length, ap, arith}
use Rattle.std.specs.Prelude.{Option}
use Rattle.bpf_maps.specs.Layout.{total}
use Rattle.std.specs.Prelude.{◌^◌}
use Rattle.xen_page.specs.declared.place.Place.{Place}
use Rattle.xen_steps.specs.Steps.{next}
use Rattle.xen_turns.specs.Tree.{whole_turn}
use Rattle.xen_host.specs.Asks.{Ask}
use Rattle.xen_host.specs.HostLed.{GoesOnAt, TurnLeads}
use Rattle.xen_host.specs.Over.{BeginsOver, SteppedOver}
use Rattle.xen_host.specs.Queues.{AreFew, AreFewAtSeat, has_steps, wiring, seen, wired_to}
use Rattle.xen_host.specs.Rest.{no_offload}
use Rattle.bpf_note.specs.declared.op.Op.{Op as Operation}
use Rattle.xen_host.specs.declared.op.HostOp.{HostOp}
use Rattle.xen_host.specs.Wired.{wiring_of}
use Rattle.xen_host.specs.declared.queue.Queue.{Queue}
use Rattle.xen_host.specs.declared.wires.OwnedWiring.{OwnedWiring}
use Rattle.xen_host.specs.Stands.{Stands}
use Rattle.xen_host.proofs.EngineLemmas.{begun_at, stepped_at}

pub stands : (q : Queue) → Stands (seen q)
stands q = record { fits = q.fits; wired = q.wired; turns = q.turns; left = q.left }

-- and what is under way goes on
pub stepped : {H : Type 0} {was : H → Ask → List ℕ → H → Type 0} {full : H → Type 0} {gave : H → Place → List ℕ → H → Type 0} {host host_after : H} (old new : Queue) (went : List (Option Operation) → Type 0) (same : Type 0) → (went [] → same) → wired_to new ≡ wired_to old →
    GoesOnAt was full gave old.engine.stage (seen old) (seen new) went host host_after → has_steps old ≡ true → SteppedOver was full gave went same old new host host_after
stepped old new went same none wires led busy =
    let d = stepped_at (seen old) (seen new) (stands old) went same none (ap (λ (w : OwnedWiring). wiring_of w) wires) led busy in
    record {
      words = d.words;
      mid = d.mid;
      given = d.given;
      first = d.first;
      last = d.last;
      asked = d.asked;
      take_none = d.take_none;
      stops = d.stops;
      sized = d.sized;
      told = d.told;
      within = d.within;
      wires = wires;
      offload = d.offload;
      labels = d.labels;
      history = d.history;
      turn = d.turn;
      delivery = d.delivery;
      wait = d.wait;
    }

-- what is known of its operations, and of a step without one, in other words
pub stepped_also : {H : Type 0} {was : H → Ask → List ℕ → H → Type 0} {full : H → Type 0} {gave : H → Place → List ℕ → H → Type 0} {host host_after : H} {went : List (Option Operation) → Type 0} {same : Type 0} {old new : Queue} (also : List (Option Operation) → Type 0) (also_same : Type 0) →
    ((labels : List (Option Operation)) → went labels → also labels) → (same → also_same) → SteppedOver was full gave went same old new host host_after → SteppedOver was full gave also also_same old new host host_after
stepped_also also also_same f h d = record {
  words = d.words;
  mid = d.mid;
  given = d.given;
  first = d.first;
  last = d.last;
  asked = d.asked;
  take_none = d.take_none;
  stops = d.stops;
  sized = d.sized;
  told = d.told;
  within = d.within;
  wires = d.wires;
  offload = d.offload;
  labels = d.labels;
  history = f d.labels d.history;
  turn = d.turn;
  delivery = λ s o packet trace asked token. let r = d.delivery s o packet trace asked token in (r.0, h r.1);
  wait = λ s pages packet trace asked token. let r = d.wait s pages packet trace asked token in (r.0, h r.1);
}

-- ---- what is enough

pub not_few_at_seat : (q : Queue) (words : List ℕ) (ops : List HostOp) → 1024 ≤ length words → 1 ≤ length ops → has_steps q ≡ true → AreFewAtSeat q words ops → ⊥
not_few_at_seat q words ops a c d (inl h) = absurd (omega (arith, a, h))
not_few_at_seat q words ops a c d (inr (inl h)) = absurd (omega (arith, c, h))
not_few_at_seat q words ops a c d (inr (inr h)) = cc (d, h)

pub not_few : (q : Queue) (words counters : List ℕ) (ops : List HostOp) → 1024 ≤ length words → total (wired_to q).program.shapes ≤ length counters → 1 ≤ length ops → has_steps q ≡ true → AreFew q words counters ops → ⊥
not_few q words counters ops a b c d (inl h) = absurd (omega (arith, a, h))
not_few q words counters ops a b c d (inr (inl h)) = absurd (omega (arith, b, h))
not_few q words counters ops a b c d (inr (inr (inl h))) = absurd (omega (arith, c, h))
not_few q words counters ops a b c d (inr (inr (inr h))) = cc (d, h)

-- ---- what begins

pub begun : {H : Type 0} {was : H → Ask → List ℕ → H → Type 0} {full : H → Type 0} {host host_after : H} (old new : Queue) (producer : ℕ) → producer < 2 ^ 32 → wired_to new ≡ wired_to old → new.share ≡ old.share →
    TurnLeads was full no_offload (next (whole_turn (wiring old) old.engine.state) producer) (seen new) host host_after → BeginsOver was full old new producer host host_after
begun old new producer small wires share l =
    let d = begun_at (seen old) (seen new) (stands old) producer small (ap (λ (w : OwnedWiring). wiring_of w) wires) l in
    record {
      first = d.first;
      last = d.last;
      asked = d.asked;
      take_none = d.take_none;
      stops = d.stops;
      sized = d.sized;
      told = d.told;
      within = d.within;
      wires = wires;
      share = share;
      offload = d.offload;
      turn = d.turn;
    }
