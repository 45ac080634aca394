-- A transmit comes to an end, whatever it is answered.
use Rattle.std.proofs.Common.{ℕ, zero, suc, ◌+◌, ◌-◌, Bool, true, false, List, [], ◌∷◌, Option, Some, None, Result, Ok, Err, length, nat_lt}
use Rattle.std.specs.Prelude.{if◌then◌else◌}
use Rattle.xen_netif.specs.Slots.{rx_req_of}
use Rattle.xen_netif.specs.declared.offload.RxOffload.{RxOffload}
use Rattle.xen_netif.specs.declared.rx.RxReq.{RxReq}
use Rattle.xen_page.specs.Table.{entry_place}
use Rattle.xen_page.specs.declared.fault.GrantFault.{GrantFault}
use Rattle.xen_page.specs.declared.place.Place.{Place}
use Rattle.xen_page.specs.declared.entry.Rights.{Rights}
use Rattle.xen_page.specs.declared.entry.Rights.TheVariants.{ReadWrite}
use Rattle.xen_ring.specs.Index.{is_due}
use Rattle.xen_steps.specs.Drive.{Any}
use Rattle.xen_steps.specs.Finish.{Ends}
use Rattle.xen_steps.specs.Places.{add32, available}
use Rattle.xen_steps.specs.Steps.{Steps, done, bind}
use Rattle.xen_steps.proofs.FinishLemmas.{ends_bind}
use Rattle.xen_rx_fill.specs.Entries.{entry, entry_at}
use Rattle.xen_rx_fill.specs.Packets.{slots, takes_extra, words}
use Rattle.xen_rx_fill.specs.Transmit.{Posted, after_targets, fill, found, outcome_of, posted, read_targets, requested, rx_answer, rx_notice, rx_respond, targeted, transmit}
use Rattle.xen_rx_fill.specs.declared.by_event.phase.TransmitOutcome.{TransmitOutcome}
use Rattle.xen_rx_fill.specs.declared.by_event.phase.TransmitOutcome.TheVariants as outcome
use Rattle.xen_rx_fill.specs.declared.target.Grants.{Grants}
use Rattle.xen_rx_fill.specs.declared.target.Grants.TheVariants.{Passed, Refused}
use Rattle.xen_rx_fill.specs.declared.target.Target.{Target}
use Rattle.xen_rx_fill.specs.declared.vif.Vif.{Vif}

module _ (w : Vif) where
  pub ends_entry : (rights : Rights) (o : Option Place) → Ends Any (entry_at w rights o)
  ends_entry rights None = tt
  ends_entry rights (Some at) = (tt, λ a e o. (tt, λ b x p. tt))

  ends_posted : (i : ℕ) (rest : RxReq → Steps Posted) → ((q : RxReq) → Ends Any (rest q)) → Ends Any (posted w i rest)
  ends_posted i rest g = (tt, λ a x o. (tt, λ b y p. g (rx_req_of (a ∷ b ∷ []))))

  ends_targeted : (before : List Target) (go : List Target → Steps Posted) (id : ℕ) (r : Result ℕ GrantFault) → ((ts : List Target) → Ends Any (go ts)) → Ends Any (targeted before go id r)
  ends_targeted before go id (Ok frame) g = g _
  ends_targeted before go id (Err fault) g = tt

  ends_requested : (extra : Bool) (before : List Target) (go : List Target → Steps Posted) (q : RxReq) → ((ts : List Target) → Ends Any (go ts)) → Ends Any (requested w extra before go q)
  ends_requested true before go q g = g _
  ends_requested false before go q g =
      ends_bind Any Any (entry w ReadWrite q.gref) (targeted before go q.id) (ends_entry ReadWrite (entry_place w.table.now q.gref)) (λ r u. ends_targeted before go q.id r g)

  ends_targets : (x : ℕ) (o : RxOffload) (left : ℕ) (before : List Target) → Ends Any (read_targets w x o left before)
  ends_targets x o zero before = tt
  ends_targets x o (suc left) before =
      ends_posted (add32 x (length before)) (requested w (takes_extra o (length before)) before (read_targets w x o left))
      (λ q. ends_requested (takes_extra o (length before)) before (read_targets w x o left) q (λ ts. ends_targets x o left ts))

  ends_fill : (f : RxOffload) (ts : List Target) (packet : List ℕ) (n k : ℕ) → Ends Any (fill f ts packet n k)
  ends_fill f ts packet zero k = tt
  ends_fill f ts packet (suc n) k = (tt, λ a e o. ends_fill f ts packet n (k + 1))

  ends_rx_notice : (b : Bool) (o : TransmitOutcome) → Ends Any (rx_notice w b o)
  ends_rx_notice false o = tt
  ends_rx_notice true o = (tt, λ a e p. tt)

  ends_rx_answer : (x : ℕ) (f : RxOffload) (packet : List ℕ) (grants : Grants) (n i : ℕ) (ts : List Target) → Ends Any (rx_answer w x f packet grants n i ts)
  ends_rx_answer x f packet grants n i [] = (tt, λ a e o. (tt, λ v y p. ends_rx_notice (is_due x (add32 x n) v) (outcome_of grants n)))
  ends_rx_answer x f packet grants n i (t ∷ ts) = (tt, λ a e o. (tt, λ b y p. ends_rx_answer x f packet grants n (i + 1) ts))

  ends_after_targets : (x : ℕ) (o : RxOffload) (packet : List ℕ) (p : Posted) → Ends Any (after_targets w x o packet p)
  ends_after_targets x o packet (Ok ts) =
      ends_bind Any Any (fill o ts packet (words packet - 0) 0) (λ v. rx_respond w x o packet Passed ts) (ends_fill o ts packet (words packet - 0) 0)
      (λ v u. ends_rx_answer x o packet Passed (length ts) 0 ts)
  ends_after_targets x o packet (Err ts) = ends_rx_answer x o packet Refused (length ts) 0 ts

  ends_found : (x : ℕ) (o : RxOffload) (packet : List ℕ) (shown : Option ℕ) → Ends Any (found w x o packet shown)
  ends_found x o packet None = tt
  ends_found x o packet (Some m) = by (nat_lt m (slots o packet))
    where
      by : (b : Bool) → Ends Any (if b then done outcome.TooFew else bind (read_targets w x o (slots o packet) []) (after_targets w x o packet))
      by true = tt
      by false = ends_bind Any Any (read_targets w x o (slots o packet) []) (after_targets w x o packet) (ends_targets x o (slots o packet) []) (λ p u. ends_after_targets x o packet p)

  pub ends_transmit : (x : ℕ) (o : RxOffload) (packet : List ℕ) → Ends Any (transmit w x o packet)
  ends_transmit x o packet = (tt, λ p e u. ends_found x o packet (available x p))
