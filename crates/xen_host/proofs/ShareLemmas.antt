-- Counters that queues share: what is known of their seats.
use Rattle.std.proofs.Common.{◌≡◌, ◌∙◌, ◌++◌, ◌∷◌, [], ℕ, All, List, None, Option, Some, ap, refl, subst, sym}
use Rattle.std.specs.List.{range_with_len}
use Rattle.std.proofs.lemmas.List.Elements.{All-map, All-pop}
use Rattle.bpf_note.specs.Shape.{Shape}
use Rattle.bpf_note.specs.declared.op.Op.{Op}
use Rattle.bpf_maps.specs.Seats.{CountersView, IsSeatOf, SeatView, new_seat, new_seats}
use Rattle.xdp_program.specs.Tallies.{DidAtSeat, IsSeated, Went}
use Rattle.xdp_program.specs.declared.tallies.Seated.{Seated}
use Rattle.xen_host.specs.Shares.{IsSharedBy}
use Rattle.xen_host.specs.declared.sharing.Share.{Share}
use Rattle.xen_host.specs.declared.wires.OwnedWiring.{OwnedWiring}

-- new seats are of their counters, also those that are left when the last is taken
pub new_own : (c : CountersView) (n : ℕ) → All (IsSeatOf c) (new_seats c n)
new_own c n = All-map (IsSeatOf c) (new_seat c) (range_with_len 0 n) (λ k d h. (refl, refl, refl))

pub all_popped : (P : SeatView → Type 0) (xs ys : List SeatView) (x : SeatView) → xs ≡ ys ++ x ∷ [] → All P xs → All P ys × P x
all_popped P xs ys x e all = All-pop P xs ys (Some x) e all

-- a share in counters of the same maps
pub passed : (w v : OwnedWiring) (s : Option Share) → v.program.shapes ≡ w.program.shapes → IsSharedBy w s → IsSharedBy v s
passed w v None e h = tt
passed w v (Some s) e h = h ∙ sym e

-- a seat is of its counters still, after operations there
seated_then : (shapes : List Shape) (op : Op) (before mid : Seated) → DidAtSeat shapes op before mid → IsSeated shapes before → IsSeated shapes mid
seated_then shapes op before mid d h =
    let seat = d.0 in
    let of_mid : IsSeatOf before.counters.now mid.seat.now = (ap (λ (s : SeatView). s.table) seat ∙ h.1.0, ap (λ (s : SeatView). s.shapes) seat ∙ h.1.1, ap (λ (s : SeatView). s.begin) seat ∙ h.1.2) in
    subst (λ c. (c.now.shapes ≡ shapes) × IsSeatOf c.now mid.seat.now) (sym d.2) (h.0, of_mid)

pub serves_grown : (shapes : List Shape) (labels : List (Option Op)) (before after : Seated) → IsSeated shapes before → Went (DidAtSeat shapes) before after labels → IsSeated shapes after
serves_grown shapes [] before after s w = subst (λ (c : Seated). IsSeated shapes c) w s
serves_grown shapes (None ∷ labels) before after s w = serves_grown shapes labels before after s w
serves_grown shapes (Some op ∷ labels) before after s w = serves_grown shapes labels w.0 after (seated_then shapes op before w.0 w.1 s) w.2
