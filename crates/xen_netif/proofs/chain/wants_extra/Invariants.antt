use Rattle.std.proofs.Common.{◌≡◌, ◌++◌, ◌∷◌, List, drop, length}
use Rattle.std.specs.Prelude.{slice_get}
use Rattle.xen_netif.specs.Chain.{Slot, requests_after, requests_of}
use Rattle.xen_netif.proofs.chain.wants_extra.Given as goal

abbrev pub invariant-loop-slot : goal.invariant-loop-slot
invariant-loop-slot l =
    (slot : Slot) (rest : List Slot) → slice_get (requests_of (l.before ++ slot ∷ rest)) (length l.before)
    ≡ slice_get (requests_after l.extra_asked (drop l.slot-index l.later ++ slot ∷ rest)) (length (drop l.slot-index l.later))
