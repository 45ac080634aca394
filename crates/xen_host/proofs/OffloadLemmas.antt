-- What is left undone of a packet, after one more slot.
use Rattle.std.proofs.Common.{◌≡◌, ◌∙◌, List, [], ◌∷◌, ◌++◌, ap, refl, sym}
use Rattle.std.specs.Prelude.{Bool, None, Ok, Option, Result, Some, false, true}
use Rattle.xen_netif.specs.Chain.{Slot, extra_info, more_data}
use Rattle.xen_netif.specs.Segments.{segments_behind, segments_of}
use Rattle.xen_netif.specs.Standing.{standing}
use Rattle.xen_netif.specs.declared.chain.ChainState.{ChainState}
use Rattle.xen_netif.specs.declared.chain.ChainState.TheVariants as wanted
use Rattle.xen_netif.specs.declared.fault.ChainFault.{ChainFault}
use Rattle.xen_netif.specs.declared.flags.TxFlags.{TxFlags}
use Rattle.xen_netif.specs.declared.segments.Offers.{Offers}
use Rattle.xen_netif.specs.declared.segments.Segments.{Segments}
use Rattle.xen_host.specs.Rest.{flags_behind, offload_behind, segments_if}
use Rattle.xen_host.specs.Offload.{Offload}

abbrev pub made : TxFlags → Option Segments → Offload
made flags segments = record { flags = flags; segments = segments }

pub made_behind : (offers : Offers) (before : List Slot) (slot : Slot) (old : Offload) (flags : TxFlags) (o : Option (Result ChainState ChainFault)) →
    flags ≡ flags_behind before slot old.flags → standing (before ++ slot ∷ []) ≡ o →
    made flags (segments_if offers (before ++ slot ∷ []) o) ≡ offload_behind offers before slot old
made_behind offers before slot old flags o f e =
    ap (λ x. made x (segments_if offers (before ++ slot ∷ []) o)) f ∙ ap (λ x. made (flags_behind before slot old.flags) (segments_if offers (before ++ slot ∷ []) x)) (sym e)

pub made_of : (l : Offload) (flags : TxFlags) (segments : Option Segments) → l.flags ≡ flags → l.segments ≡ segments → l ≡ made flags segments
made_of l flags segments f s = ap (λ x. made x l.segments) f ∙ ap (made flags) s

-- one slot says nothing of segments
pub single_says : (offers : Offers) (slot : Slot) → segments_of offers (slot ∷ []) ≡ None
single_says offers slot = by (extra_info slot)
  where
    by : (asked : Bool) → segments_behind offers asked slot [] ≡ None
    by false = refl
    by true = refl

-- a slot that is a whole chain
pub stands_alone : (slot : Slot) → extra_info slot ≡ false → more_data slot ≡ false → standing (slot ∷ []) ≡ Some (Ok wanted.Complete)
stands_alone slot plain alone = rw plain (rw alone refl)

pub alone_behind : (offers : Offers) (slot : Slot) (old l : Offload) → extra_info slot ≡ false → more_data slot ≡ false →
    l.flags ≡ flags_behind [] slot old.flags → l.segments ≡ None → l ≡ offload_behind offers [] slot old
alone_behind offers slot old l plain alone flags none =
    made_of l _ _ flags (none ∙ sym (single_says offers slot)) ∙ made_behind offers [] slot old _ (Some (Ok wanted.Complete)) refl (stands_alone slot plain alone)
