-- Where a list of slots stands, by the grammar and as it is computed.
use Rattle.std.proofs.Common.{◌≡◌, Bool, true, false, IsTrue, List, Option, Some, None, Result, Ok, Err, refl, subst, inl, inr, sym}
use Rattle.xen_netif.specs.Chain.{HasFault, IsChain, Slot, Stands}
use Rattle.xen_netif.specs.Standing.{standing}
use Rattle.xen_netif.specs.declared.chain.ChainState.{ChainState}
use Rattle.xen_netif.specs.declared.chain.ChainState.TheVariants as wanted
use Rattle.xen_netif.specs.declared.fault.ChainFault.{ChainFault}
use Rattle.xen_netif.proofs.GrammarLemmas.{standing-is, stands}
use Rattle.xen_turns.specs.Parts.{IsBeginning}

-- more slots are wanted
abbrev pub is_open : Option (Result ChainState ChainFault) → Bool
is_open (Some (Ok wanted.Data)) = true
is_open (Some (Ok wanted.Extra)) = true
is_open o = false

stands_by : (slots : List Slot) (way : Option (Result ChainState ChainFault)) → standing slots ≡ way → Stands slots way
stands_by slots way e = subst (λ (o : Option (Result ChainState ChainFault)). Stands slots o) e (stands slots)

pub chain_by : (slots : List Slot) → standing slots ≡ Some (Ok wanted.Complete) → IsChain slots
chain_by slots e = stands_by slots (Some (Ok wanted.Complete)) e

pub standing_chain : (slots : List Slot) → IsChain slots → standing slots ≡ Some (Ok wanted.Complete)
standing_chain slots h = standing-is slots (Some (Ok wanted.Complete)) h

pub fault_by : (slots : List Slot) (fault : ChainFault) → standing slots ≡ Some (Err fault) → HasFault fault slots
fault_by slots fault e = stands_by slots (Some (Err fault)) e

pub standing_fault : (slots : List Slot) (fault : ChainFault) → HasFault fault slots → standing slots ≡ Some (Err fault)
standing_fault slots fault h = standing-is slots (Some (Err fault)) h

beginning_from : (slots : List Slot) (o : Option (Result ChainState ChainFault)) → standing slots ≡ o → IsTrue (is_open o) → IsBeginning slots
beginning_from slots (Some (Ok wanted.Data)) e h = inl (stands_by slots (Some (Ok wanted.Data)) e)
beginning_from slots (Some (Ok wanted.Extra)) e h = inr (stands_by slots (Some (Ok wanted.Extra)) e)
beginning_from slots (Some (Ok wanted.Complete)) e h = cc
beginning_from slots (Some (Err fault)) e h = cc
beginning_from slots None e h = cc

pub beginning_by : (slots : List Slot) → IsTrue (is_open (standing slots)) → IsBeginning slots
beginning_by slots h = beginning_from slots (standing slots) refl h

pub open_beginning : (slots : List Slot) → IsBeginning slots → IsTrue (is_open (standing slots))
open_beginning slots (inl h) = subst (λ (o : Option (Result ChainState ChainFault)). IsTrue (is_open o)) (sym (standing-is slots (Some (Ok wanted.Data)) h)) refl
open_beginning slots (inr h) = subst (λ (o : Option (Result ChainState ChainFault)). IsTrue (is_open o)) (sym (standing-is slots (Some (Ok wanted.Extra)) h)) refl
