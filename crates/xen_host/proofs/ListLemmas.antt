-- A turn keeps its queue's lists.
use Rattle.std.proofs.Common.{◌≡◌, ℕ, zero, suc, List, length, sym, ap, ◌∙◌, subst, arith}
use Rattle.std.specs.Prelude.{None, Option, IsSome, replicate}
use Rattle.std.proofs.lemmas.List.{length-replicate}
use Rattle.bpf_lists.specs.declared.list.MapList.{MapList}
use Rattle.xen_turns.specs.declared.state.State.{State}
use Rattle.xen_host.specs.Loops.{AreSteps}
use Rattle.xen_host.specs.Queues.{HasBegun, resting, wired_to}
use Rattle.xen_host.specs.Relisted.{IsRelist}
use Rattle.xen_host.specs.declared.op.HostOp.{HostOp}
use Rattle.xen_host.specs.declared.queue.Queue.{Queue}
use Rattle.xen_host.specs.declared.relisting.Relist.{Relist}
use Rattle.xen_host.specs.declared.relisting.Relist.TheVariants.{Relisted, Busy}
use Rattle.xen_host.specs.declared.wires.OwnedWiring.{OwnedWiring}

steps_keep : (n : ℕ) (old new : Queue) → AreSteps n old new → (wired_to new) ≡ wired_to old
steps_keep zero old new e = ap (λ (q : Queue). (wired_to q)) (sym e)
steps_keep (suc n) old new h = steps_keep n h.0 new h.2 ∙ h.1.stepped.wires

-- a page of words
page : List ℕ
page = replicate 1024 0

page_length : length page ≡ 1024
unfolding page
page_length = length-replicate {A = ℕ} 1024 0

pub kept : (old begun new : Queue) (producer : ℕ) (ops ops_after : List HostOp) (count n : ℕ) → HasBegun old begun producer ops ops_after count →
    AreSteps n begun new → (wired_to new).lists ≡ (wired_to old).lists
kept old begun new producer ops ops_after count n h steps =
    ap (λ (w : OwnedWiring). w.lists) (steps_keep n begun new steps ∙ (h page (omega (arith, page_length))).wires)

pub untaken : (old new : Queue) (lists : List (Option MapList)) (answer : Relist) → IsRelist old new lists answer → resting old ≡ None → new ≡ old
untaken old new lists Relisted h none = cc (subst (λ (o : Option State). IsSome o) none h.0)
untaken old new lists Busy h none = h.1
