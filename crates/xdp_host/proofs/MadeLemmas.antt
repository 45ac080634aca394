-- Making a queue, or telling why there is none.
use Rattle.std.proofs.Common.{◌≡◌, ℕ, List, inl, inr, Option, Some}
use Rattle.std.specs.Prelude.{Result, Ok, Err, IfOk, IfErr}
use Rattle.std.specs.Global.{Box}
use Rattle.bpf_lists.specs.declared.list.MapList.{MapList}
use Rattle.bpf_verify.specs.Consistent.{Accepted}
use Rattle.xen_host.specs.Making.{Given, IsFaultOf, IsMadeOf}
use Rattle.xen_host.specs.declared.make.MakeFault.{MakeFault}
use Rattle.xen_host.specs.declared.queue.Queue.{Queue}
use Rattle.xdp_host.specs.Made.{MakesOr, fault_number}
use Rattle.xdp_host.specs.declared.queue_fault.QueueFault.TheVariants.{Make}

pub makes_or : (p : Accepted) (lists : List (Option MapList)) (g : Given) (old new : Option Queue) (answer : ℕ) (made : Result (Box Queue) MakeFault) →
    IfOk made (λ b. IsMadeOf p lists g b.value) → IfErr made (λ f. IsFaultOf g f) → IfOk made (λ b. (new ≡ Some b.value) × (answer ≡ 0)) →
    IfErr made (λ f. (new ≡ old) × (answer ≡ fault_number (Make f))) → MakesOr p lists g old new answer
makes_or p lists g old new answer (Ok b) ok err there kept = inl (record { queue = b.value; there = there.0; made = ok; answer_is = there.1 })
makes_or p lists g old new answer (Err f) ok err there kept = inr (record { fault = f; is = err; kept = kept.0; answer_is = kept.1 })
