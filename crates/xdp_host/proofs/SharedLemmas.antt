-- Making counters that queues share, or telling why there are none.
use Rattle.std.proofs.Common.{◌≡◌, ◌<◌, ◌⊎◌, ℕ, Option, Some, inl, inr}
use Rattle.std.specs.Prelude.{Err, IfErr, IfOk, Ok, Result}
use Rattle.std.specs.Global.{Box}
use Rattle.bpf_verify.specs.Consistent.{Accepted}
use Rattle.xen_host.specs.Sharing.{AreNewFor}
use Rattle.xen_host.specs.declared.sharing.SharedCounters.{SharedCounters}
use Rattle.xen_host.specs.declared.sharing.SharedFault.{SharedFault}
use Rattle.xen_host.specs.declared.sharing.SharedFault.TheVariants as shared
use Rattle.xdp_host.specs.Shared.{MakesShared, shared_number}

pub makes_shared : (p : Accepted) (queues : ℕ) (old new : Option SharedCounters) (answer : ℕ) (made : Result (Box SharedCounters) SharedFault) →
    IfOk made (λ b. AreNewFor p queues b.value) → IfErr made (λ f. f ≡ shared.Seats → (queues ≡ 0) ⊎ (63 < queues)) →
    IfOk made (λ b. (new ≡ Some b.value) × (answer ≡ 0)) → IfErr made (λ f. (new ≡ old) × (answer ≡ shared_number f)) → MakesShared p queues old new answer
makes_shared p queues old new answer (Ok b) ok err there kept = inl (b.value, there.0, ok, there.1)
makes_shared p queues old new answer (Err f) ok err there kept = inr (f, kept.1, kept.0, err)
