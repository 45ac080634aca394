-- A step that may run the program.
use Rattle.std.proofs.Common.{◌≡◌, ℕ, List, [], refl, subst}
use Rattle.std.specs.Prelude.{Option}
use Rattle.bpf_note.specs.declared.op.Op.{Op}
use Rattle.xen_host.specs.Offload.{Offload}
use Rattle.xen_steps.specs.Steps.{Steps}
use Rattle.xen_turns.specs.Turned.{Ending}
use Rattle.xen_host.specs.Asks.{Ask}
use Rattle.xen_host.specs.HostLed.{TurnLeads, TurnRanLeads}
use Rattle.xen_host.specs.EngineAt.{EngineAt}

-- It didn't.
pub ran_none : {H : Type 0} (was : H → Ask → List ℕ → H → Type 0) (full : H → Type 0) (offload : Offload) (from : Steps Ending) (new : EngineAt) (went : List (Option Op) → Type 0) (host host_after : H) →
    went [] → TurnLeads was full offload from new host host_after → TurnRanLeads was full offload from new went host host_after
ran_none was full offload from new went host host_after none h = record { between = from; ran = record { labels = []; history = none; gone = refl }; led = h }

-- From another computation that is the same.
pub ran_from_same : {H : Type 0} (was : H → Ask → List ℕ → H → Type 0) (full : H → Type 0) (offload : Offload) (from same : Steps Ending) (new : EngineAt) (went : List (Option Op) → Type 0) (host host_after : H) →
    same ≡ from → TurnRanLeads was full offload same new went host host_after → TurnRanLeads was full offload from new went host host_after
ran_from_same was full offload from same new went host host_after e h = subst (λ (x : Steps Ending). TurnRanLeads was full offload x new went host host_after) e h

-- From another computation that is the same, with no run.
pub ran_led : {H : Type 0} (was : H → Ask → List ℕ → H → Type 0) (full : H → Type 0) (offload : Offload) (from same : Steps Ending) (new : EngineAt) (went : List (Option Op) → Type 0) (host host_after : H) →
    went [] → same ≡ from → TurnLeads was full offload same new host host_after → TurnRanLeads was full offload from new went host host_after
ran_led was full offload from same new went host host_after none e h =
    ran_from_same was full offload from same new went host host_after e (ran_none was full offload same new went host host_after none h)
