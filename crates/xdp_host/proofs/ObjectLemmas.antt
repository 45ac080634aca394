-- Memory may run out once a setup's program is accepted.
use Rattle.std.proofs.Common.{ℕ, List}
use Rattle.bpf_insn.specs.Code.{Spells}
use Rattle.bpf_note.specs.Shape.{Shape}
use Rattle.bpf_verify.specs.Consistent.{Accepted}
use Rattle.xdp_program.proofs.LoadLemmas.{out_of_memory_refused}
use Rattle.xdp_host.specs.Objects.{IsSetupFault}
use Rattle.xdp_host.specs.Verdict.{out_of_memory}

pub out_of_memory_setup : (bytes : List ℕ) (shapes : List Shape) (p : Accepted) → Spells p.code bytes → IsSetupFault bytes shapes out_of_memory
out_of_memory_setup bytes shapes p spelled = out_of_memory_refused p.code bytes shapes spelled
