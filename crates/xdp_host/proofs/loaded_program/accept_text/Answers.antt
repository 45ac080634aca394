use Rattle.xdp_host.proofs.FaultLemmas.{refusal_out_of_memory}
use Rattle.xdp_host.proofs.loaded_program.accept_text.Goals as goal

pub returns-in-Err-Program-Refused-clause-accepted : goal.returns-in-Err-Program-Refused-clause-accepted
returns-in-Err-Program-Refused-clause-accepted c = λ s code spelled fine faultless.
    let arm = c.in-Err-Program-Refused in
    refusal_out_of_memory _ _ arm.refusal arm.field-0-is arm.field-0-0-is (arm.ensures.accepted s code spelled fine faultless)
