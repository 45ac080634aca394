use Rattle.xdp_host.proofs.FaultLemmas.{none_outside}
use Rattle.xdp_host.proofs.loaded_program.accept.Goals as goal

pub returns-in_err-shapes-clause-accepted : goal.returns-in_err-shapes-clause-accepted
returns-in_err-shapes-clause-accepted c = λ code spelled fine within.
    let outside = c.in_err-shapes.ensures.outside in
    absurd (none_outside c.args.maps.now outside.0 outside.2 within)
