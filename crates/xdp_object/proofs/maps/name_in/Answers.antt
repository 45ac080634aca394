use Rattle.bpf_object.specs.Map.{no_name}
use Rattle.xdp_object.proofs.maps.name_in.Goals as goal

pub returns-in-Err-clause-err : goal.returns-in-Err-clause-err
returns-in-Err-clause-err c = (c.args.types.now, c.requires, no_name c.in-Err.fault c.in-Err.ensures.err)
