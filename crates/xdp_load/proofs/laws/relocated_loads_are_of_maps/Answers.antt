use Rattle.xdp_load.proofs.RelocationLemmas.{relocated_anywhere}
use Rattle.xdp_load.proofs.laws.relocated_loads_are_of_maps.Goals as goal

pub returns : goal.returns
returns c = relocated_anywhere
