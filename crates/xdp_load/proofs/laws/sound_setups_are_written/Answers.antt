use Rattle.xdp_load.proofs.CompleteLemmas.{is_written}
use Rattle.xdp_load.proofs.laws.sound_setups_are_written.Goals as goal

pub returns : goal.returns
returns c = is_written
