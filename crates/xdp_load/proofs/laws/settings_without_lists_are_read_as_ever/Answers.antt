use Rattle.xdp_load.proofs.PlainLemmas.{read_as_ever}
use Rattle.xdp_load.proofs.laws.settings_without_lists_are_read_as_ever.Goals as goal

pub returns : goal.returns
returns c = read_as_ever
