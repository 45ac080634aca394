use Rattle.xen_host.proofs.ListLemmas.{kept, untaken}
use Rattle.xen_host.proofs.laws.turns_have_one_list.Goals as goal

pub returns : goal.returns
returns c = record { steps = kept; inside = untaken }
