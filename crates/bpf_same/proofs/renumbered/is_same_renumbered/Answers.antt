use Rattle.bpf_same.proofs.RenumberedLemmas.{renumbered_same}
use Rattle.bpf_same.proofs.renumbered.is_same_renumbered.Goals as goal

pub returns-clause-same : goal.returns-clause-same
returns-clause-same c = λ t shapes. renumbered_same shapes c.args.witnesses.now c.args.old.now c.args.new.now (c.is_renumbering.ensures.0 t)
