use Rattle.bpf_same.proofs.LiveLemmas.{without_others, without_gone}
use Rattle.bpf_same.proofs.live.without.Goals as goal

pub returns-clause-others : goal.returns-clause-others
returns-clause-others c = λ k l e. without_others c.args.mask c.args.register k c.requires l e

pub returns-clause-gone : goal.returns-clause-gone
returns-clause-gone c = λ k e. without_gone c.args.mask c.args.register k c.requires e
