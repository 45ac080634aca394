use Rattle.bpf_same.proofs.LiveLemmas.{with_is}
use Rattle.bpf_same.proofs.live.with.Goals as goal

pub returns : goal.returns
returns c = λ k e. with_is c.args.mask c.args.register k c.requires e
