use Rattle.bpf_same.proofs.SharperLemmas.{bits_mask}
use Rattle.bpf_same.proofs.sharper.is_between.Goals as goal

pub returns : goal.returns
returns c = λ same. bits_mask c.args.bits.from c.args.bits.to c.args.mask c.requires.below c.requires.few same
