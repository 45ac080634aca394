use Rattle.xdp_load.proofs.LineLemmas.{behind_is}
use Rattle.xdp_load.proofs.line_words.behind.Goals as goal

pub returns : goal.returns
returns c = behind_is c.args.word.now c.args.text.now c.strip_prefix.result c.strip_prefix.ensures.cases
