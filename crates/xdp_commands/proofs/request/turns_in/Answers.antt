use Rattle.std.specs.Str.Parse.{ExplainsUnsignedError, HasUnsignedDigitsIfOk, ParsesUnsigned}
use Rattle.clap.specs.Words.{found_of}
use Rattle.xdp_commands.proofs.TurnsLemmas.{number_found}
use Rattle.xdp_commands.proofs.request.turns_in.Goals as goal

pub returns : goal.returns
returns c =
    number_found (λ bs r. ParsesUnsigned 32 10 bs r × ExplainsUnsignedError 10 bs r × HasUnsignedDigitsIfOk bs r) (found_of c.args.matches.now) _ _ (λ t x g. g.0)
    c.get_one.ensures.none c.get_one.ensures.value
