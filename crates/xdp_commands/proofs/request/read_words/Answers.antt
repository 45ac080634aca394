use Rattle.std.proofs.Common.{◌∙◌, sym}
use Rattle.std.proofs.lemmas.Bool.{false≢true}
use Rattle.xdp_commands.proofs.CommandLineLemmas.{wanted_refused, wanted_taken}
use Rattle.xdp_commands.proofs.request.read_words.Goals as goal

pub returns-in-Ok : goal.returns-in-Ok
returns-in-Ok g c = wanted_taken _ _ c.in-Ok.matches _ c.in_ok-command.ensures c.in-Ok.ensures.kinds c.in-Ok.ensures.matches c.request_in.ensures

pub returns : goal.returns
returns g c = sym (wanted_refused _ _ c.in-Err.error c.in_ok-command.ensures c.in-Err.ensures.kinds (λ h. false≢true (sym c.if-is_memory.false ∙ c.is_memory.ensures.1 h)))
