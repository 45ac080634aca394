use Rattle.xdp_commands.proofs.InputLemmas.{settings_are}
use Rattle.xdp_commands.proofs.input.read_settings.Goals as goal

pub returns-clause-settings : goal.returns-clause-settings
returns-clause-settings g c = settings_are _ _ c.read_up_to.result c.read_up_to.ensures.took c.read_up_to.ensures.few c.read_up_to.ensures.all
