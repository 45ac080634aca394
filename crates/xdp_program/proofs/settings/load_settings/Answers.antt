use Rattle.xdp_program.proofs.SettingsLemmas.{settings_accepted}
use Rattle.xdp_program.specs.declared.settings.NamedProgram.{NamedProgram}
use Rattle.xdp_program.proofs.settings.load_settings.Goals as goal

pub returns-clause-accepted : goal.returns-clause-accepted
returns-clause-accepted c = settings_accepted (λ (n : NamedProgram). n.program) c.faultless_programs_are_accepted.ensures c.accept.result c.args.text.now c.accept.ensures.program c.accept.ensures.refused
