use Rattle.xdp_program.specs.Settings.{AreListsOf, AreNamesOf, IsProgramOf}
use Rattle.xdp_host.specs.Answers.{IsFaultOfText}
use Rattle.xdp_host.specs.Verdict.{out_of_memory}
use Rattle.xdp_host.proofs.FaultLemmas.{out_of_memory_loaded_text, ok_with, err_with}
use Rattle.xdp_host.proofs.loaded_program.LoadedProgram.load_settings.Goals as goal

pub returns-in-Ok-clause-loaded : goal.returns-in-Ok-clause-loaded
returns-in-Ok-clause-loaded c = ok_with c.boxed.result (λ b. b.value.program) (IsProgramOf c.args.text.now) c.in-Ok.named.program c.boxed.ensures.program c.in-Ok.ensures.loaded

pub returns-in-Ok-clause-names : goal.returns-in-Ok-clause-names
returns-in-Ok-clause-names c = ok_with c.boxed.result (λ b. b.value.names) (AreNamesOf c.args.text.now) c.in-Ok.named.names c.boxed.ensures.names c.in-Ok.ensures.names

pub returns-in-Ok-clause-lists : goal.returns-in-Ok-clause-lists
returns-in-Ok-clause-lists c = ok_with c.boxed.result (λ b. b.value.lists) (AreListsOf c.args.text.now) c.in-Ok.named.lists c.boxed.ensures.lists c.in-Ok.ensures.lists

pub returns-in-Ok-clause-fault : goal.returns-in-Ok-clause-fault
returns-in-Ok-clause-fault c = err_with c.boxed.result (IsFaultOfText c.args.text.now) out_of_memory c.boxed.ensures.err (out_of_memory_loaded_text c.args.text.now c.in-Ok.named.program c.in-Ok.ensures.loaded c.in-Ok.ensures.few)
