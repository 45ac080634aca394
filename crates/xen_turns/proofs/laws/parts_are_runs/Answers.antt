use Rattle.xen_turns.proofs.CopyParts.{copy_parts, runs_copy}
use Rattle.xen_turns.proofs.ProgramLemmas.{program_parts, runs_program}
use Rattle.xen_turns.proofs.laws.parts_are_runs.Goals as goal

pub returns : goal.returns
returns c = record { copy = copy_parts; copied = runs_copy; program = program_parts; ran = runs_program }
