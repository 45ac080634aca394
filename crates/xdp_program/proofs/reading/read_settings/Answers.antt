use Rattle.xdp_program.proofs.reading.read_settings.Goals as goal

pub returns-clause-setup : goal.returns-clause-setup
returns-clause-setup c = (c.in_ok-listed.ensures.value, rw c.as_slice.ensures.value at c.are_listed.ensures)
