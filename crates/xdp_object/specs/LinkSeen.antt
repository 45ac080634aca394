-- For proofs: no claim rests on this file.
-- What contracts see of a linked program.
use Rattle.xdp_object.specs.Link.{Links}
use Rattle.xdp_object.specs.declared.link.LinkedProgram.{LinkedProgram}

abbrev pub links_seen : LinkedProgram → Links
links_seen l = record { maps = l.maps.items; sections = l.sections.items; program = l.program.items }
