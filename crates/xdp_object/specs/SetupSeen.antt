-- Stated: claims rest on this file.
-- What contracts see of a setup.
use Rattle.std.specs.Prelude.{map, string_bytes}
use Rattle.xdp_object.specs.Setup.{SetupView}
use Rattle.xdp_object.specs.declared.setup.ObjectSetup.{ObjectSetup}

abbrev pub setup_seen : ObjectSetup → SetupView
setup_seen s = record {
  program = s.program.items;
  maps = record { names = map string_bytes s.names.items; shapes = s.shapes.items; lists = s.lists.items };
}
