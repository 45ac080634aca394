-- Stated: claims rest on this file.
-- What settings with an original stand for.
use Rattle.std.specs.Prelude.{map}
use Rattle.xdp_load.specs.declared.original.OriginalPlace.{OriginalPlace as CodePlace}
use Rattle.xdp_load.specs.declared.rewritten.Rewritten.{Rewritten}
use Rattle.xdp_load.specs.Original.{Place, RewrittenView}
use Rattle.xdp_load.specs.SetupSeen.{setup_view}

abbrev pub place_view : CodePlace → Place
place_view p = record { at = p.at; own = p.own }

abbrev pub rewritten_view : Rewritten → RewrittenView
rewritten_view r = record {
  setup = setup_view r.listed.setup;
  lists = r.listed.lists.items;
  original = r.original.items;
  places = map place_view r.places.items;
}
