-- For proofs: no claim rests on this file.
-- What an original as it is written stands for.
use Rattle.std.specs.Prelude.{map}
use Rattle.xdp_load.specs.declared.original.Original.{Original}
use Rattle.xdp_load.specs.declared.rewritten.Unsorted.{Unsorted}
use Rattle.xdp_load.specs.ListedSeen.{lists_seen}
use Rattle.xdp_load.specs.Original.{OriginalText, RewrittenView}
use Rattle.xdp_load.specs.OriginalSeen.{place_view}
use Rattle.xdp_load.specs.SetupSeen.{setup_view}
use Rattle.xdp_load.specs.Seen.{hex_seen, place_seen, reloc_seen}

abbrev pub original_seen : Original → OriginalText
original_seen o = record {
  program = map hex_seen o.program.items;
  relocs = map reloc_seen o.relocs.items;
  places = map place_seen o.places.items;
}

abbrev pub rewritten_seen : Unsorted → RewrittenView
rewritten_seen r = record {
  setup = setup_view r.setup;
  lists = lists_seen r.lists.items;
  original = r.original.items;
  places = map place_view r.places.items;
}
