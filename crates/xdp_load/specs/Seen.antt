-- For proofs: no claim rests on this file.
-- What the rows of the code stand for.
use Rattle.std.specs.Prelude.{ℤ, List, map}
use Rattle.toml.specs.View.{view}
use Rattle.toml.specs.declared.value.Value.{Value}
use Rattle.xdp_load.specs.declared.kinds.MapRow.{MapRow}
use Rattle.xdp_load.specs.declared.kinds.RelocRow.{RelocRow}
use Rattle.xdp_load.specs.declared.kinds.PacketRow.{PacketRow}
use Rattle.xdp_load.specs.declared.kinds.StepRow.{StepRow}
use Rattle.xdp_load.specs.declared.kinds.PlaceRow.{PlaceRow}
use Rattle.xdp_load.specs.declared.kinds.HexRow.{HexRow}
use Rattle.xdp_load.specs.declared.document.Written.{Written}
use Rattle.xdp_load.specs.Document.{MapText, RelocText, PacketText, PlaceText, StepText, Text, number_in}
use Rattle.xdp_load.specs.Written.{WrittenText}

abbrev pub row_numbers : List Value → List ℤ
row_numbers vs = map number_in (map view vs)

abbrev pub map_seen : MapRow → MapText
map_seen m = record { name = m.name.now; entries = m.entries; counters = m.counters; values = row_numbers m.values.now }

abbrev pub reloc_seen : RelocRow → RelocText
reloc_seen r = record { slot = r.slot; map = r.map.now }

abbrev pub packet_seen : PacketRow → PacketText
packet_seen p = record { queue = p.queue; bytes = p.bytes.now; times = p.times }

abbrev pub step_seen : StepRow → StepText
step_seen s = record { queue = s.queue; answer = s.answer }

abbrev pub place_seen : PlaceRow → PlaceText
place_seen p = record { at = p.at; own = p.own }

abbrev pub hex_seen : HexRow → Text
hex_seen h = h.text.now

abbrev pub written_seen : Written → WrittenText
written_seen w = record {
  program = map hex_seen w.program.items;
  numbers = w.numbers;
  maps = map map_seen w.maps.items;
  relocs = map reloc_seen w.relocs.items;
  script = map step_seen w.script.items;
  packets = map packet_seen w.packets.items;
}
