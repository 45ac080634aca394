-- For proofs: no claim rests on this file.
-- What the limited rows of the code stand for.
use Rattle.std.specs.Prelude.{map}
use Rattle.xdp_load.specs.declared.limits.HexPacket.{HexPacket as CodePacket}
use Rattle.xdp_load.specs.declared.limits.WithinLimits.{WithinLimits}
use Rattle.xdp_load.specs.Limits.{HexPacket, LimitedText}

abbrev pub hex_packet_seen : CodePacket → HexPacket
hex_packet_seen p = record { queue = p.queue; bytes = p.bytes.now; times = p.times }

abbrev pub limited_seen : WithinLimits → LimitedText
limited_seen l = record {
  numbers = l.numbers;
  shapes = l.shapes.items;
  script = l.script.items;
  packets = map hex_packet_seen l.packets.items;
}
