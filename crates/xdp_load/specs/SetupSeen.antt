-- Stated: claims rest on this file.
-- What a setup of the code stands for.
use Rattle.std.specs.Prelude.{map, string_bytes}
use Rattle.xdp_load.specs.declared.packets.SentPacket.{SentPacket as CodePacket}
use Rattle.xdp_load.specs.declared.setup.Setup.{Setup}
use Rattle.xdp_load.specs.Setup.{Packet, SetupView}

abbrev pub packet_view : CodePacket → Packet
packet_view p = record { queue = p.queue; bytes = p.bytes.items; times = p.times }

abbrev pub setup_view : Setup → SetupView
setup_view s = record {
  program = s.program.items;
  shapes = s.shapes.items;
  values = map (λ v. v.items) s.values.items;
  names = map string_bytes s.names.items;
  queues = s.queues;
  ifindex = s.ifindex;
  start = s.start;
  script = s.script.items;
  packets = map packet_view s.packets.items;
}
