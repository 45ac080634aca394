-- Stated: claims rest on this file.
-- What holds of each setup.
use Rattle.std.specs.Prelude.{ℕ, ◌≡◌, ◌<◌, ◌≤◌, length, true}
use Rattle.std.specs.List.{AllByRecursion}
use Rattle.bpf_note.specs.Shape.{IsNarrow}
use Rattle.xdp_load.specs.Limits.{are_names}
use Rattle.xdp_load.specs.Setup.{Packet, SetupView}
use Rattle.xdp_load.specs.Values.{AreFilled}

-- a packet's numbers and length are within their limits
pub record IsPacket (queues : ℕ) (p : Packet) : Type 0 where
  pub queue : p.queue < queues
  pub long : 14 ≤ length p.bytes
  pub short : length p.bytes ≤ 65535
  pub some_times : 1 ≤ p.times
  pub few_times : p.times ≤ 100000

-- the numbers and lengths are within their limits, each queue number is below the number of queues, each map has a name of its own
pub record IsSound (s : SetupView) : Type 0 where
  pub some_queues : 1 ≤ s.queues
  pub few_queues : s.queues ≤ 8
  pub few_maps : length s.shapes ≤ 4
  pub shapes : AllByRecursion IsNarrow s.shapes
  pub values : AreFilled s.shapes s.values
  pub named : length s.names ≡ length s.shapes
  pub names : are_names s.names ≡ true
  pub script : AllByRecursion (λ p. p.0 < s.queues) s.script
  pub packets : AllByRecursion (IsPacket s.queues) s.packets
