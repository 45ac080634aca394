-- Stated: claims rest on this file.
-- What the spots of the code stand for.
use Rattle.std.specs.Prelude.{string_bytes}
use Rattle.xdp_load.specs.Spot.{Refused, Spot, at, row, stopped, unknown, whole}
use Rattle.xdp_load.specs.declared.fault.Refused.{Refused as CodeRefused}
use Rattle.xdp_load.specs.declared.spot.Spot.{Spot as CodeSpot}
use Rattle.xdp_load.specs.declared.spot.Spot.TheVariants as code

abbrev pub spot_seen : CodeSpot → Spot
spot_seen code.Text = whole
spot_seen (code.Byte n) = stopped
spot_seen (code.At k) = at k
spot_seen (code.Row k n) = row k n
spot_seen (code.Unknown name) = unknown (string_bytes name)

abbrev pub refused_seen : CodeRefused → Refused
refused_seen r = record { fault = r.fault; part = r.part; spot = spot_seen r.spot }
