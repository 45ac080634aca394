-- Stated: claims rest on this file.
-- The limits of the numbers and the lengths.
use Rattle.std.specs.Prelude.{Result, Ok, Err, ◌&&◌, ◌||◌, ◌/◌, ◌*◌, ℕ, suc, Bool, true, false, not, List, [], ◌∷◌, length}
use Rattle.std.specs.Prelude.{Option, Some, None, nat_le, if◌then◌else◌}
use Rattle.std.specs.List.{list_any}
use Rattle.std.specs.Str.{bytes_eq}
use Rattle.bpf_note.specs.declared.key.MapKey.TheVariants.{Index}
use Rattle.bpf_note.specs.Shape.{Shape}
use Rattle.xdp_load.specs.Document.{Text, MapText, PacketText, StepText}
use Rattle.xdp_load.specs.declared.fault.Fault.TheVariants.{Limit}
use Rattle.xdp_load.specs.declared.key.Key.{Key}
use Rattle.xdp_load.specs.declared.key.Key.TheVariants as key
use Rattle.xdp_load.specs.declared.numbers.Limits.{Limits}
use Rattle.xdp_load.specs.Gives.{each, in_key, ◌>>=◌}
use Rattle.xdp_load.specs.Numbers.{below, limited, limited_numbers}
use Rattle.xdp_load.specs.Spot.{Refused, at, refused}
use Rattle.xdp_load.specs.Values.{are_values}
use Rattle.xdp_load.specs.Written.{WrittenText}

abbrev pub limited_shape : MapText → Result Shape Key
limited_shape m = do
  entries ← limited key.Entries m.entries
  counters ← limited key.Counters m.counters
  if are_values (counters * entries) m.values then Ok (record { entries = entries; counters = counters; key = Index; parts = false }) else Err key.Values

abbrev pub limited_step : ℕ → StepText → Result (ℕ × ℕ) Key
limited_step queues s = do
  queue ← below key.StepQueue queues s.queue
  answer ← limited key.Answer s.answer
  Ok (queue, answer)

-- a packet whose bytes are still hex
pub record HexPacket : Type 0 where
  pub queue : ℕ
  pub bytes : Text
  pub times : ℕ

-- the length has two digits a byte
abbrev pub is_packet_text : Text → Bool
is_packet_text t = nat_le 14 (length t / 2) && nat_le (length t / 2) 65535

abbrev pub packet_text : Text → Result Text Key
packet_text t = if is_packet_text t then Ok t else Err key.Bytes

abbrev pub limited_packet : ℕ → PacketText → Result HexPacket Key
limited_packet queues p = do
  queue ← below key.PacketQueue queues p.queue
  bytes ← packet_text p.bytes
  times ← limited key.Times p.times
  Ok (record { queue = queue; bytes = bytes; times = times })

pub record LimitedText : Type 0 where
  pub numbers : Limits
  pub shapes : List Shape
  pub script : List (ℕ × ℕ)
  pub packets : List HexPacket

-- the script and the packets, beside these maps
unfoldable pub limited_with : WrittenText → Limits → List Shape → Result LimitedText Refused
limited_with w n shapes = do
  script ← each Limit (limited_step n.queues) 0 w.script
  packets ← each Limit (limited_packet n.queues) 0 w.packets
  Ok (record { numbers = n; shapes = shapes; script = script; packets = packets })

-- the lists, where there are at most four maps
unfoldable pub limited_rows : WrittenText → Limits → Result LimitedText Refused
limited_rows w n = each Limit limited_shape 0 w.maps >>= limited_with w n

unfoldable pub limited_lists : WrittenText → Limits → Result LimitedText Refused
limited_lists w n = if nat_le (length w.maps) 4 then limited_rows w n else Err (refused Limit (at key.Map))

-- the numbers and lengths, where all are within their limits and there are at most four maps
unfoldable pub limited_of : WrittenText → Result LimitedText Refused
limited_of w = in_key Limit (limited_numbers w.numbers) >>= limited_lists w

-- ---- names

-- the name has 1 to 32 bytes
abbrev pub is_name : Text → Bool
is_name n = nat_le 1 (length n) && nat_le (length n) 32

-- the first name is no right one, or is given again
abbrev pub is_bad_first : List Text → Bool
is_bad_first [] = false
is_bad_first (n ∷ ns) = not (is_name n) || list_any (bytes_eq n) ns

-- no name is a wrong one, or given twice
abbrev pub are_names : List Text → Bool
are_names [] = true
are_names (n ∷ ns) = not (is_bad_first (n ∷ ns)) && are_names ns

-- the first name that is, counted from n on
abbrev pub bad_name : ℕ → List Text → Option ℕ
bad_name n [] = None
bad_name n (t ∷ ts) = if is_bad_first (t ∷ ts) then Some n else bad_name (suc n) ts
