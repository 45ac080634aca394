-- Stated: claims rest on this file.
-- A document as it is written, before any limit is looked at.
use Rattle.std.specs.Prelude.{List, Result, Ok, Err}
use Rattle.std.specs.Option.{option_map_or}
use Rattle.toml.specs.Data.{Data, Members}
use Rattle.xdp_load.specs.declared.fault.Fault.TheVariants as fault
use Rattle.xdp_load.specs.declared.key.Key.{Key}
use Rattle.xdp_load.specs.declared.numbers.Numbers.{Numbers}
use Rattle.xdp_load.specs.declared.key.Key.TheVariants as key
use Rattle.xdp_load.specs.Document.{Text, MapText, RelocText, PacketText, StepText, hex_row, list_at, map_row, packet_row, reloc_row}
use Rattle.xdp_load.specs.Document.{rows, step_row, unknown_key, values_at}
use Rattle.xdp_load.specs.Gives.{in_key, ◌>>=◌}
use Rattle.xdp_load.specs.Keys.{top_keys}
use Rattle.xdp_load.specs.Numbers.{numbers_of}
use Rattle.xdp_load.specs.Spot.{Refused, refused, unknown}

pub record WrittenText : Type 0 where
  pub program : List Text
  pub numbers : Numbers
  pub maps : List MapText
  pub relocs : List RelocText
  pub script : List StepText
  pub packets : List PacketText

unfoldable pub program_of : Members → Result (List Text) Refused
program_of ms = rows hex_row key.Program (list_at key.Program ms)

unfoldable pub rows_of : {A : Type 0} → (Data → Result A Key) → Key → Members → Result (List A) Refused
rows_of f k ms = rows f k (values_at k ms)

-- what a document says beside its program, its numbers and its maps
unfoldable pub written_with : List Text → Numbers → List MapText → Members → Result WrittenText Refused
written_with program numbers maps ms = do
  relocs ← rows_of reloc_row key.Reloc ms
  script ← rows_of step_row key.Step ms
  packets ← rows_of packet_row key.Packet ms
  Ok (record { program = program; numbers = numbers; maps = maps; relocs = relocs; script = script; packets = packets })

unfoldable pub rows_of_table : Members → Result WrittenText Refused
rows_of_table ms = do
  program ← program_of ms
  numbers ← in_key fault.Key (numbers_of ms)
  maps ← rows_of map_row key.Map ms
  written_with program numbers maps ms

-- what a document says that knows these keys
abbrev pub written_by : List Key → Members → Result WrittenText Refused
written_by known ms = option_map_or (λ k. Err (refused fault.Key (unknown k))) (unknown_key known ms) (rows_of_table ms)

-- what the document says, where each key is known and of the right type
unfoldable pub written_of : Members → Result WrittenText Refused
written_of ms = written_by top_keys ms
