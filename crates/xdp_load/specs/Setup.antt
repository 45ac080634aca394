-- Stated: claims rest on this file.
-- The setup that a settings text spells, or its first fault and where that is. The order in which a text is read is the order of its
-- faults.
use Rattle.std.specs.Prelude.{◌&&◌, ◌+◌, ◌*◌, ◌%◌, ◌==◌, ℕ, ℤ, pos, negsuc, suc, List, [], ◌∷◌, ◌++◌, length}
use Rattle.std.specs.Prelude.{slice_index, slice_set, Option, Some, None, nat_le, map, position}
use Rattle.std.specs.Prelude.{Result, Ok, Err, if◌then◌else◌}
use Rattle.std.specs.Result.{result_ok}
use Rattle.std.specs.List.{list_any}
use Rattle.std.specs.Option.{option_map_or}
use Rattle.std.specs.Ordering.{int_eq}
use Rattle.std.specs.Str.{bytes_eq, is_utf8}
use Rattle.bpf_note.specs.Shape.{Shape}
use Rattle.hex.specs.Hex.{decode_of}
use Rattle.toml.specs.Data.{Members}
use Rattle.toml.specs.Parse.{parse_document}
use Rattle.xdp_load.specs.declared.fault.Fault.TheVariants as fault
use Rattle.xdp_load.specs.declared.key.Key.{Key}
use Rattle.xdp_load.specs.declared.key.Key.TheVariants as key
use Rattle.xdp_load.specs.Document.{Text, MapText, RelocText}
use Rattle.xdp_load.specs.Written.{WrittenText, written_of}
use Rattle.xdp_load.specs.Limits.{HexPacket, LimitedText, bad_name, limited_of}
use Rattle.xdp_load.specs.Values.{values_of}
use Rattle.xdp_load.specs.Gives.{each, in_row, or_else, or_refused, ◌>>=◌}
use Rattle.xdp_load.specs.Spot.{Refused, refused, row, stopped, whole}

-- ---- hex

-- the bytes of a hex text
abbrev pub bytes_of : Text → Option (List ℕ)
bytes_of t = result_ok (decode_of t)

-- the bytes of the hex text at a key, in the row with that number
abbrev pub bytes_in : Key → ℕ → Text → Result (List ℕ) Refused
bytes_in k n t = or_refused fault.Hex (row k n) (bytes_of t)

-- the bytes of some hex texts of a program, one after another, numbered from n on
abbrev pub joined : ℕ → List Text → Result (List ℕ) Refused
joined n [] = Ok []
joined n (t ∷ ts) = bytes_in key.Program n t >>= (λ bytes. joined (suc n) ts >>= (λ rest. Ok (bytes ++ rest)))

-- a packet to be sent, and how many times
pub record Packet : Type 0 where
  pub queue : ℕ
  pub bytes : List ℕ
  pub times : ℕ

abbrev pub packet_of : HexPacket → Result Packet Key
packet_of p = or_else key.Bytes (bytes_of p.bytes) >>= (λ bytes. Ok (record { queue = p.queue; bytes = bytes; times = p.times }))

-- ---- relocations

-- the opcode of a wide load (RFC 9669 section 5.4)
abbrev pub wide_load : ℕ
wide_load = 0x18

-- the slot where all its eight bytes are in the program, and the first is the opcode of a wide load
abbrev pub wide_slot : List ℕ → ℤ → Option ℕ
wide_slot program (negsuc n) = None
wide_slot program (pos slot) = if nat_le (8 * slot + 8) (length program) && (slice_index program (8 * slot) == wide_load)
    then Some slot else None

-- the program with source register 1 in the wide load at this byte, and the number of a map, below 256, in its imm (RFC 9669 section 3)
abbrev pub with_map : List ℕ → ℕ → ℕ → List ℕ
with_map program at m =
    slice_set (slice_set (slice_set (slice_set (slice_set program
    (at + 1) (16 + slice_index program (at + 1) % 16)) (at + 4) m) (at + 5) 0) (at + 6) 0) (at + 7) 0

-- the slot of a relocation, before those later ones: a wide load's, and no later one's
abbrev pub own_slot : List ℕ → ℤ → List RelocText → Result ℕ Key
own_slot program slot later = if list_any (λ r. int_eq slot r.slot) later then Err key.Slot else or_else key.Slot (wide_slot program slot)

-- the program with a relocation, before those later ones
abbrev pub relocated_once : List Text → List ℕ → RelocText → List RelocText → Result (List ℕ) Key
relocated_once names program r later = own_slot program r.slot later >>= (λ slot.
    or_else key.OfMap (position (bytes_eq r.map) names) >>= (λ m. Ok (with_map program (8 * slot) m)))

-- the program with its relocations in turn, numbered from n on
abbrev pub relocated : List Text → ℕ → List ℕ → List RelocText → Result (List ℕ) Refused
relocated names n program [] = Ok program
relocated names n program (r ∷ rs) = in_row fault.Relocation n (relocated_once names program r rs) >>= (λ p. relocated names (suc n) p rs)

-- ---- the whole

pub record SetupView : Type 0 where
  pub program : List ℕ
  pub shapes : List Shape
  pub values : List (List ℕ)
  pub names : List Text
  pub queues : ℕ
  pub ifindex : ℕ
  pub start : ℕ
  pub script : List (ℕ × ℕ)
  pub packets : List Packet

abbrev pub most_bytes : ℕ
most_bytes = 1048576

unfoldable pub names_of : List MapText → List Text
names_of maps = map (λ m. m.name) maps

-- the program with all its relocations
abbrev pub loaded_program : List Text → List RelocText → List ℕ → Result (List ℕ) Refused
loaded_program names relocs program = relocated names 0 program relocs

-- the bytes of the program and of the packets
unfoldable pub decoded_of : WrittenText → LimitedText → Result (List ℕ × List Packet) Refused
decoded_of w l = do
  program ← joined 0 w.program
  packets ← each fault.Hex packet_of 0 l.packets
  Ok (program, packets)

unfoldable pub relocated_setup : WrittenText → LimitedText → List ℕ × List Packet → Result SetupView Refused
relocated_setup w l d = do
  program ← loaded_program (names_of w.maps) w.relocs d.0
  Ok (record {
    program = program;
    shapes = l.shapes;
    values = map values_of w.maps;
    names = names_of w.maps;
    queues = l.numbers.queues;
    ifindex = l.numbers.ifindex;
    start = l.numbers.start;
    script = l.script;
    packets = d.1;
  })

-- the setup of a document whose numbers are within their limits
unfoldable pub setup_of_limited : WrittenText → LimitedText → Result SetupView Refused
setup_of_limited w l =
    option_map_or (λ n. Err (refused fault.Name (row key.Name n))) (bad_name 0 (names_of w.maps)) (decoded_of w l >>= relocated_setup w l)

unfoldable pub setup_of_table : Members → Result SetupView Refused
setup_of_table ms = do
  w ← written_of ms
  l ← limited_of w
  setup_of_limited w l

-- the bytes as a text, where they are at most 1,048,576 and UTF-8
abbrev pub text_of : List ℕ → Option Text
text_of bytes = if nat_le (length bytes) most_bytes && is_utf8 bytes then Some bytes else None

abbrev pub document_of : Text → Result Members Refused
document_of text = or_refused fault.Syntax stopped (parse_document text)

-- the setup of a text, or its first fault
unfoldable pub setup_of : List ℕ → Result SetupView Refused
setup_of bytes = do
  text ← or_refused fault.Text whole (text_of bytes)
  document ← document_of text
  setup_of_table document
