-- Stated: claims rest on this file.
-- The keys of settings: where each stands, its limits, and what docs/SETTINGS.md allows there.
use Rattle.std.specs.Prelude.{ℕ, ℤ, pos, List, [], ◌∷◌, Option, Some, None, codes, unwrap_or}
use Rattle.xdp_load.specs.declared.key.Key.{Key}
use Rattle.xdp_load.specs.declared.key.Key.TheVariants.{Program, Queues, IfIndex, Start, Map, Name, Entries, Counters, Reloc, Slot}
use Rattle.xdp_load.specs.declared.key.Key.TheVariants.{OfMap, Step, StepQueue, Answer, Packet, PacketQueue, Bytes, Times, Original}
use Rattle.xdp_load.specs.declared.key.Key.TheVariants.{Place, Wide, WideMap, WideEntries, KeyKind, KeySize, ConstantSize, Rows, Values, Parts}
use Rattle.xdp_load.specs.declared.key.Key.TheVariants.{Object, Function}

-- the key of the document that it is, or that holds the rows in which it is
abbrev pub list_name : Key → List ℕ
list_name Program = codes "program"
list_name Queues = codes "queues"
list_name IfIndex = codes "ifindex"
list_name Start = codes "start"
list_name Map = codes "map"
list_name Name = codes "map"
list_name Entries = codes "map"
list_name Counters = codes "map"
list_name Reloc = codes "reloc"
list_name Slot = codes "reloc"
list_name OfMap = codes "reloc"
list_name Step = codes "script"
list_name StepQueue = codes "script"
list_name Answer = codes "script"
list_name Packet = codes "packet"
list_name PacketQueue = codes "packet"
list_name Bytes = codes "packet"
list_name Times = codes "packet"
list_name Original = codes "original"
list_name Place = codes "places"
list_name Wide = codes "wide"
list_name WideMap = codes "map"
list_name WideEntries = codes "map"
list_name KeyKind = codes "map"
list_name KeySize = codes "map"
list_name ConstantSize = codes "map"
list_name Rows = codes "map"
list_name Parts = codes "map"
list_name Values = codes "map"
list_name Object = codes "object"
list_name Function = codes "function"

-- the key within a row, or the part of a step
abbrev pub part_name : Key → Option (List ℕ)
part_name Name = Some (codes "name")
part_name Entries = Some (codes "entries")
part_name Counters = Some (codes "counters")
part_name Slot = Some (codes "slot")
part_name OfMap = Some (codes "map")
part_name StepQueue = Some (codes "queue")
part_name PacketQueue = Some (codes "queue")
part_name Answer = Some (codes "answer")
part_name Bytes = Some (codes "bytes")
part_name Times = Some (codes "times")
part_name WideEntries = Some (codes "entries")
part_name KeyKind = Some (codes "key")
part_name KeySize = Some (codes "size")
part_name ConstantSize = Some (codes "size")
part_name Rows = Some (codes "rows")
part_name Parts = Some (codes "parts")
part_name Values = Some (codes "values")
part_name _ = None

-- the key as it is written in its table
abbrev pub name : Key → List ℕ
name k = unwrap_or (part_name k) (list_name k)

-- the greatest u32
abbrev pub most_word : ℕ
most_word = 4294967295

-- the keys of a document
abbrev pub top_keys : List Key
top_keys = Program ∷ Queues ∷ IfIndex ∷ Start ∷ Map ∷ Reloc ∷ Step ∷ Packet ∷ []

-- a number's limits
abbrev pub least : Key → ℕ
least Queues = 1
least Entries = 1
least Counters = 1
least Times = 1
least WideEntries = 1
least KeySize = 1
least ConstantSize = 1
least _ = 0

abbrev pub most : Key → ℕ
most Queues = 8
most Entries = 1024
most Counters = 8
most Times = 100000
most WideEntries = 65536
most KeySize = 64
most ConstantSize = 65536
most _ = most_word

-- the number where there is no such key, if it may be left out
abbrev pub missing : Key → Option ℤ
missing Queues = Some (pos 1)
missing IfIndex = Some (pos 0)
missing Start = Some (pos 0)
missing Counters = Some (pos 1)
missing Times = Some (pos 1)
missing KeySize = Some (pos 4)
missing _ = None

abbrev pub allowed : Key → List ℕ
allowed Program = codes "a list of hex texts, each with whole bytes (required)"
allowed Queues = codes "a whole number, 1 to 8"
allowed IfIndex = codes "a whole number, 0 to 4294967295"
allowed Start = codes "a whole number, 0 to 4294967295"
allowed Answer = codes "a whole number, 0 to 4294967295"
allowed Map = codes "at most four tables, each with name, entries and, optionally, counters and values"
allowed Name = codes "a text of 1 to 32 bytes, no other map's (required)"
allowed Entries = codes "a whole number, 1 to 1024 (required)"
allowed Counters = codes "a whole number, 1 to 8"
allowed Reloc = codes "tables, each with slot and map"
allowed Slot = codes "the number of a slot that holds a wide load, no other relocation's (required)"
allowed OfMap = codes "the name of a map (required)"
allowed Step = codes "steps, each of two whole numbers: a queue and an answer"
allowed StepQueue = codes "a whole number below queues"
allowed Packet = codes "tables, each with queue, bytes and, optionally, times"
allowed PacketQueue = codes "a whole number below queues (required)"
allowed Bytes = codes "a hex text of 14 to 65535 bytes (required)"
allowed Times = codes "a whole number, 1 to 100000"
allowed Original = codes "a table with places, and program and reloc, or object and function (required)"
allowed Object = codes "a hex text of the bytes of an object (required)"
allowed Function = codes "the name of a function of the object (required)"
allowed Place = codes "places, each of a whole number, 0 to 4294967295, and true or false"
allowed Wide = codes "true or false"
allowed Parts = codes "true or false"
allowed WideMap = codes "at most 16 tables, each with name, entries and, optionally, counters, values, key, size, rows and parts"
allowed WideEntries = codes "a whole number, 1 to 65536 (required)"
allowed KeyKind = codes "index, exact, prefix or constants"
allowed KeySize = codes "a whole number, 1 to 64; of an index 4"
allowed ConstantSize = codes "a whole number, 1 to 65536"
allowed Rows = codes "hex texts, each a key of the map, none twice, at most as many as entries; of an index none; of constants one, their bytes"
allowed Values = codes "whole numbers, each 0 to 9223372036854775807, at most as many as the map has counters; of constants none"
