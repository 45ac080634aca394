-- For proofs: no claim rests on this file.
-- What the rows of the code stand for, of maps with lists.
use Rattle.std.specs.Prelude.{List, Option, map, option_map}
use Rattle.bpf_lists.specs.declared.list.MapList.{MapList}
use Rattle.bpf_lists.specs.declared.list.MapList.TheVariants as given
use Rattle.toml.specs.View.{view}
use Rattle.toml.specs.declared.value.Value.{Value}
use Rattle.xdp_load.specs.Document.{Text}
use Rattle.xdp_load.specs.Listed.{ListedView, ListedWritten}
use Rattle.xdp_load.specs.MapKeys.{KeyText, ListedText, text_in}
use Rattle.xdp_load.specs.Seen.{map_seen, written_seen}
use Rattle.xdp_load.specs.SetupSeen.{setup_view}
use Rattle.xdp_load.specs.declared.keyed.KeyRow.{KeyRow}
use Rattle.xdp_load.specs.declared.keyed.ListedRow.{ListedRow}
use Rattle.xdp_load.specs.declared.listed.Unsorted.{Unsorted}
use Rattle.xdp_load.specs.declared.listed_document.ListedWritten.{ListedWritten as CodeWritten}
use Rattle.xdp_load.specs.declared.lists.ListBytes.{ListBytes}
use Rattle.xdp_load.specs.declared.lists.ListBytes.TheVariants.{Keys, Constants}

abbrev pub row_texts : List Value → List Text
row_texts vs = map text_in (map view vs)

abbrev pub key_seen : KeyRow → KeyText
key_seen k = record { kind = k.kind.now; size = k.size; rows = row_texts k.rows.now; parts = k.parts }

abbrev pub listed_seen : ListedRow → ListedText
listed_seen r = record { map = map_seen r.map; key = key_seen r.key }

abbrev pub listed_written_seen : CodeWritten → ListedWritten
listed_written_seen x = record { written = written_seen x.written; maps = map listed_seen x.maps.items; wide = x.wide }

abbrev pub list_seen : ListBytes → MapList
list_seen (Keys k) = given.Rows (record { kind = k.kind; keys = k.keys.items })
list_seen (Constants bytes) = given.Constants bytes

abbrev pub lists_seen : List (Option ListBytes) → List (Option MapList)
lists_seen ls = map (option_map list_seen) ls

abbrev pub unsorted_seen : Unsorted → ListedView
unsorted_seen u = record { setup = setup_view u.setup; lists = lists_seen u.lists.items }
