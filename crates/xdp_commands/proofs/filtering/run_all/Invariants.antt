use Rattle.std.proofs.Common.{◌≡◌, List, ℕ, drop, map, string_bytes, vec_len}
use Rattle.xdp_load.specs.SetupSeen.{packet_view}
use Rattle.xdp_commands.specs.Filtering.{HasFiltered, inputs_of}
use Rattle.xdp_commands.proofs.filtering.run_all.Given as goal

abbrev pub invariant-loop-packet : goal.invariant-loop-packet
invariant-loop-packet l = record {
  width : vec_len l.filtered.words ≡ vec_len l.fn.filtered.words;
  goes : (words lines : List ℕ)
      → HasFiltered l.program l.listed.lists.items l.listed.setup.ifindex (inputs_of (map packet_view (drop l.packet-index l.listed.setup.packets.items))) l.filtered.words.items (string_bytes l.filtered.lines) words lines
      → HasFiltered l.program l.listed.lists.items l.listed.setup.ifindex (inputs_of (map packet_view l.listed.setup.packets.items)) l.fn.filtered.words.items (string_bytes l.fn.filtered.lines) words lines;
}
