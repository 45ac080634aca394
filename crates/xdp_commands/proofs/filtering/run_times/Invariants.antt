use Rattle.std.proofs.Common.{◌≡◌, ◌-◌, List, ℕ, replicate, string_bytes, vec_len}
use Rattle.xdp_load.specs.SetupSeen.{packet_view}
use Rattle.xdp_commands.specs.Filtering.{HasFiltered}
use Rattle.xdp_commands.proofs.filtering.run_times.Given as goal

abbrev pub invariant-loop-time : goal.invariant-loop-time
invariant-loop-time l = record {
  width : vec_len l.filtered.words ≡ vec_len l.fn.filtered.words;
  goes : (words lines : List ℕ)
      → HasFiltered l.program l.lists l.ifindex (replicate (l.packet.times - l._time) (packet_view l.packet)) l.filtered.words.items (string_bytes l.filtered.lines) words lines
      → HasFiltered l.program l.lists l.ifindex (replicate l.packet.times (packet_view l.packet)) l.fn.filtered.words.items (string_bytes l.fn.filtered.lines) words lines;
}
