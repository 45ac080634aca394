use Rattle.std.proofs.Common.{◌≡◌, ◌++◌, drop, string_bytes}
use Rattle.xdp_commands.specs.PairLines.{rows_text}
use Rattle.xdp_commands.proofs.pair_lines.add_rows.Given as goal

abbrev pub invariant-loop-row : goal.invariant-loop-row
invariant-loop-row l =
    record {
      number : l.queue ≡ l.row-index;
      text : string_bytes l.text ++ rows_text l.host l.queue (drop l.row-index l.rows) ≡ string_bytes l.fn.text ++ rows_text l.host 0 l.rows;
    }
