use Rattle.std.proofs.Common.{◌≡◌, ◌++◌, drop, string_bytes}
use Rattle.xdp_commands.specs.TurnLines.{queues_text}
use Rattle.xdp_commands.proofs.turn_lines.add_queues.Given as goal

abbrev pub invariant-loop-turns : goal.invariant-loop-turns
invariant-loop-turns l =
    record {
      number : l.queue ≡ l.turns-index;
      text : string_bytes l.text ++ queues_text l.queue (drop l.turns-index l.queues) ≡ string_bytes l.fn.text ++ queues_text 0 l.queues;
    }
