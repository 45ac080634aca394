use Rattle.std.proofs.Common.{◌≡◌, ◌+◌, ◌++◌, drop, string_bytes}
use Rattle.xdp_commands.specs.TurnLines.{turns_text}
use Rattle.xdp_commands.proofs.turn_lines.add_turns.Given as goal

abbrev pub invariant-loop-kept : goal.invariant-loop-kept
invariant-loop-kept l =
    record {
      number : l.turn ≡ l.kept-index + 1;
      text : string_bytes l.text ++ turns_text l.queue l.turn (drop l.kept-index l.turns) ≡ string_bytes l.fn.text ++ turns_text l.queue 1 l.turns;
    }
