use Rattle.std.proofs.Common.{◌≡◌, ◌++◌, drop, map, string_bytes}
use Rattle.xdp_commands.specs.CounterLines.{maps_text}
use Rattle.xdp_commands.proofs.counter_lines.add_counters.Given as goal

abbrev pub invariant-loop-m : goal.invariant-loop-m
invariant-loop-m g l = string_bytes l.text ++ maps_text (g.N.Numbers.number_at l.numbers) l.m (map string_bytes (drop l.m l.names)) (drop l.m l.shapes) ≡ string_bytes l.fn.text ++ maps_text (g.N.Numbers.number_at l.numbers) 0 (map string_bytes l.names) l.shapes
