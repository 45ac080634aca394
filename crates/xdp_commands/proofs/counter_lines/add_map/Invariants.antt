use Rattle.std.proofs.Common.{◌≡◌, ◌-◌, ◌++◌, string_bytes}
use Rattle.xdp_commands.specs.CounterLines.{map_text}
use Rattle.xdp_commands.proofs.counter_lines.add_map.Given as goal

abbrev pub invariant-loop-k : goal.invariant-loop-k
invariant-loop-k g l = string_bytes l.text ++ map_text (g.N.Numbers.number_at l.numbers l.m) l.name l.shape l.k (l.shape.entries - l.k) ≡ string_bytes l.fn.text ++ map_text (g.N.Numbers.number_at l.numbers l.m) l.name l.shape 0 l.shape.entries
