use Rattle.std.proofs.Common.{◌≡◌, ◌-◌, ◌++◌, string_bytes}
use Rattle.xdp_commands.specs.CounterLines.{value_text}
use Rattle.xdp_commands.proofs.counter_lines.add_value.Given as goal

abbrev pub invariant-loop-j : goal.invariant-loop-j
invariant-loop-j g l = string_bytes l.text ++ value_text (g.N.Numbers.number_at l.numbers l.m l.k) l.name l.shape l.k l.j (l.shape.counters - l.j) ≡ string_bytes l.fn.text ++ value_text (g.N.Numbers.number_at l.numbers l.m l.k) l.name l.shape l.k 0 l.shape.counters
