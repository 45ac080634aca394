use Rattle.std.proofs.Common.{◌∙◌, ◌<◌, ℕ, ap, append_assoc, arith}
use Rattle.xdp_commands.specs.CounterLines.{counter_text}
use Rattle.xdp_commands.proofs.CounterLineLemmas.{value_more}
use Rattle.xdp_commands.proofs.counter_lines.add_value.Goals as goal

pub loop-j-preserved : goal.loop-j-preserved
loop-j-preserved g c =
    let a = c.args in
    let j = c.loop-j.j in
    let inside : j < a.shape.counters = omega (arith, c.loop-j-test.true, c.counters-j-end.ensures.value) in
    let more = value_more (g.N.Numbers.number_at a.numbers.now a.m a.k) a.name.now a.shape a.k j a.shape.counters inside in
    let line = c.as_str.ensures.value ∙ c.in_ok-line.ensures ∙ ap (λ (n : ℕ). counter_text a.name.now a.shape a.k j n) c.number.ensures in
    rw (c.in_ok-push_str.ensures.bytes, line, append_assoc, ← more) c.loop-j.invariant
