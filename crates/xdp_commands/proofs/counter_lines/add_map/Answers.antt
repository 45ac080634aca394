use Rattle.std.proofs.Common.{◌<◌, append_assoc, arith}
use Rattle.xdp_commands.proofs.CounterLineLemmas.{map_more}
use Rattle.xdp_commands.proofs.counter_lines.add_map.Goals as goal

pub loop-k-preserved : goal.loop-k-preserved
loop-k-preserved g c =
    let a = c.args in
    let k = c.loop-k.k in
    let inside : k < a.shape.entries = omega (arith, c.loop-k-test.true, c.entries-k-end.ensures.value) in
    let more = map_more (g.N.Numbers.number_at a.numbers.now a.m) a.name.now a.shape k a.shape.entries inside in
    rw (c.in_ok-add_value.ensures, append_assoc, ← more) c.loop-k.invariant
