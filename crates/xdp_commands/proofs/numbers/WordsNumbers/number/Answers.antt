use Rattle.std.proofs.Common.{arith}
use Rattle.bpf_maps.proofs.PlaceLemmas.{place_within}
use Rattle.xdp_commands.proofs.numbers.WordsNumbers.number.Goals as goal

pub bounds-self-inside-place : goal.bounds-self-inside-place
bounds-self-inside-place c =
    let within = place_within c.self.inside.shapes.now c.args.m c.args.k c.args.j (rw (← c.self.view_is) at c.requires) in
    let all = c.self.invariant.1 in
    let place = c.place.ensures.place in
    omega (arith, within, all, place)
