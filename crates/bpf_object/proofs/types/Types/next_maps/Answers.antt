use Rattle.std.proofs.Common.{◌≡◌, ◌≤◌, length, arith, rules}
use Rattle.bpf_object.proofs.TypeLemmas.{maps_below}
use Rattle.bpf_object.proofs.types.Types.next_maps.Goals as goal

pub returns-clause-none : goal.returns-clause-none
returns-clause-none c = λ m le h.
    let b : m ≤ length c.args.self.now.places = maps_below c.args.self.now m h in
    let v : length c.args.self.now.places ≡ length c.self.inside.places.items = search rules in
    c.loop-number.invariant m le (omega arith) h
