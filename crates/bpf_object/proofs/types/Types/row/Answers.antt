use Rattle.std.proofs.Common.{ℕ, ◌≡◌, ◌-◌, ◌<◌, length, slice_index, ap, ◌∙◌, arith, rules}
use Rattle.std.proofs.lemmas.Grind.{get_or_default_zero}
use Rattle.bpf_object.specs.Types.{row_at}
use Rattle.bpf_object.proofs.TypeLemmas.{located_header, located_row}
use Rattle.bpf_object.proofs.types.Types.row.Goals as goal

pub read-requires : goal.read-requires
read-requires c =
    let places = c.self.inside.places.items in
    let lt : c.args.number - 1 < length c.self.inside.places.items = omega arith in
    let d = get_or_default_zero c.self.inside.places.items (c.args.number - 1) c.index.result.now lt in
    let e : c.index.result.now ≡ slice_index c.self.inside.places.items (c.args.number - 1) = omega (arith, d) in
    rw e (located_header c.self.inside.bytes.now places (c.args.number - 1) c.self.invariant lt)

pub returns-clause-whole : goal.returns-clause-whole
returns-clause-whole c =
    let places = c.self.inside.places.items in
    let lt : c.args.number - 1 < length c.self.inside.places.items = omega arith in
    let d = get_or_default_zero c.self.inside.places.items (c.args.number - 1) c.index.result.now lt in
    let e : c.index.result.now ≡ slice_index c.self.inside.places.items (c.args.number - 1) = omega (arith, d) in
    let v : length c.args.self.now.bytes ≡ length c.self.inside.bytes.now = search rules in
    let h = located_row c.self.inside.bytes.now places (c.args.number - 1) c.read.result c.self.invariant lt
    (c.read.ensures ∙ ap (λ (x : ℕ). row_at c.self.inside.bytes.now x) e) in
    rw v h
