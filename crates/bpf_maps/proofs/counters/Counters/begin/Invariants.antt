use Rattle.std.proofs.Common.{◌≡◌, ◌-◌, []}
use Rattle.bpf_maps.specs.Rule.{view, blanks}
use Rattle.bpf_maps.specs.Seats.{new_seats}
use Rattle.bpf_maps.proofs.counters.Counters.begin.Given as goal

abbrev pub invariant-loop-number : goal.invariant-loop-number
invariant-loop-number l = (l.rest.table_id ≡ l.table.shared.table_id)
    × (l.rest.me ≡ (view l.plan.shapes.items l.plan.begin.items (blanks l._number (l.seats - l._number)), []))
    × (l.dealt.items ≡ new_seats record { table = l.table.shared.table_id; shapes = l.plan.shapes.items; begin = l.plan.begin.items; seats = l.seats } l._number)
