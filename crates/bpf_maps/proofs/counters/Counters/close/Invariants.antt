use Rattle.std.proofs.Common.{◌≡◌, ◌++◌, All, map, vec_len}
use Rattle.bpf_maps.specs.Seats.{IsSeatOf}
use Rattle.bpf_maps.proofs.ClosingLemmas.{part_of}
use Rattle.bpf_maps.proofs.counters.Counters.close.Given as goal

abbrev pub invariant-loop-next : goal.invariant-loop-next
invariant-loop-next l = (l.all.table_id ≡ l.table.shared.table_id)
    × (l.all.me.0.shapes ≡ l.fn.self.shapes)
    × (l.all.me.0.begin ≡ l.fn.self.begin)
    × (map part_of l.seats.items ++ l.all.me.0.parts ≡ map part_of l.fn.seats.items)
    × All (IsSeatOf l.fn.self) l.seats.items

abbrev pub decreases-loop-next : goal.decreases-loop-next
decreases-loop-next l = vec_len l.seats
