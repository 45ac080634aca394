use Rattle.bpf_note.proofs.JoinedParts.{joined_chunks, joined_parts}
use Rattle.bpf_note.proofs.shared.SharedBounds.joined.Goals as goal

pub invariant_of-result : goal.invariant_of-result
invariant_of-result c =
    joined_chunks c.self.inside.low c.other.inside.low c.in_ok-joined.field-0 c.self.inside.high c.other.inside.high c.in_ok-joined-2.field-0 c.self.invariant c.other.invariant
    c.in_ok-joined.ensures.size c.in_ok-joined.ensures.joined c.in_ok-joined-2.ensures

pub returns : goal.returns
returns c =
    rw (← c.self.view_is, ← c.other.view_is)
    (joined_parts c.self.inside.low c.other.inside.low c.in_ok-joined.field-0 c.self.inside.high c.other.inside.high c.in_ok-joined-2.field-0 c.self.invariant c.other.invariant
    (joined_chunks c.self.inside.low c.other.inside.low c.in_ok-joined.field-0 c.self.inside.high c.other.inside.high c.in_ok-joined-2.field-0 c.self.invariant c.other.invariant
    c.in_ok-joined.ensures.size c.in_ok-joined.ensures.joined c.in_ok-joined-2.ensures)
    c.in_ok-joined.ensures.joined c.in_ok-joined-2.ensures)
