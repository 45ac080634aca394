use Rattle.std.proofs.Common.{◌≡◌, ◌∙◌, sym, true, false}
use Rattle.bpf_note.proofs.JoinedParts.{joined_parts, parts_joined}
use Rattle.bpf_note.proofs.shared.SharedBounds.covers.Goals as goal

never : {P : Type 0} → false ≡ true → P
never e = absurd (cc)

pub returns-then-covers : goal.returns-then-covers
returns-then-covers c =
    rw (← c.self.view_is, ← c.other.view_is) (
      λ t. joined_parts c.self.inside.low c.other.inside.low c.self.inside.low c.self.inside.high c.other.inside.high c.self.inside.high c.self.invariant c.other.invariant c.self.invariant
          (c.covers-then-covers.ensures.0 t) (c.covers.ensures.0 c.if-covers.true),
      λ j. c.covers-then-covers.ensures.1 (parts_joined c.self.inside.low c.other.inside.low c.self.inside.high c.other.inside.high c.self.invariant c.other.invariant j).0,
    )

pub returns-else-covers : goal.returns-else-covers
returns-else-covers c =
    rw (← c.self.view_is, ← c.other.view_is) (
      λ t. never (sym c.if-covers.false ∙ t),
      λ j. c.covers.ensures.1 (parts_joined c.self.inside.low c.other.inside.low c.self.inside.high c.other.inside.high c.self.invariant c.other.invariant j).1,
    )
