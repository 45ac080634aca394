use Rattle.std.proofs.Common.{◌≡◌, ◌∙◌, sym, true, false}
use Rattle.bpf_note.proofs.PartLemmas.{same_parts, parts_same}
use Rattle.bpf_note.proofs.shared.SharedBounds.same_as.Goals as goal

never : {P : Type 0} → false ≡ true → P
never e = absurd (cc)

pub returns-then-same_as : goal.returns-then-same_as
returns-then-same_as c =
    rw (← c.self.view_is, ← c.other.view_is) (
      λ t. same_parts c.self.inside.low c.other.inside.low c.self.inside.high c.other.inside.high c.self.invariant c.other.invariant
          (c.same_as-then-same_as.ensures.0 t) (c.same_as.ensures.0 c.if-same_as.true),
      λ e. c.same_as-then-same_as.ensures.1 (parts_same c.self.inside.low c.other.inside.low c.self.inside.high c.other.inside.high c.self.invariant c.other.invariant e).0,
    )

pub returns-else-same_as : goal.returns-else-same_as
returns-else-same_as c =
    rw (← c.self.view_is, ← c.other.view_is) (
      λ t. never (sym c.if-same_as.false ∙ t),
      λ e. c.same_as.ensures.1 (parts_same c.self.inside.low c.other.inside.low c.self.inside.high c.other.inside.high c.self.invariant c.other.invariant e).1,
    )
