use Rattle.std.proofs.Common.{◌≡◌, ◌∙◌, ap, sym, subst}
use Rattle.bpf_note.specs.Facts.{Facts}
use Rattle.bpf_note.specs.Describes.{Describes}
use Rattle.bpf_note.specs.Join.{joined}
use Rattle.bpf_note.specs.Parts.{Noted, facts}
use Rattle.bpf_note.proofs.JoinDescribes.{joined_describes}
use Rattle.bpf_note.proofs.joins.join.Goals as goal

pub returns-clause-describes : goal.returns-clause-describes
returns-clause-describes c = λ s d.
    let same : facts c.join_in_place.new.a ≡ joined (facts c.args.a.now) (facts c.args.b.now) = c.in_ok-join_in_place.ensures.ok ∙ ap (λ (n : Noted). joined (facts n) (facts c.args.b.now)) c.in_ok-joined.ensures in
    subst (λ (f : Facts). Describes f s) (sym same) (joined_describes _ _ s d)
