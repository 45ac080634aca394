use Rattle.std.proofs.Common.{Some, inl, inr, ap, ◌∙◌}
use Rattle.std.proofs.lemmas.Option.{slice_get-get_or}
use Rattle.bpf_same.proofs.fused.Draft.is_as_said.Goals as goal

pub returns-in-Shared : goal.returns-in-Shared
returns-in-Shared c = λ t outside. inl (c.is_shared.ensures t)

pub returns-in-Load : goal.returns-in-Load
returns-in-Load c = λ t outside. inr (c.is_count.ensures t)

pub returns-in-Inside : goal.returns-in-Inside
returns-in-Inside c = λ t outside. absurd (outside (slice_get-get_or _ _ _ c.requires.inside ∙ ap Some c.in-Inside.is))
