use Rattle.std.proofs.Common.{rules, FitsSigned, w16, sym, ap, ◌∙◌}
use Rattle.std.proofs.lemmas.Int.{to_z-of_z}
use Rattle.bpf_same.proofs.step.Step.addition.Goals as goal

pub returns-in-AddCounter-clause-added : goal.returns-in-AddCounter-clause-added
returns-in-AddCounter-clause-added c =
    let off : FitsSigned w16 c.in-AddCounter.off = search rules in (
      c.in-AddCounter.fetch,
      c.in-AddCounter.dst,
      c.in-AddCounter.src,
      c.in-AddCounter.off,
      c.in-AddCounter.is,
      λ f g h. (simp to_z-of_z at (c.address.ensures f g h), ap f (sym c.number.ensures.number) ∙ c.new_form.ensures f g h),
    )
