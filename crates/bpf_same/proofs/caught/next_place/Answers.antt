use Rattle.std.proofs.Common.{refl, inl, subst, ℕ, Option}
use Rattle.std.specs.Prelude.{IfSome}
use Rattle.bpf_note.specs.Parts.{facts}
use Rattle.bpf_same.specs.Simulated.{IsSilent}
use Rattle.bpf_same.proofs.caught.next_place.Goals as goal

pub returns-in-Some : goal.returns-in-Some
returns-in-Some c =
    inl (refl, λ low. subst (λ (o : Option ℕ). IfSome o (IsSilent c.args.insn c.args.here.now.relation low (facts c.args.note.now) c.args.here.now.at)) c.in-Some.is (c.silent_target.ensures low))
