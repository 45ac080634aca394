use Rattle.std.proofs.Common.{◌≡◌, List, Option, Some, None, length, subst}
use Rattle.std.specs.Option.{is_some}
use Rattle.std.specs.Prelude.{IfSome}
use Rattle.bpf_insn.specs.declared.insn.Insn.{Insn}
use Rattle.bpf_verify.specs.FirstRefusal.{IsStructured}
use Rattle.bpf_verify.proofs.verifier.explain.Goals as goal

-- what holds where one of two is there holds where the other is, if both are there or neither
where_both : {A B P Q : Type 0} (o : Option A) (r : Option B) → is_some r ≡ is_some o → IfSome o (λ _. P) → (P → Q) → IfSome r (λ _. Q)
where_both o None both h f = tt
where_both None (Some y) both h f = absurd (cc)
where_both (Some x) (Some y) both h f = f h

pub returns-in-Err-clause-structured : goal.returns-in-Err-clause-structured
returns-in-Err-clause-structured c =
    where_both c.in-Err.field-0.note c.map.result c.map.ensures.variant c.in-Err.ensures.structured (λ h. subst (λ (code : List Insn). IsStructured code (length c.args.shapes.now)) c.insns.ensures.same h)
