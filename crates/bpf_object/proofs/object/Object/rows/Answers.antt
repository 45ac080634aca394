use Rattle.std.proofs.Common.{ℕ, List, subst, sym, arith, rules}
use Rattle.bpf_object.specs.Program.{AppliesTo, AreRows, none, one}
use Rattle.bpf_object.proofs.OneLemmas.{only}
use Rattle.bpf_object.proofs.object.Object.rows.Goals as goal

pub returns-in_default-clause-ok : goal.returns-in_default-clause-ok
returns-in_default-clause-ok c = none (λ r h. c.in_default.ensures.none r (omega arith) h)

pub returns-clause-ok : goal.returns-clause-ok
returns-clause-ok c =
    subst (λ (x : List ℕ). AreRows c.args.self.now c.args.target x) (sym c.contents.ensures)
    (one c.in-Some.first c.in-Some.ensures.some
    (only (AppliesTo c.args.self.now c.args.target) c.in-Some.first c.in-Some.ensures.before c.in_default-next_table.ensures.none)
    (c.if-not-is_table.ensures.0 (search rules)))
