use Rattle.std.proofs.Common.{ℕ, ◌≡◌, List, None, Some, subst, sym, arith, rules}
use Rattle.bpf_object.specs.Definition.{member_type, IsMember, IsField, absent, one}
use Rattle.bpf_object.proofs.OneLemmas.{only}
use Rattle.bpf_object.proofs.types.Types.field_type.Goals as goal

pub returns-in_default-clause-ok : goal.returns-in_default-clause-ok
returns-in_default-clause-ok c =
    subst (λ (n : List ℕ). IsField c.args.self.now c.args.row n None) c.name-name.ensures
    (absent (λ j h. c.in_default.ensures.none j (omega arith) h))

pub returns-clause-ok : goal.returns-clause-ok
returns-clause-ok c =
    let e : c.second_number.result ≡ member_type c.args.self.now c.args.row c.in-Some.first = search rules in
    subst (λ (n : List ℕ). IsField c.args.self.now c.args.row n (Some c.second_number.result)) c.name-name.ensures
    (subst (λ (v : ℕ). IsField c.args.self.now c.args.row c.name-name.result.now (Some v)) (sym e)
    (one c.in-Some.first c.in-Some.ensures.some
    (only (IsMember c.args.self.now c.args.row c.name-name.result.now) c.in-Some.first c.in-Some.ensures.before
    c.in_default-next_member.ensures.none)))
