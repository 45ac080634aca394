use Rattle.std.proofs.Common.{IsTrue, false, rules}
use Rattle.std.proofs.lemmas.Result.{err_from_is_err_and}
use Rattle.bpf_object.specs.Symbol.{HasCode}
use Rattle.bpf_object.specs.Program.{not_found}
use Rattle.bpf_object.proofs.ProgramLemmas.{refused_code, refused_table, refused_order, refused_references}
use Rattle.bpf_object.proofs.object.Object.program.Goals as goal

not_so : IsTrue false → ⊥
not_so h = search rules

pub returns-in_err-number-clause-refused : goal.returns-in_err-number-clause-refused
returns-in_err-number-clause-refused c =
    let p = err_from_is_err_and c.from_residual.result c.from_residual.ensures.1 in
    rw (p.1, p.2) (not_found c.in_err-number.field-0.0 c.in_err-number.ensures.err)

pub returns-then-not-has_code-clause-refused : goal.returns-then-not-has_code-clause-refused
returns-then-not-has_code-clause-refused c =
    refused_code c.args.self.now c.args.name.now c.in_ok-number.number c.symbol-function.result c.symbol-function.ensures c.in_ok-number.ensures.ok
    (λ has. not_so (c.if-not-has_code.ensures.1 has))

pub returns-in_err-rows-clause-refused : goal.returns-in_err-rows-clause-refused
returns-in_err-rows-clause-refused c =
    let has : HasCode c.args.self.now c.symbol-function.result = c.if-not-has_code.ensures.0 (search rules) in
    let p = err_from_is_err_and c.from_residual-in_err-rows.result c.from_residual-in_err-rows.ensures.1 in
    rw (p.1, p.2)
    (refused_table c.args.self.now c.args.name.now c.in_err-rows.field-0.0 c.in_ok-number.number c.symbol-function.result c.symbol-function.ensures
    c.in_ok-number.ensures.ok has c.in_err-rows.ensures.err)

pub returns-in_err-check_order-clause-refused : goal.returns-in_err-check_order-clause-refused
returns-in_err-check_order-clause-refused c =
    let has : HasCode c.args.self.now c.symbol-function.result = c.if-not-has_code.ensures.0 (search rules) in
    let p = err_from_is_err_and c.from_residual-in_err-check_order.result c.from_residual-in_err-check_order.ensures.1 in
    rw (p.1, p.2)
    (refused_order c.args.self.now c.args.name.now c.in_ok-rows.rows.now c.in_err-check_order.field-0.0 c.in_ok-number.number c.symbol-function.result
    c.symbol-function.ensures c.in_ok-number.ensures.ok has c.in_ok-rows.ensures.ok c.in_err-check_order.ensures.err)

pub returns-in_err-references-clause-refused : goal.returns-in_err-references-clause-refused
returns-in_err-references-clause-refused c =
    let has : HasCode c.args.self.now c.symbol-function.result = c.if-not-has_code.ensures.0 (search rules) in
    let p = err_from_is_err_and c.from_residual-in_err-references.result c.from_residual-in_err-references.ensures.1 in
    rw (p.1, p.2)
    (refused_references c.args.self.now c.args.name.now c.in_ok-rows.rows.now c.in_err-references.field-0.0 c.in_ok-number.number
    c.symbol-function.result c.symbol-function.ensures c.in_ok-number.ensures.ok has c.in_ok-rows.ensures.ok c.in_ok-check_order.ensures.ok
    c.in_err-references.ensures.err)
