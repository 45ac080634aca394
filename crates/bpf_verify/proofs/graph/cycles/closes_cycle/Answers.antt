use Rattle.std.proofs.Common.{◌≡◌, Some, arith, sym, ◌∙◌}
use Rattle.bpf_verify.specs.Ways.{jump_to}
use Rattle.bpf_verify.proofs.WayLemmas.{is_marked, jump_found, closes, closes_from, closes_nowhere}
use Rattle.bpf_verify.proofs.ListLemmas.{any_error}
use Rattle.bpf_verify.proofs.graph.cycles.closes_cycle.Goals as goal

pub returns-in_default-clause-closes : goal.returns-in_default-clause-closes
returns-in_default-clause-closes c = (λ e. cc, λ k. absurd (closes_nowhere c.args.code.now c.args.pc (sym c.jump_to.ensures ∙ c.in_default.is) k))

pub returns-then-to-pc-clause-closes : goal.returns-then-to-pc-clause-closes
returns-then-to-pc-clause-closes c =
    (λ e. cc, λ k. let at = closes_from c.args.code.now c.args.pc c.in-Some.to (sym c.jump_to.ensures ∙ c.in-Some.is) k in absurd (omega (arith, at.0, c.if-to-pc.true)))

pub returns-clause-closes : goal.returns-clause-closes
returns-clause-closes c =
    let code = c.args.code.now in
    let jumps : jump_to code c.args.pc ≡ Some c.in-Some.to = sym c.jump_to.ensures ∙ c.in-Some.is in
    let exact = c.in_ok-marks.ensures.exact c.args.pc in
    let is = is_marked c.in_ok-marks.marks.items c.args.pc c.index.result.now c.index.ensures (omega (arith, c.in_ok-marks.ensures.len, c.requires.inside, c.in_ok-marks.marks.ok.0)) in (
      λ e. closes code c.args.pc c.in-Some.to jumps c.if-to-pc.false (exact.0 (sym is ∙ e)),
      λ k. is ∙ exact.1 (closes_from code c.args.pc c.in-Some.to jumps k).1,
    )

pub returns-in_err-marks-clause-search : goal.returns-in_err-marks-clause-search
returns-in_err-marks-clause-search c =
    let found = jump_found c.args.code.now c.args.pc c.in-Some.to (sym c.jump_to.ensures ∙ c.in-Some.is) in
    any_error c.from_residual.result (record { insn = found.insn; here = found.here; offset = found.offset; jumps = found.jumps; to = c.in-Some.to; lands = found.lands; back = omega (arith, c.if-to-pc.false) })
