use Rattle.std.proofs.Common.{length}
use Rattle.std.proofs.lemmas.Result.{err_from_is_err_and}
use Rattle.bpf_verify.proofs.RefusalLemmas.{halted_refusal}
use Rattle.bpf_verify.proofs.AcceptedLemmas.{consistent}
use Rattle.bpf_verify.proofs.UnwrittenLemmas.{stopped_unset, passed_written}
use Rattle.bpf_verify.proofs.verifier.both_passes.Goals as goal

pub returns-in_err-second_pass-clause-refused : goal.returns-in_err-second_pass-clause-refused
returns-in_err-second_pass-clause-refused c =
    let shapes = c.args.shapes.now in
    let r = c.in_err-second_pass.field-0.0.refusal in
    let p = err_from_is_err_and c.from_residual.result c.from_residual.ensures.1 in
    rw (p.1, p.2) (halted_refusal c.args.code.now shapes r.pc c.requires.laid c.in_default.ensures.none r.cause (stopped_unset c.args.code.now shapes (length shapes) r.pc c.requires.laid c.in_default.ensures.none) c.in_err-second_pass.ensures.halted)

pub returns-clause-consistent : goal.returns-clause-consistent
returns-clause-consistent c =
    let passed = c.in_ok-second_pass.ensures.passed in
    consistent c.args.code.now c.args.shapes.now passed.0 c.requires.laid c.requires.few c.are_shapes.ensures c.in_default.ensures.none c.in_default.ensures.ordered passed.1

pub returns-clause-faultless : goal.returns-clause-faultless
returns-clause-faultless c =
    let shapes = c.args.shapes.now in
    let passed = c.in_ok-second_pass.ensures.passed in
    record {
      structured = c.in_default.ensures.none;
      notes = passed.0;
      passed = passed.1;
      written = passed_written c.args.code.now shapes (length shapes) passed.0 c.requires.laid c.in_default.ensures.none passed.1;
    }
