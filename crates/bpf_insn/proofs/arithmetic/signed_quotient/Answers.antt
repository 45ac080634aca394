use Rattle.std.proofs.Common.{rules, FitsSigned, w64}
use Rattle.std.proofs.lemmas.Int.{to_z-of_z}
use Rattle.bpf_insn.proofs.OperationLemmas.{quotient_64}
use Rattle.bpf_insn.proofs.arithmetic.signed_quotient.Goals as goal

pub returns-else-src-eq0 : goal.returns-else-src-eq0
returns-else-src-eq0 c =
    let fits_dst : FitsSigned w64 c.cast_signed.result = search rules in
    let fits_src : FitsSigned w64 c.cast_signed-else-src-eq0.result = search rules in
    let fits : FitsSigned w64 c.wrapping_div.result = search rules in
    let dst = to_z-of_z w64 c.cast_signed.result fits_dst in
    let src = to_z-of_z w64 c.cast_signed-else-src-eq0.result fits_src in
    let same = to_z-of_z w64 c.wrapping_div.result fits in
    let quotient = quotient_64 c.args.dst c.args.src (search rules) (search rules) c.if-src-eq0.false in
    cc
