use Rattle.std.proofs.Common.{rules, FitsSigned, w32}
use Rattle.std.proofs.lemmas.Int.{to_z-of_z}
use Rattle.bpf_insn.proofs.OperationLemmas.{quotient_32}
use Rattle.bpf_insn.proofs.arithmetic.signed_quotient32.Goals as goal

pub returns-else-src-eq0 : goal.returns-else-src-eq0
returns-else-src-eq0 c =
    let fits_dst : FitsSigned w32 c.cast_signed.result = search rules in
    let fits_src : FitsSigned w32 c.cast_signed-else-src-eq0.result = search rules in
    let fits : FitsSigned w32 c.wrapping_div.result = search rules in
    let dst = to_z-of_z w32 c.cast_signed.result fits_dst in
    let src = to_z-of_z w32 c.cast_signed-else-src-eq0.result fits_src in
    let same = to_z-of_z w32 c.wrapping_div.result fits in
    let quotient = quotient_32 c.args.dst c.args.src (search rules) (search rules) c.if-src-eq0.false in
    cc
