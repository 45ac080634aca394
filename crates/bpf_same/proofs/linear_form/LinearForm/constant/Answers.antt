use Rattle.std.proofs.Common.{arith}
use Rattle.bpf_same.proofs.LinearFormLemmas.{total_constant}
use Rattle.bpf_same.proofs.linear_form.LinearForm.constant.Goals as goal

pub returns : goal.returns
returns c = λ f. total_constant f c.args.constant (omega arith)
