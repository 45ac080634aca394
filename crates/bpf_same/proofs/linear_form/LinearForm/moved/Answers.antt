use Rattle.bpf_same.proofs.LinearFormLemmas.{moved_total}
use Rattle.bpf_same.proofs.linear_form.LinearForm.moved.Goals as goal

pub returns : goal.returns
returns c = λ f. moved_total f c.args.self c.args.by
