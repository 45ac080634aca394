use Rattle.bpf_same.proofs.LinearFormLemmas.{total_plus}
use Rattle.bpf_same.proofs.linear_form.LinearForm.plus.Goals as goal

pub returns : goal.returns
returns c = λ f. total_plus f c.args.self c.args.other (let h = c.if-self-other-ne0.false in cc)
