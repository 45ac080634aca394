use Rattle.std.proofs.Common.{sym}
use Rattle.bpf_same.proofs.relation.Relation.new_form.Goals as goal

pub returns-in-None : goal.returns-in-None
returns-in-None c = λ f g h. sym (c.held.ensures f (h.words c.args.term))
