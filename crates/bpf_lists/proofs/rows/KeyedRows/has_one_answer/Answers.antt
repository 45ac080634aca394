use Rattle.std.proofs.Common.{subst}
use Rattle.bpf_lists.specs.Keys.{Keyed}
use Rattle.bpf_lists.specs.Refusals.{AreListed}
use Rattle.bpf_lists.specs.Find.{row_for}
use Rattle.bpf_lists.proofs.ValueLemmas.{AreBytes}
use Rattle.bpf_lists.proofs.OneLemmas.{computed_found, one_answer}
use Rattle.bpf_lists.proofs.SortLemmas.{listed_from}
use Rattle.bpf_lists.proofs.rows.KeyedRows.has_one_answer.Goals as goal

pub returns-clause-listed : goal.returns-clause-listed
returns-clause-listed c = subst (λ (k : Keyed). AreListed k.kind k.keys) c.self.view_is (listed_from c.self.inside.order c.kind-kind.ensures.ordered)

pub returns-clause-found : goal.returns-clause-found
returns-clause-found c = λ key. computed_found c.args.self.now key

pub returns-clause-one : goal.returns-clause-one
returns-clause-one c = λ key answer found.
    let o = c.self.inside.order in
    let is = c.kind-kind.ensures.ordered in
    let keyed = c.args.self.now in
    let listed = subst (λ (k : Keyed). AreListed k.kind k.keys) c.self.view_is (listed_from o is) in
    one_answer keyed.kind keyed.keys key listed (subst (λ (k : Keyed). AreBytes k.keys) c.self.view_is is.bytes) answer (row_for keyed key) found (computed_found keyed key)
