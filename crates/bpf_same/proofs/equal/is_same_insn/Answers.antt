use Rattle.std.proofs.Common.{◌≡◌, sym, ◌∙◌}
use Rattle.bpf_insn.specs.contracts.insn.InsnPartialEq.TheImpl as insn_eq
use Rattle.bpf_same.proofs.EqualLemmas.{insns_equal}
use Rattle.bpf_same.proofs.equal.is_same_insn.Goals as goal

pub returns : goal.returns
returns c =
    let h : c.eq.result ≡ insn_eq.eq-value.it c.args.there c.args.insn = c.eq.ensures in
    (λ t. (insns_equal c.args.there c.args.insn).0 (sym h ∙ t), λ e. h ∙ (insns_equal c.args.there c.args.insn).1 e)
