use Rattle.std.proofs.Common.{rules, ◌≡◌, false}
use Rattle.bpf_insn.specs.Register.{number}
use Rattle.bpf_same.specs.Stepped.{alters}
use Rattle.bpf_same.proofs.CountLemmas.{plain_step, sum_step}
use Rattle.bpf_same.proofs.count.Count.after.Goals as goal

pub returns-in-Some : goal.returns-in-Some
returns-in-Some c =
    let preserves : alters c.args.insn (number c.args.self.base) ≡ false = search rules in
    sum_step c.args.self c.counted.result c.args.insn (number c.in-Some.register) c.in-Some.ensures preserves c.counted.ensures

pub returns : goal.returns
returns c =
    let preserves : alters c.args.insn (number c.args.self.base) ≡ false = search rules in
    let plain = c.in_ok-plainly_written.ensures in
    plain_step c.args.self c.written.result c.args.insn c.in_ok-plainly_written.field-0 plain.0 plain.1 (c.reads_within.ensures c.if-not-reads_within.false) preserves c.written.ensures
