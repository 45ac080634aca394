use Rattle.std.proofs.Common.{ℕ, ◌+◌, ◌++◌, ◌∷◌, List, length, take, drop, sym, ap, ◌∙◌, arith}
use Rattle.xen_host.specs.LentWords.{lent_words}
use Rattle.xen_host.specs.declared.op.HostOp.{HostOp}
use Rattle.xen_host.proofs.ChainLemmas.{taken_words, words_length}
use Rattle.xen_host.proofs.host.OpsHost.write.Goals as goal

pub returns-clause-asked : goal.returns-clause-asked
returns-clause-asked c =
    let old = c.args.self.now in
    let p = c.put.ensures in
    let n = c.args.count in
    let fresh = c.requires.fresh in
    record {
      room = omega (arith, fresh.0, fresh.1);
      ops = p.ops ∙ ap (λ (x : HostOp). take old.count old.ops.now ++ x ∷ drop (old.count + 1) old.ops.now) c.write.ensures;
      counted = p.counted;
      lent = (fresh.0, fresh.2, ap (λ (l : List (List ℕ)). take n (lent_words l)) p.words ∙ c.put_words.ensures.wrote ∙ sym (taken_words c.args.bytes.now c.args.from n), ap (λ (l : List (List ℕ)). drop n (lent_words l)) p.words ∙ c.put_words.ensures.rest, words_length c.args.bytes.now c.args.from n);
      width = ap (λ (l : List (List ℕ)). length l) p.words ∙ c.put_words.ensures.width;
      loan = p.loan;
    }
