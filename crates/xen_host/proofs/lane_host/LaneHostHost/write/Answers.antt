use Rattle.std.proofs.Common.{◌+◌, ◌++◌, ◌∷◌, take, drop, sym, ap, ◌∙◌}
use Rattle.xen_host.specs.LentWords.{lent_words}
use Rattle.xen_host.specs.declared.op.HostOp.{HostOp}
use Rattle.xen_host.proofs.ChainLemmas.{taken_words, words_length}
use Rattle.xen_host.proofs.LaneWordLemmas.{Words}
use Rattle.xen_host.proofs.lane_host.LaneHostHost.write.Goals as goal

pub returns-clause-asked : goal.returns-clause-asked
returns-clause-asked c =
    let old = c.args.self.now in
    let p = c.put.ensures in
    let q = c.put_own.ensures in
    let n = c.args.count in
    let own = old.own in
    let fresh = c.requires.fresh in
    record {
      said = λ _. (fresh.1, p.counted, p.ops ∙ ap (λ (x : HostOp). take old.count old.ops.now ++ record x { lent = own } ∷ drop (old.count + 1) old.ops.now) c.write.ensures);
      kept = λ h. absurd (cc h);
      lent = (
        fresh.0,
        ap (λ (x : Words). take own (lent_words x)) p.words ∙ q.front,
        ap (λ (x : Words). take n (drop own (lent_words x))) p.words ∙ q.wrote ∙ sym (taken_words c.args.bytes.now c.args.from n),
        ap (λ (x : Words). drop (own + n) (lent_words x)) p.words ∙ q.rest,
        words_length c.args.bytes.now c.args.from n,
      );
      beside = record {
        base = p.beside.base;
        limit = p.beside.limit;
        own = p.beside.own;
        ahead = p.beside.ahead;
        tx = p.beside.tx;
        room = p.beside.room;
        width = p.beside.width ∙ q.width;
        ops = p.beside.ops;
        words = p.beside.words;
      };
    }
