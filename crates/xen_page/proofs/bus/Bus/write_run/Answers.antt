use Rattle.std.proofs.Common.{◌++◌, length-append, [], ◌∷◌, ◌∙◌, arith}
use Rattle.xen_page.proofs.RunLemmas.{below_more, bytes_up_to, writes_more}
use Rattle.xen_page.proofs.bus.Bus.write_run.Goals as goal

pub loop-number-preserved : goal.loop-number-preserved
loop-number-preserved g c =
    let i = c.loop-number.invariant in
    let words = i.written.0 in
    let n = c.loop-number.number in
    let v = c.word_at.result in
    record {
      size = c.write.ensures.size ∙ i.size;
      written = (
        words ++ v ∷ [],
        omega (arith, length-append words (v ∷ []), i.written.1),
        below_more words v i.written.2 c.word_at.type_inv,
        bytes_up_to words c.args.bytes.now n v c.word_at.ensures i.written.3,
        writes_more g.Self.Bus.log g.Self.Bus.access_gives c.args.at words n v c.args.self.now c.loop-number.self c.write.new.self
            i.written.1 i.written.4 c.write.ensures.told c.write.ensures.given,
      );
    }
