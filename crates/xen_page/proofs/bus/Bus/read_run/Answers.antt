use Rattle.std.proofs.Common.{◌∙◌}
use Rattle.xen_page.proofs.RunLemmas.{read_more}
use Rattle.xen_page.proofs.bus.Bus.read_run.Goals as goal

pub loop-number-preserved : goal.loop-number-preserved
loop-number-preserved g c =
    let i = c.loop-number.invariant in
    record {
      size = c.read-word.ensures.size ∙ i.size;
      read = rw c.put_word.ensures (read_more g.Self.Bus.log g.Self.Bus.access_gives c.args.at c.loop-number.number c.read-word.result
          c.args.self.now c.loop-number.self c.read-word.new.self c.args.room.now c.loop-number.room i.read
          c.read-word.type_inv c.read-word.ensures.told c.read-word.ensures.given);
    }
