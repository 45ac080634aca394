use Rattle.std.proofs.Common.{refl, ◌∙◌, sym}
use Rattle.std.proofs.lemmas.List.{take_all}
use Rattle.xen_page.proofs.AccessLemmas.{performs_none}
use Rattle.xen_page.proofs.RewriteLemmas.{due_other, due_write}
use Rattle.xen_page.specs.Rewritten.{Rewrite}
use Rattle.xen_page.proofs.rewriting.write_due.Goals as goal
use Rattle.xen_page.proofs.rewriting.write_due.Goals.{then-before-number, else-before-number}

abbrev nowhere : Rewrite
nowhere = (0, record { frame = 0; word = 0 }, 0)

pub loop-before-init : goal.loop-before-init
loop-before-init g c = record { size = refl; performs = performs_none g.B.Bus.log g.B.Bus.access_gives c.args.bus.now }

pub write-requires-clause-frame : goal.write-requires-clause-frame
write-requires-clause-frame g c =
    rw c.loop-before.invariant.size (c.requires c.loop-before.before-index (0, record { frame = 0; word = 0 }, 0) c.loop-before-test.true).0

pub loop-before-preserved : goal.loop-before-preserved
loop-before-preserved g c =
    elim c.if-before-number.branch [
      | then-before-number w ↦ rw w.bus-is (record {
        size = w.write.ensures.size ∙ c.loop-before.invariant.size;
        performs = due_write g.B.Bus.log g.B.Bus.access_gives c.args.bus.now c.loop-before.bus w.write.new.self c.args.number
            c.args.writes.now c.loop-before.before-index nowhere c.loop-before-test.true w.if-before-number.true
            c.loop-before.invariant.performs w.write.ensures.told w.write.ensures.given;
      })
      | else-before-number w ↦ rw w.bus-is (record {
        size = c.loop-before.invariant.size;
        performs = due_other g.B.Bus.log g.B.Bus.access_gives c.args.bus.now c.loop-before.bus c.args.number
            c.args.writes.now c.loop-before.before-index nowhere c.loop-before-test.true w.if-before-number.false c.loop-before.invariant.performs;
      })
    ]

pub returns-clause-performs : goal.returns-clause-performs
returns-clause-performs g c = rw (sym (take_all c.loop-before.before-index c.args.writes.now c.loop-before-test.false)) c.loop-before.invariant.performs

pub returns-clause-size : goal.returns-clause-size
returns-clause-size g c = c.loop-before.invariant.size
