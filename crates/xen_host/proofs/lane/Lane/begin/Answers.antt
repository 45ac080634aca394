use Rattle.std.proofs.Common.{◌≡◌, ◌+◌, ◌-◌, List, [], refl, sym, subst}
use Rattle.std.specs.Prelude.{None, Option}
use Rattle.bpf_note.specs.declared.op.Op.{Op as Operation}
use Rattle.xdp_program.specs.Tallies.{Went}
use Rattle.xen_host.specs.LaneSteps.{LaneBegins, lane_at}
use Rattle.xen_host.specs.LentWords.{lent_words}
use Rattle.xen_host.specs.Wired.{wiring_of}
use Rattle.xen_host.proofs.LaneBeginLemmas.{begins_also}
use Rattle.xen_host.proofs.lane.Lane.begin.Goals as goal

pub returns-then-is_alone-clause-begun : goal.returns-then-is_alone-clause-begun
returns-then-is_alone-clause-begun g c =
    let w = wiring_of c.args.wires.now in
    let n = c.args.counters.now in
    let host = c.args.host.now in
    let ahead = host.ahead in
    let r = c.begin_alone in
    let after = r.new.host in
    let none = λ (labels : List (Option Operation)). labels ≡ [] in
    let went = Went (g.T.Tallies.did w.program.now.shapes) n n in
    begins_also none went (λ labels e. subst (λ (l : List (Option Operation)). went l) (sym e) refl) _ (c.args.shown - ahead.taken) ahead.taken ahead.count after.ahead.taken host.own (host.count + 1) (lane_at w r.new.self)
    host.ops.now after.ops.now host.count after.count (lent_words host.words.now) (lent_words after.words.now)
    (subst (λ t. LaneBegins none (record { tx_index = t; rx_index = c.args.rx_index; halt = None }) (c.args.shown - ahead.taken) ahead.taken ahead.count after.ahead.taken host.own (host.count + 1) (lane_at w r.new.self)
    host.ops.now after.ops.now host.count after.count (lent_words host.words.now) (lent_words after.words.now)) c.index.ensures r.ensures.begun)

pub returns-else-is_alone-clause-begun : goal.returns-else-is_alone-clause-begun
returns-else-is_alone-clause-begun g c =
    let w = wiring_of c.args.wires.now in
    let host = c.args.host.now in
    let ahead = host.ahead in
    let r = c.begin_chain-said in
    let went = Went (g.T.Tallies.did w.program.now.shapes) c.args.counters.now r.new.counters in
    subst (λ t. LaneBegins went (record { tx_index = t; rx_index = c.args.rx_index; halt = None }) (c.args.shown - ahead.taken) ahead.taken ahead.count r.result.1 host.own (host.count + 1) (lane_at w r.new.self)
    host.ops.now r.new.ops host.count r.result.0 (lent_words host.words.now) (lent_words r.new.words)) c.index.ensures r.ensures.begun
