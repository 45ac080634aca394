use Rattle.std.proofs.Common.{[], refl, ◌+◌, arith}
use Rattle.xen_host.specs.EngineAt.{engine_at}
use Rattle.xen_back.proofs.InOneGoLemmas.{rests_in, state_in}
use Rattle.bpf_verify.specs.Consistent.{instructions}
use Rattle.xen_steps.specs.Drive.{Any}
use Rattle.xen_steps.proofs.FinishLemmas.{finishes}
use Rattle.xen_rx_fill.specs.Wired.{IsWired}
use Rattle.xen_rx_fill.specs.declared.vif.Vif.{Vif}
use Rattle.xen_turns.specs.Tree.{whole_turn}
use Rattle.xen_turns.specs.Within.{Completes, may_want}
use Rattle.xen_turns.specs.declared.state.State.{State}
use Rattle.xen_turns.specs.declared.wiring.Wiring.{Wiring}
use Rattle.xen_turns.proofs.Bounds.{bounded_turn}
use Rattle.xen_turns.proofs.EndLemmas.{ends_turn, run_whole}
use Rattle.xen_back.proofs.queue.Queue.resume.Goals as goal

pub invariant_of-result : goal.invariant_of-result
invariant_of-result c =
    let d = c.args.desc in
    let vif : Vif = record { tx = c.frame.result; rx = c.frame-2.result; table = d.table; owners = d.owners; granter = d.granter; user = d.user; port = d.port } in
    let w : Wiring = record { vif = vif; offers = d.offers; accepts = d.accepts; program = c.args.program; lists = c.args.lists; ifindex = d.ifindex; queue = d.queue } in
    let wired : IsWired vif = record {
      tx = rw c.frame.ensures c.requires.tx.owned;
      rx = rw c.frame-2.ensures c.requires.rx.owned;
      table = c.requires.table;
    } in
    let consistent = c.instructions.ensures.consistent in
    let turns : (s : State) → Completes w (whole_turn w s) = λ s. finishes (may_want w) Any Any (whole_turn w s) (287383 + instructions w.program.now.code)
    (bounded_turn w w.program.now.shapes wired consistent.maps refl s) (ends_turn w (run_whole w consistent (omega arith) (omega arith)) s) in
    record { here = refl; rests = rests_in (engine_at w [] c.new.result) c.args.state (c.new.ensures.rests w []); wired = wired; turns = turns; left = turns c.new.result.state }

pub returns : goal.returns
returns c =
    let d = c.args.desc in
    let vif : Vif = record { tx = c.frame.result; rx = c.frame-2.result; table = d.table; owners = d.owners; granter = d.granter; user = d.user; port = d.port } in
    let w : Wiring = record { vif = vif; offers = d.offers; accepts = d.accepts; program = c.args.program; lists = c.args.lists; ifindex = d.ifindex; queue = d.queue } in
    record {
      tx_ring = refl;
      rx_ring = refl;
      tx = c.frame.ensures;
      rx = c.frame-2.ensures;
      table = refl;
      owners = refl;
      granter = refl;
      user = refl;
      port = refl;
      offers = refl;
      accepts = refl;
      accepted = refl;
      lists_are = refl;
      ifindex = refl;
      queue = refl;
      state = state_in (engine_at w [] c.new.result) c.args.state (c.new.ensures.rests w []);
      ready = (c.empty.result, refl);
      wired = record {
        tx = rw c.frame.ensures c.requires.tx.owned;
        rx = rw c.frame-2.ensures c.requires.rx.owned;
        table = c.requires.table;
      };
    }
