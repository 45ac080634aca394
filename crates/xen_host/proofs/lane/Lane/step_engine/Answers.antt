use Rattle.std.proofs.Common.{◌≡◌, ◌∙◌, length, refl, sym, ap, arith}
use Rattle.std.specs.Prelude.{Bool, if◌then◌else◌}
use Rattle.xdp_program.specs.Tallies.{Went}
use Rattle.xen_host.specs.EngineAt.{engine_at}
use Rattle.xen_host.specs.LaneSteps.{LaneGoes, index_behind, indexed, lane_at}
use Rattle.xen_host.specs.LentWords.{lent_words}
use Rattle.xen_host.specs.Wired.{wiring_of}
use Rattle.std.proofs.Common.{subst}
use Rattle.xen_host.proofs.LaneStepLemmas.{behind_by, goes_rest, going_steps, indexed_rest, took, went_on}
use Rattle.xen_host.proofs.lane.Lane.step_engine.Goals as goal

pub returns : goal.returns
returns g c =
    let w = wiring_of c.args.wires.now in
    let q = lane_at w c.args.self.now in
    let x = c.args.rx_index.now in
    let host = c.args.host.now in
    let r = c.step in
    let new = engine_at w r.new.packet r.new.self in
    let went = Went (g.T.Tallies.did w.program.now.shapes) c.args.counters.now r.new.counters in
    let after = c.index_behind.result in
    let t = took x q q new went host r.new.host (sym (indexed_rest x q c.requires.other)) c.requires.fits c.requires.tx c.requires.base (omega (arith, c.requires.room)) (omega (arith, c.requires.limit)) refl (going_steps q.stage c.requires.going) r.ensures.led r.ensures.keeps in
    let b = t.within.beside in
    let behind : after ≡ index_behind x q.stage new.state =
    c.index_behind.ensures ∙ ap (λ (s : Bool). if s then new.state.rx_index else x) c.is_sending-sends.ensures ∙ sym (behind_by x q.stage new.state) in
    record {
      fits = t.fits;
      went = (t.labels, t.history);
      stands = t.stands;
      stepped = record {
        by = λ next st. went_on went next x after host.own (length host.ops.now) q new host.ops.now r.new.host.ops.now host.count r.new.host.count (lent_words host.words.now) (lent_words r.new.host.words.now)
            (goes_rest next q.stage q.work c.requires.other ∙ c.requires.going) behind
            (subst (λ k. LaneGoes went host.own k (indexed x q) new host.ops.now r.new.host.ops.now host.count r.new.host.count (lent_words host.words.now) (lent_words r.new.host.words.now)) c.requires.limit (t.goes st));
      };
      most = omega (arith, t.within.room, b.limit, c.requires.limit);
      room = b.room;
      width = b.width;
      loan = (b.ops, b.words);
    }
