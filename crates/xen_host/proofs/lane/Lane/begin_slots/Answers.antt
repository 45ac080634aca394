use Rattle.std.proofs.Common.{◌≡◌, ℕ, ◌+◌, ◌-◌, ◌∙◌, inl, inr, true, List, [], refl, sym, ap, subst, arith}
use Rattle.xdp_program.specs.Tallies.{Went}
use Rattle.xen_netif.specs.Segments.{offered_fragments}
use Rattle.xen_steps.specs.Places.{add32}
use Rattle.xen_steps.specs.Drive.{LedBy}
use Rattle.xen_steps.specs.Steps.{bind}
use Rattle.xen_turns.specs.Tree.{after_chain, after_scan, halted, read_slots}
use Rattle.xen_turns.specs.declared.state.State.{State}
use Rattle.xen_turns.specs.declared.turn.Halt.TheVariants as halt
use Rattle.xen_host.specs.Early.{EarlyFrom, at_rx, is_early, is_late}
use Rattle.xen_host.specs.EngineAt.{engine_at}
use Rattle.xen_host.specs.HostLed.{TurnLeads}
use Rattle.xen_host.specs.LaneHosts.{IsLaneFull, IsLanePut}
use Rattle.xen_host.specs.LaneSteps.{AnswersSome, HasGathered, IsShown, LaneBegins, slot_reads}
use Rattle.xen_host.specs.Lanes.{EndsAt}
use Rattle.xen_host.specs.LentWords.{lent_words}
use Rattle.xen_host.specs.Wired.{wiring_of}
use Rattle.xen_host.specs.declared.gathering.Gathered.{Gathered}
use Rattle.xen_host.specs.declared.stage.Stage.{Stage}
use Rattle.xen_host.specs.declared.stage.Stage.TheVariants as stage
use Rattle.xen_host.proofs.LaneBeginLemmas.{after_chain_at, chain_past, halted_at, halted_past, lane_begun, scan_past, shown_few, whole_calm}
use Rattle.xen_host.proofs.LanesHaltLemmas.{chain_halts, slots_halt}
use Rattle.xen_host.proofs.LanesQuietLemmas.{slots_calm}
use Rattle.xen_host.proofs.RanLedLemmas.{ran_from_same, ran_none}
use Rattle.xen_host.proofs.lane.Lane.begin_slots.Goals as goal

same_count : (i n m end : ℕ) → i + n ≡ end → i + m ≡ end → n ≡ m
same_count i n m end a b = omega (arith, a, b)

never_both : (g : Stage) → is_late g ≡ true → is_early g ≡ true → ⊥
never_both stage.Ready h k = cc k
never_both stage.Announce h k = cc k
never_both (stage.Slot left) h k = cc h
never_both (stage.Entry i at) h k = cc h
never_both (stage.Page i f frame) h k = cc h
never_both (stage.Fill f p) h k = cc k
never_both (stage.Respond i) h k = cc k
never_both stage.Push h k = cc k
never_both stage.Notice h k = cc k
never_both (stage.Deliver producer) h k = cc k
never_both (stage.Wait pages) h k = cc k
never_both (stage.WaitLook pages) h k = cc k
never_both stage.Several h k = cc k

pub after_chain-requires-clause-whole : goal.after_chain-requires-clause-whole
after_chain-requires-clause-whole g c =
    let host = c.args.host.now in
    (subst (λ (z : Gathered). HasGathered (at_rx 0 c.args.self.now.engine.state) (lent_words c.all_words.result.now) host.ahead.taken host.ahead.count c.gather.new.self.work.chain z) c.in-Whole.is (c.gather.ensures.gathered 0)).5

pub more_slots-requires-clause-wants : goal.more_slots-requires-clause-wants
more_slots-requires-clause-wants g c =
    let host = c.args.host.now in
    (subst (λ (z : Gathered). HasGathered (at_rx 0 c.args.self.now.engine.state) (lent_words c.all_words.result.now) host.ahead.taken host.ahead.count c.gather.new.self.work.chain z) c.in-Wanting.is (c.gather.ensures.gathered 0)).4

pub returns-in-Broken : goal.returns-in-Broken
returns-in-Broken g c =
    let w = wiring_of c.args.wires.now in
    let s = c.args.self.now.engine.state in
    let host = c.args.host.now in
    let i = host.ahead.taken in
    let ahead = host.ahead.count in
    let lent = lent_words host.words.now in
    let gathered = λ (x : ℕ). subst (λ (l : List (List ℕ)). HasGathered (at_rx x s) (lent_words l) i ahead c.gather.new.self.work.chain c.gather.result) c.all_words.ensures (c.gather.ensures.gathered x) in
    let cause = halt.Chain c.in-Broken.fault in
    let each = λ (x : ℕ). subst (λ (z : Gathered). HasGathered (at_rx x s) lent i ahead c.gather.new.self.work.chain z) c.in-Broken.is (gathered x) in
    let h = each s.rx_index in
    let n = h.0 in
    let more = c.args.shown - i - n in
    let all : n + more ≡ c.args.shown - i = omega (arith, h.1, h.2, h.3, c.requires.all) in
    let r = c.halt in
    let m = c.args.counters.now in
    let went = Went (g.T.Tallies.did w.program.now.shapes) m m in
    let from = λ (st : State). halted st cause in
    let scanned = λ (x : ℕ). subst (λ (k : ℕ). LedBy (bind (read_slots w s.tx_index (k + more) []) (after_scan w (at_rx x s))) (slot_reads w s.tx_index lent i k) (from (at_rx x s))) (same_count i (each x).0 n _ (each x).2 h.2) ((each x).4 w more) in
    let led = subst (λ (x : State). TurnLeads IsLanePut IsLaneFull c.gather.new.self.offload (halted x cause) (engine_at w r.new.packet r.new.self) host r.new.host) c.gather.ensures.state (r.ensures.led w) in
    let b = lane_begun w r.new.packet r.new.self went s i n more ahead host r.new.host _ from c.requires.wired c.requires.turns c.requires.live
    (subst (λ k. IsShown s.tx_index k) (sym all) c.requires.shown) h.1 (omega (arith, h.2, h.3)) c.requires.tx c.requires.base (omega (arith, c.requires.limit)) (omega (arith, c.requires.limit, c.requires.room))
    (λ x. inr (halted_at (add32 s.tx_index n) (at_rx x s) cause)) (λ x. halted_past s.tx_index n (at_rx x s) cause) scanned (ran_none _ _ _ _ _ went _ _ refl led)
    (λ k. absurd (never_both r.new.self.stage r.ensures.late k)) (λ k. r.ensures.late) (r.ensures.rx ∙ ap (λ (x : State). x.rx_index) c.gather.ensures.state) tt tt in
    record {
      stands = b.stands;
      went = (b.labels, b.history);
      begun = subst (λ k. LaneBegins went s k i ahead c.in-Broken.end host.own (host.count + 1) (engine_at w r.new.packet r.new.self) host.ops.now r.new.host.ops.now host.count r.new.host.count lent (lent_words r.new.host.words.now)) all
          (subst (λ k. LaneBegins went s (n + more) i ahead k host.own (host.count + 1) (engine_at w r.new.packet r.new.self) host.ops.now r.new.host.ops.now host.count r.new.host.count lent (lent_words r.new.host.words.now)) h.2 (subst (λ k. LaneBegins went s (n + more) i ahead (i + n) host.own k (engine_at w r.new.packet r.new.self) host.ops.now r.new.host.ops.now host.count r.new.host.count lent (lent_words r.new.host.words.now)) c.requires.limit b.begins));
      most = omega (arith, b.within.room, b.within.beside.limit, c.requires.limit);
      room = b.within.beside.room;
      width = b.within.beside.width;
      loan = (b.within.beside.ops, b.within.beside.words);
    }

pub returns-in-Whole : goal.returns-in-Whole
returns-in-Whole g c =
    let w = wiring_of c.args.wires.now in
    let s = c.args.self.now.engine.state in
    let host = c.args.host.now in
    let i = host.ahead.taken in
    let ahead = host.ahead.count in
    let lent = lent_words host.words.now in
    let gathered = λ (x : ℕ). subst (λ (l : List (List ℕ)). HasGathered (at_rx x s) (lent_words l) i ahead c.gather.new.self.work.chain c.gather.result) c.all_words.ensures (c.gather.ensures.gathered x) in
    let chain = c.gather.new.self.work.chain in
    let each = λ (x : ℕ). subst (λ (z : Gathered). HasGathered (at_rx x s) lent i ahead chain z) c.in-Whole.is (gathered x) in
    let h = each s.rx_index in
    let n = h.0 in
    let more = c.args.shown - i - n in
    let all : n + more ≡ c.args.shown - i = omega (arith, h.1, h.2, h.3, c.requires.all) in
    let r = c.after_chain in
    let went = Went (g.T.Tallies.did w.program.now.shapes) c.args.counters.now r.new.counters in
    let from = λ (st : State). after_chain w st chain (offered_fragments w.offers chain) in
    let scanned = λ (x : ℕ). subst (λ (k : ℕ). LedBy (bind (read_slots w s.tx_index (k + more) []) (after_scan w (at_rx x s))) (slot_reads w s.tx_index lent i k) (from (at_rx x s))) (same_count i (each x).0 n _ (each x).2 h.2) ((each x).6 w more) in
    let same = ap from c.gather.ensures.state in
    let ends : (x : ℕ) → EndsAt (add32 s.tx_index n) (from (at_rx x s)) = λ x. subst (λ k. EndsAt (add32 s.tx_index k) (from (at_rx x s))) h.4 (after_chain_at w (at_rx x s) chain (offered_fragments w.offers chain)) in
    let b = lane_begun w r.new.packet r.new.self went s i n more ahead host r.new.host _ from c.requires.wired c.requires.turns c.requires.live
    (subst (λ k. IsShown s.tx_index k) (sym all) c.requires.shown) h.1 (omega (arith, h.2, h.3)) c.requires.tx c.requires.base (omega (arith, c.requires.limit)) (omega (arith, c.requires.limit, c.requires.room))
    (λ x. inr (ends x)) (λ x. chain_past w (at_rx x s) chain n (offered_fragments w.offers chain) h.4 (omega (arith, all, shown_few s.tx_index (c.args.shown - i) c.requires.shown))) scanned (ran_from_same _ _ _ _ _ _ _ _ _ same r.ensures.led.1)
    (subst (λ (x : State). EarlyFrom from x (engine_at w r.new.packet r.new.self)) c.gather.ensures.state r.ensures.early) r.ensures.on (r.ensures.rx ∙ ap (λ (x : State). x.rx_index) c.gather.ensures.state)
    (whole_calm w s chain (omega (arith, h.1, h.4))) (chain_halts w s chain (offered_fragments w.offers chain)) in
    record {
      stands = b.stands;
      went = (b.labels, b.history);
      begun = subst (λ k. LaneBegins went s k i ahead c.in-Whole.end host.own (host.count + 1) (engine_at w r.new.packet r.new.self) host.ops.now r.new.host.ops.now host.count r.new.host.count lent (lent_words r.new.host.words.now)) all
          (subst (λ k. LaneBegins went s (n + more) i ahead k host.own (host.count + 1) (engine_at w r.new.packet r.new.self) host.ops.now r.new.host.ops.now host.count r.new.host.count lent (lent_words r.new.host.words.now)) h.2 (subst (λ k. LaneBegins went s (n + more) i ahead (i + n) host.own k (engine_at w r.new.packet r.new.self) host.ops.now r.new.host.ops.now host.count r.new.host.count lent (lent_words r.new.host.words.now)) c.requires.limit b.begins));
      most = omega (arith, b.within.room, b.within.beside.limit, c.requires.limit);
      room = b.within.beside.room;
      width = b.within.beside.width;
      loan = (b.within.beside.ops, b.within.beside.words);
    }

pub returns-in-Wanting : goal.returns-in-Wanting
returns-in-Wanting g c =
    let w = wiring_of c.args.wires.now in
    let s = c.args.self.now.engine.state in
    let host = c.args.host.now in
    let i = host.ahead.taken in
    let ahead = host.ahead.count in
    let lent = lent_words host.words.now in
    let gathered = λ (x : ℕ). subst (λ (l : List (List ℕ)). HasGathered (at_rx x s) (lent_words l) i ahead c.gather.new.self.work.chain c.gather.result) c.all_words.ensures (c.gather.ensures.gathered x) in
    let chain = c.gather.new.self.work.chain in
    let each = λ (x : ℕ). subst (λ (z : Gathered). HasGathered (at_rx x s) lent i ahead chain z) c.in-Wanting.is (gathered x) in
    let h = each s.rx_index in
    let n = h.0 in
    let more = c.args.shown - ahead in
    let all : n + more ≡ c.args.shown - i = omega (arith, h.1, h.2, c.requires.all) in
    let r = c.more_slots in
    let m = c.args.counters.now in
    let went = Went (g.T.Tallies.did w.program.now.shapes) m m in
    let from = λ (st : State). bind (read_slots w st.tx_index more chain) (after_scan w st) in
    let scanned = λ (x : ℕ). subst (λ (k : ℕ). LedBy (bind (read_slots w s.tx_index (k + more) []) (after_scan w (at_rx x s))) (slot_reads w s.tx_index lent i k) (from (at_rx x s))) (same_count i (each x).0 n _ (each x).2 h.2) ((each x).5 w more) in
    let same = ap from c.gather.ensures.state in
    let past : (x : ℕ) → AnswersSome s.tx_index n (from (at_rx x s)) = λ x. subst (λ k. AnswersSome s.tx_index k (from (at_rx x s))) h.3 (scan_past w (at_rx x s) more chain (omega (arith, h.3, all, shown_few s.tx_index (c.args.shown - i) c.requires.shown))) in
    let b = lane_begun w r.new.packet r.new.self went s i n more ahead host r.new.host _ from c.requires.wired c.requires.turns c.requires.live
    (subst (λ k. IsShown s.tx_index k) (sym all) c.requires.shown) h.1 (omega (arith, h.2)) c.requires.tx c.requires.base (omega (arith, c.requires.limit)) (omega (arith, c.requires.limit, c.requires.room))
    (λ x. inl h.2) past scanned (ran_from_same _ _ _ _ _ _ _ _ _ same (ran_none _ _ _ _ _ went _ _ refl r.ensures.led))
    (subst (λ (x : State). EarlyFrom from x (engine_at w r.new.packet r.new.self)) c.gather.ensures.state r.ensures.early) r.ensures.on (r.ensures.rx ∙ ap (λ (x : State). x.rx_index) c.gather.ensures.state)
    (slots_calm w s more chain) (slots_halt w s more chain) in
    record {
      stands = b.stands;
      went = (b.labels, b.history);
      begun = subst (λ k. LaneBegins went s k i ahead ahead host.own (host.count + 1) (engine_at w r.new.packet r.new.self) host.ops.now r.new.host.ops.now host.count r.new.host.count lent (lent_words r.new.host.words.now)) all
          (subst (λ k. LaneBegins went s (n + more) i ahead k host.own (host.count + 1) (engine_at w r.new.packet r.new.self) host.ops.now r.new.host.ops.now host.count r.new.host.count lent (lent_words r.new.host.words.now)) h.2 (subst (λ k. LaneBegins went s (n + more) i ahead (i + n) host.own k (engine_at w r.new.packet r.new.self) host.ops.now r.new.host.ops.now host.count r.new.host.count lent (lent_words r.new.host.words.now)) c.requires.limit b.begins));
      most = omega (arith, b.within.room, b.within.beside.limit, c.requires.limit);
      room = b.within.beside.room;
      width = b.within.beside.width;
      loan = (b.within.beside.ops, b.within.beside.words);
    }
