use Rattle.std.proofs.Common.{◌≡◌, ℕ, ◌+◌, ◌-◌, ◌*◌, ◌≤◌, ◌∙◌, inr, List, [], ◌∷◌, length, drop, refl, sym, ap, subst, arith}
use Rattle.std.proofs.lemmas.List.{length-drop, length-take}
use Rattle.std.specs.Prelude.{Option}
use Rattle.bpf_note.specs.declared.op.Op.{Op as Operation}
use Rattle.xen_netif.specs.Segments.{offered_fragments}
use Rattle.xen_turns.specs.Tree.{after_chain}
use Rattle.xen_turns.specs.declared.state.State.{State}
use Rattle.xen_host.specs.Early.{at_rx}
use Rattle.xen_host.specs.LaneSteps.{IsShown, LaneBegins, lane_at, slot_at}
use Rattle.xen_host.specs.LentWords.{lent_words}
use Rattle.xen_host.specs.Wired.{wiring_of}
use Rattle.xen_host.proofs.FedLemmas.{words_below}
use Rattle.xen_host.proofs.LaneBeginLemmas.{after_chain_at, chain_past, lane_begun, scan_more, scan_none, scan_whole, whole_calm}
use Rattle.xen_host.proofs.LanesHaltLemmas.{chain_halts}
use Rattle.xen_host.proofs.LentWordLemmas.{lent_length}
use Rattle.xen_host.proofs.OffloadLemmas.{stands_alone}
use Rattle.xen_host.proofs.RanLedLemmas.{ran_none}
use Rattle.xen_host.proofs.lane.Lane.begin_alone.Goals as goal

pub returns : goal.returns
returns c =
    let w = wiring_of c.args.wires.now in
    let old = c.args.host.now in
    let s = c.args.self.now.engine.state in
    let slot = c.args.slot in
    let i = old.ahead.taken in
    let shown = c.args.shown in
    let more = shown - i - 1 in
    let r = c.after_only_slot in
    let host = record old { base = old.count; limit = old.count + 1; ahead = record old.ahead { taken = i + 1 } } in
    let words = old.words.now in
    let lent = lent_words words in
    let chain = slot ∷ [] in
    let from = λ (st : State). after_chain w st chain (offered_fragments w.offers chain) in
    let went = λ (labels : List (Option Operation)). labels ≡ [] in
    let inside : 3 * i + 3 ≤ length words = omega (arith, c.requires.more, c.requires.few, c.requires.front) in
    let three : length slot ≡ 3 = ap (λ (x : List ℕ). length x) c.requires.next ∙ omega (arith, length-take 3 (drop (3 * i) lent), length-drop (3 * i) lent, lent_length words, inside) in
    let first : i + 0 ≡ i = omega arith in
    let all : 1 + more ≡ shown - i = omega (arith, c.requires.more, c.requires.all) in
    let scanned = λ (x : ℕ). scan_whole (at_rx x s) lent i 1 chain (stands_alone slot c.requires.plain c.requires.alone)
    (scan_more (at_rx x s) lent i 0 [] slot three refl (ap (λ k. slot_at lent k) first ∙ sym c.requires.next) (words_below slot c.are_words.ensures) (scan_none (at_rx x s) lent i)) w more in
    let b = lane_begun w r.new.packet r.new.self went s i 1 more old.ahead.count host r.new.host _ from c.requires.wired c.requires.turns c.requires.live
    (subst (λ k. IsShown s.tx_index k) (sym all) c.requires.shown) (omega arith) (omega (arith, c.requires.more)) c.requires.tx refl (omega arith) (omega (arith, c.requires.room))
    (λ x. inr (after_chain_at w (at_rx x s) chain (offered_fragments w.offers chain))) (λ x. chain_past w (at_rx x s) chain 1 (offered_fragments w.offers chain) refl (omega arith)) scanned (ran_none _ _ _ _ _ went _ _ refl r.ensures.led) r.ensures.early r.ensures.on r.ensures.rx
    (whole_calm w s chain (omega arith)) (chain_halts w s chain (offered_fragments w.offers chain)) in
    let beside = b.within.beside in
    let taken : i + 1 ≡ r.new.host.ahead.taken = ap (λ a. a.taken) (sym beside.ahead) in
    record {
      stands = b.stands;
      begun = subst (λ k. LaneBegins went s k i old.ahead.count r.new.host.ahead.taken old.own (old.count + 1) (lane_at w (record { engine = r.new.self; packet = r.new.packet })) old.ops.now r.new.host.ops.now old.count r.new.host.count lent (lent_words r.new.host.words.now)) all
          (subst (λ k. LaneBegins went s (1 + more) i old.ahead.count k old.own (old.count + 1) (lane_at w (record { engine = r.new.self; packet = r.new.packet })) old.ops.now r.new.host.ops.now old.count r.new.host.count lent (lent_words r.new.host.words.now)) taken b.begins);
      most = omega (arith, b.within.room, beside.limit);
      ahead = beside.ahead ∙ ap (λ k. record old.ahead { taken = k }) taken;
      keeps = record { own = beside.own; tx = beside.tx; room = beside.room; width = beside.width; ops = beside.ops; words = beside.words };
    }
