-- A front's activities are safe: they end between activities, and never halted.
use Rattle.honest_pair.proofs.Invariant.Puts.{add_add}
use Rattle.std.proofs.Common.{◌≡◌, ℕ, ◌+◌, ◌^◌, ◌<◌, ◌≤◌, true, false, List, [], ◌∷◌, ◌++◌, length, length-append, length-take, get_or, refl, sym, ◌∙◌, ap, arith, subst, Option, Some, None, append_assoc}
use Rattle.std.specs.Prelude.{Ok}
use Rattle.xen_buffers.specs.declared.wiring.FrontWiring.{FrontWiring}
use Rattle.xen_front.specs.Fronts.{all_free, chosen, post_tests}
use Rattle.xen_front.specs.Slots.{in_flight, pieces_of}
use Rattle.xen_front.specs.Tree.{flown, poll, poll_rx, post, send}
use Rattle.xen_front.specs.declared.state.Ring.{Ring}
use Rattle.xen_front.specs.declared.state.FrontState.{FrontState}
use Rattle.xen_front.specs.declared.turn.FrontHalt.{FrontHalt}
use Rattle.xen_steps.specs.Places.{add32}
use Rattle.honest_pair.specs.Invariant.Ghosts.{Sent, Front, tx_sent, slots, piece, pieces_in, id_at, IsSent, AllOf, bytes_in}
use Rattle.honest_pair.specs.Invariant.Inv.{Inv, IsFree}
use Rattle.honest_pair.specs.Invariant.Rest.{Ringed, id_of, Rest, Sends, Posts, Polls, Over, began, CanSend}
use Rattle.honest_pair.specs.Machine.Safe.{Safe}
use Rattle.honest_pair.proofs.Invariant.Lists.{pieces_count, bytes_append, nil_right}
use Rattle.honest_pair.specs.Invariant.Numbers.{Numbers}
use Rattle.honest_pair.proofs.Invariant.FrontPieces.{Differ, all_map}
use Rattle.honest_pair.proofs.Invariant.FrontPolls.{polled, poll_tx_safe}
use Rattle.honest_pair.proofs.Invariant.FrontPosts.{id_each, post_tree_safe}
use Rattle.honest_pair.proofs.Invariant.FrontPublishes.{Sendable, each, pushed, sent_one, slots_one}
use Rattle.honest_pair.proofs.Invariant.FrontReceives.{rxing}
use Rattle.honest_pair.proofs.Invariant.FrontRests.{flag_inside, no_flag}
use Rattle.honest_pair.proofs.Invariant.FrontRings.{IsFreeIn, all_free_from, chosen_from, chosen_differ, fly_busy, fly_count, fly_length, fly_still}
use Rattle.honest_pair.proofs.Invariant.FrontSends.{send_tree_safe}
use Rattle.honest_pair.proofs.Invariant.FrontStands.{all_at, id_of_piece}
use Rattle.honest_pair.proofs.Invariant.FrontTakes.{poll_rx_safe}

-- the ids of a packet take flight
flown_tx : (start : ℕ) (r : Ring) (f : Front) (q : Sent) → Ringed start r (id_of f) f.taken (tx_sent f) → Differ q.ids → AllOf (λ j. j < 256) q.ids → AllOf (λ j. get_or r.out j false ≡ false) q.ids →
    Ringed start (flown r q.ids) (id_of (pushed f q None)) f.taken (tx_sent (pushed f q None))
flown_tx start r f q h differ small clear =
    let len = sent_one f q None in
    let count = fly_count q.ids r.out h.size differ small clear in
    let old = h.count in
    let new = pieces_count q.bytes (length q.ids) 0 q.ids in
    record {
      prod = ap (λ x. add32 x (length q.ids)) h.prod ∙ add_add start (tx_sent f) (length q.ids) ∙ ap (add32 start) (sym len);
      cons = h.cons;
      busy = subst (λ l. (n : ℕ) → f.taken ≤ n → n < length l → in_flight (flown r q.ids) (piece l n).id ≡ true) (sym (slots_one f.sent q))
          (each (slots f.sent) (pieces_in q) (λ n x. in_flight (flown r q.ids) x.id ≡ true) f.taken
          (λ n u v. fly_still q.ids r.out (id_of f n) (flag_inside r.out (id_of f n) (h.busy n u v)) (h.busy n u v))
          (λ k v. ap (in_flight (flown r q.ids)) (id_of_piece q.bytes (length q.ids) 0 q.ids k) ∙ fly_busy q.ids r.out k h.size small (omega (arith, new, v))));
      count = omega (arith, len, count, old);
      size = fly_length r.out q.ids ∙ h.size;
    }

-- the id of a posted buffer does
flown_rx : (start : ℕ) (r : Ring) (posts : List ℕ) (got id : ℕ) → Ringed start r (id_at posts) got (length posts) → id < 256 → get_or r.out id false ≡ false →
    Ringed start (flown r (id ∷ [])) (id_at (posts ++ id ∷ [])) got (length (posts ++ id ∷ []))
flown_rx start r posts got id h small clear =
    let len = length-append posts (id ∷ []) in
    let count = fly_count (id ∷ []) r.out h.size (tt, tt) (small, tt) (clear, tt) in
    let old = h.count in
    record {
      prod = ap (λ x. add32 x 1) h.prod ∙ add_add start (length posts) 1 ∙ ap (add32 start) (sym len);
      cons = h.cons;
      busy = id_each posts id (λ n i. in_flight (flown r (id ∷ [])) i ≡ true) got
          (λ n u v. fly_still (id ∷ []) r.out (id_at posts n) (flag_inside r.out (id_at posts n) (h.busy n u v)) (h.busy n u v))
          (fly_busy (id ∷ []) r.out 0 h.size (small, tt) (omega arith));
      count = omega (arith, len, count, old);
      size = fly_length r.out (id ∷ []) ∙ h.size;
    }

pub posts_ok : (s : FrontState) → post_tests s.halt false (all_free s.rx.out) ≡ Ok tt → 0 < length (all_free s.rx.out)
posts_ok s e = by s.halt (all_free s.rx.out) e
  where
    by : (h : Option FrontHalt) (l : List ℕ) → post_tests h false l ≡ Ok tt → 0 < length l
    by (Some c) l e = absurd (cc)
    by None [] e = absurd (cc)
    by None (i ∷ l) e = omega arith

module _ (w : FrontWiring) (laid : Numbers w) (start : ℕ) (small : start < 2 ^ 32) (s : FrontState) (sent received : List (List ℕ)) (f : Front) (r : Rest start s sent received f) where
  -- A send that is taken: what was sent grows by its packet.
  pub send_safe : (p : List ℕ) → CanSend s p → ((i : ℕ) → get_or p i 0 < 256) →
      Safe (Inv w start) (Sends (sent ++ p ∷ []) received) (Over start (sent ++ p ∷ []) received) (began f (p ∷ [])) (send w s p (chosen (pieces_of (length p)) s.tx.out))
  send_safe p o bytes =
      let n = pieces_of (length p) in
      let out = s.tx.out in
      let ids = chosen n out in
      let room = o.room in let least = o.least in let most = o.most in let count = r.tx.count in
      let len : length ids ≡ n = omega (arith, length-take n (all_free out), room) in
      let below : AllOf (λ j. j < 256) ids = all_map (IsFreeIn out 256 0) (λ j. j < 256) (λ m h. let a = h.1 in omega (arith, a)) ids (chosen_from n out) in
      let clear : AllOf (λ j. get_or out j false ≡ false) ids = all_map (IsFreeIn out 256 0) (λ j. get_or out j false ≡ false) (λ m h. h.2) ids (chosen_from n out) in
      let q : Sent = record { bytes = p; ids = ids } in
      let F = began f (p ∷ []) in
      let good : IsSent q = record { least = least; most = most; bytes = bytes; count = len; ids = below } in
      let ok : Sendable w start F q = record { good = good; free = all_map (λ j. get_or out j false ≡ false) (IsFree w start F) (λ j h. no_flag start s.tx (id_of f) f.taken (tx_sent f) j r.tx h) ids clear; differ = chosen_differ n out; room = omega (arith, len, room, count) } in
      let c = r.chain in
      let grown : bytes_in (f.sent ++ q ∷ []) ≡ sent ++ p ∷ [] = bytes_append f.sent (q ∷ []) ∙ ap (λ t. t ++ p ∷ []) r.packets in
      send_tree_safe w laid start small (Sends (sent ++ p ∷ []) received) (Over start (sent ++ p ∷ []) received) F s p ids r.tx.prod ok (omega (arith, len, least)) (omega (arith, len, most)) refl
      (λ l. record { packets = ap (λ t. t ++ p ∷ []) r.packets; chain = record { before = c.before; more = c.more; told = c.told; bytes = c.bytes }; posting = refl })
      (λ win. record { packets = nil_right (bytes_in (f.sent ++ q ∷ [])) ∙ grown; chain = record { before = c.before; more = c.more; told = c.told; bytes = c.bytes }; posting = refl })
      (record {
        running = r.running;
        tx = flown_tx start s.tx f q r.tx (chosen_differ n out) below clear;
        rx = r.rx;
        unsent = refl;
        notes = refl;
        window = refl;
        posting = refl;
        reading = refl;
        packets = grown;
        chain = record { before = c.before; more = c.more; told = c.told; bytes = c.bytes ∙ sym (nil_right received) };
        got = r.got;
      })

  -- A post that is taken.
  pub post_safe : 0 < length (all_free s.rx.out) → Safe (Inv w start) (Posts sent received) (Over start sent received) (began f []) (post w s (get_or (all_free s.rx.out) 0 0))
  post_safe some =
      let out = s.rx.out in
      let id = get_or (all_free out) 0 0 in
      let free : IsFreeIn out 256 0 id = all_at (IsFreeIn out 256 0) (all_free out) (all_free_from out) 0 some in
      let below : id < 256 = (let a = free.1 in omega (arith, a)) in
      let count = r.rx.count in
      let c = r.chain in
      let packets : bytes_in f.sent ++ [] ≡ sent = nil_right (bytes_in f.sent) ∙ r.packets in
      post_tree_safe w laid start (Posts sent received) (Over start sent received) (began f []) s id r.rx.prod below
      (no_flag start s.rx (id_at f.posts) f.got (length f.posts) id r.rx free.2) (omega (arith, count, some)) refl refl small
      (λ l. record { packets = packets; chain = record { before = c.before; more = c.more; told = c.told; bytes = c.bytes }; window = refl })
      (λ going. record { packets = packets; chain = record { before = c.before; more = c.more; told = c.told; bytes = c.bytes }; window = refl })
      (record {
        running = r.running;
        tx = r.tx;
        rx = flown_rx start s.rx f.posts f.got id r.rx below free.2;
        unsent = refl;
        notes = refl;
        window = refl;
        posting = refl;
        reading = refl;
        packets = r.packets;
        chain = record { before = c.before; more = c.more; told = c.told; bytes = c.bytes ∙ sym (nil_right received) };
        got = r.got;
      })

  -- A poll gives the next packet that the back gave, or none.
  pub poll_safe : Safe (Inv w start) (Polls sent received) (Over start sent received) (began f []) (poll w s)
  poll_safe =
      let c = r.chain in
      let K = Polls sent received in let P = Over start sent received in
      let packets : bytes_in f.sent ++ [] ≡ sent = nil_right (bytes_in f.sent) ∙ r.packets in
      poll_tx_safe w laid start small f K P (λ a d. record { packets = packets; chain = record { before = c.before; more = c.more; told = c.told; bytes = c.bytes }; window = refl; posting = refl }) f.taken f.told s r.running r.tx
      (λ d s' halt same ring.
      let go = poll_rx_safe w laid start small K P (polled f d d) c.before f.received s'.tx
      (λ a x rd. record { packets = packets; chain = record { before = c.before; more = x; told = refl; bytes = c.bytes }; window = refl; posting = refl })
      (λ q x. record { packets = packets; chain = record { before = c.before; more = q ∷ x; told = refl; bytes = c.bytes }; window = refl; posting = refl })
      (λ x t halted tx rx. record {
        running = halted;
        tx = subst (λ y. Ringed start y (id_of f) d (tx_sent f)) (sym tx) ring;
        rx = rx;
        unsent = refl;
        notes = refl;
        window = refl;
        posting = refl;
        reading = refl;
        packets = r.packets;
        chain = record { before = c.before; more = x; told = refl; bytes = c.bytes ∙ sym (nil_right received) };
        got = refl;
      })
      (λ q x t halted tx rx.
      let one = slots_one c.before q in
      let size = length-append (slots c.before) (pieces_in q) in
      let many = pieces_count q.bytes (length q.ids) 0 q.ids in
      record {
        running = halted;
        tx = subst (λ y. Ringed start y (id_of f) d (tx_sent f)) (sym tx) ring;
        rx = rx;
        unsent = refl;
        notes = refl;
        window = refl;
        posting = refl;
        reading = refl;
        packets = r.packets;
        chain = record { before = c.before ++ q ∷ []; more = x; told = sym (append_assoc c.before (q ∷ []) x); bytes = bytes_append c.before (q ∷ []) ∙ ap (λ t. t ++ q.bytes ∷ []) c.bytes };
        got = sym (ap length one ∙ size ∙ ap (λ k. length (slots c.before) + k) many);
      })
      c.more s' halt refl (subst (λ y. Ringed start y (id_at f.posts) (length (slots c.before)) (length f.posts)) (sym same) (subst (λ y. Ringed start s.rx (id_at f.posts) y (length f.posts)) r.got r.rx)) in
      subst (λ y. Safe (Inv w start) K P (rxing (polled f d d) y f.rx_told None f.received) (poll_rx w s')) (sym r.got)
      (subst (λ y. Safe (Inv w start) K P (rxing (polled f d d) (length (slots c.before)) y None f.received) (poll_rx w s')) (sym c.told) go))
