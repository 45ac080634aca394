-- The program's run, and the responses to a packet's slots.
use Rattle.std.proofs.Common.{◌≡◌, ℕ, suc, ◌+◌, ◌*◌, ◌%◌, ◌<◌, ◌≤◌, ◌⊎◌, inl, inr, Bool, true, false, List, [], ◌∷◌, ◌++◌, length, length-append, append_assoc, map, refl, sym, ◌∙◌, ap, arith, subst}
use Rattle.std.specs.Int.{w16, cast_unsigned}
use Rattle.std.proofs.lemmas.Bool.Decides.{eqb_tells}
use Rattle.bpf_vm.specs.Course.{Course, Exiting, Stepping, Loading, Adding, Broken}
use Rattle.xen_turns.specs.Tree.{Left, answer, answered, notice, program, publish, read_event, respond, response, responses}
use Rattle.xen_turns.specs.Turned.{Ending, Turned}
use Rattle.xen_turns.specs.declared.state.State.{State}
use Rattle.xen_turns.specs.declared.wiring.Wiring.{Wiring as BackWiring}
use Rattle.xen_buffers.specs.declared.wiring.FrontWiring.{FrontWiring}
use Rattle.xen_netif.specs.Chain.{requests_after}
use Rattle.xen_netif.specs.Slots.{status_code, tx_req_of}
use Rattle.xen_netif.specs.Words.{joined, low}
use Rattle.xen_netif.specs.declared.status.Status.{Status}
use Rattle.xen_ring.specs.Index.{is_due}
use Rattle.xen_steps.specs.Places.{add32, page_word, tx_entry}
use Rattle.xen_steps.specs.declared.want.Want.TheVariants as want
use Rattle.honest_pair.specs.Invariant.Ghosts.{AllOf, IsSent, Sent, Piece, piece, pieces_from, pieces_in, slots, Front, Back, tx_sent}
use Rattle.honest_pair.specs.Invariant.Inv.{Inv, TxSlots, tx_at, tx_words}
use Rattle.honest_pair.specs.Invariant.Laid.{Laid}
use Rattle.honest_pair.specs.Invariant.Ended.{working, resting, Leaves}
use Rattle.honest_pair.specs.Machine.Memory.{Memory, put, after}
use Rattle.honest_pair.specs.Invariant.Ends.{BackSafe, HasGiven}
use Rattle.honest_pair.proofs.Invariant.Puts.{add_add, put_apart, put_same, tx_apart}
use Rattle.honest_pair.proofs.Invariant.Lists.{pieces_count, slots_count}
use Rattle.honest_pair.proofs.Invariant.Asks.{told_by}
use Rattle.honest_pair.proofs.Invariant.BackGroups.{tx_head_put}
use Rattle.honest_pair.proofs.Invariant.BackRings.{tx_ring_put}
use Rattle.honest_pair.proofs.Invariant.BackLooks.{over, read_any, writes}
use Rattle.honest_pair.proofs.Invariant.BackChains.{no_extra, piece_there, slots_there}

abbrev pub HasLeft : (List ℕ → Type 0) → Back → Back → Left → Type 0
HasLeft P b b' r = (b' ≡ b) × P r.packet

-- A program touches no page, whatever its counters answer.
pub program_safe : (w : FrontWiring) (start : ℕ) (P : List ℕ → Type 0) (b : Back) (c : Course) (ops : ℕ) → Leaves P c → BackSafe w start (HasGiven b.given) (HasLeft P b) b (program c ops)
program_safe w start P b (Exiting r0 packet) ops h = λ m f i. (b, i, refl, λ n q. (refl, h))
program_safe w start P b (Stepping c) ops h = λ m f i. (b, i, refl, λ n q. program_safe w start P b c ops h)
program_safe w start P b (Loading m k j to) ops h = λ m f i. (b, i, refl, λ n q. program_safe w start P b (to n) (ops + 1) (h n))
program_safe w start P b (Adding m k j delta to) ops h = λ m f i. (b, i, refl, λ n q. program_safe w start P b (to n) (ops + 1) (h n))
program_safe w start P b Broken ops h = absurd h

module _ (w : FrontWiring) (start : ℕ) (code : ℕ) where
  -- the response to a piece
  abbrev pub reply : Piece → ℕ
  reply x = joined (tx_req_of (tx_words w start x)).id code

  pub reply_id : (x : Piece) → x.id < 256 → low (reply x) ≡ x.id
  reply_id x h = omega (arith, h)

module _ (w : FrontWiring) (start : ℕ) (st : Status) where
  abbrev code : ℕ
  code = cast_unsigned w16 (status_code st)

  later_replies : (p : List ℕ) (n k : ℕ) (ids : List ℕ) → map (response st) (requests_after false (map (tx_words w start) (pieces_from p n k ids))) ≡ map (reply w start code) (pieces_from p n k ids)
  later_replies p n k [] = refl
  later_replies p n k (id ∷ ids) = ap (λ l. reply w start code (record { bytes = p; n = n; k = k; id = id }) ∷ l) (later_replies p n (k + 1) ids)

  pub replies : (p : List ℕ) (n : ℕ) (ids : List ℕ) → responses st (map (tx_words w start) (pieces_from p n 0 ids)) ≡ map (reply w start code) (pieces_from p n 0 ids)
  replies p n [] = refl
  replies p n (id ∷ ids) =
      let x : Piece = record { bytes = p; n = n; k = 0; id = id } in
      ap (λ q. reply w start code x ∷ map (response st) (requests_after q (map (tx_words w start) (pieces_from p n 1 ids)))) (no_extra w start x)
      ∙ ap (λ l. reply w start code x ∷ l) (later_replies p n 1 ids)

module _ (w : FrontWiring) (start : ℕ) (y : Laid w) (v : BackWiring) (d : List Sent) (s : Sent) (l g : List Sent) (rs : List ℕ) (e : ℕ) (good : IsSent s) where
  -- all slots are read, and i are answered
  abbrev wrote : ℕ → Back
  wrote i = working d (s ∷ l) (length s.ids) i g rs e

  abbrev index : ℕ
  index = add32 start (length (slots d))

  count : length (pieces_in s) ≡ length s.ids
  count = pieces_count s.bytes (length s.ids) 0 s.ids

  responds : (m : Memory) (f : Front) (i z k : ℕ) → i < length s.ids → low z ≡ (piece (pieces_in s) i).id → k ≡ 16 + 3 * (add32 start (length (slots d) + i) % 256) + 0 → Inv w start m f (wrote i) →
      Inv w start (after (want.Write (page_word w.tx_frame k) z) m) f (wrote (i + 1))
  responds m f i z k p q at h =
      let b = slots_there w start v d s l g rs e m f (length s.ids) i h in
      let c = h.tx.took in let t = h.tx.told in let room = h.tx.room in
      let r = tx_ring_put w start m f (wrote i) h y k z (λ n j n1 n2 j3 u e2. other n j n1 n2 j3 u (omega (arith, c, t)) (omega (arith, b, p, count, room)) (e2 ∙ at)) in
      record {
        tx = record { took = h.tx.took; told = h.tx.told; wrote = omega (arith, p); used = h.tx.used; known = h.tx.known; room = h.tx.room; unique = h.tx.unique; good = h.tx.good };
        tx_head = tx_head_put w start m.word w.tx_frame k z (tx_sent f) (length (slots d)) e (λ n n3 u x. omega (arith, n3, x, at)) h.tx_head;
        tx_slots = record { requests = r.tx_slots.requests; grants = r.tx_slots.grants; pages = r.tx_slots.pages; responses = λ n n1 n2. answered_at n n1 n2 r.tx_slots };
        rx = h.rx;
        rx_head = r.rx_head;
        rx_slots = r.rx_slots;
        reading = r.reading;
        front_notes = r.front_notes;
        heard = λ x. cc;
        awaited = h.awaited;
      }
    where
      other : (n j : ℕ) → f.taken ≤ n → n < f.taken + 256 → j < 3 → (length (slots d) + length s.ids ≤ n) ⊎ ((n < length (slots d) + i) × (j ≡ 0)) → f.taken ≤ length (slots d) + i → length (slots d) + i < f.taken + 256 →
          16 + 3 * (add32 start n % 256) + j ≡ 16 + 3 * (add32 start (length (slots d) + i) % 256) + 0 → ⊥
      other n j n1 n2 j3 (inl u) t1 t2 e2 = tx_apart start (length (slots d) + i) n j 0 (omega (arith, u, p)) (omega (arith, n2, t1)) j3 (omega arith) e2
      other n j n1 n2 j3 (inr u) t1 t2 e2 = tx_apart start n (length (slots d) + i) 0 j (omega (arith, u.0)) (omega (arith, n1, t2)) (omega arith) j3 (sym e2)

      answered_at : (n : ℕ) → f.taken ≤ n → n < length (slots d) + (i + 1) →
          TxSlots w start (put m.word (page_word w.tx_frame k) z) (slots f.sent) f.taken (length (slots d)) (length (slots d) + i) (length (slots d) + length s.ids) →
          low (put m.word (page_word w.tx_frame k) z (tx_at w start n 0)) ≡ (piece (slots f.sent) n).id
      answered_at n n1 n2 x = elim (eqb_tells n (length (slots d) + i)) [
        | inl u ↦
            subst (λ o. low (put m.word (page_word w.tx_frame k) z (tx_at w start o 0)) ≡ (piece (slots f.sent) o).id) (sym u.1)
            (ap (λ o. low (put m.word (page_word w.tx_frame k) z (page_word w.tx_frame o))) (sym at)
            ∙ ap low (put_same m.word (page_word w.tx_frame k) z) ∙ q
            ∙ ap (λ o. o.id) (sym (piece_there w start v d s l g rs e m f (length s.ids) i i (omega (arith, p, count)) h)))
        | inr u ↦ x.responses n n1 (let o = u.1 in omega (arith, n2, o))
      ]

  pushes : (m : Memory) (f : Front) → Inv w start m f (wrote (length s.ids)) →
      Inv w start (after (want.Write (page_word w.tx_frame 2) (add32 index (length s.ids))) m) f (resting (d ++ s ∷ []) l g rs e)
  pushes m f h =
      let z = add32 index (length s.ids) in
      let r = tx_ring_put w start m f (wrote (length s.ids)) h y 2 z (λ n j n1 n2 j3 u e2. omega (arith, e2)) in
      let n = slots_count d (s ∷ []) in
      let n2 = length-append (pieces_in s) [] in
      let total : length (slots (d ++ s ∷ [])) ≡ length (slots d) + length s.ids = omega (arith, n, n2, count) in
      let t = h.tx.told in
      record {
        tx = record {
          took = h.tx.took;
          told = omega (arith, t, total);
          wrote = omega arith;
          used = omega arith;
          known = (h.tx.known.0, h.tx.known.1 ∙ sym (append_assoc d (s ∷ []) (l ++ h.tx.known.0)));
          room = h.tx.room;
          unique = h.tx.unique;
          good = h.tx.good;
        };
        tx_head = record {
          req_prod = put_apart m.word (page_word w.tx_frame 2) z (page_word w.tx_frame 0) (λ p q. omega (arith, q)) ∙ h.tx_head.req_prod;
          event = put_apart m.word (page_word w.tx_frame 2) z (page_word w.tx_frame 1) (λ p q. omega (arith, q)) ∙ h.tx_head.event;
          rsp_prod = put_same m.word (page_word w.tx_frame 2) z ∙ add_add start (length (slots d)) (length s.ids) ∙ ap (add32 start) (sym total);
        };
        tx_slots = record {
          requests = λ n j p. r.tx_slots.requests n j (omega (arith, p, total));
          grants = λ n p. r.tx_slots.grants n (omega (arith, p, total));
          pages = λ n j p. r.tx_slots.pages n j (omega (arith, p, total));
          responses = λ n p q. r.tx_slots.responses n p (omega (arith, q, total));
        };
        rx = h.rx;
        rx_head = r.rx_head;
        rx_slots = r.rx_slots;
        reading = r.reading;
        front_notes = r.front_notes;
        heard = λ x. cc;
        awaited = h.awaited;
      }

  abbrev pub after_all : Back
  after_all = resting (d ++ s ∷ []) l g rs e

  -- a notice is sent to the front
  notifies : (m : Memory) (f : Front) (port : ℕ) → Inv w start m f after_all → Inv w start (after (want.Notify port) m) f after_all
  notifies m f port h = record {
    tx = h.tx;
    tx_head = h.tx_head;
    tx_slots = h.tx_slots;
    rx = h.rx;
    rx_head = h.rx_head;
    rx_slots = h.rx_slots;
    reading = h.reading;
    front_notes = h.front_notes;
    heard = λ x. cc;
    awaited = told_by w start port m.pending (length f.posts) f.posting m.awaits h.awaited;
  }

  -- the packet is answered, and the turn ends so
  abbrev pub Answered : Ending → Back → Ending → Type 0
  Answered end b x = (b ≡ after_all) × (x ≡ end)

  notice_safe : (due : Bool) (end : Ending) → BackSafe w start (HasGiven g) (Answered end) after_all (notice (over w v) due end)
  notice_safe false end = (refl, refl)
  notice_safe true end = λ m f h. (after_all, notifies m f v.vif.port h, refl, λ n q. (refl, refl))

  publish_safe : (new : ℕ) (end : Ending) → new ≡ add32 index (length s.ids) → BackSafe w start (HasGiven g) (Answered end) (wrote (length s.ids)) (publish (over w v) index new end)
  publish_safe new end at =
      writes w start (HasGiven g) (Answered end) (wrote (length s.ids)) after_all (page_word w.tx_frame 2) new (λ o. read_event (over w v) index new end)
      refl (λ m f h. subst (λ z. Inv w start (after (want.Write (page_word w.tx_frame 2) z) m) f after_all) (sym at) (pushes m f h))
      (read_any w start (HasGiven g) (Answered end) after_all (page_word w.tx_frame 3) (λ event. notice (over w v) (is_due index new event) end) refl (λ event. notice_safe (is_due index new event) end))

  answer_safe : (c : ℕ) (ids : List ℕ) (i n : ℕ) (end : Ending) → n ≡ length s.ids → length s.ids ≡ i + length ids → AllOf (λ o. o < 256) ids →
      ((o : ℕ) → o < length ids → piece (pieces_in s) (i + o) ≡ piece (pieces_from s.bytes (length s.ids) i ids) o) →
      BackSafe w start (HasGiven g) (Answered end) (wrote i) (answer (over w v) index n i (map (reply w start c) (pieces_from s.bytes (length s.ids) i ids)) end)
  answer_safe c [] i n end a b q z = subst (λ o. BackSafe w start (HasGiven g) (Answered end) (wrote o) (publish (over w v) index (add32 index n) end)) (omega (arith, b)) (publish_safe (add32 index n) end (ap (add32 index) a))
  answer_safe c (id ∷ ids) i n end a b q z =
      let x : Piece = record { bytes = s.bytes; n = length s.ids; k = i; id = id } in
      let at : piece (pieces_in s) i ≡ x = ap (piece (pieces_in s)) (omega arith) ∙ z 0 (omega arith) in
      writes w start (HasGiven g) (Answered end) (wrote i) (wrote (i + 1)) (tx_entry w.tx_frame (add32 index i) 0) (reply w start c x)
      (λ o. answer (over w v) index n (i + 1) (map (reply w start c) (pieces_from s.bytes (length s.ids) (i + 1) ids)) end)
      refl (λ m f h. responds m f i (reply w start c x) (16 + 3 * (add32 index i % 256) + 0) (omega (arith, b)) (reply_id w start c x q.0 ∙ ap (λ o. o.id) (sym at)) (ap (λ o. 16 + 3 * (o % 256) + 0) (add_add start (length (slots d)) i)) h)
      (answer_safe c ids (i + 1) n end a (omega (arith, b)) q.1 (λ o p. ap (piece (pieces_in s)) (omega arith) ∙ z (suc o) (omega (arith, p))))

  -- All slots are answered, and the packet is behind the back.
  pub respond_safe : (state : State) (st : Status) (u : Turned) → state.tx_index ≡ index →
      BackSafe w start (HasGiven g) (Answered (answered state (length s.ids), u)) (wrote 0) (respond (over w v) state (map (tx_words w start) (pieces_in s)) st u)
  respond_safe state st u at =
      let all = map (tx_words w start) (pieces_in s) in
      let n : length all ≡ length s.ids = length_map (pieces_in s) ∙ count in
      subst (λ o. BackSafe w start (HasGiven g) (Answered (answered state (length s.ids), u)) (wrote 0) (answer (over w v) o (length all) 0 (responses st all) (answered state (length all), u))) (sym at)
      (subst (λ o. BackSafe w start (HasGiven g) (Answered (answered state (length s.ids), u)) (wrote 0) (answer (over w v) index (length all) 0 o (answered state (length all), u))) (sym (replies w start st s.bytes (length s.ids) s.ids))
      (subst (λ o. BackSafe w start (HasGiven g) (Answered (answered state o, u)) (wrote 0) (answer (over w v) index (length all) 0 (map (reply w start (cast_unsigned w16 (status_code st))) (pieces_in s)) (answered state (length all), u))) n
      (answer_safe (cast_unsigned w16 (status_code st)) s.ids 0 (length all) (answered state (length all), u) n (omega arith) good.ids (λ o p. ap (piece (pieces_in s)) (omega arith)))))
    where
      length_map : (ps : List Piece) → length (map (tx_words w start) ps) ≡ length ps
      length_map [] = refl
      length_map (p ∷ ps) = ap (λ o. suc o) (length_map ps)
