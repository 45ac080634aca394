-- A packet is sent back: its slots are answered, and the responses published.
use Rattle.std.proofs.Common.{◌≡◌, ℕ, zero, suc, ◌+◌, ◌-◌, ◌*◌, ◌%◌, ◌^◌, ◌<◌, ◌≤◌, ◌⊎◌, inl, inr, Bool, true, false, List, [], ◌∷◌, ◌++◌, length, append_assoc, refl, sym, ◌∙◌, ap, arith, subst}
use Rattle.std.specs.Prelude.{nat_lt}
use Rattle.std.proofs.lemmas.Bool.Decides.{eqb_tells, nat_tests}
use Rattle.xen_turns.specs.declared.wiring.Wiring.{Wiring as BackWiring}
use Rattle.xen_buffers.specs.declared.wiring.FrontWiring.{FrontWiring}
use Rattle.xen_page.specs.declared.place.Place.{Place}
use Rattle.xen_ring.specs.Index.{is_due}
use Rattle.xen_steps.specs.Places.{add32, page_word, rx_entry}
use Rattle.xen_steps.specs.Steps.{ask}
use Rattle.xen_steps.specs.declared.want.Want.TheVariants as want
use Rattle.xen_netif.specs.declared.offload.RxOffload.TheVariants.{Whole}
use Rattle.xen_rx_fill.specs.Packets.{pages, response_word, word_of, words}
use Rattle.xen_rx_fill.specs.Transmit.{rx_answer, rx_event, rx_notice, rx_publish}
use Rattle.xen_rx_fill.specs.declared.by_event.phase.TransmitOutcome.{TransmitOutcome}
use Rattle.xen_rx_fill.specs.declared.by_event.phase.TransmitOutcome.TheVariants as outcome
use Rattle.xen_rx_fill.specs.declared.target.Grants.TheVariants.{Passed}
use Rattle.honest_pair.specs.Invariant.Ghosts.{AllOf, IsSent, Sent, Piece, piece, id_at, slots, Front, Back, tx_sent}
use Rattle.honest_pair.specs.Invariant.Inv.{Heard, Inv, RxSlots, rx_at, rx_buffer, rx_word_of}
use Rattle.honest_pair.specs.Invariant.Ends.{BackSafe}
use Rattle.honest_pair.specs.Invariant.Laid.{Laid}
use Rattle.honest_pair.specs.Machine.Memory.{Memory, put, after}
use Rattle.honest_pair.proofs.Invariant.Puts.{add_add, put_apart, put_same, rx_apart}
use Rattle.honest_pair.proofs.Invariant.Lists.{nil_right, small_ids}
use Rattle.honest_pair.proofs.Invariant.Asks.{asked_as, told_by}
use Rattle.honest_pair.proofs.Invariant.BackGroups.{tx_put, rx_put, tx_head_put, rx_head_put, reading_put, notes_put, fronts_rx}
use Rattle.honest_pair.proofs.Invariant.BackRings.{given_bound, given_small, got_bound, posts_bound, sent_bound}
use Rattle.honest_pair.proofs.Invariant.BackLooks.{over, read_any, writes}
use Rattle.honest_pair.proofs.Invariant.BackPosts.{sending, tx_same}
use Rattle.honest_pair.proofs.Invariant.BackFills.{all, all_count, all_new, gift, given_state, ids_count, new, post, targets}

pub side : (n k : ℕ) → (n < k) ⊎ (k ≤ n)
side n k = by (nat_lt n k) refl
  where
    by : (b : Bool) → nat_lt n k ≡ b → (n < k) ⊎ (k ≤ n)
    by true c = inl (grind (arith, nat_tests))
    by false c = inr (grind (arith, nat_tests))

-- All but the rx ring's header and slots, after a word of the rx ring's page is written that is no word of the front's.
module _ (w : FrontWiring) (start : ℕ) (small : start < 2 ^ 32) (d a : List Sent) (used : ℕ) (g : List Sent) (e : ℕ) (sl : Bool) (rs : List ℕ) (packet : List ℕ) (N : ℕ) (y : Laid w) (count : N ≡ pages packet) (p : length (slots g) + N ≤ length rs) where
  abbrev G : ℕ
  G = length (slots g)

  abbrev L : List Piece
  L = all w start small d a used g e sl rs packet N

  abbrev now : ℕ → ℕ → Back
  now fl wr = given_state w start small d a used g e sl rs packet N fl wr

  abbrev X : Sent
  X = gift w start small d a used g e sl rs packet N

  abbrev slot : ℕ → Piece
  slot i = new w start small d a used g e sl rs packet N i

  -- the next word of a response is written
  replies : (m : Memory) (f : Front) (fl i o wr k : ℕ) → i < N → o < 2 → wr ≡ 2 * i + o → k ≡ 16 + 2 * (add32 start (G + i) % 256) + o → Inv w start m f (now fl wr) →
      Inv w start (after (want.Write (page_word w.rx_frame k) (rx_word_of w start (slot i) o)) m) f (now fl (wr + 1))
  replies m f fl i o wr k ip op at place h =
      let z = rx_word_of w start (slot i) o in
      let sb = sent_bound w start m f (now fl wr) h in
      let gb = given_bound w start m f (now fl wr) h in
      let ob = got_bound w start m f (now fl wr) h in
      let pb = posts_bound w start m f (now fl wr) h in
      let room = h.rx.room in
      let c = h.tx.took in let t = h.tx.told in
      let r = rx_put w start m.word w.rx_frame k z f.posts L f.got G (G + N) (2 * G + wr) fl y.rx_ring h.rx.ids (omega (arith, ob)) gb
      (λ n o2 q1 q2 q3 q4 q5 q6. clash n o2 q1 (omega (arith, q2, room)) q3 q4 (omega (arith, ob)) (omega (arith, p, ip, pb, room)) (q6 ∙ place))
      (λ n o2 q1 q2 q3 q4 q5 q6. y.rx_ring_rx (piece L n).id (given_small w start m f (now fl wr) h n q2) q5) h.rx_slots in
      record {
        tx = tx_same w start f d a used g rs e sl N (X ∷ []) fl wr g rs N (X ∷ []) fl (wr + 1) h.tx;
        tx_head = tx_head_put w start m.word w.rx_frame k z (tx_sent f) (length (slots d)) e (λ n q1 q2. absurd (y.rings q2)) h.tx_head;
        tx_slots = tx_put w start m.word w.rx_frame k z (slots f.sent) f.taken (length (slots d)) (length (slots d) + 0) (length (slots d) + used) y.rx_ring (small_ids f.sent h.tx.good)
            (omega (arith, c, t)) (omega (arith, c, t)) (omega (arith, sb)) (λ n o2 q1 q2 q3 q4 q5. absurd (y.rings q5)) h.tx_slots;
        rx = record { took = h.rx.took; told = h.rx.told; used = h.rx.used; known = h.rx.known; room = h.rx.room; unique = h.rx.unique; ids = h.rx.ids; giving = h.rx.giving; named = h.rx.named; good = h.rx.good };
        rx_head = rx_head_put w start m.word w.rx_frame k z (length f.posts) G (λ n q1 q2 q3. omega (arith, q1, q3, place)) h.rx_head;
        rx_slots = record { requests = r.requests; grants = r.grants; responses = λ n o2 q1 q2 q3 q4. next_word r n o2 q1 q2 q3 q4; pages = r.pages };
        reading = λ s q. reading_put w start m.word w.rx_frame k z f s (y.rx_ring_rx s.id (h.reading s q).id) (h.reading s q);
        front_notes = notes_put w start m.word w.rx_frame k z f (fronts_rx w start y f k (λ n o2 q1 q2 q3 q4. rx_apart start (G + i) n o2 o (omega (arith, q1, p, ip, pb)) (omega (arith, q2, ob)) q3 op (q4 ∙ place))) h.front_notes;
        heard = h.heard;
        awaited = h.awaited;
      }
    where
      clash : (n o2 : ℕ) → f.got ≤ n → n < f.got + 256 → o2 < 2 → (G + N ≤ n) ⊎ ((n < length L) × (2 * n + o2 < 2 * G + wr)) → f.got ≤ G + i → G + i < f.got + 256 →
          16 + 2 * (add32 start n % 256) + o2 ≡ 16 + 2 * (add32 start (G + i) % 256) + o → ⊥
      clash n o2 q1 q2 q3 q4 q5 q6 q7 = elim (eqb_tells n (G + i)) [
        | inl same ↦ (let eq = same.1 in elim q4 [ inl far ↦ omega (arith, far, eq, ip) | inr near ↦ (let lt = near.1 in omega (arith, lt, eq, at, q7)) ])
        | inr other ↦ (let ne = other.1 in elim (side n (G + i)) [
          | inl lt ↦ rx_apart start n (G + i) o o2 lt (omega (arith, q1, q6)) op q3 (sym q7)
          | inr ge ↦ rx_apart start (G + i) n o2 o (omega (arith, ge, ne)) (omega (arith, q2, q5)) q3 op q7
        ])
      ]

      x : Place → ℕ
      x = put m.word (page_word w.rx_frame k) (rx_word_of w start (slot i) o)

      next_word : RxSlots w start x f.posts L f.got G (G + N) (2 * G + wr) fl → (n o2 : ℕ) → f.got ≤ n → n < length L → o2 < 2 → 2 * n + o2 < 2 * G + (wr + 1) → x (rx_at w start n o2) ≡ rx_word_of w start (piece L n) o2
      next_word r n o2 q1 q2 q3 q4 = elim (side (2 * n + o2) (2 * G + wr)) [
        | inl lt ↦ r.responses n o2 q1 q2 q3 lt
        | inr ge ↦ (let en : n ≡ G + i = omega (arith, ge, q4, at, q3, op) in let eo : o2 ≡ o = omega (arith, ge, q4, at, q3, op) in
            ap (λ b. x (rx_at w start b o2)) en ∙ ap (λ b. x (rx_at w start (G + i) b)) eo ∙ ap (λ b. x (page_word w.rx_frame b)) (sym place)
            ∙ put_same m.word (page_word w.rx_frame k) (rx_word_of w start (slot i) o)
            ∙ ap (λ b. rx_word_of w start (slot i) b) (sym eo)
            ∙ ap (λ b. rx_word_of w start b o2) (sym (ap (piece L) en ∙ all_new w start small d a used g e sl rs packet N i ip)))
      ]

  -- the packet is given
  abbrev pub given_all : Back
  given_all = sending d a used (g ++ X ∷ []) rs e sl 0 [] 0 0

  rx_pushes : (m : Memory) (f : Front) (k : ℕ) → k ≡ add32 (add32 start G) N → Inv w start m f (now (words packet) (2 * N)) → Inv w start (after (want.Write (page_word w.rx_frame 2) k) m) f given_all
  rx_pushes m f k at h =
      let b = now (words packet) (2 * N) in
      let sb = sent_bound w start m f b h in
      let gb = given_bound w start m f b h in
      let ob = got_bound w start m f b h in
      let c = h.tx.took in let t = h.tx.told in
      let lc = all_count w start small d a used g e sl rs packet N in
      let whole = nil_right (g ++ X ∷ []) in
      let r = rx_put w start m.word w.rx_frame 2 k f.posts L f.got G (G + N) (2 * G + 2 * N) (words packet) y.rx_ring h.rx.ids (omega (arith, ob)) gb
      (λ n o2 q1 q2 q3 q4 q5 q6. omega (arith, q6))
      (λ n o2 q1 q2 q3 q4 q5 q6. y.rx_ring_rx (piece L n).id (given_small w start m f b h n q2) q5) h.rx_slots in
      record {
        tx = tx_same w start f d a used g rs e sl N (X ∷ []) (words packet) (2 * N) (g ++ X ∷ []) rs 0 [] 0 0 h.tx;
        tx_head = tx_head_put w start m.word w.rx_frame 2 k (tx_sent f) (length (slots d)) e (λ n q1 q2. absurd (y.rings q2)) h.tx_head;
        tx_slots = tx_put w start m.word w.rx_frame 2 k (slots f.sent) f.taken (length (slots d)) (length (slots d) + 0) (length (slots d) + used) y.rx_ring (small_ids f.sent h.tx.good)
            (omega (arith, c, t)) (omega (arith, c, t)) (omega (arith, sb)) (λ n o2 q1 q2 q3 q4 q5. absurd (y.rings q5)) h.tx_slots;
        rx = record {
          took = h.rx.took;
          told = (h.rx.told.0 ++ X ∷ [], ap (λ l. l ++ X ∷ []) h.rx.told.1 ∙ append_assoc f.rx_told h.rx.told.0 (X ∷ []));
          used = omega (arith, lc, p);
          known = h.rx.known;
          room = h.rx.room;
          unique = h.rx.unique;
          ids = h.rx.ids;
          giving = (let z = ap (λ l. length (slots l)) whole in omega (arith, z));
          named = subst (λ l. (n : ℕ) → n < length (slots l) → (piece (slots l) n).id ≡ id_at f.posts n) (sym whole) h.rx.named;
          good = subst (AllOf IsSent) (sym whole) h.rx.good;
        };
        rx_head = record {
          req_prod = put_apart m.word (page_word w.rx_frame 2) k (page_word w.rx_frame 0) (λ q1 q2. omega (arith, q2)) ∙ h.rx_head.req_prod;
          event = asked_as w start m.word (put m.word (page_word w.rx_frame 2) k) m.awaits (put_apart m.word (page_word w.rx_frame 2) k (page_word w.rx_frame 1) (λ q1 q2. omega (arith, q2))) h.rx_head.event;
          rsp_prod = put_same m.word (page_word w.rx_frame 2) k ∙ at ∙ add_add start G N ∙ ap (add32 start) (sym lc);
        };
        rx_slots = subst (λ l. RxSlots w start (put m.word (page_word w.rx_frame 2) k) f.posts (slots l) f.got (length L) (length L + 0) (2 * length L + 0) 0) (sym whole)
            (record {
              requests = λ n o q1. r.requests n o (omega (arith, q1, lc));
              grants = λ n q1. r.grants n (omega (arith, q1, lc));
              responses = λ n o q1 q2 q3 q4. r.responses n o q1 q2 q3 (omega (arith, q4, lc));
              pages = λ n o q1 q2 q3 q4 q5. page_of r n o q1 q2 q3 q4;
            });
        reading = λ s q. reading_put w start m.word w.rx_frame 2 k f s (y.rx_ring_rx s.id (h.reading s q).id) (h.reading s q);
        front_notes = notes_put w start m.word w.rx_frame 2 k f (fronts_rx w start y f 2 (λ n o2 q1 q2 q3 q4. omega (arith, q4))) h.front_notes;
        heard = h.heard;
        awaited = h.awaited;
      }
    where
      page_of : RxSlots w start (put m.word (page_word w.rx_frame 2) k) f.posts L f.got G (G + N) (2 * G + 2 * N) (words packet) → (n o : ℕ) → f.got ≤ n → n < length L → o < 1024 → 1024 * (piece L n).k + o < words (piece L n).bytes →
          put m.word (page_word w.rx_frame 2) k (page_word (rx_buffer w start (piece L n).id).frame o) ≡ word_of (piece L n).bytes (1024 * (piece L n).k + o)
      page_of r n o q1 q2 q3 q4 = elim (side n G) [
        | inl lt ↦ r.pages n o q1 q2 q3 q4 (inl lt)
        | inr ge ↦ (let lc = all_count w start small d a used g e sl rs packet N in
            let there : (piece L n).bytes ≡ packet = ap (λ i. (piece L i).bytes) (let z : n ≡ G + (n - G) = omega (arith, ge) in z) ∙ ap (λ z. z.bytes) (all_new w start small d a used g e sl rs packet N (n - G) (omega (arith, q2, lc, ge))) in
            r.pages n o q1 q2 q3 q4 (inr (subst (λ z. 1024 * (piece L n).k + o < words z) there q4)))
      ]

  -- a notice makes no pending port quiet
  still_heard : (m : Memory) (f : Front) (b : Back) (port : ℕ) → Heard w start m f b → Heard w start (after (want.Notify port) m) f b
  still_heard m f b zero h = (h.0, inl refl)
  still_heard m f b (suc port) h = h

  rx_notifies : (m : Memory) (f : Front) (port : ℕ) → Inv w start m f given_all → Inv w start (after (want.Notify port) m) f given_all
  rx_notifies m f port h = record {
    tx = h.tx;
    tx_head = h.tx_head;
    tx_slots = h.tx_slots;
    rx = h.rx;
    rx_head = h.rx_head;
    rx_slots = h.rx_slots;
    reading = h.reading;
    front_notes = h.front_notes;
    heard = λ x. still_heard m f given_all port (h.heard x);
    awaited = told_by w start port m.pending (length f.posts) f.posting m.awaits h.awaited;
  }

  module _ (v : BackWiring) (K : Back → Type 0) (k1 : (fl wr : ℕ) → K (now fl wr)) (k2 : K given_all) where
    abbrev pub WasSent : Back → TransmitOutcome → Type 0
    WasSent b o = (b ≡ given_all) × (o ≡ outcome.Sent N)

    rx_notice_safe : (due : Bool) → BackSafe w start K WasSent given_all (rx_notice (over w v).vif due (outcome.Sent N))
    rx_notice_safe false = (refl, refl)
    rx_notice_safe true = λ m f h. (given_all, rx_notifies m f v.vif.port h, k2, λ n q. (refl, refl))

    rx_publish_safe : (wr : ℕ) → wr ≡ 2 * N → BackSafe w start K WasSent (now (words packet) wr) (rx_publish (over w v).vif (add32 start G) Passed N)
    rx_publish_safe wr at =
        let new_index = add32 (add32 start G) N in
        writes w start K WasSent (now (words packet) wr) given_all (page_word w.rx_frame 2) new_index (λ o. rx_event (over w v).vif (add32 start G) Passed N) k2
        (λ m f h. rx_pushes m f new_index refl (subst (λ z. Inv w start m f (now (words packet) z)) at h))
        (read_any w start K WasSent given_all (page_word w.rx_frame 3) (λ event. rx_notice (over w v).vif (is_due (add32 start G) new_index event) (outcome.Sent N)) k2 (λ event. rx_notice_safe (is_due (add32 start G) new_index event)))

    rx_answer_safe : (c i wr n : ℕ) → n ≡ N → i + c ≡ N → wr ≡ 2 * i →
        BackSafe w start K WasSent (now (words packet) wr) (rx_answer (over w v).vif (add32 start G) Whole packet Passed n i (targets w start small d a used g e sl rs packet N i c))
    rx_answer_safe zero i wr n e1 e2 e3 = subst (λ o. BackSafe w start K WasSent (now (words packet) wr) (rx_publish (over w v).vif (add32 start G) Passed o)) (sym e1) (rx_publish_safe wr (omega (arith, e2, e3)))
    rx_answer_safe (suc c) i wr n e1 e2 e3 =
        let id = post w start small d a used g e sl rs packet N i in
        let later = rx_answer (over w v).vif (add32 start G) Whole packet Passed n (i + 1) (targets w start small d a used g e sl rs packet N (i + 1) c) in
        let index = add32 (add32 start G) i in
        let ic : length (X.ids) ≡ n = ids_count w start small d a used g e sl rs packet N N 0 ∙ sym e1 in
        let inside : i < N = omega (arith, e2) in
        writes w start K WasSent (now (words packet) wr) (now (words packet) (wr + 1)) (rx_entry w.rx_frame index 0) (response_word Whole Passed packet n i id 0)
        (λ o. ask (want.Write (rx_entry w.rx_frame index 1) (response_word Whole Passed packet n i id 1)) (λ o2. later)) (k1 (words packet) (wr + 1))
        (λ m f h. subst (λ z. Inv w start (after (want.Write (rx_entry w.rx_frame index 0) (response_word Whole Passed packet z i id 0)) m) f (now (words packet) (wr + 1))) ic
        (replies m f (words packet) i 0 wr (16 + 2 * (index % 256) + 0) inside (omega arith) (omega (arith, e3)) (ap (λ o. 16 + 2 * (o % 256) + 0) (add_add start G i)) h))
        (writes w start K WasSent (now (words packet) (wr + 1)) (now (words packet) (wr + 1 + 1)) (rx_entry w.rx_frame index 1) (response_word Whole Passed packet n i id 1) (λ o2. later) (k1 (words packet) (wr + 1 + 1))
        (λ m f h. subst (λ z. Inv w start (after (want.Write (rx_entry w.rx_frame index 1) (response_word Whole Passed packet z i id 1)) m) f (now (words packet) (wr + 1 + 1))) ic
        (replies m f (words packet) i 1 (wr + 1) (16 + 2 * (index % 256) + 1) inside (omega arith) (omega (arith, e3)) (ap (λ o. 16 + 2 * (o % 256) + 1) (add_add start G i)) h))
        (rx_answer_safe c (i + 1) (wr + 1 + 1) n e1 (omega (arith, e2)) (omega (arith, e3))))

    -- all responses are written, and published
    pub rx_respond_safe : (n : ℕ) → n ≡ N → BackSafe w start K WasSent (now (words packet) 0) (rx_answer (over w v).vif (add32 start G) Whole packet Passed n 0 (targets w start small d a used g e sl rs packet N 0 N))
    rx_respond_safe n e1 = rx_answer_safe N 0 0 n e1 (omega arith) (omega arith)
