-- A packet is sent back: its words are written into the posted buffers.
use Rattle.std.proofs.Common.{◌≡◌, ℕ, zero, suc, ◌+◌, ◌-◌, ◌*◌, ◌/◌, ◌%◌, ◌^◌, ◌<◌, ◌≤◌, ◌⊎◌, inl, inr, Bool, true, false, List, [], ◌∷◌, ◌++◌, length, length-append, Some, refl, sym, ◌∙◌, ap, arith, subst}
use Rattle.std.specs.Prelude.{nat_lt}
use Rattle.std.proofs.lemmas.Bool.Decides.{eqb_tells, nat_tests}
use Rattle.xen_buffers.specs.Grants.{buffer}
use Rattle.xen_buffers.specs.declared.wiring.FrontWiring.{FrontWiring}
use Rattle.xen_page.specs.declared.place.Place.{Place}
use Rattle.xen_steps.specs.Places.{page_word}
use Rattle.xen_steps.specs.Steps.{ask}
use Rattle.xen_steps.specs.declared.want.Want.TheVariants as want
use Rattle.xen_netif.specs.declared.offload.RxOffload.TheVariants.{Whole}
use Rattle.xen_rx_fill.specs.Packets.{buffer_word, frame_in, pages, target_at, word_of, words}
use Rattle.xen_rx_fill.specs.Transmit.{fill}
use Rattle.xen_rx_fill.specs.declared.target.Target.{Target}
use Rattle.honest_pair.specs.Invariant.Ghosts.{AllOf, IsSent, Sent, Piece, piece, id_at, pieces_from, pieces_in, slots, Front, Back, tx_sent}
use Rattle.honest_pair.specs.Invariant.Inv.{Inv, RxSlots, Reading, rx_at, rx_buffer, rx_word_of}
use Rattle.honest_pair.specs.Invariant.Ends.{BackSafe, HasGiven}
use Rattle.honest_pair.specs.Invariant.Laid.{Laid}
use Rattle.honest_pair.specs.Machine.Memory.{Memory, put, after}
use Rattle.honest_pair.proofs.Invariant.Puts.{put_same}
use Rattle.honest_pair.proofs.Invariant.Lists.{nil_right, piece_left, piece_right, pieces_count, slots_append, slots_count, small_ids}
use Rattle.honest_pair.proofs.Invariant.BackGroups.{tx_put, rx_put, tx_head_put, rx_head_put, reading_put, notes_put, fronts_page}
use Rattle.honest_pair.proofs.Invariant.BackRings.{given_bound, got_bound, sent_bound}
use Rattle.honest_pair.proofs.Invariant.BackLooks.{writes}
use Rattle.honest_pair.proofs.Invariant.BackPosts.{known_post, sending, tx_same}

pub all_snoc : {A : Type 0} (P : A → Type 0) (l : List A) (x : A) → AllOf P (l ++ []) → P x → AllOf P (l ++ x ∷ [])
all_snoc P [] x h p = (p, tt)
all_snoc P (y ∷ l) x h p = (h.0, all_snoc P l x h.1 p)

module _ (w : FrontWiring) (start : ℕ) (small : start < 2 ^ 32) (d a : List Sent) (used : ℕ) (g : List Sent) (e : ℕ) (sl : Bool) (rs : List ℕ) (packet : List ℕ) (N : ℕ) where
  abbrev pub first : ℕ
  first = length (slots g)

  abbrev pub post : ℕ → ℕ
  post i = id_at rs (first + i)

  abbrev pub ids : ℕ → ℕ → List ℕ
  ids i zero = []
  ids i (suc n) = post i ∷ ids (i + 1) n

  abbrev pub target : ℕ → Target
  target i = record { id = post i; frame = Some (buffer w.rx.now (post i)).frame }

  abbrev pub targets : ℕ → ℕ → List Target
  targets i zero = []
  targets i (suc n) = target i ∷ targets (i + 1) n

  -- the packet in the buffers of the posts
  abbrev pub gift : Sent
  gift = record { bytes = packet; ids = ids 0 N }

  abbrev pub all : List Piece
  all = slots (g ++ gift ∷ [])

  -- fl of its words are written, and wr of its responses' words
  abbrev pub given_state : ℕ → ℕ → Back
  given_state fl wr = sending d a used g rs e sl N (gift ∷ []) fl wr

  abbrev pub new : ℕ → Piece
  new i = record { bytes = packet; n = length (ids 0 N); k = i; id = post i }

  pub ids_count : (n i : ℕ) → length (ids i n) ≡ n
  ids_count zero i = refl
  ids_count (suc n) i = ap (λ q. suc q) (ids_count n (i + 1))

  pub ids_small : (n i : ℕ) → ((o : ℕ) → i ≤ o → o < i + n → post o < 256) → AllOf (λ q. q < 256) (ids i n)
  ids_small zero i h = tt
  ids_small (suc n) i h = (h i (omega arith) (omega arith), ids_small n (i + 1) (λ o p q. h o (omega (arith, p)) (omega (arith, q))))

  pieces_new : (n i q : ℕ) → q < n → piece (pieces_from packet (length (ids 0 N)) i (ids i n)) q ≡ new (i + q)
  pieces_new zero i q h = absurd (omega (arith, h))
  pieces_new (suc n) i zero h = let z : i ≡ i + 0 = omega arith in ap new z
  pieces_new (suc n) i (suc q) h = let z : i + 1 + q ≡ i + suc q = omega arith in pieces_new n (i + 1) q (omega (arith, h)) ∙ ap new z

  gift_count : length (pieces_in gift) ≡ N
  gift_count = pieces_count packet (length (ids 0 N)) 0 (ids 0 N) ∙ ids_count N 0

  pub all_count : length all ≡ first + N
  all_count =
      let c = slots_count g (gift ∷ []) in
      let n = length-append (pieces_in gift) [] in
      let p = gift_count in
      omega (arith, c, n, p)

  pub all_old : (n : ℕ) → n < first → piece all n ≡ piece (slots (g ++ [])) n
  all_old n h =
      ap (λ l. piece l n) (slots_append g (gift ∷ [])) ∙ piece_left (slots g) (slots (gift ∷ [])) n h
      ∙ sym (ap (λ l. piece l n) (slots_append g []) ∙ piece_left (slots g) [] n h)

  pub all_new : (i : ℕ) → i < N → piece all (first + i) ≡ new i
  all_new i h =
      let c = gift_count in
      let z : 0 + i ≡ i = omega arith in
      ap (λ l. piece l (first + i)) (slots_append g (gift ∷ [])) ∙ piece_right (slots g) (slots (gift ∷ [])) i
      ∙ piece_left (pieces_in gift) [] i (omega (arith, c, h)) ∙ pieces_new N 0 i h ∙ ap new z

  -- what holds of the slots that are given, and of the new ones
  pub each_slot : (P : ℕ → Piece → Type 0) → ((n : ℕ) → n < first → P n (piece (slots (g ++ [])) n)) → ((i : ℕ) → i < N → P (first + i) (new i)) → (n : ℕ) → n < length all → P n (piece all n)
  each_slot P f q n h = by (nat_lt n first) refl
    where
      by : (b : Bool) → nat_lt n first ≡ b → P n (piece all n)
      by true c = let lt : n < first = grind (arith, nat_tests) in subst (P n) (sym (all_old n lt)) (f n lt)
      by false c =
          let ge : first ≤ n = grind (arith, nat_tests) in
          let z : first + (n - first) ≡ n = omega (arith, ge) in
          let k = all_count in
          let lt : n - first < N = omega (arith, h, k, ge) in
          subst (λ o. P o (piece all o)) z (subst (P (first + (n - first))) (sym (all_new (n - first) lt)) (q (n - first) lt))

  -- the buffers are ready, and the first word is next
  pub begins : (m : Memory) (f : Front) → first + N ≤ length rs → IsSent gift → Inv w start m f (sending d a used g rs e sl N [] 0 0) → Inv w start m f (given_state 0 0)
  begins m f p good h =
      let c = all_count in
      let k : length (slots (g ++ [])) ≡ first = ap (λ l. length (slots l)) (nil_right g) in
      record {
        tx = tx_same w start f d a used g rs e sl N [] 0 0 g rs N (gift ∷ []) 0 0 h.tx;
        tx_head = h.tx_head;
        tx_slots = h.tx_slots;
        rx = record {
          took = h.rx.took;
          told = h.rx.told;
          used = h.rx.used;
          known = h.rx.known;
          room = h.rx.room;
          unique = h.rx.unique;
          ids = h.rx.ids;
          giving = omega (arith, c);
          named = each_slot (λ n z. z.id ≡ id_at f.posts n) (λ n q. h.rx.named n (omega (arith, q, k))) (λ i q. sym (known_post w start small d a used g e sl rs N [] 0 0 m f (first + i) (omega (arith, p, q)) h).0);
          good = all_snoc IsSent g gift h.rx.good good;
        };
        rx_head = h.rx_head;
        rx_slots = record {
          requests = h.rx_slots.requests;
          grants = h.rx_slots.grants;
          responses = λ n o q1 q2 q3 q4. subst (λ z. m.word (rx_at w start n o) ≡ rx_word_of w start z o) (sym (all_old n (omega (arith, q4)))) (h.rx_slots.responses n o q1 (omega (arith, q4, k)) q3 q4);
          pages = λ n o q1 q2 q3 q4 q5. old_page n o q1 q3 (below n o q5) q4;
        };
        reading = h.reading;
        front_notes = h.front_notes;
        heard = h.heard;
        awaited = h.awaited;
      }
    where
      below : (n o : ℕ) → (n < first) ⊎ (1024 * (piece all n).k + o < 0) → n < first
      below n o (inl q) = q
      below n o (inr q) = absurd (omega (arith, q))

      old_page : (n o : ℕ) → f.got ≤ n → o < 1024 → n < first → 1024 * (piece all n).k + o < words (piece all n).bytes →
          m.word (page_word (rx_buffer w start (piece all n).id).frame o) ≡ word_of (piece all n).bytes (1024 * (piece all n).k + o)
      old_page n o q1 q3 q q4 =
          let k : length (slots (g ++ [])) ≡ first = ap (λ l. length (slots l)) (nil_right g) in
          subst (λ z. 1024 * z.k + o < words z.bytes → m.word (page_word (rx_buffer w start z.id).frame o) ≡ word_of z.bytes (1024 * z.k + o)) (sym (all_old n q))
          (λ u. h.rx_slots.pages n o q1 (omega (arith, q, k)) q3 u (inl q)) q4

  target_there : (n i q : ℕ) → q < n → target_at (targets i n) q ≡ target (i + q)
  target_there zero i q h = absurd (omega (arith, h))
  target_there (suc n) i zero h = let z : i ≡ i + 0 = omega arith in ap target z
  target_there (suc n) i (suc q) h = let z : i + 1 + q ≡ i + suc q = omega arith in target_there n (i + 1) q (omega (arith, h)) ∙ ap target z

  pub place_there : (k : ℕ) → k / 1024 < N → buffer_word Whole (targets 0 N) k ≡ page_word (buffer w.rx.now (post (k / 1024))).frame (k % 1024)
  place_there k h = let z : 0 + k / 1024 ≡ k / 1024 = omega arith in ap (λ t. page_word (frame_in t.frame) (k % 1024)) (target_there N 0 (k / 1024) h ∙ ap target z)

  module _ (y : Laid w) (count : N ≡ pages packet) (p : first + N ≤ length rs) (low : (i : ℕ) → i < N → post i < 256) (good : IsSent gift) where
    -- the next word is written
    fills : (m : Memory) (f : Front) (k : ℕ) → k < words packet → Inv w start m f (given_state k 0) →
        Inv w start (after (want.Write (page_word (buffer w.rx.now (post (k / 1024))).frame (k % 1024)) (word_of packet k)) m) f (given_state (k + 1) 0)
    fills m f k q h =
        let frame = (buffer w.rx.now (post (k / 1024))).frame in
        let z = word_of packet k in
        let inside : k / 1024 < N = omega (arith, q, count) in
        let id = low (k / 1024) inside in
        let sb = sent_bound w start m f (given_state k 0) h in
        let gb = given_bound w start m f (given_state k 0) h in
        let ob = got_bound w start m f (given_state k 0) h in
        let c = h.tx.took in let t = h.tx.told in let u = h.tx.used in
        let r = rx_put w start m.word frame (k % 1024) z f.posts all f.got first (first + N) (2 * first + 0) k (y.page (post (k / 1024)) id) h.rx.ids (omega (arith, ob)) gb
        (λ n o q1 q2 q3 q4 q5. absurd (y.rx_ring_rx (post (k / 1024)) id (sym q5))) (λ n o q1 q2 q3 q4 q5 q6. clash n o q1 q2 q4 q5 q6 inside) h.rx_slots in
        record {
          tx = tx_same w start f d a used g rs e sl N (gift ∷ []) k 0 g rs N (gift ∷ []) (k + 1) 0 h.tx;
          tx_head = tx_head_put w start m.word frame (k % 1024) z (tx_sent f) (length (slots d)) e (λ i q1 q2. absurd (y.tx_ring_rx (post (k / 1024)) id (sym q2))) h.tx_head;
          tx_slots = tx_put w start m.word frame (k % 1024) z (slots f.sent) f.taken (length (slots d)) (length (slots d) + 0) (length (slots d) + used) (y.page (post (k / 1024)) id) (small_ids f.sent h.tx.good)
              (omega (arith, c, t)) (omega (arith, c, t)) (omega (arith, sb)) (λ n o q1 q2 q3 q4 q5. absurd (y.tx_ring_rx (post (k / 1024)) id (sym q5))) h.tx_slots;
          rx = record { took = h.rx.took; told = h.rx.told; used = h.rx.used; known = h.rx.known; room = h.rx.room; unique = h.rx.unique; ids = h.rx.ids; giving = h.rx.giving; named = h.rx.named; good = h.rx.good };
          rx_head = rx_head_put w start m.word frame (k % 1024) z (length f.posts) first (λ i q1 q2. absurd (y.rx_ring_rx (post (k / 1024)) id (sym q2))) h.rx_head;
          rx_slots = record {
            requests = r.requests;
            grants = r.grants;
            responses = r.responses;
            pages = λ n o q1 q2 q3 q4 q5. next_page r n o q1 q2 q3 q4 q5;
          };
          reading = λ s q1. reading_put w start m.word frame (k % 1024) z f s (λ q2. apart_reading s (h.reading s q1) inside q2) (h.reading s q1);
          front_notes = notes_put w start m.word frame (k % 1024) z f (λ at q1 q2 q3. fronts_page w start y f (post (k / 1024)) (k % 1024) id at q1 q2 q3) h.front_notes;
          heard = h.heard;
          awaited = h.awaited;
        }
      where
        -- another post has another frame
        other_frame : (n : ℕ) → k / 1024 < N → f.got ≤ n → n < length f.posts → (n ≡ first + k / 1024 → ⊥) → id_at f.posts n < 256 → (buffer w.rx.now (id_at f.posts n)).frame ≡ (buffer w.rx.now (post (k / 1024))).frame → ⊥
        other_frame n inside q1 q2 q3 q4 q5 =
            let there = known_post w start small d a used g e sl rs N (gift ∷ []) k 0 m f (first + k / 1024) (omega (arith, p, inside)) h in
            let ob = got_bound w start m f (given_state k 0) h in
            y.pages (id_at f.posts n) (post (k / 1024)) q4 (low (k / 1024) inside)
            (λ same. elim (order n (first + k / 1024) q3) [
              | inl lt ↦ h.rx.unique n (first + k / 1024) q1 lt there.1 (same ∙ sym there.0)
              | inr gt ↦ h.rx.unique (first + k / 1024) n (omega (arith, ob)) gt q2 (sym (same ∙ sym there.0))
            ]) q5
          where
            order : (x z : ℕ) → (x ≡ z → ⊥) → (x < z) ⊎ (z < x)
            order x z d2 = by (nat_lt x z) refl
              where
                by : (b : Bool) → nat_lt x z ≡ b → (x < z) ⊎ (z < x)
                by true c2 = inl (grind (arith, nat_tests))
                by false c2 = let ge : z ≤ x = grind (arith, nat_tests) in inr (omega (arith, ge, d2))

        clash : (n o : ℕ) → f.got ≤ n → n < length all → (n < first) ⊎ (1024 * (piece all n).k + o < k) → (rx_buffer w start (piece all n).id).frame ≡ (buffer w.rx.now (post (k / 1024))).frame → o ≡ k % 1024 → k / 1024 < N → ⊥
        clash n o q1 q2 q4 q5 q6 inside =
            let gb = given_bound w start m f (given_state k 0) h in
            let named = h.rx.named n q2 in
            let within : n < length f.posts = omega (arith, q2, gb) in
            elim (eqb_tells n (first + k / 1024)) [
              | inl same ↦ (let kk : (piece all n).k ≡ k / 1024 = ap (λ i. (piece all i).k) same.1 ∙ ap (λ x. x.k) (all_new (k / 1024) inside) in let eq = same.1 in
                  elim q4 [ inl lt ↦ absurd (omega (arith, lt, eq)) | inr lt ↦ absurd (omega (arith, lt, kk, q6)) ])
              | inr d2 ↦ other_frame n inside q1 within d2.1 (h.rx.ids n within) (ap (λ i. (buffer w.rx.now i).frame) (sym named) ∙ q5)
            ]

        apart_reading : (s : Piece) → Reading w start m.word f s → k / 1024 < N → (rx_buffer w start s.id).frame ≡ (buffer w.rx.now (post (k / 1024))).frame → ⊥
        apart_reading s rd inside q =
            let there = known_post w start small d a used g e sl rs N (gift ∷ []) k 0 m f (first + k / 1024) (omega (arith, p, inside)) h in
            let ob = got_bound w start m f (given_state k 0) h in
            y.pages s.id (post (k / 1024)) rd.id (low (k / 1024) inside) (λ same. rd.apart (first + k / 1024) (omega (arith, ob)) there.1 (there.0 ∙ sym same)) q

        x : Place → ℕ
        x = put m.word (page_word (buffer w.rx.now (post (k / 1024))).frame (k % 1024)) (word_of packet k)

        -- the word itself
        written : (i o : ℕ) → o < 1024 → 1024 * i + o ≡ k → x (page_word (buffer w.rx.now (post i)).frame o) ≡ word_of packet (1024 * i + o)
        written i o q1 q2 =
            let a1 : i ≡ k / 1024 = omega (arith, q1, q2) in
            let a2 : o ≡ k % 1024 = omega (arith, q1, q2) in
            ap (λ n. x (page_word (buffer w.rx.now (post n)).frame o)) a1 ∙ ap (λ n. x (page_word (buffer w.rx.now (post (k / 1024))).frame n)) a2
            ∙ put_same m.word (page_word (buffer w.rx.now (post (k / 1024))).frame (k % 1024)) (word_of packet k) ∙ ap (word_of packet) (sym q2)

        next_page : RxSlots w start x f.posts all f.got first (first + N) (2 * first + 0) k → (n o : ℕ) → f.got ≤ n → n < length all → o < 1024 → 1024 * (piece all n).k + o < words (piece all n).bytes → (n < first) ⊎ (1024 * (piece all n).k + o < k + 1) →
            x (page_word (rx_buffer w start (piece all n).id).frame o) ≡ word_of (piece all n).bytes (1024 * (piece all n).k + o)
        next_page r n o q1 q2 q3 q4 (inl q5) = r.pages n o q1 q2 q3 q4 (inl q5)
        next_page r n o q1 q2 q3 q4 (inr q5) = elim (eqb_tells (1024 * (piece all n).k + o) k) [
          | inl same ↦ (let eq = same.1 in elim (side n) [
            | inl q6 ↦ r.pages n o q1 q2 q3 q4 (inl q6)
            | inr q6 ↦ (let c2 = all_count in
                let i : ℕ = n - first in
                let at : n ≡ first + i = omega (arith, q6) in
                let there : piece all n ≡ new i = ap (piece all) at ∙ all_new i (omega (arith, q2, c2, q6)) in
                subst (λ z. 1024 * z.k + o ≡ k → x (page_word (rx_buffer w start z.id).frame o) ≡ word_of z.bytes (1024 * z.k + o)) (sym there) (λ q7. written i o q3 q7) eq)
          ])
          | inr d2 ↦ (let ne = d2.1 in r.pages n o q1 q2 q3 q4 (inr (omega (arith, q5, ne))))
        ]
          where
            side : (n2 : ℕ) → (n2 < first) ⊎ (first ≤ n2)
            side n2 = by (nat_lt n2 first) refl
              where
                by : (b : Bool) → nat_lt n2 first ≡ b → (n2 < first) ⊎ (first ≤ n2)
                by true c2 = inl (grind (arith, nat_tests))
                by false c2 = inr (grind (arith, nat_tests))

    abbrev pub Filled : Back → Unit {0} → Type 0
    Filled b x = b ≡ given_state (words packet) 0

    pub fill_safe : (c k : ℕ) → k + c ≡ words packet → BackSafe w start (HasGiven g) Filled (given_state k 0) (fill Whole (targets 0 N) packet c k)
    fill_safe zero k q = ap (λ n. given_state n 0) (omega (arith, q))
    fill_safe (suc c) k q =
        let inside : k / 1024 < N = omega (arith, q, count) in
        subst (λ at. BackSafe w start (HasGiven g) Filled (given_state k 0) (ask (want.Write at (word_of packet k)) (λ o. fill Whole (targets 0 N) packet c (k + 1)))) (sym (place_there k inside))
        (writes w start (HasGiven g) Filled (given_state k 0) (given_state (k + 1) 0) (page_word (buffer w.rx.now (post (k / 1024))).frame (k % 1024)) (word_of packet k) (λ o. fill Whole (targets 0 N) packet c (k + 1)) refl
        (λ m f h. fills m f k (omega (arith, q)) h) (fill_safe c (k + 1) (omega (arith, q))))
