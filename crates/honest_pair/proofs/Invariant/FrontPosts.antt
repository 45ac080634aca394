-- A post is safe.
use Rattle.std.proofs.Common.{◌≡◌, ℕ, zero, suc, ◌+◌, ◌*◌, ◌^◌, ◌<◌, ◌≤◌, inl, Bool, true, false, List, [], ◌∷◌, ◌++◌, length, length-append, get_or, refl, sym, ◌∙◌, ap, arith, subst, Some, None, append_assoc}
use Rattle.std.specs.Prelude.{nat_lt}
use Rattle.std.proofs.Math.ListN.{get_or-append}
use Rattle.std.proofs.Math.Seq.{get_or-append_seam}
use Rattle.std.proofs.lemmas.Bool.Decides.{nat_tests}
use Rattle.xen_buffers.specs.declared.wiring.FrontWiring.{FrontWiring}
use Rattle.xen_front.specs.Given.{Ending, Idle}
use Rattle.xen_front.specs.Slots.{post_writes}
use Rattle.xen_front.specs.Tree.{flown_post, notice, post, publish}
use Rattle.xen_front.specs.declared.state.FrontState.{FrontState}
use Rattle.xen_netif.specs.Slots.{rx_req_words}
use Rattle.xen_page.specs.declared.place.Place.{Place}
use Rattle.xen_ring.specs.Index.{is_due}
use Rattle.xen_steps.specs.Pages.{PageWrite, write_all}
use Rattle.xen_steps.specs.Places.{add32, page_word}
use Rattle.xen_steps.specs.declared.want.Want.TheVariants as want
use Rattle.honest_pair.specs.Invariant.Ghosts.{Sent, Piece, Front, Back, tx_sent, tx_answered, rx_given, slots, id_at, AllOf}
use Rattle.honest_pair.specs.Invariant.Inv.{rx_at, rx_buffer, IsLent, RxCounts, RxSlots, Reading, IsFreePost, IsFronts, rx_slot, rx_flags, rx_frame, Heard, Inv, Told}
use Rattle.honest_pair.specs.Machine.Memory.{Memory, put, after, told}
use Rattle.honest_pair.specs.Machine.Safe.{Safe}
use Rattle.honest_pair.proofs.Invariant.FrontGroups.{rx_span, written, tx_slots_same, rx_slots_same, tx_head_pushed, rx_head_pushed}
use Rattle.honest_pair.specs.Invariant.Numbers.{Numbers}
use Rattle.honest_pair.proofs.Invariant.FrontOwns.{rx_prod}
use Rattle.honest_pair.proofs.Invariant.Asks.{told_at_last, told_by, told_decided, told_pushed}
use Rattle.honest_pair.proofs.Invariant.FrontPieces.{all_map}
use Rattle.honest_pair.proofs.Invariant.FrontPushes.{due_next}
use Rattle.honest_pair.proofs.Invariant.Puts.{put_same, put_apart, add_add}
use Rattle.honest_pair.proofs.Invariant.FrontStands.{Stood}
use Rattle.honest_pair.proofs.Invariant.FrontWrites.{Spread, with_notes, noted_all, noted_back, cross_none, write_all_safe}

-- what holds of the older ids and of the newest holds of all
pub id_each : (l : List ℕ) (id : ℕ) (P : ℕ → ℕ → Type 0) (from : ℕ) → ((n : ℕ) → from ≤ n → n < length l → P n (id_at l n)) → P (length l) id → (n : ℕ) → from ≤ n → n < length (l ++ id ∷ []) → P n (id_at (l ++ id ∷ []) n)
id_each l id P from f g n p q = by (nat_lt n (length l)) refl
  where
    by : (t : Bool) → nat_lt n (length l) ≡ t → P n (id_at (l ++ id ∷ []) n)
    by true t = let u : n < length l = grind (arith, nat_tests) in subst (P n) (sym (get_or-append l (id ∷ []) 0 n u)) (f n p u)
    by false t =
        let u : length l ≤ n = grind (arith, nat_tests) in
        let e = length-append l (id ∷ []) in
        let s : n ≡ length l = omega arith in
        subst (λ m. P m (id_at (l ++ id ∷ []) m)) (sym s) (subst (P (length l)) (sym (get_or-append_seam l id [] 0)) g)

-- a front that has posted a buffer, whose notice is still to be decided or sent, or isn't
abbrev pub posted : Front → ℕ → Bool → Front
posted f id going = record f { posts = f.posts ++ id ∷ []; notes = []; posting = going }

-- whether a push of posts is going, changes what is told of it alone
re_opened : (w : FrontWiring) (start : ℕ) (f : Front) (id : ℕ) (was going : Bool) (m : Memory) (b : Back) → Told w start m.pending (length (f.posts ++ id ∷ [])) going m.awaits →
    Inv w start m (posted f id was) b → Inv w start m (posted f id going) b
re_opened w start f id was going m b t h = record {
  tx = record { took = h.tx.took; told = h.tx.told; wrote = h.tx.wrote; used = h.tx.used; known = h.tx.known; room = h.tx.room; unique = h.tx.unique; good = h.tx.good };
  tx_head = h.tx_head;
  tx_slots = h.tx_slots;
  rx = record { took = h.rx.took; told = h.rx.told; used = h.rx.used; known = h.rx.known; room = h.rx.room; unique = h.rx.unique; ids = h.rx.ids; giving = h.rx.giving; named = h.rx.named; good = h.rx.good };
  rx_head = h.rx_head;
  rx_slots = h.rx_slots;
  reading = (λ s e. let r = h.reading s e in record { id = r.id; page = r.page; apart = r.apart });
  front_notes = tt;
  heard = h.heard;
  awaited = t;
}

module _ (w : FrontWiring) (laid : Numbers w) (start : ℕ) (f : Front) (id : ℕ) where
  abbrev its : List PageWrite
  its = post_writes w (add32 start (length f.posts)) id

  post_own : id < 256 → IsFreePost w start f id → length f.posts < f.got + 256 → AllOf (λ n. IsFronts w start f n.at) its
  post_own small free room =
      (rx_frame id small free, (rx_flags id small free, (rx_slot (length f.posts) 0 (omega arith) room (omega arith), (rx_slot (length f.posts) 1 (omega arith) room (omega arith), tt))))

  post_spread : id < 256 → Spread its
  post_spread small =
      let g = laid.rx_frame id small in let r = laid.rx_ring in
      (((λ u v. omega arith), ((λ u v. omega arith), ((λ u v. omega arith), tt))), (((λ u v. omega arith), ((λ u v. omega arith), tt)), (((λ u v. omega arith), tt), (tt, tt))))

  older : (n : ℕ) → n < length f.posts → id_at (f.posts ++ id ∷ []) n ≡ id_at f.posts n
  older n h = get_or-append f.posts (id ∷ []) 0 n h

  rx_counts_posted : (g v : List Sent) (u : ℕ) (rs : List ℕ) → id < 256 → IsFreePost w start f id → length f.posts < f.got + 256 → RxCounts w start f g v u rs → RxCounts w start (posted f id true) g v u rs
  rx_counts_posted g v u rs small free room c =
      let span = rx_span w start f g v u rs c in let high = span.high in let len = length-append f.posts (id ∷ []) in
      record {
        took = c.took;
        told = c.told;
        used = c.used;
        known = (c.known.0 ++ id ∷ [], ap (λ l. l ++ id ∷ []) c.known.1 ∙ append_assoc rs c.known.0 (id ∷ []));
        room = omega arith;
        unique = (λ i j p q r. id_each f.posts id (λ n x. i < n → id_at (f.posts ++ id ∷ []) i ≡ x → ⊥) f.got
            (λ n a b o e. c.unique i n p o b (sym (older i (omega arith)) ∙ e))
            (λ o e. free i p o (sym (older i o) ∙ e)) j (omega arith) r q);
        ids = (λ n p. id_each f.posts id (λ m x. x < 256) 0 (λ m a b. c.ids m b) small n (omega arith) p);
        giving = c.giving;
        named = (λ n p. c.named n p ∙ sym (older n (omega arith)));
        good = c.good;
      }

  post_words : (x : Place → ℕ) → AllOf (Stood w start x) its → (j : ℕ) → j < 2 → x (rx_at w start (length f.posts) j) ≡ get_or (rx_req_words (record { id = id; gref = (rx_buffer w start id).gref })) j 0
  post_words x h zero p = h.1.1.0
  post_words x h (suc zero) p = h.1.1.1.0
  post_words x h (suc (suc j)) p = absurd (omega arith)

  rx_slots_posted : (l : List Piece) (given read o z : ℕ) (x : Place → ℕ) → AllOf (Stood w start x) its → given ≤ length f.posts → read ≤ length f.posts → RxSlots w start x f.posts l f.got given read o z → RxSlots w start x (f.posts ++ id ∷ []) l f.got given read o z
  rx_slots_posted l given read o z x st a b t = record {
    requests = (λ n j p q r. id_each f.posts id (λ m i. x (rx_at w start m j) ≡ get_or (rx_req_words (record { id = i; gref = (rx_buffer w start i).gref })) j 0) read (λ m u v. t.requests m j u v r) (post_words x st j r) n p q);
    grants = id_each f.posts id (λ m i. IsLent w start x (rx_buffer w start i) 1) given t.grants (record { frame = st.0; flags = st.1.0 });
    responses = t.responses;
    pages = t.pages;
  }

  pub publishes : id < 256 → IsFreePost w start f id → length f.posts < f.got + 256 → f.reading ≡ None → f.posting ≡ false → (m : Memory) (b : Back) → Inv w start m (with_notes f (noted_all [] its)) b →
      Inv w start (after (want.Write (page_word w.rx_frame 0) (add32 start (length f.posts + 1))) m) (posted f id true) b
  publishes small free room quiet closed m b h =
      let at = page_word w.rx_frame 0 in
      let v = add32 start (length f.posts + 1) in
      let x = m.word in let y = put m.word at v in
      let g = posted f id true in
      let tx0 : Rattle.honest_pair.specs.Invariant.Inv.TxCounts w start g b = record { took = h.tx.took; told = h.tx.told; wrote = h.tx.wrote; used = h.tx.used; known = h.tx.known; room = h.tx.room; unique = h.tx.unique; good = h.tx.good } in
      let rx0 : RxCounts w start f b.given b.giving b.rx_used b.rx_seen =
      record { took = h.rx.took; told = h.rx.told; used = h.rx.used; known = h.rx.known; room = h.rx.room; unique = h.rx.unique; ids = h.rx.ids; giving = h.rx.giving; named = h.rx.named; good = h.rx.good } in
      let rx1 = rx_counts_posted b.given b.giving b.rx_used b.rx_seen small free room rx0 in
      let span = rx_span w start f b.given b.giving b.rx_used b.rx_seen rx0 in let read = span.read in
      let st : AllOf (Stood w start x) its =
      all_map (λ n. (x n.at ≡ n.value) × IsFronts w start (with_notes f (noted_all [] its)) n.at) (Stood w start x) (λ n e. e.0) its
      (noted_back (λ n. (x n.at ≡ n.value) × IsFronts w start (with_notes f (noted_all [] its)) n.at) [] its h.front_notes) in
      let same = written w start 1 (omega arith) g x at v (rx_prod (omega arith) laid.rx_ring) in
      let len = length-append f.posts (id ∷ []) in
      record {
        tx = tx0;
        tx_head = tx_head_pushed w start laid 1 g b x y same (omega arith) (tx_sent f) (tx_sent f) (tx_answered b) b.event
            (put_apart x at v (page_word w.tx_frame 0) (λ p q. let c = laid.tx_ring in let d = laid.rx_ring in omega arith) ∙ h.tx_head.req_prod) h.tx_head;
        tx_slots = tx_slots_same w start laid 1 g b x y same tx0 h.tx_slots;
        rx = rx1;
        rx_head = rx_head_pushed w start laid 1 g b x y same (omega arith) (length f.posts) (length g.posts) (rx_given b) (put_same x at v ∙ ap (add32 start) (sym len)) h.rx_head;
        rx_slots = rx_slots_same w start laid 1 g b x y same b.given b.giving b.rx_used (2 * rx_given b + b.rx_wrote) b.filled b.rx_seen rx1
            (rx_slots_posted (slots (b.given ++ b.giving)) (rx_given b) (rx_given b + b.rx_used) (2 * rx_given b + b.rx_wrote) b.filled x st (omega arith) read h.rx_slots);
        reading = (λ q e. let z : None ≡ Some q = sym quiet ∙ e in absurd (cc));
        front_notes = tt;
        heard = h.heard;
        awaited = told_pushed w start m.pending (length f.posts) (length g.posts) m.awaits len (subst (λ z. Told w start m.pending (length f.posts) z m.awaits) closed h.awaited);
      }

  -- The notice is decided.
  pub decides : start < 2 ^ 32 → (m : Memory) (b : Back) → Inv w start m (posted f id true) b →
      Inv w start m (posted f id (is_due (add32 start (length f.posts)) (add32 start (length f.posts + 1)) (m.word (page_word w.rx_frame 1)))) b
  decides small m b h =
      let due = is_due (add32 start (length f.posts)) (add32 start (length f.posts + 1)) (m.word (page_word w.rx_frame 1)) in
      re_opened w start f id true due m b
      (told_decided w start m.word m.pending (length f.posts) (length (f.posts ++ id ∷ [])) due m.awaits refl (due_next start (length f.posts) 1 small (omega arith) (omega arith)) (length-append f.posts (id ∷ [])) h.rx_head.event h.awaited) h

module _ (w : FrontWiring) (laid : Numbers w) (start : ℕ) (K : Front → Type 0) (P : Front → Ending → Type 0) where
  -- a notice to the back
  woken : (f : Front) (id : ℕ) (m : Memory) (b : Back) → Inv w start m (posted f id true) b → Inv w start (after (want.Notify w.port) m) (posted f id false) b
  woken f id m b h =
      let rung : told w.port m.pending ≡ true = ap (λ k. told k m.pending) laid.port in
      re_opened w start f id true false (after (want.Notify w.port) m) b
      (told_at_last w start (told w.port m.pending) (length (f.posts ++ id ∷ [])) false m.awaits rung (told_by w start w.port m.pending (length (f.posts ++ id ∷ [])) true m.awaits h.awaited))
      (record {
        tx = h.tx;
        tx_head = h.tx_head;
        tx_slots = h.tx_slots;
        rx = h.rx;
        rx_head = h.rx_head;
        rx_slots = h.rx_slots;
        reading = h.reading;
        front_notes = h.front_notes;
        heard = (λ a. let e = h.heard a in (e.0, inl rung));
        awaited = told_by w start w.port m.pending (length (f.posts ++ id ∷ [])) true m.awaits h.awaited;
      })

  notice_safe : (f : Front) (id : ℕ) (e : FrontState) (due : Bool) → K (posted f id false) → P (posted f id false) (e, Idle) → Safe (Inv w start) K P (posted f id due) (notice w due e)
  notice_safe f id e false k r = r
  notice_safe f id e true k r = λ m b h. (posted f id false, woken f id m b h, k, λ a l. r)

  pub post_tree_safe : (f : Front) (s : FrontState) (id : ℕ) → s.rx.prod ≡ add32 start (length f.posts) → id < 256 → IsFreePost w start f id → length f.posts < f.got + 256 → f.reading ≡ None → f.posting ≡ false → start < 2 ^ 32 →
      ((l : List PageWrite) → K (with_notes f l)) → ((going : Bool) → K (posted f id going)) → P (posted f id false) (flown_post s id, Idle) →
      Safe (Inv w start) K P (with_notes f []) (post w s id)
  post_tree_safe f s id at small free room quiet closed low kn k r =
      let e : FrontState = flown_post s id in
      let i = add32 start (length f.posts) in
      let new = add32 start (length f.posts + 1) in
      let T : ℕ → Type 0 = λ i. Safe (Inv w start) K P (with_notes f []) (write_all (post_writes w i id) (publish w w.rx_frame i (add32 i 1) e)) in
      subst T (sym at) (subst (λ j. Safe (Inv w start) K P (with_notes f []) (write_all (post_writes w i id) (publish w w.rx_frame i j e))) (sym (add_add start (length f.posts) 1))
      (write_all_safe w start laid K P f [] (post_writes w i id) (publish w w.rx_frame i new e) kn (post_own w laid start f id small free room) (post_spread w laid start f id small) (cross_none (post_writes w i id))
      (λ m b h. (
        posted f id true,
        publishes w laid start f id small free room quiet closed m b h,
        k true,
        λ a l. λ m1 b1 h1. (let due = is_due i new (m1.word (page_word w.rx_frame 1)) in (posted f id due, decides w laid start f id low m1 b1 h1, k due, λ c d. notice_safe f id e due (k false) r)),
      ))))
