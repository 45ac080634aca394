-- A write at a place of the front's own leaves all that the invariant says of memory.
use Rattle.std.proofs.Common.{◌≡◌, ℕ, ◌+◌, ◌%◌, ◌^◌, ◌<◌, ◌≤◌, List, ◌++◌, length, length-append, refl, ◌∙◌, ap, arith}
use Rattle.xen_buffers.specs.Grants.{grant_place}
use Rattle.xen_buffers.specs.declared.wiring.FrontWiring.{FrontWiring}
use Rattle.xen_page.specs.Mapping.{frame_place}
use Rattle.xen_page.specs.declared.place.Place.{Place}
use Rattle.xen_steps.specs.Places.{add32, page_word}
use Rattle.honest_pair.specs.Invariant.Ghosts.{Sent, Piece, Front, Back, tx_sent, tx_answered, slots, piece, id_at}
use Rattle.honest_pair.specs.Invariant.Inv.{tx_at, rx_at, tx_buffer, rx_buffer, IsLent, TxSlots, RxSlots, TxCounts, RxCounts, TxHead, RxHead, Reading, IsFree, IsFreePost}
use Rattle.honest_pair.specs.Machine.Memory.{put}
use Rattle.honest_pair.specs.declared.awaits.Awaits.{Awaits}
use Rattle.honest_pair.proofs.Invariant.Asks.{asked_as}
use Rattle.honest_pair.proofs.Invariant.Puts.{put_apart}
use Rattle.honest_pair.proofs.Invariant.Lists.{slots_count, small_ids}
use Rattle.honest_pair.specs.Invariant.Numbers.{Numbers}
use Rattle.honest_pair.proofs.Invariant.FrontOwns.{Own, Kept, tx_head, tx_slot, tx_grant, tx_held, rx_head, rx_slot, rx_grant, rx_held}
use Rattle.honest_pair.proofs.Invariant.FrontAparts.{apart}

module _ (w : FrontWiring) (start : ℕ) where
  -- the same words, but for the front's own
  abbrev pub Same : ℕ → Front → (Place → ℕ) → (Place → ℕ) → Type 0
  Same h f x y = (p : Place) → Kept w start h f p → y p ≡ x p

  pub written : (h : ℕ) → h ≤ 1 → (f : Front) (x : Place → ℕ) (at : Place) (v : ℕ) → Own w start h f at → Same h f x (put x at v)
  written h few f x at v o = λ p k. put_apart x at v p (apart w start h few f at p o k)

  pub record TxSpan (f : Front) (b : Back) : Type 0 where
    pub low : f.taken ≤ tx_answered b
    pub high : tx_answered b + b.used ≤ tx_sent f

  pub tx_span : (f : Front) (b : Back) → TxCounts w start f b → TxSpan f b
  tx_span f b h =
      let a = h.took in let c = h.told in let d = h.used in
      let e : tx_sent f ≡ length (slots b.done) + length (slots (b.ahead ++ h.known.0)) = ap (λ l. length (slots l)) h.known.1 ∙ slots_count b.done (b.ahead ++ h.known.0) in
      let g = slots_count b.ahead h.known.0 in
      record { low = omega arith; high = omega arith }

  pub record RxSpan (f : Front) (g v : List Sent) (u : ℕ) : Type 0 where
    pub low : f.got ≤ length (slots g)
    pub read : length (slots g) + u ≤ length f.posts
    pub high : length (slots (g ++ v)) ≤ length f.posts

  pub rx_span : (f : Front) (g v : List Sent) (u : ℕ) (rs : List ℕ) → RxCounts w start f g v u rs → RxSpan f g v u
  rx_span f g v u rs h =
      let a = h.took in let d = h.used in let k = h.giving in
      let e : length (slots g) ≡ length (slots f.rx_told) + length (slots h.told.0) = ap (λ l. length (slots l)) h.told.1 ∙ slots_count f.rx_told h.told.0 in
      let l : length f.posts ≡ length rs + length h.known.0 = ap length h.known.1 ∙ length-append rs h.known.0 in
      record { low = omega arith; read = omega arith; high = omega arith }

  module _ (laid : Numbers w) (h : ℕ) (f : Front) (b : Back) (x y : Place → ℕ) (same : Same h f x y) where
    tx_grants : (i : ℕ) → i < 256 → (IsFree w start f i → ⊥) → IsLent w start x (tx_buffer w start i) 5 → IsLent w start y (tx_buffer w start i) 5
    tx_grants i small busy g =
        let a = laid.tx_frame i small in let c = laid.tx_word i small in
        record {
          frame = same (frame_place (grant_place w (tx_buffer w start i))) (tx_grant i 1 small busy (omega arith) a (omega arith)) ∙ g.frame;
          flags = same (grant_place w (tx_buffer w start i)) (tx_grant i 0 small busy (omega arith) a (omega arith)) ∙ g.flags;
        }

    rx_grants : (i : ℕ) → i < 256 → (IsFreePost w start f i → ⊥) → IsLent w start x (rx_buffer w start i) 1 → IsLent w start y (rx_buffer w start i) 1
    rx_grants i small busy g =
        let a = laid.rx_frame i small in let c = laid.rx_word i small in
        record {
          frame = same (frame_place (grant_place w (rx_buffer w start i))) (rx_grant i 1 small busy (omega arith) a (omega arith)) ∙ g.frame;
          flags = same (grant_place w (rx_buffer w start i)) (rx_grant i 0 small busy (omega arith) a (omega arith)) ∙ g.flags;
        }

    tx_words : (n j : ℕ) → f.taken ≤ n → n < tx_sent f → j < 3 → y (tx_at w start n j) ≡ x (tx_at w start n j)
    tx_words n j p q r = same (tx_at w start n j) (tx_slot n j p q r laid.tx_ring refl)

    rx_words : (n j : ℕ) → f.got ≤ n → n < length f.posts → j < 2 → y (rx_at w start n j) ≡ x (rx_at w start n j)
    rx_words n j p q r = same (rx_at w start n j) (rx_slot n j p q r laid.rx_ring refl)

    pub tx_slots_same : TxCounts w start f b → TxSlots w start x (slots f.sent) f.taken (tx_answered b) (tx_answered b + b.wrote) (tx_answered b + b.used) →
        TxSlots w start y (slots f.sent) f.taken (tx_answered b) (tx_answered b + b.wrote) (tx_answered b + b.used)
    tx_slots_same c t =
        let s = tx_span f b c in let low = s.low in let high = s.high in let wrote = c.wrote in
        record {
          requests = (λ n j p q r. tx_words n j (omega arith) q r ∙ t.requests n j p q r);
          grants = (λ n p q. tx_grants (piece (slots f.sent) n).id (small_ids f.sent c.good n q) (λ free. free n (omega arith) q refl) (t.grants n p q));
          pages = (λ n j p q r.
              let i = (piece (slots f.sent) n).id in let small = small_ids f.sent c.good n q in
              same (page_word (tx_buffer w start i).frame j) (tx_held i small (λ free. free n (omega arith) q refl) (laid.tx_page i small)) ∙ t.pages n j p q r);
          responses = (λ n p q. ap (λ v. v % 2 ^ 16) (tx_words n 0 p (omega arith) (omega arith)) ∙ t.responses n p q);
        }

    pub rx_slots_same : (g v : List Sent) (u o z : ℕ) (rs : List ℕ) → RxCounts w start f g v u rs → RxSlots w start x f.posts (slots (g ++ v)) f.got (length (slots g)) (length (slots g) + u) o z →
        RxSlots w start y f.posts (slots (g ++ v)) f.got (length (slots g)) (length (slots g) + u) o z
    rx_slots_same g v u o z rs c t =
        let s = rx_span f g v u rs c in let low = s.low in let high = s.high in let read = s.read in
        record {
          requests = (λ n j p q r. rx_words n j (omega arith) q r ∙ t.requests n j p q r);
          grants = (λ n p q. rx_grants (id_at f.posts n) (c.ids n q) (λ free. free n (omega arith) q refl) (t.grants n p q));
          responses = (λ n j p q r e. rx_words n j p (omega arith) r ∙ t.responses n j p q r e);
          pages = (λ n j p q r k e.
              let i = (piece (slots (g ++ v)) n).id in
              let small : i < 256 = small_ids (g ++ v) c.good n q in
              same (page_word (rx_buffer w start i).frame j) (rx_held i small (laid.rx_page i small)) ∙ t.pages n j p q r k e);
        }

    pub reading_same : (s : Piece) → Reading w start x f s → Reading w start y f s
    reading_same s r = record {
      id = r.id;
      page = (λ j a c. same (page_word (rx_buffer w start s.id).frame j) (rx_held s.id r.id (laid.rx_page s.id r.id)) ∙ r.page j a c);
      apart = r.apart;
    }

    head : (k : ℕ) → h ≤ k → k < 3 → y (page_word w.tx_frame k) ≡ x (page_word w.tx_frame k)
    head k p q = same (page_word w.tx_frame k) (tx_head p q laid.tx_ring)

    pub tx_head_same : h ≡ 0 → (c a e : ℕ) → TxHead w start x c a e → TxHead w start y c a e
    tx_head_same z c a e t = record { req_prod = head 0 (omega arith) (omega arith) ∙ t.req_prod; event = head 1 (omega arith) (omega arith) ∙ t.event; rsp_prod = head 2 (omega arith) (omega arith) ∙ t.rsp_prod }

    -- where the producer is written
    pub tx_head_pushed : h ≤ 1 → (c d a e : ℕ) → y (page_word w.tx_frame 0) ≡ add32 start d → TxHead w start x c a e → TxHead w start y d a e
    tx_head_pushed z c d a e p t = record { req_prod = p; event = head 1 (omega arith) (omega arith) ∙ t.event; rsp_prod = head 2 (omega arith) (omega arith) ∙ t.rsp_prod }

    rhead : (k : ℕ) → h ≤ k → k < 3 → y (page_word w.rx_frame k) ≡ x (page_word w.rx_frame k)
    rhead k p q = same (page_word w.rx_frame k) (rx_head p q laid.rx_ring)

    pub rx_head_same : {k : Awaits} → h ≡ 0 → (c a : ℕ) → RxHead w start x c a k → RxHead w start y c a k
    rx_head_same {k = k} z c a t = record { req_prod = rhead 0 (omega arith) (omega arith) ∙ t.req_prod; event = asked_as w start x y k (rhead 1 (omega arith) (omega arith)) t.event; rsp_prod = rhead 2 (omega arith) (omega arith) ∙ t.rsp_prod }

    pub rx_head_pushed : {k : Awaits} → h ≤ 1 → (c d a : ℕ) → y (page_word w.rx_frame 0) ≡ add32 start d → RxHead w start x c a k → RxHead w start y d a k
    rx_head_pushed {k = k} z c d a p t = record { req_prod = p; event = asked_as w start x y k (rhead 1 (omega arith) (omega arith)) t.event; rsp_prod = rhead 2 (omega arith) (omega arith) ∙ t.rsp_prod }
