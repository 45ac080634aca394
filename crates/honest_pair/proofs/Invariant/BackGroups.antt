-- What a write into a frame leaves of each group of the invariant.
use Rattle.std.proofs.Common.{◌≡◌, ℕ, ◌+◌, ◌*◌, ◌%◌, ◌<◌, ◌≤◌, ◌⊎◌, inl, inr, List, [], ◌∷◌, length, refl, sym, ◌∙◌, ap, arith}
use Rattle.xen_buffers.specs.Grants.{grant_place}
use Rattle.xen_buffers.specs.declared.wiring.GrantedPage.{GrantedPage}
use Rattle.xen_buffers.specs.declared.wiring.FrontWiring.{FrontWiring}
use Rattle.xen_netif.specs.Words.{low}
use Rattle.xen_page.specs.Mapping.{frame_place}
use Rattle.xen_page.specs.declared.place.Place.{Place}
use Rattle.xen_steps.specs.Places.{add32, page_word}
use Rattle.xen_steps.specs.Pages.{PageWrite}
use Rattle.honest_pair.specs.Invariant.Ghosts.{Piece, piece, id_at, Front, AllNotes, tx_sent}
use Rattle.honest_pair.specs.Invariant.Inv.{TxSlots, RxSlots, TxHead, RxHead, Reading, IsLent, IsFronts, tx_slot, tx_flags, tx_frame, tx_page, rx_slot, rx_flags, rx_frame, FrontNotes, tx_at, rx_at, tx_buffer, rx_buffer}
use Rattle.honest_pair.specs.Invariant.Laid.{Outside, Laid}
use Rattle.honest_pair.specs.Machine.Memory.{put}
use Rattle.honest_pair.specs.declared.awaits.Awaits.{Awaits}
use Rattle.honest_pair.proofs.Invariant.Asks.{asked_as}
use Rattle.honest_pair.proofs.Invariant.Puts.{put_apart}

pub all_map : {P Q : PageWrite → Type 0} → ((n : PageWrite) → P n → Q n) → (ns : List PageWrite) → AllNotes P ns → AllNotes Q ns
all_map f [] h = tt
all_map f (n ∷ ns) h = (f n h.0, all_map f ns h.1)

module _ (w : FrontWiring) (start : ℕ) (x : Place → ℕ) (F k v : ℕ) where
  abbrev written_word : Place → ℕ
  written_word = put x (page_word F k) v

  lent_put : (b : GrantedPage) (kind : ℕ) → ((grant_place w b).frame ≡ F → ⊥) → IsLent w start x b kind → IsLent w start written_word b kind
  lent_put b kind h l = record {
    frame = put_apart x (page_word F k) v (frame_place (grant_place w b)) (λ e q. h e) ∙ l.frame;
    flags = put_apart x (page_word F k) v (grant_place w b) (λ e q. h e) ∙ l.flags;
  }

  pub tx_put : (l : List Piece) (t a wr r : ℕ) → Outside w F → ((n : ℕ) → n < length l → (piece l n).id < 256) → t ≤ r → t ≤ a → wr ≤ length l →
      ((n j : ℕ) → t ≤ n → n < length l → j < 3 → (r ≤ n) ⊎ ((n < wr) × (j ≡ 0)) → w.tx_frame ≡ F → 16 + 3 * (add32 start n % 256) + j ≡ k → ⊥) →
      TxSlots w start x l t a wr r → TxSlots w start written_word l t a wr r
  tx_put l t a wr r o ids p1 p2 p3 ring h = record {
    requests = λ n j p q s. put_apart x (page_word F k) v (tx_at w start n j) (ring n j (omega (arith, p, p1)) q s (inl p)) ∙ h.requests n j p q s;
    grants = λ n p q. lent_put (tx_buffer w start (piece l n).id) 5 (o.tx_grants (piece l n).id (ids n q)) (h.grants n p q);
    pages = λ n j p q s. put_apart x (page_word F k) v (page_word (tx_buffer w start (piece l n).id).frame j) (λ e d. o.tx_pages (piece l n).id (ids n q) e) ∙ h.pages n j p q s;
    responses = λ n p q. ap low (put_apart x (page_word F k) v (tx_at w start n 0) (ring n 0 p (omega (arith, q, p3)) (omega arith) (inr (q, refl)))) ∙ h.responses n p q;
  }

  pub rx_put : (posts : List ℕ) (l : List Piece) (got given read written filled : ℕ) → Outside w F → ((n : ℕ) → n < length posts → id_at posts n < 256) → got ≤ read → length l ≤ length posts →
      ((n j : ℕ) → got ≤ n → n < length posts → j < 2 → (read ≤ n) ⊎ ((n < length l) × (2 * n + j < written)) → w.rx_frame ≡ F → 16 + 2 * (add32 start n % 256) + j ≡ k → ⊥) →
      ((n j : ℕ) → got ≤ n → n < length l → j < 1024 → (n < given) ⊎ (1024 * (piece l n).k + j < filled) → (rx_buffer w start (piece l n).id).frame ≡ F → j ≡ k → ⊥) →
      RxSlots w start x posts l got given read written filled → RxSlots w start written_word posts l got given read written filled
  rx_put posts l got given read written filled o ids p1 p2 ring page h = record {
    requests = λ n j p q s. put_apart x (page_word F k) v (rx_at w start n j) (ring n j (omega (arith, p, p1)) q s (inl p)) ∙ h.requests n j p q s;
    grants = λ n p q. lent_put (rx_buffer w start (id_at posts n)) 1 (o.rx_grants (id_at posts n) (ids n q)) (h.grants n p q);
    responses = λ n j p q s u. put_apart x (page_word F k) v (rx_at w start n j) (ring n j p (omega (arith, q, p2)) s (inr (q, u))) ∙ h.responses n j p q s u;
    pages = λ n j p q s u t. put_apart x (page_word F k) v (page_word (rx_buffer w start (piece l n).id).frame j) (page n j p q s t) ∙ h.pages n j p q s u t;
  }

  pub tx_head_put : (sent answered asked : ℕ) → ((i : ℕ) → i < 3 → w.tx_frame ≡ F → i ≡ k → ⊥) → TxHead w start x sent answered asked → TxHead w start written_word sent answered asked
  tx_head_put sent answered asked d h = record {
    req_prod = put_apart x (page_word F k) v (page_word w.tx_frame 0) (d 0 (omega arith)) ∙ h.req_prod;
    event = put_apart x (page_word F k) v (page_word w.tx_frame 1) (d 1 (omega arith)) ∙ h.event;
    rsp_prod = put_apart x (page_word F k) v (page_word w.tx_frame 2) (d 2 (omega arith)) ∙ h.rsp_prod;
  }

  pub rx_head_put : {a : Awaits} (posted given : ℕ) → ((i : ℕ) → i < 3 → w.rx_frame ≡ F → i ≡ k → ⊥) → RxHead w start x posted given a → RxHead w start written_word posted given a
  rx_head_put {a = a} posted given d h = record {
    event = asked_as w start x written_word a (put_apart x (page_word F k) v (page_word w.rx_frame 1) (d 1 (omega arith))) h.event;
    req_prod = put_apart x (page_word F k) v (page_word w.rx_frame 0) (d 0 (omega arith)) ∙ h.req_prod;
    rsp_prod = put_apart x (page_word F k) v (page_word w.rx_frame 2) (d 2 (omega arith)) ∙ h.rsp_prod;
  }

  pub reading_put : (f : Front) (s : Piece) → ((rx_buffer w start s.id).frame ≡ F → ⊥) → Reading w start x f s → Reading w start written_word f s
  reading_put f s d h = record {
    id = h.id;
    page = λ j p q. put_apart x (page_word F k) v (page_word (rx_buffer w start s.id).frame j) (λ e u. d e) ∙ h.page j p q;
    apart = h.apart;
  }

  pub notes_put : (f : Front) → ((at : Place) → IsFronts w start f at → at.frame ≡ F → at.word ≡ k → ⊥) → FrontNotes w start x f → FrontNotes w start written_word f
  notes_put f d h = all_map (λ n p. (put_apart x (page_word F k) v n.at (d n.at p.1) ∙ p.0, p.1)) f.notes h

module _ (w : FrontWiring) (start : ℕ) (y : Laid w) (f : Front) where
  -- a word of the tx ring's page, of the rx ring's, of a posted buffer's
  pub fronts_tx : (k : ℕ) → ((n j : ℕ) → tx_sent f ≤ n → n < f.taken + 256 → j < 3 → 16 + 3 * (add32 start n % 256) + j ≡ k → ⊥) →
      (at : Place) → IsFronts w start f at → at.frame ≡ w.tx_frame → at.word ≡ k → ⊥
  fronts_tx k d at (tx_slot n j p q r) e u = d n j p q r u
  fronts_tx k d at (tx_flags i p q) e u = y.tx_ring.tx_grants i p e
  fronts_tx k d at (tx_frame i p q) e u = y.tx_ring.tx_grants i p e
  fronts_tx k d at (tx_page i j p q) e u = y.tx_ring.tx_pages i p e
  fronts_tx k d at (rx_slot n j p q r) e u = y.rings (sym e)
  fronts_tx k d at (rx_flags i p q) e u = y.tx_ring.rx_grants i p e
  fronts_tx k d at (rx_frame i p q) e u = y.tx_ring.rx_grants i p e

  pub fronts_rx : (k : ℕ) → ((n j : ℕ) → length f.posts ≤ n → n < f.got + 256 → j < 2 → 16 + 2 * (add32 start n % 256) + j ≡ k → ⊥) →
      (at : Place) → IsFronts w start f at → at.frame ≡ w.rx_frame → at.word ≡ k → ⊥
  fronts_rx k d at (tx_slot n j p q r) e u = y.rings e
  fronts_rx k d at (tx_flags i p q) e u = y.rx_ring.tx_grants i p e
  fronts_rx k d at (tx_frame i p q) e u = y.rx_ring.tx_grants i p e
  fronts_rx k d at (tx_page i j p q) e u = y.rx_ring.tx_pages i p e
  fronts_rx k d at (rx_slot n j p q r) e u = d n j p q r u
  fronts_rx k d at (rx_flags i p q) e u = y.rx_ring.rx_grants i p e
  fronts_rx k d at (rx_frame i p q) e u = y.rx_ring.rx_grants i p e

  pub fronts_page : (i k : ℕ) → i < 256 → (at : Place) → IsFronts w start f at → at.frame ≡ (rx_buffer w start i).frame → at.word ≡ k → ⊥
  fronts_page i k h at (tx_slot n j p q r) e u = y.tx_ring_rx i h (sym e)
  fronts_page i k h at (tx_flags n p q) e u = (y.page i h).tx_grants n p e
  fronts_page i k h at (tx_frame n p q) e u = (y.page i h).tx_grants n p e
  fronts_page i k h at (tx_page n j p q) e u = (y.page i h).tx_pages n p e
  fronts_page i k h at (rx_slot n j p q r) e u = y.rx_ring_rx i h (sym e)
  fronts_page i k h at (rx_flags n p q) e u = (y.page i h).rx_grants n p e
  fronts_page i k h at (rx_frame n p q) e u = (y.page i h).rx_grants n p e
