-- What a back's write leaves of the invariant's groups: a word of the tx ring's page, of the rx ring's, of a posted buffer.
use Rattle.std.proofs.Common.{◌≡◌, ℕ, ◌+◌, ◌*◌, ◌%◌, ◌<◌, ◌≤◌, ◌⊎◌, inl, ◌++◌, length, length-append, Some, sym, ap, arith}
use Rattle.xen_buffers.specs.declared.wiring.FrontWiring.{FrontWiring}
use Rattle.xen_page.specs.declared.place.Place.{Place}
use Rattle.xen_steps.specs.Places.{add32, page_word}
use Rattle.honest_pair.specs.Invariant.Ghosts.{Piece, piece, slots, Front, Back, tx_sent, tx_answered, rx_given}
use Rattle.honest_pair.specs.Invariant.Inv.{Inv, TxSlots, RxHead, RxSlots, Reading, FrontNotes}
use Rattle.honest_pair.specs.Invariant.Laid.{Laid}
use Rattle.honest_pair.specs.Machine.Memory.{Memory, put}
use Rattle.honest_pair.specs.declared.awaits.Awaits.{Awaits}
use Rattle.honest_pair.proofs.Invariant.Lists.{slots_count, small_ids}
use Rattle.honest_pair.proofs.Invariant.BackGroups.{tx_put, rx_put, rx_head_put, reading_put, notes_put, fronts_tx}

module _ (w : FrontWiring) (start : ℕ) (m : Memory) (f : Front) (b : Back) (h : Inv w start m f b) where
  -- as many slots are published as the back knows
  pub sent_bound : tx_answered b + length (slots b.ahead) ≤ tx_sent f
  sent_bound =
      let more = h.tx.known.0 in
      let c = ap (λ l. length (slots l)) h.tx.known.1 in
      let d = slots_count b.done (b.ahead ++ more) in
      let e = slots_count b.ahead more in
      omega (arith, c, d, e)

  pub posts_bound : length b.rx_seen ≤ length f.posts
  posts_bound =
      let c = ap length h.rx.known.1 in
      let d = length-append b.rx_seen h.rx.known.0 in
      omega (arith, c, d)

  pub given_small : (n : ℕ) → n < length (slots (b.given ++ b.giving)) → (piece (slots (b.given ++ b.giving)) n).id < 256
  given_small = small_ids (b.given ++ b.giving) h.rx.good

  pub given_bound : length (slots (b.given ++ b.giving)) ≤ length f.posts
  given_bound = let c = h.rx.giving in let d = h.rx.used in let e = posts_bound in omega (arith, c, d, e)

  pub got_bound : f.got ≤ rx_given b
  got_bound =
      let c = h.rx.took in
      let d = ap (λ l. length (slots l)) h.rx.told.1 in
      let e = slots_count f.rx_told h.rx.told.0 in
      omega (arith, c, d, e)

-- all but the tx ring's header and the sleeping back
pub record Kept (w : FrontWiring) (start : ℕ) (x : Place → ℕ) (asked : Awaits) (f : Front) (b : Back) : Type 0 where
  pub tx_slots : TxSlots w start x (slots f.sent) f.taken (tx_answered b) (tx_answered b + b.wrote) (tx_answered b + b.used)
  pub rx_head : RxHead w start x (length f.posts) (rx_given b) asked
  pub rx_slots : RxSlots w start x f.posts (slots (b.given ++ b.giving)) f.got (rx_given b) (rx_given b + b.rx_used) (2 * rx_given b + b.rx_wrote) b.filled
  pub reading : (s : Piece) → f.reading ≡ Some s → Reading w start x f s
  pub front_notes : FrontNotes w start x f

-- a word of the tx ring's page that is no word of a slot in use
pub tx_ring_put : (w : FrontWiring) (start : ℕ) (m : Memory) (f : Front) (b : Back) (h : Inv w start m f b) (y : Laid w) (k v : ℕ) →
    ((n j : ℕ) → f.taken ≤ n → n < f.taken + 256 → j < 3 → (tx_answered b + b.used ≤ n) ⊎ ((n < tx_answered b + b.wrote) × (j ≡ 0)) → 16 + 3 * (add32 start n % 256) + j ≡ k → ⊥) →
    Kept w start (put m.word (page_word w.tx_frame k) v) m.awaits f b
tx_ring_put w start m f b h y k v ring =
    let sb = sent_bound w start m f b h in
    let gb = given_bound w start m f b h in
    let ob = got_bound w start m f b h in
    let c = h.tx.took in let d = h.tx.told in let e = h.tx.wrote in let g = h.tx.used in let room = h.tx.room in
    record {
      tx_slots = tx_put w start m.word w.tx_frame k v (slots f.sent) f.taken (tx_answered b) (tx_answered b + b.wrote) (tx_answered b + b.used) y.tx_ring (small_ids f.sent h.tx.good)
          (omega (arith, c, d)) (omega (arith, c, d)) (omega (arith, sb, e, g)) (λ n j p q r s u. ring n j p (omega (arith, q, room)) r s) h.tx_slots;
      rx_head = rx_head_put w start m.word w.tx_frame k v (length f.posts) (rx_given b) (λ i p q. absurd (y.rings (sym q))) h.rx_head;
      rx_slots = rx_put w start m.word w.tx_frame k v f.posts (slots (b.given ++ b.giving)) f.got (rx_given b) (rx_given b + b.rx_used) (2 * rx_given b + b.rx_wrote) b.filled y.tx_ring h.rx.ids
          (omega (arith, ob)) gb (λ n j p q r s u. absurd (y.rings (sym u))) (λ n j p q r s u. absurd (y.tx_ring_rx (piece (slots (b.given ++ b.giving)) n).id (given_small w start m f b h n q) u)) h.rx_slots;
      reading = λ s p. reading_put w start m.word w.tx_frame k v f s (y.tx_ring_rx s.id (h.reading s p).id) (h.reading s p);
      front_notes = notes_put w start m.word w.tx_frame k v f
          (fronts_tx w start y f k (λ n j p q r. ring n j (omega (arith, p, c, d, sb)) q r (inl (omega (arith, p, g, sb))))) h.front_notes;
    }
