-- Many writes of the front's own places, as one step.
use Rattle.std.proofs.Common.{◌≡◌, ℕ, ◌+◌, ◌*◌, List, [], ◌∷◌, length, refl, ◌∙◌, arith}
use Rattle.xen_buffers.specs.declared.wiring.FrontWiring.{FrontWiring}
use Rattle.xen_page.specs.declared.place.Place.{Place}
use Rattle.xen_steps.specs.Pages.{PageWrite, write_all}
use Rattle.xen_steps.specs.Steps.{Steps}
use Rattle.xen_steps.specs.declared.want.Want.TheVariants as want
use Rattle.honest_pair.specs.Invariant.Ghosts.{Sent, Piece, Front, Back, tx_sent, tx_answered, rx_given, AllOf}
use Rattle.honest_pair.specs.Invariant.Inv.{TxCounts, RxCounts, Reading, IsFronts, tx_slot, tx_flags, tx_frame, tx_page, rx_slot, rx_flags, rx_frame, FrontNotes, Inv}
use Rattle.honest_pair.specs.Machine.Memory.{Memory, put, after}
use Rattle.honest_pair.specs.Machine.Safe.{Safe}
use Rattle.honest_pair.proofs.Invariant.Puts.{put_apart, put_same}
use Rattle.honest_pair.specs.Invariant.Numbers.{Numbers}
use Rattle.honest_pair.proofs.Invariant.FrontOwns.{Own, in_tx, tx_lent, tx_mem, in_rx, rx_lent}
use Rattle.honest_pair.proofs.Invariant.FrontGroups.{written, tx_slots_same, rx_slots_same, reading_same, tx_head_same, rx_head_same}

-- two different places
abbrev pub Clear : Place → Place → Type 0
Clear a b = a.frame ≡ b.frame → a.word ≡ b.word → ⊥

abbrev pub Fresh : List PageWrite → Place → Type 0
Fresh acc at = AllOf (λ n. Clear n.at at) acc

-- places that differ from one another
abbrev pub Spread : List PageWrite → Type 0
Spread [] = Unit {0}
Spread (n ∷ ns) = AllOf (λ x. Clear n.at x.at) ns × Spread ns

abbrev pub Cross : List PageWrite → List PageWrite → Type 0
Cross acc ns = AllOf (λ x. Fresh acc x.at) ns

abbrev pub with_notes : Front → List PageWrite → Front
with_notes f ns = record f { notes = ns }

abbrev pub noted_all : List PageWrite → List PageWrite → List PageWrite
noted_all acc [] = acc
noted_all acc (n ∷ ns) = noted_all (n ∷ acc) ns

noted_acc : (P : PageWrite → Type 0) (acc ns : List PageWrite) → AllOf P (noted_all acc ns) → AllOf P acc
noted_acc P acc [] h = h
noted_acc P acc (n ∷ ns) h = (noted_acc P (n ∷ acc) ns h).1

-- what holds of the notes holds of the writes
pub noted_back : (P : PageWrite → Type 0) (acc ns : List PageWrite) → AllOf P (noted_all acc ns) → AllOf P ns
noted_back P acc [] h = tt
noted_back P acc (n ∷ ns) h = ((noted_acc P (n ∷ acc) ns h).0, noted_back P (n ∷ acc) ns h)

cross_on : (acc : List PageWrite) (n : PageWrite) (ns : List PageWrite) → AllOf (λ x. Clear n.at x.at) ns → Cross acc ns → Cross (n ∷ acc) ns
cross_on acc n [] a c = tt
cross_on acc n (x ∷ ns) a c = ((a.0, c.0), cross_on acc n ns a.1 c.1)

pub cross_none : (ns : List PageWrite) → Cross [] ns
cross_none [] = tt
cross_none (n ∷ ns) = (tt, cross_none ns)

module _ (w : FrontWiring) (start : ℕ) where
  -- the front's own places depend on what is published and taken alone
  pub fronts_like : (f : Front) (ns : List PageWrite) (at : Place) → IsFronts w start f at → IsFronts w start (with_notes f ns) at
  fronts_like f ns _ (tx_slot n j a b c) = tx_slot n j a b c
  fronts_like f ns _ (tx_flags i a b) = tx_flags i a b
  fronts_like f ns _ (tx_frame i a b) = tx_frame i a b
  fronts_like f ns _ (tx_page i j a b) = tx_page i j a b
  fronts_like f ns _ (rx_slot n j a b c) = rx_slot n j a b c
  fronts_like f ns _ (rx_flags i a b) = rx_flags i a b
  fronts_like f ns _ (rx_frame i a b) = rx_frame i a b

  pub tx_like : (f : Front) (ns : List PageWrite) (b : Back) → TxCounts w start f b → TxCounts w start (with_notes f ns) b
  tx_like f ns b h = record { took = h.took; told = h.told; wrote = h.wrote; used = h.used; known = h.known; room = h.room; unique = h.unique; good = h.good }

  pub rx_like : (f : Front) (ns : List PageWrite) (g v : List Sent) (u : ℕ) (rs : List ℕ) → RxCounts w start f g v u rs → RxCounts w start (with_notes f ns) g v u rs
  rx_like f ns g v u rs h = record { took = h.took; told = h.told; used = h.used; known = h.known; room = h.room; unique = h.unique; ids = h.ids; giving = h.giving; named = h.named; good = h.good }

  reading_like : (f : Front) (ns : List PageWrite) (x : Place → ℕ) (s : Piece) → Reading w start x f s → Reading w start x (with_notes f ns) s
  reading_like f ns x s h = record { id = h.id; page = h.page; apart = h.apart }

  module _ (laid : Numbers w) where
    pub fronts_own : (f : Front) (at : Place) → IsFronts w start f at → Own w start 0 f at
    fronts_own f _ (tx_slot n j a b c) = in_tx n j a b c laid.tx_ring refl
    fronts_own f _ (tx_flags i a b) = let q = laid.tx_word i a in tx_lent i 0 a b (omega arith) (laid.tx_frame i a) (omega arith)
    fronts_own f _ (tx_frame i a b) = let q = laid.tx_word i a in tx_lent i 1 a b (omega arith) (laid.tx_frame i a) (omega arith)
    fronts_own f _ (tx_page i j a b) = tx_mem i a b (laid.tx_page i a)
    fronts_own f _ (rx_slot n j a b c) = in_rx n j a b c laid.rx_ring refl
    fronts_own f _ (rx_flags i a b) = let q = laid.rx_word i a in rx_lent i 0 a b (omega arith) (laid.rx_frame i a) (omega arith)
    fronts_own f _ (rx_frame i a b) = let q = laid.rx_word i a in rx_lent i 1 a b (omega arith) (laid.rx_frame i a) (omega arith)

    -- a write of the front's own place that isn't noted
    pub write_own : (f : Front) (b : Back) (m : Memory) (at : Place) (v : ℕ) → Own w start 0 f at → FrontNotes w start (put m.word at v) f → Inv w start m f b → Inv w start (after (want.Write at v) m) f b
    write_own f b m at v o ns h =
        let x = m.word in
        let y = put m.word at v in
        let same = written w start 0 (omega arith) f x at v o in
        record {
          tx = h.tx;
          tx_head = tx_head_same w start laid 0 f b x y same refl (tx_sent f) (tx_answered b) b.event h.tx_head;
          tx_slots = tx_slots_same w start laid 0 f b x y same h.tx h.tx_slots;
          rx = h.rx;
          rx_head = rx_head_same w start laid 0 f b x y same refl (length f.posts) (rx_given b) h.rx_head;
          rx_slots = rx_slots_same w start laid 0 f b x y same b.given b.giving b.rx_used (2 * rx_given b + b.rx_wrote) b.filled b.rx_seen h.rx h.rx_slots;
          reading = (λ s e. reading_same w start laid 0 f b x y same s (h.reading s e));
          front_notes = ns;
          heard = h.heard;
          awaited = h.awaited;
        }

    pub renote : (f : Front) (ns : List PageWrite) (b : Back) (m : Memory) → FrontNotes w start m.word (with_notes f ns) → Inv w start m f b → Inv w start m (with_notes f ns) b
    renote f ns b m n h = record {
      tx = tx_like f ns b h.tx;
      tx_head = h.tx_head;
      tx_slots = h.tx_slots;
      rx = rx_like f ns b.given b.giving b.rx_used b.rx_seen h.rx;
      rx_head = h.rx_head;
      rx_slots = h.rx_slots;
      reading = (λ s e. reading_like f ns m.word s (h.reading s e));
      front_notes = n;
      heard = h.heard;
      awaited = h.awaited;
    }

    keep : (f : Front) (ms : List PageWrite) (x : Place → ℕ) (at : Place) (v : ℕ) (acc : List PageWrite) → Fresh acc at → AllOf (λ n. (x n.at ≡ n.value) × IsFronts w start f n.at) acc →
        AllOf (λ n. (put x at v n.at ≡ n.value) × IsFronts w start (with_notes f ms) n.at) acc
    keep f ms x at v [] g h = tt
    keep f ms x at v (n ∷ acc) g h = ((put_apart x at v n.at g.0 ∙ h.0.0, fronts_like f ms n.at h.0.1), keep f ms x at v acc g.1 h.1)

    pub write_note : (f : Front) (b : Back) (m : Memory) (n : PageWrite) → IsFronts w start f n.at → Fresh f.notes n.at → Inv w start m f b →
        Inv w start (after (want.Write n.at n.value) m) (with_notes f (n ∷ f.notes)) b
    write_note f b m n o g h =
        let y = put m.word n.at n.value in
        let old : FrontNotes w start m.word f = h.front_notes in
        renote f (n ∷ f.notes) b (after (want.Write n.at n.value) m)
        ((put_same m.word n.at n.value, fronts_like f (n ∷ f.notes) n.at o), keep f (n ∷ f.notes) m.word n.at n.value f.notes g old)
        (write_own f b m n.at n.value (fronts_own f n.at o) (keep f f.notes m.word n.at n.value f.notes g old) h)

    pub write_all_safe : {A : Type 0} (K : Front → Type 0) (P : Front → A → Type 0) (f : Front) (acc ns : List PageWrite) (t : Steps A) →
        ((l : List PageWrite) → K (with_notes f l)) → AllOf (λ n. IsFronts w start f n.at) ns → Spread ns → Cross acc ns →
        Safe (Inv w start) K P (with_notes f (noted_all acc ns)) t → Safe (Inv w start) K P (with_notes f acc) (write_all ns t)
    write_all_safe K P f acc [] t k o d c s = s
    write_all_safe K P f acc (n ∷ ns) t k o d c s = λ m b h. (
      with_notes f (n ∷ acc),
      write_note (with_notes f acc) b m n (fronts_like f acc n.at o.0) c.0 h,
      k (n ∷ acc),
      λ a l. write_all_safe K P f (n ∷ acc) ns t k o.1 d.1 (cross_on acc n ns d.0 c.1) s,
    )
