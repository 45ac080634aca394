-- The events of a push keep the invariant.
use Rattle.std.proofs.Common.{◌≡◌, ℕ, ◌+◌, ◌-◌, ◌*◌, ◌^◌, ◌<◌, ◌≤◌, inl, inr, true, false, List, [], length, sym, ◌∙◌, ap, arith, Option, Some, None}
use Rattle.std.specs.Prelude.{nat_lt}
use Rattle.std.proofs.lemmas.Bool.{lt-ltb}
use Rattle.xen_buffers.specs.declared.wiring.FrontWiring.{FrontWiring}
use Rattle.xen_front.specs.Slots.{send_writes}
use Rattle.xen_page.specs.declared.place.Place.{Place}
use Rattle.xen_ring.specs.Index.{distance, is_due}
use Rattle.xen_steps.specs.Places.{add32, page_word}
use Rattle.xen_steps.specs.declared.want.Want.TheVariants as want
use Rattle.honest_pair.specs.Invariant.Ghosts.{Sent, Piece, Front, Back, tx_sent, tx_answered, rx_given, AllOf}
use Rattle.honest_pair.specs.Invariant.Inv.{TxCounts, RxCounts, Reading, IsFronts, Inv}
use Rattle.honest_pair.specs.Machine.Memory.{Memory, put, after, told}
use Rattle.honest_pair.proofs.Invariant.Asks.{asked_as, told_by}
use Rattle.honest_pair.proofs.Invariant.Puts.{put_same, put_apart}
use Rattle.honest_pair.specs.Invariant.Numbers.{Numbers}
use Rattle.honest_pair.proofs.Invariant.FrontOwns.{tx_prod}
use Rattle.honest_pair.proofs.Invariant.FrontGroups.{written, tx_slots_same, rx_slots_same, reading_same, tx_head_pushed}
use Rattle.honest_pair.proofs.Invariant.FrontPieces.{all_map}
use Rattle.honest_pair.proofs.Invariant.FrontPublishes.{pushed, Sendable, sent_one, tx_counts_pushed, tx_slots_pushed}
use Rattle.honest_pair.proofs.Invariant.FrontStands.{Stood}
use Rattle.honest_pair.proofs.Invariant.FrontWrites.{with_notes, noted_all, noted_back}

pub some_injective : {a b : ℕ} → Some a ≡ Some b → a ≡ b
some_injective {a = a} {b = b} e = cc

pub distance_of : (s a b : ℕ) → s < 2 ^ 32 → a ≤ b → b < a + 2 ^ 32 → distance (add32 s a) (add32 s b) ≡ b - a
distance_of s a b h p q = omega arith

-- a push of n requests from o on, where the other end asked to be told of the first
pub due_next : (s o n : ℕ) → s < 2 ^ 32 → 0 < n → n ≤ 256 → is_due (add32 s o) (add32 s (o + n)) (add32 s (o + 1)) ≡ true
due_next s o n h p q =
    ap (λ d. nat_lt d (distance (add32 s o) (add32 s (o + n)))) (distance_of s (o + 1) (o + n) h (omega arith) (omega arith))
    ∙ ap (nat_lt (o + n - (o + 1))) (distance_of s o (o + n) h (omega arith) (omega arith))
    ∙ lt-ltb (o + n - (o + 1)) (o + n - o) (omega arith)

module _ (w : FrontWiring) (laid : Numbers w) (start : ℕ) (small : start < 2 ^ 32) (f : Front) where
  rx_pushed : (s : Sent) (win : Option ℕ) (g v : List Sent) (u : ℕ) (rs : List ℕ) → RxCounts w start f g v u rs → RxCounts w start (pushed f s win) g v u rs
  rx_pushed s win g v u rs h = record { took = h.took; told = h.told; used = h.used; known = h.known; room = h.room; unique = h.unique; ids = h.ids; giving = h.giving; named = h.named; good = h.good }

  reading_pushed : (s : Sent) (win : Option ℕ) (x : Place → ℕ) (q : Piece) → Reading w start x f q → Reading w start x (pushed f s win) q
  reading_pushed s win x q h = record { id = h.id; page = h.page; apart = h.apart }

  -- the store of the producer
  pub publishes : (s : Sent) → Sendable w start f s → f.window ≡ None → (m : Memory) (b : Back) →
      Inv w start m (with_notes f (noted_all [] (send_writes w (add32 start (tx_sent f)) s.bytes (length s.ids) 0 s.ids))) b →
      Inv w start (after (want.Write (page_word w.tx_frame 0) (add32 start (tx_sent f + length s.ids))) m) (pushed f s (Some (tx_sent f))) b
  publishes s ok quiet m b h =
      let ns = send_writes w (add32 start (tx_sent f)) s.bytes (length s.ids) 0 s.ids in
      let win = Some (tx_sent f) in
      let at = page_word w.tx_frame 0 in
      let v = add32 start (tx_sent f + length s.ids) in
      let x = m.word in let y = put m.word at v in
      let g = pushed f s win in
      let tx0 : TxCounts w start f b = record { took = h.tx.took; told = h.tx.told; wrote = h.tx.wrote; used = h.tx.used; known = h.tx.known; room = h.tx.room; unique = h.tx.unique; good = h.tx.good } in
      let rx0 : RxCounts w start g b.given b.giving b.rx_used b.rx_seen =
      record { took = h.rx.took; told = h.rx.told; used = h.rx.used; known = h.rx.known; room = h.rx.room; unique = h.rx.unique; ids = h.rx.ids; giving = h.rx.giving; named = h.rx.named; good = h.rx.good } in
      let tx1 = tx_counts_pushed w start f s ok win b tx0 in
      let st : AllOf (Stood w start x) ns =
      all_map (λ n. (x n.at ≡ n.value) × IsFronts w start (with_notes f (noted_all [] ns)) n.at) (Stood w start x) (λ n e. e.0) ns
      (noted_back (λ n. (x n.at ≡ n.value) × IsFronts w start (with_notes f (noted_all [] ns)) n.at) [] ns h.front_notes) in
      let same = written w start 1 (omega arith) g x at v (tx_prod (omega arith) laid.tx_ring) in
      let len = sent_one f s win in
      record {
        tx = tx1;
        tx_head = tx_head_pushed w start laid 1 g b x y same (omega arith) (tx_sent f) (tx_sent g) (tx_answered b) b.event (put_same x at v ∙ ap (add32 start) (sym len)) h.tx_head;
        tx_slots = tx_slots_same w start laid 1 g b x y same tx1 (tx_slots_pushed w start f s ok win b x tx0 st h.tx_slots);
        rx = rx0;
        rx_head = record {
          req_prod = put_apart x at v (page_word w.rx_frame 0) (λ p q. let c = laid.tx_ring in let d = laid.rx_ring in omega arith) ∙ h.rx_head.req_prod;
          event = asked_as w start x y m.awaits (put_apart x at v (page_word w.rx_frame 1) (λ p q. let c = laid.tx_ring in let d = laid.rx_ring in omega arith)) h.rx_head.event;
          rsp_prod = put_apart x at v (page_word w.rx_frame 2) (λ p q. let c = laid.tx_ring in let d = laid.rx_ring in omega arith) ∙ h.rx_head.rsp_prod;
        };
        rx_slots = rx_slots_same w start laid 1 g b x y same b.given b.giving b.rx_used (2 * rx_given b + b.rx_wrote) b.filled b.rx_seen rx0 h.rx_slots;
        reading = (λ q e. let r = h.reading q e in reading_same w start laid 1 g b x y same q (record { id = r.id; page = r.page; apart = r.apart }));
        front_notes = tt;
        heard = (λ a. let e = h.heard a in (e.0, elim e.1 [ inl p ↦ inl p | inr q ↦ inr (inr (elim q [ inl p ↦ ap Some p | inr z ↦ (let c : None ≡ Some (tx_answered b) = sym quiet ∙ z in absurd (cc)) ])) ]));
        awaited = h.awaited;
      }

  -- The notice is decided: none is due.
  pub closes : (s : Sent) (o n : ℕ) (m : Memory) (b : Back) → 0 < n → n ≤ 256 → is_due (add32 start o) (add32 start (o + n)) (m.word (page_word w.tx_frame 1)) ≡ false →
      Inv w start m (pushed f s (Some o)) b → Inv w start m (pushed f s None) b
  closes s o n m b p q nd h = record {
    tx = record { took = h.tx.took; told = h.tx.told; wrote = h.tx.wrote; used = h.tx.used; known = h.tx.known; room = h.tx.room; unique = h.tx.unique; good = h.tx.good };
    tx_head = h.tx_head;
    tx_slots = h.tx_slots;
    rx = record { took = h.rx.took; told = h.rx.told; used = h.rx.used; known = h.rx.known; room = h.rx.room; unique = h.rx.unique; ids = h.rx.ids; giving = h.rx.giving; named = h.rx.named; good = h.rx.good };
    rx_head = h.rx_head;
    rx_slots = h.rx_slots;
    reading = (λ t e. let r = h.reading t e in record { id = r.id; page = r.page; apart = r.apart });
    front_notes = tt;
    heard = (λ a. let e = h.heard a in (
      e.0,
      elim e.1 [
        | inl c ↦ inl c
        | inr c ↦ inr (elim c [
          | inl d ↦ inl d
          | inr z ↦
              let t : o ≡ tx_answered b = some_injective z in
              let u : m.word (page_word w.tx_frame 1) ≡ add32 start (o + 1) = h.tx_head.event ∙ ap (add32 start) (e.0 ∙ ap (λ k. k + 1) (sym t)) in
              let due : is_due (add32 start o) (add32 start (o + n)) (m.word (page_word w.tx_frame 1)) ≡ true = ap (is_due (add32 start o) (add32 start (o + n))) u ∙ due_next start o n small p q in
              let bad : true ≡ false = sym due ∙ nd in absurd (cc)
        ])
      ],
    ));
    awaited = h.awaited;
  }

  -- The notice is sent.
  pub wakes : (s : Sent) (win : Option ℕ) (m : Memory) (b : Back) → Inv w start m (pushed f s win) b → Inv w start (after (want.Notify w.port) m) (pushed f s None) b
  wakes s win m b h = record {
    tx = record { took = h.tx.took; told = h.tx.told; wrote = h.tx.wrote; used = h.tx.used; known = h.tx.known; room = h.tx.room; unique = h.tx.unique; good = h.tx.good };
    tx_head = h.tx_head;
    tx_slots = h.tx_slots;
    rx = record { took = h.rx.took; told = h.rx.told; used = h.rx.used; known = h.rx.known; room = h.rx.room; unique = h.rx.unique; ids = h.rx.ids; giving = h.rx.giving; named = h.rx.named; good = h.rx.good };
    rx_head = h.rx_head;
    rx_slots = h.rx_slots;
    reading = (λ t e. let r = h.reading t e in record { id = r.id; page = r.page; apart = r.apart });
    front_notes = tt;
    heard = (λ a. let e = h.heard a in (e.0, inl (ap (λ k. told k m.pending) laid.port)));
    awaited = told_by w start w.port m.pending (length f.posts) f.posting m.awaits h.awaited;
  }
