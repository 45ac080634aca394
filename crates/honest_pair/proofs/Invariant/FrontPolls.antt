-- The tx part of a poll is safe.
use Rattle.honest_pair.proofs.Invariant.Puts.{add_add}
use Rattle.std.proofs.Common.{◌≡◌, ℕ, zero, suc, ◌+◌, ◌-◌, ◌%◌, ◌^◌, ◌<◌, ◌≤◌, Bool, true, false, [], ◌∷◌, length-set, get_or, refl, sym, ◌∙◌, ap, arith, subst, Option, Some, None}
use Rattle.std.proofs.lemmas.List.{get_or-set_other}
use Rattle.xen_buffers.specs.Grants.{buffer, grant_place}
use Rattle.xen_buffers.specs.declared.wiring.FrontWiring.{FrontWiring}
use Rattle.xen_front.specs.Given.{Ending}
use Rattle.xen_front.specs.Slots.{ended, in_flight, taken, took}
use Rattle.xen_front.specs.Tree.{after_tx_look, judged, look, poll, poll_rx, take_all}
use Rattle.xen_front.specs.declared.state.Ring.{Ring}
use Rattle.xen_front.specs.declared.state.FrontState.{FrontState}
use Rattle.xen_netif.specs.Slots.{tx_rsp_of}
use Rattle.xen_steps.specs.Places.{add32, page_word, tx_entry}
use Rattle.xen_steps.specs.Steps.{Steps}
use Rattle.xen_steps.specs.declared.want.Want.TheVariants as want
use Rattle.honest_pair.specs.Invariant.Ghosts.{Front, Back, tx_sent, tx_answered}
use Rattle.honest_pair.specs.Invariant.Inv.{Inv}
use Rattle.honest_pair.specs.Machine.Memory.{Memory, after}
use Rattle.honest_pair.specs.Invariant.Rest.{Ringed, id_of}
use Rattle.honest_pair.specs.Machine.Safe.{Safe}
use Rattle.honest_pair.proofs.Invariant.FrontGroups.{tx_span}
use Rattle.honest_pair.proofs.Invariant.Lists.{small_ids}
use Rattle.honest_pair.proofs.Invariant.FrontLooks.{Told, Looked, look_safe}
use Rattle.honest_pair.specs.Invariant.Numbers.{Numbers}
use Rattle.honest_pair.proofs.Invariant.FrontOwns.{tx_lent, tx_event}
use Rattle.honest_pair.proofs.Invariant.FrontRings.{all_free_clear}
use Rattle.honest_pair.proofs.Machine.SafeLemmas.{safe_bind}
use Rattle.honest_pair.proofs.Invariant.FrontWrites.{write_own}

-- a front that polls: c tx responses are taken, and it was told of d
abbrev pub polled : Front → ℕ → ℕ → Front
polled f c d = record f { unsent = []; notes = []; window = None; posting = false; reading = None; taken = c; told = d }

-- A response is taken: its id is free.
pub ringed_taken : (start : ℕ) (r : Ring) (ids : ℕ → ℕ) (c sent id : ℕ) → Ringed start r ids c sent → c < sent → id ≡ ids c → ids c < 256 → ((n : ℕ) → c < n → n < sent → ids c ≡ ids n → ⊥) → Ringed start (taken r id) ids (c + 1) sent
ringed_taken start r ids c sent id h lt e small unique = record {
  prod = h.prod;
  cons = ap (λ x. add32 x 1) h.cons ∙ add_add start c 1;
  busy = (λ n p q. get_or-set_other r.out id (ids n) false false (λ o. unique n (omega arith) q (sym e ∙ sym o)) ∙ h.busy n (omega arith) q);
  count = (let a = all_free_clear r.out id h.size (ap (λ x. get_or r.out x false) e ∙ h.busy c (omega arith) lt) (omega arith) in let b = h.count in omega arith);
  size = length-set r.out id false ∙ h.size;
}

module _ (w : FrontWiring) (laid : Numbers w) (start : ℕ) (small : start < 2 ^ 32) (f : Front) where
  -- the producer tells how many are answered
  tells : (c d : ℕ) (m : Memory) (b : Back) → Inv w start m (polled f c d) b → Inv w start m (polled f c (tx_answered b)) b
  tells c d m b h =
      let p = h.tx.took in let q = h.tx.told in
      record {
        tx = record { took = omega arith; told = omega arith; wrote = h.tx.wrote; used = h.tx.used; known = h.tx.known; room = h.tx.room; unique = h.tx.unique; good = h.tx.good };
        tx_head = h.tx_head;
        tx_slots = h.tx_slots;
        rx = record { took = h.rx.took; told = h.rx.told; used = h.rx.used; known = h.rx.known; room = h.rx.room; unique = h.rx.unique; ids = h.rx.ids; giving = h.rx.giving; named = h.rx.named; good = h.rx.good };
        rx_head = h.rx_head;
        rx_slots = h.rx_slots;
        reading = (λ s e. absurd (cc));
        front_notes = tt;
        heard = h.heard;
        awaited = h.awaited;
      }

  -- one more response is taken
  takes : (c d : ℕ) (m : Memory) (b : Back) → c < d → Inv w start m (polled f c d) b → Inv w start m (polled f (c + 1) d) b
  takes c d m b lt h =
      let r = h.tx.room in
      record {
        tx = record { took = omega arith; told = h.tx.told; wrote = h.tx.wrote; used = h.tx.used; known = h.tx.known; room = omega arith; unique = (λ i j p. h.tx.unique i j (omega arith)); good = h.tx.good };
        tx_head = h.tx_head;
        tx_slots = record { requests = h.tx_slots.requests; grants = h.tx_slots.grants; pages = h.tx_slots.pages; responses = (λ n p q. h.tx_slots.responses n (omega arith) q) };
        rx = record { took = h.rx.took; told = h.rx.told; used = h.rx.used; known = h.rx.known; room = h.rx.room; unique = h.rx.unique; ids = h.rx.ids; giving = h.rx.giving; named = h.rx.named; good = h.rx.good };
        rx_head = h.rx_head;
        rx_slots = h.rx_slots;
        reading = (λ s e. absurd (cc));
        front_notes = tt;
        heard = h.heard;
        awaited = h.awaited;
      }

  -- and its grant ended
  ends : (c d id : ℕ) (m : Memory) (b : Back) → c < d → id ≡ id_of f c → Inv w start m (polled f c d) b → Inv w start (after (want.Write (ended w (buffer w.tx.now id)).at 0) m) (polled f (c + 1) d) b
  ends c d id m b lt e h =
      let span = tx_span w start (polled f c d) b h.tx in let high = span.high in let q = h.tx.told in
      let inside : c < tx_sent f = omega arith in
      let less : id < 256 = rw e (small_ids f.sent h.tx.good c inside) in
      let word = laid.tx_word id less in
      write_own w start laid (polled f (c + 1) d) b m (grant_place w (buffer w.tx.now id)) 0
      (tx_lent id 0 less (λ n p o i. h.tx.unique c n (omega arith) (omega arith) o (sym e ∙ sym i)) (omega arith) (laid.tx_frame id less) (omega arith))
      tt (takes c d m b lt h)

  asks_more : (c d v : ℕ) (m : Memory) (b : Back) → Inv w start m (polled f c d) b → Inv w start (after (want.Write (page_word w.tx_frame 3) v) m) (polled f c d) b
  asks_more c d v m b h = write_own w start laid (polled f c d) b m (page_word w.tx_frame 3) v (tx_event refl laid.tx_ring) tt h

  module _ (K : Front → Type 0) (P : Front → Ending → Type 0) (k : (c d : ℕ) → K (polled f c d)) where
    judged_safe : (c d : ℕ) (s : FrontState) (a id : ℕ) (flight : Bool) (rest : Steps Ending) → id ≡ id_of f c → c < d → (tx_rsp_of (a ∷ [])).id ≡ id → flight ≡ true → Safe (Inv w start) K P (polled f (c + 1) d) rest →
        Safe (Inv w start) K P (polled f c d) (judged w s (tx_rsp_of (a ∷ [])) flight rest)
    judged_safe c d s a id false rest e lt o t r = absurd (cc)
    judged_safe c d s a id true rest e lt o t r = λ m b h.
        (polled f (c + 1) d, ends c d (tx_rsp_of (a ∷ [])).id m b lt (o ∙ e) h, k (c + 1) d, λ n l. r)

    pub take_all_safe : (n c d : ℕ) (s : FrontState) → s.halt ≡ None → Ringed start s.tx (id_of f) c (tx_sent f) → c + n ≡ d →
        ((s' : FrontState) → s'.halt ≡ None → s'.rx ≡ s.rx → Ringed start s'.tx (id_of f) d (tx_sent f) → Safe (Inv w start) K P (polled f d d) (poll_rx w s')) →
        Safe (Inv w start) K P (polled f c d) (take_all w n s)
    take_all_safe zero c d s halt r e go = let q : c ≡ d = omega arith in subst (λ x. Safe (Inv w start) K P (polled f x d) (poll_rx w s)) (sym q) (go s halt refl (subst (λ x. Ringed start s.tx (id_of f) x (tx_sent f)) q r))
    take_all_safe (suc n) c d s halt r e go = λ m b h.
        let span = tx_span w start (polled f c d) b h.tx in let high = span.high in let q = h.tx.told in
        let inside : c < tx_sent f = omega arith in
        let a = m.word (tx_entry w.tx_frame s.tx.cons 0) in
        let word : a % 2 ^ 16 ≡ id_of f c = ap (λ x. m.word (tx_entry w.tx_frame x 0) % 2 ^ 16) r.cons ∙ h.tx_slots.responses c (omega arith) (omega arith) in
        let less : id_of f c < 256 = small_ids f.sent h.tx.good c inside in
        let more = ringed_taken start s.tx (id_of f) c (tx_sent f) (a % 2 ^ 16) r inside word less (λ i p o. h.tx.unique c i (omega arith) p o) in (
          polled f c d,
          h,
          k c d,
          λ x l.
              judged_safe c d s a (id_of f c) (in_flight s.tx (a % 2 ^ 16)) (take_all w n (took s (tx_rsp_of (a ∷ [])))) refl (omega arith) word (ap (in_flight s.tx) word ∙ r.busy c (omega arith) inside)
              (take_all_safe n (c + 1) d (took s (tx_rsp_of (a ∷ []))) halt more (omega arith) go),
        )

    tx_reads : (c d : ℕ) (m : Memory) (b : Back) → Inv w start m (polled f c d) b → Told w start small (λ x. polled f c x) (λ x. x) (λ x. Unit {0}) w.tx_frame c (tx_sent f) m b
    tx_reads c d m b h =
        let span = tx_span w start (polled f c d) b h.tx in let low = span.low in let high = span.high in let room = h.tx.room in
        record { what = tx_answered b; word = h.tx_head.rsp_prod; low = low; high = omega arith; room = room; inv = tells c d m b h; good = tt }

    after_safe : (c d : ℕ) (s : FrontState) (o : Option ℕ) → s.halt ≡ None → Ringed start s.tx (id_of f) c (tx_sent f) → c ≤ d → o ≡ Some (d - c) →
        ((d : ℕ) (s' : FrontState) → s'.halt ≡ None → s'.rx ≡ s.rx → Ringed start s'.tx (id_of f) d (tx_sent f) → Safe (Inv w start) K P (polled f d d) (poll_rx w s')) →
        Safe (Inv w start) K P (polled f c d) (after_tx_look w s o)
    after_safe c d s o halt r lt e go = subst (λ x. Safe (Inv w start) K P (polled f c d) (after_tx_look w s x)) (sym e) (take_all_safe (d - c) c d s halt r (omega arith) (go d))

    -- a poll up to its rx part
    pub poll_tx_safe : (c d : ℕ) (s : FrontState) → s.halt ≡ None → Ringed start s.tx (id_of f) c (tx_sent f) →
        ((d : ℕ) (s' : FrontState) → s'.halt ≡ None → s'.rx ≡ s.rx → Ringed start s'.tx (id_of f) d (tx_sent f) → Safe (Inv w start) K P (polled f d d) (poll_rx w s')) →
        Safe (Inv w start) K P (polled f c d) (poll w s)
    poll_tx_safe c d s halt r go =
        safe_bind (Inv w start) K (Looked w start small (λ x. polled f c x) (λ x. x) (λ x. Unit {0}) w.tx_frame c (tx_sent f)) P (polled f c d) (look w.tx_frame s.tx) (after_tx_look w s)
        (look_safe w start small (λ x. polled f c x) (λ x. x) (λ x. Unit {0}) w.tx_frame c (tx_sent f) K (k c) s.tx r.cons r.prod (tx_reads c) (asks_more c) d)
        (λ g o q. subst (λ y. Safe (Inv w start) K P y (after_tx_look w s o)) (sym q.ghost) (after_safe c q.what s o halt r q.low q.shown go))
