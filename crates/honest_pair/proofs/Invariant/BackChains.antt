-- The slots of a packet are read whole, and are a chain.
use Rattle.std.proofs.Common.{◌≡◌, ℕ, zero, suc, ◌+◌, ◌<◌, ◌≤◌, Bool, true, false, List, [], ◌∷◌, ◌++◌, length, length-append, map, append_assoc, Ok, refl, sym, ◌∙◌, ap, arith, subst}
use Rattle.std.specs.Prelude.{get_or, nat_lt}
use Rattle.std.proofs.lemmas.Bool.Decides.{nat_tests}
use Rattle.xen_turns.specs.Tree.{Scan, judged, read_slot, read_slots, second, third}
use Rattle.xen_turns.specs.declared.wiring.Wiring.{Wiring as BackWiring}
use Rattle.xen_buffers.specs.declared.wiring.FrontWiring.{FrontWiring}
use Rattle.xen_front.specs.Slots.{piece_request}
use Rattle.xen_netif.specs.Chain.{Slot, extra_info, more_data}
use Rattle.xen_netif.specs.Slots.{tx_flag_bits}
use Rattle.xen_netif.specs.Standing.{after_data, after_extra, standing}
use Rattle.xen_netif.specs.Words.{joined}
use Rattle.xen_steps.specs.Places.{add32, tx_entry}
use Rattle.xen_steps.specs.Steps.{done}
use Rattle.honest_pair.specs.Invariant.Ghosts.{IsSent, Sent, Piece, piece, pieces_from, pieces_in, slots, Front, Back, tx_sent}
use Rattle.honest_pair.specs.Invariant.Inv.{Inv, tx_words}
use Rattle.honest_pair.specs.Invariant.Ended.{working}
use Rattle.honest_pair.specs.Machine.Memory.{Memory}
use Rattle.honest_pair.specs.Invariant.Ends.{BackSafe, HasGiven}
use Rattle.honest_pair.proofs.Invariant.Puts.{add_add}
use Rattle.honest_pair.proofs.Invariant.Lists.{slots_append, piece_left, piece_right, pieces_count}
use Rattle.honest_pair.proofs.Invariant.BackLooks.{over, safe_bind, read_known}

pub onto : {X Y : Type 0} (P : X → Y → Type 0) (a a' : X) (b b' : Y) → a' ≡ a → b' ≡ b → P a b → P a' b'
onto P a a' b b' p q h = subst (λ x. P x b') (sym p) (subst (λ z. P a z) (sym q) h)

module _ (w : FrontWiring) (start : ℕ) where
  pub no_extra : (s : Piece) → extra_info (tx_words w start s) ≡ false
  no_extra s = by (nat_lt (s.k + 1) s.n)
    where
      by : (b : Bool) → extra_info ((piece_request w s.bytes s.n s.k s.id).gref ∷ joined 0 (tx_flag_bits (record { csum_blank = false; data_validated = false; more_data = b; extra_info = false })) ∷ joined s.id (piece_request w s.bytes s.n s.k s.id).size ∷ []) ≡ false
      by true = refl
      by false = refl

  pub more_said : (s : Piece) → more_data (tx_words w start s) ≡ nat_lt (s.k + 1) s.n
  more_said s = by (nat_lt (s.k + 1) s.n)
    where
      by : (b : Bool) → more_data ((piece_request w s.bytes s.n s.k s.id).gref ∷ joined 0 (tx_flag_bits (record { csum_blank = false; data_validated = false; more_data = b; extra_info = false })) ∷ joined s.id (piece_request w s.bytes s.n s.k s.id).size ∷ []) ≡ b
      by true = refl
      by false = refl

  more_wanted : (s : Piece) → s.k + 1 < s.n → more_data (tx_words w start s) ≡ true
  more_wanted s h = more_said s ∙ at h
    where
      at : s.k + 1 < s.n → nat_lt (s.k + 1) s.n ≡ true
      at p = grind (arith, nat_tests)

  none_wanted : (s : Piece) → s.n ≡ s.k + 1 → more_data (tx_words w start s) ≡ false
  none_wanted s h = more_said s ∙ at h
    where
      at : s.n ≡ s.k + 1 → nat_lt (s.k + 1) s.n ≡ false
      at p = grind (arith, nat_tests)

module _ (w : FrontWiring) (start : ℕ) (v : BackWiring) (d : List Sent) (s : Sent) (l g : List Sent) (rs : List ℕ) (e : ℕ) where
  -- k slots of the first packet ahead are read
  abbrev read_of : ℕ → Back
  read_of k = working d (s ∷ l) k 0 g rs e

  abbrev index : ℕ
  index = add32 start (length (slots d))

  -- the packet's slots stand behind those that are answered
  pub piece_there : (m : Memory) (f : Front) (k wrote n : ℕ) → n < length (pieces_in s) → Inv w start m f (working d (s ∷ l) k wrote g rs e) → piece (slots f.sent) (length (slots d) + n) ≡ piece (pieces_in s) n
  piece_there m f k wrote n p h =
      let more = h.tx.known.0 in
      ap (λ x. piece (slots x) (length (slots d) + n)) h.tx.known.1
      ∙ ap (λ x. piece x (length (slots d) + n)) (slots_append d (s ∷ (l ++ more)))
      ∙ piece_right (slots d) (slots (s ∷ (l ++ more))) n
      ∙ piece_left (pieces_in s) (slots (l ++ more)) n p

  pub slots_there : (m : Memory) (f : Front) (k wrote : ℕ) → Inv w start m f (working d (s ∷ l) k wrote g rs e) → length (slots d) + length (pieces_in s) ≤ tx_sent f
  slots_there m f k wrote h =
      let more = h.tx.known.0 in
      let c = ap (λ x. length (slots x)) h.tx.known.1 in
      let a = ap length (slots_append d (s ∷ (l ++ more))) in
      let b = length-append (slots d) (slots (s ∷ (l ++ more))) in
      let q = length-append (pieces_in s) (slots (l ++ more)) in
      omega (arith, c, a, b, q)

  -- a word of the next slot
  word_there : (m : Memory) (f : Front) (i k j : ℕ) (x : Piece) → i ≡ add32 index k → piece (pieces_in s) k ≡ x → k < length (pieces_in s) → j < 3 → Inv w start m f (read_of k) →
      m.word (tx_entry w.tx_frame i j) ≡ get_or (tx_words w start x) j 0
  word_there m f i k j x at q p t h =
      let b = slots_there m f k 0 h in
      ap (λ n. m.word (tx_entry w.tx_frame n j)) (at ∙ add_add start (length (slots d)) k)
      ∙ h.tx_slots.requests (length (slots d) + k) j (omega arith) (omega (arith, b, p)) t
      ∙ ap (λ z. get_or (tx_words w start z) j 0) (piece_there m f k 0 k p h ∙ q)

  -- all three of its words are read
  is_read : (m : Memory) (f : Front) (k : ℕ) → k < length (pieces_in s) → Inv w start m f (read_of k) → Inv w start m f (read_of (k + 1))
  is_read m f k p h = record {
    tx = record { took = h.tx.took; told = h.tx.told; wrote = omega arith; used = (let q = length-append (pieces_in s) (slots l) in omega (arith, p, q)); known = h.tx.known; room = h.tx.room; unique = h.tx.unique; good = h.tx.good };
    tx_head = h.tx_head;
    tx_slots = record { requests = λ n j q. h.tx_slots.requests n j (omega (arith, q)); grants = h.tx_slots.grants; pages = h.tx_slots.pages; responses = h.tx_slots.responses };
    rx = h.rx;
    rx_head = h.rx_head;
    rx_slots = h.rx_slots;
    reading = h.reading;
    front_notes = h.front_notes;
    heard = λ c. cc;
    awaited = h.awaited;
  }

  abbrev IsRead : ℕ → Piece → Back → Slot → Type 0
  IsRead k x b slot = (b ≡ read_of (k + 1)) × (slot ≡ tx_words w start x)

  slot_safe : (i k : ℕ) (x : Piece) → i ≡ add32 index k → piece (pieces_in s) k ≡ x → k < length (pieces_in s) → BackSafe w start (HasGiven g) (IsRead k x) (read_of k) (read_slot (over w v) i)
  slot_safe i k x at q p =
      let words = tx_words w start x in
      read_known w start (HasGiven g) (IsRead k x) (read_of k) (read_of k) (tx_entry w.tx_frame i 0) (get_or words 0 0) (second (over w v) i) refl (λ m f h. (word_there m f i k 0 x at q p (omega arith) h, h))
      (read_known w start (HasGiven g) (IsRead k x) (read_of k) (read_of k) (tx_entry w.tx_frame i 1) (get_or words 1 0) (third (over w v) i (get_or words 0 0)) refl (λ m f h. (word_there m f i k 1 x at q p (omega arith) h, h))
      (read_known w start (HasGiven g) (IsRead k x) (read_of k) (read_of (k + 1)) (tx_entry w.tx_frame i 2) (get_or words 2 0) (λ c. done (get_or words 0 0 ∷ get_or words 1 0 ∷ c ∷ []))
      refl (λ m f h. (word_there m f i k 2 x at q p (omega arith) h, is_read m f k p h)) (refl, refl)))

  -- all slots are read
  abbrev pub Scanned : ℕ → List Slot → Back → Scan → Type 0
  Scanned n all b o = (b ≡ read_of n) × (o ≡ Ok all)

  -- the slots read so far, after which `room` data slots may come
  abbrev Begun : List Slot → ℕ → Type 0
  Begun acc room = (slot : Slot) (more : List Slot) → extra_info slot ≡ false → standing (acc ++ slot ∷ more) ≡ after_data room true (slot ∷ more)

  begun_more : (acc : List Slot) (room : ℕ) (slot : Slot) → Begun acc (suc room) → extra_info slot ≡ false → more_data slot ≡ true → Begun (acc ++ slot ∷ []) room
  begun_more acc room slot b x y next more z =
      ap standing (append_assoc acc (slot ∷ []) (next ∷ more)) ∙ b slot (next ∷ more) x ∙ ap (λ q. after_data room q (next ∷ more)) y

  -- after a slot, with these ids to come
  goes_on : (ids : List ℕ) (n k left room : ℕ) (acc all : List Slot) (x : Piece) → length ids ≤ room → n ≡ k + 1 + length ids →
      acc ++ tx_words w start x ∷ map (tx_words w start) (pieces_from s.bytes n (k + 1) ids) ≡ all → x.k ≡ k → x.n ≡ n →
      (0 < length ids → BackSafe w start (HasGiven g) (Scanned n all) (read_of (k + 1)) (read_slots (over w v) index left (acc ++ tx_words w start x ∷ []))) →
      BackSafe w start (HasGiven g) (Scanned n all) (read_of (k + 1)) (judged (acc ++ tx_words w start x ∷ []) (after_data room (more_data (tx_words w start x)) []) (read_slots (over w v) index left (acc ++ tx_words w start x ∷ [])))
  goes_on [] n k left room acc all x r t c xk xn next =
      subst (λ o. BackSafe w start (HasGiven g) (Scanned n all) (read_of (k + 1)) (judged (acc ++ tx_words w start x ∷ []) (after_data room o []) (read_slots (over w v) index left (acc ++ tx_words w start x ∷ []))))
      (sym (none_wanted w start x (xn ∙ t ∙ omega (arith, xk)))) (ap read_of (omega (arith, t)), ap Ok c)
  goes_on (j ∷ ids) n k left zero acc all x r t c xk xn next = absurd (omega (arith, r))
  goes_on (j ∷ ids) n k left (suc room) acc all x r t c xk xn next =
      subst (λ o. BackSafe w start (HasGiven g) (Scanned n all) (read_of (k + 1)) (judged (acc ++ tx_words w start x ∷ []) (after_data (suc room) o []) (read_slots (over w v) index left (acc ++ tx_words w start x ∷ []))))
      (sym (more_wanted w start x (omega (arith, xk, xn, t)))) (next (omega arith))

  -- The slots from the k-th on: the chain is whole as the last is read.
  chain_safe : (ids : List ℕ) (n k left room : ℕ) (acc all : List Slot) → length acc ≡ k → Begun acc room → 0 < length ids → length ids ≤ left → length ids ≤ room → n ≡ k + length ids → n ≤ length (pieces_in s) →
      ((i : ℕ) → i < length ids → piece (pieces_in s) (k + i) ≡ piece (pieces_from s.bytes n k ids) i) → acc ++ map (tx_words w start) (pieces_from s.bytes n k ids) ≡ all →
      BackSafe w start (HasGiven g) (Scanned n all) (read_of k) (read_slots (over w v) index left acc)
  chain_safe [] n k left room acc all a b p q r t u z c = absurd (omega (arith, p))
  chain_safe (id ∷ ids) n k zero room acc all a b p q r t u z c = absurd (omega (arith, q))
  chain_safe (id ∷ ids) n k (suc left) zero acc all a b p q r t u z c = absurd (omega (arith, r))
  chain_safe (id ∷ ids) n k (suc left) (suc room) acc all a b p q r t u z c =
      let x : Piece = record { bytes = s.bytes; n = n; k = k; id = id } in
      let slot = tx_words w start x in
      safe_bind w start (HasGiven g) (IsRead k x) (Scanned n all) (read_of k) (read_slot (over w v) (add32 index (length acc)))
      (λ y. judged (acc ++ y ∷ []) (standing (acc ++ y ∷ [])) (read_slots (over w v) index left (acc ++ y ∷ [])))
      (slot_safe (add32 index (length acc)) k x (ap (add32 index) a) (ap (piece (pieces_in s)) (omega arith) ∙ z 0 (omega arith)) (omega (arith, t, u)))
      (λ b' y h. onto (λ b2 y2. BackSafe w start (HasGiven g) (Scanned n all) b2 (judged (acc ++ y2 ∷ []) (standing (acc ++ y2 ∷ [])) (read_slots (over w v) index left (acc ++ y2 ∷ [])))) (read_of (k + 1)) b' slot y h.0 h.1
      (subst (λ o. BackSafe w start (HasGiven g) (Scanned n all) (read_of (k + 1)) (judged (acc ++ slot ∷ []) o (read_slots (over w v) index left (acc ++ slot ∷ [])))) (sym (b slot [] (no_extra w start x)))
      (goes_on ids n k left room acc all x (omega (arith, r)) (omega (arith, t)) c refl refl
      (λ some. chain_safe ids n (k + 1) left room (acc ++ slot ∷ []) all (length-append acc (slot ∷ []) ∙ omega (arith, a))
      (begun_more acc room slot b (no_extra w start x) (more_wanted w start x (omega (arith, t, some))))
      some (omega (arith, q)) (omega (arith, r)) (omega (arith, t)) u
      (λ i h2. ap (piece (pieces_in s)) (omega arith) ∙ z (suc i) (omega (arith, h2)))
      (append_assoc acc (slot ∷ []) (map (tx_words w start) (pieces_from s.bytes n (k + 1) ids)) ∙ c)))))

  begun : Begun [] 18
  begun slot more h = ap (λ q. after_extra 5 q (more_data slot) more) h

  -- all slots of the packet at the front
  pub scan_safe : (left : ℕ) → IsSent s → length (pieces_in s) ≤ left →
      BackSafe w start (HasGiven g) (Scanned (length s.ids) (map (tx_words w start) (pieces_in s))) (read_of 0) (read_slots (over w v) index left [])
  scan_safe left h p =
      let c = pieces_count s.bytes (length s.ids) 0 s.ids in
      let n = h.count in let a = h.least in let b = h.most in
      chain_safe s.ids (length s.ids) 0 left 18 [] (map (tx_words w start) (pieces_in s)) refl begun (omega (arith, n, a)) (omega (arith, c, p)) (omega (arith, n, b)) (omega arith) (omega (arith, c))
      (λ i q. ap (piece (pieces_in s)) (omega arith)) refl
