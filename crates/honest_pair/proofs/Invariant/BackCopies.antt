-- The copy of a sent packet's chain is the packet.
use Rattle.std.proofs.Common.{◌≡◌, ℕ, zero, suc, ◌+◌, ◌-◌, ◌*◌, ◌/◌, ◌<◌, ◌≤◌, Bool, true, false, List, [], ◌∷◌, ◌++◌, length, map, take, drop, Option, Some, Result, Ok, refl, sym, ◌∙◌, ap, arith, subst}
use Rattle.std.specs.Prelude.{get_or, nat_le, ◌==◌, if◌then◌else◌}
use Rattle.std.specs.Int.{w32, to_le_bytes}
use Rattle.std.proofs.lemmas.Bool.Decides.{nat_tests}
use Rattle.xen_turns.specs.Tree.{copy, entered}
use Rattle.xen_turns.specs.declared.wiring.Wiring.{Wiring as BackWiring}
use Rattle.xen_buffers.specs.Grants.{buffer, grant_place}
use Rattle.xen_buffers.specs.declared.wiring.FrontWiring.{FrontWiring}
use Rattle.xen_front.specs.Slots.{piece_size, piece_words, word_at}
use Rattle.xen_netif.specs.Copy.{bytes_in, covered}
use Rattle.xen_netif.specs.Words.{joined}
use Rattle.xen_page.specs.Entry.{entry_of}
use Rattle.xen_page.specs.Grant.{checked}
use Rattle.xen_page.specs.Mapping.{frame_place}
use Rattle.xen_page.specs.declared.fault.GrantFault.{GrantFault}
use Rattle.xen_page.specs.declared.entry.Rights.TheVariants.{ReadOnly}
use Rattle.xen_steps.specs.Pages.{copy_words}
use Rattle.xen_steps.specs.Places.{page_word}
use Rattle.xen_steps.specs.Steps.{done}
use Rattle.xen_rx_fill.specs.Entries.{entry, entry_at, entry_checked}
use Rattle.honest_pair.specs.Invariant.Ghosts.{AllOf, IsSent, Sent, Piece, piece, pieces_from, pieces_in, slots, Front, Back}
use Rattle.honest_pair.specs.Invariant.Inv.{Inv, IsLent}
use Rattle.honest_pair.specs.Invariant.Joined.{Joined}
use Rattle.honest_pair.specs.Invariant.Ended.{working}
use Rattle.honest_pair.specs.Machine.Memory.{Memory}
use Rattle.honest_pair.specs.Invariant.Ends.{BackSafe, HasGiven}
use Rattle.honest_pair.proofs.Invariant.Lists.{pieces_count}
use Rattle.honest_pair.proofs.Invariant.BackLooks.{over, safe_bind, read_known}
use Rattle.honest_pair.proofs.Invariant.BackChains.{onto, piece_there, slots_there}
use Rattle.honest_pair.proofs.Invariant.BackParts.{bytes_at, grown, part, piece_size_of, taken_at, word_bytes}

take_whole : (l : List ℕ) (n : ℕ) → length l ≤ n → take n l ≡ l
take_whole [] zero h = refl
take_whole [] (suc n) h = refl
take_whole (x ∷ l) zero h = absurd (omega (arith, h))
take_whole (x ∷ l) (suc n) h = ap (λ t. x ∷ t) (take_whole l n (omega (arith, h)))

-- a packet up to its k-th page, and that page
next_page : (p : List ℕ) (k : ℕ) → 4096 * k ≤ length p → take (4096 * k + piece_size (length p) k) p ≡ take (4096 * (k + 1)) p
next_page p k h = by (nat_le (4096 * (k + 1)) (length p)) refl
  where
    by : (b : Bool) → nat_le (4096 * (k + 1)) (length p) ≡ b → take (4096 * k + piece_size (length p) k) p ≡ take (4096 * (k + 1)) p
    by true e =
        let le : 4096 * (k + 1) ≤ length p = grind (arith, nat_tests) in
        let s = piece_size_of (length p) k in
        let t : 4096 * k + piece_size (length p) k ≡ 4096 * (k + 1) = omega (arith, le, s) in
        ap (λ n. take n p) t
    by false e =
        let lt : length p < 4096 * (k + 1) = grind (arith, nat_tests) in
        let s = piece_size_of (length p) k in
        take_whole p (4096 * k + piece_size (length p) k) (omega (arith, lt, s, h)) ∙ sym (take_whole p (4096 * (k + 1)) (omega (arith, lt)))

whole_four : (p : List ℕ) (n m a : ℕ) → n ≤ m → take m (bytes_at p a n) ≡ bytes_at p a n
whole_four p zero zero a h = refl
whole_four p zero (suc m) a h = refl
whole_four p (suc n) zero a h = absurd (omega (arith, h))
whole_four p (suc n) (suc m) a h = ap (λ l. get_or p a 0 ∷ l) (whole_four p n m (a + 1) (omega (arith, h)))

-- the bytes of a fragment at a page's beginning in its i-th word
bytes_in_word : (p : List ℕ) (gref size a i : ℕ) → ((n : ℕ) → get_or p n 0 < 256) → bytes_in (record { gref = gref; offset = 0; size = size }) i (word_at p a) ≡ take (size - 4 * i) (bytes_at p a 4)
bytes_in_word p gref size a i h =
    let e : 0 - 4 * i ≡ 0 = omega arith in
    let f : 0 + size - 4 * i - (0 - 4 * i) ≡ size - 4 * i = omega arith in
    ap (λ n. take n (drop (0 - 4 * i) (to_le_bytes w32 (word_at p a)))) f
    ∙ ap (λ n. take (size - 4 * i) (drop n (to_le_bytes w32 (word_at p a)))) e
    ∙ ap (take (size - 4 * i)) (word_bytes p a h)

covered_of : (gref size : ℕ) → covered (record { gref = gref; offset = 0; size = size }) ≡ (size + 3) / 4
covered_of gref size = by (size == 0) refl
  where
    by : (b : Bool) → (size == 0) ≡ b → (if b then 0 else (0 + size - 1) / 4 + 1 - 0) ≡ (size + 3) / 4
    by true e = let z : size ≡ 0 = grind (arith, nat_tests) in omega (arith, z)
    by false e = let z : size ≡ 0 → ⊥ = grind (arith, nat_tests) in let some : 0 < size = positive size z in omega (arith, some)
      where
        positive : (n : ℕ) → (n ≡ 0 → ⊥) → 0 < n
        positive zero h = absurd (h refl)
        positive (suc n) h = omega arith

module _ (w : FrontWiring) (start : ℕ) (v : BackWiring) (j : Joined w v) (d : List Sent) (s : Sent) (l g : List Sent) (rs : List ℕ) (e : ℕ) (good : IsSent s) where
  -- all slots of the packet are read
  abbrev read_all : Back
  read_all = working d (s ∷ l) (length s.ids) 0 g rs e

  count : length (pieces_in s) ≡ length s.ids
  count = pieces_count s.bytes (length s.ids) 0 s.ids

  lent_there : (m : Memory) (f : Front) (k : ℕ) (x : Piece) → k < length s.ids → piece (pieces_in s) k ≡ x → Inv w start m f read_all → IsLent w start m.word (buffer w.tx.now x.id) 5
  lent_there m f k x p q h =
      let b = slots_there w start v d s l g rs e m f (length s.ids) 0 h in
      subst (λ z. IsLent w start m.word (buffer w.tx.now z.id) 5) (piece_there w start v d s l g rs e m f (length s.ids) 0 k (omega (arith, p, count)) h ∙ q)
      (h.tx_slots.grants (length (slots d) + k) (omega arith) (omega (arith, b, p, count)))

  page_there : (m : Memory) (f : Front) (k i : ℕ) (x : Piece) → k < length s.ids → piece (pieces_in s) k ≡ x → i < piece_words (length x.bytes) x.k → Inv w start m f read_all →
      m.word (page_word (buffer w.tx.now x.id).frame i) ≡ word_at x.bytes (4096 * x.k + 4 * i)
  page_there m f k i x p q r h =
      let b = slots_there w start v d s l g rs e m f (length s.ids) 0 h in
      subst (λ z. i < piece_words (length z.bytes) z.k → m.word (page_word (buffer w.tx.now z.id).frame i) ≡ word_at z.bytes (4096 * z.k + 4 * i)) (piece_there w start v d s l g rs e m f (length s.ids) 0 k (omega (arith, p, count)) h ∙ q)
      (h.tx_slots.pages (length (slots d) + k) i (omega arith) (omega (arith, b, p, count))) r

  abbrev Granted : ℕ → Back → Result ℕ GrantFault → Type 0
  Granted id b r = (b ≡ read_all) × (r ≡ Ok (buffer w.tx.now id).frame)

  entry_safe : (k : ℕ) (x : Piece) → k < length s.ids → piece (pieces_in s) k ≡ x → x.id < 256 → BackSafe w start (HasGiven g) (Granted x.id) read_all (entry (over w v).vif ReadOnly (buffer w.tx.now x.id).gref)
  entry_safe k x p q r =
      let at = grant_place w (buffer w.tx.now x.id) in
      subst (λ o. BackSafe w start (HasGiven g) (Granted x.id) read_all (entry_at (over w v).vif ReadOnly o)) (sym (j.tx_place x.id r))
      (read_known w start (HasGiven g) (Granted x.id) read_all read_all at (joined 5 w.back) (entry_checked (over w v).vif ReadOnly at) refl (λ m f h. ((lent_there m f k x p q h).flags, h))
      (read_known w start (HasGiven g) (Granted x.id) read_all read_all (frame_place at) (buffer w.tx.now x.id).frame
      (λ b. done (checked v.vif.owners.now v.vif.granter v.vif.user (entry_of (joined 5 w.back) b) ReadOnly)) refl (λ m f h. ((lent_there m f k x p q h).frame, h)) (refl, j.tx_grant x.id r)))

  abbrev Copying : List ℕ → Back → List ℕ → Type 0
  Copying out b bytes = (b ≡ read_all) × (bytes ≡ out)

  -- the words of the k-th page from the i-th on
  words_safe : (k : ℕ) (x : Piece) → k < length s.ids → piece (pieces_in s) k ≡ x → x.bytes ≡ s.bytes → x.k ≡ k → 4096 * k ≤ length s.bytes →
      (n i z : ℕ) (acc : List ℕ) → acc ≡ take (4096 * k + z) s.bytes → (0 < n → z ≡ 4 * i) → (n ≡ 0 → z ≡ piece_size (length s.bytes) k) →
      piece_size (length s.bytes) k ≤ 4 * (i + n) → (0 < n → 4 * (i + n) < piece_size (length s.bytes) k + 4) →
      BackSafe w start (HasGiven g) (Copying (take (4096 * k + piece_size (length s.bytes) k) s.bytes)) read_all (copy_words (part w start x) (buffer w.tx.now x.id).frame i n acc)
  words_safe k x p q bx kx low zero i z acc a b c f t = (refl, a ∙ ap (λ y. take (4096 * k + y) s.bytes) (c refl))
  words_safe k x p q bx kx low (suc n) i z acc a b c f t =
      let size = piece_size (length s.bytes) k in
      let at : z ≡ 4 * i = b (omega arith) in
      let most = t (omega arith) in
      let sized = piece_size_of (length s.bytes) k in
      read_known w start (HasGiven g) (Copying (take (4096 * k + size) s.bytes)) read_all read_all (page_word (buffer w.tx.now x.id).frame i) (word_at x.bytes (4096 * x.k + 4 * i))
      (λ y. copy_words (part w start x) (buffer w.tx.now x.id).frame (i + 1) n (acc ++ bytes_in (part w start x) i y))
      refl (λ m fr h. (page_there m fr k i x p q (within (omega (arith, most))) h, h))
      (on n refl (λ z2 a2 b2 c2. words_safe k x p q bx kx low n (i + 1) z2 (acc ++ bytes_in (part w start x) i (word_at x.bytes (4096 * x.k + 4 * i))) a2 b2 c2 (omega (arith, f)) (λ some. omega (arith, most))))
    where
      within : 4 * i < piece_size (length s.bytes) k → i < piece_words (length x.bytes) x.k
      within h =
          let e : piece_words (length x.bytes) x.k ≡ piece_words (length s.bytes) k = ap (λ y. piece_words (length y) x.k) bx ∙ ap (piece_words (length s.bytes)) kx in
          let r : i < piece_words (length s.bytes) k = omega (arith, h) in
          subst (λ y. i < y) (sym e) r

      -- the bytes of that word
      added : (count : ℕ) → take (piece_size (length s.bytes) k - 4 * i) (bytes_at s.bytes (4096 * k + 4 * i) 4) ≡ bytes_at s.bytes (4096 * k + 4 * i) count → z ≡ 4 * i → 4096 * k + 4 * i + count ≤ length s.bytes →
          acc ++ bytes_in (part w start x) i (word_at x.bytes (4096 * x.k + 4 * i)) ≡ take (4096 * k + (4 * i + count)) s.bytes
      added count e at r =
          let u : bytes_in (part w start x) i (word_at x.bytes (4096 * x.k + 4 * i)) ≡ bytes_at s.bytes (4096 * k + 4 * i) count =
          ap (λ y. bytes_in (part w start x) i (word_at y (4096 * x.k + 4 * i))) bx
          ∙ ap (λ y. bytes_in (part w start x) i (word_at s.bytes (4096 * y + 4 * i))) kx
          ∙ ap (λ y. bytes_in (record { gref = (buffer w.tx.now x.id).gref; offset = 0; size = piece_size (length y) x.k }) i (word_at s.bytes (4096 * k + 4 * i))) bx
          ∙ ap (λ y. bytes_in (record { gref = (buffer w.tx.now x.id).gref; offset = 0; size = piece_size (length s.bytes) y }) i (word_at s.bytes (4096 * k + 4 * i))) kx
          ∙ bytes_in_word s.bytes (buffer w.tx.now x.id).gref (piece_size (length s.bytes) k) (4096 * k + 4 * i) i good.bytes ∙ e in
          let o : 4096 * k + 4 * i + count ≡ 4096 * k + (4 * i + count) = omega arith in
          let o2 : 4096 * k + z ≡ 4096 * k + 4 * i = omega (arith, at) in
          ap (λ y. y ++ bytes_in (part w start x) i (word_at x.bytes (4096 * x.k + 4 * i))) (a ∙ ap (λ y. take y s.bytes) o2)
          ∙ ap (λ y. take (4096 * k + 4 * i) s.bytes ++ y) u
          ∙ grown s.bytes count (4096 * k + 4 * i) r
          ∙ ap (λ y. take y s.bytes) o

      on : (n2 : ℕ) → n ≡ n2 →
          ((z2 : ℕ) → acc ++ bytes_in (part w start x) i (word_at x.bytes (4096 * x.k + 4 * i)) ≡ take (4096 * k + z2) s.bytes → (0 < n → z2 ≡ 4 * (i + 1)) → (n ≡ 0 → z2 ≡ piece_size (length s.bytes) k) →
          BackSafe w start (HasGiven g) (Copying (take (4096 * k + piece_size (length s.bytes) k) s.bytes)) read_all
          (copy_words (part w start x) (buffer w.tx.now x.id).frame (i + 1) n (acc ++ bytes_in (part w start x) i (word_at x.bytes (4096 * x.k + 4 * i))))) →
          BackSafe w start (HasGiven g) (Copying (take (4096 * k + piece_size (length s.bytes) k) s.bytes)) read_all
          (copy_words (part w start x) (buffer w.tx.now x.id).frame (i + 1) n (acc ++ bytes_in (part w start x) i (word_at x.bytes (4096 * x.k + 4 * i))))
      on zero u again =
          let size = piece_size (length s.bytes) k in
          let at : z ≡ 4 * i = b (omega arith) in
          let most = t (omega arith) in
          let sized = piece_size_of (length s.bytes) k in
          let few : size - 4 * i ≤ 4 = omega (arith, f, u) in
          again (4 * i + (size - 4 * i))
          (added (size - 4 * i) (taken_at s.bytes 4 (size - 4 * i) (4096 * k + 4 * i) few) at (omega (arith, sized, most, low, u)))
          (λ some. absurd (omega (arith, some, u))) (λ none. omega (arith, most, u))
      on (suc n2) u again =
          let size = piece_size (length s.bytes) k in
          let at : z ≡ 4 * i = b (omega arith) in
          let most = t (omega arith) in
          let sized = piece_size_of (length s.bytes) k in
          let many : 4 ≤ size - 4 * i = omega (arith, most, u) in
          again (4 * i + 4)
          (added 4 (whole_four s.bytes 4 (size - 4 * i) (4096 * k + 4 * i) many) at (omega (arith, sized, many, low)))
          (λ some. omega arith) (λ none. absurd (omega (arith, none, u)))

  abbrev pub Copied : Back → Option (List ℕ) → Type 0
  Copied b o = (b ≡ read_all) × (o ≡ Some s.bytes)

  -- the pieces from the k-th on
  parts_safe : (ids : List ℕ) (k : ℕ) (acc : List ℕ) → acc ≡ take (4096 * k) s.bytes → length s.ids ≡ k + length ids → AllOf (λ i. i < 256) ids →
      ((i : ℕ) → i < length ids → piece (pieces_in s) (k + i) ≡ piece (pieces_from s.bytes (length s.ids) k ids) i) →
      BackSafe w start (HasGiven g) Copied read_all (copy (over w v) (map (part w start) (pieces_from s.bytes (length s.ids) k ids)) acc)
  parts_safe [] k acc a b c z =
      let n = good.count in
      (refl, ap Some (a ∙ take_whole s.bytes (4096 * k) (omega (arith, n, b))))
  parts_safe (id ∷ ids) k acc a b c z =
      let n = good.count in
      let x : Piece = record { bytes = s.bytes; n = length s.ids; k = k; id = id } in
      let at : piece (pieces_in s) k ≡ x = ap (piece (pieces_in s)) (omega arith) ∙ z 0 (omega arith) in
      let inside : k < length s.ids = omega (arith, b) in
      let low : 4096 * k ≤ length s.bytes = omega (arith, n, b) in
      let size = piece_size (length s.bytes) k in
      let some : 0 < size = (let e = piece_size_of (length s.bytes) k in omega (arith, e, n, b)) in
      let words = covered_of (buffer w.tx.now id).gref size in
      let later = map (part w start) (pieces_from s.bytes (length s.ids) (k + 1) ids) in
      safe_bind w start (HasGiven g) (Granted id) Copied read_all (entry (over w v).vif ReadOnly (buffer w.tx.now id).gref) (entered (part w start x) (copy (over w v) later) acc)
      (entry_safe k x inside at c.0)
      (λ b' r h. onto (λ b2 r2. BackSafe w start (HasGiven g) Copied b2 (entered (part w start x) (copy (over w v) later) acc r2)) read_all b' (Ok (buffer w.tx.now id).frame) r h.0 h.1
      (safe_bind w start (HasGiven g) (Copying (take (4096 * k + size) s.bytes)) Copied read_all (copy_words (part w start x) (buffer w.tx.now id).frame 0 (covered (part w start x)) acc) (copy (over w v) later)
      (words_safe k x inside at refl refl low (covered (part w start x)) 0 0 acc (a ∙ ap (λ y. take y s.bytes) (omega arith)) (λ h2. omega arith) (λ h2. omega (arith, words, some, h2)) (omega (arith, words)) (λ h2. omega (arith, words)))
      (λ b3 bytes h3. onto (λ b4 y. BackSafe w start (HasGiven g) Copied b4 (copy (over w v) later y)) read_all b3 (take (4096 * (k + 1)) s.bytes) bytes h3.0 (h3.1 ∙ next_page s.bytes k low)
      (parts_safe ids (k + 1) (take (4096 * (k + 1)) s.bytes) refl (omega (arith, b)) c.1 (λ i q. ap (piece (pieces_in s)) (omega arith) ∙ z (suc i) (omega (arith, q)))))))

  -- The copy is the packet.
  pub copy_safe : BackSafe w start (HasGiven g) Copied read_all (copy (over w v) (map (part w start) (pieces_in s)) [])
  copy_safe = parts_safe s.ids 0 [] refl (omega arith) good.ids (λ i q. ap (piece (pieces_in s)) (omega arith))
