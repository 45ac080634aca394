-- A packet is sent back: the posts are read, and their grants accepted.
use Rattle.std.proofs.Common.{◌≡◌, ℕ, zero, suc, ◌+◌, ◌-◌, ◌^◌, ◌<◌, ◌≤◌, Bool, false, List, [], ◌∷◌, ◌++◌, length, length-append, append_assoc, Some, Result, Ok, refl, sym, ◌∙◌, ap, arith, subst}
use Rattle.std.specs.Prelude.{get_or}
use Rattle.std.proofs.lemmas.List.{get_or_append_left}
use Rattle.xen_turns.specs.declared.wiring.Wiring.{Wiring as BackWiring}
use Rattle.xen_buffers.specs.Grants.{buffer, grant_place}
use Rattle.xen_buffers.specs.declared.wiring.FrontWiring.{FrontWiring}
use Rattle.xen_netif.specs.Slots.{rx_req_of, rx_req_words}
use Rattle.xen_netif.specs.Words.{joined, low}
use Rattle.xen_page.specs.Entry.{entry_of}
use Rattle.xen_page.specs.Grant.{checked}
use Rattle.xen_page.specs.Mapping.{frame_place}
use Rattle.xen_page.specs.declared.fault.GrantFault.{GrantFault}
use Rattle.xen_page.specs.declared.entry.Rights.TheVariants.{ReadWrite}
use Rattle.xen_steps.specs.Places.{add32, available, page_word, rx_entry}
use Rattle.xen_steps.specs.Steps.{done}
use Rattle.xen_netif.specs.declared.offload.RxOffload.TheVariants.{Whole}
use Rattle.xen_rx_fill.specs.Entries.{entry, entry_at, entry_checked}
use Rattle.xen_rx_fill.specs.Transmit.{Posted, posted_second, read_targets, requested, targeted}
use Rattle.xen_rx_fill.specs.declared.target.Target.{Target}
use Rattle.honest_pair.specs.Invariant.Ghosts.{Sent, id_at, slots, Front, Back}
use Rattle.honest_pair.specs.Invariant.Inv.{Inv, IsLent, TxCounts}
use Rattle.honest_pair.specs.Invariant.Joined.{Joined}
use Rattle.honest_pair.specs.Invariant.Ends.{BackSafe, HasGiven}
use Rattle.honest_pair.specs.Machine.Memory.{Memory}
use Rattle.honest_pair.proofs.Invariant.Puts.{add_add, available_of}
use Rattle.honest_pair.proofs.Invariant.Lists.{nil_right}
use Rattle.honest_pair.proofs.Invariant.BackRings.{given_bound, got_bound}
use Rattle.honest_pair.proofs.Invariant.BackLooks.{over, safe_bind, read_known}
use Rattle.honest_pair.proofs.Invariant.BackChains.{onto}

-- a back inside a transmit, awake or asleep: u posts are read, the packet v is written into them, fl of its words and wr of its responses' words are
abbrev pub sending : (d a : List Sent) → (used : ℕ) → (g : List Sent) → List ℕ → ℕ → Bool → (u : ℕ) → (v : List Sent) → (fl wr : ℕ) → Back
sending d a used g rs e sl u v fl wr =
    record { done = d; ahead = a; used = used; given = g; rx_used = u; rx_seen = rs; wrote = 0; giving = v; filled = fl; rx_wrote = wr; event = e; asleep = sl }

-- the counts of the tx ring are as they were
pub tx_same : (w : FrontWiring) (start : ℕ) (f : Front) (d a : List Sent) (used : ℕ) (g : List Sent) (rs : List ℕ) (e : ℕ) (sl : Bool) (u : ℕ) (v : List Sent) (fl wr : ℕ) (g2 : List Sent) (rs2 : List ℕ) (u2 : ℕ) (v2 : List Sent) (fl2 wr2 : ℕ) →
    TxCounts w start f (sending d a used g rs e sl u v fl wr) → TxCounts w start f (sending d a used g2 rs2 e sl u2 v2 fl2 wr2)
tx_same w start f d a used g rs e sl u v fl wr g2 rs2 u2 v2 fl2 wr2 h =
    record { took = h.took; told = h.told; wrote = h.wrote; used = h.used; known = h.known; room = h.room; unique = h.unique; good = h.good }

-- a post that is known
pub known_post : (w : FrontWiring) (start : ℕ) (small : start < 2 ^ 32) (d a : List Sent) (used : ℕ) (g : List Sent) (e : ℕ) (sl : Bool) (rs : List ℕ) (u : ℕ) (v2 : List Sent) (fl wr : ℕ) (m : Memory) (f : Front) (n : ℕ) → n < length rs → Inv w start m f (sending d a used g rs e sl u v2 fl wr) → (id_at f.posts n ≡ id_at rs n) × (n < length f.posts)
known_post w start small d a used g e sl rs u v2 fl wr m f n p h =
    let k = h.rx.known.1 in
    let c = ap length k in
    let l = length-append rs h.rx.known.0 in
    (ap (λ x. id_at x n) k ∙ get_or_append_left rs h.rx.known.0 0 n p, omega (arith, c, l, p))

module _ (w : FrontWiring) (start : ℕ) (small : start < 2 ^ 32) (v : BackWiring) (j : Joined w v) (d a : List Sent) (used : ℕ) (g : List Sent) (e : ℕ) (sl : Bool) where
  -- u posts are read
  abbrev pub posts_read : List ℕ → ℕ → Back
  posts_read rs u = sending d a used g rs e sl u [] 0 0

  abbrev pub first : ℕ
  first = length (slots g)

  -- the producer shows the posts
  pub rx_knows : (rs : List ℕ) (m : Memory) (f : Front) → Inv w start m f (posts_read rs 0) → Inv w start m f (posts_read f.posts 0)
  rx_knows rs m f h =
      let b = given_bound w start m f (posts_read rs 0) h in
      let c = ap (λ l. length (slots l)) (nil_right g) in
      record {
        tx = tx_same w start f d a used g rs e sl 0 [] 0 0 g f.posts 0 [] 0 0 h.tx;
        tx_head = h.tx_head;
        tx_slots = h.tx_slots;
        rx = record { took = h.rx.took; told = h.rx.told; used = omega (arith, b, c); known = ([], sym (nil_right f.posts)); room = h.rx.room; unique = h.rx.unique; ids = h.rx.ids; giving = h.rx.giving; named = h.rx.named; good = h.rx.good };
        rx_head = h.rx_head;
        rx_slots = h.rx_slots;
        reading = h.reading;
        front_notes = h.front_notes;
        heard = h.heard;
        awaited = h.awaited;
      }

  pub rx_sees : (rs : List ℕ) (m : Memory) (f : Front) → Inv w start m f (posts_read rs 0) → available (add32 start first) (m.word (page_word w.rx_frame 0)) ≡ Some (length f.posts - first)
  rx_sees rs m f h =
      let b = given_bound w start m f (posts_read rs 0) h in
      let c = ap (λ l. length (slots l)) (nil_right g) in
      let o = got_bound w start m f (posts_read rs 0) h in
      let r = h.rx.room in
      ap (available (add32 start first)) h.rx_head.req_prod ∙ available_of start first (length f.posts) small (omega (arith, b, c)) (omega (arith, o, r))

  module _ (rs : List ℕ) where
    abbrev pub post : ℕ → ℕ
    post i = id_at rs (first + i)

    abbrev pub target : ℕ → Target
    target i = record { id = post i; frame = Some (buffer w.rx.now (post i)).frame }

    -- n targets from the i-th on
    abbrev pub targets : ℕ → ℕ → List Target
    targets i zero = []
    targets i (suc n) = target i ∷ targets (i + 1) n

    abbrev IsSmall : ℕ → Type 0
    IsSmall n = (i : ℕ) → i < n → post i < 256

    post_word : (m : Memory) (f : Front) (index i o : ℕ) → index ≡ add32 (add32 start first) i → first + i < length rs → o < 2 → Inv w start m f (posts_read rs i) →
        m.word (rx_entry w.rx_frame index o) ≡ get_or (rx_req_words (record { id = post i; gref = (buffer w.rx.now (post i)).gref })) o 0
    post_word m f index i o at p q h =
        let k = known_post w start small d a used g e sl rs i [] 0 0 m f (first + i) p h in
        ap (λ n. m.word (rx_entry w.rx_frame n o)) (at ∙ add_add start first i)
        ∙ h.rx_slots.requests (first + i) o (omega arith) k.1 q
        ∙ ap (λ z. get_or (rx_req_words (record { id = z; gref = (buffer w.rx.now z).gref })) o 0) k.0

    post_read : (m : Memory) (f : Front) (i : ℕ) → first + i < length rs → Inv w start m f (posts_read rs i) → Inv w start m f (posts_read rs (i + 1))
    post_read m f i p h =
        let c = h.rx.giving in
        record {
          tx = tx_same w start f d a used g rs e sl i [] 0 0 g rs (i + 1) [] 0 0 h.tx;
          tx_head = h.tx_head;
          tx_slots = h.tx_slots;
          rx = record { took = h.rx.took; told = h.rx.told; used = omega (arith, p); known = h.rx.known; room = h.rx.room; unique = h.rx.unique; ids = h.rx.ids; giving = omega (arith, c); named = h.rx.named; good = h.rx.good };
          rx_head = h.rx_head;
          rx_slots = record { requests = λ n o q. h.rx_slots.requests n o (omega (arith, q)); grants = h.rx_slots.grants; responses = h.rx_slots.responses; pages = h.rx_slots.pages };
          reading = h.reading;
          front_notes = h.front_notes;
          heard = h.heard;
          awaited = h.awaited;
        }

    post_lent : (m : Memory) (f : Front) (i u : ℕ) → first + i < length rs → Inv w start m f (posts_read rs u) → IsLent w start m.word (buffer w.rx.now (post i)) 1
    post_lent m f i u p h =
        let k = known_post w start small d a used g e sl rs u [] 0 0 m f (first + i) p h in
        subst (λ z. IsLent w start m.word (buffer w.rx.now z) 1) k.0 (h.rx_slots.grants (first + i) (omega arith) k.1)

    abbrev pub HasPosted : ℕ → Back → Posted → Type 0
    HasPosted n b o = (b ≡ posts_read rs n) × (o ≡ Ok (targets 0 n))

    abbrev Granted : ℕ → Back → Result ℕ GrantFault → Type 0
    Granted i b r = (b ≡ posts_read rs (i + 1)) × (r ≡ Ok (buffer w.rx.now (post i)).frame)

    grant_safe : (i : ℕ) → first + i < length rs → post i < 256 → BackSafe w start (HasGiven g) (Granted i) (posts_read rs (i + 1)) (entry (over w v).vif ReadWrite (buffer w.rx.now (post i)).gref)
    grant_safe i p s =
        let at = grant_place w (buffer w.rx.now (post i)) in
        let b = posts_read rs (i + 1) in
        subst (λ o. BackSafe w start (HasGiven g) (Granted i) b (entry_at (over w v).vif ReadWrite o)) (sym (j.rx_place (post i) s))
        (read_known w start (HasGiven g) (Granted i) b b at (joined 1 w.back) (entry_checked (over w v).vif ReadWrite at) refl (λ m f h. ((post_lent m f i (i + 1) p h).flags, h))
        (read_known w start (HasGiven g) (Granted i) b b (frame_place at) (buffer w.rx.now (post i)).frame
        (λ o. done (checked v.vif.owners.now v.vif.granter v.vif.user (entry_of (joined 1 w.back) o) ReadWrite)) refl (λ m f h. ((post_lent m f i (i + 1) p h).frame, h)) (refl, j.rx_grant (post i) s)))

    -- the request that stands in a slot
    request_of : (i : ℕ) → post i < 256 → rx_req_of (joined (post i) 0 ∷ (buffer w.rx.now (post i)).gref ∷ []) ≡ record { id = post i; gref = (buffer w.rx.now (post i)).gref }
    request_of i s = let q : low (joined (post i) 0) ≡ post i = omega (arith, s) in ap (λ z. record { id = z; gref = (buffer w.rx.now (post i)).gref }) q

    targets_safe : (left i n : ℕ) (acc : List Target) → length acc ≡ i → n ≡ i + left → first + n ≤ length rs → IsSmall n → acc ++ targets i left ≡ targets 0 n →
        BackSafe w start (HasGiven g) (HasPosted n) (posts_read rs i) (read_targets (over w v).vif (add32 start first) Whole left acc)
    targets_safe zero i n acc c q p s t = (ap (posts_read rs) (omega (arith, q)), ap Ok (sym (nil_right acc) ∙ t))
    targets_safe (suc left) i n acc c q p s t =
        let index = add32 (add32 start first) (length acc) in
        let at : index ≡ add32 (add32 start first) i = ap (add32 (add32 start first)) c in
        let gref = (buffer w.rx.now (post i)).gref in
        let inside : first + i < length rs = omega (arith, q, p) in
        let small_id : post i < 256 = s i (omega (arith, q)) in
        let go = read_targets (over w v).vif (add32 start first) Whole left in
        read_known w start (HasGiven g) (HasPosted n) (posts_read rs i) (posts_read rs i) (rx_entry w.rx_frame index 0) (joined (post i) 0) (posted_second (over w v).vif index (requested (over w v).vif false acc go)) refl
        (λ m f h. (post_word m f index i 0 at inside (omega arith) h, h))
        (read_known w start (HasGiven g) (HasPosted n) (posts_read rs i) (posts_read rs (i + 1)) (rx_entry w.rx_frame index 1) gref (λ o. requested (over w v).vif false acc go (rx_req_of (joined (post i) 0 ∷ o ∷ []))) refl
        (λ m f h. (post_word m f index i 1 at inside (omega arith) h, post_read m f i inside h))
        (subst (λ o. BackSafe w start (HasGiven g) (HasPosted n) (posts_read rs (i + 1)) (requested (over w v).vif false acc go o)) (sym (request_of i small_id))
        (safe_bind w start (HasGiven g) (Granted i) (HasPosted n) (posts_read rs (i + 1)) (entry (over w v).vif ReadWrite gref) (targeted acc go (post i)) (grant_safe i inside small_id)
        (λ b r h. onto (λ b2 r2. BackSafe w start (HasGiven g) (HasPosted n) b2 (targeted acc go (post i) r2)) (posts_read rs (i + 1)) b (Ok (buffer w.rx.now (post i)).frame) r h.0 h.1
        (targets_safe left (i + 1) n (acc ++ target i ∷ []) (length-append acc (target i ∷ []) ∙ omega (arith, c)) (omega (arith, q)) p s (append_assoc acc (target i ∷ []) (targets (i + 1) left) ∙ t))))))

    -- all posts that the packet needs are read, and their grants accepted
    pub posts_safe : (n : ℕ) → first + n ≤ length rs → IsSmall n → BackSafe w start (HasGiven g) (HasPosted n) (posts_read rs 0) (read_targets (over w v).vif (add32 start first) Whole n [])
    posts_safe n p s = targets_safe n 0 n [] refl (omega arith) p s refl
