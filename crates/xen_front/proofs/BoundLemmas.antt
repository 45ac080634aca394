-- Each activity keeps to the front's frames, and is short.
use Rattle.std.proofs.Common.{◌≡◌, ℕ, zero, suc, ◌+◌, ◌-◌, ◌*◌, ◌/◌, ◌<◌, ◌≤◌, Bool, true, false, List, [], ◌∷◌, ◌++◌, length, map, Contains, Option, Some, None, refl, ◌∙◌, ap, arith, subst, set, length-append}
use Rattle.std.specs.Prelude.{nat_lt}
use Rattle.std.proofs.lemmas.List.{length-set}
use Rattle.std.proofs.lemmas.List.Elements.{Contains-append_left, Contains-append_right}
use Rattle.std.proofs.lemmas.Bool.Decides.{nat_tests}
use Rattle.xen_netif.specs.Slots.{rx_rsp_of, tx_rsp_of, tx_req_words, rx_req_words}
use Rattle.xen_netif.specs.declared.fragment.Fragment.{Fragment}
use Rattle.xen_netif.specs.declared.rx.RxReq.{RxReq}
use Rattle.xen_netif.specs.declared.rx.RxRsp.{RxRsp}
use Rattle.xen_netif.specs.declared.segments.Segments.{Segments}
use Rattle.xen_netif.specs.declared.tx.TxReq.{TxReq}
use Rattle.xen_netif.specs.declared.tx.TxRsp.{TxRsp}
use Rattle.xen_page.specs.Mapping.{frame_place}
use Rattle.xen_page.specs.Table.{entry_place}
use Rattle.xen_page.specs.declared.place.Place.{Place}
use Rattle.xen_page.proofs.TableLemmas.{entry_in_table}
use Rattle.xen_ring.specs.Index.{is_due}
use Rattle.xen_steps.specs.Drive.{Any, Bounded, IsPageWant}
use Rattle.xen_steps.specs.Event.{Event, Occurs}
use Rattle.xen_steps.specs.Pages.{PageWrite, copy_words, covered, write_all}
use Rattle.xen_steps.specs.Places.{add32, fresh}
use Rattle.xen_steps.specs.Steps.{Steps, done, ask, never, Runs}
use Rattle.xen_steps.specs.declared.want.Want.{Want}
use Rattle.xen_steps.specs.declared.want.Want.TheVariants as want
use Rattle.xen_steps.proofs.DriveLemmas.{bounded_le, bounded_bind}
use Rattle.xen_front.specs.Bound.{AreOwn, HasFlags, IsOwnEvent, IsOwnPlace, IsOwnWant}
use Rattle.xen_front.specs.Given.{Ending}
use Rattle.xen_front.specs.Slots.{buffer, extra_taken, fault_of, gave, grant_place, grant_writes, in_flight, outstanding, page_writes, part_of, passes_page, piece_request, piece_words, piece_writes, place_or, post_writes, posted_at, rx_writes, send_writes, slot_writes, filling, took, tx_writes}
use Rattle.xen_front.specs.Tree.{Expected, Slot, Extra, Gathered, after_rx_look, after_tx_look, chained, checked, continues, extra_checked, flown, flown_post, grown, judged, look, next_entry, notice, nothing_gathered, poll, poll_rx, post, publish, receive, seen, segmented, send, take_all}
use Rattle.xen_buffers.specs.Wired.{AreInTable, IsWired, frame_of, frames_of}
use Rattle.xen_front.specs.declared.state.Ring.{Ring}
use Rattle.xen_front.specs.declared.state.FrontState.{FrontState}
use Rattle.xen_front.specs.declared.turn.FrontHalt.{FrontHalt}
use Rattle.xen_buffers.specs.declared.wiring.GrantedPage.{GrantedPage}
use Rattle.xen_buffers.specs.declared.wiring.FrontWiring.{FrontWiring}
use Rattle.xen_front.proofs.IdLemmas.{AreIds, count, count-cleared, count-le-length, flag_inside}
use Rattle.xen_front.proofs.RestLemmas.{IsSound, sound}
use Rattle.xen_front.proofs.ChainCosts.{buffer_in, cost, cost_next, covered-le, extra_cost, extra_flies, goes_few, piece_words-le, room, room_gone}

module _ (w : FrontWiring) (h : IsWired w) where
  abbrev within : Want → Type 0
  within = IsOwnWant w

  abbrev Owned : ℕ → Type 0
  Owned frame = Contains (frames_of w) frame

  tx_owned : Owned w.tx_frame
  tx_owned = (0, omega arith, refl)

  rx_owned : Owned w.rx_frame
  rx_owned = (1, omega arith, refl)

  behind : (xs : List ℕ) (frame : ℕ) → Contains xs frame → Contains (w.tx_frame ∷ w.rx_frame ∷ xs) frame
  behind xs frame c = (suc (suc c.0), omega (arith, c.1), c.2)

  table_owned : (frame : ℕ) → Contains w.table.now frame → Owned frame
  table_owned frame c = behind (w.table.now ++ (map frame_of w.tx.now ++ map frame_of w.rx.now)) frame (Contains-append_left w.table.now (map frame_of w.tx.now ++ map frame_of w.rx.now) frame c)

  tx_buffer_owned : (id : ℕ) → id < 256 → Owned (buffer w.tx.now id).frame
  tx_buffer_owned id lt =
      let b = (buffer w.tx.now id).frame in
      behind (w.table.now ++ (map frame_of w.tx.now ++ map frame_of w.rx.now)) b
      (Contains-append_right w.table.now (map frame_of w.tx.now ++ map frame_of w.rx.now) b
      (Contains-append_left (map frame_of w.tx.now) (map frame_of w.rx.now) b (buffer_in w.tx.now id (omega (arith, lt, h.tx_count)))))

  rx_buffer_owned : (id : ℕ) → id < 256 → Owned (buffer w.rx.now id).frame
  rx_buffer_owned id lt =
      let b = (buffer w.rx.now id).frame in
      behind (w.table.now ++ (map frame_of w.tx.now ++ map frame_of w.rx.now)) b
      (Contains-append_right w.table.now (map frame_of w.tx.now ++ map frame_of w.rx.now) b
      (Contains-append_right (map frame_of w.tx.now) (map frame_of w.rx.now) b (buffer_in w.rx.now id (omega (arith, lt, h.rx_count)))))

  -- both words of a grant in the table
  pub record IsOwnGrant (at : Place) : Type 0 where
    pub flags : IsOwnPlace w at
    pub frame : IsOwnPlace w (frame_place at)

  place_owned : (gref : ℕ) (o : Option Place) → entry_place w.table.now gref ≡ o → (o ≡ None → ⊥) → IsOwnGrant (place_or o)
  place_owned gref None e none = absurd (none refl)
  place_owned gref (Some at) e none =
      let i = entry_in_table w.table.now gref at e in
      record { flags = (table_owned at.frame i.1, omega (arith, i.0)); frame = (table_owned at.frame i.1, i.0) }

  grant_owned : (buffers : List GrantedPage) (id : ℕ) → AreInTable w.table.now buffers → id < length buffers → IsOwnGrant (grant_place w (buffer buffers id))
  grant_owned buffers id granted lt =
      let b = buffer buffers id in
      place_owned b.gref (entry_place w.table.now b.gref) refl (granted id (record { gref = 0; frame = 0 }) lt)

  tx_grant_owned : (id : ℕ) → id < 256 → IsOwnGrant (grant_place w (buffer w.tx.now id))
  tx_grant_owned id lt = grant_owned w.tx.now id h.tx_granted (omega (arith, lt, h.tx_count))

  rx_grant_owned : (id : ℕ) → id < 256 → IsOwnGrant (grant_place w (buffer w.rx.now id))
  rx_grant_owned id lt = grant_owned w.rx.now id h.rx_granted (omega (arith, lt, h.rx_count))

  -- writes to the front's own words
  abbrev AreOwnWrites : List PageWrite → Type 0
  AreOwnWrites [] = Unit {0}
  AreOwnWrites (n ∷ ns) = IsOwnPlace w n.at × AreOwnWrites ns

  both : (ms ns : List PageWrite) → AreOwnWrites ms → AreOwnWrites ns → AreOwnWrites (ms ++ ns)
  both [] ns a b = b
  both (m ∷ ms) ns a b = (a.0, both ms ns a.1 b)

  bounded_writes : (ns : List PageWrite) (rest : Steps Ending) (n : ℕ) → AreOwnWrites ns → Bounded within Any rest n → Bounded within Any (write_all ns rest) (length ns + n)
  bounded_writes [] rest n a b = bounded_le within Any rest n (0 + n) b (omega arith)
  bounded_writes (m ∷ ms) rest n a b = (
    omega arith,
    a.0,
    λ v. bounded_le within Any (write_all ms rest) (length ms + n) (length (m ∷ ms) + n - 1) (bounded_writes ms rest n a.1 b) (omega arith),
  )

  grant_writes_own : (b : GrantedPage) (value : ℕ) → IsOwnGrant (grant_place w b) → AreOwnWrites (grant_writes w b value)
  grant_writes_own b value g = (g.frame, (g.flags, tt))

  page_writes_own : (p : List ℕ) (frame k left j : ℕ) → Owned frame → j + left ≤ 1024 → AreOwnWrites (page_writes p frame k left j)
  page_writes_own p frame k zero j o l = tt
  page_writes_own p frame k (suc left) j o l = ((o, omega (arith, l)), page_writes_own p frame k left (j + 1) o (omega (arith, l)))

  length-page_writes : (p : List ℕ) (frame k left j : ℕ) → length (page_writes p frame k left j) ≡ left
  length-page_writes p frame k zero j = refl
  length-page_writes p frame k (suc left) j = ap suc (length-page_writes p frame k left (j + 1))

  slot_own : (i : ℕ) (r : TxReq) → AreOwnWrites (tx_writes w.tx_frame i 0 (tx_req_words r))
  slot_own i r = ((tx_owned, omega arith), ((tx_owned, omega arith), ((tx_owned, omega arith), tt)))

  rx_slot_own : (i : ℕ) (r : RxReq) → AreOwnWrites (rx_writes w.rx_frame i 0 (rx_req_words r))
  rx_slot_own i r = ((rx_owned, omega arith), ((rx_owned, omega arith), tt))

  piece_own : (i : ℕ) (p : List ℕ) (n k id : ℕ) → id < 256 → AreOwnWrites (piece_writes w i p n k id)
  piece_own i p n k id lt =
      let b = buffer w.tx.now id in
      let r = piece_request w p n k id in
      both (grant_writes w b 5) (filling w i p n k id (piece_words (length p) k) 0) (grant_writes_own b 5 (tx_grant_owned id lt))
      (both (page_writes p b.frame k (piece_words (length p) k) 0) (slot_writes w i p n k id)
      (page_writes_own p b.frame k (piece_words (length p) k) 0 (tx_buffer_owned id lt) (omega (arith, piece_words-le (length p) k)))
      (slot_own (add32 i k) r))

  length-piece_writes : (i : ℕ) (p : List ℕ) (n k id : ℕ) → length (piece_writes w i p n k id) ≤ 1029
  length-piece_writes i p n k id =
      let b = buffer w.tx.now id in
      omega (
        arith,
        length-append (grant_writes w b 5) (filling w i p n k id (piece_words (length p) k) 0),
        length-append (page_writes p b.frame k (piece_words (length p) k) 0) (slot_writes w i p n k id),
        length-page_writes p b.frame k (piece_words (length p) k) 0,
        piece_words-le (length p) k,
      )

  send_own : (i : ℕ) (p : List ℕ) (n k : ℕ) (ids : List ℕ) → AreIds ids → AreOwnWrites (send_writes w i p n k ids)
  send_own i p n k [] a = tt
  send_own i p n k (id ∷ ids) a = both (piece_writes w i p n k id) (send_writes w i p n (k + 1) ids) (piece_own i p n k id a.0) (send_own i p n (k + 1) ids a.1)

  length-send_writes : (i : ℕ) (p : List ℕ) (n k : ℕ) (ids : List ℕ) → length (send_writes w i p n k ids) ≤ 1029 * length ids
  length-send_writes i p n k [] = omega arith
  length-send_writes i p n k (id ∷ ids) =
      omega (arith, length-append (piece_writes w i p n k id) (send_writes w i p n (k + 1) ids), length-piece_writes i p n k id, length-send_writes i p n (k + 1) ids)

  bounded_notice : (due : Bool) (s : FrontState) → Bounded within Any (notice w due s) 1
  bounded_notice false s = tt
  bounded_notice true s = (omega arith, refl, λ a. tt)

  bounded_publish : (frame old new : ℕ) (s : FrontState) → Owned frame → Bounded within Any (publish w frame old new s) 3
  bounded_publish frame old new s o = (omega arith, (o, omega arith), λ a. (omega arith, (o, omega arith), λ e. bounded_notice (is_due old new e) s))

  pub bounded_send : (s : FrontState) (p ids : List ℕ) → length ids ≤ 16 → AreIds ids → Bounded within Any (send w s p ids) 16467
  bounded_send s p ids few a =
      let ns = send_writes w s.tx.prod p (length ids) 0 ids in
      let new : FrontState = record s { tx = flown s.tx ids } in
      let rest = publish w w.tx_frame s.tx.prod (add32 s.tx.prod (length ids)) new in
      bounded_le within Any (write_all ns rest) (length ns + 3) 16467
      (bounded_writes ns rest 3 (send_own s.tx.prod p (length ids) 0 ids a) (bounded_publish w.tx_frame s.tx.prod (add32 s.tx.prod (length ids)) new tx_owned))
      (omega (arith, few, length-send_writes s.tx.prod p (length ids) 0 ids))

  pub bounded_post : (s : FrontState) (id : ℕ) → id < 256 → Bounded within Any (post w s id) 7
  bounded_post s id lt =
      let b = buffer w.rx.now id in
      let new : FrontState = flown_post s id in
      bounded_writes (post_writes w s.rx.prod id) (publish w w.rx_frame s.rx.prod (add32 s.rx.prod 1) new) 3
      (both (grant_writes w b 1) (rx_writes w.rx_frame s.rx.prod 0 (rx_req_words (record { id = id; gref = b.gref }))) (grant_writes_own b 1 (rx_grant_owned id lt)) (rx_slot_own s.rx.prod (record { id = id; gref = b.gref })))
      (bounded_publish w.rx_frame s.rx.prod (add32 s.rx.prod 1) new rx_owned)

  bounded_look : (frame : ℕ) (r : Ring) → Owned frame → Bounded within Any (look frame r) 3
  bounded_look frame r o = (omega arith, (o, omega arith), λ p. bounded_seen (fresh r.cons (outstanding r) p))
    where
      bounded_seen : (shown : Option ℕ) → Bounded within Any (seen frame r shown) 2
      bounded_seen None = tt
      bounded_seen (Some zero) = (omega arith, (o, omega arith), λ a. (omega arith, (o, omega arith), λ p. tt))
      bounded_seen (Some (suc n)) = tt

  bounded_copy : (f : Fragment) (frame place n : ℕ) (bytes : List ℕ) → Owned frame → (0 < n → place + n ≤ 1024) → Bounded within Any (copy_words f frame place n bytes) n
  bounded_copy f frame place zero bytes o l = tt
  bounded_copy f frame place (suc n) bytes o l =
      let here : place + suc n ≤ 1024 = l (omega arith) in (
        omega arith,
        (o, omega (arith, here)),
        λ v. bounded_le within Any _ n (suc n - 1) (bounded_copy f frame (place + 1) n _ o (λ m. omega (arith, here))) (omega arith),
      )

  keeps_flags : (s : FrontState) (id : ℕ) → HasFlags s → HasFlags (gave s id)
  keeps_flags s id f = record { tx = f.tx; rx = length-set s.rx.out id false ∙ f.rx }

  -- what follows a slot of a chain
  abbrev GoesOn : (FrontState → Gathered → Steps Ending) → Type 0
  GoesOn rest = (s : FrontState) (g : Gathered) → HasFlags s → g.slots ≤ 15 → ((more : Bool) → g.next ≡ Extra more → 1 ≤ g.slots) → Bounded within Any (rest s g) (cost g)

  bounded_chained : (rest : FrontState → Gathered → Steps Ending) → GoesOn rest → (s : FrontState) (g : Gathered) → HasFlags s → (r : RxRsp) (bytes : List ℕ) (more : Bool) → (more ≡ true → g.slots ≤ 14) → (r.flags.extra_info ≡ true → g.slots ≡ 0) →
      Bounded within Any (chained more (gave s r.id) (grown g r bytes) rest) (1027 * (15 - g.slots) + room g.slots)
  bounded_chained rest go s g f r bytes false l x = tt
  bounded_chained rest go s g f r bytes true l x =
      let lt : g.slots ≤ 14 = l refl in
      let more = cost_next r.flags g.slots x in
      bounded_le within Any (rest (gave s r.id) (grown g r bytes)) (cost (grown g r bytes)) (1027 * (15 - g.slots) + room g.slots)
      (go (gave s r.id) (grown g r bytes) (keeps_flags s r.id f) (omega (arith, lt)) (λ m e. omega arith)) (omega (arith, more))

  part_fits : (b : GrantedPage) (r : RxRsp) (slots : ℕ) → slots ≤ 15 → passes_page r.offset r.status ≡ false → covered (part_of b r) + (1027 * (15 - slots) + room slots) ≤ 1027 * (16 - slots) + room slots - 1 - 1 - 1
  part_fits b r slots few ok = by (nat_lt 0 (covered (part_of b r))) refl
    where
      by : (some : Bool) → nat_lt 0 (covered (part_of b r)) ≡ some → covered (part_of b r) + (1027 * (15 - slots) + room slots) ≤ 1027 * (16 - slots) + room slots - 1 - 1 - 1
      by true t =
          let some : 0 < covered (part_of b r) = grind (arith, nat_tests) in
          let l = covered-le b r ok some in
          omega (arith, l, few)
      by false t = let none : covered (part_of b r) ≡ 0 = grind (arith, nat_tests) in omega (arith, none, few)

  bounded_checked : (rest : FrontState → Gathered → Steps Ending) → GoesOn rest → (s : FrontState) (g : Gathered) → HasFlags s → g.slots ≤ 15 → (r : RxRsp) (o : Option FrontHalt) → fault_of s.accepts s.rx g.slots (length g.bytes) r ≡ o →
      Bounded within Any (checked w s g r o rest) (1027 * (16 - g.slots) + room g.slots - 1 - 1)
  bounded_checked rest go s g f few r (Some cause) e = tt
  bounded_checked rest go s g f few r None e =
      let ok : IsSound s.accepts s.rx g.slots (length g.bytes) r = sound s.accepts s.rx g.slots (length g.bytes) r e in
      let id : r.id < 256 = omega (arith, flag_inside s.rx.out r.id ok.known, f.rx) in
      let b = buffer w.rx.now r.id in
      let part = part_of b r in
      let words = covered part in (
        omega (arith, few),
        (rx_grant_owned r.id id).flags,
        λ v. bounded_bind within Any Any (copy_words part b.frame (r.offset / 4) words g.bytes) (λ bytes. chained (continues r.flags) (gave s r.id) (grown g r bytes) rest) words (1027 * (15 - g.slots) + room g.slots) (1027 * (16 - g.slots) + room g.slots - 1 - 1 - 1)
            (bounded_copy part b.frame (r.offset / 4) words g.bytes (rx_buffer_owned r.id id) (covered-le b r ok.inside))
            (λ bytes t. bounded_chained rest go s g f r bytes (continues r.flags) (goes_few r.flags.extra_info r.flags.more_data g.slots (λ m. ok.few m few) ok.extra) ok.extra)
            (part_fits b r g.slots few ok.inside),
      )

  bounded_extra : (rest : FrontState → Gathered → Steps Ending) → GoesOn rest → (s : FrontState) (g : Gathered) → HasFlags s → g.slots ≤ 15 → 1 ≤ g.slots → (more : Bool) (a b : ℕ) (o : Option Segments) → extra_taken s a b ≡ o →
      Bounded within Any (extra_checked w more s g o rest) (1027 * (16 - g.slots) + 3 - 1 - 1)
  bounded_extra rest go s g f few some more a b None e = tt
  bounded_extra rest go s g f few some more a b (Some x) e =
      let id : posted_at s < 256 = omega (arith, flag_inside s.rx.out (posted_at s) (extra_flies s a b x e), f.rx) in (omega (arith, few), (rx_grant_owned (posted_at s) id).flags, λ v. by more)
    where
      by : (m : Bool) → Bounded within Any (chained m (gave s (posted_at s)) (segmented g x) rest) (1027 * (16 - g.slots) + 3 - 1 - 1 - 1)
      by false = tt
      by true =
          let none = room_gone g.slots some in
          bounded_le within Any (rest (gave s (posted_at s)) (segmented g x)) (cost (segmented g x)) (1027 * (16 - g.slots) + 3 - 1 - 1 - 1)
          (go (gave s (posted_at s)) (segmented g x) (keeps_flags s (posted_at s) f) few (λ m q. let z : Slot ≡ Extra m = q in absurd (cc))) (omega (arith, none))

  bounded_entry : (left : ℕ) → GoesOn (receive w left) → (s : FrontState) (g : Gathered) → HasFlags s → g.slots ≤ 15 → (x : Expected) → ((more : Bool) → x ≡ Extra more → 1 ≤ g.slots) →
      Bounded within Any (next_entry w x s g (receive w left)) (1027 * (16 - g.slots) + extra_cost x g.slots)
  bounded_entry left go s g f few Slot l = (
    omega (arith, few),
    (rx_owned, omega arith),
    λ a. (
      omega (arith, few),
      (rx_owned, omega arith),
      λ b. bounded_checked (receive w left) go s g f few (rx_rsp_of (a ∷ b ∷ [])) (fault_of s.accepts s.rx g.slots (length g.bytes) (rx_rsp_of (a ∷ b ∷ []))) refl,
    ),
  )
  bounded_entry left go s g f few (Extra more) l = (
    omega (arith, few),
    (rx_owned, omega arith),
    λ a. (omega (arith, few), (rx_owned, omega arith), λ b. bounded_extra (receive w left) go s g f few (l more refl) more a b (extra_taken s a b) refl),
  )

  bounded_receive : (left : ℕ) → GoesOn (receive w left)
  bounded_receive zero s g f few l = tt
  bounded_receive (suc left) s g f few l = bounded_entry left (bounded_receive left) s g f few g.next l

  bounded_poll_rx : (s : FrontState) → HasFlags s → Bounded within Any (poll_rx w s) 16438
  bounded_poll_rx s f = bounded_bind within Any Any (look w.rx_frame s.rx) (after_rx_look w s) 3 16435 16438 (bounded_look w.rx_frame s.rx rx_owned) (λ o t. by o) (omega arith)
    where
      by : (o : Option ℕ) → Bounded within Any (after_rx_look w s o) 16435
      by None = tt
      by (Some zero) = tt
      by (Some (suc n)) = bounded_receive (suc n) s nothing_gathered f (omega arith) (λ m q. let z : Slot ≡ Extra m = q in absurd (cc))

  bounded_judged : (rest : Steps Ending) (s : FrontState) (r : TxRsp) (known : Bool) → HasFlags s → in_flight s.tx r.id ≡ known →
      (HasFlags (took s r) → Bounded within Any rest (2 * count (set s.tx.out r.id false) + 16439)) → Bounded within Any (judged w s r known rest) (2 * count s.tx.out + 16439 - 1)
  bounded_judged rest s r false f e go = tt
  bounded_judged rest s r true f e go =
      let id : r.id < 256 = omega (arith, flag_inside s.tx.out r.id e, f.tx) in
      let less = count-cleared s.tx.out r.id e in
      let keeps : HasFlags (took s r) = record { tx = length-set s.tx.out r.id false ∙ f.tx; rx = f.rx } in (
        omega (arith, less),
        (tx_grant_owned r.id id).flags,
        λ v. bounded_le within Any rest (2 * count (set s.tx.out r.id false) + 16439) (2 * count s.tx.out + 16439 - 1 - 1) (go keeps) (omega (arith, less)),
      )

  bounded_take : (n : ℕ) (s : FrontState) → HasFlags s → Bounded within Any (take_all w n s) (2 * count s.tx.out + 16439)
  bounded_take zero s f = bounded_le within Any (poll_rx w s) 16438 (2 * count s.tx.out + 16439) (bounded_poll_rx s f) (omega arith)
  bounded_take (suc n) s f = (
    omega arith,
    (tx_owned, omega arith),
    λ a. let r = tx_rsp_of (a ∷ []) in bounded_judged (take_all w n (took s r)) s r (in_flight s.tx r.id) f refl (bounded_take n (took s r)),
  )

  pub bounded_poll : (s : FrontState) → HasFlags s → Bounded within Any (poll w s) 16954
  bounded_poll s f = bounded_bind within Any Any (look w.tx_frame s.tx) (after_tx_look w s) 3 16951 16954 (bounded_look w.tx_frame s.tx tx_owned) (λ o t. by o) (omega arith)
    where
      by : (o : Option ℕ) → Bounded within Any (after_tx_look w s o) 16951
      by None = tt
      by (Some n) = bounded_le within Any (take_all w n s) (2 * count s.tx.out + 16439) 16951 (bounded_take n s f) (omega (arith, count-le-length s.tx.out, f.tx))

on_bus : (w : FrontWiring) → IsWired w → (frame : ℕ) → Contains (frames_of w) frame → frame < w.frames
on_bus w h frame c = subst (λ f. f < w.frames) c.2 (h.on_bus c.0 frame c.1)

own_event : (w : FrontWiring) (v : Want) (a : ℕ) (e : Event) → IsOwnWant w v → Occurs v a e → IsOwnEvent w e
own_event w (want.Read at) a e o h = rw h.1 o
own_event w (want.Write at v) a e o h = rw h.1 o
own_event w want.Instr a e o h = absurd o
own_event w (want.Load m k j) a e o h = absurd o
own_event w (want.Add m k j d) a e o h = absurd o
own_event w (want.Notify p) a e o h = rw h.1 o
own_event w want.Done a e o h = absurd o

-- a run within such a bound keeps to the front's words
pub own_runs : (w : FrontWiring) (s : Steps Ending) (n : ℕ) (t : List Event) (r : Ending) → Bounded (IsOwnWant w) Any s n → Runs s t r → AreOwn w t
own_runs w (done x) n [] r b h = tt
own_runs w (done x) n (e ∷ t) r b h = absurd h
own_runs w never n t r b h = absurd h
own_runs w (ask v k) n [] r b h = absurd h
own_runs w (ask v k) n (e ∷ t) r b h = (own_event w v h.0 e b.1 h.1, own_runs w (k h.0) (n - 1) t r (b.2 h.0) h.2)

-- a front's want is one of a word on the bus, or a notice
pub page_want : (w : FrontWiring) → IsWired w → (v : Want) → IsOwnWant w v → IsPageWant w.frames v
page_want w h (want.Read at) o = (on_bus w h at.frame o.0, o.1)
page_want w h (want.Write at v) o = (on_bus w h at.frame o.0, o.1)
page_want w h want.Instr o = absurd o
page_want w h (want.Load m k j) o = absurd o
page_want w h (want.Add m k j d) o = absurd o
page_want w h (want.Notify p) o = tt
page_want w h want.Done o = absurd o
