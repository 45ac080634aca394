-- The events of receiving a packet.
use Rattle.std.proofs.Common.{◌≡◌, ℕ, zero, suc, ◌+◌, ◌*◌, ◌<◌, ◌≤◌, inl, false, List, [], ◌++◌, length, refl, sym, ◌∙◌, ap, arith, subst, Option, Some, None, append_assoc}
use Rattle.std.proofs.Math.ListN.{get_or-append}
use Rattle.xen_buffers.specs.Grants.{buffer, grant_place}
use Rattle.xen_buffers.specs.declared.wiring.FrontWiring.{FrontWiring}
use Rattle.xen_front.specs.Slots.{ended}
use Rattle.xen_netif.specs.Copy.{bytes_in}
use Rattle.xen_netif.specs.declared.fragment.Fragment.{Fragment}
use Rattle.xen_steps.specs.Pages.{copy_words}
use Rattle.xen_steps.specs.Places.{page_word}
use Rattle.xen_steps.specs.declared.want.Want.TheVariants as want
use Rattle.xen_rx_fill.specs.Packets.{word_of, words}
use Rattle.honest_pair.specs.Invariant.Ghosts.{Sent, Piece, Front, Back, rx_given, slots, piece, id_at}
use Rattle.honest_pair.specs.Invariant.Inv.{rx_at, rx_buffer, rx_word_of, Reading, TxCounts, Inv}
use Rattle.honest_pair.specs.Machine.Memory.{Memory, after}
use Rattle.honest_pair.specs.Machine.Safe.{Safe}
use Rattle.honest_pair.proofs.Invariant.FrontGroups.{rx_span}
use Rattle.honest_pair.proofs.Invariant.Lists.{nil_right, slots_append, slots_count}
use Rattle.honest_pair.specs.Invariant.Numbers.{Numbers}
use Rattle.honest_pair.proofs.Invariant.FrontOwns.{rx_lent, rx_event}
use Rattle.honest_pair.proofs.Invariant.FrontWrites.{write_own}

-- a front that receives: c rx responses are taken, of the packets that are known to be given
abbrev pub rxing : Front → ℕ → List Sent → Option Piece → List (List ℕ) → Front
rxing f c t rd rcv = record f { unsent = []; notes = []; window = None; posting = false; reading = rd; got = c; rx_told = t; received = rcv }

some_piece : {a b : Piece} → Some a ≡ Some b → a ≡ b
some_piece {a = a} {b = b} e = cc

module _ (w : FrontWiring) (laid : Numbers w) (start : ℕ) (f : Front) where
  -- the counts of the tx ring are as they were
  tx_as : (c c' : ℕ) (t t' : List Sent) (rd rd' : Option Piece) (rcv rcv' : List (List ℕ)) (b : Back) → TxCounts w start (rxing f c t rd rcv) b → TxCounts w start (rxing f c' t' rd' rcv') b
  tx_as c c' t t' rd rd' rcv rcv' b h = record { took = h.took; told = h.told; wrote = h.wrote; used = h.used; known = h.known; room = h.room; unique = h.unique; good = h.good }

  pub rx_tells : (c : ℕ) (t : List Sent) (rcv : List (List ℕ)) (m : Memory) (b : Back) → Inv w start m (rxing f c t None rcv) b → Inv w start m (rxing f c b.given None rcv) b
  rx_tells c t rcv m b h =
      let s = rx_span w start (rxing f c t None rcv) b.given b.giving b.rx_used b.rx_seen h.rx in
      record {
        tx = tx_as c c t b.given None None rcv rcv b h.tx;
        tx_head = h.tx_head;
        tx_slots = h.tx_slots;
        rx = record { took = s.low; told = ([], sym (nil_right b.given)); used = h.rx.used; known = h.rx.known; room = h.rx.room; unique = h.rx.unique; ids = h.rx.ids; giving = h.rx.giving; named = h.rx.named; good = h.rx.good };
        rx_head = h.rx_head;
        rx_slots = h.rx_slots;
        reading = (λ s e. absurd (cc));
        front_notes = tt;
        heard = h.heard;
        awaited = h.awaited;
      }

  pub rx_asks_more : (c v : ℕ) (t : List Sent) (rcv : List (List ℕ)) (m : Memory) (b : Back) → Inv w start m (rxing f c t None rcv) b → Inv w start (after (want.Write (page_word w.rx_frame 3) v) m) (rxing f c t None rcv) b
  rx_asks_more c v t rcv m b h = write_own w start laid (rxing f c t None rcv) b m (page_word w.rx_frame 3) v (rx_event refl laid.rx_ring) tt h

  module _ (c : ℕ) (t : List Sent) (rd : Option Piece) (rcv : List (List ℕ)) (m : Memory) (b : Back) (h : Inv w start m (rxing f c t rd rcv) b) where
    pub known_piece : (n : ℕ) → n < length (slots t) → piece (slots (b.given ++ b.giving)) n ≡ piece (slots t) n
    known_piece n p =
        let e : slots (b.given ++ b.giving) ≡ slots t ++ slots (h.rx.told.0 ++ b.giving) =
        ap (λ l. slots (l ++ b.giving)) h.rx.told.1 ∙ ap slots (append_assoc t h.rx.told.0 b.giving) ∙ slots_append t (h.rx.told.0 ++ b.giving) in
        ap (λ l. piece l n) e ∙ get_or-append (slots t) (slots (h.rx.told.0 ++ b.giving)) (record { bytes = []; n = 0; k = 0; id = 0 }) n p

    pub is_given : (n : ℕ) → n < length (slots t) → n < rx_given b
    is_given n p = let e = ap (λ l. length (slots l)) h.rx.told.1 in let g = slots_count t h.rx.told.0 in omega arith

    pub is_made : (n : ℕ) → n < length (slots t) → n < length (slots (b.given ++ b.giving))
    is_made n p = let q = is_given n p in let g = slots_count b.given b.giving in omega arith

    pub is_posted : (n : ℕ) → n < length (slots t) → n < length f.posts
    is_posted n p = let q = is_made n p in let s = rx_span w start (rxing f c t rd rcv) b.given b.giving b.rx_used b.rx_seen h.rx in let high = s.high in omega arith

    -- the words of a response
    pub rx_word : (n j : ℕ) → c ≤ n → n < length (slots t) → j < 2 → m.word (rx_at w start n j) ≡ rx_word_of w start (piece (slots t) n) j
    rx_word n j p q r =
        let g = is_given n q in
        h.rx_slots.responses n j p (is_made n q) r (omega arith) ∙ ap (λ x. rx_word_of w start x j) (known_piece n q)

    pub rx_named : (n : ℕ) → n < length (slots t) → (piece (slots t) n).id ≡ id_at f.posts n
    rx_named n p = ap (λ x. x.id) (sym (known_piece n p)) ∙ h.rx.named n (is_made n p)

    pub rx_small : (n : ℕ) → n < length (slots t) → (piece (slots t) n).id < 256
    rx_small n p = rw (rx_named n p) (h.rx.ids n (is_posted n p))

    -- the response at c is taken
    pub rx_takes : c < length (slots t) → Inv w start m (rxing f (c + 1) t (Some (piece (slots t) c)) rcv) b
    rx_takes p =
        let room = h.rx.room in
        let pc = piece (slots t) c in
        let mine : Reading w start m.word (rxing f (c + 1) t (Some pc) rcv) pc = record {
          id = rx_small c p;
          page = (λ j a d. let e = known_piece c p in
              subst (λ x. m.word (page_word (rx_buffer w start x.id).frame j) ≡ word_of x.bytes (1024 * x.k + j)) e
              (h.rx_slots.pages c j (omega arith) (is_made c p) a (subst (λ x. 1024 * x.k + j < words x.bytes) (sym e) d) (inl (is_given c p))));
          apart = (λ n a d e. h.rx.unique c n (omega arith) (omega arith) d (sym (rx_named c p) ∙ sym e));
        } in
        record {
          tx = tx_as c (c + 1) t t rd (Some pc) rcv rcv b h.tx;
          tx_head = h.tx_head;
          tx_slots = h.tx_slots;
          rx = record { took = omega arith; told = h.rx.told; used = h.rx.used; known = h.rx.known; room = omega arith; unique = (λ i j a. h.rx.unique i j (omega arith)); ids = h.rx.ids; giving = h.rx.giving; named = h.rx.named; good = h.rx.good };
          rx_head = h.rx_head;
          rx_slots = record { requests = h.rx_slots.requests; grants = h.rx_slots.grants; responses = (λ n j a. h.rx_slots.responses n j (omega arith)); pages = (λ n j a. h.rx_slots.pages n j (omega arith)) };
          reading = (λ s e. subst (Reading w start m.word (rxing f (c + 1) t (Some pc) rcv)) (some_piece e) mine);
          front_notes = tt;
          heard = h.heard;
          awaited = h.awaited;
        }

    -- and its grant ended
    pub rx_ends : (id : ℕ) → c < length (slots t) → id ≡ (piece (slots t) c).id →
        Inv w start (after (want.Write (ended w (buffer w.rx.now id)).at 0) m) (rxing f (c + 1) t (Some (piece (slots t) c)) rcv) b
    rx_ends id p e =
        let less : id < 256 = rw e (rx_small c p) in
        let word = laid.rx_word id less in
        write_own w start laid (rxing f (c + 1) t (Some (piece (slots t) c)) rcv) b m (grant_place w (buffer w.rx.now id)) 0
        (rx_lent id 0 less (λ n a d i. h.rx.unique c n (omega arith) (omega arith) d (sym (rx_named c p) ∙ sym e ∙ sym i)) (omega arith) (laid.rx_frame id less) (omega arith))
        tt (rx_takes p)

    -- a word of its page, and the end of reading
    pub rx_page : (pc : Piece) → rd ≡ Some pc → (j : ℕ) → j < 1024 → 1024 * pc.k + j < words pc.bytes → m.word (page_word (rx_buffer w start pc.id).frame j) ≡ word_of pc.bytes (1024 * pc.k + j)
    rx_page pc e j p q = (h.reading pc e).page j p q

    pub rx_read : (rcv' : List (List ℕ)) → Inv w start m (rxing f c t None rcv') b
    rx_read rcv' = record {
      tx = tx_as c c t t rd None rcv rcv' b h.tx;
      tx_head = h.tx_head;
      tx_slots = h.tx_slots;
      rx = record { took = h.rx.took; told = h.rx.told; used = h.rx.used; known = h.rx.known; room = h.rx.room; unique = h.rx.unique; ids = h.rx.ids; giving = h.rx.giving; named = h.rx.named; good = h.rx.good };
      rx_head = h.rx_head;
      rx_slots = h.rx_slots;
      reading = (λ s e. absurd (cc));
      front_notes = tt;
      heard = h.heard;
      awaited = h.awaited;
    }

-- the bytes that n words of a packet's k-th page add, from the j-th on
abbrev pub gathered : Fragment → List ℕ → (k j n : ℕ) → List ℕ → List ℕ
gathered fr p k j zero acc = acc
gathered fr p k j (suc n) acc = gathered fr p k (j + 1) n (acc ++ bytes_in fr j (word_of p (1024 * k + j)))

module _ (w : FrontWiring) (laid : Numbers w) (start : ℕ) (K : Front → Type 0) (f : Front) (c : ℕ) (t : List Sent) (pc : Piece) (rcv : List (List ℕ)) (after_all : Front) (fr : Fragment) (frame : ℕ) where
  -- the words of a page that is read; with the last of them the front is another
  pub copy_safe : K (rxing f c t (Some pc) rcv) → K after_all → frame ≡ (rx_buffer w start pc.id).frame → ((m : Memory) (b : Back) → Inv w start m (rxing f c t (Some pc) rcv) b → Inv w start m after_all b) →
      (n j : ℕ) (acc : List ℕ) → j + suc n ≤ 1024 → 1024 * pc.k + (j + suc n) ≤ words pc.bytes →
      Safe (Inv w start) K (λ g x. (g ≡ after_all) × (x ≡ gathered fr pc.bytes pc.k j (suc n) acc)) (rxing f c t (Some pc) rcv) (copy_words fr frame j (suc n) acc)
  copy_safe k l e last zero j acc p q = λ m b h.
      let v : m.word (page_word frame j) ≡ word_of pc.bytes (1024 * pc.k + j) = ap (λ x. m.word (page_word x j)) e ∙ rx_page w laid start f c t (Some pc) rcv m b h pc refl j (omega arith) (omega arith) in
      (after_all, last m b h, l, λ a o. (refl, ap (λ x. acc ++ bytes_in fr j x) v))
  copy_safe k l e last (suc n) j acc p q = λ m b h.
      let v : m.word (page_word frame j) ≡ word_of pc.bytes (1024 * pc.k + j) = ap (λ x. m.word (page_word x j)) e ∙ rx_page w laid start f c t (Some pc) rcv m b h pc refl j (omega arith) (omega arith) in
      (rxing f c t (Some pc) rcv, h, k, λ a o. rw v (copy_safe k l e last n (j + 1) (acc ++ bytes_in fr j (word_of pc.bytes (1024 * pc.k + j))) (omega arith) (omega arith)))
