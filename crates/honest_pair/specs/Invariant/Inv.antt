-- Stated: claims rest on this file.
-- What the memory of a pair holds between any two events, by what each end has done. Position n of a ring is the index `start + n`.
use Rattle.std.specs.Prelude.{ℕ, ◌≡◌, ◌+◌, ◌*◌, ◌<◌, ◌≤◌, ◌⊎◌, Bool, true, List, ◌++◌, length, get_or, Some}
use Rattle.xen_buffers.specs.Grants.{buffer, grant_place}
use Rattle.xen_buffers.specs.declared.wiring.GrantedPage.{GrantedPage}
use Rattle.xen_buffers.specs.declared.wiring.FrontWiring.{FrontWiring}
use Rattle.xen_front.specs.Slots.{piece_request, piece_words, word_at}
use Rattle.xen_netif.specs.Slots.{rx_req_words, tx_req_words}
use Rattle.xen_netif.specs.Words.{joined, low}
use Rattle.xen_page.specs.Mapping.{frame_place}
use Rattle.xen_page.specs.declared.place.Place.{Place}
use Rattle.xen_steps.specs.Places.{add32, page_word, rx_entry, tx_entry}
use Rattle.xen_netif.specs.declared.offload.RxOffload.TheVariants.{Whole}
use Rattle.xen_rx_fill.specs.Packets.{response_word, word_of, words}
use Rattle.xen_rx_fill.specs.declared.target.Grants.TheVariants.{Passed}
use Rattle.honest_pair.specs.Invariant.Ghosts.{AllOf, Sent, Piece, slots, piece, id_at, IsSent, Front, Back, tx_sent, tx_answered, rx_given, AllNotes}
use Rattle.honest_pair.specs.Machine.Memory.{Memory}
use Rattle.honest_pair.specs.declared.awaits.Awaits.{Awaits}
use Rattle.honest_pair.specs.declared.awaits.Awaits.TheVariants as awaits

-- What the pair is laid out by: the front's wiring, and the index at which both rings begin.
module _ (w : FrontWiring) (start : ℕ) where
  abbrev pub tx_at : (n j : ℕ) → Place
  tx_at n j = tx_entry w.tx_frame (add32 start n) j

  abbrev pub rx_at : (n j : ℕ) → Place
  rx_at n j = rx_entry w.rx_frame (add32 start n) j

  abbrev pub tx_buffer : ℕ → GrantedPage
  tx_buffer id = buffer w.tx.now id

  abbrev pub rx_buffer : ℕ → GrantedPage
  rx_buffer id = buffer w.rx.now id

  -- A slot's three words, and a response's two.
  abbrev pub tx_words : Piece → List ℕ
  tx_words s = tx_req_words (piece_request w s.bytes s.n s.k s.id)

  abbrev pub rx_word_of : Piece → ℕ → ℕ
  rx_word_of s j = response_word Whole Passed s.bytes s.n s.k s.id j

  -- A grant to the back, with these flags.
  pub record IsLent (x : Place → ℕ) (b : GrantedPage) (kind : ℕ) : Type 0 where
    pub frame : x (frame_place (grant_place w b)) ≡ b.frame
    pub flags : x (grant_place w b) ≡ joined kind w.back

  -- The tx ring's slots from the first response that isn't taken on: responses up to `written`, slots that the back has read,
  -- slots that it hasn't. Up to `answered` they are published.
  pub record TxSlots (x : Place → ℕ) (l : List Piece) (taken answered written read : ℕ) : Type 0 where
    pub requests : (n j : ℕ) → read ≤ n → n < length l → j < 3 → x (tx_at n j) ≡ get_or (tx_words (piece l n)) j 0
    pub grants : (n : ℕ) → answered ≤ n → n < length l → IsLent x (tx_buffer (piece l n).id) 5
    pub pages : (n j : ℕ) → answered ≤ n → n < length l → j < piece_words (length (piece l n).bytes) (piece l n).k →
        x (page_word (tx_buffer (piece l n).id).frame j) ≡ word_at (piece l n).bytes (4096 * (piece l n).k + 4 * j)
    pub responses : (n : ℕ) → taken ≤ n → n < written → low (x (tx_at n 0)) ≡ (piece l n).id

  -- The rx ring's, with the ids of all posts. `l` is the pieces of all packets that are given, and of the one that is being
  -- written, of which `filled` words stand in the pages; `written` words of responses do, two each. Up to `given` they are
  -- published.
  pub record RxSlots (x : Place → ℕ) (posts : List ℕ) (l : List Piece) (got given read written filled : ℕ) : Type 0 where
    pub requests : (n j : ℕ) → read ≤ n → n < length posts → j < 2 →
        x (rx_at n j) ≡ get_or (rx_req_words (record { id = id_at posts n; gref = (rx_buffer (id_at posts n)).gref })) j 0
    pub grants : (n : ℕ) → given ≤ n → n < length posts → IsLent x (rx_buffer (id_at posts n)) 1
    pub responses : (n j : ℕ) → got ≤ n → n < length l → j < 2 → 2 * n + j < written → x (rx_at n j) ≡ rx_word_of (piece l n) j
    pub pages : (n j : ℕ) → got ≤ n → n < length l → j < 1024 → 1024 * (piece l n).k + j < words (piece l n).bytes →
        (n < given) ⊎ (1024 * (piece l n).k + j < filled) →
        x (page_word (rx_buffer (piece l n).id).frame j) ≡ word_of (piece l n).bytes (1024 * (piece l n).k + j)

  -- Counts of the tx ring, in order.
  pub record TxCounts (f : Front) (b : Back) : Type 0 where
    pub took : f.taken ≤ f.told
    pub told : f.told ≤ tx_answered b
    pub wrote : b.wrote ≤ b.used
    pub used : b.used ≤ length (slots b.ahead)
    pub known : (more : List Sent) × (f.sent ≡ b.done ++ (b.ahead ++ more))
    pub room : tx_sent f ≤ f.taken + 256
    pub unique : (i j : ℕ) → f.taken ≤ i → i < j → j < tx_sent f → (piece (slots f.sent) i).id ≡ (piece (slots f.sent) j).id → ⊥
    pub good : AllOf IsSent f.sent

  -- Counts of the rx ring: g and v are the packets that are given and that is being written, u posts after g's are read, rs are known.
  pub record RxCounts (f : Front) (g v : List Sent) (u : ℕ) (rs : List ℕ) : Type 0 where
    pub took : f.got ≤ length (slots f.rx_told)
    pub told : (more : List Sent) × (g ≡ f.rx_told ++ more)
    pub used : length (slots g) + u ≤ length rs
    pub known : (more : List ℕ) × (f.posts ≡ rs ++ more)
    pub room : length f.posts ≤ f.got + 256
    pub unique : (i j : ℕ) → f.got ≤ i → i < j → j < length f.posts → id_at f.posts i ≡ id_at f.posts j → ⊥
    pub ids : (n : ℕ) → n < length f.posts → id_at f.posts n < 256
    -- The back answers the posts in order.
    pub giving : length (slots (g ++ v)) ≤ length (slots g) + u
    pub named : (n : ℕ) → n < length (slots (g ++ v)) → (piece (slots (g ++ v)) n).id ≡ id_at f.posts n
    pub good : AllOf IsSent (g ++ v)

  -- The words of a ring's header that change hands.
  pub record TxHead (x : Place → ℕ) (sent answered asked : ℕ) : Type 0 where
    pub req_prod : x (page_word w.tx_frame 0) ≡ add32 start sent
    pub event : x (page_word w.tx_frame 1) ≡ add32 start asked
    pub rsp_prod : x (page_word w.tx_frame 2) ≡ add32 start answered

  -- The event index names the last slot of those that the back awaits.
  abbrev pub IsAsked : (Place → ℕ) → Awaits → Type 0
  IsAsked x awaits.Nothing = Unit {0}
  IsAsked x (awaits.Asked index pages) = x (page_word w.rx_frame 1) ≡ add32 index pages
  IsAsked x (awaits.Fewer index pages) = x (page_word w.rx_frame 1) ≡ add32 index pages

  pub record RxHead (x : Place → ℕ) (posted given : ℕ) (asked : Awaits) : Type 0 where
    pub req_prod : x (page_word w.rx_frame 0) ≡ add32 start posted
    pub event : IsAsked x asked
    pub rsp_prod : x (page_word w.rx_frame 2) ≡ add32 start given

  -- The page of a response that was taken stands as long as it is read.
  pub record Reading (x : Place → ℕ) (f : Front) (s : Piece) : Type 0 where
    pub id : s.id < 256
    pub page : (j : ℕ) → j < 1024 → 1024 * s.k + j < words s.bytes →
        x (page_word (rx_buffer s.id).frame j) ≡ word_of s.bytes (1024 * s.k + j)
    pub apart : (n : ℕ) → f.got ≤ n → n < length f.posts → id_at f.posts n ≡ s.id → ⊥

  -- An id that is in no slot and no post in flight.
  abbrev pub IsFree : Front → ℕ → Type 0
  IsFree f i = (n : ℕ) → f.taken ≤ n → n < tx_sent f → (piece (slots f.sent) n).id ≡ i → ⊥

  abbrev pub IsFreePost : Front → ℕ → Type 0
  IsFreePost f i = (n : ℕ) → f.got ≤ n → n < length f.posts → id_at f.posts n ≡ i → ⊥

  -- Places that the front may write: slots that it hasn't published, and the grants and pages of buffers that aren't in flight.
  pub data IsFronts (f : Front) : Place → Type 0 where
    tx_slot : (n j : ℕ) → tx_sent f ≤ n → n < f.taken + 256 → j < 3 → IsFronts f (tx_at n j)
    tx_flags : (i : ℕ) → i < 256 → IsFree f i → IsFronts f (grant_place w (tx_buffer i))
    tx_frame : (i : ℕ) → i < 256 → IsFree f i → IsFronts f (frame_place (grant_place w (tx_buffer i)))
    tx_page : (i j : ℕ) → i < 256 → IsFree f i → IsFronts f (page_word (tx_buffer i).frame j)
    rx_slot : (n j : ℕ) → length f.posts ≤ n → n < f.got + 256 → j < 2 → IsFronts f (rx_at n j)
    rx_flags : (i : ℕ) → i < 256 → IsFreePost f i → IsFronts f (grant_place w (rx_buffer i))
    rx_frame : (i : ℕ) → i < 256 → IsFreePost f i → IsFronts f (frame_place (grant_place w (rx_buffer i)))

  -- What was written stands, at places of the writer's own.
  abbrev pub FrontNotes : (Place → ℕ) → Front → Type 0
  FrontNotes x f = AllNotes (λ n. (x n.at ≡ n.value) × IsFronts f n.at) f.notes

  -- No notice is lost: a back that sleeps has said where it stands, and is woken, has seen all, or will be told.
  abbrev pub Heard : Memory → Front → Back → Type 0
  Heard m f b = (b.event ≡ tx_answered b + 1) × ((m.pending ≡ true) ⊎ ((tx_sent f ≡ tx_answered b) ⊎ (f.window ≡ Some (tx_answered b))))

  -- Nor one about posts: if fewer than `pages` were posted past a position, the back is woken, that is still so, or it will be told.
  pub record IsShort (pending : Bool) (posted : ℕ) (posting : Bool) (index pages : ℕ) : Type 0 where
    pub at : ℕ
    pub is : index ≡ add32 start at
    pub past : at ≤ posted
    pub told : (pending ≡ true) ⊎ ((posted < at + pages) ⊎ ((posting ≡ true) × (posted ≤ at + pages)))

  abbrev pub Told : Bool → ℕ → Bool → Awaits → Type 0
  Told pending posted posting awaits.Nothing = Unit {0}
  Told pending posted posting (awaits.Asked index pages) = Unit {0}
  Told pending posted posting (awaits.Fewer index pages) = IsShort pending posted posting index pages

  pub record Inv (m : Memory) (f : Front) (b : Back) : Type 0 where
    pub tx : TxCounts f b
    pub tx_head : TxHead m.word (tx_sent f) (tx_answered b) b.event
    pub tx_slots : TxSlots m.word (slots f.sent) f.taken (tx_answered b) (tx_answered b + b.wrote) (tx_answered b + b.used)
    pub rx : RxCounts f b.given b.giving b.rx_used b.rx_seen
    pub rx_head : RxHead m.word (length f.posts) (rx_given b) m.awaits
    pub rx_slots : RxSlots m.word f.posts (slots (b.given ++ b.giving)) f.got (rx_given b) (rx_given b + b.rx_used)
        (2 * rx_given b + b.rx_wrote) b.filled
    pub reading : (s : Piece) → f.reading ≡ Some s → Reading m.word f s
    pub front_notes : FrontNotes m.word f
    pub heard : b.asleep ≡ true → Heard m f b
    pub awaited : Told m.pending (length f.posts) f.posting m.awaits
