-- Stated: claims rest on this file.
-- The pages and references that a front is made with.
use Rattle.std.specs.Prelude.{ℕ, ◌≡◌, ◌≢◌, ◌<◌, List, ◌∷◌, ◌++◌, length, map, All, None}
use Rattle.std.specs.List.{AllPairs}
use Rattle.xen_page.specs.Table.{entry_place}
use Rattle.xen_buffers.specs.declared.desc.FrontDesc.{FrontDesc}
use Rattle.xen_buffers.specs.declared.wiring.GrantedPage.{GrantedPage}
use Rattle.xen_buffers.specs.declared.wiring.FrontWiring.{FrontWiring}

abbrev pub frame_of : GrantedPage → ℕ
frame_of b = b.frame

abbrev pub gref_of : GrantedPage → ℕ
gref_of b = b.gref

-- All frames that a front uses: the two rings', its grant table's, and the buffers' of both rings.
abbrev pub frames_of : FrontWiring → List ℕ
frames_of w = w.tx_frame ∷ w.rx_frame ∷ (w.table.now ++ (map frame_of w.tx.now ++ map frame_of w.rx.now))

-- The references of its buffers.
abbrev pub references_of : FrontWiring → List ℕ
references_of w = map gref_of w.tx.now ++ map gref_of w.rx.now

-- No number stands twice.
abbrev pub AreDistinct : List ℕ → Type 0
AreDistinct xs = AllPairs (λ x y. x ≢ y) xs

-- The reference of each buffer is in the table.
abbrev pub AreInTable : List ℕ → List GrantedPage → Type 0
AreInTable table buffers = All (λ (b : GrantedPage). entry_place table b.gref ≢ None) buffers

-- A buffer for each of the 256 ids of a ring, with a reference in the table; frames on the bus; none of them twice.
pub record IsWired (w : FrontWiring) : Type 0 where
  pub tx_count : length w.tx.now ≡ 256
  pub rx_count : length w.rx.now ≡ 256
  pub tx_granted : AreInTable w.table.now w.tx.now
  pub rx_granted : AreInTable w.table.now w.rx.now
  pub on_bus : All (λ frame. frame < w.frames) (frames_of w)
  pub frames_apart : AreDistinct (frames_of w)
  pub references_apart : AreDistinct (references_of w)

-- What a front is wired to.
abbrev pub wiring_in : FrontDesc → FrontWiring
wiring_in d =
    record {
      frames = d.frames;
      tx_frame = d.tx_frame;
      rx_frame = d.rx_frame;
      table = d.table;
      tx = d.tx;
      rx = d.rx;
      back = d.back;
      port = d.port;
    }
