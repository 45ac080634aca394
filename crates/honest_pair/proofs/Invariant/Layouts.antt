-- The layout's two ends are over the same pages, and their frames differ.
use Rattle.std.proofs.Common.{◌≡◌, ℕ, zero, suc, ◌+◌, ◌*◌, ◌/◌, ◌%◌, ◌<◌, ◌≤◌, ◌⊎◌, inl, inr, ◌∷◌, Some, Ok, Err, refl, sym, ◌∙◌, ap, arith}
use Rattle.std.specs.Prelude.{slice_get, replicate, if◌then◌else◌}
use Rattle.bpf_verify.specs.Consistent.{Accepted}
use Rattle.xen_turns.specs.declared.wiring.Wiring.{Wiring as BackWiring}
use Rattle.xen_buffers.specs.Grants.{buffer, grant_place, place_or}
use Rattle.xen_buffers.specs.declared.wiring.GrantedPage.{GrantedPage}
use Rattle.xen_buffers.specs.declared.wiring.FrontWiring.{FrontWiring}
use Rattle.xen_netif.specs.Words.{joined}
use Rattle.xen_page.specs.Entry.{entry_of}
use Rattle.xen_page.specs.Grant.{checked, is_domain}
use Rattle.xen_page.specs.Table.{entry_place, place_in}
use Rattle.xen_page.specs.declared.fault.GrantFault.TheVariants.{BadPage}
use Rattle.xen_page.specs.declared.place.Place.{Place}
use Rattle.xen_page.specs.declared.entry.Rights.{Rights}
use Rattle.xen_page.specs.declared.entry.Rights.TheVariants.{ReadOnly, ReadWrite}
use Rattle.honest_pair.specs.Invariant.Joined.{Joined}
use Rattle.honest_pair.specs.Invariant.Laid.{Laid, Outside}
use Rattle.honest_pair.specs.Machine.Layout.{IsBack, IsFront, owners, table_frames}

-- where the entry of a reference stands
abbrev at_gref : ℕ → Place
at_gref g = record { frame = 1 + g / 512; word = 2 * (g % 512) }

frame_there : (q : ℕ) → q < 2 → slice_get table_frames q ≡ Some (1 + q)
frame_there zero h = refl
frame_there (suc zero) h = refl
frame_there (suc (suc q)) h = absurd (omega (arith, h))

entry_there : (g : ℕ) → g < 1024 → entry_place table_frames g ≡ Some (at_gref g)
entry_there g h = ap (λ o. place_in o g) (frame_there (g / 512) (omega (arith, h)))

owner_there : (n k : ℕ) → k < n → slice_get {X = ℕ} (replicate n 1) k ≡ Some 1
owner_there zero k h = absurd (omega (arith, h))
owner_there (suc n) zero h = refl
owner_there (suc n) (suc k) h = owner_there n k (omega (arith, h))

owned : (n frame : ℕ) → 0 < frame → frame ≤ n → slice_get {X = ℕ} (0 ∷ replicate n 1) frame ≡ Some 1
owned n zero a b = absurd (omega (arith, a))
owned n (suc k) a b = owner_there n k (omega (arith, b))

module _ (w : FrontWiring) (h : IsFront w) where
  pub tx_is : (i : ℕ) → i < 256 → buffer w.tx.now i ≡ record { gref = 2 + i; frame = 19 + i }
  tx_is i p = h.tx i p

  pub rx_is : (i : ℕ) → i < 256 → buffer w.rx.now i ≡ record { gref = 258 + i; frame = 275 + i }
  rx_is i p = h.rx i p

  pub place_of : (b : GrantedPage) → b.gref < 1024 → grant_place w b ≡ at_gref b.gref
  place_of b p = ap (λ t. place_or (entry_place t b.gref)) h.table ∙ ap place_or (entry_there b.gref p)

  tx_low : (i : ℕ) → i < 256 → (grant_place w (buffer w.tx.now i)).frame < 17
  tx_low i p =
      let g : (buffer w.tx.now i).gref ≡ 2 + i = ap (λ b. b.gref) (tx_is i p) in
      let f = ap (λ q. q.frame) (place_of (buffer w.tx.now i) (omega (arith, g, p))) in
      omega (arith, f, g, p)

  rx_low : (i : ℕ) → i < 256 → (grant_place w (buffer w.rx.now i)).frame < 17
  rx_low i p =
      let g : (buffer w.rx.now i).gref ≡ 258 + i = ap (λ b. b.gref) (rx_is i p) in
      let f = ap (λ q. q.frame) (place_of (buffer w.rx.now i) (omega (arith, g, p))) in
      omega (arith, f, g, p)

  tx_frame_is : (i : ℕ) → i < 256 → (buffer w.tx.now i).frame ≡ 19 + i
  tx_frame_is i p = ap (λ b. b.frame) (tx_is i p)

  rx_frame_is : (i : ℕ) → i < 256 → (buffer w.rx.now i).frame ≡ 275 + i
  rx_frame_is i p = ap (λ b. b.frame) (rx_is i p)

  outside : (frame : ℕ) → 17 ≤ frame → (frame < 19) ⊎ (275 ≤ frame) → Outside w frame
  outside frame a b = record {
    tx_grants = λ i p e. (let l = tx_low i p in omega (arith, l, e, a));
    rx_grants = λ i p e. (let l = rx_low i p in omega (arith, l, e, a));
    tx_pages = λ i p e. (let f = tx_frame_is i p in elim b [ inl q ↦ omega (arith, q, f, e) | inr q ↦ omega (arith, q, f, e, p) ]);
  }

  pub laid : Laid w
  laid =
      let t = h.tx_ring in let r = h.rx_ring in
      record {
        rings = λ e. omega (arith, t, r, e);
        tx_ring = outside w.tx_frame (omega (arith, t)) (inl (omega (arith, t)));
        tx_ring_rx = λ i p e. (let f = rx_frame_is i p in omega (arith, f, e, t));
        rx_ring = outside w.rx_frame (omega (arith, r)) (inl (omega (arith, r)));
        rx_ring_rx = λ i p e. (let f = rx_frame_is i p in omega (arith, f, e, r));
        page = λ i p. (let f = rx_frame_is i p in outside (buffer w.rx.now i).frame (omega (arith, f)) (inr (omega (arith, f))));
        pages = λ i j p q d e. (let f = rx_frame_is i p in let g = rx_frame_is j q in d (omega (arith, f, g, e)));
      }

  module _ (program : Accepted) (v : BackWiring) (b : IsBack program v) where
    -- a grant to the back, of a frame that is the front's
    grants : (kind frame : ℕ) (rights : Rights) → 0 < frame → frame ≤ 530 → (kind ≡ 5) × (rights ≡ ReadOnly) ⊎ (kind ≡ 1) × (rights ≡ ReadWrite) →
        checked v.vif.owners.now v.vif.granter v.vif.user (entry_of (joined kind w.back) frame) rights ≡ Ok frame
    grants kind frame rights p q k =
        ap (λ o. checked o v.vif.granter v.vif.user (entry_of (joined kind w.back) frame) rights) b.owners
        ∙ ap (λ o. checked owners o v.vif.user (entry_of (joined kind w.back) frame) rights) b.granter
        ∙ ap (λ o. checked owners 1 o (entry_of (joined kind w.back) frame) rights) b.user
        ∙ ap (λ o. checked owners 1 0 (entry_of (joined kind o) frame) rights) h.back
        ∙ elim k [
          | inl c ↦ ap (λ o. checked owners 1 0 (entry_of (joined o 0) frame) rights) c.0 ∙ ap (λ o. checked owners 1 0 (entry_of (joined 5 0) frame) o) c.1 ∙ last
          | inr c ↦ ap (λ o. checked owners 1 0 (entry_of (joined o 0) frame) rights) c.0 ∙ ap (λ o. checked owners 1 0 (entry_of (joined 1 0) frame) o) c.1 ∙ last
        ]
      where
        last : (if is_domain (slice_get owners frame) 1 then Ok frame else Err BadPage) ≡ Ok frame
        last = ap (λ o. if is_domain o 1 then Ok frame else Err BadPage) (owned 530 frame p q)

    pub ends_joined : Joined w v
    ends_joined = record {
      tx = b.tx ∙ sym h.tx_ring;
      rx = b.rx ∙ sym h.rx_ring;
      tx_place = λ i p. (let g : (buffer w.tx.now i).gref ≡ 2 + i = ap (λ q. q.gref) (tx_is i p) in there (buffer w.tx.now i) (omega (arith, g, p)));
      rx_place = λ i p. (let g : (buffer w.rx.now i).gref ≡ 258 + i = ap (λ q. q.gref) (rx_is i p) in there (buffer w.rx.now i) (omega (arith, g, p)));
      tx_grant = λ i p. (let f = tx_frame_is i p in grants 5 (buffer w.tx.now i).frame ReadOnly (omega (arith, f)) (omega (arith, f, p)) (inl (refl, refl)));
      rx_grant = λ i p. (let f = rx_frame_is i p in grants 1 (buffer w.rx.now i).frame ReadWrite (omega (arith, f)) (omega (arith, f, p)) (inr (refl, refl)));
    }
      where
        there : (c : GrantedPage) → c.gref < 1024 → entry_place v.vif.table.now c.gref ≡ Some (grant_place w c)
        there c p = ap (λ t. entry_place t c.gref) b.table ∙ entry_there c.gref p ∙ ap Some (sym (place_of c p))
