-- Transmitting a packet into posted buffers is safe, in a turn or in a delivery.
use Rattle.std.proofs.Common.{◌≡◌, ℕ, zero, suc, ◌+◌, ◌-◌, ◌^◌, ◌<◌, ◌≤◌, Bool, true, false, List, [], ◌∷◌, ◌++◌, length, Some, Ok, refl, sym, ◌∙◌, ap, arith, subst}
use Rattle.std.specs.Prelude.{get_or, nat_lt, if◌then◌else◌}
use Rattle.std.proofs.lemmas.Bool.Decides.{nat_tests}
use Rattle.xen_turns.specs.declared.wiring.Wiring.{Wiring as BackWiring}
use Rattle.xen_buffers.specs.declared.wiring.FrontWiring.{FrontWiring}
use Rattle.xen_steps.specs.Places.{add32}
use Rattle.xen_steps.specs.Steps.{Steps, done, bind}
use Rattle.xen_netif.specs.declared.offload.RxOffload.TheVariants.{Whole}
use Rattle.xen_rx_fill.specs.Packets.{pages, words}
use Rattle.xen_rx_fill.specs.Transmit.{after_targets, fill, found, read_targets, rx_respond, transmit}
use Rattle.xen_rx_fill.specs.declared.by_event.phase.TransmitOutcome.{TransmitOutcome}
use Rattle.xen_rx_fill.specs.declared.by_event.phase.TransmitOutcome.TheVariants as outcome
use Rattle.xen_rx_fill.specs.declared.target.Target.{Target}
use Rattle.xen_rx_fill.specs.declared.target.Grants.TheVariants.{Passed}
use Rattle.honest_pair.specs.Invariant.Ends.{BackSafe, HasGiven}
use Rattle.honest_pair.specs.Invariant.Ghosts.{IsSent, Sent, id_at, slots, Back}
use Rattle.honest_pair.specs.Invariant.Joined.{Joined}
use Rattle.honest_pair.specs.Invariant.Laid.{Laid}
use Rattle.honest_pair.proofs.Invariant.Puts.{add_add}
use Rattle.honest_pair.proofs.Invariant.BackLooks.{over, safe_bind, safe_less}
use Rattle.honest_pair.proofs.Invariant.BackChains.{onto}
use Rattle.honest_pair.proofs.Invariant.BackPosts as posts
use Rattle.honest_pair.proofs.Invariant.BackPosts.{sending}
use Rattle.honest_pair.proofs.Invariant.BackFills as fills
use Rattle.honest_pair.proofs.Invariant.BackReplies.{WasSent, rx_respond_safe}

-- a packet that may be given
pub record IsFit (packet : List ℕ) : Type 0 where
  pub least : 14 ≤ length packet
  pub most : length packet ≤ 65535
  pub bytes : (i : ℕ) → get_or packet i 0 < 256

-- K holds of a back that has given no more, and of one that has given the packet.
module _ (w : FrontWiring) (start : ℕ) (small : start < 2 ^ 32) (v : BackWiring) (j : Joined w v) (y : Laid w) (d a : List Sent) (used : ℕ) (g : List Sent) (e : ℕ) (sl : Bool) (packet : List ℕ) (fit : IsFit packet) (K : Back → Type 0)
    (k1 : (b : Back) → b.given ≡ g → K b) (k2 : (b : Back) (x : Sent) → x.bytes ≡ packet → b.given ≡ g ++ x ∷ [] → K b) where
  abbrev pub G : ℕ
  G = length (slots g)

  abbrev N : ℕ
  N = pages packet

  abbrev pub state_of : List ℕ → Back
  state_of rs = posts.posts_read w start small v j d a used g e sl rs 0

  abbrev X : List ℕ → Sent
  X rs = fills.gift w start small d a used g e sl rs packet N

  -- the posts were too few, or the packet is given
  abbrev pub Transmitted : Back → TransmitOutcome → Type 0
  Transmitted b outcome.Overflow = ⊥
  Transmitted b outcome.TooFew = (rs : List ℕ) × (b ≡ sending d a used g rs e sl 0 [] 0 0)
  Transmitted b (outcome.Refused n) = ⊥
  Transmitted b (outcome.Sent n) = (rs : List ℕ) × (x : Sent) × (b ≡ sending d a used (g ++ x ∷ []) rs e sl 0 [] 0 0) × (x.bytes ≡ packet) × (add32 (add32 start G) n ≡ add32 start (length (slots (g ++ x ∷ []))))

  targets_equal : (rs : List ℕ) (n i : ℕ) → posts.targets w start small v j d a used g e sl rs i n ≡ fills.targets w start small d a used g e sl rs packet N i n
  targets_equal rs zero i = refl
  targets_equal rs (suc n) i = ap (λ t. fills.target w start small d a used g e sl rs packet N i ∷ t) (targets_equal rs n (i + 1))

  targets_count : (rs : List ℕ) (n i : ℕ) → length (fills.targets w start small d a used g e sl rs packet N i n) ≡ n
  targets_count rs zero i = refl
  targets_count rs (suc n) i = ap (λ t. suc t) (targets_count rs n (i + 1))

  some_words : (c : ℕ) × (words packet - 0 ≡ suc c)
  some_words = let q = fit.least in (words packet - 1, omega (arith, q))

  module _ (rs : List ℕ) (p : G + N ≤ length rs) (low : (i : ℕ) → i < N → id_at rs (G + i) < 256) where
    good : IsSent (X rs)
    good =
        record {
          least = fit.least;
          most = fit.most;
          bytes = fit.bytes;
          count = fills.ids_count w start small d a used g e sl rs packet N N 0;
          ids = fills.ids_small w start small d a used g e sl rs packet N N 0 (λ o q3 q4. low o (omega (arith, q4)));
        }

    given_index : add32 (add32 start G) N ≡ add32 start (length (slots (g ++ X rs ∷ [])))
    given_index = add_add start G N ∙ ap (add32 start) (sym (fills.all_count w start small d a used g e sl rs packet N))

    abbrev tg : List Target
    tg = fills.targets w start small d a used g e sl rs packet N 0 N

    abbrev now : Back
    now = fills.given_state w start small d a used g e sl rs packet N 0 0

    abbrev later : Unit {0} → Steps TransmitOutcome
    later u = rx_respond (over w v).vif (add32 start G) Whole packet Passed tg

    gives_safe : BackSafe w start K Transmitted now (bind (fill Whole tg packet (words packet - 0) 0) later)
    gives_safe =
        safe_bind w start K (fills.Filled w start small d a used g e sl rs packet N y refl p low good) Transmitted now (fill Whole tg packet (words packet - 0) 0) later
        (safe_less w start (HasGiven g) K (fills.Filled w start small d a used g e sl rs packet N y refl p low good) (fills.Filled w start small d a used g e sl rs packet N y refl p low good) now (fill Whole tg packet (words packet - 0) 0)
        k1 (λ b x h. h)
        (fills.fill_safe w start small d a used g e sl rs packet N y refl p low good (words packet - 0) 0 (omega arith)))
        (λ b u h. subst (λ b2. BackSafe w start K Transmitted b2 (later u)) (sym h)
        (safe_less w start K K (WasSent w start small d a used g e sl rs packet N y refl p v K (λ fl wr. k1 (fills.given_state w start small d a used g e sl rs packet N fl wr) refl) (k2 (sending d a used (g ++ X rs ∷ []) rs e sl 0 [] 0 0) (X rs) refl refl)) Transmitted
        (fills.given_state w start small d a used g e sl rs packet N (words packet) 0) (later u) (λ b2 k. k)
        (λ b2 o q. onto Transmitted (sending d a used (g ++ X rs ∷ []) rs e sl 0 [] 0 0) b2 (outcome.Sent N) o q.0 q.1 (rs, X rs, refl, refl, given_index))
        (rx_respond_safe w start small d a used g e sl rs packet N y refl p v K (λ fl wr. k1 (fills.given_state w start small d a used g e sl rs packet N fl wr) refl) (k2 (sending d a used (g ++ X rs ∷ []) rs e sl 0 [] 0 0) (X rs) refl refl) (length tg) (targets_count rs N 0))))

    -- the first word that is written begins the giving
    filled_safe : BackSafe w start K Transmitted (posts.posts_read w start small v j d a used g e sl rs N) (bind (fill Whole tg packet (words packet - 0) 0) later)
    filled_safe =
        let z = some_words in
        subst (λ n. BackSafe w start K Transmitted (posts.posts_read w start small v j d a used g e sl rs N) (bind (fill Whole tg packet n 0) later)) (sym z.1)
        (λ m f h. (subst (λ n. BackSafe w start K Transmitted now (bind (fill Whole tg packet n 0) later)) z.1 gives_safe) m f (fills.begins w start small d a used g e sl rs packet N m f p good h))

    posted_safe : BackSafe w start K Transmitted (state_of rs) (bind (read_targets (over w v).vif (add32 start G) Whole N []) (after_targets (over w v).vif (add32 start G) Whole packet))
    posted_safe =
        safe_bind w start K (posts.HasPosted w start small v j d a used g e sl rs N) Transmitted (state_of rs) (read_targets (over w v).vif (add32 start G) Whole N []) (after_targets (over w v).vif (add32 start G) Whole packet)
        (safe_less w start (HasGiven g) K (posts.HasPosted w start small v j d a used g e sl rs N) (posts.HasPosted w start small v j d a used g e sl rs N) (state_of rs) (read_targets (over w v).vif (add32 start G) Whole N [])
        k1 (λ b x h. h) (posts.posts_safe w start small v j d a used g e sl rs N p low))
        (λ b o h. onto (λ b2 o2. BackSafe w start K Transmitted b2 (after_targets (over w v).vif (add32 start G) Whole packet o2)) (posts.posts_read w start small v j d a used g e sl rs N) b (Ok (posts.targets w start small v j d a used g e sl rs 0 N)) o h.0 h.1
        (subst (λ t. BackSafe w start K Transmitted (posts.posts_read w start small v j d a used g e sl rs N) (after_targets (over w v).vif (add32 start G) Whole packet (Ok t))) (sym (targets_equal rs N 0)) filled_safe))

  found_safe : (rs : List ℕ) → ((i : ℕ) → i < length rs → id_at rs i < 256) → BackSafe w start K Transmitted (state_of rs) (found (over w v).vif (add32 start G) Whole packet (Some (length rs - G)))
  found_safe rs low = by (nat_lt (length rs - G) N) refl
    where
      by : (b : Bool) → nat_lt (length rs - G) N ≡ b →
          BackSafe w start K Transmitted (state_of rs) (if b then done outcome.TooFew else bind (read_targets (over w v).vif (add32 start G) Whole N []) (after_targets (over w v).vif (add32 start G) Whole packet))
      by true c = (rs, refl)
      by false c =
          let q = fit.least in
          let enough : N ≤ length rs - G = grind (arith, nat_tests) in
          let p : G + N ≤ length rs = omega (arith, enough, q) in
          posted_safe rs p (λ i h. low (G + i) (omega (arith, p, h)))

  -- The posts are read, the packet is written, and the responses are; or there are too few posts.
  pub transmit_safe : (rs : List ℕ) → BackSafe w start K Transmitted (state_of rs) (transmit (over w v).vif (add32 start G) Whole packet)
  transmit_safe rs = λ m f h. (
    state_of f.posts,
    posts.rx_knows w start small v j d a used g e sl rs m f h,
    k1 (state_of f.posts) refl,
    λ n q.
        subst (λ o. BackSafe w start K Transmitted (state_of f.posts) (found (over w v).vif (add32 start G) Whole packet o)) (sym (posts.rx_sees w start small v j d a used g e sl rs m f h)) (found_safe f.posts h.rx.ids),
  )
