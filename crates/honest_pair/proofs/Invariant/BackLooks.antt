-- Combinators for a tree's parts, and the look for requests.
use Rattle.std.proofs.Common.{◌≡◌, ℕ, zero, suc, ◌+◌, ◌^◌, ◌<◌, inl, inr, List, [], ◌++◌, length, Option, Some, None, refl, sym, ◌∙◌, ap, arith, subst}
use Rattle.xen_turns.specs.Tree.{check_again, look, seen}
use Rattle.xen_turns.specs.declared.wiring.Wiring.{Wiring as BackWiring}
use Rattle.xen_buffers.specs.declared.wiring.FrontWiring.{FrontWiring}
use Rattle.xen_page.specs.declared.place.Place.{Place}
use Rattle.xen_steps.specs.Places.{add32, available, page_word}
use Rattle.xen_steps.specs.Steps.{Steps, done, ask, never, bind}
use Rattle.xen_steps.specs.declared.want.Want.TheVariants as want
use Rattle.honest_pair.specs.Invariant.Ghosts.{AllOf, IsSent, Sent, slots, Front, Back, tx_sent}
use Rattle.honest_pair.specs.Invariant.Inv.{Inv}
use Rattle.honest_pair.specs.Invariant.Ended.{resting, slept}
use Rattle.honest_pair.specs.Invariant.Laid.{Laid}
use Rattle.honest_pair.specs.Machine.Memory.{Memory, after, answer}
use Rattle.honest_pair.specs.Invariant.Ends.{BackSafe, HasGiven}
use Rattle.honest_pair.proofs.Invariant.Puts.{put_same, put_apart, add_add, available_of}
use Rattle.honest_pair.proofs.Invariant.Lists.{all_right, slots_count, nil_right}
use Rattle.honest_pair.proofs.Invariant.BackRings.{tx_ring_put}

-- a back's wiring with the front's rings
abbrev pub over : FrontWiring → BackWiring → BackWiring
over w v = record v { vif = record v.vif { tx = w.tx_frame; rx = w.rx_frame } }

module _ (w : FrontWiring) (start : ℕ) {A : Type 0} (K : Back → Type 0) where
  pub safe_bind : {B : Type 0} (Q : Back → A → Type 0) (P : Back → B → Type 0) (b : Back) (s : Steps A) (f : A → Steps B) →
      BackSafe w start K Q b s → ((b' : Back) (x : A) → Q b' x → BackSafe w start K P b' (f x)) → BackSafe w start K P b (bind s f)
  safe_bind Q P b (done x) f h g = g b x h
  safe_bind Q P b (ask q k) f h g = λ m fr i. let r = h m fr i in (r.0, r.1, r.2, λ n l. safe_bind Q P r.0 (k (answer q m n)) f (r.3 n l) g)
  safe_bind Q P b never f h g = absurd h

  -- a read whose word the ghost knows
  pub read_known : (P : Back → A → Type 0) (b b' : Back) (at : Place) (v : ℕ) (k : ℕ → Steps A) → K b' →
      ((m : Memory) (f : Front) → Inv w start m f b → (m.word at ≡ v) × Inv w start m f b') → BackSafe w start K P b' (k v) → BackSafe w start K P b (ask (want.Read at) k)
  read_known P b b' at v k kb e s = λ m f h. (b', (e m f h).1, kb, λ n l. subst (λ a. BackSafe w start K P b' (k a)) (sym (e m f h).0) s)

  -- a read whose word doesn't matter
  pub read_any : (P : Back → A → Type 0) (b : Back) (at : Place) (k : ℕ → Steps A) → K b → ((v : ℕ) → BackSafe w start K P b (k v)) → BackSafe w start K P b (ask (want.Read at) k)
  read_any P b at k kb s = λ m f h. (b, h, kb, λ n l. s (m.word at))

  pub writes : (P : Back → A → Type 0) (b b' : Back) (at : Place) (v : ℕ) (k : ℕ → Steps A) → K b' →
      ((m : Memory) (f : Front) → Inv w start m f b → Inv w start (after (want.Write at v) m) f b') → BackSafe w start K P b' (k 0) → BackSafe w start K P b (ask (want.Write at v) k)
  writes P b b' at v k kb e s = λ m f h. (b', e m f h, kb, λ n l. s)

  -- what holds all along and at the end may be less
  pub safe_less : (L : Back → Type 0) (Q P : Back → A → Type 0) (b : Back) (s : Steps A) →
      ((b' : Back) → K b' → L b') → ((b' : Back) (x : A) → Q b' x → P b' x) → BackSafe w start K Q b s → BackSafe w start L P b s
  safe_less L Q P b (done x) k i h = i b x h
  safe_less L Q P b (ask q c) k i h = λ m f e. let r = h m f e in (r.0, r.1, k r.0 r.2, λ n l. safe_less L Q P r.0 (c (answer q m n)) k i (r.3 n l))
  safe_less L Q P b never k i h = absurd h

-- how a look ends
abbrev pub Looked : (d g : List Sent) → Back → Option ℕ → Type 0
Looked d g b None = ⊥
Looked d g b (Some zero) = (rs : List ℕ) × (b ≡ slept d g rs)
Looked d g b (Some (suc n)) = (x : List Sent) × (rs : List ℕ) × (e : ℕ) × (b ≡ resting d x g rs e) × (length (slots x) ≡ suc n) × AllOf IsSent x

module _ (w : FrontWiring) (start : ℕ) (y : Laid w) (small : start < 2 ^ 32) (v : BackWiring) (d g : List Sent) (rs : List ℕ) where
  -- what the producer shows
  shown : (f : Front) (x : List Sent) → f.sent ≡ d ++ x → tx_sent f ≡ length (slots d) + length (slots x)
  shown f x p = ap (λ l. length (slots l)) p ∙ slots_count d x

  sees : (a x : List Sent) (e : ℕ) (m : Memory) (f : Front) → f.sent ≡ d ++ x → Inv w start m f (resting d a g rs e) →
      available (add32 start (length (slots d))) (m.word (page_word w.tx_frame 0)) ≡ Some (length (slots x))
  sees a x e m f p h =
      let c = shown f x p in let q = h.tx.took in let r = h.tx.told in let s = h.tx.room in
      ap (available (add32 start (length (slots d)))) h.tx_head.req_prod
      ∙ available_of start (length (slots d)) (tx_sent f) small (omega (arith, c)) (omega (arith, q, r, s))
      ∙ ap Some (omega (arith, c))

  -- and from then on the back knows the packets
  knows : (a : List Sent) (e : ℕ) (m : Memory) (f : Front) → Inv w start m f (resting d a g rs e) → (x : List Sent) × (f.sent ≡ d ++ x) × Inv w start m f (resting d x g rs e)
  knows a e m f h =
      let x = a ++ h.tx.known.0 in (
        x,
        h.tx.known.1,
        record {
          tx = record { took = h.tx.took; told = h.tx.told; wrote = h.tx.wrote; used = omega arith; known = ([], h.tx.known.1 ∙ ap (λ l. d ++ l) (sym (nil_right x))); room = h.tx.room; unique = h.tx.unique; good = h.tx.good };
          tx_head = h.tx_head;
          tx_slots = h.tx_slots;
          rx = h.rx;
          rx_head = h.rx_head;
          rx_slots = h.rx_slots;
          reading = h.reading;
          front_notes = h.front_notes;
          heard = λ c. cc;
          awaited = h.awaited;
        },
      )

  sleeps : (x : List Sent) (m : Memory) (f : Front) → f.sent ≡ d ++ x → length (slots x) ≡ 0 → Inv w start m f (resting d x g rs (length (slots d) + 1)) → Inv w start m f (slept d g rs)
  sleeps x m f p z h = record {
    tx = record { took = h.tx.took; told = h.tx.told; wrote = h.tx.wrote; used = omega arith; known = (x, p); room = h.tx.room; unique = h.tx.unique; good = h.tx.good };
    tx_head = h.tx_head;
    tx_slots = h.tx_slots;
    rx = h.rx;
    rx_head = h.rx_head;
    rx_slots = h.rx_slots;
    reading = h.reading;
    front_notes = h.front_notes;
    heard = λ c. (refl, inr (inl (shown f x p ∙ omega (arith, z))));
    awaited = h.awaited;
  }

  -- the index at which the back asks to be told
  announces : (x : List Sent) (e : ℕ) (m : Memory) (f : Front) → Inv w start m f (resting d x g rs e) →
      Inv w start (after (want.Write (page_word w.tx_frame 1) (add32 (add32 start (length (slots d))) 1)) m) f (resting d x g rs (length (slots d) + 1))
  announces x e m f h =
      let z = add32 (add32 start (length (slots d))) 1 in
      let r = tx_ring_put w start m f (resting d x g rs e) h y 1 z (λ n j p q r s u. omega (arith, u)) in
      record {
        tx = record { took = h.tx.took; told = h.tx.told; wrote = h.tx.wrote; used = h.tx.used; known = h.tx.known; room = h.tx.room; unique = h.tx.unique; good = h.tx.good };
        tx_head = record {
          req_prod = put_apart m.word (page_word w.tx_frame 1) z (page_word w.tx_frame 0) (λ p q. omega (arith, q)) ∙ h.tx_head.req_prod;
          event = put_same m.word (page_word w.tx_frame 1) z ∙ add_add start (length (slots d)) 1;
          rsp_prod = put_apart m.word (page_word w.tx_frame 1) z (page_word w.tx_frame 2) (λ p q. omega (arith, q)) ∙ h.tx_head.rsp_prod;
        };
        tx_slots = r.tx_slots;
        rx = h.rx;
        rx_head = r.rx_head;
        rx_slots = r.rx_slots;
        reading = r.reading;
        front_notes = r.front_notes;
        heard = λ c. cc;
        awaited = h.awaited;
      }

  abbrev wiring : BackWiring
  wiring = over w v

  abbrev index : ℕ
  index = add32 start (length (slots d))

  good : (x : List Sent) (e : ℕ) (m : Memory) (f : Front) → f.sent ≡ d ++ x → Inv w start m f (resting d x g rs e) → AllOf IsSent x
  good x e m f p h = all_right IsSent d x (subst (AllOf IsSent) p h.tx.good)

  again : (x : List Sent) (m : Memory) (f : Front) (n : ℕ) → f.sent ≡ d ++ x → Inv w start m f (resting d x g rs (length (slots d) + 1)) → length (slots x) ≡ n →
      (b' : Back) × Inv w start m f b' × Looked d g b' (Some n)
  again x m f zero p h c = (slept d g rs, sleeps x m f p c h, (rs, refl))
  again x m f (suc n) p h c = (resting d x g rs (length (slots d) + 1), h, (x, rs, length (slots d) + 1, refl, c, good x (length (slots d) + 1) m f p h))

  kept : (b : Back) (o : Option ℕ) → Looked d g b o → b.given ≡ g
  kept b None h = absurd h
  kept b (Some zero) h = ap (λ c. c.given) h.1
  kept b (Some (suc n)) h = ap (λ c. c.given) h.3

  again_safe : (x : List Sent) → BackSafe w start (HasGiven g) (Looked d g) (resting d x g rs (length (slots d) + 1)) (check_again wiring index)
  again_safe x = λ m f h.
      let k = knows x (length (slots d) + 1) m f h in
      let r = again k.0 m f (length (slots k.0)) k.1 k.2 refl in
      (r.0, r.1, kept r.0 (Some (length (slots k.0))) r.2, λ n q. subst (Looked d g r.0) (sym (sees x k.0 (length (slots d) + 1) m f k.1 h)) r.2)

  seen_safe : (x : List Sent) (e n : ℕ) → AllOf IsSent x → length (slots x) ≡ n → BackSafe w start (HasGiven g) (Looked d g) (resting d x g rs e) (seen wiring index (Some n))
  seen_safe x e zero s c = λ m f h. (resting d x g rs (length (slots d) + 1), announces x e m f h, refl, λ n q. again_safe x)
  seen_safe x e (suc n) s c = (x, rs, e, refl, c, s)

  -- A look never finds an overflow; where it finds nothing the back has said where it stands.
  pub look_safe : (a : List Sent) (e : ℕ) → BackSafe w start (HasGiven g) (Looked d g) (resting d a g rs e) (look wiring index)
  look_safe a e = λ m f h.
      let k = knows a e m f h in
      (resting d k.0 g rs e, k.2, refl, λ n q. subst (λ o. BackSafe w start (HasGiven g) (Looked d g) (resting d k.0 g rs e) (seen wiring index o)) (sym (sees a k.0 e m f k.1 h)) (seen_safe k.0 e (length (slots k.0)) (good k.0 e m f k.1 k.2) refl))
