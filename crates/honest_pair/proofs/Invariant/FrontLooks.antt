-- Looking for responses is safe.
use Rattle.std.proofs.Common.{◌≡◌, ℕ, zero, suc, ◌+◌, ◌-◌, ◌^◌, ◌<◌, ◌≤◌, refl, sym, ◌∙◌, ap, arith, subst, Option, Some, None}
use Rattle.std.specs.Prelude.{nat_le, if◌then◌else◌}
use Rattle.std.proofs.lemmas.Bool.{le-leb}
use Rattle.xen_buffers.specs.declared.wiring.FrontWiring.{FrontWiring}
use Rattle.xen_front.specs.Slots.{outstanding}
use Rattle.xen_front.specs.Tree.{look, seen}
use Rattle.xen_front.specs.declared.state.Ring.{Ring}
use Rattle.xen_ring.specs.Index.{distance}
use Rattle.xen_steps.specs.Places.{add32, fresh, page_word}
use Rattle.xen_steps.specs.declared.want.Want.TheVariants as want
use Rattle.honest_pair.specs.Invariant.Ghosts.{Front, Back}
use Rattle.honest_pair.specs.Invariant.Inv.{Inv}
use Rattle.honest_pair.specs.Machine.Memory.{Memory, after}
use Rattle.honest_pair.specs.Machine.Safe.{Safe}
use Rattle.honest_pair.proofs.Invariant.FrontPushes.{distance_of}

pub fresh_of : (s c a n : ℕ) → s < 2 ^ 32 → c ≤ a → a ≤ n → n ≤ c + 256 → fresh (add32 s c) (distance (add32 s c) (add32 s n)) (add32 s a) ≡ Some (a - c)
fresh_of s c a n h p q r =
    ap (λ d. if nat_le d (distance (add32 s c) (add32 s n)) then Some d else None) (distance_of s c a h p (omega arith))
    ∙ ap (λ d. if nat_le (a - c) d then Some (a - c) else None) (distance_of s c n h (omega arith) (omega arith))
    ∙ ap (λ t. if t then Some (a - c) else None) (le-leb (a - c) (n - c) (omega arith))

module _ (w : FrontWiring) (start : ℕ) (small : start < 2 ^ 32) {T : Type 0} (tell : T → Front) (size : T → ℕ) (G : T → Type 0) (frame c n : ℕ) where
  -- what a read of the producer teaches
  pub record Told (m : Memory) (b : Back) : Type 0 where
    pub what : T
    pub word : m.word (page_word frame 2) ≡ add32 start (size what)
    pub low : c ≤ size what
    pub high : size what ≤ n
    pub room : n ≤ c + 256
    pub inv : Inv w start m (tell what) b
    pub good : G what

  -- how a look ends
  pub record Looked (f : Front) (o : Option ℕ) : Type 0 where
    pub what : T
    pub ghost : f ≡ tell what
    pub low : c ≤ size what
    pub shown : o ≡ Some (size what - c)
    pub good : G what

  module _ (K : Front → Type 0) (k : (t : T) → K (tell t)) (r : Ring) (cons : r.cons ≡ add32 start c) (prod : r.prod ≡ add32 start n)
      (reads : (t : T) (m : Memory) (b : Back) → Inv w start m (tell t) b → Told m b)
      (writes : (t : T) (v : ℕ) (m : Memory) (b : Back) → Inv w start m (tell t) b → Inv w start (after (want.Write (page_word frame 3) v) m) (tell t) b) where
    shows : (m : Memory) (b : Back) (i : Told m b) → fresh r.cons (outstanding r) (m.word (page_word frame 2)) ≡ Some (size i.what - c)
    shows m b i =
        ap (λ x. fresh x (distance x r.prod) (m.word (page_word frame 2))) cons
        ∙ ap (λ x. fresh (add32 start c) (distance (add32 start c) x) (m.word (page_word frame 2))) prod
        ∙ ap (λ x. fresh (add32 start c) (distance (add32 start c) (add32 start n)) x) i.word
        ∙ fresh_of start c (size i.what) n small i.low i.high i.room

    seen_safe : (t : T) (j : ℕ) → G t → c ≤ size t → size t - c ≡ j → Safe (Inv w start) K Looked (tell t) (seen frame r (Some j))
    seen_safe t zero g p e = λ m b h. (
      tell t,
      writes t (add32 r.cons 1) m b h,
      k t,
      λ a l. λ m1 b1 h1.
          let i = reads t m1 b1 h1 in (tell i.what, i.inv, k i.what, λ d q. record { what = i.what; ghost = refl; low = i.low; shown = shows m1 b1 i; good = i.good }),
    )
    seen_safe t (suc j) g p e = record { what = t; ghost = refl; low = p; shown = ap Some (sym e); good = g }

    pub look_safe : (t : T) → Safe (Inv w start) K Looked (tell t) (look frame r)
    look_safe t = λ m b h.
        let i = reads t m b h in
        (tell i.what, i.inv, k i.what, λ a l. subst (λ o. Safe (Inv w start) K Looked (tell i.what) (seen frame r o)) (sym (shows m b i)) (seen_safe i.what (size i.what - c) i.good i.low refl))
