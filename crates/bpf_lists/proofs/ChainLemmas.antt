-- Rows in chains.
use Rattle.std.proofs.Common.{◌≡◌, ◌≢◌, ℕ, ◌+◌, ◌-◌, ◌*◌, ◌/◌, ◌^◌, ◌<◌, ◌≤◌, inl, inr, Bool, true, false, List, [], ◌∷◌, ◌++◌, None, length, slice_index, set, replicate, arith, sym, ◌∙◌, ap, subst, refl}
use Rattle.std.specs.Prelude.{nat_eq}
use Rattle.std.proofs.lemmas.Nat.{mul-le}
use Rattle.std.proofs.lemmas.Bool.Decides.{nat_tests}
use Rattle.std.proofs.lemmas.List.{length-append, length-set, length-replicate, get_or-replicate, get_or-set_other, get_or_push, get_or_append_left}
use Rattle.std.proofs.lemmas.Grind.{get_or-set_at}
use Rattle.bpf_note.specs.declared.key.KeyKind.{KeyKind}
use Rattle.bpf_note.specs.declared.key.KeyKind.TheVariants.{Exact}
use Rattle.bpf_lists.specs.Keys.{row, count, Holds, IsLongest, IsFound}
use Rattle.bpf_lists.specs.Chains.{chain_of, IsTop, AreChains}
use Rattle.bpf_lists.proofs.NestLemmas.{le_or_lt}

pub no_chains : (kind : KeyKind) (keys heads links : List ℕ) (n : ℕ) → n ≤ 65536 → heads ≡ replicate (2 * n + 1) 0 → links ≡ [] → AreChains kind keys (2 * n + 1) 0 heads links
no_chains kind keys heads links n few e f = record {
  some = omega arith;
  few = omega arith;
  wide = ap length e ∙ length-replicate (2 * n + 1) 0;
  long = ap length f;
  begin = λ c lt. subst (λ a. IsTop kind keys (2 * n + 1) c 0 a) (sym (ap (λ xs. slice_index xs c) e ∙ get_or-replicate (2 * n + 1) c 0 0 lt))
      (record { most = omega arith; last = λ r none same. absurd (omega (arith, none)); there = λ some. absurd (omega (arith, some)) });
  before = λ r none. absurd (omega (arith, none));
}

-- one row more, which isn't in this chain
top_kept : (kind : KeyKind) (keys : List ℕ) (chains c n above : ℕ) → IsTop kind keys chains c n above → (chain_of (row kind keys n) chains ≡ c → ⊥) → IsTop kind keys chains c (n + 1) above
top_kept kind keys chains c n above h other = record {
  most = omega (arith, h.most);
  last = λ r lt same. elim (le_or_lt n r) as (λ x. r < above) [
    | inl le ↦ (let last : r ≡ n = omega (arith, le, lt) in absurd (other (subst (λ r. chain_of (row kind keys r) chains ≡ c) last same)))
    | inr less ↦ h.last r less same
  ];
  there = h.there;
}

-- one row more, which is
top_next : (kind : KeyKind) (keys : List ℕ) (chains c n : ℕ) → chain_of (row kind keys n) chains ≡ c → IsTop kind keys chains c (n + 1) (n + 1)
top_next kind keys chains c n same =
    let here : n ≡ n + 1 - 1 = omega arith in
    record { most = omega arith; last = λ r lt e. lt; there = λ some. subst (λ r. chain_of (row kind keys r) chains ≡ c) here same }

pub chains_more : (kind : KeyKind) (keys heads links : List ℕ) (chains n b : ℕ) → AreChains kind keys chains n heads links → b ≡ chain_of (row kind keys n) chains → b < chains →
    AreChains kind keys chains (n + 1) (set heads b (n + 1)) (links ++ slice_index heads b ∷ [])
chains_more kind keys heads links chains n b h is within = record {
  some = h.some;
  few = h.few;
  wide = length-set heads b (n + 1) ∙ h.wide;
  long = length-append links (slice_index heads b ∷ []) ∙ ap (λ (m : ℕ). m + 1) h.long;
  begin = λ c lt. begins c lt (nat_eq c b) refl;
  before = λ r lt. elim (le_or_lt n r) as (λ x. IsTop kind keys chains (chain_of (row kind keys r) chains) r (slice_index (links ++ slice_index heads b ∷ []) r)) [
    | inl le ↦
        let last : r ≡ length links = omega (arith, le, lt, h.long) in
        let top : IsTop kind keys chains (chain_of (row kind keys n) chains) n (slice_index heads b) = subst (λ c. IsTop kind keys chains c n (slice_index heads b)) is (h.begin b within) in
        subst (λ a. IsTop kind keys chains (chain_of (row kind keys r) chains) r a) (sym (get_or_push links (slice_index heads b) 0 r (sym last)))
        (subst (λ m. IsTop kind keys chains (chain_of (row kind keys m) chains) m (slice_index heads b)) (sym (last ∙ h.long)) top)
    | inr less ↦
        let inside : r < length links = omega (arith, less, h.long) in
        subst (λ a. IsTop kind keys chains (chain_of (row kind keys r) chains) r a) (sym (get_or_append_left links (slice_index heads b ∷ []) 0 r inside)) (h.before r less)
  ];
}
  where
    inside : b < length heads
    inside = omega (arith, within, h.wide)

    begins : (c : ℕ) → c < chains → (e : Bool) → nat_eq c b ≡ e → IsTop kind keys chains c (n + 1) (slice_index (set heads b (n + 1)) c)
    begins c lt true e =
        let here : c ≡ b = grind (arith, nat_tests) in
        subst (λ a. IsTop kind keys chains c (n + 1) a) (sym (get_or-set_at heads b c (n + 1) 0 here inside)) (top_next kind keys chains c n (sym is ∙ sym here))
    begins c lt false e =
        let other : c ≢ b = grind (arith, nat_tests) in
        subst (λ a. IsTop kind keys chains c (n + 1) a) (sym (get_or-set_other heads b c (n + 1) 0 other)) (top_kept kind keys chains c n (slice_index heads c) (h.begin c lt) (λ same. other (sym (is ∙ same))))

-- each row with the key lies below a row of its chain, or there is none
pub record IsNear (kind : KeyKind) (keys key : List ℕ) (chains above : ℕ) : Type 0 where
  pub most : above ≤ count kind keys
  pub last : (r : ℕ) → r < count kind keys → row kind keys r ≡ key → r < above
  pub there : 0 < above → chain_of (row kind keys (above - 1)) chains ≡ chain_of key chains

pub near_first : (kind : KeyKind) (keys key heads links : List ℕ) (chains c : ℕ) → AreChains kind keys chains (count kind keys) heads links → c ≡ chain_of key chains → c < chains → IsNear kind keys key chains (slice_index heads c)
near_first kind keys key heads links chains c h is within =
    let top = h.begin c within in
    record {
      most = top.most;
      last = λ r lt same. top.last r lt (ap (λ k. chain_of k chains) same ∙ sym is);
      there = λ some. top.there some ∙ is;
    }

pub near_next : (kind : KeyKind) (keys key heads links : List ℕ) (chains above : ℕ) → AreChains kind keys chains (count kind keys) heads links → IsNear kind keys key chains above → 0 < above →
    (row kind keys (above - 1) ≡ key → ⊥) → IsNear kind keys key chains (slice_index links (above - 1))
near_next kind keys key heads links chains above h near some other =
    let top = h.before (above - 1) (omega (arith, near.most, some)) in
    record {
      most = omega (arith, top.most, near.most);
      last = λ r lt same. elim (le_or_lt (above - 1) r) as (λ x. r < slice_index links (above - 1)) [
        | inl le ↦ (let last : r ≡ above - 1 = omega (arith, le, near.last r lt same) in absurd (other (subst (λ r. row kind keys r ≡ key) last same)))
        | inr less ↦ top.last r less (ap (λ k. chain_of k chains) same ∙ sym (near.there some))
      ];
      there = λ more. top.there more ∙ near.there some;
    }

-- what is found of an exact key
pub exact_holds : (kind : KeyKind) (bytes : ℕ) (r key : List ℕ) → kind ≡ Exact bytes → Holds kind r key → r ≡ key
exact_holds kind bytes r key e h = subst (λ k. Holds k r key) e h

exact_row : (bytes : ℕ) (keys key : List ℕ) (r : ℕ) → r < count (Exact bytes) keys → row (Exact bytes) keys r ≡ key → IsLongest (Exact bytes) keys key r
exact_row bytes keys key r lt same = record { within = lt; holds = same; longest = λ s less h. omega arith }

pub exact_found : (kind : KeyKind) (bytes : ℕ) (keys key : List ℕ) (r : ℕ) → kind ≡ Exact bytes → r < count kind keys → row kind keys r ≡ key → IsLongest kind keys key r
exact_found kind bytes keys key r e = subst (λ k. r < count k keys → row k keys r ≡ key → IsLongest k keys key r) (sym e) (exact_row bytes keys key r)

pub exact_none : (kind : KeyKind) (bytes : ℕ) (keys key : List ℕ) (chains : ℕ) → kind ≡ Exact bytes → IsNear kind keys key chains 0 → IsFound kind keys key None
exact_none kind bytes keys key chains e near s s_in h = absurd (omega (arith, near.last s s_in (exact_holds kind bytes (row kind keys s) key e h)))

-- the high half of a number, of so many
pub chain_below : (x n : ℕ) → x < 4294967296 → 0 < n → x * n / 4294967296 < n
chain_below x n small some =
    let most : x * n ≤ 4294967295 * n = mul-le x n 4294967295 n (omega (arith, small)) (omega arith) in
    omega (arith, most, some)

pub product_fits : (x n : ℕ) → x < 4294967296 → n ≤ 131073 → x * n < 2 ^ 64
product_fits x n small few =
    let most : x * n ≤ 4294967295 * 131073 = mul-le x n 4294967295 131073 (omega (arith, small)) few in
    omega (arith, most)
