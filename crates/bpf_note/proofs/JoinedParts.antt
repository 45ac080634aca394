-- Chunks of bounds, and the bounds beside them, joined part by part.
use Rattle.std.proofs.Common.{◌≡◌, ℕ, ◌/◌, ◌<◌, ◌≤◌, Option, List, [], ◌++◌, max, sym, ap, ◌∙◌, arith, subst, length, get_or, ◌⊎◌, inl, inr}
use Rattle.bpf_note.specs.declared.bound.Bound.{Bound}
use Rattle.bpf_note.specs.Join.{lesser}
use Rattle.bpf_note.specs.Parts.{top_in, safe_in}
use Rattle.bpf_note.specs.Bounds.{AreJoined}
use Rattle.bpf_note.specs.Chunks.{together, IsQuiet, AreChunks}
use Rattle.bpf_note.proofs.PlaceLemmas.{le_cases}
use Rattle.bpf_note.proofs.ChunkLemmas.{view_normal, low_says, high_says}
use Rattle.bpf_note.proofs.PartLemmas.{IsAway, where_is, away_quiet}

abbrev Chunks : Type 0
Chunks = List (List Bound)

-- what two lists say of one id, joined
abbrev Joins : ℕ → List Bound → List Bound → List Bound → Type 0
Joins id xs ys zs = (top_in zs id ≡ max (top_in xs id) (top_in ys id)) × (safe_in zs id ≡ lesser (safe_in xs id) (safe_in ys id))

quiet_joins : (id : ℕ) (xs ys zs : List Bound) → IsQuiet xs id → IsQuiet ys id → IsQuiet zs id → Joins id xs ys zs
quiet_joins id xs ys zs x y z =
    let tx = x.0 in let ty = y.0 in let tz = z.0 in
    (omega arith, z.1 ∙ sym (ap (λ (o : Option ℕ). lesser o (safe_in ys id)) x.1))

quiet_joined : (id : ℕ) (xs ys zs : List Bound) → IsQuiet xs id → IsQuiet ys id → Joins id xs ys zs → IsQuiet zs id
quiet_joined id xs ys zs x y j =
    let tx = x.0 in let ty = y.0 in let tz = j.0 in
    (omega arith, j.1 ∙ ap (λ (o : Option ℕ). lesser o (safe_in ys id)) x.1)

abbrev Says : ℕ → List Bound → List Bound → Type 0
Says id xs ys = (top_in xs id ≡ top_in ys id) × (safe_in xs id ≡ safe_in ys id)

-- the same join, of lists that say the same
moved : (id : ℕ) (xs ys zs us vs ws : List Bound) → Says id xs us → Says id ys vs → Says id zs ws → Joins id us vs ws → Joins id xs ys zs
moved id xs ys zs us vs ws x y z j = (
  z.0 ∙ j.0 ∙ ap (λ (t : ℕ). max t (top_in vs id)) (sym x.0) ∙ ap (λ (t : ℕ). max (top_in xs id) t) (sym y.0),
  z.1 ∙ j.1 ∙ ap (λ (o : Option ℕ). lesser o (safe_in vs id)) (sym x.1) ∙ ap (λ (o : Option ℕ). lesser (safe_in xs id) o) (sym y.1),
)

back : (id : ℕ) (xs ys : List Bound) → Says id xs ys → Says id ys xs
back id xs ys s = (sym s.0, sym s.1)

pub joined_chunks : (us bs cs : Chunks) (ha hb hc : List Bound) → AreChunks us ha → AreChunks bs hb → length cs ≤ max (length us) (length bs) →
    ((k : ℕ) → AreJoined (get_or us k []) (get_or bs k []) (get_or cs k [])) → AreJoined ha hb hc → AreChunks cs hc
joined_chunks us bs cs ha hb hc a b few low high =
    let fa = a.few in
    let fb = b.few in
    record {
      few = omega arith;
      chunk = λ k. record {
        normal = (low k).normal;
        below = λ id lt. quiet_joined id (get_or us k []) (get_or bs k []) (get_or cs k []) ((a.chunk k).below id lt) ((b.chunk k).below id lt) ((low k).tops id, (low k).safes id);
        above = λ id ge. quiet_joined id (get_or us k []) (get_or bs k []) (get_or cs k []) ((a.chunk k).above id ge) ((b.chunk k).above id ge) ((low k).tops id, (low k).safes id);
      };
      normal = high.normal;
      quiet = λ id lt. quiet_joined id ha hb hc (a.quiet id lt) (b.quiet id lt) (high.tops id, high.safes id);
    }

pub joined_parts : (us bs cs : Chunks) (ha hb hc : List Bound) → AreChunks us ha → AreChunks bs hb → AreChunks cs hc →
    ((k : ℕ) → AreJoined (get_or us k []) (get_or bs k []) (get_or cs k [])) → AreJoined ha hb hc → AreJoined (together us ++ ha) (together bs ++ hb) (together cs ++ hc)
joined_parts us bs cs ha hb hc a b c low high = record { normal = view_normal cs hc c; tops = λ id. (at id (le_cases 4096 id)).0; safes = λ id. (at id (le_cases 4096 id)).1 }
  where
    at : (id : ℕ) → (4096 ≤ id) ⊎ (id < 4096) → Joins id (together us ++ ha) (together bs ++ hb) (together cs ++ hc)
    at id (inl ge) = moved id _ _ _ ha hb hc (high_says us ha id a ge) (high_says bs hb id b ge) (high_says cs hc id c ge) (high.tops id, high.safes id)
    at id (inr lt) = moved id _ _ _ (get_or us (id / 32) []) (get_or bs (id / 32) []) (get_or cs (id / 32) []) (low_says us ha id a lt) (low_says bs hb id b lt) (low_says cs hc id c lt) ((low (id / 32)).tops id, (low (id / 32)).safes id)

pub parts_joined : (us bs : Chunks) (ha hb : List Bound) → AreChunks us ha → AreChunks bs hb → AreJoined (together us ++ ha) (together bs ++ hb) (together us ++ ha) →
    ((k : ℕ) → AreJoined (get_or us k []) (get_or bs k []) (get_or us k [])) × AreJoined ha hb ha
parts_joined us bs ha hb a b j = (
  λ k. record { normal = (a.chunk k).normal; tops = λ id. (low k id (where_is k id)).0; safes = λ id. (low k id (where_is k id)).1 },
  record { normal = a.normal; tops = λ id. (up id (le_cases 4096 id)).0; safes = λ id. (up id (le_cases 4096 id)).1 },
)
  where
    low : (k id : ℕ) → IsAway k id ⊎ ((id < 4096) × (id / 32 ≡ k)) → Joins id (get_or us k []) (get_or bs k []) (get_or us k [])
    low k id (inl away) =
        let x = away_quiet us ha k id a away in
        let y = away_quiet bs hb k id b away in
        quiet_joins id (get_or us k []) (get_or bs k []) (get_or us k []) x y x
    low k id (inr h) =
        let x = back id _ _ (low_says us ha id a h.0) in
        let y = back id _ _ (low_says bs hb id b h.0) in
        subst (λ (n : ℕ). Joins id (get_or us n []) (get_or bs n []) (get_or us n [])) h.1
        (moved id (get_or us (id / 32) []) (get_or bs (id / 32) []) (get_or us (id / 32) []) (together us ++ ha) (together bs ++ hb) (together us ++ ha) x y x (j.tops id, j.safes id))

    up : (id : ℕ) → (4096 ≤ id) ⊎ (id < 4096) → Joins id ha hb ha
    up id (inl ge) =
        let x = back id _ _ (high_says us ha id a ge) in
        let y = back id _ _ (high_says bs hb id b ge) in
        moved id ha hb ha (together us ++ ha) (together bs ++ hb) (together us ++ ha) x y x (j.tops id, j.safes id)
    up id (inr lt) = quiet_joins id ha hb ha (a.quiet id lt) (b.quiet id lt) (a.quiet id lt)
