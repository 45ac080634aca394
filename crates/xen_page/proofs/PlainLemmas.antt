-- A run of words written to plain words.
use Rattle.std.proofs.Common.{◌≡◌, ℕ, ◌+◌, ◌-◌, ◌≤◌, List, [], ◌∷◌, ◌++◌, length, length-drop, take, drop, get_or, set, refl, sym, ◌∙◌, ap, arith, append_assoc, length-append, subst}
use Rattle.std.proofs.lemmas.List.{length-take, set-append_right, take-append-drop}
use borrow.Rule.Slice.PartMut.{put_mid}
use Rattle.xen_page.proofs.RunLemmas.{further}
use Rattle.xen_page.specs.Access.{Passes}
use Rattle.xen_page.specs.Numbered.{index_of}
use Rattle.xen_page.specs.Plain.{Holds}
use Rattle.xen_page.specs.Run.{reads_of, writes_of}
use Rattle.xen_page.specs.declared.place.Place.{Place}

set_behind : (f ys : List ℕ) (n i k y : ℕ) → length f ≡ n → i ≡ n + k → set (f ++ ys) i y ≡ f ++ set ys k y
set_behind f ys n i k y e at =
    set-append_right f ys n i y e (omega (arith, at)) ∙ ap (λ j. f ++ set ys j y) (let q : i - n ≡ k = omega (arith, at) in q)

-- words written one after another, behind those that stay
pub passes_run : (at : Place) (ws front rest : List ℕ) → length front ≡ index_of at → length ws ≤ length rest →
    Passes Holds (front ++ rest) (writes_of at ws) (front ++ (ws ++ drop (length ws) rest))
passes_run at [] front rest here room = refl
passes_run at (w ∷ ws) front [] here room = absurd (omega (arith, room))
passes_run at (w ∷ ws) front (r ∷ rest) here room =
    let next = front ++ w ∷ [] in
    let put = set_behind front (r ∷ rest) (index_of at) (index_of at) 0 w here (omega arith) in
    let seam : (vs : List ℕ) → next ++ vs ≡ front ++ (w ∷ vs) = λ vs. append_assoc front (w ∷ []) vs in
    let behind : length next ≡ index_of (further at 1) = omega (arith, length-append front (w ∷ []), here) in
    let later = passes_run (further at 1) ws next rest behind (omega (arith, room)) in (
      next ++ rest,
      seam rest ∙ sym put,
      subst (λ (l : List ℕ). Passes Holds (next ++ rest) (writes_of (further at 1) ws) l) (seam (ws ++ drop (length ws) rest)) later,
    )

pub passes_put : (at : Place) (ws old : List ℕ) (a k : ℕ) → a ≡ index_of at → k ≡ length ws → index_of at + length ws ≤ length old →
    Passes Holds old (writes_of at ws) (put_mid a k old ws)
passes_put at ws old a k here count room =
    let front = take (index_of at) old in
    let rest = drop (index_of at) old in
    let whole : front ++ rest ≡ old = take-append-drop (index_of at) old in
    let raw = passes_run at ws front rest (omega (arith, length-take (index_of at) old, room)) (omega (arith, length-drop (index_of at) old, room)) in
    rw (here, count) (subst (λ (l : List ℕ). Passes Holds l (writes_of at ws) (put_mid (index_of at) (length ws) old ws)) whole raw)

-- words read one after another
pub passes_reads : (at : Place) (ws front rest old : List ℕ) → length front ≡ index_of at → old ≡ front ++ (ws ++ rest) → Passes Holds old (reads_of at ws) old
passes_reads at [] front rest old here is = refl
passes_reads at (w ∷ ws) front rest old here is =
    let next = front ++ w ∷ [] in
    let word : w ≡ get_or old (index_of at) 0 = sym (ap (λ l. get_or l (index_of at) 0) is ∙ get_or_behind front (w ∷ (ws ++ rest)) (index_of at) here) in
    let behind : length next ≡ index_of (further at 1) = omega (arith, length-append front (w ∷ []), here) in
    (old, (word, refl), passes_reads (further at 1) ws next rest old behind (is ∙ sym (append_assoc front (w ∷ []) (ws ++ rest))))
  where
    get_or_behind : (f ys : List ℕ) (n : ℕ) → length f ≡ n → get_or (f ++ ys) n 0 ≡ get_or ys 0 0
    get_or_behind f ys n e = subst (λ k. get_or (f ++ ys) k 0 ≡ get_or ys 0 0) e (get_or-append-add f ys)
      where
        get_or-append-add : (f ys : List ℕ) → get_or (f ++ ys) (length f) 0 ≡ get_or ys 0 0
        get_or-append-add [] ys = refl
        get_or-append-add (x ∷ f) ys = get_or-append-add f ys

pub passes_taken : (at : Place) (old : List ℕ) (a k : ℕ) → a ≡ index_of at → a + k ≤ length old → Passes Holds old (reads_of at (take k (drop a old))) old
passes_taken at old a k here room =
    let front = take a old in
    let rest = drop k (drop a old) in
    let whole : old ≡ front ++ (take k (drop a old) ++ rest) = sym (ap (λ l. front ++ l) (take-append-drop k (drop a old)) ∙ take-append-drop a old) in
    passes_reads at (take k (drop a old)) front rest old (omega (arith, length-take a old, room, here)) whole
