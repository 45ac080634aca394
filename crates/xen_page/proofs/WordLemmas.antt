-- The places of words by their numbers.
use Rattle.std.proofs.Common.{ℕ, ◌≡◌, ◌+◌, ◌*◌, ◌/◌, ◌%◌, ◌<◌, ◌≤◌, ◌∙◌, List, [], ◌∷◌, Option, length, ap, arith, refl, subst}
use Rattle.xen_page.proofs.RunLemmas.{further, length-bytes}
use Rattle.xen_page.specs.Access.{Performs}
use Rattle.xen_page.specs.Numbered.{index_of}
use Rattle.xen_page.specs.Numbered.{place_at}
use Rattle.xen_page.specs.Run.{ReadsRun, reads_of}
use Rattle.xen_page.specs.declared.access.Access.{Access}
use Rattle.xen_page.specs.declared.place.Place.{Place}

-- n words further, within a page
pub place_further : (first n : ℕ) → first % 1024 + n < 1024 → place_at (first + n) ≡ further (place_at first) n
place_further first n h =
    let frame : (first + n) / 1024 ≡ first / 1024 = omega (arith, h) in
    let word : (first + n) % 1024 ≡ first % 1024 + n = omega (arith, h) in
    rw (frame, word) refl

-- a place is that of its word's number
pub place_back : (at : Place) → at.word < 1024 → place_at (index_of at) ≡ at
place_back at h =
    let frame : (at.frame * 1024 + at.word) / 1024 ≡ at.frame = omega (arith, h) in
    let word : (at.frame * 1024 + at.word) % 1024 ≡ at.word = omega (arith, h) in
    rw (frame, word) refl

reads_back : (at : Place) (words : List ℕ) → at.word + length words ≤ 1024 → reads_of (place_at (index_of at)) words ≡ reads_of at words
reads_back at [] h = refl
reads_back at (w ∷ ws) h = ap (λ p. reads_of p (w ∷ ws)) (place_back at (omega (arith, h)))

-- a run from the number of a place on begins at the place
pub run_back : {S : Type 0} (log : S → Option (List Access)) (gives : S → Access → S → Type 0) (at : Place) (first : ℕ) (old : S) (bytes : List ℕ) (new : S) →
    first ≡ index_of at → at.word + length bytes / 4 ≤ 1024 → ReadsRun log gives (place_at first) old bytes new → ReadsRun log gives at old bytes new
run_back log gives at first old bytes new e h run =
    let many : length bytes ≡ 4 * length run.words = ap length run.told ∙ length-bytes run.words in
    let same : reads_of (place_at first) run.words ≡ reads_of at run.words =
    ap (λ n. reads_of (place_at n) run.words) e ∙ reads_back at run.words (omega (arith, many, h)) in
    record {
      words = run.words;
      below = run.below;
      performed = subst (λ t. Performs log gives old t new) same run.performed;
      told = run.told;
    }
