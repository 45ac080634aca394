-- Words that are read or written one after another.
use Rattle.std.proofs.Common.{◌≡◌, ℕ, suc, ◌+◌, ◌*◌, ◌/◌, ◌%◌, ◌<◌, ◌^◌, List, [], ◌∷◌, ◌++◌, refl, sym, ap, ◌∙◌, length, take, take-take, drop, get_or, arith}
use Rattle.std.proofs.lemmas.List.{drop-drop, drop-take, get_or-drop, get_or-take}
use Rattle.std.specs.Int.{w32, to_le_bytes}
use Rattle.std.specs.List.{flat_map}
use Rattle.std.specs.Prelude.{All, slice_index}
use Rattle.xen_netif.specs.Copy.{bytes_of}
use Rattle.xen_page.specs.Mapping.{frame_place}
use Rattle.xen_page.specs.Run.{reads_of, writes_of}
use Rattle.xen_page.specs.declared.access.Access.TheVariants as access
use Rattle.xen_page.specs.declared.place.Place.{Place}
use Rattle.xen_steps.specs.Drive.{accesses}
use Rattle.xen_steps.specs.Pages.{AreWords}
use Rattle.xen_steps.specs.Places.{page_word}
use Rattle.xen_rx_fill.specs.Packets.{word_of}
use Rattle.xen_host.specs.Asks.{reads_at, writes_at}
use Rattle.xen_host.specs.Buses.{behind}
use Rattle.xen_host.specs.Filling.{packet_words}

pub behind_none : (at : Place) → behind at 0 ≡ at
behind_none at = let z : at.word + 0 ≡ at.word = omega arith in ap (λ w. page_word at.frame w) z

pub reads_append : (at : Place) (ws vs : List ℕ) → accesses (reads_at at (ws ++ vs)) ≡ accesses (reads_at at ws) ++ accesses (reads_at (behind at (length ws)) vs)
reads_append at [] vs = ap (λ (p : Place). accesses (reads_at p vs)) (sym (behind_none at))
reads_append at (w ∷ ws) vs =
    let z : at.word + 1 + length ws ≡ at.word + suc (length ws) = omega arith in
    ap (λ l. access.Read at w ∷ l) (reads_append (frame_place at) ws vs ∙ ap (λ k. accesses (reads_at (frame_place at) ws) ++ accesses (reads_at (page_word at.frame k) vs)) z)

pub writes_append : (at : Place) (ws vs : List ℕ) → accesses (writes_at at (ws ++ vs)) ≡ accesses (writes_at at ws) ++ accesses (writes_at (behind at (length ws)) vs)
writes_append at [] vs = ap (λ (p : Place). accesses (writes_at p vs)) (sym (behind_none at))
writes_append at (w ∷ ws) vs =
    let z : at.word + 1 + length ws ≡ at.word + suc (length ws) = omega arith in
    ap (λ l. access.Write at w ∷ l) (writes_append (frame_place at) ws vs ∙ ap (λ k. accesses (writes_at (frame_place at) ws) ++ accesses (writes_at (page_word at.frame k) vs)) z)

-- a run of a bus is these events
pub reads_run : (at : Place) (ws : List ℕ) → reads_of at ws ≡ accesses (reads_at at ws)
reads_run at [] = refl
reads_run at (w ∷ ws) = ap (λ l. access.Read at w ∷ l) (reads_run (frame_place at) ws)

pub writes_run : (at : Place) (ws : List ℕ) → writes_of at ws ≡ accesses (writes_at at ws)
writes_run at [] = refl
writes_run at (w ∷ ws) = ap (λ l. access.Write at w ∷ l) (writes_run (frame_place at) ws)

pub run_below : (ws : List ℕ) → All (λ w. w < 2 ^ 32) ws → AreWords ws
run_below [] h = tt
run_below (w ∷ ws) h = (h 0 0 (omega arith), run_below ws (λ k d lt. h (suc k) d (omega (arith, lt))))

pub run_bytes : (ws : List ℕ) → flat_map (to_le_bytes w32) ws ≡ bytes_of ws
run_bytes [] = refl
run_bytes (w ∷ ws) = ap (λ l. to_le_bytes w32 w ++ l) (run_bytes ws)

pub words_append : (ws vs : List ℕ) → AreWords ws → AreWords vs → AreWords (ws ++ vs)
words_append [] vs b c = c
words_append (w ∷ ws) vs b c = (b.0, words_append ws vs b.1 c)

-- ---- the words of a packet, by their bytes

-- a byte of a word
byte_told : (packet : List ℕ) (k w j : ℕ) → to_le_bytes w32 w ≡ take 4 (drop (4 * k) packet) → j < 4 → get_or (to_le_bytes w32 w) j 0 ≡ slice_index packet (4 * k + j)
byte_told packet k w j e h = ap (λ l. get_or l j 0) e ∙ get_or-take 4 (drop (4 * k) packet) j 0 h ∙ get_or-drop (4 * k) packet j 0

-- a word whose bytes are the packet's
word_told : (packet : List ℕ) (k w : ℕ) → w < 2 ^ 32 → to_le_bytes w32 w ≡ take 4 (drop (4 * k) packet) → w ≡ word_of packet k
word_told packet k w small e =
    let first : slice_index packet (4 * k) ≡ w % 256 = ap (slice_index packet) (let z : 4 * k ≡ 4 * k + 0 = omega arith in z) ∙ sym (byte_told packet k w 0 e (omega arith)) in
    let second : slice_index packet (4 * k + 1) ≡ w / 256 % 256 = sym (byte_told packet k w 1 e (omega arith)) in
    let third : slice_index packet (4 * k + 2) ≡ w / 65536 % 256 = sym (byte_told packet k w 2 e (omega arith)) in
    let fourth : slice_index packet (4 * k + 3) ≡ w / 16777216 % 256 = sym (byte_told packet k w 3 e (omega arith)) in
    omega (arith, first, second, third, fourth, small)

pub run_words : (packet ws : List ℕ) (k : ℕ) → All (λ w. w < 2 ^ 32) ws → flat_map (to_le_bytes w32) ws ≡ take (4 * length ws) (drop (4 * k) packet) → ws ≡ packet_words packet k (length ws)
run_words packet [] k below told = refl
run_words packet (w ∷ ws) k below told =
    let l = drop (4 * k) packet in
    let n = length ws in
    let four : 4 * suc n ≡ 4 + 4 * n = omega arith in
    let first : to_le_bytes w32 w ≡ take 4 l = ap (take 4) told ∙ take-take 4 (4 * suc n) l (omega arith) in
    let rest : flat_map (to_le_bytes w32) ws ≡ take (4 * n) (drop 4 l) = ap (drop 4) (told ∙ ap (λ m. take m l) four) ∙ drop-take 4 (4 * n) l in
    let next : drop 4 l ≡ drop (4 * (k + 1)) packet = drop-drop 4 (4 * k) packet ∙ ap (λ m. drop m packet) (let q : 4 * k + 4 ≡ 4 * (k + 1) = omega arith in q) in
    let later = run_words packet ws (k + 1) (λ m d lt. below (suc m) d (omega (arith, lt))) (rest ∙ ap (take (4 * n)) next) in
    ap (λ v. v ∷ ws) (word_told packet k w (below 0 0 (omega arith)) first) ∙ ap (λ m. word_of packet k ∷ m) later
