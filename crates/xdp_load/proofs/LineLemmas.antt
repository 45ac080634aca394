-- What a line begins with, and which line is found.
use Rattle.std.proofs.Common.{◌≡◌, ◌+◌, ◌-◌, ◌∙◌, Bor, MatchOption, ap, sym, ℕ, List, length, drop, take, map, not, position, Option, Some, None, option_map, true, false}
use Rattle.std.proofs.lemmas.List.{drop-map, take-map}
use Rattle.std.specs.List.{prefix_len}
use Rattle.std.specs.Str.{bytes_eq}
use Rattle.xdp_load.proofs.RowLemmas.{position_map, prefix_map, rest_is}
use Rattle.xdp_load.specs.Document.{Text}
use Rattle.xdp_load.specs.Lines.{behind, is_header, is_pair, pair_line}

pub behind_is : (word t : Text) (r : Option (Bor Text))
    → MatchOption r (bytes_eq (take (length word) t) word ≡ false) (λ x. (bytes_eq (take (length word) t) word ≡ true) × (x.now ≡ drop (length word) t) × (length x.now + length word ≡ length t))
    → option_map (λ x. x.now) r ≡ behind word t
behind_is word t None h = rw h
behind_is word t (Some x) h = rw (h.0, h.1)

-- the lines as they are, and as what they hold
pub pair_map : (key : Text) (ls : List (Bor Text))
    → position (λ l. is_pair key l.now) (take (prefix_len (λ l. not (is_header l.now)) ls) ls) ≡ pair_line key (map (λ l. l.now) ls)
pair_map key ls =
    let n = prefix_len (λ (l : Bor Text). not (is_header l.now)) ls in
    position_map (is_pair key) (λ l. l.now) (take n ls)
    ∙ ap (position (is_pair key)) (sym (take-map (λ l. l.now) n ls))
    ∙ ap (λ m. position (is_pair key) (take m (map (λ (l : Bor Text). l.now) ls))) (prefix_map is_header (λ l. l.now) ls)

-- the lines below a line
pub below_map : (key : Text) (ls : List (Bor Text)) (i : ℕ) → pair_line key (map (λ l. l.now) (take (length ls - i) (drop i ls))) ≡ pair_line key (drop i (map (λ l. l.now) ls))
below_map key ls i = rw (rest_is ls i) (ap (pair_line key) (sym (drop-map (λ l. l.now) i ls)))
