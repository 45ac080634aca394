-- Stated: claims rest on this file.
-- The line of a settings text at which a key, a row of a list or a key of the row is found.
use Rattle.std.specs.Prelude.{ℕ, suc, ◌+◌, ◌==◌, ◌||◌, List, [], ◌∷◌, length, take, drop, codes, slice_get}
use Rattle.std.specs.Prelude.{Bool, false, not, Option, Some, None, option_and_then, option_map, position, if◌then◌else◌}
use Rattle.std.specs.List.{find, list_any, take_while}
use Rattle.std.specs.Option.{option_map_or, option_or}
use Rattle.std.specs.Str.{bytes_eq}
use Rattle.xdp_load.specs.Document.{Text}

-- ---- what a line begins with

-- TOML's white space: a blank or a tab
abbrev pub is_blank : ℕ → Bool
is_blank b = b == 32 || b == 9

abbrev pub skip_blanks : Text → Text
skip_blanks [] = []
skip_blanks (b ∷ bs) = if is_blank b then skip_blanks bs else b ∷ bs

-- what stands behind a word
abbrev pub behind : Text → Text → Option Text
behind word t = if bytes_eq (take (length word) t) word then Some (drop (length word) t) else None

abbrev pub behind_key : Text → Text → Text → Option Text
behind_key quote key t = option_and_then (behind quote) (option_and_then (behind key) (behind quote t))

abbrev pub begins_with_one : Text → Text → Bool
begins_with_one ends [] = false
begins_with_one ends (b ∷ bs) = list_any (λ e. e == b) ends

-- the key in such quotes, and then one of those bytes
abbrev pub has_quoted : Text → Text → Text → Text → Bool
has_quoted ends key t quote = option_map_or (λ rest. begins_with_one ends (skip_blanks rest)) (behind_key quote key t) false

-- the key, bare or in quotes
abbrev pub has_key : Text → Text → Text → Bool
has_key ends key t = has_quoted ends key t [] || has_quoted ends key t (codes "'") || has_quoted ends key t (34 ∷ [])

-- blanks may stand before each part
abbrev pub opens : Text → Text → Text → Text → Bool
opens opening ends key line = option_map_or (λ rest. has_key ends key (skip_blanks rest)) (behind opening (skip_blanks line)) false

-- a key and its value, or the first part of a dotted key
abbrev pub is_pair : Text → Text → Bool
is_pair key line = opens [] (codes "=.") key line

-- the header of a row of an array of tables
abbrev pub is_row : Text → Text → Bool
is_row name line = opens (codes "[[") (codes "]") name line

-- the header of a table or of a row, or of a table within
abbrev pub is_table : Text → Text → Bool
is_table name line = opens (codes "[") (codes "].") name line || opens (codes "[[") (codes "].") name line

-- `]` comes before any comma
abbrev pub is_closed : Text → Bool
is_closed t = option_map_or (λ b. b == 93) (find (λ b. b == 93 || b == 44) t) false

-- a line that begins with `[` is a header, or else, with a comma first, a part of an array
abbrev pub is_header : Text → Bool
is_header line = option_map_or is_closed (behind (codes "[") (skip_blanks line)) false

-- ---- which line, counted from 0

-- the first line with the key, before any header
abbrev pub pair_line : Text → List Text → Option ℕ
pair_line key ls = position (is_pair key) (take_while (λ l. not (is_header l)) ls)

-- a key of the document: or else the first header with its name
abbrev pub top_line : Text → List Text → Option ℕ
top_line key ls = option_or (pair_line key ls) (position (is_table key) ls)

-- the lines, from n on, that are headers of that list's rows
abbrev pub row_lines : Text → ℕ → List Text → List ℕ
row_lines name n [] = []
row_lines name n (l ∷ ls) = if is_row name l then n ∷ row_lines name (suc n) ls else row_lines name (suc n) ls

-- a key of the row with its header at line i, or else the header
abbrev pub part_line : Option Text → List Text → ℕ → ℕ
part_line None ls i = i
part_line (Some key) ls i = option_map_or (λ k. i + 1 + k) (pair_line key (drop (i + 1) ls)) i

-- a row, or a key of it: where the list is no array of tables, the line of the list
abbrev pub row_line : Text → Option Text → ℕ → List Text → Option ℕ
row_line name part n ls = option_or (option_map (part_line part ls) (slice_get (row_lines name 0 ls) n)) (pair_line name ls)
