-- Stated: claims rest on this file.
-- What is said of a spot of settings.
use Rattle.std.specs.Prelude.{ℕ, ◌+◌, ◌≡◌, ◌≤◌, ◌==◌, List, [], ◌++◌, length, take, count_by, codes, decimal, Option, None, Some}
use Rattle.std.specs.Option.{option_map_or}
use Rattle.std.specs.Str.Lines.{lines}
use Rattle.xdp_load.specs.Document.{Text}
use Rattle.xdp_load.specs.Keys.{allowed, list_name, part_name}
use Rattle.xdp_load.specs.Lines.{row_line, top_line}
use Rattle.xdp_load.specs.Setup.{text_of}
use Rattle.xdp_load.specs.Spot.{Spot, at, row, stopped, unknown, whole}

abbrev pub part_text : Option Text → List ℕ
part_text None = []
part_text (Some part) = codes ", " ++ part

abbrev pub spot_text : Spot → List ℕ
spot_text whole = codes "text: at most 1048576 bytes of UTF-8\n"
spot_text stopped = []
spot_text (at k) = list_name k ++ (codes ": " ++ (allowed k ++ codes "\n"))
spot_text (row k n) = list_name k ++ (codes " " ++ (decimal n ++ (part_text (part_name k) ++ (codes ": " ++ (allowed k ++ codes "\n")))))
spot_text (unknown name) = name ++ codes ": no key of settings\n"

-- ---- the line of the text

-- the line of a spot, counted from 0, where one is found
abbrev pub spot_number : Spot → List Text → Option ℕ
spot_number whole ls = None
spot_number stopped ls = None
spot_number (at k) ls = top_line (list_name k) ls
spot_number (row k n) ls = row_line (list_name k) (part_name k) n ls
spot_number (unknown name) ls = top_line name ls

abbrev pub numbered : Option ℕ → List ℕ → List ℕ
numbered None said = said
numbered (Some n) said = codes "line " ++ (decimal (n + 1) ++ (codes ": " ++ said))

-- the number of the line that holds the byte at that place, from 1
abbrev pub line_at : ℕ → List ℕ → ℕ
line_at n bytes = count_by (λ b. b == 10) (take n bytes) + 1

abbrev pub syntax_text : ℕ → List ℕ → List ℕ
syntax_text n bytes = codes "line " ++ (decimal (line_at n bytes) ++ codes ": no TOML begins or goes on here\n")

-- some line of the text, where TOML's reader stopped
abbrev pub IsSyntaxLine : List ℕ → List ℕ → Type 0
IsSyntaxLine bytes s = (n : ℕ) × (n ≤ length bytes) × (s ≡ syntax_text n bytes)

-- the lines of the settings, if they are a text
abbrev pub lines_in : List ℕ → List Text
lines_in bytes = option_map_or lines (text_of bytes) []

-- the line that says what is allowed at a spot of settings, and where it is found
abbrev pub IsSpotText : Spot → List ℕ → List ℕ → Type 0
IsSpotText stopped bytes s = IsSyntaxLine bytes s
IsSpotText spot bytes s = s ≡ numbered (spot_number spot (lines_in bytes)) (spot_text spot)
