-- Stated: claims rest on this file.
-- The text of what is known of a register, near to the notation of the Linux kernel's verifier log.
use Rattle.std.specs.Prelude.{ℕ, List, [], ◌∷◌, ◌++◌, codes, Option, None, Some, ◌==◌, ◌&&◌, if◌then◌else◌, slice_get}
use Rattle.std.specs.Fmt.{decimal, signed_decimal}
use Rattle.bpf_insn.specs.Register.{number}
use Rattle.bpf_insn.specs.declared.insn.Insn.{Insn}
use Rattle.bpf_insn.specs.declared.register.Register.{Register}
use Rattle.bpf_insn.specs.declared.register.Register.TheVariants.{R0, R1, R2, R3, R4, R5, R6, R7, R8, R9, R10}
use Rattle.bpf_note.specs.Facts.{Facts}
use Rattle.bpf_note.specs.declared.val.Val.{Val}
use Rattle.bpf_note.specs.declared.val.Val.TheVariants.{Unset, Num, Pkt, PktEnd, Stack, Ctx, Map, MaybeValue, Value}
use Rattle.bpf_flow.specs.Graph.{reads}

-- the packet's start is id 0; any other id is the slot that made it
abbrev pub id_text : ℕ → List ℕ
id_text id = if id == 0xFFFF then codes "0" else decimal id

-- how many bytes from an id's base on were compared with the packet's end
abbrev pub safe_number : Option ℕ → ℕ
safe_number None = 0
safe_number (Some n) = n

-- a number that is known, any number, or one of a range
abbrev pub range_text : ℕ → ℕ → List ℕ
range_text lo hi =
    if lo == hi then decimal lo
    else if (lo == 0) && (hi == 0xFFFFFFFFFFFFFFFF) then codes "scalar()"
    else codes "scalar(umin=" ++ decimal lo ++ codes ",umax=" ++ decimal hi ++ codes ")"

-- a map by its name in the settings, else by its number
abbrev pub map_text : Option (List ℕ) → ℕ → List ℕ
map_text None m = decimal m
map_text (Some name) m = name

-- a value with the safe bound of its id: `pkt(id=0,off=14,r=34)`
abbrev pub value_text : List (List ℕ) → Val → Option ℕ → List ℕ
value_text names Unset safe = codes "unset"
value_text names (Num lo hi) safe = range_text lo hi
value_text names (Pkt id off) safe = codes "pkt(id="
    ++ (id_text id ++ (codes ",off=" ++ (decimal off ++ (codes ",r=" ++ (decimal (safe_number safe) ++ codes ")")))))
value_text names PktEnd safe = codes "pkt_end"
value_text names (Stack off) safe = codes "fp" ++ signed_decimal off
value_text names Ctx safe = codes "ctx"
value_text names (Map m) safe = codes "map_ptr(map=" ++ (map_text (slice_get names m) m ++ codes ")")
value_text names (MaybeValue m id) safe = codes "map_value_or_null(id="
    ++ (decimal id ++ (codes ",map=" ++ (map_text (slice_get names m) m ++ codes ")")))
value_text names (Value m) safe = codes "map_value(map=" ++ (map_text (slice_get names m) m ++ codes ")")

-- the safe bound of the id that an address in the packet carries
abbrev pub bound_of : Facts → Val → Option ℕ
bound_of n (Pkt id off) = n.safe id
bound_of n v = None

-- a value by what else is known
abbrev pub known_text : List (List ℕ) → Facts → Val → List ℕ
known_text names n v = value_text names v (bound_of n v)

-- what is known of a register: `R2=pkt(id=0,off=14,r=0)`
abbrev pub register_text : List (List ℕ) → Facts → ℕ → List ℕ
register_text names n k = codes "R" ++ (decimal k ++ (codes "=" ++ known_text names n (n.reg k)))

-- a register that the instruction reads, after two spaces
abbrev pub read_text : List (List ℕ) → Insn → Facts → Register → List ℕ
read_text names i n r = if reads i (number r) then codes "  " ++ register_text names n (number r) else []

-- those of some registers that the instruction reads
abbrev pub reads_text : List (List ℕ) → Insn → Facts → List Register → List ℕ
reads_text names i n [] = []
reads_text names i n (r ∷ rs) = read_text names i n r ++ reads_text names i n rs

abbrev pub all_registers : List Register
all_registers = R0 ∷ R1 ∷ R2 ∷ R3 ∷ R4 ∷ R5 ∷ R6 ∷ R7 ∷ R8 ∷ R9 ∷ R10 ∷ []
