-- The definitions, computed on small programs. No proof uses these; they are checked with the crate, and show what the definitions say.
use Rattle.std.proofs.Common.{◌≡◌, ◌^◌, ◌-◌, ◌+◌, ◌*◌, ℕ, Bool, zero, suc, List, [], ◌∷◌, Option, Some, None, refl, true, false}
use Rattle.std.specs.Prelude.{pos, negsuc, if◌then◌else◌, ◌==◌}
use Rattle.bpf_insn.specs.Arithmetic.{computed}
use Rattle.bpf_insn.specs.Conditions.{is_met}
use Rattle.bpf_insn.specs.Extension.{extended}
use Rattle.bpf_insn.specs.declared.register.Register.TheVariants.{R0, R1, R2, R3, R4, R10}
use Rattle.bpf_insn.specs.declared.operand.Operand.TheVariants.{Register, Immediate}
use Rattle.bpf_insn.specs.declared.alu_op.AluOp.TheVariants as ops
use Rattle.bpf_insn.specs.declared.size.Size.{Size}
use Rattle.bpf_insn.specs.declared.size.Size.TheVariants.{Byte, Half, Word}
use Rattle.bpf_insn.specs.declared.condition.Condition.TheVariants.{Greater, Equal}
use Rattle.bpf_insn.specs.declared.insn.Insn.{Insn}
use Rattle.bpf_insn.specs.declared.insn.Insn.TheVariants.{Alu, Const, MapRef, Ldx, St, AddCounter, Jump, Call, Exit, Second}
use Rattle.bpf_note.specs.declared.key.KeyKind.TheVariants.{Exact}
use Rattle.bpf_note.specs.declared.key.MapKey.TheVariants.{Index, Listed, Constants}
use Rattle.bpf_note.specs.Shape.{Shape}
use Rattle.bpf_note.specs.State.{State, start_register}
use Rattle.bpf_note.specs.Bytes.{number_of, put_bytes}
use Rattle.bpf_note.specs.Constants.{bytes_left}
use Rattle.bpf_note.specs.Regions.{region, is_part, counter_address}
use Rattle.bpf_flow.specs.Step.{Outcome, Next, Loads, Adds, Exited, Fault, step}

-- each list has one key, of two bytes
rows : ℕ → List ℕ → Option ℕ
rows m key = if number_of key == 0x1122 then Some 1 else None

start : List Shape → List ℕ → State
start shapes packet = record { pc = 0; reg = start_register; stack = λ i. None; packet = packet; ifindex = 0; queue = 0; shapes = shapes; find = rows }

-- an answer of a counter is 0 here
next : Outcome → (State → Outcome) → Outcome
next (Next t) go = go t
next (Loads m k j to) go = go (to 0)
next (Adds m k j d to) go = go (to 0)
next (Exited x) go = Exited x
next Fault go = Fault

-- the outcome after n steps and one more
after : List Insn → ℕ → State → Outcome
after code zero s = step code s
after code (suc n) s = next (step code s) (after code n)

-- looks at the first byte where the packet has 14
looks : List Insn
looks =
    Ldx Word false R2 R1 (pos 0) ∷ Ldx Word false R3 R1 (pos 4) ∷ Alu ops.Mov true R4 (Register R2) ∷ Alu ops.Add true R4 (Immediate (pos 14))
    ∷ Jump Greater true R4 (Register R3) (pos 3) ∷ Ldx Byte false R0 R2 (pos 0) ∷ Alu ops.Mov true R0 (Immediate (pos 2)) ∷ Exit
    ∷ Alu ops.Mov true R0 (Immediate (pos 1)) ∷ Exit ∷ []

fourteen_bytes_pass : after looks 7 (start [] (0 ∷ 1 ∷ 2 ∷ 3 ∷ 4 ∷ 5 ∷ 6 ∷ 7 ∷ 8 ∷ 9 ∷ 10 ∷ 11 ∷ 12 ∷ 13 ∷ [])) ≡ Exited 2
unfolding computed is_met region is_part bytes_left extended start next after looks
fourteen_bytes_pass = refl

thirteen_bytes_drop : after looks 6 (start [] (0 ∷ 1 ∷ 2 ∷ 3 ∷ 4 ∷ 5 ∷ 6 ∷ 7 ∷ 8 ∷ 9 ∷ 10 ∷ 11 ∷ 12 ∷ [])) ≡ Exited 1
unfolding computed is_met region is_part bytes_left extended start next after looks
thirteen_bytes_drop = refl

-- counts in value 1 of a map
counts : List Insn
counts =
    St Word R10 (negsuc 3) (pos 1) ∷ Alu ops.Mov true R2 (Register R10) ∷ Alu ops.Add true R2 (Immediate (negsuc 3)) ∷ MapRef R1 0 ∷ Second
    ∷ Call (pos 1) ∷ Jump Equal true R0 (Immediate (pos 0)) (pos 2) ∷ Alu ops.Mov true R1 (Immediate (pos 1)) ∷ AddCounter false R0 R1 (pos 0)
    ∷ Alu ops.Mov true R0 (Immediate (pos 2)) ∷ Exit ∷ []

is_add : Outcome → List ℕ
is_add (Adds m k j d go) = m ∷ k ∷ j ∷ d ∷ []
is_add o = []

two_values : List Shape
two_values = record { entries = 2; counters = 1; key = Index; parts = false } ∷ []

adds_1_to_value_1 : is_add (after counts 7 (start two_values [])) ≡ 0 ∷ 1 ∷ 0 ∷ 1 ∷ []
unfolding computed is_met region put_bytes extended start next after counts is_add two_values
adds_1_to_value_1 = refl

then_passes : after counts 9 (start two_values []) ≡ Exited 2
unfolding computed is_met region put_bytes extended start next after counts two_values
then_passes = refl

-- counts in the value of a key of two bytes, if it has one
counts_key : ℕ → List Insn
counts_key key =
    St Half R10 (negsuc 1) (pos key) ∷ Alu ops.Mov true R2 (Register R10) ∷ Alu ops.Add true R2 (Immediate (negsuc 1)) ∷ MapRef R1 0 ∷ Second
    ∷ Call (pos 1) ∷ Jump Equal true R0 (Immediate (pos 0)) (pos 2) ∷ Alu ops.Mov true R1 (Immediate (pos 1)) ∷ AddCounter false R0 R1 (pos 0)
    ∷ Alu ops.Mov true R0 (Immediate (pos 2)) ∷ Exit ∷ []

two_keys : List Shape
two_keys = record { entries = 2; counters = 1; key = Listed (Exact 2); parts = false } ∷ []

adds_1_to_row_1 : is_add (after (counts_key 0x1122) 7 (start two_keys [])) ≡ 0 ∷ 1 ∷ 0 ∷ 1 ∷ []
unfolding computed is_met region put_bytes extended start next after counts_key is_add two_keys rows
adds_1_to_row_1 = refl

finds_no_row : after (counts_key 0x1123) 7 (start two_keys []) ≡ Exited 2
unfolding computed is_met region put_bytes extended start next after counts_key two_keys rows
finds_no_row = refl

-- constants 0x11 0x22 0x33 0x44 0x55 of map 1, the last byte by its address, then all but the first as a number (RFC 9669, section 5: little-endian)
constants : ℕ → List ℕ → Option ℕ
constants m key = if m == 1 then Some (17 + 17 * number_of key) else None

reading : List Shape → State
reading shapes = record { pc = 0; reg = start_register; stack = λ i. None; packet = []; ifindex = 0; queue = 0; shapes = shapes; find = constants }

array_and_constants : List Shape
array_and_constants = record { entries = 2; counters = 1; key = Index; parts = false } ∷ record { entries = 1; counters = 1; key = Constants 5; parts = false } ∷ []

reads_at : ℕ → Bool → Size → List Insn
reads_at address signed size = Const R1 address ∷ Second ∷ Ldx size signed R0 R1 (pos 0) ∷ Exit ∷ []

last_byte : after (reads_at 0x38010004 false Byte) 2 (reading array_and_constants) ≡ Exited 0x55
unfolding computed is_met region is_part bytes_left extended reading next after reads_at array_and_constants constants
last_byte = refl

four_bytes : after (reads_at 0x38010001 false Word) 2 (reading array_and_constants) ≡ Exited 0x55443322
unfolding computed is_met region is_part bytes_left extended reading next after reads_at array_and_constants constants
four_bytes = refl

past_the_end : after (reads_at 0x38010002 false Word) 2 (reading array_and_constants) ≡ Fault
unfolding computed is_met region is_part bytes_left extended reading next after reads_at array_and_constants constants
past_the_end = refl

of_no_constants : after (reads_at 0x38000000 false Byte) 2 (reading array_and_constants) ≡ Fault
unfolding computed is_met region is_part bytes_left extended reading next after reads_at array_and_constants constants
of_no_constants = refl

-- what a load finds where a counter holds x: the counter, and the number that the register gets
held : Option ℕ → List ℕ
held None = []
held (Some y) = y ∷ []

found_in : ℕ → Outcome → List ℕ
found_in x (Loads m k j go) = m ∷ k ∷ j ∷ held ((go x).reg 0)
found_in x o = []

two_counters : Bool → List Shape
two_counters parts = record { entries = 1; counters = 2; key = Index; parts = parts } ∷ []

-- bytes 2 and 3 of counter 1, then its last byte, as a number and with its sign (RFC 9669, section 5)
two_bytes : found_in 0x8877665544332211 (after (reads_at 0x4000000A false Half) 1 (reading (two_counters true))) ≡ 0 ∷ 0 ∷ 1 ∷ 0x4433 ∷ []
unfolding computed is_met region is_part bytes_left extended reading next after reads_at constants held found_in two_counters
two_bytes = refl

eighth_byte : found_in 0x8877665544332211 (after (reads_at 0x4000000F false Byte) 1 (reading (two_counters true))) ≡ 0 ∷ 0 ∷ 1 ∷ 0x88 ∷ []
unfolding computed is_met region is_part bytes_left extended reading next after reads_at constants held found_in two_counters
eighth_byte = refl

signed_byte : found_in 0x8877665544332211 (after (reads_at 0x4000000F true Byte) 1 (reading (two_counters true))) ≡ 0 ∷ 0 ∷ 1 ∷ (2 ^ 64 - 0x78) ∷ []
unfolding computed is_met region is_part bytes_left extended reading next after reads_at constants held found_in two_counters
signed_byte = refl

-- no load takes bytes of two counters, or a part where the map has none
of_two_counters : after (reads_at 0x40000006 false Word) 1 (reading (two_counters true)) ≡ Fault
unfolding computed is_met region is_part bytes_left extended reading next after reads_at constants two_counters
of_two_counters = refl

of_a_whole_counter : after (reads_at 0x40000000 false Word) 1 (reading (two_counters false)) ≡ Fault
unfolding computed is_met region is_part bytes_left extended reading next after reads_at constants two_counters
of_a_whole_counter = refl

-- small maps lie 64 KiB apart from 0x40000000 on, others 4 MiB apart from 0x40400000 on
addresses : (counter_address (record { entries = 1024; counters = 8; key = Index; parts = false }) 3 1023 7 ≡ 0x4003FFF8)
    × (counter_address (record { entries = 1025; counters = 8; key = Index; parts = false }) 0 0 0 ≡ 0x40400000)
    × (counter_address (record { entries = 65536; counters = 8; key = Index; parts = false }) 15 65535 7 ≡ 0x443FFFF8)
addresses = (refl, refl, refl)

-- zero divisors, the least number and the upper half
divisions : (computed ops.Div true 7 0 ≡ 0) × (computed ops.Mod true 7 0 ≡ 7) × (computed ops.SignedDiv true (2 ^ 63) (2 ^ 64 - 1) ≡ 2 ^ 63)
    × (computed ops.SignedMod true (2 ^ 64 - 13) 3 ≡ 2 ^ 64 - 1) × (computed ops.Mov false 0 (2 ^ 64 - 1) ≡ 0xFFFFFFFF)
unfolding computed
divisions = (refl, refl, refl, refl, refl)
