-- Stated: claims rest on this file.
-- The verifier's rule for one instruction. (The rules are this verifier's own; what they speak of is RFC 9669's.)
use Rattle.std.specs.Prelude.{ℕ, ◌+◌, ◌<◌, List, [], ◌∷◌, Option, None, Some, IsSome, Bool, true, false, ◌&&◌, ◌||◌, not, Ok, Err}
use Rattle.bpf_insn.specs.Register.{number}
use Rattle.bpf_insn.specs.Signed.{sign_extended}
use Rattle.bpf_insn.specs.Size.{size_bytes}
use Rattle.bpf_insn.specs.declared.insn.Insn.{Insn}
use Rattle.bpf_insn.specs.declared.insn.Insn.TheVariants.{Alu, Neg, End, MovSx, Const, MapRef, Ldx, St, Stx, AddCounter, Ja, Jump}
use Rattle.bpf_insn.specs.declared.insn.Insn.TheVariants.{Call, Exit, Second}
use Rattle.bpf_insn.specs.declared.alu_op.AluOp.{AluOp}
use Rattle.bpf_insn.specs.declared.alu_op.AluOp.TheVariants.{Mov}
use Rattle.bpf_insn.specs.declared.refusal.Cause.TheVariants as cause
use Rattle.bpf_note.specs.declared.val.Val.{Val}
use Rattle.bpf_note.specs.declared.val.Val.TheVariants as val
use Rattle.bpf_note.specs.Shape.{Shape}
use Rattle.bpf_note.specs.Facts.{Facts, full, is_unset, with_reg}
use Rattle.bpf_flow.specs.Step.{target, is_frame}
use Rattle.bpf_flow.specs.Edges.{Edges, Answer, unless, and_then, goes_to, sets, sets_computed}
use Rattle.bpf_flow.specs.Alu.{exactly, operand_value, result_of, negated_value, extended_value, swapped_value}
use Rattle.bpf_flow.specs.Memory.{reach, load_value, stores, adds_at}
use Rattle.bpf_flow.specs.Branch.{taken, passed}
use Rattle.bpf_flow.specs.Call.{is_lookup, looks_up}

-- all but MOV read their destination
abbrev pub is_first_unset : AluOp → Val → Bool
is_first_unset Mov v = false
is_first_unset op v = is_unset v

abbrev pub at_target : Option ℕ → (ℕ → Edges) → Answer
at_target None edges = Err cause.Target
at_target (Some to) edges = Ok (edges to)

-- a counter's old number goes to register k
abbrev pub fetched : Bool → Facts → ℕ → Facts
fetched true n k = with_reg n k full
fetched false n k = n

-- where an instruction at slot pc leads, the next slot before a jump's target, or the first cause against it
abbrev pub after_of : Insn → ℕ → Facts → List Shape → Answer
after_of (Alu op wide dst src) pc n shapes =
    unless (is_unset (operand_value n src) || is_first_unset op (n.reg (number dst))) cause.Unset
    (sets_computed n pc (number dst) (result_of n op wide (n.reg (number dst)) (operand_value n src)))
after_of (Neg wide dst) pc n shapes =
    unless (is_unset (n.reg (number dst))) cause.Unset (sets n (pc + 1) (number dst) (negated_value wide (n.reg (number dst))))
after_of (End kind width dst) pc n shapes =
    unless (is_unset (n.reg (number dst))) cause.Unset (sets n (pc + 1) (number dst) (swapped_value kind width (n.reg (number dst))))
after_of (MovSx wide bits dst src) pc n shapes =
    unless (is_unset (n.reg (number src))) cause.Unset (sets n (pc + 1) (number dst) (extended_value wide bits (n.reg (number src))))
after_of (Const dst value) pc n shapes = sets n (pc + 2) (number dst) (exactly value)
after_of (MapRef dst m) pc n shapes = sets n (pc + 2) (number dst) (val.Map m)
after_of (Ldx size signed dst src off) pc n shapes =
    unless (is_unset (n.reg (number src))) cause.Unset
    (unless (is_frame (number dst)) cause.FramePointer
    (and_then (load_value n shapes (n.reg (number src)) off signed size) (λ v.
    goes_to (pc + 1) (with_reg n (number dst) v))))
after_of (St size dst off imm) pc n shapes =
    unless (is_unset (n.reg (number dst))) cause.Unset
    (and_then (reach n (n.reg (number dst)) off (size_bytes size)) (stores n (pc + 1) size (exactly (sign_extended imm))))
after_of (Stx size dst src off) pc n shapes =
    unless (is_unset (n.reg (number src)) || is_unset (n.reg (number dst))) cause.Unset
    (and_then (reach n (n.reg (number dst)) off (size_bytes size)) (stores n (pc + 1) size (n.reg (number src))))
after_of (AddCounter fetch dst src off) pc n shapes =
    unless (is_unset (n.reg (number src)) || is_unset (n.reg (number dst))) cause.Unset
    (unless (fetch && is_frame (number src)) cause.FramePointer
    (and_then (adds_at shapes (n.reg (number dst)) off) (λ u. goes_to (pc + 1) (fetched fetch n (number src)))))
after_of (Ja wide_offset to) pc n shapes = at_target (target pc to) (λ q. (q, n) ∷ [])
after_of (Jump cond wide dst src off) pc n shapes =
    unless (is_unset (n.reg (number dst)) || is_unset (operand_value n src)) cause.Unset
    (at_target (target pc off) (λ q.
    (pc + 1, passed cond wide n (number dst) src (n.reg (number dst)) (operand_value n src))
    ∷ (q, taken cond wide n (number dst) src (n.reg (number dst)) (operand_value n src)) ∷ []))
after_of (Call helper) pc n shapes =
    unless (not (is_lookup helper)) cause.Helper
    (unless (is_unset (n.reg 1) || is_unset (n.reg 2)) cause.Unset
    (looks_up shapes n pc (n.reg 1) (n.reg 2)))
after_of Exit pc n shapes = unless (is_unset (n.reg 0)) cause.Unset (Ok [])
after_of Second pc n shapes = Err cause.Target

-- what the rule asks of an instruction: it is no second half, its target isn't below 0, and its map is there
abbrev pub IsRuled : Insn → ℕ → ℕ → Type 0
IsRuled (Ja wide_offset to) pc maps = IsSome (target pc to)
IsRuled (Jump cond wide dst src off) pc maps = IsSome (target pc off)
IsRuled (MapRef dst m) pc maps = m < maps
IsRuled Second pc maps = ⊥
IsRuled i pc maps = Unit {0}
