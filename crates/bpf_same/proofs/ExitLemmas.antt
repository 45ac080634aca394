-- Which instructions end no program.
use Rattle.std.proofs.Common.{ℕ, ◌+◌, ◌≡◌, ℤ, length, Option, None, Some, Bool, true, false}
use Rattle.std.specs.Prelude.{if◌then◌else◌}
use Rattle.bpf_insn.specs.Register.{number}
use Rattle.bpf_insn.specs.Conditions.{is_met}
use Rattle.bpf_insn.specs.declared.condition.Condition.{Condition}
use Rattle.bpf_insn.specs.declared.register.Register.{Register}
use Rattle.bpf_insn.specs.declared.operand.Operand.{Operand}
use Rattle.bpf_insn.specs.declared.insn.Insn.{Insn}
use Rattle.bpf_insn.specs.declared.insn.Insn.TheVariants.{Alu, Neg, End, MovSx, Const, MapRef, Ldx, St, Stx, AddCounter, Ja, Jump, Call, Exit, Second}
use Rattle.bpf_insn.specs.Size.{size_bytes}
use Rattle.bpf_insn.specs.declared.size.Size.{Size}
use Rattle.bpf_note.specs.Regions as regions
use Rattle.bpf_note.specs.Regions.{InPacket, InStack, InContext, InCounter, Nowhere, load_place}
use Rattle.bpf_note.specs.Constants.{are_constants}
use Rattle.bpf_note.specs.State.{State}
use Rattle.bpf_note.specs.Facts.{Facts}
use Rattle.bpf_flow.specs.Step.{Outcome, Next, Loads, Exited, Fault, need, at_slot, with_number, is_frame, written, operand, first_operand, address, reached, loaded, load_from, load_constants, load_at, store_to, taken, target, jumped, exec, add_to, part}
use Rattle.bpf_same.specs.Stepped.{IsOwnStep}

pub need_exits : (o : Option ℕ) (f : ℕ → Outcome) (r0 : ℕ) → ((x : ℕ) → f x ≡ Exited r0 → ⊥) → need o f ≡ Exited r0 → ⊥
need_exits None f r0 h e = cc
need_exits (Some x) f r0 h e = h x e

pub jumped_exits : (s : State) (off : ℤ) (r0 : ℕ) → jumped s off ≡ Exited r0 → ⊥
jumped_exits s off r0 e = need_exits (target s.pc off) (λ q. Next (at_slot s q)) r0 (λ q e. cc) e

pub branch_exits : (s : State) (cond : Condition) (wide : Bool) (dst : Register) (src : Operand) (off : ℤ) (r0 : ℕ) → exec (Jump cond wide dst src off) s ≡ Exited r0 → ⊥
branch_exits s cond wide dst src off r0 e = need_exits (s.reg (number dst)) _ r0 (λ x e. need_exits (operand s src) _ r0 (λ y e. by (is_met cond wide x y) e) e) e
  where
    by : (c : Bool) → (if c then jumped s off else Next (at_slot s (s.pc + 1))) ≡ Exited r0 → ⊥
    by true e = jumped_exits s off r0 e
    by false e = cc

written_exits : (s : State) (pc k x r0 : ℕ) → written s pc k x ≡ Exited r0 → ⊥
written_exits s pc k x r0 e = by (is_frame k) e
  where
    by : (b : Bool) → (if b then Fault else Next (with_number s pc k x)) ≡ Exited r0 → ⊥
    by true e = cc
    by false e = cc

pub load_exits : (a : ℕ) (place : regions.Place) (s : State) (signed : Bool) (size : Size) (dst r0 : ℕ) → load_from a place s signed size dst ≡ Exited r0 → ⊥
load_exits a (InPacket i) s signed size dst r0 e = need_exits (loaded s (InPacket i) (size_bytes size)) _ r0 (λ x e. written_exits s (s.pc + 1) dst (taken signed size x) r0 e) e
load_exits a (InStack i) s signed size dst r0 e = need_exits (loaded s (InStack i) (size_bytes size)) _ r0 (λ x e. written_exits s (s.pc + 1) dst (taken signed size x) r0 e) e
load_exits a (InContext i) s signed size dst r0 e = need_exits (loaded s (InContext i) (size_bytes size)) _ r0 (λ x e. written_exits s (s.pc + 1) dst (taken signed size x) r0 e) e
load_exits a (InCounter m k j) s signed size dst r0 e = by (is_frame dst) e
  where
    by : (b : Bool) → (if b then Fault else Loads m k j (λ x. with_number s (s.pc + 1) dst (taken signed size (part size a x)))) ≡ Exited r0 → ⊥
    by true e = cc
    by false e = cc
load_exits a Nowhere s signed size dst r0 e = cc

pub load_at_exits : (s : State) (a : ℕ) (signed : Bool) (size : Size) (dst r0 : ℕ) → load_at s a signed size dst ≡ Exited r0 → ⊥
load_at_exits s a signed size dst r0 e = by (are_constants s.shapes a (size_bytes size)) e
  where
    by : (b : Bool) → (if b then load_constants s a signed size dst else load_from a (load_place (length s.packet) s.shapes a (size_bytes size)) s signed size dst) ≡ Exited r0 → ⊥
    by true e = written_exits s (s.pc + 1) dst _ r0 e
    by false e = load_exits a (load_place (length s.packet) s.shapes a (size_bytes size)) s signed size dst r0 e

store_exits : (place : regions.Place) (s : State) (z x r0 : ℕ) → store_to place s z x ≡ Exited r0 → ⊥
store_exits (InPacket i) s z x r0 e = cc
store_exits (InStack i) s z x r0 e = cc
store_exits (InContext i) s z x r0 e = cc
store_exits (InCounter m k j) s z x r0 e = cc
store_exits Nowhere s z x r0 e = cc

pub own_exits : (i : Insn) (low : ℕ) (n : Facts) (s : State) (r0 : ℕ) → IsOwnStep i low n → exec i s ≡ Exited r0 → ⊥
own_exits (Alu op wide dst src) low n s r0 o e = need_exits (operand s src) _ r0 (λ y e. need_exits (first_operand op (s.reg (number dst))) _ r0 (λ x e. written_exits s (s.pc + 1) (number dst) _ r0 e) e) e
own_exits (Neg wide dst) low n s r0 o e = need_exits (s.reg (number dst)) _ r0 (λ x e. written_exits s (s.pc + 1) (number dst) _ r0 e) e
own_exits (End kind width dst) low n s r0 o e = need_exits (s.reg (number dst)) _ r0 (λ x e. written_exits s (s.pc + 1) (number dst) _ r0 e) e
own_exits (MovSx wide bits dst src) low n s r0 o e = need_exits (s.reg (number src)) _ r0 (λ x e. written_exits s (s.pc + 1) (number dst) _ r0 e) e
own_exits (Const dst value) low n s r0 o e = written_exits s (s.pc + 2) (number dst) value r0 e
own_exits (MapRef dst m) low n s r0 o e = written_exits s (s.pc + 2) (number dst) _ r0 e
own_exits (Ldx size signed dst src off) low n s r0 o e = need_exits (s.reg (number src)) _ r0 (λ a e. load_at_exits s (address a off) signed size (number dst) r0 e) e
own_exits (St size dst off imm) low n s r0 o e = o
own_exits (Stx size dst src off) low n s r0 o e = need_exits (s.reg (number src)) _ r0 (λ x e. need_exits (s.reg (number dst)) _ r0 (λ a e. store_exits (reached s a off (size_bytes size)) s (size_bytes size) x r0 e) e) e
own_exits (AddCounter fetch dst src off) low n s r0 o e = o
own_exits (Ja wide to) low n s r0 o e = o
own_exits (Jump cond wide dst src off) low n s r0 o e = o
own_exits (Call helper) low n s r0 o e = o
own_exits Exit low n s r0 o e = o
own_exits Second low n s r0 o e = o

pub add_exits : (place : regions.Place) (s : State) (src x r0 : ℕ) → add_to place s false src x ≡ Exited r0 → ⊥
add_exits (InCounter m k j) s src x r0 e = cc
add_exits (InPacket i) s src x r0 e = cc
add_exits (InStack i) s src x r0 e = cc
add_exits (InContext i) s src x r0 e = cc
add_exits Nowhere s src x r0 e = cc
