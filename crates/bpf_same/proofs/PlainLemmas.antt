-- Plain instructions: what they leave, and that they end no program.
use Rattle.std.proofs.Common.{ℕ, ◌+◌, ◌≡◌, ◌≢◌, refl, sym, ap, ◌∙◌, arith, ℤ, List, length, Option, None, Some, Bool, true, false}
use Rattle.std.specs.Prelude.{if◌then◌else◌, ◌==◌}
use Rattle.std.proofs.lemmas.Bool.Decides.{nat_tests}
use Rattle.bpf_insn.specs.Register.{number}
use Rattle.bpf_insn.specs.Size.{size_bytes}
use Rattle.bpf_insn.specs.declared.insn.Insn.{Insn}
use Rattle.bpf_insn.specs.declared.insn.Insn.TheVariants.{Alu, Neg, End, MovSx, Const, MapRef, Ldx, St, Stx, AddCounter, Ja, Jump, Call, Exit, Second}
use Rattle.bpf_note.specs.Shape.{Shape}
use Rattle.bpf_note.specs.State.{State}
use Rattle.bpf_note.specs.Regions.{region, HaveNoParts}
use Rattle.bpf_note.specs.declared.op.Op.{Op}
use Rattle.bpf_flow.specs.Step.{Outcome, Next, Exited, Fault, need, with_number, is_frame, written, operand, first_operand, address, reached, exec, LeadsTo}
use Rattle.bpf_flow.proofs.StepLemmas.{needed}
use Rattle.bpf_same.specs.Simulated.{is_jump}
use Rattle.bpf_same.specs.Stepped.{alters, AreAlike}
use Rattle.bpf_same.specs.Fused.{IsPlain}
use Rattle.bpf_same.proofs.StepLemmas.{written_is}
use Rattle.bpf_same.proofs.ExitLemmas.{load_at_exits}
use Rattle.bpf_same.proofs.OwnLemmas.{read_is, counter_size}
use Rattle.bpf_same.proofs.TogetherLemmas.{together}
use Rattle.bpf_note.proofs.LoadPlaceLemmas.{without_parts}

pub some_is : {A : Type 0} {x y : A} → Some x ≡ Some y → x ≡ y
some_is e = cc

pub other_number : (k r : ℕ) → k ≢ r → (k == r) ≡ false
other_number k r n = grind (arith, nat_tests, n)

-- --- plain instructions
pub plain_runs_on : (i : Insn) → IsPlain i → is_jump i ≡ false
plain_runs_on (Alu op wide dst src) h = refl
plain_runs_on (Neg wide dst) h = refl
plain_runs_on (End kind width dst) h = refl
plain_runs_on (MovSx wide bits dst src) h = refl
plain_runs_on (Const dst value) h = refl
plain_runs_on (MapRef dst m) h = refl
plain_runs_on (Ldx size signed dst src off) h = refl
plain_runs_on (St size dst off imm) h = absurd h
plain_runs_on (Stx size dst src off) h = absurd h
plain_runs_on (AddCounter fetch dst src off) h = absurd h
plain_runs_on (Ja wide to) h = absurd h
plain_runs_on (Jump cond wide dst src off) h = absurd h
plain_runs_on (Call helper) h = absurd h
plain_runs_on Exit h = absurd h
plain_runs_on Second h = absurd h

-- it has no label
pub no_label : (i : Insn) (s : State) (l : Option Op) (u : State) → HaveNoParts s.shapes → IsPlain i → LeadsTo (exec i s) l u → l ≡ None
no_label (Alu op wide dst src) s l u whole p h = needed (operand s src) _ l u (λ y h. needed (first_operand op (s.reg (number dst))) _ l u (λ x h. (written_is s (s.pc + 1) (number dst) _ l u h).0) h) h
no_label (Neg wide dst) s l u whole p h = needed (s.reg (number dst)) _ l u (λ x h. (written_is s (s.pc + 1) (number dst) _ l u h).0) h
no_label (End kind width dst) s l u whole p h = needed (s.reg (number dst)) _ l u (λ x h. (written_is s (s.pc + 1) (number dst) _ l u h).0) h
no_label (MovSx wide bits dst src) s l u whole p h = needed (s.reg (number src)) _ l u (λ x h. (written_is s (s.pc + 1) (number dst) _ l u h).0) h
no_label (Const dst value) s l u whole p h = (written_is s (s.pc + 2) (number dst) value l u h).0
no_label (MapRef dst m) s l u whole p h = (written_is s (s.pc + 2) (number dst) _ l u h).0
no_label (Ldx size signed dst src off) s l u whole p h = needed (s.reg (number src)) _ l u (λ a h.
    (read_is s (address a off) signed size (number dst) l u (λ m k j at. p (counter_size (length s.packet) s.shapes (address a off) (size_bytes size) m k j (sym (without_parts (length s.packet) s.shapes (address a off) (size_bytes size) whole) ∙ at))) h).done.0) h
no_label (St size dst off imm) s l u whole p h = absurd p
no_label (Stx size dst src off) s l u whole p h = absurd p
no_label (AddCounter fetch dst src off) s l u whole p h = absurd p
no_label (Ja wide to) s l u whole p h = absurd p
no_label (Jump cond wide dst src off) s l u whole p h = absurd p
no_label (Call helper) s l u whole p h = absurd p
no_label Exit s l u whole p h = absurd p
no_label Second s l u whole p h = absurd p

pub need_exits : {A : Type 0} (o : Option A) (f : A → Outcome) (r0 : ℕ) → ((x : A) → f x ≡ Exited r0 → ⊥) → need o f ≡ Exited r0 → ⊥
need_exits None f r0 h e = cc
need_exits (Some x) f r0 h e = h x e

pub written_exits : (s : State) (pc k x r0 : ℕ) → written s pc k x ≡ Exited r0 → ⊥
written_exits s pc k x r0 e = by (is_frame k) e
  where
    by : (b : Bool) → (if b then Fault else Next (with_number s pc k x)) ≡ Exited r0 → ⊥
    by true e = cc
    by false e = cc

-- no step of an instruction but EXIT ends a program
pub not_ended : (i : Insn) (s : State) (r0 : ℕ) → IsPlain i → exec i s ≡ Exited r0 → ⊥
not_ended (Alu op wide dst src) s r0 h e = need_exits (operand s src) _ r0 (λ y e. need_exits (first_operand op (s.reg (number dst))) _ r0 (λ x e. written_exits s (s.pc + 1) (number dst) _ r0 e) e) e
not_ended (Neg wide dst) s r0 h e = need_exits (s.reg (number dst)) _ r0 (λ x e. written_exits s (s.pc + 1) (number dst) _ r0 e) e
not_ended (End kind width dst) s r0 h e = need_exits (s.reg (number dst)) _ r0 (λ x e. written_exits s (s.pc + 1) (number dst) _ r0 e) e
not_ended (MovSx wide bits dst src) s r0 h e = need_exits (s.reg (number src)) _ r0 (λ x e. written_exits s (s.pc + 1) (number dst) _ r0 e) e
not_ended (Const dst value) s r0 h e = written_exits s (s.pc + 2) (number dst) value r0 e
not_ended (MapRef dst m) s r0 h e = written_exits s (s.pc + 2) (number dst) _ r0 e
not_ended (Ldx size signed dst src off) s r0 h e = need_exits (s.reg (number src)) _ r0 (λ a e. load_at_exits s (address a off) signed size (number dst) r0 e) e
not_ended (St size dst off imm) s r0 h e = h
not_ended (Stx size dst src off) s r0 h e = h
not_ended (AddCounter fetch dst src off) s r0 h e = h
not_ended (Ja wide to) s r0 h e = h
not_ended (Jump cond wide dst src off) s r0 h e = h
not_ended (Call helper) s r0 h e = h
not_ended Exit s r0 h e = h
not_ended Second s r0 h e = h

-- registers that an instruction doesn't write
self_alike : (i : Insn) (f : ℕ → Option ℕ) → AreAlike i f f
self_alike (Alu op wide dst src) f = (refl, refl)
self_alike (Neg wide dst) f = refl
self_alike (End kind width dst) f = refl
self_alike (MovSx wide bits dst src) f = refl
self_alike (Const dst value) f = tt
self_alike (MapRef dst m) f = tt
self_alike (Ldx size signed dst src off) f = refl
self_alike (St size dst off imm) f = refl
self_alike (Stx size dst src off) f = (refl, refl)
self_alike (AddCounter fetch dst src off) f = (refl, refl)
self_alike (Ja wide to) f = tt
self_alike (Jump cond wide dst src off) f = (refl, refl)
self_alike (Call helper) f = (refl, refl)
self_alike Exit f = refl
self_alike Second f = tt

pub left : (i : Insn) (s u : State) (l : Option Op) (k : ℕ) → LeadsTo (exec i s) l u → alters i k ≡ false → u.reg k ≡ s.reg k
left i s u l k h e = ((together i s s l u (record { pc = refl; packet = refl; ifindex = refl; queue = refl; shapes = refl; find = refl; stack = λ i. refl }) (self_alike i s.reg) h).2.left k e).0

-- what an access reaches, by what two states have in common
pub reached_is : (s t : State) (a z : ℕ) (off : ℤ) → length t.packet ≡ length s.packet → t.shapes ≡ s.shapes → reached t a off z ≡ reached s a off z
reached_is s t a z off n m = ap (λ (n : ℕ). region n t.shapes (address a off) z) n ∙ ap (λ (m : List Shape). region (length s.packet) m (address a off) z) m
