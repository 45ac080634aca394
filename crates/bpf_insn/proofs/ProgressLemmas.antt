-- How far decoding has come: the slots read so far, and the bytes that are left.
use Rattle.std.proofs.Common.{◌≡◌, ℕ, ◌+◌, ◌*◌, refl, true, false, List, [], ◌∷◌, ◌++◌, length, ap, sym, ◌∙◌, arith, append_assoc, append-nil, drop, length-append, inl, inr}
use Rattle.std.specs.Prelude.{flat_map}
use Rattle.std.specs.List.{AllByRecursion}
use Rattle.bpf_insn.specs.Code.{takes, Spells}
use Rattle.bpf_insn.specs.Refusal.{HasLength, IsNoCode, Reaches, RunsOut, Stops}
use Rattle.bpf_insn.specs.declared.refusal.Refusal.{Refusal}
use Rattle.bpf_insn.specs.Spelling.{spelling, HasSpelling}
use Rattle.bpf_insn.specs.declared.insn.Insn.{Insn}
use Rattle.bpf_insn.specs.declared.insn.Insn.TheVariants.{Alu, Neg, End, MovSx, Const, MapRef, Ldx, St, Stx, AddCounter, Ja, Jump, Call, Exit, Second}
use Rattle.bpf_insn.specs.declared.operand.Operand.TheVariants.{Immediate, Register as InRegister}
use Rattle.bpf_insn.specs.declared.size.Size.TheVariants.{Byte, Half, Word, Double}

-- memory may run out before the first slot is read
pub runs_out_first : (bytes : List ℕ) → HasLength bytes → RunsOut bytes 0
runs_out_first bytes h = record {
  length = h;
  rest = bytes;
  reached = record { front = []; spelled = tt; written = refl; counted = refl };
  some = λ e. let none : length bytes ≡ 0 = ap length e in absurd (omega (arith, none, h.some));
}

pub record Progress (bytes : List ℕ) (insns : List Insn) (rest : List ℕ) : Type 0 where
  pub front : List Insn
  pub spelled : AllByRecursion HasSpelling front
  pub taken : insns ≡ flat_map takes front
  pub written : bytes ≡ flat_map spelling front ++ rest
  pub counted : 8 * length insns + length rest ≡ length bytes

-- a spelling has eight bytes a slot
pub length_spelling : (i : Insn) → HasSpelling i → length (spelling i) ≡ 8 * length (takes i)
length_spelling (Alu op wide dst (Immediate i)) h = refl
length_spelling (Alu op wide dst (InRegister src)) h = refl
length_spelling (Neg wide dst) h = refl
length_spelling (End kind width dst) h = refl
length_spelling (MovSx wide Byte dst src) h = refl
length_spelling (MovSx wide Half dst src) h = refl
length_spelling (MovSx true Word dst src) h = refl
length_spelling (MovSx false Word dst src) h = absurd (h.some refl)
length_spelling (MovSx wide Double dst src) h = absurd (h.some refl)
length_spelling (Const dst value) h = refl
length_spelling (MapRef dst m) h = refl
length_spelling (Ldx size false dst src off) h = refl
length_spelling (Ldx Byte true dst src off) h = refl
length_spelling (Ldx Half true dst src off) h = refl
length_spelling (Ldx Word true dst src off) h = refl
length_spelling (Ldx Double true dst src off) h = absurd (h.some refl)
length_spelling (St size dst off imm) h = refl
length_spelling (Stx size dst src off) h = refl
length_spelling (AddCounter fetch dst src off) h = refl
length_spelling (Ja false to) h = refl
length_spelling (Ja true to) h = refl
length_spelling (Jump cond wide dst (Immediate i) off) h = refl
length_spelling (Jump cond wide dst (InRegister src) off) h = refl
length_spelling (Call helper) h = refl
length_spelling Exit h = refl
length_spelling Second h = absurd (h.some refl)

pub flat_map-append : {X Y : Type 0} (f : X → List Y) (xs ys : List X) → flat_map f (xs ++ ys) ≡ flat_map f xs ++ flat_map f ys
flat_map-append f [] ys = refl
flat_map-append f (x ∷ xs) ys = ap (λ t. f x ++ t) (flat_map-append f xs ys) ∙ sym (append_assoc (f x) (flat_map f xs) (flat_map f ys))

flat_map-one : {X Y : Type 0} (f : X → List Y) (xs : List X) (x : X) → flat_map f (xs ++ x ∷ []) ≡ flat_map f xs ++ f x
flat_map-one f xs x = flat_map-append f xs (x ∷ []) ∙ ap (λ t. flat_map f xs ++ t) (append-nil (f x))

all_more : (xs : List Insn) (x : Insn) → AllByRecursion HasSpelling xs → HasSpelling x → AllByRecursion HasSpelling (xs ++ x ∷ [])
all_more [] x h k = (k, tt)
all_more (y ∷ ys) x h k = (h.0, all_more ys x h.1 k)

pub more_progress : (bytes : List ℕ) (insns : List Insn) (rest : List ℕ) (i : Insn) → Progress bytes insns rest → HasSpelling i → rest ≡ spelling i ++ drop (8 * length (takes i)) rest →
    Progress bytes (insns ++ takes i) (drop (8 * length (takes i)) rest)
more_progress bytes insns rest i p has front = record {
  front = p.front ++ i ∷ [];
  spelled = all_more p.front i p.spelled has;
  taken = ap (λ t. t ++ takes i) p.taken ∙ sym (flat_map-one takes p.front i);
  written = p.written ∙ (ap (λ t. flat_map spelling p.front ++ t) front ∙ (sym (append_assoc (flat_map spelling p.front) (spelling i) (drop (8 * length (takes i)) rest))
      ∙ ap (λ t. t ++ drop (8 * length (takes i)) rest) (sym (flat_map-one spelling p.front i))));
  counted = omega (arith, p.counted, length_spelling i has, ap length front, length-append (spelling i) (drop (8 * length (takes i)) rest), length-append insns (takes i));
}

-- `Second` adds no bytes
pub slots_written : (is : List Insn) → flat_map spelling (flat_map takes is) ≡ flat_map spelling is
slots_written [] = refl
slots_written (i ∷ is) = flat_map-append spelling (takes i) (flat_map takes is) ∙ (ap (λ t. t ++ flat_map spelling (flat_map takes is)) (one i) ∙ ap (λ t. spelling i ++ t) (slots_written is))
  where
    one : (i : Insn) → flat_map spelling (takes i) ≡ spelling i
    one (Const dst value) = refl
    one (MapRef dst m) = refl
    one (Alu op wide dst src) = append-nil _
    one (Neg wide dst) = append-nil _
    one (End kind width dst) = append-nil _
    one (MovSx wide bits dst src) = append-nil _
    one (Ldx size signed dst src off) = append-nil _
    one (St size dst off imm) = append-nil _
    one (Stx size dst src off) = append-nil _
    one (AddCounter fetch dst src off) = append-nil _
    one (Ja wide to) = append-nil _
    one (Jump cond wide dst src off) = append-nil _
    one (Call helper) = append-nil _
    one Exit = append-nil _
    one Second = refl

pub all_read : (bytes : List ℕ) (insns : List Insn) (rest : List ℕ) → HasLength bytes → Progress bytes insns rest → length rest ≡ 0 → Spells insns bytes
all_read bytes insns [] len p h =
    let few : 8 * length insns ≡ length bytes = omega (arith, p.counted) in
    record {
      laid_out = record { insns = p.front; spelled = p.spelled; taken = p.taken; some = omega (arith, len.some); short = omega (arith, len.short) };
      written = p.written ∙ (append-nil _ ∙ (sym (slots_written p.front) ∙ ap (flat_map spelling) (sym p.taken)));
    }
all_read bytes insns (x ∷ xs) len p h = absurd cc

reaches : (bytes : List ℕ) (insns : List Insn) (rest : List ℕ) (pc : ℕ) → Progress bytes insns rest → pc ≡ length insns → Reaches bytes pc rest
reaches bytes insns rest pc p e = record { front = p.front; spelled = p.spelled; written = p.written; counted = sym (ap length p.taken) ∙ sym e }

-- a slot that continues no spelling is refused
pub stopped : (bytes : List ℕ) (insns : List Insn) (rest : List ℕ) (r : Refusal) → HasLength bytes → Progress bytes insns rest → r.pc ≡ length insns → Stops rest r.cause → IsNoCode bytes r
stopped bytes insns rest r len p e s = inl (inr (len, record { rest = rest; reached = reaches bytes insns rest r.pc p e; stops = s }))

-- the same, of the slots counted alone
pub record Counted (bytes : List ℕ) (rest : List ℕ) (pc : ℕ) : Type 0 where
  pub insns : List Insn
  pub progress : Progress bytes insns rest
  pub counted : pc ≡ length insns

pub more_count : (bytes rest : List ℕ) (pc : ℕ) (i : Insn) → Counted bytes rest pc → HasSpelling i → rest ≡ spelling i ++ drop (8 * length (takes i)) rest →
    Counted bytes (drop (8 * length (takes i)) rest) (pc + length (takes i))
more_count bytes rest pc i k has front = record {
  insns = k.insns ++ takes i;
  progress = more_progress bytes k.insns rest i k.progress has front;
  counted = omega (arith, k.counted, length-append k.insns (takes i));
}

pub all_counted : (bytes rest : List ℕ) (pc : ℕ) → HasLength bytes → Counted bytes rest pc → length rest ≡ 0 → (code : List Insn) × Spells code bytes
all_counted bytes rest pc len k h = (k.insns, all_read bytes k.insns rest len k.progress h)
