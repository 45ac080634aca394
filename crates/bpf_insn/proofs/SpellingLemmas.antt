-- What begins with an instruction's spelling.
use Rattle.std.proofs.Common.{◌≡◌, ◌≢◌, ℕ, ◌+◌, ◌*◌, ◌/◌, ◌%◌, ◌<◌, ◌^◌, refl, Bool, true, false, List, [], ◌∷◌, ◌++◌, length, ap, sym, ◌∙◌, subst, arith, ℤ, pos, append_assoc, drop, take, rules}
use Rattle.std.specs.Prelude.{FitsSigned, flat_map}
use Rattle.std.specs.List.{AllByRecursion}
use Rattle.std.specs.Int.{cast_signed, w16, w32}
use Rattle.std.proofs.Math.Facts.{sfits_to_z}
use Rattle.std.proofs.lemmas.List.{take-append-drop}
use Rattle.bpf_insn.proofs.FieldLemmas.{same_fields}
use Rattle.bpf_insn.proofs.ClassLemmas.{one_is_narrow}
use Rattle.bpf_insn.specs.Fields.{slot_bytes, FitsSlot}
use Rattle.bpf_insn.specs.Code.{takes}
use Rattle.bpf_insn.specs.Register.{number}
use Rattle.bpf_insn.specs.Size.{width_bits}
use Rattle.bpf_insn.specs.Spelling.{slots, slot, spelling, alu_class, alu_code, alu_offset, jump_class, jump_code, size_code, swap_opcode, flag, FitsFields, HasSpelling, ContinuesNone}
use Rattle.bpf_insn.specs.declared.fields.Fields.{Fields}
use Rattle.bpf_insn.specs.declared.insn.Insn.{Insn}
use Rattle.bpf_insn.specs.declared.insn.Insn.TheVariants.{Alu, Neg, End, MovSx, Const, MapRef, Ldx, St, Stx, AddCounter, Ja, Jump, Call, Exit, Second}
use Rattle.bpf_insn.specs.declared.register.Register.{Register}
use Rattle.bpf_insn.specs.declared.register.Register.TheVariants.{R0, R1, R2, R3, R4, R5, R6, R7, R8, R9, R10}
use Rattle.bpf_insn.specs.declared.operand.Operand.TheVariants.{Immediate, Register as InRegister}
use Rattle.bpf_insn.specs.declared.alu_op.AluOp.{AluOp}
use Rattle.bpf_insn.specs.declared.alu_op.AluOp.TheVariants.{Add, Sub, Mul, Div, SignedDiv, Or, And, Lsh, Rsh, Mod, SignedMod, Xor, Mov, Arsh}
use Rattle.bpf_insn.specs.declared.condition.Condition.{Condition}
use Rattle.bpf_insn.specs.declared.condition.Condition.TheVariants.{Equal, Greater, GreaterOrEqual, Set, NotEqual, SignedGreater, SignedGreaterOrEqual, Less, LessOrEqual, SignedLess, SignedLessOrEqual}
use Rattle.bpf_insn.specs.declared.swap_kind.SwapKind.{SwapKind}
use Rattle.bpf_insn.specs.declared.swap_kind.SwapKind.TheVariants.{ToLittle, ToBig, Swap}
use Rattle.bpf_insn.specs.declared.width.Width.{Width}
use Rattle.bpf_insn.specs.declared.width.Width.TheVariants.{Bits16, Bits32, Bits64}
use Rattle.bpf_insn.specs.declared.size.Size.{Size}
use Rattle.bpf_insn.specs.declared.size.Size.TheVariants.{Byte, Half, Word, Double}

small_register : (r : Register) → number r < 11
small_register R0 = omega arith
small_register R1 = omega arith
small_register R2 = omega arith
small_register R3 = omega arith
small_register R4 = omega arith
small_register R5 = omega arith
small_register R6 = omega arith
small_register R7 = omega arith
small_register R8 = omega arith
small_register R9 = omega arith
small_register R10 = omega arith

small_alu : (wide : Bool) (op : AluOp) → alu_class wide + 8 + alu_code op < 256
small_alu true Add = omega arith
small_alu true Sub = omega arith
small_alu true Mul = omega arith
small_alu true Div = omega arith
small_alu true SignedDiv = omega arith
small_alu true Or = omega arith
small_alu true And = omega arith
small_alu true Lsh = omega arith
small_alu true Rsh = omega arith
small_alu true Mod = omega arith
small_alu true SignedMod = omega arith
small_alu true Xor = omega arith
small_alu true Mov = omega arith
small_alu true Arsh = omega arith
small_alu false Add = omega arith
small_alu false Sub = omega arith
small_alu false Mul = omega arith
small_alu false Div = omega arith
small_alu false SignedDiv = omega arith
small_alu false Or = omega arith
small_alu false And = omega arith
small_alu false Lsh = omega arith
small_alu false Rsh = omega arith
small_alu false Mod = omega arith
small_alu false SignedMod = omega arith
small_alu false Xor = omega arith
small_alu false Mov = omega arith
small_alu false Arsh = omega arith

small_neg : (wide : Bool) → alu_class wide + 0x80 < 256
small_neg true = omega arith
small_neg false = omega arith

small_offset : (op : AluOp) → alu_offset op < 2
small_offset Add = omega arith
small_offset Sub = omega arith
small_offset Mul = omega arith
small_offset Div = omega arith
small_offset SignedDiv = omega arith
small_offset Or = omega arith
small_offset And = omega arith
small_offset Lsh = omega arith
small_offset Rsh = omega arith
small_offset Mod = omega arith
small_offset SignedMod = omega arith
small_offset Xor = omega arith
small_offset Mov = omega arith
small_offset Arsh = omega arith

small_code : (cond : Condition) → jump_code cond < 0xe0
small_code Equal = omega arith
small_code Greater = omega arith
small_code GreaterOrEqual = omega arith
small_code Set = omega arith
small_code NotEqual = omega arith
small_code SignedGreater = omega arith
small_code SignedGreaterOrEqual = omega arith
small_code Less = omega arith
small_code LessOrEqual = omega arith
small_code SignedLess = omega arith
small_code SignedLessOrEqual = omega arith

small_jump : (wide : Bool) (cond : Condition) → jump_class wide + 8 + jump_code cond < 256
small_jump true cond = omega (arith, small_code cond)
small_jump false cond = omega (arith, small_code cond)

small_size : (size : Size) → size_code size < 0x20
small_size Byte = omega arith
small_size Half = omega arith
small_size Word = omega arith
small_size Double = omega arith

small_swap : (kind : SwapKind) → swap_opcode kind < 256
small_swap ToLittle = omega arith
small_swap ToBig = omega arith
small_swap Swap = omega arith

small_width : (width : Width) → width_bits width < 65
small_width Bits16 = omega arith
small_width Bits32 = omega arith
small_width Bits64 = omega arith

small_flag : (b : Bool) → flag b < 2
small_flag true = omega arith
small_flag false = omega arith

fits16 : (n : ℕ) → n < 100 → FitsSigned w16 (pos n)
fits16 n h = record { sfits = omega arith }

fits32 : (n : ℕ) → n < 100 → FitsSigned w32 (pos n)
fits32 n h = record { sfits = omega arith }

cast_fits : (n : ℕ) → n < 2 ^ 32 → FitsSigned w32 (cast_signed w32 n)
cast_fits n h = sfits_to_z {w = w32} {n = n} (search rules)

slot_fits : (op dst src : ℕ) (off imm : ℤ) → op < 256 → dst < 11 → src < 11 → FitsSigned w16 off → FitsSigned w32 imm → FitsSlot (slot op dst src off imm)
slot_fits op dst src off imm a b c d e = record { op = a; dst = omega arith; src = omega arith; off = d; imm = e }

-- the slots of an instruction hold its fields
pub slots_fit : (i : Insn) → FitsFields i → AllByRecursion FitsSlot (slots i)
slots_fit (Alu op wide dst (Immediate i)) h = (slot_fits _ _ _ _ _ (omega (arith, small_alu wide op)) (small_register dst) (omega arith) (fits16 _ (omega (arith, small_offset op))) h, tt)
slots_fit (Alu op wide dst (InRegister src)) h = (slot_fits _ _ _ _ _ (small_alu wide op) (small_register dst) (small_register src) (fits16 _ (omega (arith, small_offset op))) (fits32 0 (omega arith)), tt)
slots_fit (Neg wide dst) h = (slot_fits _ _ _ _ _ (small_neg wide) (small_register dst) (omega arith) (fits16 0 (omega arith)) (fits32 0 (omega arith)), tt)
slots_fit (End kind width dst) h = (slot_fits _ _ _ _ _ (small_swap kind) (small_register dst) (omega arith) (fits16 0 (omega arith)) (fits32 _ (omega (arith, small_width width))), tt)
slots_fit (MovSx wide Byte dst src) h = (slot_fits _ _ _ _ _ (small_alu wide Mov) (small_register dst) (small_register src) (fits16 8 (omega arith)) (fits32 0 (omega arith)), tt)
slots_fit (MovSx wide Half dst src) h = (slot_fits _ _ _ _ _ (small_alu wide Mov) (small_register dst) (small_register src) (fits16 16 (omega arith)) (fits32 0 (omega arith)), tt)
slots_fit (MovSx true Word dst src) h = (slot_fits _ _ _ _ _ (omega arith) (small_register dst) (small_register src) (fits16 32 (omega arith)) (fits32 0 (omega arith)), tt)
slots_fit (MovSx false Word dst src) h = tt
slots_fit (MovSx wide Double dst src) h = tt
slots_fit (Const dst value) h = (
  slot_fits _ _ _ _ _ (omega arith) (small_register dst) (omega arith) (fits16 0 (omega arith)) (cast_fits (value % 2 ^ 32) (omega arith)),
  (slot_fits _ _ _ _ _ (omega arith) (omega arith) (omega arith) (fits16 0 (omega arith)) (cast_fits (value / 2 ^ 32) (omega arith)), tt),
)
slots_fit (MapRef dst m) h = (
  slot_fits _ _ _ _ _ (omega arith) (small_register dst) (omega arith) (fits16 0 (omega arith)) (cast_fits m h),
  (slot_fits _ _ _ _ _ (omega arith) (omega arith) (omega arith) (fits16 0 (omega arith)) (fits32 0 (omega arith)), tt),
)
slots_fit (Ldx size false dst src off) h = (slot_fits _ _ _ _ _ (omega (arith, small_size size)) (small_register dst) (small_register src) h (fits32 0 (omega arith)), tt)
slots_fit (Ldx Byte true dst src off) h = (slot_fits _ _ _ _ _ (omega arith) (small_register dst) (small_register src) h (fits32 0 (omega arith)), tt)
slots_fit (Ldx Half true dst src off) h = (slot_fits _ _ _ _ _ (omega arith) (small_register dst) (small_register src) h (fits32 0 (omega arith)), tt)
slots_fit (Ldx Word true dst src off) h = (slot_fits _ _ _ _ _ (omega arith) (small_register dst) (small_register src) h (fits32 0 (omega arith)), tt)
slots_fit (Ldx Double true dst src off) h = tt
slots_fit (St size dst off imm) h = (slot_fits _ _ _ _ _ (omega (arith, small_size size)) (small_register dst) (omega arith) h.0 h.1, tt)
slots_fit (Stx size dst src off) h = (slot_fits _ _ _ _ _ (omega (arith, small_size size)) (small_register dst) (small_register src) h (fits32 0 (omega arith)), tt)
slots_fit (AddCounter fetch dst src off) h = (slot_fits _ _ _ _ _ (omega arith) (small_register dst) (small_register src) h (fits32 _ (omega (arith, small_flag fetch))), tt)
slots_fit (Ja false to) h = (slot_fits _ _ _ _ _ (omega arith) (omega arith) (omega arith) h (fits32 0 (omega arith)), tt)
slots_fit (Ja true to) h = (slot_fits _ _ _ _ _ (omega arith) (omega arith) (omega arith) (fits16 0 (omega arith)) h, tt)
slots_fit (Jump cond wide dst (Immediate i) off) h = (slot_fits _ _ _ _ _ (omega (arith, small_jump wide cond)) (small_register dst) (omega arith) h.0 h.1, tt)
slots_fit (Jump cond wide dst (InRegister src) off) h = (slot_fits _ _ _ _ _ (small_jump wide cond) (small_register dst) (small_register src) h.0 (fits32 0 (omega arith)), tt)
slots_fit (Call helper) h = (slot_fits _ _ _ _ _ (omega arith) (omega arith) (omega arith) (fits16 0 (omega arith)) h, tt)
slots_fit Exit h = (slot_fits _ _ _ _ _ (omega arith) (omega arith) (omega arith) (fits16 0 (omega arith)) (fits32 0 (omega arith)), tt)
slots_fit Second h = tt

-- the instruction has one slot
one_is_short : (a g h : Fields) (hs : List Fields) → a ∷ [] ≡ g ∷ h ∷ hs → ⊥
one_is_short a g h hs e = cc

two_are : (a b g h : Fields) (hs : List Fields) → a ∷ b ∷ [] ≡ g ∷ h ∷ hs → (a.op ≡ g.op) × (hs ≡ [])
two_are a b g h hs e = let f : a ≡ g = cc in (ap (λ (x : Fields). x.op) f, cc)

-- only a wide load has more than one slot, and it has two
pub second_slot : (i : Insn) (g h : Fields) (hs : List Fields) → slots i ≡ g ∷ h ∷ hs → (0x18 ≡ g.op) × (hs ≡ [])
second_slot (Alu op wide dst (Immediate i)) g h hs e = absurd (one_is_short _ g h hs e)
second_slot (Alu op wide dst (InRegister src)) g h hs e = absurd (one_is_short _ g h hs e)
second_slot (Neg wide dst) g h hs e = absurd (one_is_short _ g h hs e)
second_slot (End kind width dst) g h hs e = absurd (one_is_short _ g h hs e)
second_slot (MovSx wide Byte dst src) g h hs e = absurd (one_is_short _ g h hs e)
second_slot (MovSx wide Half dst src) g h hs e = absurd (one_is_short _ g h hs e)
second_slot (MovSx true Word dst src) g h hs e = absurd (one_is_short _ g h hs e)
second_slot (MovSx false Word dst src) g h hs e = absurd cc
second_slot (MovSx wide Double dst src) g h hs e = absurd cc
second_slot (Const dst value) g h hs e = two_are _ _ g h hs e
second_slot (MapRef dst m) g h hs e = two_are _ _ g h hs e
second_slot (Ldx size false dst src off) g h hs e = absurd (one_is_short _ g h hs e)
second_slot (Ldx Byte true dst src off) g h hs e = absurd (one_is_short _ g h hs e)
second_slot (Ldx Half true dst src off) g h hs e = absurd (one_is_short _ g h hs e)
second_slot (Ldx Word true dst src off) g h hs e = absurd (one_is_short _ g h hs e)
second_slot (Ldx Double true dst src off) g h hs e = absurd cc
second_slot (St size dst off imm) g h hs e = absurd (one_is_short _ g h hs e)
second_slot (Stx size dst src off) g h hs e = absurd (one_is_short _ g h hs e)
second_slot (AddCounter fetch dst src off) g h hs e = absurd (one_is_short _ g h hs e)
second_slot (Ja false to) g h hs e = absurd (one_is_short _ g h hs e)
second_slot (Ja true to) g h hs e = absurd (one_is_short _ g h hs e)
second_slot (Jump cond wide dst (Immediate i) off) g h hs e = absurd (one_is_short _ g h hs e)
second_slot (Jump cond wide dst (InRegister src) off) g h hs e = absurd (one_is_short _ g h hs e)
second_slot (Call helper) g h hs e = absurd (one_is_short _ g h hs e)
second_slot Exit g h hs e = absurd (one_is_short _ g h hs e)
second_slot Second g h hs e = absurd cc

all_fit : (i : Insn) (fs : List Fields) → slots i ≡ fs → FitsFields i → AllByRecursion FitsSlot fs
all_fit i fs e h = subst (AllByRecursion FitsSlot) e (slots_fit i h)

-- where the slots of an instruction are written at the front of what a slot begins, its first slot is that one
pub first_of : (fs : List Fields) (f : Fields) (rest more : List ℕ) → fs ≢ [] → AllByRecursion FitsSlot fs → FitsSlot f → slot_bytes f ++ rest ≡ flat_map slot_bytes fs ++ more →
    (gs : List Fields) × (fs ≡ f ∷ gs) × (rest ≡ flat_map slot_bytes gs ++ more)
first_of [] f rest more some each fit h = absurd (some refl)
first_of (g ∷ gs) f rest more some each fit h =
    let e : slot_bytes f ++ rest ≡ slot_bytes g ++ (flat_map slot_bytes gs ++ more) = h ∙ append_assoc (slot_bytes g) (flat_map slot_bytes gs) more in
    let r = same_fields f g rest (flat_map slot_bytes gs ++ more) fit each.0 e in
    (gs, ap (λ (x : Fields). x ∷ gs) (sym r.0), r.1)

none_by_list : (i : Insn) (fs : List Fields) (f : Fields) (rest more : List ℕ) → slots i ≡ fs → HasSpelling i → FitsSlot f → f.op ≢ 0x18 → (slots i ≡ f ∷ [] → ⊥) → slot_bytes f ++ rest ≡ flat_map slot_bytes fs ++ more → ⊥
none_by_list i fs f rest more e has fit narrow none h =
    let r = first_of fs f rest more (λ n. has.some (e ∙ n)) (all_fit i fs e has.fits) fit h in
    by_others r.0 (e ∙ r.1)
  where
    by_others : (gs : List Fields) → slots i ≡ f ∷ gs → ⊥
    by_others [] g = none g
    by_others (x ∷ xs) g = narrow (sym ((second_slot i f x xs g).0))

-- a slot that is no instruction's only one, and not a wide load's first, continues no spelling
pub none_begin : (f : Fields) (rest : List ℕ) → FitsSlot f → f.op ≢ 0x18 → ((i : Insn) → slots i ≡ f ∷ [] → ⊥) → ContinuesNone (slot_bytes f ++ rest)
none_begin f rest fit narrow none i more has h = none_by_list i (slots i) f rest more refl has fit narrow (none i) h

pub take_eight : (bytes : List ℕ) (f : Fields) → take 8 bytes ≡ slot_bytes f → bytes ≡ slot_bytes f ++ drop 8 bytes
take_eight bytes f h = sym (take-append-drop 8 bytes) ∙ ap (λ x. x ++ drop 8 bytes) h

tail_none : (x : Fields) (xs : List Fields) (y : Fields) (ys : List Fields) → x ∷ xs ≡ y ∷ ys → xs ≡ [] → ys ≡ []
tail_none x xs y ys a b = cc

-- the same for a wide load, whose second slot follows
none_by_two : (i : Insn) (fs : List Fields) (f g : Fields) (rest more : List ℕ) → slots i ≡ fs → HasSpelling i → FitsSlot f → FitsSlot g → f.op ≡ 0x18 → (slots i ≡ f ∷ g ∷ [] → ⊥) →
    slot_bytes f ++ (slot_bytes g ++ rest) ≡ flat_map slot_bytes fs ++ more → ⊥
none_by_two i fs f g rest more e has fit fit' wide none h =
    let r = first_of fs f (slot_bytes g ++ rest) more (λ n. has.some (e ∙ n)) (all_fit i fs e has.fits) fit h in
    by_others r.0 (e ∙ r.1) r.2
  where
    by_others : (gs : List Fields) → slots i ≡ f ∷ gs → slot_bytes g ++ rest ≡ flat_map slot_bytes gs ++ more → ⊥
    by_others [] one b = one_is_narrow i f one wide
    by_others (x ∷ xs) two b =
        let shape = second_slot i f x xs two in
        let fits = all_fit i (f ∷ x ∷ xs) two has.fits in
        let s = first_of (x ∷ xs) g rest more (λ n. absurd (cc)) fits.1 fit' b in
        none (two ∙ ap (λ l. f ∷ l) (s.1 ∙ ap (λ l. g ∷ l) (tail_none x xs g s.0 s.1 shape.1)))

-- a wide load's first slot and another that are no instruction's two continue no spelling
pub none_begin_two : (f g : Fields) (rest : List ℕ) → FitsSlot f → FitsSlot g → f.op ≡ 0x18 → ((i : Insn) → slots i ≡ f ∷ g ∷ [] → ⊥) → ContinuesNone (slot_bytes f ++ (slot_bytes g ++ rest))
none_begin_two f g rest fit fit' wide none i more has h = none_by_two i (slots i) f g rest more refl has fit fit' wide (none i) h

-- an instruction of one slot takes one, of two two
takes_one : (i : Insn) (f : Fields) → slots i ≡ f ∷ [] → length (takes i) ≡ 1
takes_one (Const dst value) f h = absurd cc
takes_one (MapRef dst m) f h = absurd cc
takes_one (Alu op wide dst src) f h = refl
takes_one (Neg wide dst) f h = refl
takes_one (End kind width dst) f h = refl
takes_one (MovSx wide bits dst src) f h = refl
takes_one (Ldx size signed dst src off) f h = refl
takes_one (St size dst off imm) f h = refl
takes_one (Stx size dst src off) f h = refl
takes_one (AddCounter fetch dst src off) f h = refl
takes_one (Ja wide to) f h = refl
takes_one (Jump cond wide dst src off) f h = refl
takes_one (Call helper) f h = refl
takes_one Exit f h = refl
takes_one Second f h = refl

-- bytes that begin with the slot of an instruction begin with its spelling
pub begins_one : (bytes : List ℕ) (f : Fields) (i : Insn) → take 8 bytes ≡ slot_bytes f → slots i ≡ f ∷ [] → FitsFields i → HasSpelling i × (bytes ≡ spelling i ++ drop (8 * length (takes i)) bytes)
begins_one bytes f i front one fits =
    let n : 8 * length (takes i) ≡ 8 = omega (arith, takes_one i f one) in
    let s : spelling i ≡ slot_bytes f = ap (flat_map slot_bytes) one in
    (record { some = λ none. absurd cc; fits = fits }, rw (n, s) (take_eight bytes f front))
