-- Where a register was an address last.
use Rattle.std.proofs.Common.{◌≡◌, ◌<◌, ◌+◌, get_or, ℕ, List, Option, Some, None, refl, sym, ◌∙◌, arith, subst, true, inl, inr}
use Rattle.std.specs.Prelude.{◌↔◌, Bool, IsTrue, Ok, Err}
use Rattle.std.proofs.lemmas.Bool.{cases_order, cases_lt}
use Rattle.bpf_insn.specs.declared.insn.Insn.{Insn}
use Rattle.bpf_insn.specs.declared.insn.Insn.TheVariants.{Alu, Neg, End, MovSx, Const, MapRef, Ldx, St, Stx, AddCounter, Ja, Jump, Call, Exit, Second}
use Rattle.bpf_insn.specs.declared.refusal.Cause.{Cause}
use Rattle.bpf_insn.specs.declared.refusal.Cause.TheVariants.{Memory, Length, Opcode, Register, Target, BackJump, End as EndCause, Unset, FramePointer, NoPointer, Packet, Stack, Context, MayBeNull, MapAccess, Helper, MapNumber, Argument, Unsupported}
use Rattle.bpf_note.specs.Facts.{Facts}
use Rattle.bpf_flow.specs.Causes.{IsRuleCause}
use Rattle.bpf_flow.specs.Edges.{Edges, Answer}
use Rattle.bpf_flow.specs.Gives.{Fails}
use Rattle.bpf_verify.specs.Structure.{begins}
use Rattle.bpf_note.specs.Shape.{Shape}
use Rattle.bpf_verify.specs.Gathered.{rule_at}
use Rattle.bpf_verify.specs.Lost.{is_address, MakesNumber, writes_by, IsLastWrite, Loses}
use Rattle.bpf_verify.specs.Tables.{IsMet}

pub writes_begins : (o : Option Insn) (k : ℕ) → writes_by o k ≡ true → begins o ≡ true
writes_begins None k h = absurd (cc)
writes_begins (Some Second) k h = absurd (cc)
writes_begins (Some (Alu op wide dst src)) k h = refl
writes_begins (Some (Neg wide dst)) k h = refl
writes_begins (Some (End kind width dst)) k h = refl
writes_begins (Some (MovSx wide bits dst src)) k h = refl
writes_begins (Some (Const dst value)) k h = refl
writes_begins (Some (MapRef dst m)) k h = refl
writes_begins (Some (Ldx size signed dst src off)) k h = refl
writes_begins (Some (St size dst off imm)) k h = refl
writes_begins (Some (Stx size dst src off)) k h = refl
writes_begins (Some (AddCounter fetch dst src off)) k h = refl
writes_begins (Some (Ja wide to)) k h = refl
writes_begins (Some (Jump cond wide dst src off)) k h = refl
writes_begins (Some (Call helper)) k h = refl
writes_begins (Some Exit) k h = refl

-- there is one last write
pub one_write : (code : List Insn) (k pc p q : ℕ) → IsLastWrite code k pc p → IsLastWrite code k pc q → p ≡ q
one_write code k pc p q a b = elim (cases_order p q) [
  | inl e ↦ e
  | inr o ↦ elim o [
    | inl l ↦ absurd (let both = sym b.writes ∙ a.last q l b.below in cc)
    | inr l ↦ absurd (let both = sym a.writes ∙ b.last p l a.below in cc)
  ]
]

-- what isn't a rule's cause is out of memory
pub fails_memory : (c : Cause) (a : Answer) → (IsRuleCause c → ⊥) → (a ≡ Err c → IsRuleCause c) → Fails c a → c ≡ Memory
fails_memory Memory a out rule g = refl
fails_memory Length a out rule g = absurd (out (rule g))
fails_memory Opcode a out rule g = absurd (out (rule g))
fails_memory Register a out rule g = absurd (out (rule g))
fails_memory Target a out rule g = absurd (out (rule g))
fails_memory BackJump a out rule g = absurd (out (rule g))
fails_memory EndCause a out rule g = absurd (out (rule g))
fails_memory Unset a out rule g = absurd (out (rule g))
fails_memory FramePointer a out rule g = absurd (out (rule g))
fails_memory NoPointer a out rule g = absurd (out (rule g))
fails_memory Packet a out rule g = absurd (out (rule g))
fails_memory Stack a out rule g = absurd (out (rule g))
fails_memory Context a out rule g = absurd (out (rule g))
fails_memory MayBeNull a out rule g = absurd (out (rule g))
fails_memory MapAccess a out rule g = absurd (out (rule g))
fails_memory Helper a out rule g = absurd (out (rule g))
fails_memory MapNumber a out rule g = absurd (out (rule g))
fails_memory Argument a out rule g = absurd (out (rule g))
fails_memory Unsupported a out rule g = absurd (out (rule g))

-- the same of two types
pub met_memory : (c : Cause) (W P : Type 0) → (IsRuleCause c → ⊥) → (P → IsRuleCause c) → IsMet c W P → c ≡ Memory
met_memory Memory W P out rule g = refl
met_memory Length W P out rule g = absurd (out (rule g))
met_memory Opcode W P out rule g = absurd (out (rule g))
met_memory Register W P out rule g = absurd (out (rule g))
met_memory Target W P out rule g = absurd (out (rule g))
met_memory BackJump W P out rule g = absurd (out (rule g))
met_memory EndCause W P out rule g = absurd (out (rule g))
met_memory Unset W P out rule g = absurd (out (rule g))
met_memory FramePointer W P out rule g = absurd (out (rule g))
met_memory NoPointer W P out rule g = absurd (out (rule g))
met_memory Packet W P out rule g = absurd (out (rule g))
met_memory Stack W P out rule g = absurd (out (rule g))
met_memory Context W P out rule g = absurd (out (rule g))
met_memory MayBeNull W P out rule g = absurd (out (rule g))
met_memory MapAccess W P out rule g = absurd (out (rule g))
met_memory Helper W P out rule g = absurd (out (rule g))
met_memory MapNumber W P out rule g = absurd (out (rule g))
met_memory Argument W P out rule g = absurd (out (rule g))
met_memory Unsupported W P out rule g = absurd (out (rule g))

module _ (code : List Insn) (shapes : List Shape) (p k : ℕ) (n : Facts) where
  -- where the rule leads on, its edges tell
  pub is_lost : (es : Edges) (b : Bool) → is_address (n.reg k) ≡ true → rule_at code shapes p n ≡ Ok es → (IsTrue b ↔ MakesNumber k es) → IsTrue b ↔ Loses code shapes p k n
  is_lost es b a r t = (
    λ h. record { address = a; edges = es; rule = r; number = t.0 h },
    λ l. let both : ◌≡◌ {A = Answer} (Ok l.edges) (Ok es) = sym l.rule ∙ r in let same : l.edges ≡ es = cc in t.1 (subst (λ (es : Edges). MakesNumber k es) same l.number),
  )

  -- where it refuses the note, nothing is lost
  pub not_lost : (c : Cause) → rule_at code shapes p n ≡ Err c → Loses code shapes p k n → ⊥
  not_lost c r l = let both : ◌≡◌ {A = Answer} (Ok l.edges) (Err c) = sym l.rule ∙ r in absurd (cc)

-- a rule's cause isn't out of memory
pub met_rule : (c : Cause) (W P : Type 0) → IsRuleCause c → IsMet c W P → P
met_rule Memory W P r g = absurd r
met_rule Length W P r g = g
met_rule Opcode W P r g = g
met_rule Register W P r g = g
met_rule Target W P r g = g
met_rule BackJump W P r g = g
met_rule EndCause W P r g = g
met_rule Unset W P r g = g
met_rule FramePointer W P r g = g
met_rule NoPointer W P r g = g
met_rule Packet W P r g = g
met_rule Stack W P r g = g
met_rule Context W P r g = g
met_rule MayBeNull W P r g = g
met_rule MapAccess W P r g = g
met_rule Helper W P r g = g
met_rule MapNumber W P r g = g
met_rule Argument W P r g = g
met_rule Unsupported W P r g = g

-- one place more that isn't the slot
pub away_next : (order : List ℕ) (i at : ℕ) → ((j : ℕ) → j < i → get_or order j 0 ≡ at → ⊥) → (get_or order i 0 ≡ at → ⊥) → (j : ℕ) → j < i + 1 → get_or order j 0 ≡ at → ⊥
away_next order i at before here j low e = elim (cases_lt j i) [
  | inl l ↦ before j l e
  | inr h ↦ let same : j ≡ i = omega arith in here (subst (λ (k : ℕ). get_or order k 0 ≡ at) same e)
]
