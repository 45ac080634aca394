-- Stated: claims rest on this file.
-- Where a register was an address last.
use Rattle.std.specs.Prelude.{ℕ, ◌≡◌, ◌<◌, ◌⊎◌, List, [], ◌∷◌, ◌++◌, Option, None, Some, Bool, true, false, slice_get, Contains, Ok}
use Rattle.bpf_insn.specs.declared.insn.Insn.{Insn}
use Rattle.bpf_note.specs.declared.val.Val.{Val}
use Rattle.bpf_note.specs.declared.val.Val.TheVariants.{Num, Pkt, PktEnd, Stack, Ctx, MaybeValue, Value}
use Rattle.bpf_note.specs.Shape.{Shape}
use Rattle.bpf_note.specs.Facts.{Facts}
use Rattle.bpf_flow.specs.Edges.{Edges}
use Rattle.bpf_flow.specs.Graph.{writes}
use Rattle.bpf_verify.specs.Edges.{IsPassOrder}
use Rattle.bpf_verify.specs.Gathered.{rule_at, AreNotes, AreAllowed}

-- an address in the packet, on the stack, of the context or of a map's value, the last one perhaps 0
abbrev pub is_address : Val → Bool
is_address (Pkt id off) = true
is_address PktEnd = true
is_address (Stack off) = true
is_address Ctx = true
is_address (MaybeValue m id) = true
is_address (Value m) = true
is_address v = false

abbrev pub is_number : Val → Bool
is_number (Num lo hi) = true
is_number v = false

-- register k is a number after one of the edges
abbrev pub MakesNumber : ℕ → Edges → Type 0
MakesNumber k [] = ⊥
MakesNumber k (e ∷ es) = (is_number (e.1.reg k) ≡ true) ⊎ MakesNumber k es

abbrev pub writes_by : Option Insn → ℕ → Bool
writes_by None k = false
writes_by (Some i) k = writes i k

-- the last slot below pc whose instruction writes register k
pub record IsLastWrite (code : List Insn) (k pc p : ℕ) : Type 0 where
  pub below : p < pc
  pub writes : writes_by (slice_get code p) k ≡ true
  pub last : (q : ℕ) → p < q → q < pc → writes_by (slice_get code q) k ≡ false

-- the second pass comes to slot p, where this list of notes stands: the slots before it in its order have told theirs, and
-- the rule refuses none of them
pub record ComesWith (code : List Insn) (shapes : List Shape) (p : ℕ) (list : List Facts) : Type 0 where
  pub order : List ℕ
  pub is_order : IsPassOrder code order
  pub before : List ℕ
  pub rest : List ℕ
  pub parts : order ≡ before ++ p ∷ rest
  pub notes : ℕ → List Facts
  pub are_notes : AreNotes code shapes before notes
  pub allowed : (q : ℕ) → Contains before q → AreAllowed code shapes q (notes q)
  pub here : notes p ≡ list

-- the note gives register k an address, and the rule makes it a number
pub record Loses (code : List Insn) (shapes : List Shape) (p k : ℕ) (note : Facts) : Type 0 where
  pub address : is_address (note.reg k) ≡ true
  pub edges : Edges
  pub rule : rule_at code shapes p note ≡ Ok edges
  pub number : MakesNumber k edges

-- slot p is the last below pc that writes register k, and the note is one of those there that lose its address
pub record IsLost (code : List Insn) (shapes : List Shape) (pc k p : ℕ) (note : Facts) : Type 0 where
  pub write : IsLastWrite code k pc p
  pub list : List Facts
  pub comes : ComesWith code shapes p list
  pub there : Contains list note
  pub loses : Loses code shapes p k note
