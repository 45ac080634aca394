-- For proofs: no claim rests on this file.
-- When an old program simulates what a new one does.
use Rattle.std.specs.Prelude.{ℕ, ℤ, ◌+◌, ◌≡◌, ◌<◌, ◌≤◌, ◌⊎◌, List, Option, None, Some, Bool, true, false, not, slice_get, Err}
use Rattle.std.specs.Global.{Box, Vec}
use Rattle.bpf_insn.specs.declared.register.Register.{Register}
use Rattle.bpf_insn.specs.declared.register.Register.TheVariants.{R10}
use Rattle.bpf_insn.specs.declared.size.Size.TheVariants.{Double}
use Rattle.bpf_insn.specs.declared.insn.Insn.{Insn}
use Rattle.bpf_insn.specs.declared.refusal.Cause.{Cause}
use Rattle.bpf_insn.specs.declared.insn.Insn.TheVariants.{Ldx, Ja, Jump}
use Rattle.bpf_note.specs.Shape.{Shape}
use Rattle.bpf_note.specs.State.{State}
use Rattle.bpf_note.specs.Parts.{Noted, facts}
use Rattle.bpf_note.specs.Facts.{Facts, entry}
use Rattle.bpf_note.specs.Describes.{Describes}
use Rattle.bpf_note.specs.declared.op.Op.{Op}
use Rattle.bpf_flow.specs.Edges.{Answer, Edges}
use Rattle.bpf_flow.specs.Graph.{next_slot}
use Rattle.bpf_flow.specs.Sound.{Accounts}
use Rattle.bpf_flow.specs.Step.{Exited, at_slot, exec, step, target, LeadsTo}
use Rattle.bpf_same.specs.declared.witness.Witness.{Witness}
use Rattle.bpf_same.specs.declared.relation.Relation.{Relation}
use Rattle.bpf_same.specs.Decided.{IsDecided, on_way}
use Rattle.bpf_same.specs.Traces.{Trace, Has, IsNext, numbers}
use Rattle.bpf_same.specs.Contents.{content_of, Contain, IsAddedStore, Preserves, PreservesContents}
use Rattle.bpf_same.specs.LinearForms.{held, IsWord, Hold}
use Rattle.bpf_same.specs.Stepped.{ReadsAlike, Shares, IsOwnStep}
use Rattle.bpf_same.specs.Moved.{DoesAlike}

abbrev pub Notes : Type 0
Notes = List (Vec (Box Noted))

-- a candidate for a simulation: of each slot of a new program its witness, notes of which one describes the state, and the relation of
-- both states; below which byte of the stack the new program's own words lie; and whether the programs alone have
-- the counters
pub record Candidate : Type 0 where
  pub old : List Insn
  pub witnesses : List Witness
  pub notes : Notes
  pub relations : List Relation
  pub low : ℕ
  pub alone : Bool

-- one of the notes at slot q describes the state
pub record IsKnown (notes : Notes) (q : ℕ) (s : State) : Type 0 where
  pub list : Vec (Box Noted)
  pub here : slice_get notes q ≡ Some list
  pub k : ℕ
  pub note : Box Noted
  pub at : slice_get list.items k ≡ Some note
  pub describes : Describes (facts note.value) s

-- the old program's state t at slot p is related to the new one's state s: they differ in registers, as the relation says, and below low
pub record IsRelated (e : Relation) (low p : ℕ) (s t : State) : Type 0 where
  pub pc : t.pc ≡ p
  pub packet : t.packet ≡ s.packet
  pub ifindex : t.ifindex ≡ s.ifindex
  pub queue : t.queue ≡ s.queue
  pub shapes : t.shapes ≡ s.shapes
  pub find : t.find ≡ s.find
  pub stack : (i : ℕ) → low ≤ i → t.stack i ≡ s.stack i
  pub relation : Hold e (held s) t.reg

-- from each state of the old program at the witness that is related to the new one's state it has such a run
abbrev pub IsSimulated : Candidate → Trace → State → Type 0
IsSimulated b r u = (witness : Witness) (e : Relation) (t : State) → slice_get b.witnesses u.pc ≡ Some witness → slice_get b.relations u.pc ≡ Some e → IsKnown b.notes u.pc u → IsRelated e b.low witness.at u t →
    Contain e (held u) (numbers b.alone r u) → Has b.alone b.old r t

-- where this is known, the instruction is a silent step: it leads from slot p to slot q and does nothing else
abbrev pub IsSilent : Insn → Relation → ℕ → Facts → ℕ → ℕ → Type 0
IsSilent i e low n p q = (s t : State) → Describes n s → IsRelated e low p s t → LeadsTo (exec i t) None (at_slot t q)

-- where this is known, silent steps lead the old program from slot p to slot q
abbrev pub ReachesSilently : Bool → List Insn → Relation → ℕ → Facts → ℕ → ℕ → Type 0
ReachesSilently alone old e low n p q = (s t : State) → Describes n s → IsRelated e low p s t → (r : Trace) → Has alone old r (at_slot t q) → Has alone old r t

-- where this is known at slot q of the new program, and the relation holds, the old one simulates it from slot p on
abbrev pub Meets : Candidate → Facts → Relation → ℕ → ℕ → Type 0
Meets b n e p q = (s t : State) → s.pc ≡ q → Describes n s → IsRelated e b.low p s t → (r : Trace) → Contain e (held s) (numbers b.alone r s) → IsSimulated b r s → Has b.alone b.old r t

-- the same where the relation of slot q holds
abbrev pub SimulatesFrom : Candidate → Facts → ℕ → ℕ → Type 0
SimulatesFrom b n p q = (e : Relation) → slice_get b.relations q ≡ Some e → Meets b n e p q

-- after the instruction a relation holds where the old program simulates slot q of the new one from slot p on
pub record Establishes (b : Candidate) (i : Insn) (stutters : Bool) (e : Relation) (n : Facts) (p q : ℕ) : Type 0 where
  pub next : Relation
  pub preserves : Preserves b.alone i stutters b.low n e next
  pub contents : PreservesContents i stutters b.low n e next
  pub meets : Meets b n next p q

-- the relation of slot q holds after the instruction
pub record PreservesAt (b : Candidate) (i : Insn) (stutters : Bool) (e : Relation) (n : Facts) (q : ℕ) : Type 0 where
  pub next : Relation
  pub here : slice_get b.relations q ≡ Some next
  pub preserves : Preserves b.alone i stutters b.low n e next
  pub contents : PreservesContents i stutters b.low n e next

abbrev pub EstablishesAt : Candidate → Insn → Bool → Relation → Facts → Option ℕ → ℕ → Type 0
EstablishesAt b i stutters e n (Some p) q = Establishes b i stutters e n p q
EstablishesAt b i stutters e n None q = ⊥

-- the old program has an instruction at slot p that does the same, above low
pub record IsCopied (b : Candidate) (p : ℕ) (i : Insn) (e : Relation) (n : Facts) : Type 0 where
  pub old : Insn
  pub there : slice_get b.old p ≡ Some old
  pub does : DoesAlike e old i
  pub shares : Shares b.low n i

-- both programs take the step
pub record IsSharedStep (b : Candidate) (p : ℕ) (i : Insn) (e : Relation) (n m : Facts) (q : ℕ) : Type 0 where
  pub copied : IsCopied b p i e n
  pub establishes : Establishes b i false e m (next_slot i p) q

-- the old program, alone, stores at slot p to the counter that this adds to
pub record IsStoredSum (b : Candidate) (p : ℕ) (i : Insn) (e : Relation) : Type 0 where
  pub alone : b.alone ≡ true
  pub old : Insn
  pub there : slice_get b.old p ≡ Some old
  pub does : IsAddedStore e old i

-- the new program, alone, loads what a counter may hold, and no word of its own
pub record IsOwnLoad (b : Candidate) (i : Insn) : Type 0 where
  pub alone : b.alone ≡ true
  pub dst : Register
  pub src : Register
  pub off : ℤ
  pub is : i ≡ Ldx Double false dst src off
  pub other : src ≡ R10 → ⊥

-- a step in which the old program stutters, or which both take
abbrev pub SimulatesStep : Candidate → Bool → ℕ → Insn → Relation → Facts → Facts → ℕ → Type 0
SimulatesStep b true p i e n m q = (IsOwnStep i b.low n ⊎ IsOwnLoad b i) × Establishes b i true e m p q
SimulatesStep b false p i e n m q = IsSharedStep b p i e n m q ⊎ IsStoredSum b p i e × Establishes b i false e m (p + 1) q

-- an instruction that leads to slot q alone
abbrev pub SimulatesPlain : Candidate → Bool → ℕ → Insn → Relation → Facts → Facts → ℕ → Type 0
SimulatesPlain b stutters p (Ja wide_offset to) e n m q = Establishes b (Ja wide_offset to) true e m p q
SimulatesPlain b stutters p (Jump cond wide dst src off) e n m q = ⊥
SimulatesPlain b stutters p i e n m q = SimulatesStep b stutters p i e n m q

-- a way of a conditional jump is never taken, or leads to slot q, which the old program simulates from slot p on
abbrev pub SimulatesWay : Candidate → Insn → Relation → Facts → Bool → Option ℕ → Facts → ℕ → Type 0
SimulatesWay b i e n way p m q = IsDecided i e n (not way) ⊎ EstablishesAt b (on_way i way) true e m p q

-- both ways of a conditional jump: not taken, and taken
pub record SimulatesWays (b : Candidate) (i : Insn) (e : Relation) (n : Facts) (p t : Option ℕ) (l : Facts) (q : ℕ) (m : Facts) (r : ℕ) : Type 0 where
  pub next : SimulatesWay b i e n false p l q
  pub taken : SimulatesWay b i e n true t m r

-- the same jump but for its offset leads to t
abbrev pub AreSameJump : Option Insn → ℕ → Insn → Option ℕ → Type 0
AreSameJump (Some (Jump cond wide dst src off)) p i t = (o : ℤ) × (i ≡ Jump cond wide dst src o) × (target p off ≡ t)
AreSameJump o p i t = ⊥

-- a conditional jump that the old program has at slot p too
pub record IsSharedBranch (b : Candidate) (p : ℕ) (i : Insn) (e : Relation) (n l : Facts) (q : ℕ) (m : Facts) (r : ℕ) : Type 0 where
  pub to : Option ℕ
  pub same_target : AreSameJump (slice_get b.old p) p i to
  pub alike : ReadsAlike e i
  pub both : SimulatesWays b i e n (Some (p + 1)) to l q m r

-- a conditional jump on whose ways the old program stutters at slot p, or which it has there too
abbrev pub SimulatesBranch : Candidate → Bool → ℕ → Insn → Relation → Facts → Facts → ℕ → Facts → ℕ → Type 0
SimulatesBranch b true p i e n l q m r = SimulatesWays b i e n (Some p) (Some p) l q m r
SimulatesBranch b false p i e n l q m r = IsSharedBranch b p i e n l q m r

-- an instruction at slot pc is a conditional jump that leads to slots q and r, which aren't one
abbrev pub IsBranch : Insn → ℕ → ℕ → ℕ → Type 0
IsBranch (Jump cond wide dst src off) pc q r = (q ≡ pc + 1) × (target pc off ≡ Some r) × (q ≡ r → ⊥)
IsBranch i pc q r = ⊥

-- the edges account for what an instruction does where this is known
abbrev pub IsAccounted : Edges → List Shape → Insn → Facts → ℕ → Type 0
IsAccounted es shapes i n pc = (s : State) → Describes n s → s.pc ≡ pc → s.shapes ≡ shapes → Accounts es (exec i s)

-- the verifier's rule gives a cause of refusal
abbrev pub IsRefused : Answer → Type 0
IsRefused a = (c : Cause) × (a ≡ Err c)

-- the old program at slot p simulates the new one's instruction at slot pc
pub record Simulates (b : Candidate) (shapes : List Shape) (p : ℕ) (i : Insn) (e : Relation) (n : Facts) (pc : ℕ) : Type 0 where
  pub goes : (s t : State) → IsRelated e b.low p s t → s.pc ≡ pc → s.shapes ≡ shapes → Describes n s → (label : Option Op) (u : State) → LeadsTo (exec i s) label u → (r d : Trace) → IsNext b.alone label r d →
      Contain e (held s) (numbers b.alone r s) → IsSimulated b d u → Has b.alone b.old r t
  pub ends : (s t : State) → IsRelated e b.low p s t → Describes n s → (r0 : ℕ) → exec i s ≡ Exited r0 → step b.old t ≡ Exited r0

-- the instruction may lead elsewhere than to the next slot
abbrev pub is_jump : Insn → Bool
is_jump (Ja wide_offset to) = true
is_jump (Jump cond wide dst src off) = true
is_jump i = false

-- the old program simulates the instruction of slot pc
abbrev pub SimulatesSlot : Candidate → List Insn → List Shape → ℕ → Type 0
SimulatesSlot b new shapes pc = (i : Insn) (witness : Witness) (e : Relation) (list : Vec (Box Noted)) (k : ℕ) (n : Box Noted) → slice_get new pc ≡ Some i → slice_get b.witnesses pc ≡ Some witness → slice_get b.relations pc ≡ Some e →
    slice_get b.notes pc ≡ Some list → slice_get list.items k ≡ Some n → Simulates b shapes witness.at i e (facts n.value) pc

-- a relation that holds where both programs begin
abbrev pub HoldsAtStart : Relation → Type 0
HoldsAtStart e = (f g : ℕ → Option ℕ) → ((n : ℕ) → IsWord (f n)) → ((k : ℕ) → k < 11 → g k ≡ f k) → Hold e f g

-- the first slot's relation holds where both programs begin, and the old one simulates it
pub record IsInitial (b : Candidate) : Type 0 where
  pub first : Relation
  pub here : slice_get b.relations 0 ≡ Some first
  pub at_start : HoldsAtStart first
  pub contents : (k : ℕ) → k < 8 → content_of first k ≡ None
  pub start : SimulatesFrom b entry 0 0

-- a simulation: the base, and each step
pub record IsSimulation (b : Candidate) (new : List Insn) (shapes : List Shape) : Type 0 where
  pub initial : IsInitial b
  pub each : (pc : ℕ) → SimulatesSlot b new shapes pc
