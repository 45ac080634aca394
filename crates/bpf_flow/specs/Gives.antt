-- Stated: claims rest on this file.
-- What the code answers, seen as the rule's answer.
use Rattle.std.specs.Prelude.{ℕ, ◌+◌, ◌≡◌, ◌≤◌, [], ◌∷◌, Result, Ok, Err}
use Rattle.bpf_insn.specs.declared.refusal.Cause.{Cause}
use Rattle.bpf_insn.specs.declared.refusal.Cause.TheVariants.{Memory}
use Rattle.bpf_note.specs.Facts.{Facts}
use Rattle.bpf_note.specs.Parts.{facts}
use Rattle.bpf_flow.specs.declared.successors.Successors.{Successors}
use Rattle.bpf_flow.specs.declared.successors.Successors.TheVariants.{None, One, Two}
use Rattle.bpf_flow.specs.declared.successors.Ways.{Ways}
use Rattle.bpf_flow.specs.declared.successors.Ways.TheVariants as ways
use Rattle.bpf_flow.specs.Edges.{Edges, Answer}
use Rattle.bpf_flow.specs.declared.access.Access.{Access}
use Rattle.bpf_flow.specs.declared.access.Access.TheVariants.{InPacket, OnStack, InContext, AtValue}

-- bytes of the stack that are reached lie in it
abbrev pub IsInside : Access → ℕ → Type 0
IsInside InPacket z = Unit {0}
IsInside (OnStack p) z = p + z ≤ 512
IsInside (InContext o) z = Unit {0}
IsInside (AtValue m o) z = Unit {0}

-- the edges, the next slot before a jump's target
abbrev pub edges_of : Successors → Edges
edges_of None = []
edges_of (One e) = (e.pc, facts e.note.value) ∷ []
edges_of (Two e f) = (e.pc, facts e.note.value) ∷ (f.pc, facts f.note.value) ∷ []

-- the edges along the ways that are left, if n is known at the slot that the first edge leads to
abbrev pub edges_along : Ways → Facts → Edges
edges_along ways.None n = []
edges_along (ways.One pc) n = (pc, n) ∷ []
edges_along (ways.Two pc f) n = (pc, n) ∷ (f.pc, facts f.note.value) ∷ []

-- an answer that takes memory: it has an edge
abbrev pub WantsMemory : Answer → Type 0
WantsMemory (Ok []) = ⊥
WantsMemory (Ok (e ∷ es)) = Unit {0}
WantsMemory (Err c) = ⊥

abbrev pub Fails : Cause → Answer → Type 0
Fails Memory a = WantsMemory a
Fails c a = a ≡ Err c

-- the answer is the rule's, unless memory ran out
abbrev pub Gives : Result Successors Cause → Answer → Type 0
Gives (Ok s) a = a ≡ Ok (edges_of s)
Gives (Err c) a = Fails c a
