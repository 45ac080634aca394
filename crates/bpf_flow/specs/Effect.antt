-- Stated: claims rest on this file.
-- What an instruction does that the rule allows, as edges.
use Rattle.std.specs.Prelude.{ℕ, ◌+◌, ◌≡◌, ◌≤◌, [], ◌∷◌, Result, Ok, Err}
use Rattle.bpf_insn.specs.Register.{number}
use Rattle.bpf_insn.specs.Size.{size_bytes}
use Rattle.bpf_insn.specs.declared.insn.Insn.{Insn}
use Rattle.bpf_insn.specs.declared.insn.Insn.TheVariants.{Alu, Jump, Call}
use Rattle.bpf_insn.specs.declared.refusal.Cause.{Cause}
use Rattle.bpf_note.specs.declared.val.Val.TheVariants.{Pkt}
use Rattle.bpf_note.specs.Facts.{Facts, with_reg, with_id}
use Rattle.bpf_flow.specs.Alu.{operand_value, result_of}
use Rattle.bpf_flow.specs.Branch.{taken, passed}
use Rattle.bpf_flow.specs.Call.{with_call}
use Rattle.bpf_flow.specs.Edges.{Edges, Answer}
use Rattle.bpf_flow.specs.Memory.{with_store}
use Rattle.bpf_flow.specs.declared.branch.Test.{Test}
use Rattle.bpf_flow.specs.declared.computed.Computed.{Computed}
use Rattle.bpf_flow.specs.declared.computed.Computed.TheVariants.{Plain, Fresh}
use Rattle.bpf_flow.specs.declared.effect.Effect.{Effect}
use Rattle.bpf_flow.specs.declared.effect.Effect.TheVariants.{Goes, Sets, SetsFresh, Stores, LooksUp, Branches, Ends}

-- what is known if a test is met, and if it isn't
abbrev pub met : Test → Facts → Facts
met t n = taken t.cond t.wide n (number t.dst) t.src (n.reg (number t.dst)) (operand_value n t.src)

abbrev pub missed : Test → Facts → Facts
missed t n = passed t.cond t.wide n (number t.dst) t.src (n.reg (number t.dst)) (operand_value n t.src)

-- the edges from slot pc, where n is known
abbrev pub edges_by : Effect → ℕ → Facts → Edges
edges_by (Goes to) pc n = (to, n) ∷ []
edges_by (Sets to dst v) pc n = (to, with_reg n (number dst) v) ∷ []
edges_by (SetsFresh dst top) pc n = (pc + 1, with_reg (with_id n pc top) (number dst) (Pkt pc 0)) ∷ []
edges_by (Stores p size v) pc n = (pc + 1, with_store n p size v) ∷ []
edges_by (LooksUp m) pc n = (pc + 1, with_call (with_id n pc 0) m pc) ∷ []
edges_by (Branches to t) pc n = (pc + 1, missed t n) ∷ (to, met t n) ∷ []
edges_by Ends pc n = []

-- stored bytes lie in the stack
abbrev pub Fits : Effect → Type 0
Fits (Stores p size v) = p + size_bytes size ≤ 512
Fits e = Unit {0}

-- what the code decides at slot pc, where n is known, is the rule's answer
abbrev pub Decides : Result Effect Cause → ℕ → Facts → Answer → Type 0
Decides (Ok e) pc n a = (a ≡ Ok (edges_by e pc n)) × Fits e
Decides (Err c) pc n a = a ≡ Err c

-- an effect that takes memory: a new id for an address, a lookup's result, or a copy of what is known
abbrev pub Allocates : Effect → Type 0
Allocates (SetsFresh dst top) = Unit {0}
Allocates (LooksUp m) = Unit {0}
Allocates (Branches to t) = Unit {0}
Allocates e = ⊥

-- an address in the packet with a base of its own
abbrev pub IsFresh : Computed → Type 0
IsFresh (Plain v) = ⊥
IsFresh (Fresh top) = Unit {0}

-- an instruction that can have such an effect if n is known: arithmetic that makes an address with a base of its own, a
-- conditional jump, a call
abbrev pub MayAllocate : Insn → Facts → Type 0
MayAllocate (Alu op wide dst src) n = IsFresh (result_of n op wide (n.reg (number dst)) (operand_value n src))
MayAllocate (Jump cond wide dst src off) n = Unit {0}
MayAllocate (Call helper) n = Unit {0}
MayAllocate i n = ⊥
