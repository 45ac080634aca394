-- Stated: claims rest on this file.
-- The flow graph of a program, reached or not, and the jumps that close a cycle in it.
use Rattle.std.specs.Prelude.{ℕ, ℤ, ◌≡◌, ◌≤◌, List, Some, true, slice_get, Contains}
use Rattle.bpf_insn.specs.declared.insn.Insn.{Insn}
use Rattle.bpf_flow.specs.Step.{target}
use Rattle.bpf_flow.specs.Graph.{Leads}
use Rattle.bpf_verify.specs.Structure.{begins, jump_of}
use Rattle.bpf_verify.specs.Paths.{Reaches}
use Rattle.bpf_verify.specs.Orders.{Takes}

-- control may go from the instruction at p to slot q, and an instruction stands there: what would leave the program or enter
-- a wide load is no edge
pub record Edge (code : List Insn) (p q : ℕ) : Type 0 where
  pub insn : Insn
  pub here : slice_get code p ≡ Some insn
  pub leads : Leads insn p q
  pub lands : begins (slice_get code q) ≡ true

abbrev pub Flows : List Insn → ℕ → ℕ → Type 0
Flows code p q = Reaches (Edge code) p q

-- a jump to its own slot or below it
pub record JumpsBack (code : List Insn) (p : ℕ) : Type 0 where
  pub insn : Insn
  pub here : slice_get code p ≡ Some insn
  pub offset : ℤ
  pub jumps : jump_of insn ≡ Some offset
  pub to : ℕ
  pub lands : target p offset ≡ Some to
  pub back : to ≤ p

-- a jump to its own slot or below it, to a slot from which the flow graph leads back to it
pub record ClosesCycle (code : List Insn) (p : ℕ) : Type 0 where
  pub insn : Insn
  pub here : slice_get code p ≡ Some insn
  pub offset : ℤ
  pub jumps : jump_of insn ≡ Some offset
  pub to : ℕ
  pub lands : target p offset ≡ Some to
  pub back : to ≤ p
  pub returns : Flows code to p

-- all slots that the flow graph reaches from the first, each the lowest whose predecessors among them were done
pub record IsPassOrder (code : List Insn) (order : List ℕ) : Type 0 where
  pub takes : Takes (Edge code) (Flows code 0) order
  pub whole : (q : ℕ) → Flows code 0 q → Contains order q
