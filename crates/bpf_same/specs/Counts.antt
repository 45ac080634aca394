-- Stated: claims rest on this file.
-- Runs of a program that may store to counters (RFC 9669, section 5.1), and when another program does by one atomic addition
-- (section 5.3) what it does by a load and a store.
use Rattle.std.specs.Prelude.{ℕ, ℤ, ◌+◌, ◌%◌, ◌^◌, ◌≡◌, List, [], ◌∷◌, None, Some, slice_get}
use Rattle.bpf_insn.specs.Register.{number}
use Rattle.bpf_insn.specs.declared.register.Register.{Register}
use Rattle.bpf_insn.specs.declared.size.Size.TheVariants.{Double}
use Rattle.bpf_insn.specs.declared.insn.Insn.{Insn}
use Rattle.bpf_insn.specs.declared.insn.Insn.TheVariants.{Stx}
use Rattle.bpf_note.specs.Shape.{Shape}
use Rattle.bpf_note.specs.State.{State, IsStart}
use Rattle.bpf_note.specs.Regions.{InCounter}
use Rattle.bpf_note.specs.declared.op.Op.{Op}
use Rattle.bpf_note.specs.declared.op.Op.TheVariants.{Load, Add}
use Rattle.bpf_flow.specs.Step.{Exited, at_slot, reached, step, LeadsTo}
use Rattle.bpf_same.specs.Same.{Runs}

-- what a program that may store to counters does to one: an operation, or a store of v to counter j of value k of map m
pub data Effect : Type 0 where
  Does : (op : Op) → Effect
  Stores : (m k j v : ℕ) → Effect

-- the step stores eight bytes of a register to a counter, and state t follows
pub record IsCounterStore (code : List Insn) (s : State) (m k j v : ℕ) (t : State) : Type 0 where
  pub dst : Register
  pub src : Register
  pub off : ℤ
  pub here : slice_get code s.pc ≡ Some (Stx Double dst src off)
  pub value : s.reg (number src) ≡ Some v
  pub base : ℕ
  pub address : s.reg (number dst) ≡ Some base
  pub place : reached s base off 8 ≡ InCounter m k j
  pub next : t ≡ at_slot s (s.pc + 1)

-- a walk from a state to an exit with r0, which leaves these packet bytes: what its steps do to counters, in order
pub data StoringWalk (code : List Insn) (r0 : ℕ) (packet : List ℕ) : State → List Effect → Type 0 where
  ends : (s : State) → step code s ≡ Exited r0 → s.packet ≡ packet → StoringWalk code r0 packet s []
  goes : (s t : State) (effects : List Effect) → LeadsTo (step code s) None t → StoringWalk code r0 packet t effects →
      StoringWalk code r0 packet s effects
  does : (s t : State) (op : Op) (effects : List Effect) → LeadsTo (step code s) (Some op) t → StoringWalk code r0 packet t effects →
      StoringWalk code r0 packet s (Does op ∷ effects)
  stores : (s t : State) (m k j v : ℕ) (effects : List Effect) → IsCounterStore code s m k j v t → StoringWalk code r0 packet t effects →
      StoringWalk code r0 packet s (Stores m k j v ∷ effects)

-- what the old program does beside what the new one does: the same operation; or, in place of an addition of n to a counter
-- that held v, a load that finds v and at once a store of v + n, modulo 2 ^ 64, as where nobody else writes the counter between
pub data Counts : List Effect → List Op → Type 0 where
  none : Counts [] []
  same : (op : Op) (effects : List Effect) (done : List Op) → Counts effects done → Counts (Does op ∷ effects) (op ∷ done)
  count : (m k j n v : ℕ) (effects : List Effect) (done : List Op) → Counts effects done →
      Counts (Does (Load m k j v) ∷ Stores m k j ((v + n) % 2 ^ 64) ∷ effects) (Add m k j n v ∷ done)

-- a run of a program that may store to counters, which does what these operations do
pub record RunsByCounts (code : List Insn) (r0 : ℕ) (bytes : List ℕ) (s : State) (done : List Op) : Type 0 where
  pub effects : List Effect
  pub walk : StoringWalk code r0 bytes s effects
  pub counts : Counts effects done

-- from every start, each run of the new program is one of the old program, but that one addition may stand for a load and a store
abbrev pub IsSameByCounts : List Shape → List Insn → List Insn → Type 0
IsSameByCounts shapes old new = (s : State) → IsStart s → s.shapes ≡ shapes → (r0 : ℕ) (bytes : List ℕ) (done : List Op) →
    Runs new r0 bytes s done → RunsByCounts old r0 bytes s done

-- the same the other way: each run of the old program, whatever it finds, is one of the new program
abbrev pub IsWholeByCounts : List Shape → List Insn → List Insn → Type 0
IsWholeByCounts shapes new old = (s : State) → IsStart s → s.shapes ≡ shapes → (r0 : ℕ) (bytes : List ℕ) (effects : List Effect) →
    StoringWalk old r0 bytes s effects → (done : List Op) × Counts effects done × Runs new r0 bytes s done
