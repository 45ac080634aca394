-- For proofs: no claim rests on this file.
-- A program beside itself with each count (a load, additions and a store of one counter) made one atomic addition: in place of the
-- load stands a 0, and in place of the store an addition.
use Rattle.std.specs.Prelude.{ℕ, ℤ, ◌+◌, ◌%◌, ◌^◌, ◌≡◌, ◌≢◌, ◌<◌, ◌⊎◌, length, List, ◌∷◌, Option, Some, true, false, slice_get, slice_index_or}
use Rattle.bpf_insn.specs.Register.{number}
use Rattle.bpf_insn.specs.declared.register.Register.{Register}
use Rattle.bpf_insn.specs.Size.{size_bytes}
use Rattle.bpf_insn.specs.declared.insn.Insn.{Insn}
use Rattle.bpf_insn.specs.declared.insn.Insn.TheVariants.{Alu, Neg, End, MovSx, Const, MapRef, Ldx}
use Rattle.bpf_note.specs.State.{State}
use Rattle.bpf_note.specs.Regions.{InCounter, HaveNoParts}
use Rattle.bpf_note.specs.declared.op.Op.{Op}
use Rattle.bpf_note.specs.declared.op.Op.TheVariants.{Load, Add}
use Rattle.bpf_flow.specs.Graph.{Leads, reads}
use Rattle.bpf_flow.specs.Step.{Exited, exec, reached, step, LeadsTo}
use Rattle.bpf_vm.specs.Run.{Walk}
use Rattle.bpf_same.specs.declared.count.Count.{Count}
use Rattle.bpf_same.specs.declared.fused.Role.{Role}
use Rattle.bpf_same.specs.declared.fused.Role.TheVariants.{Inside}
use Rattle.bpf_same.specs.Same.{operations}
use Rattle.bpf_same.specs.LinearForms.{bit}
use Rattle.bpf_same.specs.Stepped.{alters}
use Rattle.bpf_same.specs.Counts.{Does, Stores, Effect, StoringWalk}

-- both programs; of each slot the registers that are read after it, a bit each, and what it is to a count
pub record Plan : Type 0 where
  pub old : List Insn
  pub new : List Insn
  pub live : List ℕ
  pub roles : List Role

-- the registers of a mask hold the same
abbrev pub Alike : ℕ → (ℕ → Option ℕ) → (ℕ → Option ℕ) → Type 0
Alike mask f g = (k : ℕ) → k < 11 → bit mask k ≡ 1 → g k ≡ f k

-- the registers of a mask hold v more in the old program, modulo 2 ^ 64
abbrev pub Ahead : ℕ → ℕ → (ℕ → Option ℕ) → (ℕ → Option ℕ) → Type 0
Ahead mask v f g = (k x : ℕ) → k < 11 → bit mask k ≡ 1 → f k ≡ Some x → g k ≡ Some ((v + x) % 2 ^ 64)

-- the old program's state t beside the new one's state s: they may differ in registers
pub record Shadows (s t : State) : Type 0 where
  pub pc : t.pc ≡ s.pc
  pub packet : t.packet ≡ s.packet
  pub ifindex : t.ifindex ≡ s.ifindex
  pub queue : t.queue ≡ s.queue
  pub shapes : t.shapes ≡ s.shapes
  pub find : t.find ≡ s.find
  pub stack : (i : ℕ) → t.stack i ≡ s.stack i

abbrev pub live_at : Plan → ℕ → ℕ
live_at plan p = slice_index_or plan.live p 0

-- slots inside a count are reached from its load alone: this isn't one
abbrev pub IsOutside : Plan → ℕ → Type 0
IsOutside plan p = slice_get plan.roles p ≡ Some Inside → ⊥

-- from each state beside the new program's the old one has a walk that does this to counters
abbrev pub IsWalked : Plan → ℕ → List ℕ → State → List Effect → Type 0
IsWalked plan r0 bytes s effects = (t : State) → Shadows s t → Alike (live_at plan s.pc) s.reg t.reg → StoringWalk plan.old r0 bytes t effects

-- the old program takes the new one's step from its own state t
pub record Takes (plan : Plan) (t : State) (label : Option Op) (u : State) : Type 0 where
  pub next : State
  pub leads : LeadsTo (step plan.old t) label next
  pub shadows : Shadows u next
  pub outside : IsOutside plan u.pc
  pub alike : Alike (live_at plan u.pc) u.reg next.reg

-- both programs take the step at slot p
pub record IsShared (plan : Plan) (p : ℕ) : Type 0 where
  pub goes : (s t : State) → s.pc ≡ p → Shadows s t → Alike (live_at plan p) s.reg t.reg → (label : Option Op) (u : State) →
      LeadsTo (step plan.new s) label u → Takes plan t label u
  pub ends : (s t : State) → s.pc ≡ p → Shadows s t → Alike (live_at plan p) s.reg t.reg → (x : ℕ) →
      step plan.new s ≡ Exited x → step plan.old t ≡ Exited x

-- a walk of the new program reaches an addition to the counter at this offset from a register, and goes on from the state after it;
-- from registers of which some hold the same, and some what the addition finds more, the old program reaches a store of the sum
pub record ReachesAddition (plan : Plan) (base : Register) (off : ℤ) (same counted : ℕ) (s : State) (r0 : ℕ) (bytes : List ℕ) (labels : List (Option Op)) : Type 0 where
  pub m : ℕ
  pub k : ℕ
  pub j : ℕ
  pub delta : ℕ
  pub found : ℕ
  pub after : State
  pub rest : List (Option Op)
  pub walk : Walk plan.new r0 bytes after rest
  pub shorter : length rest < length labels
  pub did : operations labels ≡ Add m k j delta found ∷ operations rest
  pub shapes : after.shapes ≡ s.shapes
  pub outside : IsOutside plan after.pc
  pub small : found < 2 ^ 64
  pub address : ℕ
  pub held : s.reg (number base) ≡ Some address
  pub place : reached s address off 8 ≡ InCounter m k j
  pub old_walk : (t : State) → Shadows s t → Alike same s.reg t.reg → Ahead counted found s.reg t.reg → (effects : List Effect) →
      IsWalked plan r0 bytes after effects → StoringWalk plan.old r0 bytes t (Stores m k j ((found + delta) % 2 ^ 64) ∷ effects)

-- from slot p on, inside a count, with these registers alike and those ahead, where counters are loaded whole
abbrev pub IsInside : Plan → Register → ℤ → ℕ → ℕ → ℕ → Type 0
IsInside plan base off p same counted = (s : State) → HaveNoParts s.shapes → s.pc ≡ p → (r0 : ℕ) (bytes : List ℕ) (labels : List (Option Op)) →
    Walk plan.new r0 bytes s labels → ReachesAddition plan base off same counted s r0 bytes labels

-- a walk of the new program reaches the addition of a count from its load, and goes on from the state after it; the old program
-- gets there by a load and a store
pub record Counted (plan : Plan) (s : State) (r0 : ℕ) (bytes : List ℕ) (labels : List (Option Op)) : Type 0 where
  pub m : ℕ
  pub k : ℕ
  pub j : ℕ
  pub delta : ℕ
  pub found : ℕ
  pub after : State
  pub rest : List (Option Op)
  pub walk : Walk plan.new r0 bytes after rest
  pub shorter : length rest < length labels
  pub did : operations labels ≡ Add m k j delta found ∷ operations rest
  pub shapes : after.shapes ≡ s.shapes
  pub outside : IsOutside plan after.pc
  pub old_walk : (t : State) → Shadows s t → Alike (live_at plan s.pc) s.reg t.reg → (effects : List Effect) → IsWalked plan r0 bytes after effects →
      StoringWalk plan.old r0 bytes t (Does (Load m k j found) ∷ Stores m k j ((found + delta) % 2 ^ 64) ∷ effects)

-- a count begins at slot p, where counters are loaded whole
abbrev pub IsCount : Plan → ℕ → Type 0
IsCount plan p = (s : State) → HaveNoParts s.shapes → s.pc ≡ p → (r0 : ℕ) (bytes : List ℕ) (labels : List (Option Op)) → Walk plan.new r0 bytes s labels →
    Counted plan s r0 bytes labels

-- what the plan says holds
pub record AreFused (plan : Plan) : Type 0 where
  pub begins : IsOutside plan 0
  pub each : (p : ℕ) → IsOutside plan p → IsShared plan p ⊎ IsCount plan p

-- the instruction reads registers of a mask alone
abbrev pub ReadsWithin : Insn → ℕ → Type 0
ReadsWithin i mask = (r : Register) → reads i (number r) ≡ true → bit mask (number r) ≡ 1

-- a register of the mask after an instruction is written by it, or in the mask before it
abbrev pub Leaves : ℕ → Insn → ℕ → Type 0
Leaves before i after = (k : ℕ) → k < 11 → bit after k ≡ 1 → (bit before k ≡ 1) ⊎ (alters i k ≡ true)

-- wherever the instruction leads from slot p, nothing is inside a count, and what is read later was alike or is written
abbrev pub AllowsWays : Plan → ℕ → Insn → ℕ → Type 0
AllowsWays plan before i p = (q : ℕ) → Leads i p q → IsOutside plan q × Leaves before i (live_at plan q)

-- the instruction writes a register and does nothing else; a load of eight bytes may be one of a counter
abbrev pub IsPlain : Insn → Type 0
IsPlain (Alu op wide dst src) = Unit {0}
IsPlain (Neg wide dst) = Unit {0}
IsPlain (End kind width dst) = Unit {0}
IsPlain (MovSx wide bits dst src) = Unit {0}
IsPlain (Const dst value) = Unit {0}
IsPlain (MapRef dst m) = Unit {0}
IsPlain (Ldx size signed dst src off) = size_bytes size ≡ 8 → ⊥
IsPlain i = ⊥

-- what is known inside a count after an instruction that writes register r with the same in both programs
pub record IsWritten (c : Count) (r : ℕ) (d : Count) : Type 0 where
  pub base : d.base ≡ c.base
  pub off : d.off ≡ c.off
  pub alike : (k : ℕ) → k < 11 → bit d.alike k ≡ 1 → (k ≡ r) ⊎ (bit c.alike k ≡ 1)
  pub ahead : (k : ℕ) → k < 11 → bit d.ahead k ≡ 1 → (k ≢ r) × (bit c.ahead k ≡ 1)

-- the same after one that writes it with a number that is larger in the old program by what was loaded
pub record IsCounted (c : Count) (r : ℕ) (d : Count) : Type 0 where
  pub base : d.base ≡ c.base
  pub off : d.off ≡ c.off
  pub alike : (k : ℕ) → k < 11 → bit d.alike k ≡ 1 → (k ≢ r) × (bit c.alike k ≡ 1)
  pub ahead : (k : ℕ) → k < 11 → bit d.ahead k ≡ 1 → (k ≡ r) ⊎ (bit c.ahead k ≡ 1)

-- after a step of both the old program's register r holds v more
pub record Adds (i : Insn) (r v : ℕ) (s t : State) (label : Option Op) (u : State) : Type 0 where
  pub next : State
  pub leads : LeadsTo (exec i t) label next
  pub shadows : Shadows u next
  pub others : (k : ℕ) → k ≢ r → (u.reg k ≡ s.reg k) × (next.reg k ≡ t.reg k)
  pub more : (x : ℕ) → u.reg r ≡ Some x → next.reg r ≡ Some ((v + x) % 2 ^ 64)

-- an instruction writes register r alone, with a sum of what was loaded
pub record IsAddition (c : Count) (i : Insn) (r : ℕ) : Type 0 where
  pub plain : IsPlain i
  pub adds : (s t u : State) (v : ℕ) (label : Option Op) → Shadows s t → Alike c.alike s.reg t.reg → Ahead c.ahead v s.reg t.reg →
      LeadsTo (exec i s) label u → Adds i r v s t label u

-- what is known before an instruction is followed by what is known after it
abbrev pub IsAdded : Count → Insn → Count → Type 0
IsAdded c i d = (s t u : State) (v : ℕ) (label : Option Op) → Shadows s t → Alike c.alike s.reg t.reg → Ahead c.ahead v s.reg t.reg → LeadsTo (exec i s) label u →
    (next : State) × LeadsTo (exec i t) label next × Shadows u next × Alike d.alike u.reg next.reg × Ahead d.ahead v u.reg next.reg

-- an instruction inside a count, which keeps the counter's address
pub record IsStep (c : Count) (i : Insn) (d : Count) : Type 0 where
  pub plain : IsPlain i
  pub preserves : alters i (number c.base) ≡ false
  pub base : d.base ≡ c.base
  pub off : d.off ≡ c.off
  pub added : IsAdded c i d

-- what is known after the load of a count
pub record IsLoaded (plan : Plan) (dst base : Register) (off : ℤ) (p : ℕ) (c : Count) : Type 0 where
  pub base_is : c.base ≡ base
  pub off_is : c.off ≡ off
  pub apart : number dst ≢ number base
  pub live : bit (live_at plan p) (number base) ≡ 1
  pub alike : (k : ℕ) → k < 11 → bit c.alike k ≡ 1 → (k ≢ number dst) × (bit (live_at plan p) k ≡ 1)
  pub ahead : (k : ℕ) → k < 11 → bit c.ahead k ≡ 1 → k ≡ number dst
