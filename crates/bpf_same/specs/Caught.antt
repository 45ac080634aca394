-- For proofs: no claim rests on this file.
-- What the old program does alone: it adds to its registers, and catches up with the new one.
use Rattle.std.specs.Prelude.{ℕ, pos, ◌+◌, ◌≡◌, ◌<◌, ◌⊎◌, List, Option, None, Some, Bool, true, false}
use Rattle.bpf_insn.specs.declared.insn.Insn.{Insn}
use Rattle.bpf_insn.specs.declared.insn.Insn.TheVariants.{Ja}
use Rattle.bpf_note.specs.State.{State}
use Rattle.bpf_note.specs.Facts.{Facts}
use Rattle.bpf_note.specs.Describes.{Describes}
use Rattle.bpf_flow.specs.Step.{exec, LeadsTo}
use Rattle.bpf_same.specs.declared.linear_form.LinearForm.{LinearForm}
use Rattle.bpf_same.specs.declared.relation.Relation.{Relation}
use Rattle.bpf_same.specs.declared.caught.Place.{Place}
use Rattle.bpf_same.specs.Traces.{Trace, Has, numbers}
use Rattle.bpf_same.specs.Contents.{Contain, Preserves, PreservesContents, content_of}
use Rattle.bpf_same.specs.LinearForms.{bound_of, held, new_of, old_of, room_of, shifted_of, total, Hold}
use Rattle.bpf_same.specs.Simulated.{IsRelated, IsSilent}

-- where this is known and the relation holds, each term of a linear form has a number, and x is their sum with the form's constant
abbrev pub IsThere : Facts → Relation → LinearForm → Type 0
IsThere n e form = (s : State) (g : ℕ → Option ℕ) → Describes n s → Hold e (held s) g → (x : ℕ) × (total (held s) form ≡ Some x)

-- a relation with another form of one register of the old program
pub record IsWith (e : Relation) (k : ℕ) (form : LinearForm) (d : Relation) : Type 0 where
  pub given : old_of d k ≡ Some form
  pub olds : (j : ℕ) → j < 11 → (j ≡ k → ⊥) → old_of d j ≡ old_of e j
  pub news : (n : ℕ) → new_of d n ≡ new_of e n
  pub rooms : (r : ℕ) → room_of d r ≡ room_of e r
  pub bounds : (j : ℕ) → bound_of d j ≡ bound_of e j
  pub shifted : (j : ℕ) → shifted_of d j ≡ shifted_of e j
  pub contents : (j : ℕ) → content_of d j ≡ content_of e j

-- a state that the old program's step leads to, which is related to the new one's at slot q
pub record IsTaken (i : Insn) (s t : State) (d : Relation) (low q : ℕ) : Type 0 where
  pub next : State
  pub leads : LeadsTo (exec i t) None next
  pub related : IsRelated d low q s next

-- where this is known, the old program alone takes an instruction at slot p, and another relation holds at the next slot
pub record TakesAlone (i : Insn) (e : Relation) (n : Facts) (d : Relation) : Type 0 where
  pub taken : (low p : ℕ) (s t : State) → Describes n s → IsRelated e low p s t → IsTaken i s t d low (p + 1)
  pub contents : (k : ℕ) → content_of d k ≡ content_of e k

-- where this is known, the old program alone comes from slot p and one relation to slot q and another one
abbrev pub CatchesUp : Bool → List Insn → ℕ → Facts → Relation → ℕ → Relation → ℕ → Type 0
CatchesUp alone old low n e p d q = (s t : State) → Describes n s → IsRelated e low p s t → (r : Trace) → Contain e (held s) (numbers alone r s) →
    ((u : State) → IsRelated d low q s u → Contain d (held s) (numbers alone r s) → Has alone old r u) → Has alone old r t

-- the same between two places
abbrev pub ComesTo : List Insn → Facts → Place → Place → Type 0
ComesTo old n here there = (alone : Bool) (low : ℕ) → CatchesUp alone old low n here.relation here.at there.relation there.at

abbrev pub place : ℕ → Relation → Place
place at relation = record { at = at; relation = relation }

-- an instruction at a place, silent or taken alone, leads to another place
abbrev pub LeadsOn : Insn → Facts → Place → Place → Type 0
LeadsOn i n here there =
    ((there.relation ≡ here.relation) × ((low : ℕ) → IsSilent i here.relation low n here.at there.at)) ⊎ ((there.at ≡ here.at + 1) × TakesAlone i here.relation n there.relation)

-- one relation is followed by another one
pub record Entails (alone : Bool) (low : ℕ) (n : Facts) (e d : Relation) : Type 0 where
  pub preserves : Preserves alone (Ja false (pos 0)) true low n e d
  pub contents : PreservesContents (Ja false (pos 0)) true low n e d
