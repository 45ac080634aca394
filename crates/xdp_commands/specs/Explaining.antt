-- Stated: claims rest on this file.
-- What becomes of a program's bytes, and what `explain` prints of it.
use Rattle.std.specs.Prelude.{ℕ, ◌≡◌, ◌↔◌, List, [], ◌++◌, length, slice_get, Option, None, Some, IfSome, IsSome, option_map, Ok}
use Rattle.bpf_explain.specs.Explained.{asked_register, explained_text, joined_text, undecoded_text, was_text}
use Rattle.bpf_explain.specs.Listing.{listing_text}
use Rattle.bpf_flow.specs.Causes.{IsRuleCause}
use Rattle.bpf_insn.specs.Code.{Spells}
use Rattle.bpf_insn.specs.Refusal.{IsNoCode}
use Rattle.bpf_insn.specs.declared.insn.Insn.{Insn}
use Rattle.bpf_insn.specs.Register.{number}
use Rattle.bpf_insn.specs.declared.register.Register.{Register}
use Rattle.bpf_note.specs.Facts.{Facts}
use Rattle.bpf_note.specs.Parts.{facts, Noted}
use Rattle.bpf_note.specs.Shape.{Shape}
use Rattle.bpf_verify.specs.Consistent.{instructions}
use Rattle.bpf_verify.specs.FirstRefusal.{IsRefusal, IsStoppedBy}
use Rattle.bpf_verify.specs.Joined.{IsJoined}
use Rattle.bpf_verify.specs.Lost.{IsLost}
use Rattle.bpf_verify.specs.declared.verifier.Explained.{Explained}
use Rattle.xdp_commands.specs.Executing.{IsProgramOfBytes}
use Rattle.xdp_commands.specs.Lines.{checked_text}
use Rattle.xdp_commands.specs.declared.explaining.Loss.{Loss}
use Rattle.xdp_commands.specs.declared.explaining.Loss.TheVariants.{ByInstruction, ByJoining}
use Rattle.xdp_commands.specs.declared.explaining.Outcome.{Outcome}
use Rattle.xdp_commands.specs.declared.explaining.Outcome.TheVariants.{Accepted, Undecoded, Refused}

-- the bytes spell the program, which is refused so with these maps; a note is there if the rule for an instruction
-- refuses it, and it is the first one at the slot that the rule refuses
pub record IsExplained (program : List ℕ) (shapes : List Shape) (e : Explained) : Type 0 where
  pub spelled : Spells e.code program
  pub refused : IsRefusal e.code shapes e.refusal.cause e.refusal.pc
  pub there : IsSome e.note ↔ IsRuleCause e.refusal.cause
  pub first : IfSome e.note (λ n. IsStoppedBy e.code shapes e.refusal.pc e.refusal.cause (facts n))

-- the register of which a refusal asks where it was an address last: none if no rule refuses the program
abbrev pub lost_register : Option Noted → Explained → Option Register
lost_register None e = None
lost_register (Some n) e = asked_register e.refusal.cause (slice_get e.code e.refusal.pc)

-- the last slot that writes the register makes no address a number
abbrev pub IsNotLost : Register → List Shape → Explained → Type 0
IsNotLost r shapes e = (p : ℕ) (n : Facts) → IsLost e.code shapes e.refusal.pc (number r) p n → ⊥

-- where that register's address went: the last slot that writes it made it a number; or else, of eight notes at the refused
-- slot, `addresses` give it an address and the last a number
abbrev pub IsLossOf : Option Register → List Shape → Explained → Option Loss → Type 0
IsLossOf None shapes e l = l ≡ None
IsLossOf (Some r) shapes e None = IsNotLost r shapes e × ((addresses : ℕ) → IsJoined e.code shapes (number r) e.refusal.pc addresses → ⊥)
IsLossOf (Some r) shapes e (Some (ByInstruction l)) = IsLost e.code shapes e.refusal.pc (number r) l.pc (facts l.note)
IsLossOf (Some r) shapes e (Some (ByJoining addresses)) = IsNotLost r shapes e × IsJoined e.code shapes (number r) e.refusal.pc addresses

-- the outcome is that of the bytes with these maps
abbrev pub IsOutcome : List ℕ → List Shape → Outcome → Type 0
IsOutcome program shapes (Accepted p) = IsProgramOfBytes program shapes p
IsOutcome program shapes (Undecoded r) = IsNoCode program r
IsOutcome program shapes (Refused e l) = IsExplained program shapes e × IsLossOf (lost_register e.note e) shapes e l

-- the listing of an accepted program, and the line of a check
abbrev pub accepted_text : List Insn → List ℕ
accepted_text code = listing_text None [] 0 code ++ checked_text (Ok (record { instructions = instructions code; slots = length code }))

-- the line that says where a register's address went, of a program that is refused at slot pc
abbrev pub loss_line : List (List ℕ) → List Insn → ℕ → Register → Loss → List ℕ
loss_line names code pc r (ByInstruction l) = was_text names r l.pc (slice_get code l.pc) (facts l.note)
loss_line names code pc r (ByJoining addresses) = joined_text r pc addresses

-- that line, if there is one
abbrev pub loss_text : List (List ℕ) → Explained → Option Register → Option Loss → List ℕ
loss_text names e (Some r) (Some l) = loss_line names e.code e.refusal.pc r l
loss_text names e r l = []

-- the explanation of a refusal, with that line
abbrev pub refused_text : List (List ℕ) → List Shape → Explained → Option Loss → List ℕ
refused_text names shapes e l = explained_text e.code names shapes e.refusal (option_map facts e.note)
    ++ loss_text names e (lost_register e.note e) l

-- of a program of these bytes, whose maps have these names and shapes
abbrev pub outcome_text : List ℕ → List (List ℕ) → List Shape → Outcome → List ℕ
outcome_text program names shapes (Accepted p) = accepted_text p.code
outcome_text program names shapes (Undecoded r) = undecoded_text program r
outcome_text program names shapes (Refused e l) = refused_text names shapes e l

-- the status of a check
abbrev pub outcome_status : Outcome → ℕ
outcome_status (Accepted p) = 0
outcome_status (Undecoded r) = 1
outcome_status (Refused e l) = 1
