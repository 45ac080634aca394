-- Stated: claims rest on this file.
-- What the verifier's rule answers for an instruction: where it leads, with what is known there, or why it is refused.
use Rattle.std.specs.Prelude.{ℕ, ◌+◌, List, [], ◌∷◌, Bool, if◌then◌else◌, Result, Ok, Err}
use Rattle.bpf_insn.specs.declared.refusal.Cause.{Cause}
use Rattle.bpf_insn.specs.declared.refusal.Cause.TheVariants as cause
use Rattle.bpf_note.specs.declared.val.Val.{Val}
use Rattle.bpf_note.specs.declared.val.Val.TheVariants.{Pkt}
use Rattle.bpf_note.specs.Facts.{Facts, with_reg, with_id}
use Rattle.bpf_flow.specs.Step.{is_frame}
use Rattle.bpf_flow.specs.declared.computed.Computed.{Computed}
use Rattle.bpf_flow.specs.declared.computed.Computed.TheVariants.{Plain, Fresh}

-- the slots that an instruction leads to, with what is known there
abbrev pub Edges : Type 0
Edges = List (ℕ × Facts)

abbrev pub Answer : Type 0
Answer = Result Edges Cause

-- c if the test holds, else what follows
abbrev pub unless : {A : Type 0} → Bool → Cause → Result A Cause → Result A Cause
unless b c go = if b then Err c else go

abbrev pub and_then : {A B : Type 0} → Result A Cause → (A → Result B Cause) → Result B Cause
and_then (Ok x) go = go x
and_then (Err c) go = Err c

-- one edge
abbrev pub goes_to : ℕ → Facts → Answer
goes_to pc n = Ok ((pc, n) ∷ [])

-- a register gets a value; the frame pointer can't be written
abbrev pub sets : Facts → ℕ → ℕ → Val → Answer
sets n pc k v = unless (is_frame k) cause.FramePointer (goes_to pc (with_reg n k v))

-- what is known once register k has a value that the instruction at slot `made` computes; a fresh address has that slot as
-- its id
abbrev pub with_computed : Facts → ℕ → ℕ → Computed → Facts
with_computed n made k (Plain v) = with_reg n k v
with_computed n made k (Fresh top) = with_reg (with_id n made top) k (Pkt made 0)

abbrev pub sets_computed : Facts → ℕ → ℕ → Computed → Answer
sets_computed n pc k c = unless (is_frame k) cause.FramePointer (goes_to (pc + 1) (with_computed n pc k c))
