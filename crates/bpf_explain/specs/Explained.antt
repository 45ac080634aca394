-- Stated: claims rest on this file.
-- What is printed of a refused program.
use Rattle.std.specs.Prelude.{ℕ, List, [], ◌++◌, codes, Option, None, Some, Bool, true, false, slice_get, if◌then◌else◌}
use Rattle.std.specs.Fmt.{decimal}
use Rattle.bpf_insn.specs.Cause.{refusal_text}
use Rattle.bpf_insn.specs.Register.{number}
use Rattle.bpf_insn.specs.declared.register.Register.{Register}
use Rattle.bpf_insn.specs.declared.insn.Insn.{Insn}
use Rattle.bpf_insn.specs.declared.insn.Insn.TheVariants.{Alu}
use Rattle.bpf_insn.specs.declared.operand.Operand.TheVariants as operand
use Rattle.bpf_insn.specs.declared.refusal.Cause.{Cause}
use Rattle.bpf_insn.specs.declared.refusal.Cause.TheVariants.{Target, FramePointer, NoPointer, Packet, MapAccess, Helper, Stack, Argument}
use Rattle.bpf_insn.specs.declared.refusal.Refusal.{Refusal}
use Rattle.bpf_note.specs.Facts.{Facts}
use Rattle.bpf_note.specs.Shape.{Shape}
use Rattle.bpf_explain.specs.Accesses.{access_of, access_at, address_of, base_of}
use Rattle.bpf_explain.specs.Advice.{advice_text, cause_advice, joined_advice, lost_advice}
use Rattle.bpf_explain.specs.Fields.{refused_slot_text}
use Rattle.bpf_explain.specs.Listing.{listing_text}
use Rattle.bpf_explain.specs.Span.{counters_text, jump_of, span_text, target_text}
use Rattle.bpf_explain.specs.Stack.{stack_text}
use Rattle.bpf_explain.specs.Values.{all_registers, known_text, reads_text, register_text}

-- what the instruction reads has to do with the cause: not with V8 and V15
abbrev pub is_about_values : Cause → Bool
is_about_values FramePointer = false
is_about_values Helper = false
is_about_values c = true

-- what it reaches: the stack's slots with V11 and V17, the packet's bytes with V10, a value's counters with V14
abbrev pub reached_text : List (List ℕ) → List Shape → Cause → Insn → Facts → List ℕ
reached_text names shapes Stack i n = stack_text names n (access_of i)
reached_text names shapes Argument i n = stack_text names n (access_at shapes n i)
reached_text names shapes Packet i n = span_text (address_of n i) (access_of i)
reached_text names shapes MapAccess i n = counters_text shapes (address_of n i)
reached_text names shapes c i n = []

-- the line below the refused one: each register that it reads, and what it reaches
abbrev pub values_text : List (List ℕ) → List Shape → Cause → Insn → Facts → List ℕ
values_text names shapes c i n =
    if is_about_values c then codes "     " ++ reads_text names i n all_registers ++ reached_text names shapes c i n ++ codes "\n" else []

-- for V4 where the jump goes; else the values, if the instruction and what is known there are at hand
abbrev pub below_text : List (List ℕ) → List Shape → ℕ → Cause → Option Insn → Option Facts → List ℕ
below_text names shapes pc Target (Some i) n = target_text pc (jump_of i)
below_text names shapes pc c (Some i) (Some n) = values_text names shapes c i n
below_text names shapes pc c i n = []

-- the refusal, and what to write instead
abbrev pub verdict_text : Refusal → List ℕ → List ℕ
verdict_text r advice = codes "refused " ++ (refusal_text r ++ (codes "\nwrite instead: " ++ (advice ++ codes "\n")))

-- the explanation of bytes that spell no program
abbrev pub undecoded_text : List ℕ → Refusal → List ℕ
undecoded_text program r = refused_slot_text program r.pc r.cause ++ verdict_text r (cause_advice r.cause)

-- the explanation of a program whose maps have these names and shapes: the listing with what is known at the refused slot, and the
-- verdict
abbrev pub explained_text : List Insn → List (List ℕ) → List Shape → Refusal → Option Facts → List ℕ
explained_text code names shapes r note =
    listing_text (Some r.pc) (below_text names shapes r.pc r.cause (slice_get code r.pc) note) 0 code
    ++ verdict_text r (advice_text shapes r.cause (slice_get code r.pc) note)

-- the register of which V9 asks since when it is no address: the one that its access goes through
abbrev pub asked_register : Cause → Option Insn → Option Register
asked_register NoPointer (Some i) = base_of i
asked_register c i = None

-- the register whose value an instruction puts to another register's
abbrev pub operand_of : Option Insn → Option Register
operand_of (Some (Alu op wide dst (operand.Register src))) = Some src
operand_of i = None

-- what is known of it: ` with R3=scalar(umin=0,umax=70000)`
abbrev pub operand_text : List (List ℕ) → Facts → Option Register → List ℕ
operand_text names n None = []
operand_text names n (Some r) = codes " with " ++ register_text names n (number r)

-- since when a register is no address: what it was before slot pc made it a number, and with what
abbrev pub was_text : List (List ℕ) → Register → ℕ → Option Insn → Facts → List ℕ
was_text names r pc i n =
    codes "R" ++ (decimal (number r) ++ (codes " was " ++ (known_text names n (n.reg (number r)) ++ (codes " before " ++ (decimal pc
    ++ (operand_text names n (operand_of i) ++ (codes ": " ++ (lost_advice (n.reg (number r)) ++ codes "\n"))))))))

-- on how many of the eight notes at slot pc a register is an address
abbrev pub addresses_text : Register → ℕ → ℕ → List ℕ
addresses_text r pc addresses = codes "R" ++ (decimal (number r)
    ++ (codes " is an address on " ++ (decimal addresses ++ (codes " of the eight notes at " ++ decimal pc))))

-- that r is an address on that many of the eight notes, and a number on the last
abbrev pub joined_text : Register → ℕ → ℕ → List ℕ
joined_text r pc addresses =
    addresses_text r pc addresses ++ (codes ", and a number on the last, into which every further one is joined: "
    ++ (joined_advice ++ codes "\n"))
