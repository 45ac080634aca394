-- Stated: claims rest on this file.
-- The numbers of the causes, and how a refusal prints.
use Rattle.std.specs.Prelude.{ℕ, List, ◌++◌, codes}
use Rattle.std.specs.Fmt.{decimal}
use Rattle.bpf_insn.specs.declared.refusal.Cause.{Cause}
use Rattle.bpf_insn.specs.declared.refusal.Refusal.{Refusal}
use Rattle.bpf_insn.specs.declared.refusal.Cause.TheVariants.{Memory, Length, Opcode, Register, Target, BackJump, End, Unset}
use Rattle.bpf_insn.specs.declared.refusal.Cause.TheVariants.{FramePointer, NoPointer, Packet, Stack, Context, MayBeNull, MapAccess}
use Rattle.bpf_insn.specs.declared.refusal.Cause.TheVariants.{Helper, MapNumber, Argument, Unsupported}

abbrev pub cause_number : Cause → ℕ
cause_number Memory = 0
cause_number Length = 1
cause_number Opcode = 2
cause_number Register = 3
cause_number Target = 4
cause_number BackJump = 5
cause_number End = 6
cause_number Unset = 7
cause_number FramePointer = 8
cause_number NoPointer = 9
cause_number Packet = 10
cause_number Stack = 11
cause_number Context = 12
cause_number MayBeNull = 13
cause_number MapAccess = 14
cause_number Helper = 15
cause_number MapNumber = 16
cause_number Argument = 17
cause_number Unsupported = 19

abbrev pub cause_text : Cause → List ℕ
cause_text c = codes "V" ++ decimal (cause_number c)

abbrev pub refusal_text : Refusal → List ℕ
refusal_text r = cause_text r.cause ++ codes " at " ++ decimal r.pc
