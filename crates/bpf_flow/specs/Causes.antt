-- Stated: claims rest on this file.
-- The causes that the rule for one instruction may answer.
use Rattle.bpf_insn.specs.declared.refusal.Cause.{Cause}
use Rattle.bpf_insn.specs.declared.refusal.Cause.TheVariants.{Unset, FramePointer, NoPointer, Packet, Stack, Context, MayBeNull}
use Rattle.bpf_insn.specs.declared.refusal.Cause.TheVariants.{MapAccess, Helper, Argument}

abbrev pub IsRuleCause : Cause → Type 0
IsRuleCause Unset = Unit {0}
IsRuleCause FramePointer = Unit {0}
IsRuleCause NoPointer = Unit {0}
IsRuleCause Packet = Unit {0}
IsRuleCause Stack = Unit {0}
IsRuleCause Context = Unit {0}
IsRuleCause MayBeNull = Unit {0}
IsRuleCause MapAccess = Unit {0}
IsRuleCause Helper = Unit {0}
IsRuleCause Argument = Unit {0}
IsRuleCause c = ⊥
