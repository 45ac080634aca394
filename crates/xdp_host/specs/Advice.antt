-- Stated: claims rest on this file.
-- What C is told of a cause.
use Rattle.std.specs.Prelude.{ℕ, List, [], ◌∷◌, Option, None, Some, get_or}
use Rattle.bpf_insn.specs.declared.refusal.Cause.{Cause}
use Rattle.bpf_insn.specs.declared.refusal.Cause.TheVariants as cause
use Rattle.bpf_explain.specs.Advice.{cause_advice}

-- The causes by the numbers of include/laxonje.h, from 0. There is no V18.
abbrev pub causes : List (Option Cause)
causes =
    Some cause.Memory ∷ Some cause.Length ∷ Some cause.Opcode ∷ Some cause.Register ∷ Some cause.Target ∷ Some cause.BackJump
    ∷ Some cause.End
    ∷ Some cause.Unset ∷ Some cause.FramePointer ∷ Some cause.NoPointer ∷ Some cause.Packet ∷ Some cause.Stack ∷ Some cause.Context
    ∷ Some cause.MayBeNull ∷ Some cause.MapAccess ∷ Some cause.Helper ∷ Some cause.MapNumber ∷ Some cause.Argument ∷ None
    ∷ Some cause.Unsupported ∷ []

abbrev pub cause_of : ℕ → Option Cause
cause_of number = get_or causes number None

-- What to write instead of what it refuses; no bytes if it is no cause.
abbrev pub advice_or : Option Cause → List ℕ
advice_or None = []
advice_or (Some c) = cause_advice c

abbrev pub advice_of : ℕ → List ℕ
advice_of number = advice_or (cause_of number)
