-- Stated: claims rest on this file.
-- What stands in a host's ops after a call that says some, and which turns run a program.
use Rattle.std.specs.Prelude.{ℕ, suc, ◌≡◌, ◌≤◌, ◌⊎◌, Bool, true, false, List, [], ◌∷◌, ◌++◌, length, drop, map}
use Rattle.xen_turns.specs.declared.turn.Kind.{Kind}
use Rattle.xen_turns.specs.declared.turn.Kind.TheVariants as kind
use Rattle.xen_host.specs.Asks.{AllSized, Ask, TakeNone, WordsStay, needs_no_answer, op_of}
use Rattle.xen_host.specs.declared.op.HostOp.{HostOp}

-- Asks stand in front of a host's ops, as C gets them: no more than there is room for, and as many up to one that the step can't go on
-- after. All but the last take no answer. The lent words stay, but for those that a WRITE takes.
pub record Said (first : List Ask) (last : Ask) (ops ops_after : List HostOp) (count : ℕ) (lent lent_after : List ℕ) : Type 0 where
  pub take_none : TakeNone first
  pub filled : ops_after ≡ map op_of first ++ op_of last ∷ drop count ops
  pub counted : count ≡ suc (length first)
  pub room : count ≤ length ops
  pub stops : (count ≡ length ops) ⊎ (needs_no_answer last ≡ false)
  pub words : WordsStay (first ++ last ∷ []) lent lent_after
  pub sized : AllSized (first ++ last ∷ [])

-- The program ran in a turn of this kind, and the guest was told so.
abbrev pub has_run : Kind → Bool
has_run (kind.Ran ops number slots) = true
has_run k = false
