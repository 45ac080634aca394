-- Stated: claims rest on this file.
-- The lines of the turns of a run.
use Rattle.std.specs.Prelude.{ℕ, ◌+◌, List, [], ◌∷◌, ◌++◌, codes, decimal, length}
use Rattle.std.specs.Global.{Vec}
use Rattle.hex.specs.Hex.{encode_lower}
use Rattle.bpf_vm.specs.Actions.{action_name}
use Rattle.xen_turns.specs.Causes.{halt_number, refusal_number}
use Rattle.xdp_world.specs.declared.kept.Kept.{Kept}
use Rattle.xdp_world.specs.declared.kept.Kept.TheVariants as kept

-- how many tx slots were answered, and how many counter operations the program did
abbrev pub answered_text : ℕ → ℕ → List ℕ
answered_text slots ops = codes " slots " ++ (decimal slots ++ (codes " operations " ++ (decimal ops ++ codes "\n")))

-- the action, the packet's length and its bytes in lower-case hex; or the cause
abbrev pub kept_text : Kept → List ℕ
kept_text kept.Idle = codes " idle\n"
kept_text (kept.Ran action number packet ops slots) =
    codes " " ++ (action_name action ++ (codes " "
    ++ (decimal (length packet.items) ++ (codes " " ++ (encode_lower packet.items ++ answered_text slots ops)))))
kept_text (kept.Refused cause ops slots) = codes " refused " ++ (decimal (refusal_number cause) ++ answered_text slots ops)
kept_text (kept.Halted cause) = codes " halted " ++ (decimal (halt_number cause) ++ codes "\n")

abbrev pub turn_text : ℕ → ℕ → Kept → List ℕ
turn_text queue turn k = codes "queue " ++ (decimal queue ++ (codes " turn " ++ (decimal turn ++ kept_text k)))

-- the lines of a queue's turns, the first of which has this number
abbrev pub turns_text : ℕ → ℕ → List Kept → List ℕ
turns_text queue turn [] = []
turns_text queue turn (k ∷ ks) = turn_text queue turn k ++ turns_text queue (turn + 1) ks

-- the lines of the queues, the first of which has this number; turns are counted from 1
abbrev pub queues_text : ℕ → List (Vec Kept) → List ℕ
queues_text queue [] = []
queues_text queue (q ∷ qs) = turns_text queue 1 q.items ++ queues_text (queue + 1) qs
