-- Stated: claims rest on this file.
-- What the front has: the traces of its sends, posts and polls, with the packets that these took and gave, and a prefix of one more.
use Rattle.std.specs.Prelude.{ℕ, ◌≡◌, List, [], ◌∷◌, ◌++◌, length, get_or, Ok}
use Rattle.xen_buffers.specs.declared.wiring.FrontWiring.{FrontWiring}
use Rattle.xen_turns.specs.declared.wiring.Wiring.{Wiring as BackWiring}
use Rattle.xen_front.specs.Activities.{IsPoll, IsPost, IsSend}
use Rattle.xen_front.specs.Fronts.{all_free, chosen}
use Rattle.xen_front.specs.Given.{Given}
use Rattle.xen_front.specs.Slots.{pieces_of}
use Rattle.xen_front.specs.Tree.{poll}
use Rattle.xen_front.specs.declared.state.FrontState.{FrontState}
use Rattle.xen_steps.specs.Drive.{LedBy}
use Rattle.xen_steps.specs.Event.{Event}
use Rattle.honest_pair.specs.Machine.Log.{Logged, OfFront, OfBack, Woke, logged}
use Rattle.honest_pair.specs.Machine.Memory.{Memory}
use Rattle.honest_pair.specs.Machine.Pair.{Activity, Free, Sending, Posting, Polling, Pair, PairEvent, FrontStep}
use Rattle.honest_pair.specs.Machine.Pair.{packets_of, poll_result, post_result, post_tree, send_result, send_tree, step}
use Rattle.honest_pair.specs.Machine.Traces.{IsAnswered}

-- An activity that is over, with the packet that it took and what it gave.
pub data Act : Type 0 where
  OfSend : (packet : List ℕ) (gives : Given) → Act
  OfPost : (gives : Given) → Act
  OfPoll : (gives : Given) → Act

abbrev pub taken_in : List Act → List (List ℕ)
taken_in [] = []
taken_in (OfSend packet gives ∷ xs) = packet ∷ taken_in xs
taken_in (OfPost gives ∷ xs) = taken_in xs
taken_in (OfPoll gives ∷ xs) = taken_in xs

abbrev pub given_in : List Act → List (List ℕ)
given_in [] = []
given_in (OfSend packet gives ∷ xs) = packets_of gives ++ given_in xs
given_in (OfPost gives ∷ xs) = packets_of gives ++ given_in xs
given_in (OfPoll gives ∷ xs) = packets_of gives ++ given_in xs

-- An activity of the front's table from a state to the next, which the front's tests let begin.
abbrev pub IsAct : FrontWiring → FrontState → List Event → FrontState → Act → Type 0
IsAct w s t end (OfSend packet gives) =
    (send_result s packet ≡ Ok tt) × IsSend w s packet (chosen (pieces_of (length packet)) s.tx.out) t end gives
IsAct w s t end (OfPost gives) = (post_result s ≡ Ok tt) × IsPost w s (get_or (all_free s.rx.out) 0 0) t end gives
IsAct w s t end (OfPoll gives) = (poll_result s ≡ Ok tt) × IsPoll w s t end gives

-- The events from a state on are the traces of these activities, each from the last's state, and what is left after them.
pub data HaveActs (w : FrontWiring) : FrontState → List Event → List Act → FrontState → List Event → Type 0 where
  begun : (s : FrontState) (front : List Event) → HaveActs w s front [] s front
  over : (s mid end : FrontState) (t more front : List Event) (a : Act) (xs : List Act) → IsAct w s t mid a → HaveActs w mid more xs end front →
      HaveActs w s (t ++ more) (a ∷ xs) end front

-- Where the front is after these events of an activity, which took these packets.
abbrev pub IsActing : FrontWiring → FrontState → Activity → List Event → List (List ℕ) → Type 0
IsActing w s Free front taken = (front ≡ []) × (taken ≡ [])
IsActing w s (Sending t) front taken =
    (packet : List ℕ) × (taken ≡ packet ∷ []) × (send_result s packet ≡ Ok tt) × LedBy (send_tree w s packet) front t
IsActing w s (Posting t) front taken = (taken ≡ []) × (post_result s ≡ Ok tt) × LedBy (post_tree w s) front t
IsActing w s (Polling t) front taken = (taken ≡ []) × (poll_result s ≡ Ok tt) × LedBy (poll w s) front t

-- The pair's front has come through these events from a state on. What was sent is what its activities took, and what was received is
-- what they gave.
pub record HasActed (w : FrontWiring) (start : FrontState) (events : List Event) (p : Pair) : Type 0 where
  pub front : List Event
  pub acts : List Act
  pub taken : List (List ℕ)
  pub acted : HaveActs w start events acts p.front front
  pub acting : IsActing w p.front p.activity front taken
  pub sent : p.sent ≡ taken_in acts ++ taken
  pub received : p.received ≡ given_in acts

-- The events of the front.
abbrev pub front_of : List Logged → List Event
front_of [] = []
front_of (OfFront e ∷ l) = e ∷ front_of l
front_of (OfBack e ∷ l) = front_of l
front_of (Woke ∷ l) = front_of l

-- By these events it comes from one pair to the next.
abbrev pub ActsOn : FrontWiring → Pair → Pair → List Event → Type 0
ActsOn w p p' events = (start : FrontState) (past : List Event) → HasActed w start past p → HasActed w start (past ++ events) p'

-- What the front asks next is answered by a number of its width.
abbrev pub FrontIsAnswered : Activity → Memory → ℕ → Type 0
FrontIsAnswered Free m n = Unit {0}
FrontIsAnswered (Sending t) m n = IsAnswered t m n
FrontIsAnswered (Posting t) m n = IsAnswered t m n
FrontIsAnswered (Polling t) m n = IsAnswered t m n

abbrev pub ActIsAnswered : Pair → PairEvent → ℕ → Type 0
ActIsAnswered p FrontStep n = FrontIsAnswered p.activity p.memory n
ActIsAnswered p e n = Unit {0}

-- Each event of the pair adds to what its front has what the front does in it.
abbrev pub ActLaw : Type 0
ActLaw = (bw : BackWiring) (fw : FrontWiring) (p : Pair) (e : PairEvent) (n : ℕ) → ActIsAnswered p e n →
    ActsOn fw p (step bw fw p e n) (front_of (logged p e n))
