-- Stated: claims rest on this file.
-- What contracts see of a front.
use Rattle.std.specs.Prelude.{ℕ, zero, suc, ◌≡◌, ◌≢◌, ◌+◌, Bool, true, false, List, [], ◌∷◌, length, take, get_or, Option, Some}
use Rattle.std.specs.Prelude.{None, Result, Ok, Err, nat_lt, if◌then◌else◌}
use Rattle.xen_steps.specs.Answers.{number}
use Rattle.xen_steps.specs.Drive.{IsPageWant}
use Rattle.xen_steps.specs.Steps.{Steps, done, next, want_of}
use Rattle.xen_steps.specs.declared.want.Answer.{Answer}
use Rattle.xen_steps.specs.declared.want.Want.{Want}
use Rattle.xen_steps.specs.declared.want.Want.TheVariants as wants
use Rattle.xen_front.specs.Given.{Ending, Given, Shows}
use Rattle.xen_front.specs.Rest.{busy_in, rest_at}
use Rattle.xen_front.specs.Slots.{pieces_of}
use Rattle.xen_front.specs.declared.front.Front.{Front}
use Rattle.xen_front.specs.declared.state.FrontState.{FrontState}
use Rattle.xen_front.specs.declared.turn.FrontHalt.{FrontHalt}
use Rattle.xen_front.specs.declared.turn.PollRefusal.{PollRefusal}
use Rattle.xen_front.specs.declared.turn.PollRefusal.TheVariants as poll_refusal
use Rattle.xen_front.specs.declared.turn.PostRefusal.{PostRefusal}
use Rattle.xen_front.specs.declared.turn.PostRefusal.TheVariants as post_refusal
use Rattle.xen_front.specs.declared.turn.RxTurn.{RxTurn}
use Rattle.xen_front.specs.declared.turn.SendRefusal.{SendRefusal}
use Rattle.xen_front.specs.declared.turn.SendRefusal.TheVariants as send_refusal
use Rattle.xen_buffers.specs.declared.wiring.FrontWiring.{FrontWiring}

abbrev pub state_of : Front → FrontState
state_of f = f.state

abbrev pub wiring_of : Front → FrontWiring
wiring_of f = f.wiring

-- What is left of its activity.
abbrev pub rest : Front → Steps Ending
rest f = rest_at f.wiring f.state f.sent f.received f.phase

-- Inside an activity, or its end was not yet asked for.
abbrev pub busy : Front → Bool
busy f = busy_in f.phase

-- The free ids among n from i on, the lowest first.
abbrev pub free_in : List Bool → ℕ → ℕ → List ℕ
free_in out zero i = []
free_in out (suc n) i = if get_or out i false then free_in out n (i + 1) else (i ∷ free_in out n (i + 1))

unfoldable pub all_free : List Bool → List ℕ
all_free out = free_in out 256 0

-- The lowest n of them.
abbrev pub chosen : ℕ → List Bool → List ℕ
chosen n out = take n (all_free out)

-- The answers of the calls that begin an activity: the first test that holds, in their order.
abbrev pub send_tests : Option FrontHalt → (busy short long full : Bool) → Result (Unit {0}) SendRefusal
send_tests (Some cause) b s l f = Err send_refusal.Halted
send_tests None true s l f = Err send_refusal.Busy
send_tests None false true l f = Err send_refusal.TooShort
send_tests None false false true f = Err send_refusal.TooLong
send_tests None false false false true = Err send_refusal.NoSlot
send_tests None false false false false = Ok tt

abbrev pub send_answer : Front → List ℕ → Result (Unit {0}) SendRefusal
send_answer f p =
    send_tests f.state.halt (busy f) (nat_lt (length p) 14) (nat_lt 65535 (length p))
    (nat_lt (length (all_free f.state.tx.out)) (pieces_of (length p)))

abbrev pub post_tests : Option FrontHalt → Bool → List ℕ → Result (Unit {0}) PostRefusal
post_tests (Some cause) b ids = Err post_refusal.Halted
post_tests None true ids = Err post_refusal.Busy
post_tests None false [] = Err post_refusal.NoSlot
post_tests None false (id ∷ ids) = Ok tt

abbrev pub post_answer : Front → Result (Unit {0}) PostRefusal
post_answer f = post_tests f.state.halt (busy f) (all_free f.state.rx.out)

abbrev pub poll_tests : Option FrontHalt → Bool → Result (Unit {0}) PollRefusal
poll_tests (Some cause) b = Err poll_refusal.Halted
poll_tests None true = Err poll_refusal.Busy
poll_tests None false = Ok tt

abbrev pub poll_answer : Front → Result (Unit {0}) PollRefusal
poll_answer f = poll_tests f.state.halt (busy f)

-- It has said what it wants, and is as it was.
pub record IsAsked (wanted : Want) (old new : Front) : Type 0 where
  pub want : wanted ≡ want_of (rest old)
  pub within : wanted ≢ wants.Done → IsPageWant (wiring_of old).frames wanted
  pub rest : rest new ≡ rest old
  pub state : state_of new ≡ state_of old
  pub wiring : wiring_of new ≡ wiring_of old

-- It has taken the answer to its want, and goes on by it.
pub record IsFed (answer : Answer) (old new : Front) : Type 0 where
  pub rest : rest new ≡ next (rest old) (number answer)
  pub wiring : wiring_of new ≡ wiring_of old

-- Nothing has changed.
pub record IsSame (old new : Front) : Type 0 where
  pub state : state_of new ≡ state_of old
  pub rest : rest new ≡ rest old
  pub busy : busy new ≡ busy old
  pub wiring : wiring_of new ≡ wiring_of old

-- An activity has begun.
pub record HasBegun (old new : Front) (t : Steps Ending) : Type 0 where
  pub rest : rest new ≡ t
  pub wiring : wiring_of new ≡ wiring_of old

-- The activity is over, and the next may begin.
pub record IsOver (old new : Front) (shown : RxTurn) : Type 0 where
  pub given : Given
  pub over : rest old ≡ done (state_of new, given)
  pub ready : busy new ≡ false
  pub same : wiring_of new ≡ wiring_of old
  pub shows : Shows given shown
