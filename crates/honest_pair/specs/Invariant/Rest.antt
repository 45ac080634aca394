-- For proofs: no claim rests on this file.
-- A front between activities and inside one, by its state and by what it has done.
use Rattle.honest_pair.specs.Machine.Pair.{packets_of}
use Rattle.std.specs.Prelude.{ℕ, ◌≡◌, ◌+◌, ◌<◌, ◌≤◌, true, false, List, [], ◌++◌, length, None}
use Rattle.xen_front.specs.Fronts.{all_free}
use Rattle.xen_front.specs.Given.{Ending}
use Rattle.xen_front.specs.Slots.{in_flight, pieces_of}
use Rattle.xen_front.specs.declared.state.Ring.{Ring}
use Rattle.xen_front.specs.declared.state.FrontState.{FrontState}
use Rattle.xen_steps.specs.Places.{add32}
use Rattle.honest_pair.specs.Invariant.Ghosts.{Sent, Front, tx_sent, slots, piece, id_at, bytes_in}

-- A ring of the front's state: the ids of its requests by position, of which those from `taken` on are in flight.
pub record Ringed (start : ℕ) (r : Ring) (ids : ℕ → ℕ) (taken sent : ℕ) : Type 0 where
  pub prod : r.prod ≡ add32 start sent
  pub cons : r.cons ≡ add32 start taken
  pub busy : (n : ℕ) → taken ≤ n → n < sent → in_flight r (ids n) ≡ true
  pub count : length (all_free r.out) + sent ≡ taken + 256
  pub size : length r.out ≡ 256

abbrev pub id_of : Front → ℕ → ℕ
id_of f n = (piece (slots f.sent) n).id

-- The packets that were received are a prefix of those that are known to be given.
pub record Chained (received : List (List ℕ)) (f : Front) : Type 0 where
  pub before : List Sent
  pub more : List Sent
  pub told : f.rx_told ≡ before ++ more
  pub bytes : bytes_in before ≡ received

-- A front between activities: its state says what is open, and isn't halted.
pub record Rest (start : ℕ) (s : FrontState) (sent received : List (List ℕ)) (f : Front) : Type 0 where
  pub running : s.halt ≡ None
  pub tx : Ringed start s.tx (id_of f) f.taken (tx_sent f)
  pub rx : Ringed start s.rx (id_at f.posts) f.got (length f.posts)
  pub unsent : f.unsent ≡ []
  pub notes : f.notes ≡ []
  pub window : f.window ≡ None
  pub posting : f.posting ≡ false
  pub reading : f.reading ≡ None
  pub packets : bytes_in f.sent ≡ sent
  pub chain : Chained received f
  pub got : f.got ≡ length (slots chain.before)

-- What holds all along an activity: what a send took, and what is received.
pub record Keeps (sent received : List (List ℕ)) (f : Front) : Type 0 where
  pub packets : bytes_in f.sent ++ f.unsent ≡ sent
  pub chain : Chained received f

-- Inside a send no push of posts is open.
pub record Sends (sent received : List (List ℕ)) (f : Front) : Type 0 where
  pub packets : bytes_in f.sent ++ f.unsent ≡ sent
  pub chain : Chained received f
  pub posting : f.posting ≡ false

-- Inside a post no push of requests is.
pub record Posts (sent received : List (List ℕ)) (f : Front) : Type 0 where
  pub packets : bytes_in f.sent ++ f.unsent ≡ sent
  pub chain : Chained received f
  pub window : f.window ≡ None

-- Inside a poll neither is.
pub record Polls (sent received : List (List ℕ)) (f : Front) : Type 0 where
  pub packets : bytes_in f.sent ++ f.unsent ≡ sent
  pub chain : Chained received f
  pub window : f.window ≡ None
  pub posting : f.posting ≡ false

-- An activity ends between activities, and never halted.
abbrev pub Over : ℕ → (sent received : List (List ℕ)) → Front → Ending → Type 0
Over start sent received f e = Rest start e.0 sent (received ++ packets_of e.1) f

-- A front that begins an activity.
abbrev pub began : Front → List (List ℕ) → Front
began f u = record f { unsent = u; notes = []; window = None; posting = false; reading = None }

-- The answer of a call that begins a send.
pub record CanSend (s : FrontState) (p : List ℕ) : Type 0 where
  pub least : 14 ≤ length p
  pub most : length p ≤ 65535
  pub room : pieces_of (length p) ≤ length (all_free s.tx.out)
