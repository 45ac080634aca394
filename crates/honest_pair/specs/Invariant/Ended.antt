-- Stated: claims rest on this file.
-- How a turn or a delivery of a back that is paired with an honest front ends.
use Rattle.std.specs.Prelude.{ℕ, ◌≡◌, ◌+◌, ◌<◌, ◌⊎◌, Bool, true, false, List, [], ◌∷◌, ◌++◌, length, get_or, None, ◌==◌, if◌then◌else◌}
use Rattle.bpf_vm.specs.Course.{Course, Exiting, Stepping, Loading, Adding, Broken}
use Rattle.xen_turns.specs.Tree.{Left, after_run, run_of}
use Rattle.xen_turns.specs.Turned.{Ending, Turned, Idle, Ran, Refused, Halted}
use Rattle.xen_turns.specs.declared.delivery.delivering.Delivery.{Delivery}
use Rattle.xen_turns.specs.declared.delivery.delivering.Delivery.TheVariants as delivery
use Rattle.xen_turns.specs.declared.state.State.{State}
use Rattle.xen_turns.specs.declared.turn.PacketRefusal.TheVariants as refusal
use Rattle.xen_turns.specs.declared.wiring.Wiring.{Wiring as BackWiring}
use Rattle.xen_steps.specs.Places.{add32}
use Rattle.honest_pair.specs.Invariant.Ends.{BackSafe}
use Rattle.honest_pair.specs.Machine.Halves.{Half, Over, HasRun}
use Rattle.xen_buffers.specs.declared.wiring.FrontWiring.{FrontWiring}
use Rattle.honest_pair.specs.Invariant.Ghosts.{IsSent, Sent, Back, slots, bytes_in}

-- A back that is awake: `used` slots of the packets ahead are read, and `wrote` of them are answered.
abbrev pub working : (d a : List Sent) → (used wrote : ℕ) → List Sent → List ℕ → ℕ → Back
working d a used wrote g rs e =
    record {
      done = d;
      ahead = a;
      used = used;
      given = g;
      rx_used = 0;
      rx_seen = rs;
      wrote = wrote;
      giving = [];
      filled = 0;
      rx_wrote = 0;
      event = e;
      asleep = false;
    }

-- Between turns.
abbrev pub resting : (d a : List Sent) → List Sent → List ℕ → ℕ → Back
resting d a g rs e = working d a 0 0 g rs e

abbrev pub slept : (d : List Sent) → List Sent → List ℕ → Back
slept d g rs =
    record {
      done = d;
      ahead = [];
      used = 0;
      given = g;
      rx_used = 0;
      rx_seen = rs;
      wrote = 0;
      giving = [];
      filled = 0;
      rx_wrote = 0;
      event = length (slots d) + 1;
      asleep = true;
    }

-- The queue's state says how much is done, and isn't halted.
pub record Between (start : ℕ) (d g : List Sent) (s : State) : Type 0 where
  pub tx : s.tx_index ≡ add32 start (length (slots d))
  pub rx : s.rx_index ≡ add32 start (length (slots g))
  pub running : s.halt ≡ None

-- A back between turns, awake or asleep, that has made these copies and given these packets.
pub record Ready (start : ℕ) (s : State) (copies given : List (List ℕ)) (b : Back) : Type 0 where
  pub answered : List Sent
  pub ahead : List Sent
  pub sent : List Sent
  pub posts : List ℕ
  pub event : ℕ
  pub back : b ≡ resting answered ahead sent posts event
  pub copied : bytes_in answered ≡ copies
  pub gave : bytes_in sent ≡ given
  pub between : Between start answered sent s

pub record Slept (start : ℕ) (s : State) (copies given : List (List ℕ)) (b : Back) : Type 0 where
  pub answered : List Sent
  pub sent : List Sent
  pub posts : List ℕ
  pub back : b ≡ slept answered sent posts
  pub copied : bytes_in answered ≡ copies
  pub gave : bytes_in sent ≡ given
  pub between : Between start answered sent s

-- A turn ends Ran, or Refused 6; its packet was given if it was sent back.
abbrev pub TurnEnd : (start : ℕ) → (copies given : List (List ℕ)) → Back → State → Turned → Type 0
TurnEnd start copies given b s Idle = ⊥
TurnEnd start copies given b s (Ran number packet ops k) = Ready start s copies (if number == 3 then given ++ packet ∷ [] else given) b
TurnEnd start copies given b s (Refused (refusal.Size fault) ops k) = ⊥
TurnEnd start copies given b s (Refused refusal.Grant ops k) = ⊥
TurnEnd start copies given b s (Refused refusal.FewSlots ops k) = Ready start s copies given b
TurnEnd start copies given b s (Refused refusal.RxGrant ops k) = ⊥
TurnEnd start copies given b s (Halted cause) = ⊥

abbrev pub EndedTurn : (start : ℕ) → (copies given : List (List ℕ)) → Back → Ending → Type 0
EndedTurn start copies given b e = TurnEnd start copies given b e.0 e.1

-- What is given in the second half of a turn.
abbrev pub GivesLeft : List (List ℕ) → Left → Back → Type 0
GivesLeft given r b = (bytes_in b.given ≡ given) ⊎ ((r.number ≡ 3) × (bytes_in b.given ≡ given ++ r.packet ∷ []))

abbrev pub OverAs : (start : ℕ) → State → (copies given : List (List ℕ)) → Back → State → Turned → Type 0
OverAs start s copies given b t Idle = (t ≡ s) × Slept start s copies given b
OverAs start s copies given b t (Ran number packet ops k) = ⊥
OverAs start s copies given b t (Refused cause ops k) = ⊥
OverAs start s copies given b t (Halted cause) = ⊥

-- The first half of a turn is Idle with all seen, or the next packet was copied and what is left is safe.
abbrev pub HalfEnd : FrontWiring → ℕ → BackWiring → State → (copies given : List (List ℕ)) → Back → Half → Type 0
HalfEnd w start v s copies given b (Over e) = OverAs start s copies given b e.0 e.1
HalfEnd w start v s copies given b (HasRun slots packet r) =
    BackSafe w start (GivesLeft given r) (EndedTurn start (copies ++ packet ∷ []) given) b (after_run v s slots r)

abbrev pub GivenAll : List (List ℕ) → Back → Type 0
GivenAll given b = bytes_in b.given ≡ given

-- Between turns, asleep or awake.
abbrev pub Resting : Bool → ℕ → State → (copies given : List (List ℕ)) → Back → Type 0
Resting true = Slept
Resting false = Ready

-- What is given while a packet of the host's own is delivered.
abbrev pub GivesPacket : List (List ℕ) → List ℕ → Back → Type 0
GivesPacket given packet b = (bytes_in b.given ≡ given) ⊎ (bytes_in b.given ≡ given ++ packet ∷ [])

-- A delivery ends with its packet given, or with too few posts or no frame; the back is asleep or awake as it was before.
abbrev pub Landed : Bool → ℕ → (copies given : List (List ℕ)) → List ℕ → Back → State → Delivery → Type 0
Landed asleep start copies given packet b s (delivery.Sent slots) = Resting asleep start s copies (given ++ packet ∷ []) b
Landed asleep start copies given packet b s delivery.FewSlots = Resting asleep start s copies given b
Landed asleep start copies given packet b s (delivery.Refused slots) = ⊥
Landed asleep start copies given packet b s (delivery.Halted cause) = ⊥
Landed asleep start copies given packet b s delivery.NoFrame = Resting asleep start s copies given b
Landed asleep start copies given packet b s delivery.NotAccepted = ⊥

-- No fault, and each exit leaves a packet of which P holds.
abbrev pub Leaves : (List ℕ → Type 0) → Course → Type 0
Leaves P (Exiting r0 packet) = P packet
Leaves P (Stepping c) = Leaves P c
Leaves P (Loading m k j to) = (v : ℕ) → Leaves P (to v)
Leaves P (Adding m k j delta to) = (v : ℕ) → Leaves P (to v)
Leaves P Broken = ⊥

-- As many bytes as before.
abbrev pub Fits : List ℕ → List ℕ → Type 0
Fits before after = (length after ≡ length before) × ((i : ℕ) → get_or after i 0 < 256)

-- The wired program ends on each packet without a fault, and keeps its size.
abbrev pub Programmed : BackWiring → Type 0
Programmed v = (s : Sent) → IsSent s → Leaves (Fits s.bytes) (run_of v s.bytes)
