-- For proofs: no claim rests on this file.
-- What a front has still to send.
use Rattle.std.specs.Prelude.{ℕ, ◌++◌, ◌-◌, ◌<◌, ◌≡◌, List, [], ◌∷◌, nat_eq, if◌then◌else◌, IfSome, replicate, slice_get}
use Rattle.xdp_load.specs.declared.packets.SentPacket.{SentPacket}
use Rattle.thread_pair.specs.declared.outbox.Outbox.{Outbox}

-- What a queue has still to send of these packets, in order, if it has sent the first so often.
abbrev pub left_of : (queue sent : ℕ) → List SentPacket → List (List ℕ)
left_of queue sent [] = []
left_of queue sent (p ∷ ps) = (if nat_eq p.queue queue then replicate (p.times - sent) p.bytes.items else []) ++ left_of queue 0 ps

abbrev pub still_to_send : Outbox → List (List ℕ)
still_to_send o = left_of o.queue o.sent o.left.now

-- If a packet is there, it is of the queue, and wasn't sent often enough.
abbrev pub IsNext : Outbox → Type 0
IsNext o = IfSome (slice_get o.left.now 0) (λ p. (p.queue ≡ o.queue) × (o.sent < p.times))
