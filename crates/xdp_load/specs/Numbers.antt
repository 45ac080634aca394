-- Stated: claims rest on this file.
-- The numbers of a document: as they are written, and within their limits.
use Rattle.std.specs.Prelude.{ℕ, ℤ, pos, negsuc, ◌&&◌, Result, Ok, Err, nat_le, nat_lt, if◌then◌else◌}
use Rattle.toml.specs.Data.{Members}
use Rattle.xdp_load.specs.Document.{number_at}
use Rattle.xdp_load.specs.Gives.{◌>>=◌}
use Rattle.xdp_load.specs.Keys.{least, most}
use Rattle.xdp_load.specs.declared.key.Key.{Key}
use Rattle.xdp_load.specs.declared.key.Key.TheVariants as key
use Rattle.xdp_load.specs.declared.numbers.Limits.{Limits}
use Rattle.xdp_load.specs.declared.numbers.Numbers.{Numbers}

-- the whole number, where it lies within the limits of that key
abbrev pub limited : Key → ℤ → Result ℕ Key
limited k (pos n) = if nat_le (least k) n && nat_le n (most k) then Ok n else Err k
limited k (negsuc n) = Err k

-- a whole number below n
abbrev pub below : Key → ℕ → ℤ → Result ℕ Key
below k n z = limited k z >>= (λ q. if nat_lt q n then Ok q else Err k)

-- as they are written
abbrev pub numbers_of : Members → Result Numbers Key
numbers_of ms = do
  queues ← number_at key.Queues ms
  ifindex ← number_at key.IfIndex ms
  start ← number_at key.Start ms
  Ok (record { queues = queues; ifindex = ifindex; start = start })

-- within their limits
abbrev pub limited_numbers : Numbers → Result Limits Key
limited_numbers n = do
  queues ← limited key.Queues n.queues
  ifindex ← limited key.IfIndex n.ifindex
  start ← limited key.Start n.start
  Ok (record { queues = queues; ifindex = ifindex; start = start })
