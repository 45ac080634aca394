use Rattle.std.proofs.Common.{◌≡◌, ◌++◌, take}
use Rattle.xen_front.proofs.by_event.receiving.push_all.Given as goal

abbrev pub invariant-loop-byte : goal.invariant-loop-byte
invariant-loop-byte l = l.received ≡ l.fn.received ++ take l.byte-index l.bytes
