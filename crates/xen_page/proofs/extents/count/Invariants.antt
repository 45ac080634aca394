use Rattle.std.proofs.Common.{◌≡◌, ◌+◌, ◌<◌, ◌^◌, length, drop}
use Rattle.xen_page.specs.Owned.{domains_of}
use Rattle.xen_page.proofs.extents.count.Given as goal

-- what is counted, and what the extents to come have, are all frames
abbrev pub invariant-loop-extent : goal.invariant-loop-extent
invariant-loop-extent l = (l.count < 2 ^ 32) × (l.count + length (domains_of (drop l.extent-index l.extents)) ≡ length (domains_of l.extents))
