use Rattle.std.proofs.Common.{◌≡◌, ◌+◌, ◌++◌, length, drop}
use Rattle.xen_page.specs.Owned.{domains_of, ends_of}
use Rattle.xen_page.proofs.extents.ends.Given as goal

-- the ends that are made, and those that the extents to come have
abbrev pub invariant-loop-extent : goal.invariant-loop-extent
invariant-loop-extent l =
    (l.end + length (domains_of (drop l.extent-index l.extents)) ≡ length (domains_of l.extents))
    × (l.ends.items ++ ends_of l.end (drop l.extent-index l.extents) ≡ ends_of 0 l.extents)
