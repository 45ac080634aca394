use Rattle.std.proofs.Common.{◌≡◌, ◌≤◌, ◌+◌, ◌++◌, length, map, take}
use Rattle.xen_buffers.specs.Wired.{gref_of}
use Rattle.xen_buffers.proofs.desc.FrontDesc.references.Given as goal

abbrev pub invariant-loop-tx : goal.invariant-loop-tx
invariant-loop-tx l = record {
  made : l.references.items ≡ map gref_of (take l.tx-index l.self.tx.now);
  few : length l.references.items ≤ l.tx-index;
}

abbrev pub invariant-loop-rx : goal.invariant-loop-rx
invariant-loop-rx l = record {
  made : l.references.items ≡ map gref_of l.self.tx.now ++ map gref_of (take l.rx-index l.self.rx.now);
  few : length l.references.items ≤ 256 + l.rx-index;
}
