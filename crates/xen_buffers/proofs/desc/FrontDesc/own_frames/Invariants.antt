use Rattle.std.proofs.Common.{◌≡◌, ◌≤◌, ◌+◌, [], ◌∷◌, ◌++◌, length, map, take}
use Rattle.xen_buffers.specs.Wired.{frame_of}
use Rattle.xen_buffers.proofs.desc.FrontDesc.own_frames.Given as goal

abbrev pub invariant-loop-frame : goal.invariant-loop-frame
invariant-loop-frame l = record {
  made : l.frames.items ≡ l.self.tx_frame ∷ l.self.rx_frame ∷ take l.frame-index l.frame-items;
  few : length l.frames.items ≤ 2 + l.frame-index;
}

abbrev pub invariant-loop-tx : goal.invariant-loop-tx
invariant-loop-tx l = record {
  made : l.frames.items ≡ l.self.tx_frame ∷ l.self.rx_frame ∷ (l.self.table.now ++ map frame_of (take l.tx-index l.self.tx.now));
  few : length l.frames.items ≤ 66 + l.tx-index;
}

abbrev pub invariant-loop-rx : goal.invariant-loop-rx
invariant-loop-rx l = record {
  made : l.frames.items ≡ l.self.tx_frame ∷ l.self.rx_frame ∷ (l.self.table.now ++ (map frame_of l.self.tx.now ++ map frame_of (take l.rx-index l.self.rx.now)));
  few : length l.frames.items ≤ 322 + l.rx-index;
}
