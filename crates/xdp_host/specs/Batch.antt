-- Stated: claims rest on this file.
-- Runs on the packets of a batch, one after another.
use Rattle.std.specs.Prelude.{ℕ, ◌≡◌, ◌<◌, ◌≤◌, ◌+◌, ◌⊎◌, List, [], ◌∷◌, ◌++◌, Option, length, take, drop, slice_range}
use Rattle.bpf_lists.specs.declared.list.MapList.{MapList}
use Rattle.bpf_maps.specs.Layout.{total}
use Rattle.bpf_verify.specs.Consistent.{Accepted}
use Rattle.bpf_vm.specs.Actions.{action_of}
use Rattle.xdp_program.specs.Ran.{Ran}
use Rattle.xdp_host.specs.Ran.{action_number, nothing}
use Rattle.xdp_host.specs.declared.batch.XdpPacket.{XdpPacket}
use Rattle.xdp_host.specs.declared.abi.XdpRun.{XdpRun}

-- what the packets of a batch share
pub record Shared : Type 0 where
  pub bytes : List ℕ
  pub words : List ℕ

abbrev pub end_of : XdpPacket → ℕ
end_of x = x.start + x.length

abbrev pub packet_of : List ℕ → XdpPacket → List ℕ
packet_of bytes x = slice_range bytes x.start (end_of x)

-- the packet lies in the bytes and isn't too long, and there are words enough
pub record IsRunnable (p : Accepted) (x : XdpPacket) (s : Shared) : Type 0 where
  pub inside : end_of x ≤ length s.bytes
  pub short : x.length ≤ 65535
  pub words : total p.shapes ≤ length s.words

abbrev pub IsUnrunnable : Accepted → XdpPacket → Shared → Type 0
IsUnrunnable p x s = (length s.bytes < end_of x) ⊎ ((65535 < x.length) ⊎ (length s.words < total p.shapes))

-- the program runs on the packet and leaves the other bytes; or nothing is run, and nothing changes
pub record RunsOne (p : Accepted) (lists : List (Option MapList)) (ifindex queue : ℕ) (x : XdpPacket) (r : XdpRun) (s t : Shared) : Type 0 where
  pub made : IsRunnable p x s → Ran p lists (packet_of s.bytes x) ifindex queue s.words r.number (packet_of t.bytes x) t.words r.instructions
  pub before : IsRunnable p x s → take x.start t.bytes ≡ take x.start s.bytes
  pub after : IsRunnable p x s → drop (end_of x) t.bytes ≡ drop (end_of x) s.bytes
  pub unmade : IsUnrunnable p x s → (r ≡ nothing) × (t ≡ s)
  pub action : r.action ≡ action_number (action_of r.number)

-- the packets so far have these results, and each found what the one before it left
pub data RanEach (p : Accepted) (lists : List (Option MapList)) (ifindex queue : ℕ) (s : Shared) : List XdpPacket → List XdpRun → Shared → Type 0 where
  none : RanEach p lists ifindex queue s [] [] s
  one_more : (xs : List XdpPacket) (rs : List XdpRun) (t u : Shared) (x : XdpPacket) (r : XdpRun) →
      RanEach p lists ifindex queue s xs rs t → RunsOne p lists ifindex queue x r t u → RanEach p lists ifindex queue s (xs ++ x ∷ []) (rs ++ r ∷ []) u
