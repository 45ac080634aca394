-- One packet of a batch, and one more.
use Rattle.std.proofs.Common.{◌≡◌, ◌≤◌, ◌<◌, ◌+◌, ◌-◌, ℕ, List, Option, length, take, drop, get_or, set, ◌∙◌, refl, sym, subst, inl, inr, arith}
use Rattle.std.proofs.lemmas.List.{take_more, take_more_set, drop-set-lt}
use Rattle.std.proofs.lemmas.Grind.{drop_more_same}
use Rattle.std.proofs.lemmas.Slice.{between-put_mid, take-put_mid_below, drop-put_mid}
use borrow.Rule.Slice.PartMut.{put_mid, put_same, mid_len}
use Rattle.bpf_lists.specs.declared.list.MapList.{MapList}
use Rattle.bpf_verify.specs.Consistent.{Accepted}
use Rattle.xdp_program.specs.Ran.{Ran}
use Rattle.xdp_program.specs.Refused.{IsMade, IsUnmade}
use Rattle.xdp_program.specs.declared.program.Run.{Run}
use Rattle.xdp_host.specs.Ran.{nothing, run_of}
use Rattle.xdp_host.specs.Batch.{Shared, end_of, packet_of, IsRunnable, IsUnrunnable, RunsOne, RanEach, one_more}
use Rattle.xdp_host.specs.declared.batch.XdpPacket.{XdpPacket}
use Rattle.xdp_host.specs.declared.abi.XdpRun.{XdpRun}
use Rattle.xdp_host.specs.declared.loaded_program.LoadedProgram.{LoadedProgram}

pub packet_length : (bytes : List ℕ) (x : XdpPacket) → end_of x ≤ length bytes → length (packet_of bytes x) ≡ x.length
packet_length bytes x inside = let e = mid_len x.start (end_of x) bytes inside in omega (arith, e)

-- where the packet lies in the bytes, a run is made where it can be
made_inside : (p : Accepted) (x : XdpPacket) (bytes words : List ℕ) → IsRunnable p x (record { bytes = bytes; words = words }) → IsMade p.shapes words (packet_of bytes x)
made_inside p x bytes words h = let e = packet_length bytes x h.inside in (rw e h.short, h.words)

unmade_inside : (p : Accepted) (x : XdpPacket) (bytes words : List ℕ) → end_of x ≤ length bytes → IsUnrunnable p x (record { bytes = bytes; words = words }) → IsUnmade p.shapes words (packet_of bytes x)
unmade_inside p x bytes words inside (inl out) = absurd (omega (arith, inside, out))
unmade_inside p x bytes words inside (inr (inl long)) = let e = packet_length bytes x inside in inl (rw e long)
unmade_inside p x bytes words inside (inr (inr few)) = inr few

nothing_ran : (run : Run) → run.number ≡ 0 → run.instructions ≡ 0 → run_of run ≡ nothing
nothing_ran run n i = rw (n, i) refl

nothing_changed : (x : XdpPacket) (bytes words packet after : List ℕ) → packet ≡ packet_of bytes x → after ≡ words →
    let t : Shared = record { bytes = put_mid x.start (end_of x - x.start) bytes packet; words = after } in t ≡ record { bytes = bytes; words = words }
nothing_changed x bytes words packet after same kept = rw (same, kept, put_same x.start (end_of x - x.start) bytes) refl

pub runs_one : (p : Accepted) (lists : List (Option MapList)) (ifindex queue : ℕ) (x : XdpPacket) (run : Run) (bytes words packet after : List ℕ) →
    end_of x ≤ length bytes → length packet ≡ end_of x - x.start →
    (IsMade p.shapes words (packet_of bytes x) → Ran p lists (packet_of bytes x) ifindex queue words run.number packet after run.instructions) →
    (IsUnmade p.shapes words (packet_of bytes x) → (run.number ≡ 0) × (run.instructions ≡ 0) × (packet ≡ packet_of bytes x) × (after ≡ words)) →
    RunsOne p lists ifindex queue x (run_of run) (record { bytes = bytes; words = words }) (record { bytes = put_mid x.start (end_of x - x.start) bytes packet; words = after })
runs_one p lists ifindex queue x run bytes words packet after inside long made unmade =
    let k : ℕ = end_of x - x.start in
    let starts : x.start ≤ length bytes = omega (arith, inside) in
    let part : packet_of (put_mid x.start k bytes packet) x ≡ packet = between-put_mid x.start k bytes packet (end_of x) starts long in
    record {
      made = λ h. subst (λ b. Ran p lists (packet_of bytes x) ifindex queue words run.number b after run.instructions) (sym part) (made (made_inside p x bytes words h));
      before = λ h. take-put_mid_below x.start k bytes packet x.start (omega arith) starts;
      after = λ h. drop-put_mid x.start k bytes packet (end_of x) (omega arith) starts long;
      unmade = λ h. let u = unmade (unmade_inside p x bytes words inside h) in (nothing_ran run u.0 u.1, nothing_changed x bytes words packet after u.2 u.3);
      action = refl;
    }

-- one more packet, and its result, of the same program with the same lists
pub one_more_ran : (p q : LoadedProgram) (ifindex queue : ℕ) (s t u : Shared) (packets : List XdpPacket) (results : List XdpRun) (n : ℕ) (d : XdpPacket) (r : XdpRun) →
    q ≡ p → n < length packets → n < length results → RanEach p.program p.lists ifindex queue s (take n packets) (take n results) t → RunsOne q.program q.lists ifindex queue (get_or packets n d) r t u →
    RanEach p.program p.lists ifindex queue s (take (n + 1) packets) (take (n + 1) (set results n r)) u
one_more_ran p q ifindex queue s t u packets results n d r same here room ran one =
    rw (take_more packets n d here, take_more_set results n r room)
    (one_more (take n packets) (take n results) t u (get_or packets n d) r ran (subst (λ (a : LoadedProgram). RunsOne a.program a.lists ifindex queue (get_or packets n d) r t u) same one))

-- the results behind it stay
pub one_less_left : (results before : List XdpRun) (n : ℕ) (r : XdpRun) → drop n results ≡ drop n before → drop (n + 1) (set results n r) ≡ drop (n + 1) before
one_less_left results before n r same = drop-set-lt (n + 1) results n r (omega arith) ∙ drop_more_same results before n same
