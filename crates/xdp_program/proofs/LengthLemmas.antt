-- A run leaves the packet's length.
use Rattle.std.proofs.Common.{◌≡◌, ℕ, ◌<◌, ◌≤◌, ◌%◌, ◌^◌, List, length, refl, subst, None}
use Rattle.std.specs.Prelude.{Option, slice_index}
use Rattle.bpf_lists.specs.Find.{find_in}
use Rattle.bpf_lists.specs.declared.list.MapList.{MapList}
use Rattle.bpf_note.specs.State.{State, IsState, IsStart}
use Rattle.bpf_note.specs.declared.op.Op.{Op}
use Rattle.bpf_verify.specs.Consistent.{Accepted, IsConsistent}
use Rattle.bpf_vm.proofs.CounterLemmas.{walk_length}
use Rattle.bpf_vm.proofs.RunLemmas.{start_of, start_is_state}
use Rattle.bpf_vm.specs.Run.{Walk}
use Rattle.bpf_vm.specs.Running.{FindsAlike}
use Rattle.xdp_program.specs.Ran.{Ran, RanCounting}

-- nothing is set
abbrev blank : Accepted → List (Option MapList) → List ℕ → ℕ → ℕ → State
blank p lists packet ifindex queue = record { pc = 0; reg = λ k. None; stack = λ i. None; packet = packet; ifindex = ifindex; queue = queue; shapes = p.shapes; find = find_in lists }

blank_is : (p : Accepted) → IsConsistent p → (lists : List (Option MapList)) (packet : List ℕ) (ifindex queue : ℕ) → ((i : ℕ) → slice_index packet i < 256) → length packet ≤ 65535 → ifindex < 2 ^ 32 → queue < 2 ^ 32 → IsState (blank p lists packet ifindex queue)
blank_is p k lists packet ifindex queue bytes short i q = record {
  words = λ r x e. cc;
  registers = λ r g. refl;
  stack_bytes = λ r b e. cc;
  stack_size = λ r g. refl;
  packet_bytes = bytes;
  packet_size = short;
  ifindex_fits = i;
  queue_fits = q;
  maps = k.few_maps;
  shapes = k.maps;
}

pub walks_length : (p : Accepted) → IsConsistent p → (lists : List (Option MapList)) (packet : List ℕ) (ifindex queue number : ℕ) (bytes : List ℕ) (labels : List (Option Op)) → ((i : ℕ) → slice_index packet i < 256) → {n : ℕ} → n ≡ length packet → n ≤ 65535 → ifindex < 2 ^ 32 → queue < 2 ^ 32 →
    ((s : State) → IsStart s → s.packet ≡ packet → s.ifindex ≡ ifindex → s.queue ≡ queue → s.shapes ≡ p.shapes → FindsAlike s.shapes s.find (find_in lists) → (r0 : ℕ) × (number ≡ r0 % 2 ^ 32) × Walk p.code r0 bytes s labels) → length bytes ≡ length packet
walks_length p k lists packet ifindex queue number bytes labels all same short i q walks =
    let u = blank p lists packet ifindex queue in
    let is : IsStart (start_of u) = record { state = start_is_state u (blank_is p k lists packet ifindex queue all (subst (λ (n : ℕ). n ≤ 65535) same short) i q); pc = refl; reg = λ r. refl; stack = λ r. refl } in
    let w = walks (start_of u) is refl refl refl refl (λ m shape key e k. refl) in
    walk_length p.code w.0 bytes (start_of u) labels w.2

pub counting_length : (went : List (Option Op) → Type 0) (p : Accepted) → IsConsistent p → (lists : List (Option MapList)) (packet : List ℕ) (ifindex queue number : ℕ) (bytes : List ℕ) (count ops : ℕ) → ((i : ℕ) → slice_index packet i < 256) → {n : ℕ} → n ≡ length packet → n ≤ 65535 → ifindex < 2 ^ 32 → queue < 2 ^ 32 →
    RanCounting went p lists packet ifindex queue number bytes count ops → length bytes ≡ length packet
counting_length went p k lists packet ifindex queue number bytes count ops all same short i q ran = walks_length p k lists packet ifindex queue number bytes ran.labels all same short i q ran.walks

pub ran_length : (p : Accepted) → IsConsistent p → (lists : List (Option MapList)) (packet : List ℕ) (ifindex queue : ℕ) (before : List ℕ) (number : ℕ) (bytes after : List ℕ) (count : ℕ) → ((i : ℕ) → slice_index packet i < 256) → {n : ℕ} → n ≡ length packet → n ≤ 65535 → ifindex < 2 ^ 32 → queue < 2 ^ 32 →
    Ran p lists packet ifindex queue before number bytes after count → length bytes ≡ length packet
ran_length p k lists packet ifindex queue before number bytes after count all same short i q ran = walks_length p k lists packet ifindex queue number bytes ran.labels all same short i q ran.walks
