use Rattle.std.proofs.Common.{◌≡◌, ◌<◌, ℕ, Some}
use Rattle.bpf_note.specs.Parts.{facts}
use Rattle.bpf_same.specs.declared.linear_form.LinearForm.{LinearForm}
use Rattle.bpf_same.specs.declared.room.Room.{Room}
use Rattle.bpf_same.specs.declared.range.Range.{Range}
use Rattle.bpf_same.specs.LinearForms.{old_of, new_of, room_of, bound_of, shifted_of}
use Rattle.bpf_same.specs.Contents.{IsOldFound, IsNewFound}
use Rattle.bpf_same.specs.Stepped.{PreservesRoom, PreservesBound, PreservesShifted}
use Rattle.bpf_same.proofs.step.Step.preserves.Given as goal

abbrev pub invariant-loop-register : goal.invariant-loop-register
invariant-loop-register l = (k : ℕ) → k < l.register → (s : LinearForm) → old_of l.next k ≡ Some s → IsOldFound l.self.alone l.self.insn l.self.stutters l.self.low (facts l.self.after.now) l.self.before.now k s

abbrev pub invariant-loop-term : goal.invariant-loop-term
invariant-loop-term l = ((k : ℕ) → k < 11 → (s : LinearForm) → old_of l.next k ≡ Some s → IsOldFound l.self.alone l.self.insn l.self.stutters l.self.low (facts l.self.after.now) l.self.before.now k s)
    × ((n : ℕ) → n < l.term → (s : LinearForm) → new_of l.next n ≡ Some s → IsNewFound l.self.alone l.self.insn l.self.stutters l.self.low (facts l.self.after.now) l.self.before.now n s)

abbrev pub invariant-loop-number : goal.invariant-loop-number
invariant-loop-number l = ((k : ℕ) → k < 11 → (s : LinearForm) → old_of l.next k ≡ Some s → IsOldFound l.self.alone l.self.insn l.self.stutters l.self.low (facts l.self.after.now) l.self.before.now k s)
    × ((n : ℕ) → n < 64 → (s : LinearForm) → new_of l.next n ≡ Some s → IsNewFound l.self.alone l.self.insn l.self.stutters l.self.low (facts l.self.after.now) l.self.before.now n s)
    × ((r : ℕ) → r < l.number → (room : Room) → room_of l.next r ≡ Some room → PreservesRoom l.self.insn l.self.stutters l.self.low (facts l.self.after.now) l.self.before.now room)

abbrev pub invariant-loop-index : goal.invariant-loop-index
invariant-loop-index l = ((k : ℕ) → k < 11 → (s : LinearForm) → old_of l.next k ≡ Some s → IsOldFound l.self.alone l.self.insn l.self.stutters l.self.low (facts l.self.after.now) l.self.before.now k s)
    × ((n : ℕ) → n < 64 → (s : LinearForm) → new_of l.next n ≡ Some s → IsNewFound l.self.alone l.self.insn l.self.stutters l.self.low (facts l.self.after.now) l.self.before.now n s)
    × ((r : ℕ) → r < 8 → (room : Room) → room_of l.next r ≡ Some room → PreservesRoom l.self.insn l.self.stutters l.self.low (facts l.self.after.now) l.self.before.now room)
    × ((k : ℕ) → k < l.index → (r : Range) → bound_of l.next k ≡ Some r → PreservesBound l.self.insn l.self.stutters l.self.low (facts l.self.after.now) l.self.before.now k r)

abbrev pub invariant-loop-shifted : goal.invariant-loop-shifted
invariant-loop-shifted l = ((k : ℕ) → k < 11 → (s : LinearForm) → old_of l.next k ≡ Some s → IsOldFound l.self.alone l.self.insn l.self.stutters l.self.low (facts l.self.after.now) l.self.before.now k s)
    × ((n : ℕ) → n < 64 → (s : LinearForm) → new_of l.next n ≡ Some s → IsNewFound l.self.alone l.self.insn l.self.stutters l.self.low (facts l.self.after.now) l.self.before.now n s)
    × ((r : ℕ) → r < 8 → (room : Room) → room_of l.next r ≡ Some room → PreservesRoom l.self.insn l.self.stutters l.self.low (facts l.self.after.now) l.self.before.now room)
    × ((k : ℕ) → k < 11 → (r : Range) → bound_of l.next k ≡ Some r → PreservesBound l.self.insn l.self.stutters l.self.low (facts l.self.after.now) l.self.before.now k r)
    × ((k : ℕ) → k < l.shifted → (s : LinearForm) → shifted_of l.next k ≡ Some s → PreservesShifted l.self.insn l.self.stutters l.self.low (facts l.self.after.now) l.self.before.now k s)
