-- The bytes of a slot, and slots, one after another.
use Rattle.std.proofs.Common.{◌≡◌, ℕ, List, ◌+◌, ◌-◌, ◌<◌, ◌++◌, suc, refl, arith}
use Rattle.bpf_note.specs.Facts.{Facts}
use Rattle.bpf_explain.specs.Stack.{byte_text, bytes_text, slot_text, slots_text}

pub bytes_more : (n : Facts) (place end : ℕ) → place < end → bytes_text n place (end - place) ≡ byte_text (n.set place) ++ bytes_text n (place + 1) (end - (place + 1))
bytes_more n place end h =
    let one : end - place ≡ suc (end - (place + 1)) = omega (arith, h) in
    rw one refl

pub slots_more : (names : List (List ℕ)) (n : Facts) (slot end : ℕ) → slot < end → slots_text names n slot (end - slot) ≡ slot_text names n slot ++ slots_text names n (slot + 1) (end - (slot + 1))
slots_more names n slot end h =
    let one : end - slot ≡ suc (end - (slot + 1)) = omega (arith, h) in
    rw one refl
