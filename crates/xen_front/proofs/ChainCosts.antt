-- What a chain of responses costs: the words of its pages, its slots, and an extra.
use Rattle.std.proofs.Common.{◌≡◌, ℕ, zero, suc, ◌+◌, ◌-◌, ◌*◌, ◌/◌, ◌<◌, ◌≤◌, Bool, true, false, List, [], ◌∷◌, length, map, Contains, Some, None, ℤ, pos, negsuc, refl, ap, arith}
use Rattle.std.specs.Prelude.{◌==◌, ◌||◌, nat_le, if◌then◌else◌}
use Rattle.std.proofs.lemmas.Bool.Decides.{nat_tests}
use Rattle.xen_netif.specs.declared.flags.RxFlags.{RxFlags}
use Rattle.xen_netif.specs.declared.fragment.Fragment.{Fragment}
use Rattle.xen_netif.specs.declared.rx.RxRsp.{RxRsp}
use Rattle.xen_netif.specs.declared.segments.Segments.{Segments}
use Rattle.xen_steps.specs.Pages.{covered}
use Rattle.xen_front.specs.Slots.{buffer, covered_bytes, extra_of, extra_taken, in_flight, part_of, passes_page, piece_words, posted_at, segments_in}
use Rattle.xen_front.specs.Tree.{Expected, Slot, Extra, Gathered, expected}
use Rattle.xen_buffers.specs.Wired.{frame_of}
use Rattle.xen_front.specs.declared.state.FrontState.{FrontState}
use Rattle.xen_buffers.specs.declared.wiring.GrantedPage.{GrantedPage}

-- the buffer of an id is one of the list's
pub buffer_in : (buffers : List GrantedPage) (id : ℕ) → id < length buffers → Contains (map frame_of buffers) (buffer buffers id).frame
buffer_in [] id h = absurd (omega arith)
buffer_in (b ∷ buffers) zero h = (0, omega arith, refl)
buffer_in (b ∷ buffers) (suc id) h = let r = buffer_in buffers id (omega (arith, h)) in (suc r.0, omega (arith, r.1), r.2)

-- a page's words are no more than 1,024
pub piece_words-le : (len k : ℕ) → piece_words len k ≤ 1024
piece_words-le len k = by (nat_le (len - 4096 * k) 4096) refl
  where
    by : (b : Bool) → nat_le (len - 4096 * k) 4096 ≡ b → ((if b then len - 4096 * k else 4096) + 3) / 4 ≤ 1024
    by true e = let le : len - 4096 * k ≤ 4096 = grind (arith, nat_tests) in omega (arith, le)
    by false e = omega arith

-- the words that a response covers are in its page
pub covered-le : (b : GrantedPage) (r : RxRsp) → passes_page r.offset r.status ≡ false → 0 < covered (part_of b r) → r.offset / 4 + covered (part_of b r) ≤ 1024
covered-le b r h = by r.status h
  where
    part : ℤ → Fragment
    part s = record { gref = b.gref; offset = r.offset; size = covered_bytes s }

    by : (s : ℤ) → passes_page r.offset s ≡ false → 0 < covered (record { gref = b.gref; offset = r.offset; size = covered_bytes s }) → r.offset / 4 + covered (record { gref = b.gref; offset = r.offset; size = covered_bytes s }) ≤ 1024
    by (negsuc n) h c = absurd (omega (arith, c))
    by (pos n) h c = by_size (n == 0) refl
      where
        by_size : (z : Bool) → (n == 0) ≡ z → r.offset / 4 + (if z then 0 else (r.offset + n - 1) / 4 + 1 - r.offset / 4) ≤ 1024
        by_size true e = let zero : n ≡ 0 = grind (arith, nat_tests) in absurd (omega (arith, ap (λ m. covered (record { gref = b.gref; offset = r.offset; size = m })) zero, c))
        by_size false e =
            let inside : r.offset + n ≤ 4096 = grind (arith, nat_tests) in
            let some : 1 ≤ n = grind (arith, nat_tests) in
            omega (arith, inside, some)

-- 3 events for an extra, where one may come
abbrev pub room : ℕ → ℕ
room slots = if slots == 0 then 3 else 0

abbrev pub extra_cost : Expected → ℕ → ℕ
extra_cost Slot slots = room slots
extra_cost (Extra more) slots = 3

-- and 1,027 for each slot
abbrev pub cost : Gathered → ℕ
cost g = 1027 * (16 - g.slots) + extra_cost g.next g.slots

pub room_gone : (slots : ℕ) → 1 ≤ slots → room slots ≡ 0
room_gone slots h = let e : (slots == 0) ≡ false = grind (arith, nat_tests) in ap (λ t. if t then 3 else 0) e

pub cost_next : (flags : RxFlags) (slots : ℕ) → (flags.extra_info ≡ true → slots ≡ 0) → extra_cost (expected flags) (slots + 1) ≤ room slots
cost_next flags slots h = by flags.extra_info refl
  where
    by : (t : Bool) → flags.extra_info ≡ t → extra_cost (if t then Extra flags.more_data else Slot) (slots + 1) ≤ room slots
    by false e = let z = room_gone (slots + 1) (omega arith) in omega (arith, z)
    by true e = let z : room slots ≡ 3 = ap room (h e) in omega (arith, z)

-- an extra that is taken lies in the entry of a request in flight
pub extra_flies : (s : FrontState) (a b : ℕ) (x : Segments) → extra_taken s a b ≡ Some x → in_flight s.rx (posted_at s) ≡ true
extra_flies s a b x h = by (in_flight s.rx (posted_at s)) refl h
  where
    by : (t : Bool) → in_flight s.rx (posted_at s) ≡ t → (if t then segments_in s.accepts (extra_of a b) else None) ≡ Some x → in_flight s.rx (posted_at s) ≡ true
    by true e h = e
    by false e h = cc

-- a chain that goes on has not yet too many slots
pub goes_few : (e m : Bool) (slots : ℕ) → (m ≡ true → slots ≤ 14) → (e ≡ true → slots ≡ 0) → (e || m) ≡ true → slots ≤ 14
goes_few true m slots a b h = let z = b refl in omega (arith, z)
goes_few false m slots a b h = a h
