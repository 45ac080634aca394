-- Between which numbers registers lie.
use Rattle.std.proofs.Common.{ℕ, ◌+◌, ◌-◌, ◌%◌, ◌^◌, ◌≡◌, ◌<◌, ◌≤◌, min, max, refl, sym, ap, ◌∙◌, subst, arith, length, Option, None, Some}
use Rattle.std.specs.Prelude.{IfSome}
use Rattle.bpf_note.specs.declared.val.Val.{Val}
use Rattle.bpf_note.specs.declared.val.Val.TheVariants.{Num, Pkt, PktEnd}
use Rattle.bpf_note.specs.State.{State, packet_start}
use Rattle.bpf_note.specs.Facts.{Facts, packet_id}
use Rattle.bpf_note.specs.Describes.{Describes, Reads, meaning}
use Rattle.bpf_flow.proofs.RegisterLemmas.{is_set_reads}
use Rattle.bpf_same.specs.declared.range.Range.{Range}
use Rattle.bpf_same.specs.declared.linear_form.LinearForm.{LinearForm}
use Rattle.bpf_same.specs.declared.relation.Relation.{Relation}
use Rattle.bpf_same.specs.declared.room.Room.{Room}
use Rattle.bpf_same.specs.LinearForms.{held, plus, total, first_form, IsRoom, Hold}
use Rattle.bpf_same.specs.Ranges.{Lies, IsRead, IsFarthest, IsLeastLength, IsMoved, IsSpan}
use Rattle.bpf_same.proofs.LinearFormLemmas.{apart}
use Rattle.bpf_same.proofs.StepLemmas.{held_register, held_end}
use Rattle.bpf_same.proofs.RoomLemmas.{last_is}

pub far_top : (n : Facts) (id far : ℕ) → far ≡ n.top id → IsFarthest n id far
far_top n id far e = λ s d. subst (λ (t : ℕ). d.base id ≤ t) (sym e) (d.tops id)

pub far_safe : (n : Facts) (id far safe : ℕ) → n.safe id ≡ Some safe → far ≡ min (n.top id) (65535 - safe) → IsFarthest n id far
far_safe n id far safe k e = λ s d. let top = d.tops id in let inside = d.safes id safe k in let size = d.state.packet_size in omega (arith, e, top, inside, size)

pub no_length : (n : Facts) (least : ℕ) → least ≡ 0 → IsLeastLength n least
no_length n least e = λ s d. omega (arith, e)

pub safe_length : (n : Facts) (safe : ℕ) → n.safe packet_id ≡ Some safe → IsLeastLength n safe
safe_length n safe k = λ s d. let inside = d.safes packet_id safe k in let start = d.start in omega (arith, inside)

pub number_reads : (n : Facts) (v : Val) (low high : ℕ) → v ≡ Num low high → IsRead n v low high
number_reads n v low high e = λ s d o r.
    let w = meaning s d.base d.address in
    let q = is_set_reads w (Num low high) o refl (subst (λ (v : Val). Reads w v o) e r) in
    record { x = q.0; is = q.1; least = q.2.0; most = q.2.1 }

pub end_reads : (n : Facts) (v : Val) (least low high : ℕ) → v ≡ PktEnd → IsLeastLength n least → low ≡ packet_start + least → high ≡ packet_start + 65535 → IsRead n v low high
end_reads n v least low high e length a b = λ s d o r.
    let w = meaning s d.base d.address in
    let q = is_set_reads w PktEnd o refl (subst (λ (v : Val). Reads w v o) e r) in
    let short = length s d in
    let size = d.state.packet_size in
    record { x = q.0; is = q.1; least = omega (arith, q.2, a, short); most = omega (arith, q.2, b, size) }

pub packet_reads : (n : Facts) (v : Val) (id off far low high : ℕ) → v ≡ Pkt id off → IsFarthest n id far → low ≡ packet_start + off → high ≡ packet_start + far + off → IsRead n v low high
packet_reads n v id off far low high e most a b = λ s d o r.
    let w = meaning s d.base d.address in
    let q = is_set_reads w (Pkt id off) o refl (subst (λ (v : Val). Reads w v o) e r) in
    let base = most s d in
    record { x = q.0; is = q.1; least = omega (arith, q.2.0, a); most = omega (arith, q.2.0, b, base) }

-- what is in a row before it is moved is so after it, if it doesn't wrap between
pub moves : (from to by low high : ℕ) → to < 2 ^ 64 → by < 2 ^ 64 → low ≡ (from + by) % 2 ^ 64 → high ≡ (to + by) % 2 ^ 64 → low ≤ high → IsMoved from to by low high
moves from to by low high fits small a b row = λ o r.
    let after : plus o (Some by) ≡ Some ((r.x + by) % 2 ^ 64) = ap (λ (o : Option ℕ). plus o (Some by)) r.is in
    record { x = (r.x + by) % 2 ^ 64; is = after; least = omega (arith, fits, small, a, b, row, r.least, r.most); most = omega (arith, fits, small, a, b, row, r.least, r.most) }

pub both_lie : (o : Option ℕ) (low high least most : ℕ) → Lies o low high → Lies o least most → Lies o (max low least) (min high most)
both_lie o low high least most a b =
    let same : b.x ≡ a.x = some_same (sym b.is ∙ a.is) in
    record { x = a.x; is = a.is; least = omega (arith, same, a.least, b.least); most = omega (arith, same, a.most, b.most) }
  where
    some_same : {x y : ℕ} → Some x ≡ Some y → x ≡ y
    some_same e = cc

-- a register that holds as much as another one but for a constant
pub moved_span : (n : Facts) (e : Relation) (k j from to by low high : ℕ) (here there : LinearForm) → k < 11 → j < 11 → ((f g : ℕ → Option ℕ) → Hold e f g → f k ≡ total f here) → ((f g : ℕ → Option ℕ) → Hold e f g → f j ≡ total f there) →
    here.terms ≡ there.terms → here.constant < 2 ^ 64 → there.constant < 2 ^ 64 → by ≡ (here.constant + (2 ^ 64 - there.constant)) % 2 ^ 64 → IsRead n (n.reg j) from to → IsMoved from to by low high → IsSpan n e k low high
moved_span n e k j from to by low high here there small fits a b same p q at read moved = λ s g d h.
    let first : s.reg k ≡ total (held s) here = sym (held_register s k small) ∙ a (held s) g h in
    let second : s.reg j ≡ total (held s) there = sym (held_register s j fits) ∙ b (held s) g h in
    let both : s.reg k ≡ plus (s.reg j) (Some by) = first ∙ (apart (held s) here there by same p q at ∙ ap (λ (o : Option ℕ). plus o (Some by)) (sym second)) in
    subst (λ (o : Option ℕ). Lies o low high) (sym both) (moved (s.reg j) (read s d (s.reg j) (d.regs j)))

pub read_span : (n : Facts) (e : Relation) (k low high : ℕ) → IsRead n (n.reg k) low high → IsSpan n e k low high
read_span n e k low high r = λ s g d h. r s d (s.reg k) (d.regs k)

pub moved_span_if : (n : Facts) (e : Relation) (k j from to by : ℕ) (here there : LinearForm) (v : Val) (o : Option Range) → k < 11 → j < 11 → ((f g : ℕ → Option ℕ) → Hold e f g → f k ≡ total f here) → ((f g : ℕ → Option ℕ) → Hold e f g → f j ≡ total f there) →
    here.terms ≡ there.terms → here.constant < 2 ^ 64 → there.constant < 2 ^ 64 → by ≡ (here.constant + (2 ^ 64 - there.constant)) % 2 ^ 64 → v ≡ n.reg j → IsRead n v from to →
    IfSome o (λ r. IsMoved from to by r.low r.high) → IfSome o (λ r. IsSpan n e k r.low r.high)
moved_span_if n e k j from to by here there v None small fits a b same p q at is read moved = tt
moved_span_if n e k j from to by here there v (Some r) small fits a b same p q at is read moved =
    moved_span n e k j from to by r.low r.high here there small fits a b same p q at (subst (λ (v : Val). IsRead n v from to) is read) moved

pub read_span_if : (n : Facts) (e : Relation) (k : ℕ) (v : Val) (o : Option Range) → v ≡ n.reg k → IfSome o (λ r. IsRead n v r.low r.high) → IfSome o (λ r. IsSpan n e k r.low r.high)
read_span_if n e k v None is read = tt
read_span_if n e k v (Some r) is read = read_span n e k r.low r.high (subst (λ (v : Val). IsRead n v r.low r.high) is read)

-- what lies in a row and in another one lies in what is in both
pub in_both_span : (n : Facts) (e : Relation) (k : ℕ) (o : Option Range) (r both : Range) → IfSome o (λ r. IsSpan n e k r.low r.high) → IsSpan n e k r.low r.high →
    ((x : Option ℕ) → IfSome o (λ r. Lies x r.low r.high) → Lies x r.low r.high → Lies x both.low both.high) → IsSpan n e k both.low both.high
in_both_span n e k None r both first second h = λ s g d hold. h (s.reg k) tt (second s g d hold)
in_both_span n e k (Some q) r both first second h = λ s g d hold. h (s.reg k) (first s g d hold) (second s g d hold)

-- a register that differs by a constant from the first address of a room
first_lies : (n : Facts) (s : State) (room : Room) (w : ℕ) → Describes n s → IsRoom (held s) room → room.first < 2 ^ 64 → room.last < 2 ^ 64 → w ≡ (room.last + (2 ^ 64 - room.first)) % 2 ^ 64 → w ≤ 65535 →
    Lies (total (held s) (first_form room)) packet_start (packet_start + 65535 - w)
first_lies n s room w d r p q e short =
    let l = last_is (held s) room w p q e short r in
    let same : Some r.last.stop ≡ Some (packet_start + length s.packet) = sym r.last.packet_end ∙ held_end s in
    let stop : r.last.stop ≡ packet_start + length s.packet = cc in
    let size = d.state.packet_size in
    let to = r.last.to in
    record { x = r.first.x; is = r.first.is; least = r.first.from; most = omega (arith, l, stop, size, to) }

pub room_span : (e : Relation) (k : ℕ) (here : LinearForm) (room : Room) (w by low high : ℕ) → k < 11 → ((f g : ℕ → Option ℕ) → Hold e f g → f k ≡ total f here) → ((f g : ℕ → Option ℕ) → Hold e f g → IsRoom f room) →
    here.terms ≡ room.terms → here.constant < 2 ^ 64 → room.first < 2 ^ 64 → room.last < 2 ^ 64 → w ≡ (room.last + (2 ^ 64 - room.first)) % 2 ^ 64 → w ≤ 65535 → by ≡ (here.constant + (2 ^ 64 - room.first)) % 2 ^ 64 →
    IsMoved packet_start (packet_start + 65535 - w) by low high → (n : Facts) → IsSpan n e k low high
room_span e k here room w by low high small a holds same p q t length short at moved n = λ s g d h.
    let first : s.reg k ≡ total (held s) here = sym (held_register s k small) ∙ a (held s) g h in
    let both : s.reg k ≡ plus (total (held s) (first_form room)) (Some by) = first ∙ apart (held s) here (first_form room) by same p q at in
    subst (λ (o : Option ℕ). Lies o low high) (sym both) (moved (total (held s) (first_form room)) (first_lies n s room w d (holds (held s) g h) q t length short))

pub room_span_if : (e : Relation) (k : ℕ) (here : LinearForm) (room : Room) (w by : ℕ) (o : Option Range) → k < 11 → ((f g : ℕ → Option ℕ) → Hold e f g → f k ≡ total f here) → ((f g : ℕ → Option ℕ) → Hold e f g → IsRoom f room) →
    here.terms ≡ room.terms → here.constant < 2 ^ 64 → room.first < 2 ^ 64 → room.last < 2 ^ 64 → w ≡ (room.last + (2 ^ 64 - room.first)) % 2 ^ 64 → w ≤ 65535 → by ≡ (here.constant + (2 ^ 64 - room.first)) % 2 ^ 64 →
    IfSome o (λ r. IsMoved packet_start (packet_start + 65535 - w) by r.low r.high) → IfSome o (λ r. (n : Facts) → IsSpan n e k r.low r.high)
room_span_if e k here room w by None small a holds same p q t length short at moved = tt
room_span_if e k here room w by (Some r) small a holds same p q t length short at moved = room_span e k here room w by r.low r.high small a holds same p q t length short at moved
