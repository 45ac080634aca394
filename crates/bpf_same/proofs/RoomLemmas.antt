-- Rooms: what lies between their ends, and what a step leaves of them.
use Rattle.std.proofs.Common.{ℕ, ◌+◌, ◌-◌, ◌%◌, ◌^◌, ◌≡◌, ◌<◌, ◌≤◌, refl, sym, ap, ◌∙◌, subst, arith, ℤ, Option, None, Some, Bool, true, false, nat_lt}
use Rattle.std.specs.Prelude.{nat_le, IfSome}
use Rattle.std.proofs.lemmas.Bool.Decides.{nat_tests}
use Rattle.bpf_insn.specs.Register.{number}
use Rattle.bpf_insn.specs.Conditions.{relation}
use Rattle.bpf_insn.specs.declared.condition.Condition.{Condition}
use Rattle.bpf_insn.specs.declared.condition.Condition.TheVariants.{LessOrEqual, Less, GreaterOrEqual, Greater}
use Rattle.bpf_insn.specs.declared.register.Register.{Register}
use Rattle.bpf_insn.specs.declared.operand.Operand.{Operand}
use Rattle.bpf_insn.specs.declared.operand.Operand.TheVariants as operands
use Rattle.bpf_insn.specs.declared.insn.Insn.{Insn}
use Rattle.bpf_insn.specs.declared.insn.Insn.TheVariants.{Jump}
use Rattle.bpf_note.specs.declared.val.Val.TheVariants.{Pkt, PktEnd}
use Rattle.bpf_flow.proofs.JumpLemmas.{met_is}
use Rattle.bpf_same.specs.declared.address.Order.{Order}
use Rattle.bpf_note.specs.State.{packet_start}
use Rattle.bpf_note.specs.Facts.{Facts}
use Rattle.bpf_same.specs.declared.linear_form.LinearForm.{LinearForm}
use Rattle.bpf_same.specs.declared.relation.Relation.{Relation}
use Rattle.bpf_same.specs.declared.room.Room.{Room}
use Rattle.bpf_same.specs.LinearForms.{plus, gathered, total, first_form, last_form, IsAddress, IsRoom, Hold}
use Rattle.bpf_same.specs.Ranges.{IsLeastLength}
use Rattle.bpf_same.specs.Stepped.{alters, IsNewAfter, IsPulledBack, IsAddressAfter, IsOrder, IsOrderOf, IsBelowEnd, IsDistance, IsComparedAddress, PreservesAddress, PreservesRoom}
use Rattle.bpf_same.proofs.LinearFormLemmas.{apart, total_small, gathered_none}

pub some_same : {A : Type 0} {x y : A} → Some x ≡ Some y → x ≡ y
some_same e = cc

-- a test of two numbers
pub passed : (x y : ℕ) → nat_le x y ≡ true → x ≤ y
passed x y t = grind (arith, nat_tests)

-- a form is as far behind the first address as its constant
behind_first : (f : ℕ → Option ℕ) (r : Room) (s : LinearForm) (d : ℕ) → s.terms ≡ r.terms → s.constant < 2 ^ 64 → r.first < 2 ^ 64 → d ≡ (s.constant + (2 ^ 64 - r.first)) % 2 ^ 64 → (a : IsAddress f (total f (first_form r))) → total f s ≡ Some ((a.x + d) % 2 ^ 64)
behind_first f r s d same p q e a = apart f s (first_form r) d same p q e ∙ ap (λ (o : Option ℕ). plus o (Some d)) a.is

-- what is added to the first address doesn't wrap
no_wrap : (x y w : ℕ) → x < 2 ^ 64 → w ≤ 65535 → y ≡ (x + w) % 2 ^ 64 → packet_start ≤ y → y ≡ x + w
no_wrap x y w fits short e from = omega (arith, fits, short, e, from)

-- the last address lies as far behind the first as the room is long
pub last_is : (f : ℕ → Option ℕ) (r : Room) (w : ℕ) → r.first < 2 ^ 64 → r.last < 2 ^ 64 → w ≡ (r.last + (2 ^ 64 - r.first)) % 2 ^ 64 → w ≤ 65535 → (room : IsRoom f r) → room.last.x ≡ room.first.x + w
last_is f r w p q e short room =
    let there : Some room.last.x ≡ Some ((room.first.x + w) % 2 ^ 64) = sym room.last.is ∙ behind_first f r (last_form r) w refl q p e room.first in
    no_wrap room.first.x room.last.x w (total_small f (first_form r) room.first.x room.first.is) short (some_same there) room.last.from

-- what lies between both ends lies in the packet
pub lies_between : (f : ℕ → Option ℕ) (r : Room) (s : LinearForm) (w d : ℕ) → r.terms ≡ s.terms → r.first < 2 ^ 64 → r.last < 2 ^ 64 → s.constant < 2 ^ 64 → w ≡ (r.last + (2 ^ 64 - r.first)) % 2 ^ 64 → w ≤ 65535 →
    d ≡ (s.constant + (2 ^ 64 - r.first)) % 2 ^ 64 → d ≤ w → IsRoom f r → IsAddress f (total f s)
lies_between f r s w d same p q t e short at less room =
    let last : room.last.x ≡ room.first.x + w = last_is f r w p q e short room in
    let fits : room.last.x < 2 ^ 64 = total_small f (last_form r) room.last.x room.last.is in
    let is : (room.first.x + d) % 2 ^ 64 ≡ room.first.x + d = whole (room.first.x + d) (omega (arith, last, fits, less)) in
    let from = room.first.from in
    let to = room.last.to in
    record {
      x = room.first.x + d;
      stop = room.last.stop;
      is = behind_first f r s d (sym same) t p at room.first ∙ ap Some is;
      packet_end = room.last.packet_end;
      from = omega (arith, from);
      to = omega (arith, last, less, to);
    }
  where
    whole : (x : ℕ) → x < 2 ^ 64 → x % 2 ^ 64 ≡ x
    whole x l = omega (arith, l)

-- what is an address before a step is one after it
pub still_address : (i : Insn) (stutters : Bool) (low : ℕ) (m : Facts) (e : Relation) (s : LinearForm) → ((f g : ℕ → Option ℕ) → Hold e f g → IsAddress f (total f s)) → IsAddressAfter i stutters low m e s
still_address i stutters low m e s before = λ f g f' g' t h.
    let a = before f g h in
    record { x = a.x; stop = a.stop; is = a.is; packet_end = t.packet ∙ a.packet_end; from = a.from; to = a.to }

-- x lies by - off behind an address of which this many bytes lie in the packet
within : (x by off safe stop n : ℕ) → packet_start + off ≤ x → x + safe ≤ stop + off → stop < 2 ^ 64 → by < 2 ^ 64 → n ≡ (by + off) % 2 ^ 64 → n ≤ safe → safe ≤ 65535 → off ≤ 65535 → (x + by) % 2 ^ 64 ≡ x + n - off
within x by off safe stop n from to fits small e l short near = omega (arith, from, to, fits, small, e, l, short, near)

pub noted_address : (i : Insn) (stutters : Bool) (low : ℕ) (m : Facts) (e : Relation) (here there : LinearForm) (k id off safe by n : ℕ) → k < 11 → m.reg k ≡ Pkt id off → off ≤ 65535 → m.safe id ≡ Some safe → safe ≤ 65535 →
    IsNewAfter i stutters low m e k there → there.terms ≡ here.terms → here.constant < 2 ^ 64 → there.constant < 2 ^ 64 → by ≡ (here.constant + (2 ^ 64 - there.constant)) % 2 ^ 64 → n ≡ (by + off) % 2 ^ 64 → n ≤ safe → IsAddressAfter i stutters low m e here
noted_address i stutters low m e here there k id off safe by n small v near known short after same p q at from_base l = λ f g f' g' t h.
    let a = t.addresses k id off safe v known small in
    let fits : a.stop < 2 ^ 64 = t.fits 64 a.stop a.packet_end in
    let from = a.from in
    let to = a.to in
    let first : total f there ≡ Some a.x = sym (after f g f' g' t h) ∙ a.is in
    let is : total f here ≡ Some ((a.x + by) % 2 ^ 64) = apart f here there by (sym same) p q at ∙ ap (λ (o : Option ℕ). plus o (Some by)) first in
    record {
      x = a.x + n - off;
      stop = a.stop;
      is = is ∙ ap Some (within a.x by off safe a.stop n from to fits (omega (arith, at)) from_base l short near);
      packet_end = a.packet_end;
      from = omega (arith, from);
      to = omega (arith, from, to, l);
    }

constant_is : (f : ℕ → Option ℕ) (s : LinearForm) → s.terms ≡ 0 → s.constant < 2 ^ 64 → total f s ≡ Some s.constant
constant_is f s none l = ap (λ (mask : ℕ). plus (Some s.constant) (gathered f mask 64)) none ∙ (ap (plus (Some s.constant)) (gathered_none f 64) ∙ ap Some (omega (arith, l)))

pub number_address : (i : Insn) (stutters : Bool) (low : ℕ) (m : Facts) (e : Relation) (here : LinearForm) (least d : ℕ) → here.terms ≡ 0 → here.constant < 2 ^ 64 → IsLeastLength m least → d ≡ (here.constant + (2 ^ 64 - packet_start)) % 2 ^ 64 → d ≤ least →
    IsAddressAfter i stutters low m e here
number_address i stutters low m e here least d none p long at less = λ f g f' g' t h.
    let l = t.long least long in
    let fits : l.stop < 2 ^ 64 = t.fits 64 l.stop l.packet_end in
    let to = l.reach in
    record {
      x = here.constant;
      stop = l.stop;
      is = constant_is f here none p;
      packet_end = l.packet_end;
      from = omega (arith, p, at, less, to, fits);
      to = omega (arith, p, at, less, to, fits);
    }

-- a number up to which a jump compares
pub reached_address : (i : Insn) (stutters : Bool) (low : ℕ) (m : Facts) (e : Relation) (here : LinearForm) (k distance by d : ℕ) → IsComparedAddress i stutters low m e k distance by → here.terms ≡ 0 → here.constant < 2 ^ 64 → d ≡ (here.constant + (2 ^ 64 - packet_start)) % 2 ^ 64 → d ≤ distance →
    IsAddressAfter i stutters low m e here
reached_address i stutters low m e here k distance by d compared none p at less = λ f g f' g' t h.
    let a = compared f g f' g' t h in
    let fits : a.stop < 2 ^ 64 = t.fits 64 a.stop a.packet_end in
    let from = a.from in
    let to = a.to in
    record {
      x = here.constant;
      stop = a.stop;
      is = constant_is f here none p;
      packet_end = a.packet_end;
      from = omega (arith, p, at, less, from, to, fits);
      to = omega (arith, p, at, less, from, to, fits);
    }

-- a form after the step, by what it was before
pub preserves_address : (i : Insn) (stutters : Bool) (low : ℕ) (m : Facts) (e : Relation) (there here : LinearForm) → IsPulledBack i stutters low m e there here → IsAddressAfter i stutters low m e here → PreservesAddress i stutters low m e there
preserves_address i stutters low m e there here back address = λ f g f' g' t h. subst (λ (o : Option ℕ). IsAddress f' o) (sym (back f g f' g' t h)) (address f g f' g' t h)

pub preserves_room : (i : Insn) (stutters : Bool) (low : ℕ) (m : Facts) (e : Relation) (room : Room) → PreservesAddress i stutters low m e (first_form room) → PreservesAddress i stutters low m e (last_form room) → PreservesRoom i stutters low m e room
preserves_room i stutters low m e room first last = λ f g f' g' t h. record { first = first f g f' g' t h; last = last f g f' g' t h }

-- what a jump that is taken says of two registers
pub order_of_jump : (i : Insn) (cond : Condition) (dst src : Register) (off : ℤ) (l g by : ℕ) → i ≡ Jump cond true dst (operands.Register src) off → IsOrder cond (number dst) (number src) l g by → IsOrderOf i l g by
order_of_jump i cond dst src off l g by is order = λ f words taken.
    let k = taken cond true dst (operands.Register src) off is in
    order f k.x k.y k.first k.second (sym (met_is cond k.x k.y (words (number dst) k.x k.first) (words (number src) k.y k.second)) ∙ k.met)

pub order_between_if : (cond : Condition) (dst register : Register) (src : Operand) (off : ℤ) (o : Option Order) (n m : ℕ) → src ≡ operands.Register register → n ≡ number dst → m ≡ number register →
    IfSome o (λ o. IsOrder cond n m o.lesser o.greater o.by) → IfSome o (λ o. IsOrderOf (Jump cond true dst src off) o.lesser o.greater o.by)
order_between_if cond dst register src off None n m is a b order = tt
order_between_if cond dst register src off (Some o) n m is a b order =
    order_of_jump (Jump cond true dst src off) cond dst register off o.lesser o.greater o.by (ap (λ (s : Operand). Jump cond true dst s off) is)
    (subst (λ (n : ℕ). IsOrder cond n (number register) o.lesser o.greater o.by) a (subst (λ (m : ℕ). IsOrder cond n m o.lesser o.greater o.by) b order))

pub order_if : (i : Insn) (cond : Condition) (wide : Bool) (dst : Register) (src : Operand) (off : ℤ) (o : Option Order) → i ≡ Jump cond wide dst src off → wide ≡ true → IfSome o (λ o. IsOrderOf (Jump cond true dst src off) o.lesser o.greater o.by) →
    IfSome o (λ o. IsOrderOf i o.lesser o.greater o.by)
order_if i cond wide dst src off o is e order = subst (λ (i : Insn). IfSome o (λ o. IsOrderOf i o.lesser o.greater o.by)) (sym (is ∙ ap (λ (w : Bool). Jump cond w dst src off) e)) order

pub at_most : (cond : Condition) (dst src : ℕ) → cond ≡ LessOrEqual → IsOrder cond dst src dst src 0
at_most cond dst src e = λ f x y a b h. let r : nat_le x y ≡ true = ap (λ (c : Condition). relation c (2 ^ 64) x y) (sym e) ∙ h in record { x = x; y = y; lesser = a; greater = b; least = grind (arith, nat_tests) }

pub less : (cond : Condition) (dst src : ℕ) → cond ≡ Less → IsOrder cond dst src dst src 1
less cond dst src e = λ f x y a b h. let r : nat_lt x y ≡ true = ap (λ (c : Condition). relation c (2 ^ 64) x y) (sym e) ∙ h in record { x = x; y = y; lesser = a; greater = b; least = grind (arith, nat_tests) }

pub at_least : (cond : Condition) (dst src : ℕ) → cond ≡ GreaterOrEqual → IsOrder cond dst src src dst 0
at_least cond dst src e = λ f x y a b h. let r : nat_le y x ≡ true = ap (λ (c : Condition). relation c (2 ^ 64) x y) (sym e) ∙ h in record { x = y; y = x; lesser = b; greater = a; least = grind (arith, nat_tests) }

pub greater : (cond : Condition) (dst src : ℕ) → cond ≡ Greater → IsOrder cond dst src src dst 1
greater cond dst src e = λ f x y a b h. let r : nat_lt y x ≡ true = ap (λ (c : Condition). relation c (2 ^ 64) x y) (sym e) ∙ h in record { x = y; y = x; lesser = b; greater = a; least = grind (arith, nat_tests) }

-- a register in a room, or that is the packet's end, is at most that
pub below_room : (i : Insn) (stutters : Bool) (low : ℕ) (m : Facts) (e : Relation) (k : ℕ) (s : LinearForm) → ((f g : ℕ → Option ℕ) → Hold e f g → f k ≡ total f s) → ((f g : ℕ → Option ℕ) → Hold e f g → IsAddress f (total f s)) → IsBelowEnd i stutters low m e k
below_room i stutters low m e k s form address = λ f g f' g' t h. let a = address f g h in record { y = a.x; stop = a.stop; is = form f g h ∙ a.is; packet_end = t.packet ∙ a.packet_end; below = a.to }

pub below_end : (i : Insn) (stutters : Bool) (low : ℕ) (m : Facts) (e : Relation) (k : ℕ) → k < 11 → alters i k ≡ false → m.reg k ≡ PktEnd → IsBelowEnd i stutters low m e k
below_end i stutters low m e k small left v = λ f g f' g' t h.
    let l = t.long 0 (λ s d. omega arith) in
    record { y = l.stop; stop = l.stop; is = sym (t.kept k small left) ∙ (t.ends k v small ∙ l.packet_end); packet_end = l.packet_end; below = omega arith }

-- a register that is at most one that is at most the packet's end
pub inside_by : (i : Insn) (stutters : Bool) (low : ℕ) (m : Facts) (e : Relation) (l j distance by : ℕ) → IsOrderOf i l j by → IsBelowEnd i stutters low m e j → IsDistance i stutters low m e l distance → IsComparedAddress i stutters low m e l distance by
inside_by i stutters low m e l j distance by order below far = λ f g f' g' t h.
    let o = order f h.words t.met in
    let b = below f g f' g' t h in
    let d = far f g f' g' t h in
    let y : o.y ≡ b.y = some_same (sym o.greater ∙ b.is) in
    let x : o.x ≡ d.x = some_same (sym o.lesser ∙ d.is) in
    let least = o.least in
    let from = d.from in
    let to = b.below in
    record { x = o.x; stop = b.stop; is = o.lesser; packet_end = b.packet_end; from = omega (arith, x, from); to = omega (arith, y, least, to) }

-- a form that lies as far in front of such an address
in_front : (x by distance stop behind p q : ℕ) → p < 2 ^ 64 → q < 2 ^ 64 → behind ≡ ((p + by) % 2 ^ 64 + (2 ^ 64 - q)) % 2 ^ 64 → behind ≤ distance → packet_start + distance ≤ x → x + by ≤ stop → stop < 2 ^ 64 →
    (x + (q + (2 ^ 64 - p)) % 2 ^ 64) % 2 ^ 64 ≡ x + by - behind
in_front x by distance stop behind p q a b e l from to fits = omega (arith, a, b, e, l, from, to, fits)

pub compared_address : (i : Insn) (stutters : Bool) (low : ℕ) (m : Facts) (e : Relation) (k distance by last behind : ℕ) (here there : LinearForm) → IsComparedAddress i stutters low m e k distance by → ((f g : ℕ → Option ℕ) → Hold e f g → f k ≡ total f there) →
    there.terms ≡ here.terms → there.constant < 2 ^ 64 → here.constant < 2 ^ 64 → last ≡ (there.constant + by) % 2 ^ 64 → behind ≡ (last + (2 ^ 64 - here.constant)) % 2 ^ 64 → behind ≤ distance → IsAddressAfter i stutters low m e here
compared_address i stutters low m e k distance by last behind here there inside form same p q reach at l = λ f g f' g' t h.
    let a = inside f g f' g' t h in
    let fits : a.stop < 2 ^ 64 = t.fits 64 a.stop a.packet_end in
    let first : total f there ≡ Some a.x = sym (form f g h) ∙ a.is in
    let d = (here.constant + (2 ^ 64 - there.constant)) % 2 ^ 64 in
    let is : total f here ≡ Some ((a.x + d) % 2 ^ 64) = apart f here there d (sym same) q p refl ∙ ap (λ (o : Option ℕ). plus o (Some d)) first in
    let from = a.from in
    let to = a.to in
    let at_end : behind ≡ ((there.constant + by) % 2 ^ 64 + (2 ^ 64 - here.constant)) % 2 ^ 64 = at ∙ ap (λ (n : ℕ). (n + (2 ^ 64 - here.constant)) % 2 ^ 64) reach in
    record {
      x = a.x + by - behind;
      stop = a.stop;
      is = is ∙ ap Some (in_front a.x by distance a.stop behind there.constant here.constant p q at_end l from to fits);
      packet_end = a.packet_end;
      from = omega (arith, from, l);
      to = omega (arith, from, to, l);
    }
