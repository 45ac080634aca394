-- Loads.
use Rattle.std.proofs.Common.{◌≡◌, ℕ, zero, suc, ◌+◌, ◌*◌, ◌/◌, ◌%◌, ◌^◌, ◌<◌, ◌≤◌, Bool, true, false, ◌&&◌, ◌||◌, refl, Option, Some, None, List, [], ◌∷◌, length, take, drop, nat_eq, subst, sym, ap, ◌∙◌, arith, ℤ, pos, negsuc, lit<}
use Rattle.std.specs.Prelude.{if◌then◌else◌, slice_get, slice_index, IsSome, Ok, Err}
use Rattle.std.proofs.lemmas.Bool.Decides.{nat_tests}
use Rattle.bpf_insn.specs.Size.{size_bytes}
use Rattle.bpf_insn.specs.declared.size.Size.{Size}
use Rattle.bpf_insn.specs.declared.size.Size.TheVariants.{Byte, Half, Word, Double}
use Rattle.bpf_insn.specs.declared.refusal.Cause.TheVariants as cause
use Rattle.bpf_insn.specs.Extension.{extended}
use Rattle.bpf_insn.proofs.ResultLemmas.{extended_fits}
use Rattle.bpf_note.specs.declared.val.Val.{Val}
use Rattle.bpf_note.specs.declared.val.Val.TheVariants as val
use Rattle.bpf_note.specs.Bytes.{number_of, word_at, bytes_at, higher, before}
use Rattle.bpf_note.specs.Shape.{Shape}
use Rattle.bpf_note.specs.State.{State, packet_start}
use Rattle.bpf_note.specs.Regions.{Place}
use Rattle.bpf_note.specs.Regions as place
use Rattle.bpf_note.specs.Facts.{Facts, full, with_reg}
use Rattle.bpf_note.specs.Describes.{Meaning, meaning, Describes, IsReading, Holds}
use Rattle.bpf_flow.specs.Step.{Loads, Fault, need, written, with_number, is_frame, loaded, taken, load_from, field_at, part}
use Rattle.bpf_flow.specs.Edges.{Edges, goes_to}
use Rattle.bpf_flow.specs.Memory.{is_field, is_counter, all_set, any_of_size, any_loaded, kept_or_full, stack_value, field_value, is_word, is_double, loaded_value}
use Rattle.bpf_flow.specs.Sound.{Accounts}
use Rattle.bpf_flow.specs.declared.access.Access.{Access}
use Rattle.bpf_flow.specs.declared.access.Access.TheVariants.{InPacket, OnStack, InContext, AtValue}
use Rattle.bpf_flow.proofs.AnswerLemmas.{each, same_ok, same_some, unless_again}
use Rattle.bpf_flow.proofs.RegisterLemmas.{sets_sound, one_covers, with_number_describes}
use Rattle.bpf_flow.proofs.IdLemmas.{word_below, full_reads}
use Rattle.bpf_flow.proofs.ReachLemmas.{Reaches}
use Rattle.std.proofs.Math.Nat.{mod-lt}

pub power_suc : (z : ℕ) → 256 ^ suc z ≡ 256 * 256 ^ z
power_suc z = omega arith

-- a number of z bytes
number_take : (z : ℕ) (xs : List ℕ) → ((i : ℕ) → slice_index xs i < 256) → number_of (take z xs) < 256 ^ z
number_take zero xs h = omega arith
number_take (suc z) [] h = omega (arith, power_suc z, number_take z [] (λ i. lit< tt))
number_take (suc z) (x ∷ xs) h = omega (arith, power_suc z, h 0, number_take z xs (λ i. h (suc i)))

bytes_drop : (k : ℕ) (xs : List ℕ) → ((i : ℕ) → slice_index xs i < 256) → (i : ℕ) → slice_index (drop k xs) i < 256
bytes_drop zero xs h i = h i
bytes_drop (suc k) [] h i = h i
bytes_drop (suc k) (x ∷ xs) h i = bytes_drop k xs (λ j. h (suc j)) i

-- what stands at a set byte
set_byte : (o : Option ℕ) → IsSome o → (b : ℕ) × (o ≡ Some b)
set_byte None h = absurd (cc)
set_byte (Some b) h = (b, refl)

-- bytes that are set hold a number
pub all_set_word : (n : Facts) (s : State) (p z : ℕ) → Describes n s → all_set n p z ≡ true → (x : ℕ) × (word_at s.stack p z ≡ Some x)
all_set_word n s p zero d e = (0, refl)
all_set_word n s p (suc z) d e =
    let both = each (n.set p) (all_set n (p + 1) z) e in
    let b = set_byte (s.stack p) (d.set p both.0) in
    let r = all_set_word n s (p + 1) z d both.1 in
    (b.0 + 256 * r.0, ap (λ (o : Option ℕ). higher o (word_at s.stack (p + 1) z)) b.1 ∙ ap (higher (Some b.0)) r.1)

-- bytes that are set are there
pub all_set_bytes : (n : Facts) (s : State) (p z : ℕ) → Describes n s → all_set n p z ≡ true → (bs : List ℕ) × (bytes_at s.stack p z ≡ Some bs)
all_set_bytes n s p zero d e = ([], refl)
all_set_bytes n s p (suc z) d e =
    let both = each (n.set p) (all_set n (p + 1) z) e in
    let b = set_byte (s.stack p) (d.set p both.0) in
    let r = all_set_bytes n s (p + 1) z d both.1 in
    (b.0 ∷ r.0, ap (λ (o : Option ℕ). before o (bytes_at s.stack (p + 1) z)) b.1 ∙ ap (before (Some b.0)) r.1)

size_limit : (size : Size) → 256 ^ size_bytes size ≤ 2 ^ 64
size_limit Byte = omega arith
size_limit Half = omega arith
size_limit Word = omega arith
size_limit Double = omega arith

rest_below : (y n : ℕ) → 0 < n → y % n < n
rest_below y n h = mod-lt y h

-- a part of a counter has as many bytes as the load
part_fits : (size : Size) (a x : ℕ) → x < 2 ^ 64 → part size a x < 256 ^ size_bytes size
part_fits Byte a x h = rest_below (x / 256 ^ (a % 8)) (256 ^ 1) (omega arith)
part_fits Half a x h = rest_below (x / 256 ^ (a % 8)) (256 ^ 2) (omega arith)
part_fits Word a x h = rest_below (x / 256 ^ (a % 8)) (256 ^ 4) (omega arith)
part_fits Double a x h = omega (arith, h)

module _ (w : Meaning) where
  size_reads : (size : Size) (x : ℕ) → x < 256 ^ size_bytes size → IsReading w (any_of_size size) x
  size_reads Byte x h = (omega arith, omega arith)
  size_reads Half x h = (omega arith, omega arith)
  size_reads Word x h = (omega arith, omega arith)
  size_reads Double x h = (omega arith, omega arith)

  pub loaded_reads : (signed : Bool) (size : Size) (x : ℕ) → x < 256 ^ size_bytes size → IsReading w (any_loaded signed size) (taken signed size x)
  loaded_reads true size x h = full_reads w (extended size x) (extended_fits size x)
  loaded_reads false size x h = size_reads size x h

pub taken_fits : (signed : Bool) (size : Size) (x : ℕ) → x < 256 ^ size_bytes size → taken signed size x < 2 ^ 64
taken_fits true size x h = extended_fits size x
taken_fits false size x h = omega (arith, h, size_limit size)

module _ (n : Facts) (s : State) (d : Describes n s) where
  abbrev w : Meaning
  w = meaning s d.base d.address

  kept_reads : (o : Option Val) (p x : ℕ) → p % 8 ≡ 0 → word_at s.stack p 8 ≡ Some x → x < 2 ^ 64 → Holds w o s.stack (p / 8) → IsReading w (kept_or_full o) x
  kept_reads None p x whole e fits h = full_reads w x fits
  kept_reads (Some v) p x whole e fits h =
      let at : p ≡ 8 * (p / 8) = omega arith in
      let same : h.0 ≡ x = same_some h.0 x (sym h.1 ∙ (ap (λ (q : ℕ). word_at s.stack q 8) (sym at) ∙ e)) in
      subst (λ (y : ℕ). IsReading w v y) same h.2

  whole_reads : (p x : ℕ) (b : Bool) → b ≡ nat_eq (p % 8) 0 → word_at s.stack p 8 ≡ Some x → x < 2 ^ 64 → IsReading w (if b then kept_or_full (n.kept (p / 8)) else full) x
  whole_reads p x true e at fits = kept_reads (n.kept (p / 8)) p x (grind (arith, nat_tests)) at fits (d.kept (p / 8))
  whole_reads p x false e at fits = full_reads w x fits

  stack_reads : (p x : ℕ) (signed : Bool) (size : Size) → word_at s.stack p (size_bytes size) ≡ Some x → x < 256 ^ size_bytes size → IsReading w (stack_value n p signed size) (taken signed size x)
  stack_reads p x true size e h = full_reads w (extended size x) (extended_fits size x)
  stack_reads p x false Byte e h = size_reads w Byte x h
  stack_reads p x false Half e h = size_reads w Half x h
  stack_reads p x false Word e h = size_reads w Word x h
  stack_reads p x false Double e h = whole_reads p x (nat_eq (p % 8) 0) refl e (omega (arith, h))

  field_by : (four twelve sixteen : Bool) → IsReading w (if four then val.PktEnd else if twelve || sixteen then val.Num 0 0xFFFFFFFF else val.Pkt 0xFFFF 0)
      (if four then packet_start + length s.packet else if twelve then s.ifindex else if sixteen then s.queue else packet_start)
  field_by true twelve sixteen = refl
  field_by false true sixteen = (omega arith, omega (arith, d.state.ifindex_fits))
  field_by false false true = (omega arith, omega (arith, d.state.queue_fits))
  field_by false false false = (omega (arith, d.start), omega arith)

  field_fits : (four twelve sixteen : Bool) → (if four then packet_start + length s.packet else if twelve then s.ifindex else if sixteen then s.queue else packet_start) < 2 ^ 64
  field_fits true twelve sixteen = omega (arith, d.state.packet_size)
  field_fits false true sixteen = omega (arith, d.state.ifindex_fits)
  field_fits false false true = omega (arith, d.state.queue_fits)
  field_fits false false false = omega arith

  -- a number that is loaded goes to the register
  arrives : (p : Place) (signed : Bool) (size : Size) (k x : ℕ) (v : Val) (es : Edges) → k < 11 → is_frame k ≡ false → loaded s p (size_bytes size) ≡ Some x →
      taken signed size x < 2 ^ 64 → IsReading w v (taken signed size x) → goes_to (s.pc + 1) (with_reg n k v) ≡ Ok es →
      Accounts es (need (loaded s p (size_bytes size)) (λ x. written s (s.pc + 1) k (taken signed size x)))
  arrives p signed size k x v es small frame e fits r h =
      subst (λ (o : Option ℕ). Accounts es (need o (λ x. written s (s.pc + 1) k (taken signed size x)))) (sym e)
      (sets_sound n s (s.pc + 1) k (taken signed size x) v es d small fits r (unless_again (is_frame k) cause.FramePointer (goes_to (s.pc + 1) (with_reg n k v)) es frame h))

  packet_loads : (a : ℕ) (p : Place) (signed : Bool) (size : Size) (k : ℕ) (es : Edges) → k < 11 → is_frame k ≡ false → Reaches s InPacket (size_bytes size) p →
      goes_to (s.pc + 1) (with_reg n k (any_loaded signed size)) ≡ Ok es → Accounts es (load_from a p s signed size k)
  packet_loads a p signed size k es small frame r h =
      let x = number_of (take (size_bytes size) (drop r.0 s.packet)) in
      let fits : number_of (take (size_bytes size) (drop r.0 s.packet)) < 256 ^ size_bytes size = number_take (size_bytes size) (drop r.0 s.packet) (bytes_drop r.0 s.packet d.state.packet_bytes) in
      subst (λ (p : Place). Accounts es (load_from a p s signed size k)) (sym r.1)
      (arrives (place.InPacket r.0) signed size k (number_of (take (size_bytes size) (drop r.0 s.packet))) (any_loaded signed size) es small frame refl
      (taken_fits signed size _ fits) (loaded_reads w signed size _ fits) h)

  stack_by : (a i : ℕ) (set signed : Bool) (size : Size) (k : ℕ) (v : Val) (es : Edges) → set ≡ all_set n i (size_bytes size) → k < 11 → is_frame k ≡ false →
      (if set then Ok (stack_value n i signed size) else Err cause.Stack) ≡ Ok v → goes_to (s.pc + 1) (with_reg n k v) ≡ Ok es → Accounts es (load_from a (place.InStack i) s signed size k)
  stack_by a i true signed size k v es e small frame f h =
      let word = all_set_word n s i (size_bytes size) d (sym e) in
      let fits : word.0 < 256 ^ size_bytes size = word_below s.stack i (size_bytes size) word.0 d.state.stack_bytes word.1 in
      let same : stack_value n i signed size ≡ v = same_ok (stack_value n i signed size) v f in
      arrives (place.InStack i) signed size k word.0 v es small frame word.1 (taken_fits signed size word.0 fits)
      (subst (λ (v : Val). IsReading w v (taken signed size word.0)) same (stack_reads i word.0 signed size word.1 fits)) h
  stack_by a i false signed size k v es e small frame f h = absurd (cc)

  -- a field's offset
  field_at_ok : (o : ℤ) → is_field o ≡ true → (at : ℕ) × (o ≡ pos at) × (at ≤ 16) × (at % 4 ≡ 0)
  field_at_ok (pos at) e = (at, refl, grind (arith, nat_tests), grind (arith, nat_tests))
  field_at_ok (negsuc m) e = absurd (cc)

  context_by : (a : ℕ) (p : Place) (size : Size) (o : ℤ) (k : ℕ) (v : Val) (es : Edges) (b : Bool) → b ≡ (is_word size && is_field o) → k < 11 → is_frame k ≡ false → Reaches s (InContext o) (size_bytes size) p →
      (if b then Ok (field_value o) else Err cause.Context) ≡ Ok v → goes_to (s.pc + 1) (with_reg n k v) ≡ Ok es → Accounts es (load_from a p s false size k)
  context_by a p Word o k v es true e small frame r f h =
      let at = field_at_ok o (sym e) in
      let here : p ≡ place.InContext at.0 = r at.0 at.1 at.2 at.3 refl in
      let same : field_value (pos at.0) ≡ v = ap field_value (sym at.1) ∙ same_ok (field_value o) v f in
      subst (λ (p : Place). Accounts es (load_from a p s false Word k)) (sym here)
      (arrives (place.InContext at.0) false Word k (field_at s at.0) v es small frame refl (field_fits (nat_eq at.0 4) (nat_eq at.0 12) (nat_eq at.0 16))
      (subst (λ (v : Val). IsReading w v (field_at s at.0)) same (field_by (nat_eq at.0 4) (nat_eq at.0 12) (nat_eq at.0 16))) h)
  context_by a p Byte o k v es true e small frame r f h = absurd (cc)
  context_by a p Half o k v es true e small frame r f h = absurd (cc)
  context_by a p Double o k v es true e small frame r f h = absurd (cc)
  context_by a p size o k v es false e small frame r f h = absurd (cc)

  -- a counter's place in a value
  pub counter_at_ok : (shape : Option Shape) (o : ℤ) → is_counter shape o ≡ true → (c : Shape) × (at : ℕ) × (shape ≡ Some c) × (o ≡ pos at) × (at % 8 ≡ 0) × (at < 8 * c.counters)
  counter_at_ok None o e = absurd (cc)
  counter_at_ok (Some c) (pos at) e = (c, at, refl, refl, grind (arith, nat_tests), grind (arith, nat_tests))
  counter_at_ok (Some c) (negsuc m) e = absurd (cc)

  counter_arrives : (m k j i : ℕ) (es : Edges) (b : Bool) → b ≡ is_frame i → i < 11 → b ≡ false → goes_to (s.pc + 1) (with_reg n i full) ≡ Ok es →
      Accounts es (if b then Fault else Loads m k j (λ x. with_number s (s.pc + 1) i x))
  counter_arrives m k j i es true t small f h = absurd (cc)
  counter_arrives m k j i es false t small f h =
      λ x fits. one_covers (s.pc + 1) (with_reg n i full) es (with_number s (s.pc + 1) i x) refl (with_number_describes n s (s.pc + 1) i x full d small fits (full_reads w x fits)) h

  -- a part of a counter's number goes to the register
  pub part_arrives : (a m k j i : ℕ) (signed : Bool) (size : Size) (es : Edges) (b : Bool) → b ≡ is_frame i → i < 11 → b ≡ false → goes_to (s.pc + 1) (with_reg n i (any_loaded signed size)) ≡ Ok es →
      Accounts es (if b then Fault else Loads m k j (λ x. with_number s (s.pc + 1) i (taken signed size (part size a x))))
  part_arrives a m k j i signed size es true t small f h = absurd (cc)
  part_arrives a m k j i signed size es false t small f h =
      λ x fits. one_covers (s.pc + 1) (with_reg n i (any_loaded signed size)) es (with_number s (s.pc + 1) i (taken signed size (part size a x))) refl
      (with_number_describes n s (s.pc + 1) i (taken signed size (part size a x)) (any_loaded signed size) d small (taken_fits signed size (part size a x) (part_fits size a x fits))
      (loaded_reads w signed size (part size a x) (part_fits size a x fits))) h

  counter_by : (a : ℕ) (p : Place) (size : Size) (m : ℕ) (o : ℤ) (k : ℕ) (v : Val) (es : Edges) (b : Bool) → b ≡ (is_double size && is_counter (slice_get s.shapes m) o) → k < 11 → is_frame k ≡ false →
      Reaches s (AtValue m o) (size_bytes size) p → (if b then Ok full else Err cause.MapAccess) ≡ Ok v → goes_to (s.pc + 1) (with_reg n k v) ≡ Ok es → Accounts es (load_from a p s false size k)
  counter_by a p Double m o k v es true e small frame r f h =
      let c = counter_at_ok (slice_get s.shapes m) o (sym e) in
      let q = r c.0 c.1 c.2 c.3 c.4 c.5 refl in
      let same : full ≡ v = same_ok full v f in
      subst (λ (p : Place). Accounts es (load_from a p s false Double k)) (sym q.2)
      (counter_arrives m q.0 q.1 k es (is_frame k) refl small frame (subst (λ (v : Val). goes_to (s.pc + 1) (with_reg n k v) ≡ Ok es) (sym same) h))
  counter_by a p Byte m o k v es true e small frame r f h = absurd (cc)
  counter_by a p Half m o k v es true e small frame r f h = absurd (cc)
  counter_by a p Word m o k v es true e small frame r f h = absurd (cc)
  counter_by a p size m o k v es false e small frame r f h = absurd (cc)

  -- a load that the rule allows
  pub load_sound : (a : ℕ) (access : Access) (p : Place) (signed : Bool) (size : Size) (k : ℕ) (v : Val) (es : Edges) → k < 11 → is_frame k ≡ false → Reaches s access (size_bytes size) p →
      loaded_value n s.shapes signed size access ≡ Ok v → goes_to (s.pc + 1) (with_reg n k v) ≡ Ok es → Accounts es (load_from a p s signed size k)
  load_sound a InPacket p signed size k v es small frame r e h =
      packet_loads a p signed size k es small frame r (subst (λ (v : Val). goes_to (s.pc + 1) (with_reg n k v) ≡ Ok es) (sym (same_ok (any_loaded signed size) v e)) h)
  load_sound a (OnStack i) p signed size k v es small frame r e h =
      subst (λ (p : Place). Accounts es (load_from a p s signed size k)) (sym r.0) (stack_by a i (all_set n i (size_bytes size)) signed size k v es refl small frame e h)
  load_sound a (InContext o) p true size k v es small frame r e h = absurd (cc)
  load_sound a (InContext o) p false size k v es small frame r e h = context_by a p size o k v es (is_word size && is_field o) refl small frame r e h
  load_sound a (AtValue m o) p true size k v es small frame r e h = absurd (cc)
  load_sound a (AtValue m o) p false size k v es small frame r e h = counter_by a p size m o k v es (is_double size && is_counter (slice_get s.shapes m) o) refl small frame r e h
