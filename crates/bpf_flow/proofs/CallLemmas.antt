-- Lookups, and adds to counters.
use Rattle.std.proofs.Common.{◌≡◌, ℕ, zero, suc, ◌+◌, ◌-◌, ◌^◌, ◌<◌, ◌≤◌, ◌⊎◌, inl, inr, Bool, true, false, ◌&&◌, not, refl, Option, Some, None, List, [], ◌∷◌, length, nat_eq, nat_lt, subst, sym, ap, ◌∙◌, arith, ℤ, pos, ◌+ℤ◌}
use Rattle.std.specs.Prelude.{if◌then◌else◌, nat_le, slice_get, Ok, Err}
use Rattle.std.proofs.lemmas.Bool.Decides.{nat_tests}
use Rattle.std.proofs.lemmas.Int.{ints}
use Rattle.bpf_insn.specs.declared.refusal.Cause.TheVariants as cause
use Rattle.bpf_note.specs.declared.val.Val.{Val}
use Rattle.bpf_note.specs.declared.val.Val.TheVariants as val
use Rattle.bpf_note.specs.Shape.{Shape}
use Rattle.bpf_note.specs.Keys.{key_size}
use Rattle.bpf_note.specs.Bytes.{bytes_at}
use Rattle.bpf_note.specs.State.{State, IsState, stack_start, references_start}
use Rattle.bpf_note.specs.Regions.{Place, InStack, InCounter, region, counter_address}
use Rattle.bpf_note.specs.Facts.{Facts, full, packet_id, with_reg, with_id}
use Rattle.bpf_note.specs.Describes.{Meaning, meaning, Describes, IsReading, Reads, IsValueOf}
use Rattle.bpf_flow.specs.Step.{Outcome, Next, Adds, Fault, need, at_slot, with_number, is_frame, add_to, map_at, key_in, row_of, value_or_null, called, looked_up, looked_up_in, reached}
use Rattle.bpf_flow.specs.Edges.{Edges, goes_to}
use Rattle.bpf_flow.specs.Memory.{place_in, is_counter, all_set, adds_at}
use Rattle.bpf_flow.specs.Rule.{fetched}
use Rattle.bpf_flow.specs.Call.{is_key, is_key_at, key_bytes, has_keys, with_call, looks_up}
use Rattle.bpf_flow.specs.Sound.{Accounts}
use Rattle.bpf_flow.specs.declared.access.Access.TheVariants.{AtValue}
use Rattle.bpf_flow.proofs.AnswerLemmas.{unless_ok, same_some, flipped, each}
use Rattle.bpf_flow.proofs.RegisterLemmas.{one_covers, at_slot_describes, with_number_describes}
use Rattle.bpf_flow.proofs.IdLemmas.{full_reads, with_id_known}
use Rattle.bpf_flow.proofs.ReachLemmas.{access_reaches, place_in_ok, counter_fits, map_small, region_stack}
use Rattle.bpf_flow.proofs.LoadLemmas.{all_set_bytes, counter_at_ok}

-- a value's address, or 0
null_or_value : (c : Shape) (m : ℕ) (row : Option ℕ) → (value_or_null c m row ≡ 0) ⊎ IsValueOf (Some c) m (value_or_null c m row)
null_or_value c m None = inl refl
null_or_value c m (Some k) = by (nat_lt k c.entries) refl
  where
    by : (b : Bool) → b ≡ nat_lt k c.entries → ((if b then counter_address c m k 0 else 0) ≡ 0) ⊎ IsValueOf (Some c) m (if b then counter_address c m k 0 else 0)
    by true t = inr (k, grind (arith, nat_tests), refl)
    by false t = inl refl

value_fits : (s : State) (m : ℕ) (c : Shape) (row : Option ℕ) → IsState s → slice_get s.shapes m ≡ Some c → value_or_null c m row < 2 ^ 64
value_fits s m c None st e = omega arith
value_fits s m c (Some k) st e = by (nat_lt k c.entries) refl
  where
    by : (b : Bool) → b ≡ nat_lt k c.entries → (if b then counter_address c m k 0 else 0) < 2 ^ 64
    by true t = let is = st.shapes m c e in counter_fits c m k 0 (map_small s.shapes m c e st.maps) is (grind (arith, nat_tests)) is.some_counters
    by false t = omega arith

call_word : (a x y : ℕ) (o : Option ℕ) (zero' five : Bool) → a < 2 ^ 64 → ((y : ℕ) → o ≡ Some y → y < 2 ^ 64) → (if zero' then Some a else if five then None else o) ≡ Some y → y < 2 ^ 64
call_word a x y o true five fits h e = subst (λ (y : ℕ). y < 2 ^ 64) (same_some a y e) fits
call_word a x y o false true fits h e = absurd (cc)
call_word a x y o false false fits h e = h y e

call_none : (a k : ℕ) (o : Option ℕ) (zero' five : Bool) → zero' ≡ nat_eq k 0 → 11 ≤ k → o ≡ None → (if zero' then Some a else if five then None else o) ≡ None
call_none a k o true five e past none = absurd (grind (arith, nat_tests))
call_none a k o false true e past none = refl
call_none a k o false false e past none = none

called_state : (s : State) (a : ℕ) → a < 2 ^ 64 → IsState s → IsState (called s a)
called_state s a fits st = record {
  words = λ k y e. call_word a k y (s.reg k) (nat_eq k 0) (nat_le k 5) fits (st.words k) e;
  registers = λ k past. call_none a k (s.reg k) (nat_eq k 0) (nat_le k 5) refl past (st.registers k past);
  stack_bytes = st.stack_bytes;
  stack_size = st.stack_size;
  packet_bytes = st.packet_bytes;
  packet_size = st.packet_size;
  ifindex_fits = st.ifindex_fits;
  queue_fits = st.queue_fits;
  maps = st.maps;
  shapes = st.shapes;
}

call_reads : (w : Meaning) (m pc a : ℕ) (v : Val) (o : Option ℕ) (zero' five : Bool) → IsReading w (val.MaybeValue m pc) a → Reads w v o →
    Reads w (if zero' then val.MaybeValue m pc else if five then val.Unset else v) (if zero' then Some a else if five then None else o)
call_reads w m pc a v o true five h r = h
call_reads w m pc a v o false true h r = refl
call_reads w m pc a v o false false h r = r

called_describes : (n : Facts) (s : State) (m pc a : ℕ) (d : Describes n s) → a < 2 ^ 64 → IsReading (meaning s d.base d.address) (val.MaybeValue m pc) a → Describes (with_call n m pc) (called s a)
called_describes n s m pc a d fits r = record {
  state = called_state s a fits d.state;
  base = d.base;
  address = d.address;
  regs = λ k. call_reads (meaning s d.base d.address) m pc a (n.reg k) (s.reg k) (nat_eq k 0) (nat_le k 5) r (d.regs k);
  kept = d.kept;
  set = d.set;
  start = d.start;
  tops = d.tops;
  low = d.low;
  safes = d.safes;
}

-- the key
key_at : (n : Facts) (z : ℕ) (at : ℤ) → is_key_at n z (place_in at z 512) ≡ true → (p : ℕ) × (at ≡ pos p) × (p + z ≤ 512) × (all_set n p z ≡ true)
key_at n z at e = by (place_in at z 512) refl e
  where
    by : (o : Option ℕ) → place_in at z 512 ≡ o → is_key_at n z o ≡ true → (p : ℕ) × (at ≡ pos p) × (p + z ≤ 512) × (all_set n p z ≡ true)
    by None f e = absurd (cc)
    by (Some p) f e = let q = place_in_ok at z 512 p f in (p, q.0, q.1, e)

record Key (s : State) (a z : ℕ) : Type 0 where
  pub at : ℕ
  pub key : List ℕ
  pub place : region (length s.packet) s.shapes a z ≡ InStack at
  pub bytes : bytes_at s.stack at z ≡ Some key

key_is : (n : Facts) (s : State) (z : ℕ) (v : Val) (a : ℕ) (d : Describes n s) → IsReading (meaning s d.base d.address) v a → is_key n z v ≡ true → Key s a z
key_is n s z (val.Stack off) a d r e =
    let q = key_at n z (pos 512 +ℤ off) e in
    let at : a ≡ stack_start + q.0 = omega (arith, ints, q.1, r.0) in
    let bytes = all_set_bytes n s q.0 z d q.3 in
    record { at = q.0; key = bytes.0; place = ap (λ (b : ℕ). region (length s.packet) s.shapes b z) at ∙ region_stack (length s.packet) s.shapes q.0 z d.state.packet_size q.2; bytes = bytes.1 }
key_is n s z val.Unset a d r e = absurd (cc)
key_is n s z (val.Num lo hi) a d r e = absurd (cc)
key_is n s z (val.Pkt id off) a d r e = absurd (cc)
key_is n s z val.PktEnd a d r e = absurd (cc)
key_is n s z val.Ctx a d r e = absurd (cc)
key_is n s z (val.Map m) a d r e = absurd (cc)
key_is n s z (val.MaybeValue m id) a d r e = absurd (cc)
key_is n s z (val.Value m) a d r e = absurd (cc)

-- the map's shape
there_is : {A : Type 0} (xs : List A) (k : ℕ) → k < length xs → (x : A) × (slice_get xs k ≡ Some x)
there_is [] k h = absurd (omega arith)
there_is (x ∷ xs) zero h = (x, refl)
there_is (x ∷ xs) (suc k) h = there_is xs k (omega arith)

-- a key of the size that the map's shape says
key_of : (n : Facts) (s : State) (shape : Option Shape) (c : Shape) (v : Val) (a : ℕ) (d : Describes n s) → shape ≡ Some c → IsReading (meaning s d.base d.address) v a → is_key n (key_bytes shape) v ≡ true → Key s a (key_size c.key)
key_of n s shape c v a d same r e = key_is n s (key_size c.key) v a d r (subst (λ (o : Option Shape). is_key n (key_bytes o) v ≡ true) same e)

map_found : (s : State) (x m : ℕ) → x ≡ references_start + m → m < length s.shapes → map_at s x ≡ Some m
map_found s x m e lt = by (nat_le references_start x && nat_lt (x - references_start) (length s.shapes)) refl
  where
    by : (b : Bool) → b ≡ (nat_le references_start x && nat_lt (x - references_start) (length s.shapes)) → (if b then Some (x - references_start) else None) ≡ Some m
    by true t = ap Some (omega (arith, e))
    by false t = absurd (grind (arith, nat_tests))

other_id : (pc : ℕ) → pc < 4096 → nat_eq packet_id pc ≡ false
other_id pc h = grind (arith, nat_tests)

-- what is needed is there
needs_some : {A : Type 0} (es : Edges) (o : Option A) (x : A) (go : A → Outcome) → o ≡ Some x → Accounts es (go x) → Accounts es (need o go)
needs_some {A = A} es o x go e h = subst (λ (o : Option A). Accounts es (need o go)) (sym e) h

map_looks_up : (n : Facts) (s : State) (m x y : ℕ) (key : Val) (es : Edges) (d : Describes n s) → s.pc < 4096 → s.reg 1 ≡ Some x → s.reg 2 ≡ Some y →
    IsReading (meaning s d.base d.address) (val.Map m) x → IsReading (meaning s d.base d.address) key y → looks_up s.shapes n s.pc (val.Map m) key ≡ Ok es → Accounts es (looked_up s)
map_looks_up n s m x y key es d small e f rx ry h =
    let u = unless_ok (not (has_keys (slice_get s.shapes m) && is_key n (key_bytes (slice_get s.shapes m)) key)) cause.Argument (goes_to (s.pc + 1) (with_call (with_id n s.pc 0) m s.pc)) es h in
    let map = there_is s.shapes m rx.1 in
    let c : Shape = map.0 in
    let k = key_of n s (slice_get s.shapes m) c key y d map.1 ry (each (has_keys (slice_get s.shapes m)) (is_key n (key_bytes (slice_get s.shapes m)) key) (flipped (has_keys (slice_get s.shapes m) && is_key n (key_bytes (slice_get s.shapes m)) key) u.0)).1 in
    let a : ℕ = value_or_null c m (row_of s m c.key k.key) in
    let fits : a < 2 ^ 64 = value_fits s m c (row_of s m c.key k.key) d.state map.1 in
    let known = with_id_known n s s.pc 0 a 0 (other_id s.pc small) (omega arith) (omega arith) d in
    let value : (a ≡ 0) ⊎ IsValueOf (slice_get s.shapes m) m a = subst (λ (o : Option Shape). (a ≡ 0) ⊎ IsValueOf o m a) (sym map.1) (null_or_value c m (row_of s m c.key k.key)) in
    let reading : IsReading (meaning s known.0.base known.0.address) (val.MaybeValue m s.pc) a = (sym known.2, value) in
    let there : key_in (region (length s.packet) s.shapes y (key_size c.key)) s (key_size c.key) ≡ Some k.key = ap (λ (p : Place). key_in p s (key_size c.key)) k.place ∙ k.bytes in
    needs_some es (s.reg 1) x _ e
    (needs_some es (s.reg 2) y _ f
    (needs_some es (map_at s x) m _ (map_found s x m rx.0 rx.1)
    (needs_some es (slice_get s.shapes m) c (looked_up_in s y m) map.1
    (needs_some es (key_in (region (length s.packet) s.shapes y (key_size c.key)) s (key_size c.key)) k.key (λ key. Next (called s (value_or_null c m (row_of s m c.key key)))) there
    (one_covers (s.pc + 1) (with_call (with_id n s.pc 0) m s.pc) es (called s a) refl
    (called_describes (with_id n s.pc 0) s m s.pc a known.0 fits reading) u.1)))))

-- a lookup that the rule allows
pub lookup_sound : (n : Facts) (s : State) (v key : Val) (x y : ℕ) (es : Edges) (d : Describes n s) → s.pc < 4096 → s.reg 1 ≡ Some x → s.reg 2 ≡ Some y →
    IsReading (meaning s d.base d.address) v x → IsReading (meaning s d.base d.address) key y → looks_up s.shapes n s.pc v key ≡ Ok es → Accounts es (looked_up s)
lookup_sound n s (val.Map m) key x y es d small e f rx ry h = map_looks_up n s m x y key es d small e f rx ry h
lookup_sound n s val.Unset key x y es d small e f rx ry h = absurd (cc)
lookup_sound n s (val.Num lo hi) key x y es d small e f rx ry h = absurd (cc)
lookup_sound n s (val.Pkt id off) key x y es d small e f rx ry h = absurd (cc)
lookup_sound n s val.PktEnd key x y es d small e f rx ry h = absurd (cc)
lookup_sound n s (val.Stack off) key x y es d small e f rx ry h = absurd (cc)
lookup_sound n s val.Ctx key x y es d small e f rx ry h = absurd (cc)
lookup_sound n s (val.MaybeValue m id) key x y es d small e f rx ry h = absurd (cc)
lookup_sound n s (val.Value m) key x y es d small e f rx ry h = absurd (cc)

-- an add that the rule allows reaches a value's counter
adds_ok : (n : Facts) (s : State) (v : Val) (a : ℕ) (o : ℤ) (u : Unit) (d : Describes n s) → IsReading (meaning s d.base d.address) v a → a < 2 ^ 64 → adds_at s.shapes v o ≡ Ok u →
    (m : ℕ) × (v ≡ val.Value m) × (is_counter (slice_get s.shapes m) o ≡ true)
adds_ok n s (val.Value m) a o u d r fits h = by (is_counter (slice_get s.shapes m) o) refl h
  where
    by : (b : Bool) → is_counter (slice_get s.shapes m) o ≡ b → (if b then Ok tt else Err cause.MapAccess) ≡ Ok u → (k : ℕ) × (val.Value m ≡ val.Value k) × (is_counter (slice_get s.shapes k) o ≡ true)
    by true e h = (m, refl, e)
    by false e h = absurd (cc)
adds_ok n s val.Unset a o u d r fits h = absurd (cc)
adds_ok n s (val.Num lo hi) a o u d r fits h = absurd (cc)
adds_ok n s (val.Pkt id off) a o u d r fits h = absurd (cc)
adds_ok n s val.PktEnd a o u d r fits h = absurd (cc)
adds_ok n s (val.Stack off) a o u d r fits h = absurd (cc)
adds_ok n s val.Ctx a o u d r fits h = absurd (cc)
adds_ok n s (val.Map m) a o u d r fits h = absurd (cc)
adds_ok n s (val.MaybeValue m id) a o u d r fits h = absurd (cc)

-- after an add: the old number goes to src, or nowhere
module _ (n : Facts) (s : State) (d : Describes n s) where
  fetch_by : (m k j delta src : ℕ) (es : Edges) (b : Bool) → b ≡ false → src < 11 → goes_to (s.pc + 1) (with_reg n src full) ≡ Ok es →
      Accounts es (if b then Fault else Adds m k j delta (λ x. with_number s (s.pc + 1) src x))
  fetch_by m k j delta src es true e small h = absurd (cc)
  fetch_by m k j delta src es false e small h = λ x fits.
      one_covers (s.pc + 1) (with_reg n src full) es (with_number s (s.pc + 1) src x) refl (with_number_describes n s (s.pc + 1) src x full d small fits (full_reads (meaning s d.base d.address) x fits)) h

  add_goes_on : (m k j delta src : ℕ) (fetch : Bool) (es : Edges) → (fetch && is_frame src) ≡ false → src < 11 → goes_to (s.pc + 1) (fetched fetch n src) ≡ Ok es →
      Accounts es (add_to (InCounter m k j) s fetch src delta)
  add_goes_on m k j delta src true es e small h = fetch_by m k j delta src es (is_frame src) e small h
  add_goes_on m k j delta src false es e small h = λ x fits. one_covers (s.pc + 1) n es (at_slot s (s.pc + 1)) refl (at_slot_describes n s (s.pc + 1) d) h

  -- an add that the rule allows
  pub add_sound : (v : Val) (a delta src : ℕ) (o : ℤ) (fetch : Bool) (u : Unit) (es : Edges) → IsReading (meaning s d.base d.address) v a → a < 2 ^ 64 → adds_at s.shapes v o ≡ Ok u →
      (fetch && is_frame src) ≡ false → src < 11 → goes_to (s.pc + 1) (fetched fetch n src) ≡ Ok es → Accounts es (add_to (reached s a o 8) s fetch src delta)
  add_sound v a delta src o fetch u es r fits h e small g =
      let q = adds_ok n s v a o u d r fits h in
      let reading : IsReading (meaning s d.base d.address) (val.Value q.0) a = subst (λ (v : Val). IsReading (meaning s d.base d.address) v a) q.1 r in
      let there = access_reaches n s d a fits o 8 (val.Value q.0) (AtValue q.0 o) reading refl in
      let c = counter_at_ok n s d (slice_get s.shapes q.0) o q.2 in
      let place = there c.0 c.1 c.2 c.3 c.4 c.5 refl in
      subst (λ (p : Place). Accounts es (add_to p s fetch src delta)) (sym place.2) (add_goes_on q.0 place.0 place.1 delta src fetch es e small g)
