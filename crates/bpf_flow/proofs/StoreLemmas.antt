-- Stores.
use Rattle.std.proofs.Common.{◌≡◌, ℕ, zero, suc, ◌+◌, ◌-◌, ◌*◌, ◌/◌, ◌%◌, ◌^◌, ◌<◌, ◌≤◌, Bool, true, false, ◌&&◌, ◌||◌, refl, Option, Some, None, List, [], ◌∷◌, ◌++◌, length, take, drop, nat_eq, nat_lt, subst, sym, ap, ◌∙◌, arith, add-zero}
use Rattle.std.specs.Prelude.{if◌then◌else◌, nat_le, slice_index, IsSome, Ok}
use Rattle.std.proofs.lemmas.Bool.Decides.{nat_tests}
use Rattle.std.proofs.Math.Nat.{pow-succ'}
use Rattle.std.proofs.lemmas.List.{length-append, length-take, length-drop}
use Rattle.bpf_insn.specs.Size.{size_bytes}
use Rattle.bpf_insn.specs.declared.size.Size.{Size}
use Rattle.bpf_insn.specs.declared.size.Size.TheVariants.{Byte, Half, Word, Double}
use Rattle.bpf_note.specs.declared.val.Val.{Val}
use Rattle.bpf_note.specs.Bytes.{bytes_of, byte_of, word_at, higher, put_bytes}
use Rattle.bpf_note.specs.State.{State, IsState}
use Rattle.bpf_note.specs.Regions.{Place}
use Rattle.bpf_note.specs.Facts.{Facts, with_kept}
use Rattle.bpf_note.specs.Describes.{Meaning, meaning, Describes, IsReading, Reads, Holds}
use Rattle.bpf_flow.specs.Step.{store_to, with_stack, with_packet, spliced}
use Rattle.bpf_flow.specs.Edges.{Edges}
use Rattle.bpf_flow.specs.Memory.{touches, with_bytes, with_store, stores}
use Rattle.bpf_flow.specs.Sound.{Accounts}
use Rattle.bpf_flow.specs.declared.access.Access.{Access}
use Rattle.bpf_flow.specs.declared.access.Access.TheVariants.{InPacket, OnStack, InContext, AtValue}
use Rattle.bpf_flow.proofs.RegisterLemmas.{one_covers}
use Rattle.bpf_flow.proofs.ReachLemmas.{Reaches}

byte_fits : (i v : ℕ) → byte_of i v < 256
byte_fits zero v = omega arith
byte_fits (suc i) v = byte_fits i (v / 256)

-- bytes that are those of a number give it
word_of_bytes : (f : ℕ → Option ℕ) (i z x : ℕ) → x < 256 ^ z → ((k : ℕ) → k < z → f (i + k) ≡ Some (byte_of k x)) → word_at f i z ≡ Some x
word_of_bytes f i zero x lt h = ap Some (omega arith)
word_of_bytes f i (suc z) x lt h =
    let first : f i ≡ Some (x % 256) = ap f (sym (add-zero i)) ∙ h 0 (omega arith) in
    let small : x / 256 < 256 ^ z = omega (arith, pow-succ' 256 z) in
    let rest = word_of_bytes f (i + 1) z (x / 256) small (λ k lt. let at : i + 1 + k ≡ i + suc k = omega arith in ap f at ∙ h (suc k) (omega arith)) in
    ap (λ (o : Option ℕ). higher o (word_at f (i + 1) z)) first ∙ (ap (higher (Some (x % 256))) rest ∙ ap Some (omega arith))

put_inside : (f : ℕ → Option ℕ) (i z v k : ℕ) → k < z → put_bytes f i z v (i + k) ≡ Some (byte_of k v)
unfolding put_bytes
put_inside f i z v k h = grind (arith, nat_tests)

word_same : (f g : ℕ → Option ℕ) (i z : ℕ) → ((k : ℕ) → k < z → g (i + k) ≡ f (i + k)) → word_at g i z ≡ word_at f i z
word_same f g i zero h = refl
word_same f g i (suc z) h =
    let here : g i ≡ f i = ap g (sym (add-zero i)) ∙ (h 0 (omega arith) ∙ ap f (add-zero i)) in
    let rest = word_same f g (i + 1) z (λ k lt. let at : i + 1 + k ≡ i + suc k = omega arith in ap g at ∙ (h (suc k) (omega arith) ∙ ap f (sym at))) in
    ap (λ (o : Option ℕ). higher o (word_at g (i + 1) z)) here ∙ ap (higher (f i)) rest

other_byte : (f : ℕ → Option ℕ) (j p z v b : ℕ) → (touches p z j) ≡ false → b < 8 → put_bytes f p z v (8 * j + b) ≡ f (8 * j + b)
unfolding put_bytes
other_byte f j p z v b e lt = grind (arith, nat_tests)

-- a slot whose bytes stay holds what it held
unchanged_holds : (w : Meaning) (o : Option Val) (f g : ℕ → Option ℕ) (j : ℕ) → Holds w o f j → ((b : ℕ) → b < 8 → g (8 * j + b) ≡ f (8 * j + b)) → Holds w o g j
unchanged_holds w None f g j h same = tt
unchanged_holds w (Some v) f g j h same = (h.0, word_same f g (8 * j) 8 same ∙ h.1, h.2)

touched_holds : (w : Meaning) (o : Option Val) (f : ℕ → Option ℕ) (j p z v : ℕ) (b : Bool) → b ≡ (touches p z j) → Holds w o f j →
    Holds w (if b then None else o) (put_bytes f p z v) j
touched_holds w o f j p z v true e h = tt
touched_holds w o f j p z v false e h = unchanged_holds w o f (put_bytes f p z v) j h (λ b lt. other_byte f j p z v b (sym e) lt)

-- a byte that was set, or is stored
stored_set : (f : ℕ → Option ℕ) (p z v i : ℕ) (here old : Bool) → here ≡ (nat_le p i && nat_lt i (p + z)) → (old ≡ true → IsSome (f i)) → (here || old) ≡ true → IsSome (put_bytes f p z v i)
unfolding put_bytes
stored_set f p z v i true old e h t = subst (λ (b : Bool). IsSome (if b then Some (byte_of (i - p) v) else f i)) e refl
stored_set f p z v i false old e h t = subst (λ (b : Bool). IsSome (if b then Some (byte_of (i - p) v) else f i)) e (h t)

put_fits : (f : ℕ → Option ℕ) (i z v k b : ℕ) (inside : Bool) → ((k b : ℕ) → f k ≡ Some b → b < 256) → (if inside then Some (byte_of (k - i) v) else f k) ≡ Some b → b < 256
put_fits f i z v k b true h e = let same : byte_of (k - i) v ≡ b = cc in omega (arith, byte_fits (k - i) v)
put_fits f i z v k b false h e = h k b e

bytes_fit : (s : State) (i z v k b : ℕ) → ((k b : ℕ) → s.stack k ≡ Some b → b < 256) → put_bytes s.stack i z v k ≡ Some b → b < 256
unfolding put_bytes
bytes_fit s i z v k b h e = put_fits s.stack i z v k b (nat_le i k && nat_lt k (i + z)) h e

past_end : (f : ℕ → Option ℕ) (p z v i : ℕ) → p + z ≤ 512 → 512 ≤ i → f i ≡ None → put_bytes f p z v i ≡ None
unfolding put_bytes
past_end f p z v i inside past none = by (nat_le p i && nat_lt i (p + z)) refl
  where
    by : (b : Bool) → b ≡ (nat_le p i && nat_lt i (p + z)) → (if b then Some (byte_of (i - p) v) else f i) ≡ None
    by true e = absurd (grind (arith, nat_tests))
    by false e = none

stack_state : (s : State) (pc p z x : ℕ) → p + z ≤ 512 → IsState s → IsState (with_stack s pc (put_bytes s.stack p z x))
stack_state s pc p z x inside st = record {
  words = st.words;
  registers = st.registers;
  stack_bytes = λ i b. bytes_fit s p z x i b st.stack_bytes;
  stack_size = λ i past. past_end s.stack p z x i inside past (st.stack_size i past);
  packet_bytes = st.packet_bytes;
  packet_size = st.packet_size;
  ifindex_fits = st.ifindex_fits;
  queue_fits = st.queue_fits;
  maps = st.maps;
  shapes = st.shapes;
}

-- some bytes are stored
bytes_describe : (n : Facts) (s : State) (pc p z x : ℕ) → p + z ≤ 512 → Describes n s → Describes (with_bytes n p z) (with_stack s pc (put_bytes s.stack p z x))
bytes_describe n s pc p z x inside d = record {
  state = stack_state s pc p z x inside d.state;
  base = d.base;
  address = d.address;
  regs = d.regs;
  kept = λ j. touched_holds (meaning s d.base d.address) (n.kept j) s.stack j p z x (touches p z j) refl (d.kept j);
  set = λ i. stored_set s.stack p z x i (nat_le p i && nat_lt i (p + z)) (n.set i) refl (d.set i);
  start = d.start;
  tops = d.tops;
  low = d.low;
  safes = d.safes;
}

same_number : (a b : ℕ) → true ≡ nat_eq a b → a ≡ b
same_number a b h = grind (arith, nat_tests)

slot_holds : (w : Meaning) (o : Option Val) (f : ℕ → Option ℕ) (j p x : ℕ) (v : Val) (here : Bool) → here ≡ nat_eq j (p / 8) → p % 8 ≡ 0 → x < 2 ^ 64 → IsReading w v x → Holds w o f j →
    Holds w (if here then Some v else o) (put_bytes f p 8 x) j
slot_holds w o f j p x v true t al fits r h =
    let at : p ≡ 8 * j = omega (arith, same_number j (p / 8) t) in
    (x, ap (λ (q : ℕ). word_at (put_bytes f q 8 x) (8 * j) 8) at ∙ word_of_bytes (put_bytes f (8 * j) 8 x) (8 * j) 8 x fits (λ k lt. put_inside f (8 * j) 8 x k lt), r)
slot_holds w o f j p x v false t al fits r h =
    unchanged_holds w o f (put_bytes f p 8 x) j h (λ b lt. other_byte f j p 8 x b (grind (arith, nat_tests)) lt)

slot_set : (f : ℕ → Option ℕ) (p v i : ℕ) (here old : Bool) → here ≡ nat_eq (i / 8) (p / 8) → p % 8 ≡ 0 → (old ≡ true → IsSome (f i)) → (here || old) ≡ true → IsSome (put_bytes f p 8 v i)
slot_set f p v i true old e al h t = stored_set f p 8 v i true old (let at = same_number (i / 8) (p / 8) e in grind (arith, nat_tests)) h refl
slot_set f p v i false old e al h t = stored_set f p 8 v i (nat_le p i && nat_lt i (p + 8)) old refl h (let e = t in set_anyway (nat_le p i && nat_lt i (p + 8)) old t)
  where
    set_anyway : (a b : Bool) → b ≡ true → (a || b) ≡ true
    set_anyway true b e = refl
    set_anyway false b e = e

-- a whole slot is stored
slot_describes : (n : Facts) (s : State) (pc p x : ℕ) (v : Val) (d : Describes n s) → p % 8 ≡ 0 → p + 8 ≤ 512 → x < 2 ^ 64 → IsReading (meaning s d.base d.address) v x →
    Describes (with_kept n (p / 8) v) (with_stack s pc (put_bytes s.stack p 8 x))
slot_describes n s pc p x v d al inside fits r = record {
  state = stack_state s pc p 8 x inside d.state;
  base = d.base;
  address = d.address;
  regs = d.regs;
  kept = λ j. slot_holds (meaning s d.base d.address) (n.kept j) s.stack j p x v (nat_eq j (p / 8)) refl al fits r (d.kept j);
  set = λ i. slot_set s.stack p x i (nat_eq (i / 8) (p / 8)) (n.set i) refl al (d.set i);
  start = d.start;
  tops = d.tops;
  low = d.low;
  safes = d.safes;
}

whole_describes : (n : Facts) (s : State) (pc p x : ℕ) (v : Val) (d : Describes n s) (b : Bool) → b ≡ nat_eq (p % 8) 0 → p + 8 ≤ 512 → x < 2 ^ 64 → IsReading (meaning s d.base d.address) v x →
    Describes (if b then with_kept n (p / 8) v else with_bytes n p 8) (with_stack s pc (put_bytes s.stack p 8 x))
whole_describes n s pc p x v d true e inside fits r = slot_describes n s pc p x v d (same_number (p % 8) 0 e) inside fits r
whole_describes n s pc p x v d false e inside fits r = bytes_describe n s pc p 8 x inside d

stack_describes : (n : Facts) (s : State) (pc p x : ℕ) (size : Size) (v : Val) (d : Describes n s) → p + size_bytes size ≤ 512 → x < 2 ^ 64 → IsReading (meaning s d.base d.address) v x →
    Describes (with_store n p size v) (with_stack s pc (put_bytes s.stack p (size_bytes size) x))
stack_describes n s pc p x Double v d inside fits r = whole_describes n s pc p x v d (nat_eq (p % 8) 0) refl inside fits r
stack_describes n s pc p x Byte v d inside fits r = bytes_describe n s pc p 1 x inside d
stack_describes n s pc p x Half v d inside fits r = bytes_describe n s pc p 2 x inside d
stack_describes n s pc p x Word v d inside fits r = bytes_describe n s pc p 4 x inside d

-- a packet with some bytes stored
length_bytes : (z x : ℕ) → length (bytes_of z x) ≡ z
length_bytes zero x = refl
length_bytes (suc z) x = ap suc (length_bytes z (x / 256))

bytes_small : (z x i : ℕ) → slice_index (bytes_of z x) i < 256
bytes_small zero x i = omega arith
bytes_small (suc z) x zero = omega arith
bytes_small (suc z) x (suc i) = bytes_small z (x / 256) i

joined_small : (xs ys : List ℕ) → ((i : ℕ) → slice_index xs i < 256) → ((i : ℕ) → slice_index ys i < 256) → (i : ℕ) → slice_index (xs ++ ys) i < 256
joined_small [] ys f g i = g i
joined_small (x ∷ xs) ys f g zero = f 0
joined_small (x ∷ xs) ys f g (suc i) = joined_small xs ys (λ k. f (suc k)) g i

taken_small : (k : ℕ) (xs : List ℕ) → ((i : ℕ) → slice_index xs i < 256) → (i : ℕ) → slice_index (take k xs) i < 256
taken_small zero xs f i = omega arith
taken_small (suc k) [] f i = omega arith
taken_small (suc k) (x ∷ xs) f zero = f 0
taken_small (suc k) (x ∷ xs) f (suc i) = taken_small k xs (λ j. f (suc j)) i

dropped_small : (k : ℕ) (xs : List ℕ) → ((i : ℕ) → slice_index xs i < 256) → (i : ℕ) → slice_index (drop k xs) i < 256
dropped_small zero xs f i = f i
dropped_small (suc k) [] f i = f i
dropped_small (suc k) (x ∷ xs) f i = dropped_small k xs (λ j. f (suc j)) i

pub spliced_length : (xs : List ℕ) (i z x : ℕ) → i + z ≤ length xs → length (spliced xs i z x) ≡ length xs
spliced_length xs i z x h = rw (length-append, length-append, length-take, length-drop, length_bytes z x) (omega arith)

spliced_small : (xs : List ℕ) (i z x : ℕ) → ((i : ℕ) → slice_index xs i < 256) → (k : ℕ) → slice_index (spliced xs i z x) k < 256
spliced_small xs i z x f = joined_small (take i xs ++ bytes_of z x) (drop (i + z) xs) (joined_small (take i xs) (bytes_of z x) (taken_small i xs f) (bytes_small z x)) (dropped_small (i + z) xs f)

packet_state : (s : State) (pc i z x : ℕ) → i + z ≤ length s.packet → IsState s → IsState (with_packet s pc (spliced s.packet i z x))
packet_state s pc i z x inside st = record {
  words = st.words;
  registers = st.registers;
  stack_bytes = st.stack_bytes;
  stack_size = st.stack_size;
  packet_bytes = spliced_small s.packet i z x st.packet_bytes;
  packet_size = subst (λ (l : ℕ). l ≤ 65535) (sym (spliced_length s.packet i z x inside)) st.packet_size;
  ifindex_fits = st.ifindex_fits;
  queue_fits = st.queue_fits;
  maps = st.maps;
  shapes = st.shapes;
}

-- what is known of a packet's length stays
packet_describes : (n : Facts) (s : State) (pc : ℕ) (bytes : List ℕ) → length bytes ≡ length s.packet → IsState (with_packet s pc bytes) → Describes n s → Describes n (with_packet s pc bytes)
packet_describes n s pc bytes e st d =
    let f : (P : ℕ → Type 0) → P (length s.packet) → P (length bytes) = λ P h. subst P (sym e) h in
    record {
      state = st;
      base = d.base;
      address = d.address;
      regs = λ k. f (λ l. Reads (record { len = l; shapes = s.shapes; base = d.base; address = d.address }) (n.reg k) (s.reg k)) (d.regs k);
      kept = λ j. f (λ l. Holds (record { len = l; shapes = s.shapes; base = d.base; address = d.address }) (n.kept j) s.stack j) (d.kept j);
      set = d.set;
      start = d.start;
      tops = d.tops;
      low = d.low;
      safes = λ id b h. f (λ l. d.base id + b ≤ l) (d.safes id b h);
    }

-- a store that the rule allows
pub store_sound : (n : Facts) (s : State) (access : Access) (p : Place) (size : Size) (x : ℕ) (v : Val) (es : Edges) (d : Describes n s) → x < 2 ^ 64 → IsReading (meaning s d.base d.address) v x →
    Reaches s access (size_bytes size) p → stores n (s.pc + 1) size v access ≡ Ok es → Accounts es (store_to p s (size_bytes size) x)
store_sound n s InPacket p size x v es d fits r reach h =
    subst (λ (p : Place). Accounts es (store_to p s (size_bytes size) x)) (sym reach.1)
    (one_covers (s.pc + 1) n es (with_packet s (s.pc + 1) (spliced s.packet reach.0 (size_bytes size) x)) refl
    (packet_describes n s (s.pc + 1) (spliced s.packet reach.0 (size_bytes size) x) (spliced_length s.packet reach.0 (size_bytes size) x reach.2)
    (packet_state s (s.pc + 1) reach.0 (size_bytes size) x reach.2 d.state) d) h)
store_sound n s (OnStack i) p size x v es d fits r reach h =
    subst (λ (p : Place). Accounts es (store_to p s (size_bytes size) x)) (sym reach.0)
    (one_covers (s.pc + 1) (with_store n i size v) es (with_stack s (s.pc + 1) (put_bytes s.stack i (size_bytes size) x)) refl (stack_describes n s (s.pc + 1) i x size v d reach.1 fits r) h)
store_sound n s (InContext o) p size x v es d fits r reach h = absurd (cc)
store_sound n s (AtValue m o) p size x v es d fits r reach h = absurd (cc)
