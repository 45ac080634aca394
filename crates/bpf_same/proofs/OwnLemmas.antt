-- What a step of the new program's own makes of what terms hold.
use Rattle.std.proofs.Common.{ℕ, zero, suc, ◌+◌, ◌-◌, ◌*◌, ◌/◌, ◌%◌, ◌≡◌, ◌≢◌, ◌<◌, ◌≤◌, ◌^◌, ◌⊎◌, inl, inr, refl, sym, ap, ◌∙◌, subst, arith, ℤ, List, length, Option, None, Some, Bool, true, false, ◌&&◌, add-zero}
use Rattle.std.specs.Prelude.{if◌then◌else◌, ◌==◌}
use Rattle.std.proofs.lemmas.Bool.{cases_lt}
use Rattle.std.proofs.lemmas.Bool.Decides.{nat_tests}
use Rattle.std.proofs.Math.Nat.{pow-succ'}
use Rattle.bpf_note.specs.Shape.{Shape}
use Rattle.bpf_insn.specs.Register.{number}
use Rattle.bpf_insn.specs.Size.{size_bytes}
use Rattle.bpf_insn.specs.declared.register.Register.{Register}
use Rattle.bpf_insn.specs.declared.size.Size.{Size}
use Rattle.bpf_insn.specs.declared.size.Size.TheVariants.{Double}
use Rattle.bpf_insn.specs.declared.insn.Insn.{Insn}
use Rattle.bpf_insn.specs.declared.insn.Insn.TheVariants.{Alu, Neg, End, MovSx, Const, MapRef, Ldx, St, Stx, AddCounter, Ja, Jump, Call, Exit, Second}
use Rattle.bpf_note.specs.Constants.{are_constants, constants_at}
use Rattle.bpf_note.proofs.ConstantLemmas.{none_elsewhere}
use Rattle.bpf_flow.proofs.ConstantLemmas.{plain_load}
use Rattle.bpf_note.specs.State.{State, IsState, put, packet_start, stack_start, stack_end, context_start}
use Rattle.bpf_note.specs.Bytes.{number_of, word_at, higher, byte_of, put_bytes}
use Rattle.bpf_note.specs.Regions.{Place, InPacket, InStack, InContext, InCounter, Nowhere, region, lies_in, counter_at, load_place}
use Rattle.bpf_note.specs.Facts.{Facts}
use Rattle.bpf_note.specs.Describes.{Describes}
use Rattle.bpf_note.specs.declared.op.Op.{Op}
use Rattle.bpf_note.specs.declared.op.Op.TheVariants as ops
use Rattle.bpf_flow.specs.Step.{Outcome, Next, need, with_number, with_stack, written, operand, first_operand, address, reached, loaded, load_from, load_constants, load_at, store_to, exec, LeadsTo, taken}
use Rattle.bpf_flow.proofs.StepLemmas.{no_fault, needed}
use Rattle.bpf_flow.proofs.ReachLemmas.{region_stack}
use Rattle.bpf_flow.proofs.RegisterLemmas.{number_small}
use Rattle.bpf_same.specs.LinearForms.{held}
use Rattle.bpf_same.specs.Simulated.{is_jump}
use Rattle.bpf_same.specs.Stepped.{alters, is_register_store, IsOwn, IsWordAt, Stepped, IsOwnStep, IsOwnAccess}
use Rattle.bpf_same.proofs.PairLemmas.{put_left}
use Rattle.bpf_same.proofs.StepLemmas.{needed_is, held_register, held_word, held_fits, end_kept, noted_within, noted_long, noted_end, noted_range, noted_values, noted_is, written_is, put_here, alu_computes, computes_held, word_kept}
use Rattle.bpf_note.proofs.LoadPlaceLemmas.{below_values}

-- what is left of the state by a step of the new program's own, and what it makes of terms
pub record Alone (i : Insn) (low : ℕ) (m : Facts) (s : State) (g : ℕ → Option ℕ) (l : Option Op) (u : State) : Type 0 where
  pub label : l ≡ None
  pub packet : u.packet ≡ s.packet
  pub ifindex : u.ifindex ≡ s.ifindex
  pub queue : u.queue ≡ s.queue
  pub shapes : u.shapes ≡ s.shapes
  pub find : u.find ≡ s.find
  pub stack : (j : ℕ) → low ≤ j → u.stack j ≡ s.stack j
  pub stepped : Stepped i true low m (held s) g (held u) g

true_false : {P : Type 0} → true ≡ false → P
true_false e = cc

-- it writes one register
pub number_alone : (i : Insn) (low : ℕ) (m : Facts) (s : State) (g : ℕ → Option ℕ) (l : Option Op) (u : State) (q k x : ℕ) → ((j : ℕ) → alters i j ≡ (j == k)) → is_register_store i ≡ false → is_jump i ≡ false → Describes m u →
    LeadsTo (exec i s) l u → ((dst src : Register) (off : ℤ) (w : ℕ) → i ≡ Ldx Double false dst src off → IsWordAt src off low w → held u (number dst) ≡ held s w) → (l ≡ None) × (u ≡ with_number s q k x) → Alone i low m s g l u
number_alone i low m s g l u q k x a none jumps d h load w =
    let stack : u.stack ≡ s.stack = ap (λ (t : State). t.stack) w.1 in
    let reg : u.reg ≡ put s.reg k (Some x) = ap (λ (t : State). t.reg) w.1 in
    let at : (j : ℕ) → u.stack j ≡ s.stack j = λ j. ap (λ (f : ℕ → Option ℕ). f j) stack in
    record {
      label = w.0;
      packet = ap (λ (t : State). t.packet) w.1;
      ifindex = ap (λ (t : State). t.ifindex) w.1;
      queue = ap (λ (t : State). t.queue) w.1;
      shapes = ap (λ (t : State). t.shapes) w.1;
      find = ap (λ (t : State). t.find) w.1;
      stack = λ j low. at j;
      stepped = record {
        fits = held_fits u d.state;
        kept = λ j small e. held_register u j small ∙ (ap (λ (f : ℕ → Option ℕ). f j) reg ∙ (put_left s.reg k j (Some x) (sym (a j) ∙ e) ∙ sym (held_register s j small)));
        words = λ n o differs. word_kept s u low n o (λ j lt. at j);
        beside = λ dst src off w n o e. true_false (ap is_register_store (sym e) ∙ none);
        stored = λ dst src off w o e. true_false (ap is_register_store (sym e) ∙ none);
        loaded = λ dst src off w o e. load dst src off w e;
        made = λ op wide dst src e. computes_held op wide dst src s u (alu_computes op wide dst src s l u (subst (λ (i : Insn). LeadsTo (exec i s) l u) e h));
        noted = λ k x e small. held_register u k small ∙ noted_is m u k x d e;
        packet = end_kept s u (ap (λ (t : State). length t.packet) w.1);
        addresses = λ k id off safe v e small. noted_within m u k id off safe d v e small;
        long = λ least e. noted_long m u least d e;
        ends = λ k v small. noted_end m u k d v small;
        values = λ k j a b x one two differs small other. noted_values m u k j a b x d one two differs small other;
        ranged = λ k low high r small. noted_range m u k low high d r small;
        met = λ cond wide dst src off e. true_false (ap is_jump (sym e) ∙ jumps);
        stays = λ k e. refl;
        old_kept = λ k e. refl;
        old_made = λ op wide dst src e. true_false e;
        alike = λ k small e. true_false e;
      };
    }

-- a counter lies under eight bytes alone
pub counter_size : (len : ℕ) (shapes : List Shape) (a z m k j : ℕ) → region len shapes a z ≡ InCounter m k j → z ≡ 8
unfolding region
counter_size len shapes a z m k j e = by (lies_in packet_start (packet_start + len) a z) (lies_in stack_start stack_end a z) (lies_in context_start (context_start + 20) a z && z == 4 && a % 4 == 0) (z == 8) refl e
  where
    by : (p s c t : Bool) → (z == 8) ≡ t → (if p then InPacket (a - packet_start) else if s then InStack (a - stack_start) else if c then InContext (a - context_start) else if t then counter_at shapes a else Nowhere) ≡ InCounter m k j → z ≡ 8
    by true s c t f e = cc
    by false true c t f e = cc
    by false false true t f e = cc
    by false false false true f e = grind (arith, nat_tests)
    by false false false false f e = cc

-- a load that isn't one of a counter
pub record Loaded (place : Place) (s : State) (signed : Bool) (size : Size) (dst : ℕ) (l : Option Op) (u : State) : Type 0 where
  pub x : ℕ
  pub is : loaded s place (size_bytes size) ≡ Some x
  pub done : (l ≡ None) × (u ≡ with_number s (s.pc + 1) dst (taken signed size x))

plain_is : (place : Place) (s : State) (signed : Bool) (size : Size) (dst : ℕ) (l : Option Op) (u : State) → LeadsTo (need (loaded s place (size_bytes size)) (λ x. written s (s.pc + 1) dst (taken signed size x))) l u → Loaded place s signed size dst l u
plain_is place s signed size dst l u h = needed_is (loaded s place (size_bytes size)) _ l u (λ x f h. record { x = x; is = f; done = written_is s (s.pc + 1) dst (taken signed size x) l u h }) h

pub load_is : (a : ℕ) (place : Place) (s : State) (signed : Bool) (size : Size) (dst : ℕ) (l : Option Op) (u : State) → ((m k j : ℕ) → place ≡ InCounter m k j → ⊥) → LeadsTo (load_from a place s signed size dst) l u → Loaded place s signed size dst l u
load_is a (InPacket i) s signed size dst l u e h = plain_is (InPacket i) s signed size dst l u h
load_is a (InStack i) s signed size dst l u e h = plain_is (InStack i) s signed size dst l u h
load_is a (InContext i) s signed size dst l u e h = plain_is (InContext i) s signed size dst l u h
load_is a (InCounter m k j) s signed size dst l u e h = absurd (e m k j refl)
load_is a Nowhere s signed size dst l u e h = absurd (no_fault l u h)

-- such a load, or one of constants
pub record Read (s : State) (signed : Bool) (size : Size) (dst : ℕ) (l : Option Op) (u : State) : Type 0 where
  pub x : ℕ
  pub done : (l ≡ None) × (u ≡ with_number s (s.pc + 1) dst (taken signed size x))

pub read_is : (s : State) (a : ℕ) (signed : Bool) (size : Size) (dst : ℕ) (l : Option Op) (u : State) → ((m k j : ℕ) → load_place (length s.packet) s.shapes a (size_bytes size) ≡ InCounter m k j → ⊥) →
    LeadsTo (load_at s a signed size dst) l u → Read s signed size dst l u
read_is s a signed size dst l u e h = by (are_constants s.shapes a (size_bytes size)) h
  where
    by : (b : Bool) → LeadsTo (if b then load_constants s a signed size dst else load_from a (load_place (length s.packet) s.shapes a (size_bytes size)) s signed size dst) l u → Read s signed size dst l u
    by true h = record { x = number_of (constants_at s.find a (size_bytes size)); done = written_is s (s.pc + 1) dst _ l u h }
    by false h = let got = load_is a (load_place (length s.packet) s.shapes a (size_bytes size)) s signed size dst l u e h in record { x = got.x; done = got.done }

-- where a word of the new program's own lies
word_reached : (s : State) (base : Register) (off : ℤ) (low w a : ℕ) → IsState s → IsWordAt base off low w → s.reg 10 ≡ Some stack_end → s.reg (number base) ≡ Some a → reached s a off 8 ≡ InStack (592 - 8 * w)
word_reached s base off low w a st at frame e =
    let ten : number base ≡ 10 = ap number at.frame in
    let same : Some a ≡ Some stack_end = sym e ∙ (ap s.reg ten ∙ frame) in
    let is_end : a ≡ stack_end = cc in
    let here : address a off ≡ stack_start + (592 - 8 * w) = ap (λ (x : ℕ). address x off) is_end ∙ (ap (address stack_end) at.at ∙ omega (arith, at.within.first, at.within.last)) in
    ap (λ (x : ℕ). region (length s.packet) s.shapes x 8) here ∙ region_stack (length s.packet) s.shapes (592 - 8 * w) 8 st.packet_size (omega (arith, at.within.first, at.within.last))

no_counter : (i m k j : ℕ) → InStack i ≡ InCounter m k j → ⊥
no_counter i m k j e = cc

not_nowhere : (i : ℕ) → InStack i ≡ Nowhere → ⊥
not_nowhere i e = cc

some_same : {x y : ℕ} → Some x ≡ Some y → x ≡ y
some_same e = cc

-- a load of a word of the new program's own
own_loaded : (dst src : Register) (off : ℤ) (low w : ℕ) (s : State) (l : Option Op) (u : State) → IsState s → IsWordAt src off low w → s.reg 10 ≡ Some stack_end → LeadsTo (exec (Ldx Double false dst src off) s) l u →
    held u (number dst) ≡ held s w
own_loaded dst src off low w s l u st at frame h = needed_is (s.reg (number src)) _ l u (λ a e h.
    let r = word_reached s src off low w a st at frame e in
    let there : region (length s.packet) s.shapes (address a off) 8 ≢ Nowhere = λ e. not_nowhere (592 - 8 * w) (sym r ∙ e) in
    let none = none_elsewhere (length s.packet) s.shapes (address a off) 8 st.packet_size there in
    let plain = subst (λ (o : Outcome). LeadsTo o l u) (plain_load s (address a off) false Double (number dst) none) h in
    let got = load_is (address a off) (InStack (592 - 8 * w)) s false Double (number dst) l u (no_counter (592 - 8 * w)) (subst (λ (place : Place). LeadsTo (load_from (address a off) place s false Double (number dst)) l u) r plain) in
    held_register u (number dst) (number_small dst) ∙ (ap (λ (t : State). t.reg (number dst)) got.done.1 ∙ (put_here s.reg (number dst) (Some got.x) ∙ (sym got.is ∙ sym (held_word s w at.within.first at.within.last))))) h

-- a store to such a word
record Stored (src : Register) (w : ℕ) (s : State) (l : Option Op) (u : State) : Type 0 where
  x : ℕ
  is : s.reg (number src) ≡ Some x
  label : l ≡ None
  done : u ≡ with_stack s (s.pc + 1) (put_bytes s.stack (592 - 8 * w) 8 x)

next_is : (t : State) (l : Option Op) (u : State) → LeadsTo (Next t) l u → (l ≡ None) × (u ≡ t)
next_is t None u h = (refl, sym h)
next_is t (Some (ops.Load m k j v)) u h = absurd h
next_is t (Some (ops.Add m k j d v)) u h = absurd h

own_stored : (dst src : Register) (off : ℤ) (low w : ℕ) (s : State) (l : Option Op) (u : State) → IsState s → IsWordAt dst off low w → s.reg 10 ≡ Some stack_end → LeadsTo (exec (Stx Double dst src off) s) l u → Stored src w s l u
own_stored dst src off low w s l u st at frame h = needed_is (s.reg (number src)) _ l u (λ x f h. needed_is (s.reg (number dst)) _ l u (λ a e h.
    let r = word_reached s dst off low w a st at frame e in
    let n = next_is (with_stack s (s.pc + 1) (put_bytes s.stack (592 - 8 * w) 8 x)) l u (subst (λ (place : Place). LeadsTo (store_to place s 8 x) l u) r h) in
    record { x = x; is = f; label = n.0; done = n.1 }) h) h

word_of_bytes : (f : ℕ → Option ℕ) (i z x : ℕ) → x < 256 ^ z → ((k : ℕ) → k < z → f (i + k) ≡ Some (byte_of k x)) → word_at f i z ≡ Some x
word_of_bytes f i zero x lt h = ap Some (omega arith)
word_of_bytes f i (suc z) x lt h =
    let first : f i ≡ Some (x % 256) = ap f (sym (add-zero i)) ∙ h 0 (omega arith) in
    let small : x / 256 < 256 ^ z = omega (arith, pow-succ' 256 z) in
    let rest = word_of_bytes f (i + 1) z (x / 256) small (λ k lt. let at : i + 1 + k ≡ i + suc k = omega arith in ap f at ∙ h (suc k) (omega arith)) in
    ap (λ (o : Option ℕ). higher o (word_at f (i + 1) z)) first ∙ (ap (higher (Some (x % 256))) rest ∙ ap Some (omega arith))

put_inside : (f : ℕ → Option ℕ) (i z v k : ℕ) → k < z → put_bytes f i z v (i + k) ≡ Some (byte_of k v)
unfolding put_bytes
put_inside f i z v k h = grind (arith, nat_tests)

put_above : (f : ℕ → Option ℕ) (i v k : ℕ) → i + 8 ≤ k → put_bytes f i 8 v k ≡ f k
unfolding put_bytes
put_above f i v k h = grind (arith, nat_tests)

put_below : (f : ℕ → Option ℕ) (i v k : ℕ) → k < i → put_bytes f i 8 v k ≡ f k
unfolding put_bytes
put_below f i v k h = grind (arith, nat_tests)

word_same : (f g : ℕ → Option ℕ) (i z : ℕ) → ((k : ℕ) → i ≤ k → k < i + z → g k ≡ f k) → word_at g i z ≡ word_at f i z
word_same f g i zero h = refl
word_same f g i (suc z) h = ap (λ (o : Option ℕ). higher o (word_at g (i + 1) z)) (h i (omega arith) (omega arith)) ∙ ap (higher (f i)) (word_same f g (i + 1) z (λ k a b. h k (omega (arith, a)) (omega (arith, b))))

other_word : (f : ℕ → Option ℕ) (p q v : ℕ) → (p + 8 ≤ q) ⊎ (q + 8 ≤ p) → word_at (put_bytes f p 8 v) q 8 ≡ word_at f q 8
other_word f p q v (inl above) = word_same f (put_bytes f p 8 v) q 8 (λ k a b. put_above f p v k (omega (arith, above, a)))
other_word f p q v (inr below) = word_same f (put_bytes f p 8 v) q 8 (λ k a b. put_below f p v k (omega (arith, below, b)))

apart : (n w low : ℕ) → IsOwn low n → IsOwn low w → (n ≡ w → ⊥) → (n < w) ⊎ (w ≤ n) → (592 - 8 * w + 8 ≤ 592 - 8 * n) ⊎ (592 - 8 * n + 8 ≤ 592 - 8 * w)
apart n w low a b differs (inl less) = inl (omega (arith, less, a.last, b.last))
apart n w low a b differs (inr more) = by (cases_lt w n)
  where
    by : (w < n) ⊎ (n ≤ w) → (592 - 8 * w + 8 ≤ 592 - 8 * n) ⊎ (592 - 8 * n + 8 ≤ 592 - 8 * w)
    by (inl less) = inr (omega (arith, less, a.last, b.last))
    by (inr least) = absurd (differs (omega (arith, more, least)))

store_alone : (dst src : Register) (off : ℤ) (low : ℕ) (n m : Facts) (s : State) (g : ℕ → Option ℕ) (l : Option Op) (u : State) → Describes n s → Describes m u → IsOwnAccess dst off low n → LeadsTo (exec (Stx Double dst src off) s) l u →
    Alone (Stx Double dst src off) low m s g l u
store_alone dst src off low n m s g l u c d o h =
    let frame : s.reg 10 ≡ Some stack_end = o.frame s c in
    let is = own_stored dst src off low o.word s l u c.state o.at frame h in
    record {
      label = is.label;
      packet = ap (λ (t : State). t.packet) is.done;
      ifindex = ap (λ (t : State). t.ifindex) is.done;
      queue = ap (λ (t : State). t.queue) is.done;
      shapes = ap (λ (t : State). t.shapes) is.done;
      find = ap (λ (t : State). t.find) is.done;
      stack = λ j above. ap (λ (t : State). t.stack j) is.done ∙ put_above s.stack (592 - 8 * o.word) is.x j (omega (arith, above, o.at.within.below, o.at.within.last));
      stepped = record {
        fits = held_fits u d.state;
        kept = λ k small e. held_register u k small ∙ (ap (λ (t : State). t.reg k) is.done ∙ sym (held_register s k small));
        words = λ k stutters differs. absurd (differs refl refl);
        beside = λ dst' src' off' w k stutters e at there differs.
            let too = own_stored dst' src' off' low w s l u c.state at frame (subst (λ (i : Insn). LeadsTo (exec i s) l u) e h) in
            held_word u k there.first there.last ∙ (ap (λ (t : State). word_at t.stack (592 - 8 * k) 8) too.done ∙ (other_word s.stack (592 - 8 * w) (592 - 8 * k) too.x (apart k w low there at.within differs (cases_lt k w)) ∙ sym (held_word s k there.first there.last)));
        stored = λ dst' src' off' w stutters e at.
            let too = own_stored dst' src' off' low w s l u c.state at frame (subst (λ (i : Insn). LeadsTo (exec i s) l u) e h) in
            let small : too.x < 2 ^ 64 = c.state.words (number src') too.x too.is in
            held_word u w at.within.first at.within.last ∙ (ap (λ (t : State). word_at t.stack (592 - 8 * w) 8) too.done ∙
            (word_of_bytes (put_bytes s.stack (592 - 8 * w) 8 too.x) (592 - 8 * w) 8 too.x (omega (arith, small)) (λ k lt. put_inside s.stack (592 - 8 * w) 8 too.x k lt) ∙ (sym too.is ∙ sym (held_register s (number src') (number_small src')))));
        loaded = λ dst' src' off' w stutters e. absurd (cc (e));
        made = λ op wide dst' src' e. absurd (cc (e));
        noted = λ k x e small. held_register u k small ∙ noted_is m u k x d e;
        packet = end_kept s u (ap (λ (t : State). length t.packet) is.done);
        addresses = λ k id off safe v e small. noted_within m u k id off safe d v e small;
        long = λ least e. noted_long m u least d e;
        ends = λ k v small. noted_end m u k d v small;
        values = λ k j a b x one two differs small other. noted_values m u k j a b x d one two differs small other;
        ranged = λ k low high r small. noted_range m u k low high d r small;
        met = λ cond wide dst' src' off' e. absurd (cc (e));
        stays = λ k e. refl;
        old_kept = λ k e. refl;
        old_made = λ op wide dst' src' e. true_false e;
        alike = λ k small e. true_false e;
      };
    }

no_load : (i : Insn) (s u : State) (low : ℕ) → ((dst src : Register) (off : ℤ) → i ≡ Ldx Double false dst src off → ⊥) → (dst src : Register) (off : ℤ) (w : ℕ) → i ≡ Ldx Double false dst src off → IsWordAt src off low w → held u (number dst) ≡ held s w
no_load i s u low differs dst src off w e at = absurd (differs dst src off e)

load_alone : (size : Size) (signed : Bool) (dst src : Register) (off : ℤ) (low : ℕ) (m : Facts) (s : State) (g : ℕ → Option ℕ) (l : Option Op) (u : State) → Describes m u → LeadsTo (exec (Ldx size signed dst src off) s) l u →
    ((a i j k : ℕ) → s.reg (number src) ≡ Some a → load_place (length s.packet) s.shapes (address a off) (size_bytes size) ≡ InCounter i j k → ⊥) → ((dst' src' : Register) (off' : ℤ) (w : ℕ) → Ldx size signed dst src off ≡ Ldx Double false dst' src' off' → IsWordAt src' off' low w → held u (number dst') ≡ held s w) →
    Alone (Ldx size signed dst src off) low m s g l u
load_alone size signed dst src off low m s g l u d h differs load = needed_is (s.reg (number src)) _ l u (λ a e step.
    let got = read_is s (address a off) signed size (number dst) l u (λ i j k at. differs a i j k e at) step in
    number_alone (Ldx size signed dst src off) low m s g l u (s.pc + 1) (number dst) (taken signed size got.x) (λ j. refl) refl refl d h load got.done) h

-- a step of the new program's own
pub own_alone : (i : Insn) (low : ℕ) (n m : Facts) (s : State) (g : ℕ → Option ℕ) (l : Option Op) (u : State) → IsOwnStep i low n → Describes n s → Describes m u → LeadsTo (exec i s) l u → Alone i low m s g l u
own_alone (Alu op wide dst src) low n m s g l u o c d h = needed (operand s src) _ l u (λ y step. needed (first_operand op (s.reg (number dst))) _ l u (λ x step.
    number_alone (Alu op wide dst src) low m s g l u (s.pc + 1) (number dst) _ (λ j. refl) refl refl d h (no_load (Alu op wide dst src) s u low (λ a b z e. cc (e))) (written_is s (s.pc + 1) (number dst) _ l u step)) step) h
own_alone (Neg wide dst) low n m s g l u o c d h = needed (s.reg (number dst)) _ l u (λ x step.
    number_alone (Neg wide dst) low m s g l u (s.pc + 1) (number dst) _ (λ j. refl) refl refl d h (no_load (Neg wide dst) s u low (λ a b z e. cc (e))) (written_is s (s.pc + 1) (number dst) _ l u step)) h
own_alone (End kind width dst) low n m s g l u o c d h = needed (s.reg (number dst)) _ l u (λ x step.
    number_alone (End kind width dst) low m s g l u (s.pc + 1) (number dst) _ (λ j. refl) refl refl d h (no_load (End kind width dst) s u low (λ a b z e. cc (e))) (written_is s (s.pc + 1) (number dst) _ l u step)) h
own_alone (MovSx wide bits dst src) low n m s g l u o c d h = needed (s.reg (number src)) _ l u (λ x step.
    number_alone (MovSx wide bits dst src) low m s g l u (s.pc + 1) (number dst) _ (λ j. refl) refl refl d h (no_load (MovSx wide bits dst src) s u low (λ a b z e. cc (e))) (written_is s (s.pc + 1) (number dst) _ l u step)) h
own_alone (Const dst value) low n m s g l u o c d h =
    number_alone (Const dst value) low m s g l u (s.pc + 2) (number dst) value (λ j. refl) refl refl d h (no_load (Const dst value) s u low (λ a b z e. cc (e))) (written_is s (s.pc + 2) (number dst) value l u h)
own_alone (MapRef dst k) low n m s g l u o c d h =
    number_alone (MapRef dst k) low m s g l u (s.pc + 2) (number dst) _ (λ j. refl) refl refl d h (no_load (MapRef dst k) s u low (λ a b z e. cc (e))) (written_is s (s.pc + 2) (number dst) _ l u h)
own_alone (Ldx size signed dst src off) low n m s g l u (inl narrow) c d h =
    load_alone size signed dst src off low m s g l u d h
    (λ a i j k e at. narrow.0 (counter_size (length s.packet) s.shapes (address a off) (size_bytes size) i j k (sym (below_values (length s.packet) s.shapes (address a off) (size_bytes size) (narrow.1 a s c e)) ∙ at)))
    (λ dst' src' off' w e at. absurd (narrow.0 (ap size_bytes (let same : size ≡ Double = cc (e) in same))))
own_alone (Ldx size signed dst src off) low n m s g l u (inr o) c d h =
    load_alone size signed dst src off low m s g l u d h
    (λ a i j k e at. no_counter (592 - 8 * o.1.word) i j k (sym (word_reached s src off low o.1.word a c.state o.1.at (o.1.frame s c) e) ∙ (ap (λ (z : ℕ). load_place (length s.packet) s.shapes (address a off) z) (sym (ap size_bytes o.0)) ∙ at)))
    (λ dst' src' off' w e at. own_loaded dst' src' off' low w s l u c.state at (o.1.frame s c) (subst (λ (i : Insn). LeadsTo (exec i s) l u) e h))
own_alone (St size dst off imm) low n m s g l u o c d h = absurd o
own_alone (Stx size dst src off) low n m s g l u o c d h =
    subst (λ (z : Size). Alone (Stx z dst src off) low m s g l u) (sym o.0) (store_alone dst src off low n m s g l u c d o.1 (subst (λ (z : Size). LeadsTo (exec (Stx z dst src off) s) l u) o.0 h))
own_alone (AddCounter fetch dst src off) low n m s g l u o c d h = absurd o
own_alone (Ja wide to) low n m s g l u o c d h = absurd o
own_alone (Jump cond wide dst src off) low n m s g l u o c d h = absurd o
own_alone (Call helper) low n m s g l u o c d h = absurd o
own_alone Exit low n m s g l u o c d h = absurd o
own_alone Second low n m s g l u o c d h = absurd o
