-- An instruction that both programs have does the same in both states, where they read the same.
use Rattle.std.proofs.Common.{ℕ, zero, suc, ◌+◌, ◌-◌, ◌≡◌, ◌<◌, ◌≤◌, refl, sym, ap, ◌∙◌, subst, arith, ℤ, pos, negsuc, List, length, Option, None, Some, Bool, true, false, ◌&&◌, nat_lt}
use Rattle.std.specs.Prelude.{if◌then◌else◌, ◌==◌, nat_le, slice_get}
use Rattle.std.proofs.lemmas.Bool.Decides.{nat_tests}
use Rattle.bpf_insn.specs.Register.{number}
use Rattle.bpf_insn.specs.Size.{size_bytes}
use Rattle.bpf_insn.specs.Signed.{sign_extended}
use Rattle.bpf_insn.specs.declared.size.Size.{Size}
use Rattle.bpf_insn.specs.declared.operand.Operand.{Operand}
use Rattle.bpf_insn.specs.declared.operand.Operand.TheVariants as operands
use Rattle.bpf_insn.specs.declared.insn.Insn.{Insn}
use Rattle.bpf_insn.specs.declared.insn.Insn.TheVariants.{Alu, Neg, End, MovSx, Const, MapRef, Ldx, St, Stx, AddCounter, Ja, Jump, Call, Exit, Second}
use Rattle.bpf_note.specs.Constants.{are_constants}
use Rattle.bpf_note.specs.State.{State, put}
use Rattle.bpf_note.specs.Bytes.{word_at, higher, bytes_at, before, byte_of, put_bytes}
use Rattle.bpf_note.specs.Keys.{key_size}
use Rattle.bpf_note.specs.declared.key.MapKey.{MapKey}
use Rattle.bpf_note.specs.declared.key.MapKey.TheVariants.{Index, Listed, Constants}
use Rattle.bpf_note.specs.Regions.{Place, InPacket, InStack, InContext, InCounter, Nowhere, region, load_place}
use Rattle.bpf_note.specs.declared.op.Op.{Op}
use Rattle.bpf_note.specs.declared.op.Op.TheVariants as ops
use Rattle.bpf_flow.specs.Step.{Outcome, Next, Loads, Adds, Exited, Fault, need, at_slot, with_number, is_frame, written, operand, first_operand, address, reached, loaded, load_from, load_constants, load_at, store_to, add_to, map_at, key_in, value_or_null, after_call, called, looked_up, looked_up_in, row_of, helped, exec, LeadsTo, taken, part}
use Rattle.bpf_flow.specs.Graph.{next_slot}
use Rattle.bpf_flow.proofs.StepLemmas.{no_fault, exited}
use Rattle.bpf_same.specs.LinearForms.{plus}
use Rattle.bpf_same.specs.Simulated.{is_jump}
use Rattle.bpf_same.specs.Stepped.{alters, operand_in, AreAlike, AreShared}
use Rattle.bpf_same.specs.Moved.{IsMoved}
use Rattle.bpf_note.proofs.LoadPlaceLemmas.{on_stack}

-- s with another slot, other registers and another stack
abbrev pub parted : State → ℕ → (ℕ → Option ℕ) → (ℕ → Option ℕ) → State
parted s p g h = record { pc = p; reg = g; stack = h; packet = s.packet; ifindex = s.ifindex; queue = s.queue; shapes = s.shapes; find = s.find }

-- after a step from s, which changes these registers, the old program's state v beside the new one's u
pub record Behind (a : ℕ → Bool) (q low : ℕ) (s : State) (g : ℕ → Option ℕ) (u v : State) : Type 0 where
  pub pc : v.pc ≡ q
  pub packet : v.packet ≡ u.packet
  pub ifindex : v.ifindex ≡ u.ifindex
  pub queue : v.queue ≡ u.queue
  pub shapes : v.shapes ≡ u.shapes
  pub find : v.find ≡ u.find
  pub stack : (i : ℕ) → low ≤ i → v.stack i ≡ u.stack i
  pub below : (i : ℕ) → i < low → u.stack i ≡ s.stack i
  pub changed : (k : ℕ) → a k ≡ true → v.reg k ≡ u.reg k
  pub left : (k : ℕ) → a k ≡ false → (u.reg k ≡ s.reg k) × (v.reg k ≡ g k)

-- the second outcome goes on, waits and exits as the first does
abbrev pub Pairs : (State → State → Type 0) → Outcome → Outcome → Type 0
Pairs R (Next u) o = (v : State) × (o ≡ Next v) × R u v
Pairs R (Loads m k j go) o = (to : ℕ → State) × (o ≡ Loads m k j to) × ((x : ℕ) → R (go x) (to x))
Pairs R (Adds m k j d go) o = (to : ℕ → State) × (o ≡ Adds m k j d to) × ((x : ℕ) → R (go x) (to x))
Pairs R (Exited x) o = o ≡ Exited x
Pairs R Fault o = Unit {0}

pub need_pairs : {A : Type 0} (R : State → State → Type 0) (o p : Option A) (f f' : A → Outcome) → p ≡ o → ((x : A) → o ≡ Some x → Pairs R (f x) (f' x)) → Pairs R (need o f) (need p f')
need_pairs R None p f f' e r = tt
need_pairs {A = A} R (Some x) p f f' e r = subst (λ (q : Option A). Pairs R (f x) (need q f')) (sym e) (r x refl)

-- two registers and offsets that are one address
address_pairs : (R : State → State → Type 0) (o q : Option ℕ) (off from : ℤ) (f f' : ℕ → Outcome) → plus q (Some (sign_extended from)) ≡ plus o (Some (sign_extended off)) → ((x : ℕ) → o ≡ Some x → Pairs R (f (address x off)) (f' (address x off))) →
    Pairs R (need o (λ x. f (address x off))) (need q (λ y. f' (address y from)))
address_pairs R None q off from f f' e r = tt
address_pairs R (Some x) None off from f f' e r = cc
address_pairs R (Some x) (Some y) off from f f' e r =
    let same : address x off ≡ address y from = cc in
    subst (λ (a : ℕ). Pairs R (f (address x off)) (f' a)) same (r x refl)

pub pairs_lead : (R : State → State → Type 0) (o p : Outcome) (l : Option Op) (u : State) → Pairs R o p → LeadsTo o l u → (v : State) × LeadsTo p l v × R u v
pairs_lead R (Next t) p None u k h = (k.0, subst (λ (o : Outcome). LeadsTo o None k.0) (sym k.1) refl, subst (λ (t : State). R t k.0) h k.2)
pairs_lead R (Next t) p (Some (ops.Load m k j v)) u q h = absurd h
pairs_lead R (Next t) p (Some (ops.Add m k j d v)) u q h = absurd h
pairs_lead R (Loads m k j go) p None u q h = absurd h
pairs_lead R (Loads m k j go) p (Some (ops.Load m' k' j' x)) u q h =
    (q.0 x, subst (λ (o : Outcome). LeadsTo o (Some (ops.Load m' k' j' x)) (q.0 x)) (sym q.1) (h.0, h.1, h.2, h.3, refl), subst (λ (t : State). R t (q.0 x)) h.4 (q.2 x))
pairs_lead R (Loads m k j go) p (Some (ops.Add m' k' j' d x)) u q h = absurd h
pairs_lead R (Adds m k j d go) p None u q h = absurd h
pairs_lead R (Adds m k j d go) p (Some (ops.Load m' k' j' x)) u q h = absurd h
pairs_lead R (Adds m k j d go) p (Some (ops.Add m' k' j' d' x)) u q h =
    (q.0 x, subst (λ (o : Outcome). LeadsTo o (Some (ops.Add m' k' j' d' x)) (q.0 x)) (sym q.1) (h.0, h.1, h.2, h.3, h.4, refl), subst (λ (t : State). R t (q.0 x)) h.5 (q.2 x))
pairs_lead R (Exited x) p l u q h = absurd (exited x l u h)
pairs_lead R Fault p l u q h = absurd (no_fault l u h)

pub pairs_exit : (R : State → State → Type 0) (o p : Outcome) (x : ℕ) → Pairs R o p → o ≡ Exited x → p ≡ Exited x
pairs_exit R (Next t) p x k e = cc
pairs_exit R (Loads m i j go) p x k e = cc
pairs_exit R (Adds m i j d go) p x k e = cc
pairs_exit R (Exited y) p x k e = k ∙ e
pairs_exit R Fault p x k e = cc

pub operand_is : (s : State) (src : Operand) → operand s src ≡ operand_in s.reg src
operand_is s (operands.Register r) = refl
operand_is s (operands.Immediate i) = refl

pub word_from : (f h : ℕ → Option ℕ) (low i z : ℕ) → ((j : ℕ) → low ≤ j → h j ≡ f j) → low ≤ i → word_at h i z ≡ word_at f i z
word_from f h low i zero e l = refl
word_from f h low i (suc z) e l = ap (λ (o : Option ℕ). higher o (word_at h (i + 1) z)) (e i l) ∙ ap (higher (f i)) (word_from f h low (i + 1) z e (omega (arith, l)))

pub bytes_from : (f h : ℕ → Option ℕ) (low i z : ℕ) → ((j : ℕ) → low ≤ j → h j ≡ f j) → low ≤ i → bytes_at h i z ≡ bytes_at f i z
bytes_from f h low i zero e l = refl
bytes_from f h low i (suc z) e l = ap (λ (o : Option ℕ). before o (bytes_at h (i + 1) z)) (e i l) ∙ ap (before (f i)) (bytes_from f h low (i + 1) z e (omega (arith, l)))

pub word_under : (f h : ℕ → Option ℕ) (low i z : ℕ) → ((j : ℕ) → j < low → h j ≡ f j) → i + z ≤ low → word_at h i z ≡ word_at f i z
word_under f h low i zero e l = refl
word_under f h low i (suc z) e l = ap (λ (o : Option ℕ). higher o (word_at h (i + 1) z)) (e i (omega (arith, l))) ∙ ap (higher (f i)) (word_under f h low (i + 1) z e (omega (arith, l)))

put_from : (f h : ℕ → Option ℕ) (j z x i : ℕ) → h i ≡ f i → put_bytes h j z x i ≡ put_bytes f j z x i
unfolding put_bytes
put_from f h j z x i e = ap (λ (o : Option ℕ). if nat_le j i && nat_lt i (j + z) then Some (byte_of (i - j) x) else o) e

pub put_under : (f : ℕ → Option ℕ) (j z x i : ℕ) → i < j → put_bytes f j z x i ≡ f i
unfolding put_bytes
put_under f j z x i l = grind (arith, nat_tests)

put_alike : (f g : ℕ → Option ℕ) (k j : ℕ) (v : Option ℕ) → (j == k) ≡ true → put g k v j ≡ put f k v j
put_alike f g k j v e = by (j == k) e
  where
    by : (b : Bool) → b ≡ true → (if b then v else g j) ≡ (if b then v else f j)
    by true e = refl
    by false e = cc

pub put_left : (f : ℕ → Option ℕ) (k j : ℕ) (v : Option ℕ) → (j == k) ≡ false → put f k v j ≡ f j
put_left f k j v e = by (j == k) e
  where
    by : (b : Bool) → b ≡ false → (if b then v else f j) ≡ f j
    by true e = cc
    by false e = refl

never : {P : Type 0} → false ≡ true → P
never e = cc

past_five : (k : ℕ) → nat_le k 5 ≡ false → (k == 0) ≡ false
past_five k e = grind (arith, nat_tests)

call_alike : (f g : ℕ → Option ℕ) (x k : ℕ) → nat_le k 5 ≡ true → after_call g x k ≡ after_call f x k
call_alike f g x k e = by (k == 0) (nat_le k 5) e
  where
    by : (a b : Bool) → b ≡ true → (if a then Some x else if b then None else g k) ≡ (if a then Some x else if b then None else f k)
    by true b e = refl
    by false true e = refl
    by false false e = cc

call_left : (f : ℕ → Option ℕ) (x k : ℕ) → nat_le k 5 ≡ false → after_call f x k ≡ f k
call_left f x k e = by (k == 0) (nat_le k 5) (past_five k e) e
  where
    by : (a b : Bool) → a ≡ false → b ≡ false → (if a then Some x else if b then None else f k) ≡ f k
    by true b d e = cc
    by false true d e = cc
    by false false d e = refl

module _ (s : State) (p low : ℕ) (g h : ℕ → Option ℕ) (above : (i : ℕ) → low ≤ i → h i ≡ s.stack i) where
  number_behind : (pc q k x : ℕ) → Behind (λ j. j == k) q low s g (with_number s pc k x) (with_number (parted s p g h) q k x)
  number_behind pc q k x = record {
    pc = refl;
    packet = refl;
    ifindex = refl;
    queue = refl;
    shapes = refl;
    find = refl;
    stack = above;
    below = λ i l. refl;
    changed = λ j e. put_alike s.reg g k j (Some x) e;
    left = λ j e. (put_left s.reg k j (Some x) e, put_left g k j (Some x) e);
  }

  written_pairs : (pc q k x : ℕ) → Pairs (Behind (λ j. j == k) q low s g) (written s pc k x) (written (parted s p g h) q k x)
  written_pairs pc q k x = by (is_frame k)
    where
      by : (b : Bool) → Pairs (Behind (λ j. j == k) q low s g) (if b then Fault else Next (with_number s pc k x)) (if b then Fault else Next (with_number (parted s p g h) q k x))
      by true = tt
      by false = (with_number (parted s p g h) q k x, refl, number_behind pc q k x)

  loaded_same : (place : Place) (z : ℕ) → ((j : ℕ) → place ≡ InStack j → low ≤ j) → loaded (parted s p g h) place z ≡ loaded s place z
  loaded_same (InPacket i) z e = refl
  loaded_same (InStack i) z e = word_from s.stack h low i z above (e i refl)
  loaded_same (InContext i) z e = refl
  loaded_same (InCounter m k j) z e = refl
  loaded_same Nowhere z e = refl

  plain_pairs : (place : Place) (signed : Bool) (size : Size) (dst : ℕ) → ((j : ℕ) → place ≡ InStack j → low ≤ j) → Pairs (Behind (λ j. j == dst) (p + 1) low s g)
      (need (loaded s place (size_bytes size)) (λ x. written s (s.pc + 1) dst (taken signed size x))) (need (loaded (parted s p g h) place (size_bytes size)) (λ x. written (parted s p g h) (p + 1) dst (taken signed size x)))
  plain_pairs place signed size dst e = need_pairs (Behind (λ j. j == dst) (p + 1) low s g) (loaded s place (size_bytes size)) (loaded (parted s p g h) place (size_bytes size)) _ _ (loaded_same place (size_bytes size) e)
      (λ x k. written_pairs (s.pc + 1) (p + 1) dst (taken signed size x))

  load_pairs : (a : ℕ) (place : Place) (signed : Bool) (size : Size) (dst : ℕ) → ((j : ℕ) → place ≡ InStack j → low ≤ j) → Pairs (Behind (λ j. j == dst) (p + 1) low s g) (load_from a place s signed size dst) (load_from a place (parted s p g h) signed size dst)
  load_pairs a (InPacket i) signed size dst e = plain_pairs (InPacket i) signed size dst e
  load_pairs a (InStack i) signed size dst e = plain_pairs (InStack i) signed size dst e
  load_pairs a (InContext i) signed size dst e = plain_pairs (InContext i) signed size dst e
  load_pairs a (InCounter m k j) signed size dst e = by (is_frame dst)
    where
      by : (b : Bool) → Pairs (Behind (λ j. j == dst) (p + 1) low s g) (if b then Fault else Loads m k j (λ x. with_number s (s.pc + 1) dst (taken signed size (part size a x))))
          (if b then Fault else Loads m k j (λ x. with_number (parted s p g h) (p + 1) dst (taken signed size (part size a x))))
      by true = tt
      by false = ((λ x. with_number (parted s p g h) (p + 1) dst (taken signed size (part size a x))), refl, λ x. number_behind (s.pc + 1) (p + 1) dst (taken signed size (part size a x)))
  load_pairs a Nowhere signed size dst e = tt

  load_at_pairs : (a : ℕ) (signed : Bool) (size : Size) (dst : ℕ) → ((j : ℕ) → region (length s.packet) s.shapes a (size_bytes size) ≡ InStack j → low ≤ j) →
      Pairs (Behind (λ j. j == dst) (p + 1) low s g) (load_at s a signed size dst) (load_at (parted s p g h) a signed size dst)
  load_at_pairs a signed size dst e = by (are_constants s.shapes a (size_bytes size))
    where
      by : (b : Bool) → Pairs (Behind (λ j. j == dst) (p + 1) low s g)
          (if b then load_constants s a signed size dst else load_from a (load_place (length s.packet) s.shapes a (size_bytes size)) s signed size dst)
          (if b then load_constants (parted s p g h) a signed size dst else load_from a (load_place (length s.packet) s.shapes a (size_bytes size)) (parted s p g h) signed size dst)
      by true = written_pairs (s.pc + 1) (p + 1) dst _
      by false = load_pairs a (load_place (length s.packet) s.shapes a (size_bytes size)) signed size dst (λ j at. e j (on_stack (length s.packet) s.shapes a (size_bytes size) j at))

  store_pairs : (place : Place) (z x : ℕ) → ((j : ℕ) → place ≡ InStack j → low ≤ j) → Pairs (Behind (λ j. false) (p + 1) low s g) (store_to place s z x) (store_to place (parted s p g h) z x)
  store_pairs (InPacket i) z x e = (
    _,
    refl,
    record {
      pc = refl;
      packet = refl;
      ifindex = refl;
      queue = refl;
      shapes = refl;
      find = refl;
      stack = above;
      below = λ j l. refl;
      changed = λ k e. never e;
      left = λ k e. (refl, refl);
    },
  )
  store_pairs (InStack i) z x e = (
    _,
    refl,
    record {
      pc = refl;
      packet = refl;
      ifindex = refl;
      queue = refl;
      shapes = refl;
      find = refl;
      stack = λ j l. put_from s.stack h i z x j (above j l);
      below = λ j l. put_under s.stack i z x j (omega (arith, l, e i refl));
      changed = λ k e. never e;
      left = λ k e. (refl, refl);
    },
  )
  store_pairs (InContext i) z x e = tt
  store_pairs (InCounter m k j) z x e = tt
  store_pairs Nowhere z x e = tt

  add_pairs : (place : Place) (fetch : Bool) (src d : ℕ) → Pairs (Behind (λ j. fetch && j == src) (p + 1) low s g) (add_to place s fetch src d) (add_to place (parted s p g h) fetch src d)
  add_pairs (InCounter m k j) true src d = by (is_frame src)
    where
      by : (b : Bool) → Pairs (Behind (λ j. j == src) (p + 1) low s g) (if b then Fault else Adds m k j d (λ x. with_number s (s.pc + 1) src x)) (if b then Fault else Adds m k j d (λ x. with_number (parted s p g h) (p + 1) src x))
      by true = tt
      by false = ((λ x. with_number (parted s p g h) (p + 1) src x), refl, λ x. number_behind (s.pc + 1) (p + 1) src x)
  add_pairs (InCounter m k j) false src d = (
    (λ x. at_slot (parted s p g h) (p + 1)),
    refl,
    λ x. record {
      pc = refl;
      packet = refl;
      ifindex = refl;
      queue = refl;
      shapes = refl;
      find = refl;
      stack = above;
      below = λ j l. refl;
      changed = λ k e. never e;
      left = λ k e. (refl, refl);
    },
  )
  add_pairs (InPacket i) fetch src d = tt
  add_pairs (InStack i) fetch src d = tt
  add_pairs (InContext i) fetch src d = tt
  add_pairs Nowhere fetch src d = tt

  key_same : (place : Place) (z : ℕ) → ((j : ℕ) → place ≡ InStack j → low ≤ j) → key_in place (parted s p g h) z ≡ key_in place s z
  key_same (InPacket i) z e = refl
  key_same (InStack i) z e = bytes_from s.stack h low i z above (e i refl)
  key_same (InContext i) z e = refl
  key_same (InCounter m k j) z e = refl
  key_same Nowhere z e = refl

  row_same : (m : ℕ) (by : MapKey) (key : List ℕ) → row_of (parted s p g h) m by key ≡ row_of s m by key
  row_same m Index key = refl
  row_same m (Listed kind) key = refl
  row_same m (Constants bytes) key = refl

  called_behind : (x : ℕ) → Behind (λ k. nat_le k 5) (p + 1) low s g (called s x) (called (parted s p g h) x)
  called_behind x = record {
    pc = refl;
    packet = refl;
    ifindex = refl;
    queue = refl;
    shapes = refl;
    find = refl;
    stack = above;
    below = λ i l. refl;
    changed = λ k e. call_alike s.reg g x k e;
    left = λ k e. (call_left s.reg x k e, call_left g x k e);
  }

  help_pairs : (helper : ℤ) → g 1 ≡ s.reg 1 → g 2 ≡ s.reg 2 → ((a j z : ℕ) → s.reg 2 ≡ Some a → region (length s.packet) s.shapes a z ≡ InStack j → low ≤ j) →
      Pairs (Behind (λ k. nat_le k 5) (p + 1) low s g) (helped helper s) (helped helper (parted s p g h))
  help_pairs (pos n) first second e = by (n == 1)
    where
      R : State → State → Type 0
      R = Behind (λ k. nat_le k 5) (p + 1) low s g

      by : (b : Bool) → Pairs R (if b then looked_up s else Fault) (if b then looked_up (parted s p g h) else Fault)
      by true = need_pairs R (s.reg 1) (g 1) _ _ first (λ x is1.
          need_pairs R (s.reg 2) (g 2) _ _ second (λ a is2.
          need_pairs R (map_at s x) (map_at s x) _ _ refl (λ m is3.
          need_pairs R (slice_get s.shapes m) (slice_get s.shapes m) (looked_up_in s a m) (looked_up_in (parted s p g h) a m) refl (λ shape is4.
          need_pairs R (key_in (region (length s.packet) s.shapes a (key_size shape.key)) s (key_size shape.key)) (key_in (region (length s.packet) s.shapes a (key_size shape.key)) (parted s p g h) (key_size shape.key)) _ _
          (key_same (region (length s.packet) s.shapes a (key_size shape.key)) (key_size shape.key) (λ j at. e a j (key_size shape.key) is2 at)) (λ key is5. (
            called (parted s p g h) (value_or_null shape m (row_of s m shape.key key)),
            ap (λ (row : Option ℕ). Next (called (parted s p g h) (value_or_null shape m row))) (row_same m shape.key key),
            called_behind (value_or_null shape m (row_of s m shape.key key)),
          ))))))
      by false = tt
  help_pairs (negsuc n) first second e = tt

  pub exec_pairs : (i : Insn) → is_jump i ≡ false → AreAlike i s.reg g → AreShared i low s → Pairs (Behind (λ k. alters i k) (next_slot i p) low s g) (exec i s) (exec i (parted s p g h))
  exec_pairs (Alu op wide dst src) j a e =
      need_pairs _ (operand s src) (operand (parted s p g h) src) _ _ (operand_is (parted s p g h) src ∙ (a.0 ∙ sym (operand_is s src))) (λ x is.
      need_pairs _ (first_operand op (s.reg (number dst))) (first_operand op (g (number dst))) _ _ a.1 (λ d is. written_pairs (s.pc + 1) (p + 1) (number dst) _))
  exec_pairs (Neg wide dst) j a e = need_pairs _ (s.reg (number dst)) (g (number dst)) _ _ a (λ d is. written_pairs (s.pc + 1) (p + 1) (number dst) _)
  exec_pairs (End kind width dst) j a e = need_pairs _ (s.reg (number dst)) (g (number dst)) _ _ a (λ d is. written_pairs (s.pc + 1) (p + 1) (number dst) _)
  exec_pairs (MovSx wide bits dst src) j a e = need_pairs _ (s.reg (number src)) (g (number src)) _ _ a (λ d is. written_pairs (s.pc + 1) (p + 1) (number dst) _)
  exec_pairs (Const dst value) j a e = written_pairs (s.pc + 2) (p + 2) (number dst) value
  exec_pairs (MapRef dst m) j a e = written_pairs (s.pc + 2) (p + 2) (number dst) _
  exec_pairs (Ldx size signed dst src off) j a e = need_pairs _ (s.reg (number src)) (g (number src)) _ _ a (λ x is. load_at_pairs (address x off) signed size (number dst) (λ i at. e x i is at))
  exec_pairs (St size dst off imm) j a e = need_pairs _ (s.reg (number dst)) (g (number dst)) _ _ a (λ x is. store_pairs (reached s x off (size_bytes size)) (size_bytes size) (sign_extended imm) (λ i at. e x i is at))
  exec_pairs (Stx size dst src off) j a e =
      need_pairs _ (s.reg (number src)) (g (number src)) _ _ a.1 (λ y there.
      need_pairs _ (s.reg (number dst)) (g (number dst)) _ _ a.0 (λ x is. store_pairs (reached s x off (size_bytes size)) (size_bytes size) y (λ i at. e x i is at)))
  exec_pairs (AddCounter fetch dst src off) j a e =
      need_pairs _ (s.reg (number src)) (g (number src)) _ _ a.1 (λ y there.
      need_pairs _ (s.reg (number dst)) (g (number dst)) _ _ a.0 (λ x is. add_pairs (reached s x off 8) fetch (number src) y))
  exec_pairs (Ja wide_offset to) j a e = cc
  exec_pairs (Jump cond wide dst src off) j a e = cc
  exec_pairs (Call helper) j a e = help_pairs helper a.0 a.1 e
  exec_pairs Exit j a e = need_pairs _ (s.reg 0) (g 0) _ _ a (λ x is. refl)
  exec_pairs Second j a e = tt

  -- an access of the same address by another register or offset
  pub moved_pairs : (i old : Insn) → IsMoved i old s.reg g → AreShared i low s → Pairs (Behind (λ k. alters i k) (next_slot i p) low s g) (exec i s) (exec old (parted s p g h))
  moved_pairs (Ldx size signed dst src off) old m e =
      subst (λ (o : Insn). Pairs (Behind (λ k. k == number dst) (p + 1) low s g) (exec (Ldx size signed dst src off) s) (exec o (parted s p g h))) (sym m.2)
      (address_pairs _ (s.reg (number src)) (g (number m.0)) off m.1 (λ a. load_at s a signed size (number dst)) (λ a. load_at (parted s p g h) a signed size (number dst)) m.3
      (λ x is. load_at_pairs (address x off) signed size (number dst) (λ i at. e x i is at)))
  moved_pairs (Stx size dst src off) old m e =
      let z = size_bytes size in
      subst (λ (o : Insn). Pairs (Behind (λ k. false) (p + 1) low s g) (exec (Stx size dst src off) s) (exec o (parted s p g h))) (sym m.3)
      (need_pairs _ (s.reg (number src)) (g (number m.1)) _ _ m.5 (λ y there.
      address_pairs _ (s.reg (number dst)) (g (number m.0)) off m.2 (λ a. store_to (region (length s.packet) s.shapes a z) s z y) (λ a. store_to (region (length s.packet) s.shapes a z) (parted s p g h) z y) m.4
      (λ x is. store_pairs (reached s x off z) z y (λ i at. e x i is at))))
  moved_pairs (Alu op wide dst src) old m e = absurd m
  moved_pairs (Neg wide dst) old m e = absurd m
  moved_pairs (End kind width dst) old m e = absurd m
  moved_pairs (MovSx wide bits dst src) old m e = absurd m
  moved_pairs (Const dst value) old m e = absurd m
  moved_pairs (MapRef dst k) old m e = absurd m
  moved_pairs (St size dst off imm) old m e = absurd m
  moved_pairs (AddCounter fetch dst src off) old m e =
      subst (λ (o : Insn). Pairs (Behind (λ k. fetch && k == number src) (p + 1) low s g) (exec (AddCounter fetch dst src off) s) (exec o (parted s p g h))) (sym m.2)
      (need_pairs _ (s.reg (number src)) (g (number src)) _ _ m.4 (λ y there.
      address_pairs _ (s.reg (number dst)) (g (number m.0)) off m.1 (λ a. add_to (region (length s.packet) s.shapes a 8) s fetch (number src) y) (λ a. add_to (region (length s.packet) s.shapes a 8) (parted s p g h) fetch (number src) y) m.3
      (λ x is. add_pairs (reached s x off 8) fetch (number src) y)))
  moved_pairs (Ja wide_offset to) old m e = absurd m
  moved_pairs (Jump cond wide dst src off) old m e = absurd m
  moved_pairs (Call helper) old m e = absurd m
  moved_pairs Exit old m e = absurd m
  moved_pairs Second old m e = absurd m
