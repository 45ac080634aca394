-- A join describes what either of the two describes.
use Rattle.std.proofs.Common.{◌≡◌, ◌⊎◌, inl, inr, ℕ, zero, suc, ◌+◌, ◌*◌, ◌^◌, ◌<◌, ◌≤◌, Bool, true, false, ◌&&◌, refl, Option, Some, None, length, nat_eq, subst, sym, ap, ◌∙◌, arith, min, ℤ, pos, negsuc}
use Rattle.std.specs.Prelude.{if◌then◌else◌}
use Rattle.std.proofs.lemmas.Bool.Decides.{nat_tests}
use Rattle.std.proofs.Math.Nat.{pow-succ'}
use Rattle.std.proofs.lemmas.Int.{ints}
use Rattle.bpf_note.specs.declared.val.Val.{Val}
use Rattle.bpf_note.specs.declared.val.Val.TheVariants.{Unset, Num, Pkt, PktEnd, Stack, Ctx, Map, MaybeValue, Value}
use Rattle.bpf_note.specs.State.{State, IsStart, context_start, stack_end}
use Rattle.bpf_note.specs.Bytes.{word_at, higher}
use Rattle.bpf_note.specs.Facts.{Facts, full, entry}
use Rattle.bpf_note.specs.Describes.{Describes, Meaning, meaning, Reads, IsReading, Holds, IsBegun}
use Rattle.bpf_note.specs.Join.{is_same_offset, is_same_pointer, joined_value, joined_kept, lesser, joined}

step : (o r : Option ℕ) (z x : ℕ) → ((b : ℕ) → o ≡ Some b → b < 256) → ((y : ℕ) → r ≡ Some y → y < 256 ^ z) → higher o r ≡ Some x → x < 256 ^ suc z
step None r z x h ih e = absurd (cc)
step (Some b) None z x h ih e = absurd (cc)
step (Some b) (Some y) z x h ih e = let same : b + 256 * y ≡ x = cc in omega (arith, pow-succ' 256 z, h b refl, ih y refl)

-- a number of z bytes is below 256 ^ z
pub word_below : (f : ℕ → Option ℕ) (i z x : ℕ) → ((i b : ℕ) → f i ≡ Some b → b < 256) → word_at f i z ≡ Some x → x < 256 ^ z
word_below f i zero x h e = let same : 0 ≡ x = cc in omega arith
word_below f i (suc z) x h e = step (f i) (word_at f (i + 1) z) z x (h i) (λ y k. word_below f (i + 1) z y h k) e

parts : (o r : Option ℕ) (x : ℕ) → higher o r ≡ Some x → (b : ℕ) × (y : ℕ) × (o ≡ Some b) × (r ≡ Some y)
parts None r x e = absurd (cc)
parts (Some b) None x e = absurd (cc)
parts (Some b) (Some y) x e = (b, y, refl, refl)

pub any_number : (w : Meaning) (x : ℕ) → x < 2 ^ 64 → IsReading w full x
any_number w x h = (omega arith, omega arith)

int_same : (a b : ℤ) → is_same_offset a b ≡ true → a ≡ b
int_same (pos a) (pos b) h = ap pos (grind (arith, nat_tests))
int_same (negsuc a) (negsuc b) h = ap negsuc (grind (arith, nat_tests))
int_same (pos a) (negsuc b) h = absurd (let wrong : false ≡ true = h in cc)
int_same (negsuc a) (pos b) h = absurd (let wrong : false ≡ true = h in cc)

pub both_true : (a b : Bool) → (a && b) ≡ true → (a ≡ true) × (b ≡ true)
both_true true b h = (refl, h)
both_true false b h = absurd (let wrong : false ≡ true = h in cc)

number_same : (a b : ℕ) → nat_eq a b ≡ true → a ≡ b
number_same a b h = grind (arith, nat_tests)

pub same_pointer : (v u : Val) → is_same_pointer v u ≡ true → v ≡ u
same_pointer (Pkt id off) (Pkt id' off') h =
    let s = both_true (nat_eq id id') (nat_eq off off') h in
    let a : id ≡ id' = number_same id id' s.0 in
    let b : off ≡ off' = number_same off off' s.1 in
    cc
same_pointer PktEnd PktEnd h = refl
same_pointer (Stack off) (Stack off') h = ap Stack (int_same off off' h)
same_pointer Ctx Ctx h = refl
same_pointer (Map m) (Map m') h = ap Map (number_same m m' h)
same_pointer (MaybeValue m id) (MaybeValue m' id') h =
    let s = both_true (nat_eq m m') (nat_eq id id') h in
    let a : m ≡ m' = number_same m m' s.0 in
    let b : id ≡ id' = number_same id id' s.1 in
    cc
same_pointer (Value m) (Value m') h = ap Value (number_same m m' h)
same_pointer v u h = absurd (let wrong : false ≡ true = h in cc)

chosen : (w : Meaning) (v : Val) (b : Bool) (x : ℕ) → x < 2 ^ 64 → (b ≡ true → IsReading w v x) → IsReading w (if b then v else full) x
chosen w v true x fits h = h refl
chosen w v false x fits h = any_number w x fits

left_reads : (w : Meaning) (v u : Val) (x : ℕ) → x < 2 ^ 64 → IsReading w v x → IsReading w (joined_value v u) x
left_reads w Unset u x fits r = tt
left_reads w (Num lo hi) Unset x fits r = tt
left_reads w (Pkt id off) Unset x fits r = tt
left_reads w PktEnd Unset x fits r = tt
left_reads w (Stack off) Unset x fits r = tt
left_reads w Ctx Unset x fits r = tt
left_reads w (Map m) Unset x fits r = tt
left_reads w (MaybeValue m id) Unset x fits r = tt
left_reads w (Value m) Unset x fits r = tt
left_reads w (Num lo hi) (Num lo' hi') x fits r = (omega arith, omega arith)
left_reads w v u x fits r = chosen w v (is_same_pointer v u) x fits (λ e. r)

right_reads : (w : Meaning) (v u : Val) (x : ℕ) → x < 2 ^ 64 → IsReading w u x → IsReading w (joined_value v u) x
right_reads w Unset u x fits r = tt
right_reads w (Num lo hi) Unset x fits r = tt
right_reads w (Pkt id off) Unset x fits r = tt
right_reads w PktEnd Unset x fits r = tt
right_reads w (Stack off) Unset x fits r = tt
right_reads w Ctx Unset x fits r = tt
right_reads w (Map m) Unset x fits r = tt
right_reads w (MaybeValue m id) Unset x fits r = tt
right_reads w (Value m) Unset x fits r = tt
right_reads w (Num lo hi) (Num lo' hi') x fits r = (omega arith, omega arith)
right_reads w v u x fits r = chosen w v (is_same_pointer v u) x fits (λ e. subst (λ (z : Val). IsReading w z x) (sym (same_pointer v u e)) r)

right_unset : (v : Val) → joined_value v Unset ≡ Unset
right_unset Unset = refl
right_unset (Num lo hi) = refl
right_unset (Pkt id off) = refl
right_unset PktEnd = refl
right_unset (Stack off) = refl
right_unset Ctx = refl
right_unset (Map m) = refl
right_unset (MaybeValue m id) = refl
right_unset (Value m) = refl

left_register : (w : Meaning) (v u : Val) (o : Option ℕ) → ((x : ℕ) → o ≡ Some x → x < 2 ^ 64) → Reads w v o → Reads w (joined_value v u) o
left_register w v u None h r = ap (λ (v : Val). joined_value v u) r
left_register w v u (Some x) h r = left_reads w v u x (h x refl) r

right_register : (w : Meaning) (v u : Val) (o : Option ℕ) → ((x : ℕ) → o ≡ Some x → x < 2 ^ 64) → Reads w u o → Reads w (joined_value v u) o
right_register w v u None h r = ap (joined_value v) r ∙ right_unset v
right_register w v u (Some x) h r = right_reads w v u x (h x refl) r

left_holds : (w : Meaning) (a b : Option Val) (f : ℕ → Option ℕ) (j : ℕ) → ((i b : ℕ) → f i ≡ Some b → b < 256) → Holds w a f j → Holds w (joined_kept a b) f j
left_holds w None b f j small h = tt
left_holds w (Some v) None f j small h = tt
left_holds w (Some v) (Some u) f j small h = let fits : h.0 < 2 ^ 64 = word_below f (8 * j) 8 h.0 small h.1 in (h.0, h.1, left_reads w v u h.0 fits h.2)

right_holds : (w : Meaning) (a b : Option Val) (f : ℕ → Option ℕ) (j : ℕ) → ((i b : ℕ) → f i ≡ Some b → b < 256) → Holds w b f j → Holds w (joined_kept a b) f j
right_holds w None b f j small h = tt
right_holds w (Some v) None f j small h = tt
right_holds w (Some v) (Some u) f j small h = let fits : h.0 < 2 ^ 64 = word_below f (8 * j) 8 h.0 small h.1 in (h.0, h.1, right_reads w v u h.0 fits h.2)

left_safe : (base len b : ℕ) (o p : Option ℕ) → ((b : ℕ) → o ≡ Some b → base + b ≤ len) → lesser o p ≡ Some b → base + b ≤ len
left_safe base len b None p h e = absurd (cc)
left_safe base len b (Some x) None h e = absurd (cc)
left_safe base len b (Some x) (Some y) h e = let same : min x y ≡ b = cc in omega (arith, h x refl)

right_safe : (base len b : ℕ) (o p : Option ℕ) → ((b : ℕ) → p ≡ Some b → base + b ≤ len) → lesser o p ≡ Some b → base + b ≤ len
right_safe base len b None p h e = absurd (cc)
right_safe base len b (Some x) None h e = absurd (cc)
right_safe base len b (Some x) (Some y) h e = let same : min x y ≡ b = cc in omega (arith, h y refl)

pub joined_describes : (a b : Facts) (s : State) → Describes a s ⊎ Describes b s → Describes (joined a b) s
joined_describes a b s (inl d) = record {
  state = d.state;
  base = d.base;
  address = d.address;
  regs = λ k. left_register (meaning s d.base d.address) (a.reg k) (b.reg k) (s.reg k) (d.state.words k) (d.regs k);
  kept = λ j. left_holds (meaning s d.base d.address) (a.kept j) (b.kept j) s.stack j d.state.stack_bytes (d.kept j);
  set = λ i e. d.set i (both_true (a.set i) (b.set i) e).0;
  start = d.start;
  tops = λ id. omega (arith, d.tops id);
  low = d.low;
  safes = λ id c. left_safe (d.base id) (length s.packet) c (a.safe id) (b.safe id) (d.safes id);
}
joined_describes a b s (inr d) = record {
  state = d.state;
  base = d.base;
  address = d.address;
  regs = λ k. right_register (meaning s d.base d.address) (a.reg k) (b.reg k) (s.reg k) (d.state.words k) (d.regs k);
  kept = λ j. right_holds (meaning s d.base d.address) (a.kept j) (b.kept j) s.stack j d.state.stack_bytes (d.kept j);
  set = λ i e. d.set i (both_true (a.set i) (b.set i) e).1;
  start = d.start;
  tops = λ id. omega (arith, d.tops id);
  low = d.low;
  safes = λ id c. right_safe (d.base id) (length s.packet) c (a.safe id) (b.safe id) (d.safes id);
}

-- what is known at the entry
context_set : (w : Meaning) (o : Option ℕ) → Reads w Ctx o → o ≡ Some context_start
context_set w None r = absurd (let wrong : Ctx ≡ Unset = r in cc)
context_set w (Some x) r = ap Some r

frame_set : (w : Meaning) (o : Option ℕ) → Reads w (Stack (pos 0)) o → o ≡ Some stack_end
frame_set w None r = absurd (let wrong : Stack (pos 0) ≡ Unset = r in cc)
frame_set w (Some x) r = let at : pos x ≡ pos stack_end = r.0 in let same : x ≡ stack_end = cc in ap Some same

begun_register : (w : Meaning) (o : Option ℕ) (one ten : Bool) (x : ℕ) → Reads w (if one then Ctx else if ten then Stack (pos 0) else Unset) o →
    (if one then Some context_start else if ten then Some stack_end else None) ≡ Some x → o ≡ Some x
begun_register w o true ten x r e = context_set w o r ∙ e
begun_register w o false true x r e = frame_set w o r ∙ e
begun_register w o false false x r e = absurd (cc)

pub entry_begun : (s : State) → Describes entry s → IsBegun s
entry_begun s d = record {
  state = d.state;
  reg = λ k x e. begun_register (meaning s d.base d.address) (s.reg k) (nat_eq k 1) (nat_eq k 10) x (d.regs k) e;
}

nothing_said : (w : Meaning) (o : Option ℕ) → Reads w Unset o
nothing_said w None = refl
nothing_said w (Some x) = tt

entry_register : (w : Meaning) (o : Option ℕ) (one ten : Bool) → ((x : ℕ) → (if one then Some context_start else if ten then Some stack_end else None) ≡ Some x → o ≡ Some x) →
    Reads w (if one then Ctx else if ten then Stack (pos 0) else Unset) o
entry_register w o true ten h = subst (Reads w Ctx) (sym (h context_start refl)) refl
entry_register w o false true h = subst (Reads w (Stack (pos 0))) (sym (h stack_end refl)) (refl, omega (arith, ints), omega (arith, ints))
entry_register w o false false h = nothing_said w o

pub begun_entry : (s : State) → IsBegun s → Describes entry s
begun_entry s b = record {
  state = b.state;
  base = λ id. 0;
  address = λ id. 0;
  regs = λ k. entry_register (meaning s (λ id. 0) (λ id. 0)) (s.reg k) (nat_eq k 1) (nat_eq k 10) (b.reg k);
  kept = λ j. tt;
  set = λ i e. absurd (let wrong : false ≡ true = e in cc);
  start = refl;
  tops = λ id. omega arith;
  low = λ id. omega arith;
  safes = λ id c e. absurd (let wrong : None ≡ Some c = e in cc);
}

pub start_begun : (s : State) → IsStart s → IsBegun s
start_begun s h = record { state = h.state; reg = λ k x e. h.reg k ∙ e }
