-- Ids: an instruction that makes one, and what is refined of one.
use Rattle.std.proofs.Common.{◌≡◌, ℕ, zero, suc, ◌+◌, ◌*◌, ◌^◌, ◌<◌, ◌≤◌, Bool, true, false, refl, Option, Some, None, cond, length, nat_eq, ap, ◌∙◌, arith}
use Rattle.std.specs.Prelude.{if◌then◌else◌, option_map}
use Rattle.std.proofs.lemmas.Bool.Decides.{nat_tests}
use Rattle.bpf_note.specs.declared.val.Val.{Val}
use Rattle.bpf_note.specs.declared.val.Val.TheVariants.{Unset, Num, Pkt, PktEnd, Stack, Ctx, Map, MaybeValue, Value}
use Rattle.bpf_note.specs.Bytes.{word_at, higher}
use Rattle.bpf_note.specs.State.{State, put, packet_start}
use Rattle.bpf_note.specs.Facts.{Facts, full, packet_id, forgotten, with_id, with_each, resolved}
use Rattle.bpf_note.specs.Describes.{Meaning, meaning, Describes, Reads, IsReading, Holds}

power_suc : (z : ℕ) → 256 ^ suc z ≡ 256 * 256 ^ z
power_suc z = omega arith

word_step : (o r : Option ℕ) (z x : ℕ) → ((b : ℕ) → o ≡ Some b → b < 256) → ((y : ℕ) → r ≡ Some y → y < 256 ^ z) → higher o r ≡ Some x → x < 256 ^ suc z
word_step None r z x h ih e = absurd (cc)
word_step (Some b) None z x h ih e = absurd (cc)
word_step (Some b) (Some y) z x h ih e = let same : b + 256 * y ≡ x = cc in omega (arith, power_suc z, h b refl, ih y refl)

-- a number of z bytes
pub word_below : (f : ℕ → Option ℕ) (i z x : ℕ) → ((i b : ℕ) → f i ≡ Some b → b < 256) → word_at f i z ≡ Some x → x < 256 ^ z
word_below f i zero x h e = let same : 0 ≡ x = cc in omega arith
word_below f i (suc z) x h e = word_step (f i) (word_at f (i + 1) z) z x (h i) (λ y k. word_below f (i + 1) z y h k) e

pub same_id : (a b : ℕ) → true ≡ nat_eq a b → a ≡ b
same_id a b e = grind (arith, nat_tests)

pub full_reads : (w : Meaning) (x : ℕ) → x < 2 ^ 64 → IsReading w full x
full_reads w x h = (omega arith, omega arith)

-- the meaning with a base and an address of the id's own
abbrev pub renewed : Meaning → ℕ → ℕ → ℕ → Meaning
renewed w id b a = record { len = w.len; shapes = w.shapes; base = put w.base id b; address = put w.address id a }

pkt_forgotten : (w : Meaning) (id b a i off x : ℕ) (here : Bool) → here ≡ nat_eq i id → x < 2 ^ 64 → IsReading w (Pkt i off) x →
    IsReading (renewed w id b a) (if here then full else Pkt i off) x
pkt_forgotten w id b a i off x true e fits r = (omega arith, omega arith)
pkt_forgotten w id b a i off x false e fits r = (r.0 ∙ ap (λ (t : Bool). packet_start + cond t b (w.base i) + off) e, r.1)

value_forgotten : (w : Meaning) (id b a m i x : ℕ) (here : Bool) → here ≡ nat_eq i id → x < 2 ^ 64 → IsReading w (MaybeValue m i) x →
    IsReading (renewed w id b a) (if here then full else MaybeValue m i) x
value_forgotten w id b a m i x true e fits r = (omega arith, omega arith)
value_forgotten w id b a m i x false e fits r = (r.0 ∙ ap (λ (t : Bool). cond t a (w.address i)) e, r.1)

-- a value that doesn't carry the id any more reads the same
pub forgotten_reading : (w : Meaning) (id b a : ℕ) (v : Val) (x : ℕ) → x < 2 ^ 64 → IsReading w v x → IsReading (renewed w id b a) (forgotten id v) x
forgotten_reading w id b a Unset x fits r = tt
forgotten_reading w id b a (Num lo hi) x fits r = r
forgotten_reading w id b a (Pkt i off) x fits r = pkt_forgotten w id b a i off x (nat_eq i id) refl fits r
forgotten_reading w id b a PktEnd x fits r = r
forgotten_reading w id b a (Stack off) x fits r = r
forgotten_reading w id b a Ctx x fits r = r
forgotten_reading w id b a (Map m) x fits r = r
forgotten_reading w id b a (MaybeValue m i) x fits r = value_forgotten w id b a m i x (nat_eq i id) refl fits r
forgotten_reading w id b a (Value m) x fits r = r

-- each value is replaced by one that has the same reading
pub mapped_reads : (w u : Meaning) (f : Val → Val) (v : Val) (o : Option ℕ) → f Unset ≡ Unset → ((x : ℕ) → o ≡ Some x → IsReading w v x → IsReading u (f v) x) → Reads w v o → Reads u (f v) o
mapped_reads w u f v None e h r = ap f r ∙ e
mapped_reads w u f v (Some x) e h r = h x refl r

pub mapped_holds : (w u : Meaning) (f : Val → Val) (o : Option Val) (stack : ℕ → Option ℕ) (j : ℕ) →
    ((v : Val) (x : ℕ) → o ≡ Some v → word_at stack (8 * j) 8 ≡ Some x → IsReading w v x → IsReading u (f v) x) → Holds w o stack j → Holds u (option_map f o) stack j
mapped_holds w u f None stack j h k = tt
mapped_holds w u f (Some v) stack j h k = (k.0, k.1, h v k.0 refl k.1 k.2)

top_by : (b base t top : ℕ) (here : Bool) → b ≤ t → base ≤ top → cond here b base ≤ cond here t top
top_by b base t top true x y = x
top_by b base t top false x y = y

low_by : (b base limit : ℕ) (here : Bool) → b ≤ limit → base ≤ limit → cond here b base ≤ limit
low_by b base limit true x y = x
low_by b base limit false x y = y

safe_by : (b base len c : ℕ) (old : Option ℕ) (here : Bool) → ((c : ℕ) → old ≡ Some c → base + c ≤ len) → cond here None old ≡ Some c → cond here b base + c ≤ len
safe_by b base len c old true h e = absurd (cc)
safe_by b base len c old false h e = h c e

start_by : (b base : ℕ) (here : Bool) → here ≡ false → base ≡ 0 → cond here b base ≡ 0
start_by b base true e h = absurd (cc)
start_by b base false e h = h

-- what is known with a new id describes the state, with a base and an address for it
pub with_id_describes : (n : Facts) (s : State) (id b a top : ℕ) → nat_eq packet_id id ≡ false → b ≤ top → b ≤ 0xFFFFF → Describes n s → Describes (with_id n id top) s
with_id_describes n s id b a top other le low d =
    let w = meaning s d.base d.address in
    record {
      state = d.state;
      base = put d.base id b;
      address = put d.address id a;
      regs = λ k. mapped_reads w (renewed w id b a) (forgotten id) (n.reg k) (s.reg k) refl (λ x e. forgotten_reading w id b a (n.reg k) x (d.state.words k x e)) (d.regs k);
      kept = λ j. mapped_holds w (renewed w id b a) (forgotten id) (n.kept j) s.stack j
          (λ v x e at. let fits : x < 2 ^ 64 = word_below s.stack (8 * j) 8 x d.state.stack_bytes at in forgotten_reading w id b a v x fits) (d.kept j);
      set = d.set;
      start = start_by b (d.base packet_id) (nat_eq packet_id id) other d.start;
      tops = λ i. top_by b (d.base i) top (n.top i) (nat_eq i id) le (d.tops i);
      low = λ i. low_by b (d.base i) 0xFFFFF (nat_eq i id) low (d.low i);
      safes = λ i c. safe_by b (d.base i) (length s.packet) c (n.safe i) (nat_eq i id) (d.safes i);
    }

value_resolved : (w : Meaning) (id m i x : ℕ) (v : Val) (here : Bool) → here ≡ nat_eq i id → ((y : ℕ) → y ≡ w.address id → IsReading w v y) → IsReading w (MaybeValue m i) x →
    IsReading w (if here then v else MaybeValue m i) x
value_resolved w id m i x v true e h r = h x (r.0 ∙ ap w.address (same_id i id e))
value_resolved w id m i x v false e h r = r

-- all that carry the id are what its address is
pub resolved_reading : (w : Meaning) (id : ℕ) (v u : Val) (x : ℕ) → ((y : ℕ) → y ≡ w.address id → IsReading w v y) → IsReading w u x → IsReading w (resolved id v u) x
resolved_reading w id v Unset x h r = tt
resolved_reading w id v (Num lo hi) x h r = r
resolved_reading w id v (Pkt i off) x h r = r
resolved_reading w id v PktEnd x h r = r
resolved_reading w id v (Stack off) x h r = r
resolved_reading w id v Ctx x h r = r
resolved_reading w id v (Map m) x h r = r
resolved_reading w id v (MaybeValue m i) x h r = value_resolved w id m i x v (nat_eq i id) refl h r
resolved_reading w id v (Value m) x h r = r

pub resolved_describes : (n : Facts) (s : State) (id : ℕ) (v : Val) (d : Describes n s) → ((y : ℕ) → y ≡ d.address id → IsReading (meaning s d.base d.address) v y) → Describes (with_each n (resolved id v)) s
resolved_describes n s id v d h =
    let w = meaning s d.base d.address in
    record {
      state = d.state;
      base = d.base;
      address = d.address;
      regs = λ k. mapped_reads w w (resolved id v) (n.reg k) (s.reg k) refl (λ x e. resolved_reading w id v (n.reg k) x h) (d.regs k);
      kept = λ j. mapped_holds w w (resolved id v) (n.kept j) s.stack j (λ u x e at. resolved_reading w id v u x h) (d.kept j);
      set = d.set;
      start = d.start;
      tops = d.tops;
      low = d.low;
      safes = d.safes;
    }

put_here : (f : ℕ → ℕ) (k x : ℕ) (b : Bool) → b ≡ nat_eq k k → cond b x (f k) ≡ x
put_here f k x true e = refl
put_here f k x false e = absurd (grind (arith, nat_tests))

-- the same, with what the id stands for
pub with_id_known : (n : Facts) (s : State) (id b a top : ℕ) → nat_eq packet_id id ≡ false → b ≤ top → b ≤ 0xFFFFF → Describes n s →
    (d : Describes (with_id n id top) s) × (d.base id ≡ b) × (d.address id ≡ a)
unfolding with_id_describes
with_id_known n s id b a top other le low d =
    (with_id_describes n s id b a top other le low d, put_here d.base id b (nat_eq id id) refl, put_here d.address id a (nat_eq id id) refl)
