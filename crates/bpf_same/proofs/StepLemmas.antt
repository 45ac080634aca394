-- What a step makes of what terms and the old program's registers hold.
use Rattle.std.proofs.Common.{ℕ, ◌+◌, ◌-◌, ◌*◌, ◌≡◌, ◌<◌, ◌≤◌, ◌^◌, refl, sym, ap, ◌∙◌, subst, arith, length, slice_get, Option, None, Some, Bool, true, false, nat_lt}
use Rattle.std.specs.Prelude.{if◌then◌else◌, ◌==◌}
use Rattle.std.proofs.lemmas.Bool.Decides.{nat_tests}
use Rattle.bpf_insn.specs.Register.{number}
use Rattle.bpf_insn.specs.declared.alu_op.AluOp.{AluOp}
use Rattle.bpf_insn.specs.declared.register.Register.{Register}
use Rattle.bpf_insn.specs.declared.operand.Operand.{Operand}
use Rattle.bpf_insn.specs.declared.operand.Operand.TheVariants as operands
use Rattle.bpf_insn.specs.declared.insn.Insn.{Insn}
use Rattle.bpf_insn.specs.declared.insn.Insn.TheVariants.{Alu, Neg, End, MovSx, Const, MapRef, Ldx, St, Stx, AddCounter, Ja, Jump, Call, Exit, Second}
use Rattle.bpf_note.specs.declared.val.Val.{Val}
use Rattle.bpf_note.specs.declared.val.Val.TheVariants.{Unset, Num, Pkt, PktEnd, Stack, Ctx, Map, MaybeValue, Value}
use Rattle.bpf_note.specs.State.{State, IsState, packet_start, put}
use Rattle.bpf_note.specs.Bytes.{word_at}
use Rattle.bpf_note.specs.Facts.{Facts, packet_id}
use Rattle.bpf_note.specs.Describes.{Describes, Meaning, meaning, Reads, IsValueOf}
use Rattle.bpf_note.specs.Regions.{InCounter, counter_at}
use Rattle.bpf_note.specs.Shape.{Shape}
use Rattle.bpf_note.proofs.RegionLemmas.{counter_at_address}
use Rattle.bpf_flow.proofs.ReachLemmas.{map_small}
use Rattle.bpf_note.proofs.JoinDescribes.{word_below}
use Rattle.bpf_note.specs.declared.op.Op.{Op}
use Rattle.bpf_note.specs.declared.op.Op.TheVariants as ops
use Rattle.bpf_flow.specs.Step.{Outcome, Next, Loads, Adds, Exited, Fault, need, with_number, is_frame, written, operand, first_operand, exec, LeadsTo}
use Rattle.bpf_flow.proofs.StepLemmas.{no_fault, exited}
use Rattle.bpf_flow.proofs.KeptLemmas.{Keeps, exec_keeps}
use Rattle.bpf_flow.proofs.RegisterLemmas.{number_small}
use Rattle.bpf_insn.specs.Signed.{sign_extended}
use Rattle.bpf_same.specs.LinearForms.{held, plus, IsWord}
use Rattle.bpf_same.specs.Moved.{IsMoved}
use Rattle.bpf_same.specs.Ranges.{IsLeastLength, IsRead, Lies}
use Rattle.bpf_same.specs.Simulated.{is_jump}
use Rattle.bpf_same.specs.Stepped.{alters, IsOwn, operand_in, Computes, number_in, IsWithin, IsLong, Stepped, AreAlike}
use Rattle.bpf_same.proofs.PairLemmas.{Behind, operand_is, word_under}

pub needed_is : {A P : Type 0} (o : Option A) (go : A → Outcome) (l : Option Op) (u : State) → ((x : A) → o ≡ Some x → LeadsTo (go x) l u → P) → LeadsTo (need o go) l u → P
needed_is None go l u f h = absurd (no_fault l u h)
needed_is (Some x) go l u f h = f x refl h

if_true : {A : Type 0} (b : Bool) (x y : A) → b ≡ true → (if b then x else y) ≡ x
if_true true x y e = refl
if_true false x y e = cc

if_false : {A : Type 0} (b : Bool) (x y : A) → b ≡ false → (if b then x else y) ≡ y
if_false true x y e = cc
if_false false x y e = refl

pub held_register : (s : State) (k : ℕ) → k < 11 → held s k ≡ s.reg k
held_register s k l = if_true (nat_lt k 11) (s.reg k) (if nat_lt k 64 then word_at s.stack (592 - 8 * k) 8 else Some (packet_start + length s.packet)) (grind (arith, nat_tests))

pub held_word : (s : State) (n : ℕ) → 11 ≤ n → n < 64 → held s n ≡ word_at s.stack (592 - 8 * n) 8
held_word s n l m =
    let word = word_at s.stack (592 - 8 * n) 8 in
    let stop = Some (packet_start + length s.packet) in
    if_false (nat_lt n 11) (s.reg n) (if nat_lt n 64 then word else stop) (grind (arith, nat_tests)) ∙ if_true (nat_lt n 64) word stop (grind (arith, nat_tests))

-- past all terms stands the packet's end
pub held_end : (s : State) → held s 64 ≡ Some (packet_start + length s.packet)
held_end s = refl

pub held_fits : (s : State) → IsState s → (n : ℕ) → IsWord (held s n)
held_fits s st n = by (nat_lt n 11) (nat_lt n 64)
  where
    by : (b c : Bool) → IsWord (if b then s.reg n else if c then word_at s.stack (592 - 8 * n) 8 else Some (packet_start + length s.packet))
    by true c = λ x e. st.words n x e
    by false true = λ x e. let small : x < 256 ^ 8 = word_below s.stack (592 - 8 * n) 8 x st.stack_bytes e in omega (arith, small)
    by false false = λ x e. let same : packet_start + length s.packet ≡ x = cc in omega (arith, same, st.packet_size)

-- a packet of the same length ends at the same address
pub end_kept : (s u : State) → length u.packet ≡ length s.packet → held u 64 ≡ held s 64
end_kept s u e = ap (λ (n : ℕ). Some (packet_start + n)) e

operand_same : (f g : ℕ → Option ℕ) → ((k : ℕ) → k < 11 → f k ≡ g k) → (src : Operand) → operand_in f src ≡ operand_in g src
operand_same f g h (operands.Register r) = h (number r) (number_small r)
operand_same f g h (operands.Immediate i) = refl

-- what is alike of a view of the registers is alike of another one
pub alike_of : (i : Insn) (f f' g : ℕ → Option ℕ) → ((k : ℕ) → k < 11 → f k ≡ f' k) → AreAlike i f g → AreAlike i f' g
alike_of (Alu op wide dst src) f f' g h a = (a.0 ∙ operand_same f f' h src, a.1 ∙ ap (first_operand op) (h (number dst) (number_small dst)))
alike_of (Neg wide dst) f f' g h a = a ∙ h (number dst) (number_small dst)
alike_of (End kind width dst) f f' g h a = a ∙ h (number dst) (number_small dst)
alike_of (MovSx wide bits dst src) f f' g h a = a ∙ h (number src) (number_small src)
alike_of (Const dst value) f f' g h a = tt
alike_of (MapRef dst m) f f' g h a = tt
alike_of (Ldx size signed dst src off) f f' g h a = a ∙ h (number src) (number_small src)
alike_of (St size dst off imm) f f' g h a = a ∙ h (number dst) (number_small dst)
alike_of (Stx size dst src off) f f' g h a = (a.0 ∙ h (number dst) (number_small dst), a.1 ∙ h (number src) (number_small src))
alike_of (AddCounter fetch dst src off) f f' g h a = (a.0 ∙ h (number dst) (number_small dst), a.1 ∙ h (number src) (number_small src))
alike_of (Ja wide_offset to) f f' g h a = tt
alike_of (Jump cond wide dst src off) f f' g h a = (a.0 ∙ h (number dst) (number_small dst), a.1 ∙ operand_same f f' h src)
alike_of (Call helper) f f' g h a = (a.0 ∙ h 1 (omega arith), a.1 ∙ h 2 (omega arith))
alike_of Exit f f' g h a = a ∙ h 0 (omega arith)
alike_of Second f f' g h a = tt

-- the same of an access that is moved
pub moved_of : (i old : Insn) (f f' g : ℕ → Option ℕ) → ((k : ℕ) → k < 11 → f k ≡ f' k) → IsMoved i old f g → IsMoved i old f' g
moved_of (Ldx size signed dst src off) old f f' g h m = (m.0, m.1, m.2, m.3 ∙ ap (λ (o : Option ℕ). plus o (Some (sign_extended off))) (h (number src) (number_small src)))
moved_of (Stx size dst src off) old f f' g h m = (m.0, m.1, m.2, m.3, m.4 ∙ ap (λ (o : Option ℕ). plus o (Some (sign_extended off))) (h (number dst) (number_small dst)), m.5 ∙ h (number src) (number_small src))
moved_of (Alu op wide dst src) old f f' g h m = absurd m
moved_of (Neg wide dst) old f f' g h m = absurd m
moved_of (End kind width dst) old f f' g h m = absurd m
moved_of (MovSx wide bits dst src) old f f' g h m = absurd m
moved_of (Const dst value) old f f' g h m = absurd m
moved_of (MapRef dst k) old f f' g h m = absurd m
moved_of (St size dst off imm) old f f' g h m = absurd m
moved_of (AddCounter fetch dst src off) old f f' g h m = (m.0, m.1, m.2, m.3 ∙ ap (λ (o : Option ℕ). plus o (Some (sign_extended off))) (h (number dst) (number_small dst)), m.4 ∙ h (number src) (number_small src))
moved_of (Ja wide_offset to) old f f' g h m = absurd m
moved_of (Jump cond wide dst src off) old f f' g h m = absurd m
moved_of (Call helper) old f f' g h m = absurd m
moved_of Exit old f f' g h m = absurd m
moved_of Second old f f' g h m = absurd m

one_number : (lo hi x y : ℕ) (b : Bool) → b ≡ (lo == hi) → (if b then Some lo else None) ≡ Some x → lo ≤ y → y ≤ hi → Some y ≡ Some x
one_number lo hi x y true t e l h = let same : lo ≡ x = cc in let both : lo ≡ hi = grind (arith, nat_tests) in ap Some (omega (arith, same, both, l, h))
one_number lo hi x y false t e l h = cc

one_address : (id off x y base : ℕ) (b : Bool) → b ≡ (id == packet_id) → (if b then Some (packet_start + off) else None) ≡ Some x → (id ≡ packet_id → base ≡ 0) → y ≡ packet_start + base + off → Some y ≡ Some x
one_address id off x y base true t e z h =
    let same : packet_start + off ≡ x = cc in
    let here : id ≡ packet_id = grind (arith, nat_tests) in
    let none : base ≡ 0 = z here in
    ap Some (h ∙ (ap (λ (b : ℕ). packet_start + b + off) none ∙ same))
one_address id off x y base false t e z h = cc

number_read : (w : Meaning) (v : Val) (o : Option ℕ) (x : ℕ) → w.base packet_id ≡ 0 → Reads w v o → number_in v ≡ Some x → o ≡ Some x
number_read w (Num lo hi) None x z r e = cc
number_read w (Num lo hi) (Some y) x z r e = one_number lo hi x y (lo == hi) refl e r.0 r.1
number_read w (Pkt id off) None x z r e = cc
number_read w (Pkt id off) (Some y) x z r e = one_address id off x y (w.base id) (id == packet_id) refl e (λ same. ap w.base same ∙ z) r.0
number_read w Unset o x z r e = cc
number_read w PktEnd o x z r e = cc
number_read w (Stack off) o x z r e = cc
number_read w Ctx o x z r e = cc
number_read w (Map m) o x z r e = cc
number_read w (MaybeValue m id) o x z r e = cc
number_read w (Value m) o x z r e = cc

address_is : (w : Meaning) (o : Option ℕ) (id off : ℕ) → Reads w (Pkt id off) o → o ≡ Some (packet_start + w.base id + off)
address_is w None id off r = cc
address_is w (Some x) id off r = ap Some r.0

pub end_is : (w : Meaning) (o : Option ℕ) → Reads w PktEnd o → o ≡ Some (packet_start + w.len)
end_is w None r = cc
end_is w (Some x) r = ap Some r

-- what a note says of an address in the packet, and of its length
pub noted_within : (m : Facts) (u : State) (k id off safe : ℕ) → Describes m u → m.reg k ≡ Pkt id off → m.safe id ≡ Some safe → k < 11 → IsWithin (held u) k off safe
noted_within m u k id off safe d v e small =
    let w = meaning u d.base d.address in
    let is : u.reg k ≡ Some (packet_start + d.base id + off) = address_is w (u.reg k) id off (subst (λ (v : Val). Reads w v (u.reg k)) v (d.regs k)) in
    let inside = d.safes id safe e in
    record {
      x = packet_start + d.base id + off;
      stop = packet_start + length u.packet;
      is = held_register u k small ∙ is;
      packet_end = held_end u;
      from = omega arith;
      to = omega (arith, inside);
    }

pub noted_long : (m : Facts) (u : State) (least : ℕ) → Describes m u → IsLeastLength m least → IsLong (held u) least
noted_long m u least d h = let l = h u d in record { stop = packet_start + length u.packet; packet_end = held_end u; reach = omega (arith, l) }

pub noted_end : (m : Facts) (u : State) (k : ℕ) → Describes m u → m.reg k ≡ PktEnd → k < 11 → held u k ≡ held u 64
noted_end m u k d v small =
    let w = meaning u d.base d.address in
    held_register u k small ∙ (end_is w (u.reg k) (subst (λ (v : Val). Reads w v (u.reg k)) v (d.regs k)) ∙ sym (held_end u))

value_read : (w : Meaning) (a : ℕ) (o : Option ℕ) (x : ℕ) → Reads w (Value a) o → o ≡ Some x → IsValueOf (slice_get w.shapes a) a x
value_read w a None x r e = cc
value_read w a (Some y) x r e = subst (λ (z : ℕ). IsValueOf (slice_get w.shapes a) a z) (cc (e)) r

value_lies : (u : State) → IsState u → (a x : ℕ) (o : Option Shape) → slice_get u.shapes a ≡ o → IsValueOf o a x → (k : ℕ) × (counter_at u.shapes x ≡ InCounter a k 0)
value_lies u st a x None e v = absurd v
value_lies u st a x (Some s) e v =
    let shape = st.shapes a s e in
    (v.0, ap (counter_at u.shapes) v.2 ∙ counter_at_address u.shapes a v.0 0 s (map_small u.shapes a s e st.maps) e shape v.1 (omega (arith, shape.some_counters)))

one_map : (a b k j : ℕ) → InCounter a k 0 ≡ InCounter b j 0 → a ≡ b
one_map a b k j e = cc

-- values of two maps begin at two addresses
pub noted_values : (m : Facts) (u : State) (k j a b x : ℕ) → Describes m u → m.reg k ≡ Value a → m.reg j ≡ Value b → (a ≡ b → ⊥) → k < 11 → j < 11 → held u k ≡ Some x → held u j ≡ Some x → ⊥
noted_values m u k j a b x d one two differs small other here there =
    let w = meaning u d.base d.address in
    let first = value_lies u d.state a x (slice_get u.shapes a) refl (value_read w a (u.reg k) x (subst (λ (v : Val). Reads w v (u.reg k)) one (d.regs k)) (sym (held_register u k small) ∙ here)) in
    let second = value_lies u d.state b x (slice_get u.shapes b) refl (value_read w b (u.reg j) x (subst (λ (v : Val). Reads w v (u.reg j)) two (d.regs j)) (sym (held_register u j other) ∙ there)) in
    differs (one_map a b first.0 second.0 (sym first.1 ∙ second.1))

pub noted_range : (m : Facts) (u : State) (k low high : ℕ) → Describes m u → IsRead m (m.reg k) low high → k < 11 → Lies (held u k) low high
noted_range m u k low high d read small = subst (λ (o : Option ℕ). Lies o low high) (sym (held_register u k small)) (read u d (u.reg k) (d.regs k))

pub noted_is : (m : Facts) (u : State) (k x : ℕ) → Describes m u → number_in (m.reg k) ≡ Some x → u.reg k ≡ Some x
noted_is m u k x d e = number_read (meaning u d.base d.address) (m.reg k) (u.reg k) x d.start (d.regs k) e

next_is : (t : State) (l : Option Op) (u : State) → LeadsTo (Next t) l u → (l ≡ None) × (u ≡ t)
next_is t None u h = (refl, sym h)
next_is t (Some (ops.Load m k j v)) u h = absurd h
next_is t (Some (ops.Add m k j d v)) u h = absurd h

pub written_is : (s : State) (pc k x : ℕ) (l : Option Op) (u : State) → LeadsTo (written s pc k x) l u → (l ≡ None) × (u ≡ with_number s pc k x)
written_is s pc k x l u h = by (is_frame k) h
  where
    by : (b : Bool) → LeadsTo (if b then Fault else Next (with_number s pc k x)) l u → (l ≡ None) × (u ≡ with_number s pc k x)
    by true h = absurd (no_fault l u h)
    by false h = next_is (with_number s pc k x) l u h

pub put_here : (f : ℕ → Option ℕ) (k : ℕ) (v : Option ℕ) → put f k v k ≡ v
put_here f k v = if_true (k == k) v (f k) (grind (arith, nat_tests))

pub alu_computes : (op : AluOp) (wide : Bool) (dst : Register) (src : Operand) (s : State) (l : Option Op) (u : State) → LeadsTo (exec (Alu op wide dst src) s) l u → Computes op wide (s.reg (number dst)) (operand_in s.reg src) (u.reg (number dst))
alu_computes op wide dst src s l u h =
    needed_is (operand s src) _ l u (λ y e h.
    needed_is (first_operand op (s.reg (number dst))) _ l u (λ x f h.
    let w = written_is s (s.pc + 1) (number dst) _ l u h in
    record { x = x; y = y; first = f; second = sym (operand_is s src) ∙ e; is = ap (λ (t : State). t.reg (number dst)) w.1 ∙ put_here s.reg (number dst) _ }) h) h

-- the same of what terms hold
pub computes_held : (op : AluOp) (wide : Bool) (dst : Register) (src : Operand) (s u : State) → Computes op wide (s.reg (number dst)) (operand_in s.reg src) (u.reg (number dst)) → Computes op wide (held s (number dst)) (operand_in (held s) src) (held u (number dst))
computes_held op wide dst src s u c = record {
  x = c.x;
  y = c.y;
  first = ap (first_operand op) (held_register s (number dst) (number_small dst)) ∙ c.first;
  second = operand_same (held s) s.reg (λ k l. held_register s k l) src ∙ c.second;
  is = held_register u (number dst) (number_small dst) ∙ c.is;
}

false_true : {P : Type 0} → false ≡ true → P
false_true e = cc

true_false : {P : Type 0} → true ≡ false → P
true_false e = cc

pub word_kept : (s u : State) (low n : ℕ) → IsOwn low n → ((i : ℕ) → i < low → u.stack i ≡ s.stack i) → held u n ≡ held s n
word_kept s u low n o h =
    held_word u n o.first o.last ∙ (word_under s.stack u.stack low (592 - 8 * n) 8 h (omega (arith, o.first, o.last, o.below)) ∙ sym (held_word s n o.first o.last))

-- no step changes the packet's length
length_kept : (s : State) (o : Outcome) (l : Option Op) (u : State) → Keeps s o → LeadsTo o l u → length u.packet ≡ length s.packet
length_kept s (Next t) None u k h = subst (λ (u : State). length u.packet ≡ length s.packet) h k.length
length_kept s (Next t) (Some (ops.Load m i j v)) u k h = absurd h
length_kept s (Next t) (Some (ops.Add m i j d v)) u k h = absurd h
length_kept s (Loads m i j go) None u k h = absurd h
length_kept s (Loads m i j go) (Some (ops.Load m' i' j' v)) u k h = subst (λ (u : State). length u.packet ≡ length s.packet) h.4 (k.1 v).length
length_kept s (Loads m i j go) (Some (ops.Add m' i' j' d' v)) u k h = absurd h
length_kept s (Adds m i j d go) None u k h = absurd h
length_kept s (Adds m i j d go) (Some (ops.Load m' i' j' v)) u k h = absurd h
length_kept s (Adds m i j d go) (Some (ops.Add m' i' j' d' v)) u k h = subst (λ (u : State). length u.packet ≡ length s.packet) h.5 (k.1 v).length
length_kept s (Exited x) l u k h = absurd (exited x l u h)
length_kept s Fault l u k h = absurd (no_fault l u h)

-- a step that both programs take
pub copied_stepped : (i : Insn) (s u t v : State) (low q : ℕ) (m : Facts) (l : Option Op) → LeadsTo (exec i s) l u → ((op : AluOp) (wide : Bool) (dst : Register) (src : Operand) → i ≡ Alu op wide dst src → LeadsTo (exec i t) l v) → is_jump i ≡ false → Describes m u → Behind (λ k. alters i k) q low s t.reg u v →
    Stepped i false low m (held s) t.reg (held u) v.reg
copied_stepped i s u t v low q m l h g j d b = record {
  fits = held_fits u d.state;
  kept = λ k small e. held_register u k small ∙ ((b.left k e).0 ∙ sym (held_register s k small));
  words = λ n o none. word_kept s u low n o b.below;
  beside = λ dst src off w n e. false_true e;
  stored = λ dst src off w e. false_true e;
  loaded = λ dst src off w e. false_true e;
  made = λ op wide dst src e. computes_held op wide dst src s u (alu_computes op wide dst src s l u (subst (λ (i : Insn). LeadsTo (exec i s) l u) e h));
  noted = λ k x e small. held_register u k small ∙ noted_is m u k x d e;
  packet = end_kept s u (length_kept s (exec i s) l u (exec_keeps s i) h);
  addresses = λ k id off safe v e small. noted_within m u k id off safe d v e small;
  long = λ least e. noted_long m u least d e;
  ends = λ k v small. noted_end m u k d v small;
  values = λ k j a b x one two differs small other. noted_values m u k j a b x d one two differs small other;
  ranged = λ k low high r small. noted_range m u k low high d r small;
  met = λ cond wide dst src off e. false_true (sym j ∙ ap is_jump e);
  stays = λ k e. false_true e;
  old_kept = λ k e. (b.left k e).1;
  old_made = λ op wide dst src f e. alu_computes op wide dst src t l v (subst (λ (i : Insn). LeadsTo (exec i t) l v) e (g op wide dst src e));
  alike = λ k small f e. b.changed k e ∙ sym (held_register u k small);
}
