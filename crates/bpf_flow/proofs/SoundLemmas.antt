-- The rule accounts for what each instruction does.
use Rattle.std.proofs.Common.{◌≡◌, ℕ, ◌+◌, ◌^◌, ◌<◌, ◌≤◌, inl, inr, Bool, true, false, ◌&&◌, ◌||◌, not, refl, Option, Some, [], ◌∷◌, length, nat_eq, subst, sym, ap, ◌∙◌, arith, ℤ, pos, negsuc}
use Rattle.std.specs.Prelude.{if◌then◌else◌, Ok}
use Rattle.std.proofs.lemmas.Bool.Decides.{nat_tests}
use Rattle.bpf_insn.specs.Register.{number}
use Rattle.bpf_insn.specs.Signed.{sign_extended}
use Rattle.bpf_insn.specs.Size.{size_bytes}
use Rattle.bpf_insn.specs.Arithmetic.{computed, negated}
use Rattle.bpf_insn.specs.ByteOrder.{swapped}
use Rattle.bpf_insn.specs.Extension.{moved_extended}
use Rattle.bpf_insn.specs.Conditions.{is_met}
use Rattle.bpf_insn.specs.declared.insn.Insn.{Insn}
use Rattle.bpf_insn.specs.declared.insn.Insn.TheVariants.{Alu, Neg, End, MovSx, Const, MapRef, Ldx, St, Stx, AddCounter, Ja, Jump, Call, Exit, Second}
use Rattle.bpf_insn.specs.declared.alu_op.AluOp.{AluOp}
use Rattle.bpf_insn.specs.declared.alu_op.AluOp.TheVariants.{Add, Sub, Mul, Div, SignedDiv, Or, And, Lsh, Rsh, Mod, SignedMod, Xor, Mov, Arsh}
use Rattle.bpf_insn.specs.declared.operand.Operand.{Operand}
use Rattle.bpf_insn.specs.declared.operand.Operand.TheVariants as operand_is
use Rattle.bpf_insn.specs.declared.condition.Condition.{Condition}
use Rattle.bpf_insn.specs.declared.register.Register.{Register}
use Rattle.bpf_insn.specs.declared.size.Size.{Size}
use Rattle.bpf_insn.specs.declared.refusal.Cause.TheVariants as cause
use Rattle.bpf_insn.proofs.ResultLemmas.{computed_fits, negated_fits, moved_extended_fits, swapped_fits}
use Rattle.bpf_note.specs.declared.val.Val.{Val}
use Rattle.bpf_note.specs.declared.val.Val.TheVariants as val
use Rattle.bpf_note.specs.State.{State, packet_start, references_start}
use Rattle.bpf_note.specs.Facts.{Facts, is_unset, packet_id, with_reg, with_id}
use Rattle.bpf_note.specs.Describes.{Meaning, meaning, Describes, IsReading, Reads}
use Rattle.bpf_flow.specs.Step.{Next, Exited, Fault, need, written, at_slot, is_frame, operand, target, jumped, address, reached, load_at, store_to, add_to, looked_up, exec}
use Rattle.bpf_flow.specs.Edges.{Edges, unless, and_then, sets, sets_computed}
use Rattle.bpf_flow.specs.Alu.{exactly, operand_value, result_of, folded, unfolded, constant, negated_value, extended_value, swapped_value}
use Rattle.bpf_flow.specs.Memory.{reach, load_value, stores, adds_at}
use Rattle.bpf_flow.specs.Branch.{taken, passed}
use Rattle.bpf_flow.specs.Rule.{after_of, IsRuled}
use Rattle.bpf_flow.specs.Call.{looks_up}
use Rattle.bpf_flow.specs.Sound.{Accounts, HasWords}
use Rattle.bpf_flow.specs.declared.computed.Computed.{Computed}
use Rattle.bpf_flow.specs.declared.computed.Computed.TheVariants.{Plain, Fresh}
use Rattle.bpf_flow.proofs.AnswerLemmas.{unless_ok, and_then_ok, at_target_ok, neither}
use Rattle.bpf_flow.proofs.RegisterLemmas.{number_small, is_set_reads, at_slot_describes, with_number_describes, written_sound, sets_sound}
use Rattle.bpf_flow.proofs.IdLemmas.{with_id_known}
use Rattle.bpf_flow.proofs.SumLemmas.{IsResult}
use Rattle.bpf_flow.proofs.ResultLemmas.{both_read, move_read, negated_reads, extended_reads, swapped_reads}
use Rattle.bpf_flow.proofs.ReachLemmas.{access_reaches}
use Rattle.bpf_flow.proofs.ConstantLemmas.{value_sound}
use Rattle.bpf_flow.proofs.StoreLemmas.{store_sound}
use Rattle.bpf_flow.proofs.JumpLemmas.{taken_describes, passed_describes}
use Rattle.bpf_flow.proofs.CallLemmas.{lookup_sound, add_sound}

word_fits : (z : ℤ) → sign_extended z < 2 ^ 64
word_fits (pos n) = omega arith
word_fits (negsuc n) = omega arith

other_id : (pc : ℕ) → pc < 4096 → nat_eq packet_id pc ≡ false
other_id pc h = grind (arith, nat_tests)

module _ (n : Facts) (s : State) (d : Describes n s) where
  abbrev w : Meaning
  w = meaning s d.base d.address

  operand_reads : (o : Operand) → Reads w (operand_value n o) (operand s o)
  operand_reads (operand_is.Register r) = d.regs (number r)
  operand_reads (operand_is.Immediate i) = (omega arith, omega arith)

  operand_fits : (o : Operand) (x : ℕ) → operand s o ≡ Some x → x < 2 ^ 64
  operand_fits (operand_is.Register r) x e = d.state.words (number r) x e
  operand_fits (operand_is.Immediate i) x e = let same : sign_extended i ≡ x = cc in omega (arith, word_fits i)

  -- a register that the rule finds set
  register : (k : ℕ) → is_unset (n.reg k) ≡ false → (x : ℕ) × (s.reg k ≡ Some x) × IsReading w (n.reg k) x
  register k e = is_set_reads w (n.reg k) (s.reg k) e (d.regs k)

  second : (o : Operand) → is_unset (operand_value n o) ≡ false → (x : ℕ) × (operand s o ≡ Some x) × IsReading w (operand_value n o) x
  second o e = is_set_reads w (operand_value n o) (operand s o) e (operand_reads o)

  -- a register gets what is computed
  computed_sound : (k x : ℕ) (c : Computed) (es : Edges) → s.pc < 4096 → k < 11 → x < 2 ^ 64 → IsResult w c x → sets_computed n s.pc k c ≡ Ok es → Accounts es (written s (s.pc + 1) k x)
  computed_sound k x (Plain v) es small below fits r h = sets_sound n s (s.pc + 1) k x v es d below fits r h
  computed_sound k x (Fresh top) es small below fits r h =
      let known = with_id_known n s s.pc r.0 0 top (other_id s.pc small) r.1 r.2 d in
      let base : packet_start + known.0.base s.pc + 0 ≡ packet_start + r.0 = ap (λ (b : ℕ). packet_start + b + 0) known.1 ∙ omega arith in
      written_sound (with_reg (with_id n s.pc top) k (val.Pkt s.pc 0)) s (s.pc + 1) k x es
      (with_number_describes (with_id n s.pc top) s (s.pc + 1) k x (val.Pkt s.pc 0) known.0 below fits (r.3 ∙ sym base, omega arith)) h

  tops : (id : ℕ) → w.base id ≤ n.top id
  tops id = d.tops id

  -- an operation that reads both operands
  both_sound : (op : AluOp) (wide : Bool) (dst : Register) (src : Operand) (es : Edges) → s.pc < 4096 →
      unless (is_unset (operand_value n src) || is_unset (n.reg (number dst))) cause.Unset
      (sets_computed n s.pc (number dst) (folded op wide (constant (n.reg (number dst))) (constant (operand_value n src)) (unfolded n op wide (n.reg (number dst)) (operand_value n src)))) ≡ Ok es →
      Accounts es (need (operand s src) (λ x. need (s.reg (number dst)) (λ a. written s (s.pc + 1) (number dst) (computed op wide a x))))
  both_sound op wide dst src es small h =
      let u = unless_ok _ cause.Unset _ es h in
      let set = neither (is_unset (operand_value n src)) (is_unset (n.reg (number dst))) u.0 in
      let x = second src set.0 in
      let a = register (number dst) set.1 in
      subst (λ (o : Option ℕ). Accounts es (need o (λ x. need (s.reg (number dst)) (λ a. written s (s.pc + 1) (number dst) (computed op wide a x))))) (sym x.1)
      (subst (λ (o : Option ℕ). Accounts es (need o (λ a. written s (s.pc + 1) (number dst) (computed op wide a x.0)))) (sym a.1)
      (computed_sound (number dst) (computed op wide a.0 x.0) _ es small (number_small dst) (computed_fits op wide a.0 x.0)
      (both_read w d.low n tops op wide (n.reg (number dst)) (operand_value n src) a.0 x.0 (d.state.words (number dst) a.0 a.1) (operand_fits src x.0 x.1) a.2 x.2) u.1))

  move_sound : (wide : Bool) (dst : Register) (src : Operand) (es : Edges) → s.pc < 4096 → after_of (Alu Mov wide dst src) s.pc n s.shapes ≡ Ok es → Accounts es (exec (Alu Mov wide dst src) s)
  move_sound wide dst src es small h =
      let u = unless_ok (is_unset (operand_value n src) || false) cause.Unset _ es h in
      let x = second src (neither (is_unset (operand_value n src)) false u.0).0 in
      subst (λ (o : Option ℕ). Accounts es (need o (λ x. written s (s.pc + 1) (number dst) (computed Mov wide 0 x)))) (sym x.1)
      (computed_sound (number dst) (computed Mov wide 0 x.0) (result_of n Mov wide (n.reg (number dst)) (operand_value n src)) es small (number_small dst) (computed_fits Mov wide 0 x.0)
      (move_read w d.low n tops wide (n.reg (number dst)) (operand_value n src) x.0 (operand_fits src x.0 x.1) x.2) u.1)

  alu_sound : (op : AluOp) (wide : Bool) (dst : Register) (src : Operand) (es : Edges) → s.pc < 4096 → after_of (Alu op wide dst src) s.pc n s.shapes ≡ Ok es → Accounts es (exec (Alu op wide dst src) s)
  alu_sound Mov wide dst src es small h = move_sound wide dst src es small h
  alu_sound Add wide dst src es small h = both_sound Add wide dst src es small h
  alu_sound Sub wide dst src es small h = both_sound Sub wide dst src es small h
  alu_sound Mul wide dst src es small h = both_sound Mul wide dst src es small h
  alu_sound Div wide dst src es small h = both_sound Div wide dst src es small h
  alu_sound SignedDiv wide dst src es small h = both_sound SignedDiv wide dst src es small h
  alu_sound Or wide dst src es small h = both_sound Or wide dst src es small h
  alu_sound And wide dst src es small h = both_sound And wide dst src es small h
  alu_sound Lsh wide dst src es small h = both_sound Lsh wide dst src es small h
  alu_sound Rsh wide dst src es small h = both_sound Rsh wide dst src es small h
  alu_sound Mod wide dst src es small h = both_sound Mod wide dst src es small h
  alu_sound SignedMod wide dst src es small h = both_sound SignedMod wide dst src es small h
  alu_sound Xor wide dst src es small h = both_sound Xor wide dst src es small h
  alu_sound Arsh wide dst src es small h = both_sound Arsh wide dst src es small h

  -- an operation of one operand
  one_sound : (dst src : Register) (f : ℕ → ℕ) (v : Val) (es : Edges) → ((x : ℕ) → f x < 2 ^ 64) → ((x : ℕ) → IsReading w (n.reg (number src)) x → IsReading w v (f x)) →
      unless (is_unset (n.reg (number src))) cause.Unset (sets n (s.pc + 1) (number dst) v) ≡ Ok es → Accounts es (need (s.reg (number src)) (λ x. written s (s.pc + 1) (number dst) (f x)))
  one_sound dst src f v es fits reads h =
      let u = unless_ok (is_unset (n.reg (number src))) cause.Unset (sets n (s.pc + 1) (number dst) v) es h in
      let x = register (number src) u.0 in
      subst (λ (o : Option ℕ). Accounts es (need o (λ x. written s (s.pc + 1) (number dst) (f x)))) (sym x.1)
      (sets_sound n s (s.pc + 1) (number dst) (f x.0) v es d (number_small dst) (fits x.0) (reads x.0 x.2) u.1)

  ldx_sound : (size : Size) (signed : Bool) (dst src : Register) (off : ℤ) (es : Edges) → after_of (Ldx size signed dst src off) s.pc n s.shapes ≡ Ok es → Accounts es (exec (Ldx size signed dst src off) s)
  ldx_sound size signed dst src off es h =
      let u = unless_ok (is_unset (n.reg (number src))) cause.Unset _ es h in
      let f = unless_ok (is_frame (number dst)) cause.FramePointer _ es u.1 in
      let l = and_then_ok (load_value n s.shapes (n.reg (number src)) off signed size) _ es f.1 in
      let a = register (number src) u.0 in
      subst (λ (o : Option ℕ). Accounts es (need o (λ a. load_at s (address a off) signed size (number dst)))) (sym a.1)
      (value_sound n s d (n.reg (number src)) a.0 off signed size (number dst) l.0 es (d.state.words (number src) a.0 a.1) (number_small dst) f.0 a.2 l.1 l.2)

  -- a store of x, which is a reading of v
  store_of : (size : Size) (dst : Register) (off : ℤ) (x : ℕ) (v : Val) (es : Edges) → x < 2 ^ 64 → IsReading w v x → is_unset (n.reg (number dst)) ≡ false →
      and_then (reach n (n.reg (number dst)) off (size_bytes size)) (stores n (s.pc + 1) size v) ≡ Ok es →
      Accounts es (need (s.reg (number dst)) (λ a. store_to (reached s a off (size_bytes size)) s (size_bytes size) x))
  store_of size dst off x v es fits r set h =
      let g = and_then_ok (reach n (n.reg (number dst)) off (size_bytes size)) (stores n (s.pc + 1) size v) es h in
      let a = register (number dst) set in
      subst (λ (o : Option ℕ). Accounts es (need o (λ a. store_to (reached s a off (size_bytes size)) s (size_bytes size) x))) (sym a.1)
      (store_sound n s g.0 (reached s a.0 off (size_bytes size)) size x v es d fits r
      (access_reaches n s d a.0 (d.state.words (number dst) a.0 a.1) off (size_bytes size) (n.reg (number dst)) g.0 a.2 g.1) g.2)

  st_sound : (size : Size) (dst : Register) (off imm : ℤ) (es : Edges) → after_of (St size dst off imm) s.pc n s.shapes ≡ Ok es → Accounts es (exec (St size dst off imm) s)
  st_sound size dst off imm es h =
      let u = unless_ok (is_unset (n.reg (number dst))) cause.Unset _ es h in
      store_of size dst off (sign_extended imm) (exactly (sign_extended imm)) es (word_fits imm) (omega arith, omega arith) u.0 u.1

  stx_sound : (size : Size) (dst src : Register) (off : ℤ) (es : Edges) → after_of (Stx size dst src off) s.pc n s.shapes ≡ Ok es → Accounts es (exec (Stx size dst src off) s)
  stx_sound size dst src off es h =
      let u = unless_ok _ cause.Unset _ es h in
      let set = neither (is_unset (n.reg (number src))) (is_unset (n.reg (number dst))) u.0 in
      let x = register (number src) set.0 in
      subst (λ (o : Option ℕ). Accounts es (need o (λ x. need (s.reg (number dst)) (λ a. store_to (reached s a off (size_bytes size)) s (size_bytes size) x)))) (sym x.1)
      (store_of size dst off x.0 (n.reg (number src)) es (d.state.words (number src) x.0 x.1) x.2 set.1 u.1)

  add_counter_sound : (fetch : Bool) (dst src : Register) (off : ℤ) (es : Edges) → after_of (AddCounter fetch dst src off) s.pc n s.shapes ≡ Ok es → Accounts es (exec (AddCounter fetch dst src off) s)
  add_counter_sound fetch dst src off es h =
      let u = unless_ok _ cause.Unset _ es h in
      let set = neither (is_unset (n.reg (number src))) (is_unset (n.reg (number dst))) u.0 in
      let f = unless_ok (fetch && is_frame (number src)) cause.FramePointer _ es u.1 in
      let g = and_then_ok (adds_at s.shapes (n.reg (number dst)) off) _ es f.1 in
      let x = register (number src) set.0 in
      let a = register (number dst) set.1 in
      subst (λ (o : Option ℕ). Accounts es (need o (λ x. need (s.reg (number dst)) (λ a. add_to (reached s a off 8) s fetch (number src) x)))) (sym x.1)
      (subst (λ (o : Option ℕ). Accounts es (need o (λ a. add_to (reached s a off 8) s fetch (number src) x.0))) (sym a.1)
      (add_sound n s d (n.reg (number dst)) a.0 x.0 (number src) off fetch g.0 es a.2 (d.state.words (number dst) a.0 a.1) g.1 f.0 (number_small src) g.2))

  jumps_to : (to : ℕ) (es : Edges) → ((to, n) ∷ []) ≡ es → Accounts es (Next (at_slot s to))
  jumps_to to es e = subst (λ (es : Edges). Accounts es (Next (at_slot s to))) e (inl (refl, at_slot_describes n s to d))

  ja_sound : (wide : Bool) (to : ℤ) (es : Edges) → after_of (Ja wide to) s.pc n s.shapes ≡ Ok es → Accounts es (exec (Ja wide to) s)
  ja_sound wide to es h =
      let t = at_target_ok (target s.pc to) _ es h in
      subst (λ (o : Option ℕ). Accounts es (need o (λ q. Next (at_slot s q)))) (sym t.1) (jumps_to t.0 es t.2)

  jump_by : (cond : Condition) (wide : Bool) (k to x y : ℕ) (o : Operand) (v u : Val) (met : Bool) → met ≡ is_met cond wide x y → s.reg k ≡ Some x → operand s o ≡ Some y → x < 2 ^ 64 → y < 2 ^ 64 →
      IsReading w v x → IsReading w u y → Accounts ((s.pc + 1, passed cond wide n k o v u) ∷ (to, taken cond wide n k o v u) ∷ []) (if met then Next (at_slot s to) else Next (at_slot s (s.pc + 1)))
  jump_by cond wide k to x y o v u true t e f fx fy rx ry = inr (inl (refl, at_slot_describes _ s to (taken_describes n s d cond wide k o v u x y e f fx fy rx ry (sym t))))
  jump_by cond wide k to x y o v u false t e f fx fy rx ry = inl (refl, at_slot_describes _ s (s.pc + 1) (passed_describes n s d cond wide k o v u x y e f fx fy rx ry (sym t)))

  jump_sound : (cond : Condition) (wide : Bool) (dst : Register) (src : Operand) (off : ℤ) (es : Edges) → after_of (Jump cond wide dst src off) s.pc n s.shapes ≡ Ok es → Accounts es (exec (Jump cond wide dst src off) s)
  jump_sound cond wide dst src off es h =
      let u = unless_ok _ cause.Unset _ es h in
      let set = neither (is_unset (n.reg (number dst))) (is_unset (operand_value n src)) u.0 in
      let x = register (number dst) set.0 in
      let y = second src set.1 in
      let t = at_target_ok (target s.pc off) _ es u.1 in
      subst (λ (o : Option ℕ). Accounts es (need o (λ a. need (operand s src) (λ b. if is_met cond wide a b then jumped s off else Next (at_slot s (s.pc + 1)))))) (sym x.1)
      (subst (λ (o : Option ℕ). Accounts es (need o (λ b. if is_met cond wide x.0 b then jumped s off else Next (at_slot s (s.pc + 1))))) (sym y.1)
      (subst (λ (o : Option ℕ). Accounts es (if is_met cond wide x.0 y.0 then need o (λ to. Next (at_slot s to)) else Next (at_slot s (s.pc + 1)))) (sym t.1)
      (subst (λ (es : Edges). Accounts es (if is_met cond wide x.0 y.0 then Next (at_slot s t.0) else Next (at_slot s (s.pc + 1)))) t.2
      (jump_by cond wide (number dst) t.0 x.0 y.0 src (n.reg (number dst)) (operand_value n src) (is_met cond wide x.0 y.0) refl x.1 y.1
      (d.state.words (number dst) x.0 x.1) (operand_fits src y.0 y.1) x.2 y.2))))

  call_goes_on : (es : Edges) → s.pc < 4096 → unless (is_unset (n.reg 1) || is_unset (n.reg 2)) cause.Unset (looks_up s.shapes n s.pc (n.reg 1) (n.reg 2)) ≡ Ok es → Accounts es (looked_up s)
  call_goes_on es small h =
      let u = unless_ok _ cause.Unset _ es h in
      let set = neither (is_unset (n.reg 1)) (is_unset (n.reg 2)) u.0 in
      let x = register 1 set.0 in
      let y = register 2 set.1 in
      lookup_sound n s (n.reg 1) (n.reg 2) x.0 y.0 es d small x.1 y.1 x.2 y.2 u.1

  call_by : (b : Bool) (es : Edges) → s.pc < 4096 → unless (not b) cause.Helper (unless (is_unset (n.reg 1) || is_unset (n.reg 2)) cause.Unset (looks_up s.shapes n s.pc (n.reg 1) (n.reg 2))) ≡ Ok es →
      Accounts es (if b then looked_up s else Fault)
  call_by true es small h = call_goes_on es small h
  call_by false es small h = absurd (cc)

  call_sound : (helper : ℤ) (es : Edges) → s.pc < 4096 → after_of (Call helper) s.pc n s.shapes ≡ Ok es → Accounts es (exec (Call helper) s)
  call_sound (pos h) es small e = call_by (nat_eq h 1) es small e
  call_sound (negsuc h) es small e = absurd (cc)

  exit_sound : (es : Edges) → after_of Exit s.pc n s.shapes ≡ Ok es → Accounts es (exec Exit s)
  exit_sound es h =
      let u = unless_ok (is_unset (n.reg 0)) cause.Unset (Ok []) es h in
      let x = register 0 u.0 in
      subst (λ (o : Option ℕ). Accounts es (need o Exited)) (sym x.1) tt

  reference_reads : (m : ℕ) → m < length s.shapes → IsReading w (val.Map m) (references_start + m)
  reference_reads m lt = (refl, lt)

  -- what the rule allows accounts for what the instruction does
  pub after_sound : (i : Insn) (es : Edges) → HasWords i → s.pc < 4096 → IsRuled i s.pc (length s.shapes) → after_of i s.pc n s.shapes ≡ Ok es → Accounts es (exec i s)
  after_sound (Alu op wide dst src) es f small g h = alu_sound op wide dst src es small h
  after_sound (Neg wide dst) es f small g h = one_sound dst dst (negated wide) (negated_value wide (n.reg (number dst))) es (negated_fits wide) (λ x r. negated_reads w wide (n.reg (number dst)) x r) h
  after_sound (End kind width dst) es f small g h = one_sound dst dst (swapped kind width) (swapped_value kind width (n.reg (number dst))) es (swapped_fits kind width) (λ x r. swapped_reads w kind width (n.reg (number dst)) x r) h
  after_sound (MovSx wide bits dst src) es f small g h = one_sound dst src (moved_extended wide bits) (extended_value wide bits (n.reg (number src))) es (moved_extended_fits wide bits) (λ x r. extended_reads w wide bits (n.reg (number src)) x r) h
  after_sound (Const dst value) es f small g h = sets_sound n s (s.pc + 2) (number dst) value (exactly value) es d (number_small dst) f (omega arith, omega arith) h
  after_sound (MapRef dst m) es f small g h =
      sets_sound n s (s.pc + 2) (number dst) (references_start + m) (val.Map m) es d (number_small dst) (omega (arith, d.state.maps, g)) (reference_reads m g) h
  after_sound (Ldx size signed dst src off) es f small g h = ldx_sound size signed dst src off es h
  after_sound (St size dst off imm) es f small g h = st_sound size dst off imm es h
  after_sound (Stx size dst src off) es f small g h = stx_sound size dst src off es h
  after_sound (AddCounter fetch dst src off) es f small g h = add_counter_sound fetch dst src off es h
  after_sound (Ja wide to) es f small g h = ja_sound wide to es h
  after_sound (Jump cond wide dst src off) es f small g h = jump_sound cond wide dst src off es h
  after_sound (Call helper) es f small g h = call_sound helper es small h
  after_sound Exit es f small g h = exit_sound es h
  after_sound Second es f small g h = absurd g
