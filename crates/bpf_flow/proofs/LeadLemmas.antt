-- The rule's edges are edges that the instruction has.
use Rattle.std.proofs.Common.{◌≡◌, ◌⊎◌, inl, inr, ◌+◌, ℕ, List, [], ◌∷◌, Option, Some, None, ◌&&◌, ◌||◌, not, sym, ap, subst}
use Rattle.std.specs.Prelude.{Ok, slice_get}
use Rattle.bpf_insn.specs.Register.{number}
use Rattle.bpf_insn.specs.declared.insn.Insn.{Insn}
use Rattle.bpf_insn.specs.declared.insn.Insn.TheVariants.{Alu, Neg, End, MovSx, Const, MapRef, Ldx, St, Stx, AddCounter, Ja, Jump, Call, Exit, Second}
use Rattle.bpf_insn.specs.declared.refusal.Cause.TheVariants as cause
use Rattle.bpf_insn.specs.declared.size.Size.{Size}
use Rattle.bpf_note.specs.declared.val.Val.{Val}
use Rattle.bpf_note.specs.declared.val.Val.TheVariants as val
use Rattle.bpf_note.specs.Shape.{Shape}
use Rattle.bpf_note.specs.Facts.{Facts, is_unset}
use Rattle.bpf_insn.specs.Size.{size_bytes}
use Rattle.bpf_insn.specs.Signed.{sign_extended}
use Rattle.bpf_flow.specs.Step.{target, is_frame}
use Rattle.bpf_flow.specs.Graph.{Leads}
use Rattle.bpf_flow.specs.Edges.{Edges, goes_to, sets}
use Rattle.bpf_flow.specs.Alu.{exactly, operand_value}
use Rattle.bpf_flow.specs.Memory.{reach, load_value, stores, adds_at}
use Rattle.bpf_flow.specs.Rule.{after_of, is_first_unset, at_target}
use Rattle.bpf_flow.specs.Call.{is_key, key_bytes, has_keys, looks_up, is_lookup}
use Rattle.bpf_flow.specs.declared.access.Access.{Access}
use Rattle.bpf_flow.specs.declared.access.Access.TheVariants.{InPacket, OnStack, InContext, AtValue}
use Rattle.bpf_flow.proofs.AnswerLemmas.{unless_ok, and_then_ok, same_ok}

-- one of the edges leads to q
abbrev pub Speaks : Edges → ℕ → Type 0
Speaks [] q = ⊥
Speaks (e ∷ es) q = (q ≡ e.0) ⊎ Speaks es q

-- one edge leads to its slot
one_way : (pc : ℕ) (n : Facts) (es : Edges) (q : ℕ) → goes_to pc n ≡ Ok es → Speaks es q → q ≡ pc
one_way pc n es q e s = elim (subst (λ (es : Edges). Speaks es q) (sym (same_ok ((pc, n) ∷ []) es e)) s) [ inl at ↦ at | inr none ↦ absurd none ]

sets_way : (n : Facts) (pc k : ℕ) (v : Val) (es : Edges) (q : ℕ) → sets n pc k v ≡ Ok es → Speaks es q → q ≡ pc
sets_way n pc k v es q h s = one_way pc _ es q (unless_ok (is_frame k) cause.FramePointer _ es h).1 s

store_way : (n : Facts) (pc : ℕ) (size : Size) (v : Val) (a : Access) (es : Edges) (q : ℕ) → stores n pc size v a ≡ Ok es → Speaks es q → q ≡ pc
store_way n pc size v InPacket es q h s = one_way pc _ es q h s
store_way n pc size v (OnStack p) es q h s = one_way pc _ es q h s
store_way n pc size v (InContext o) es q h s = absurd (cc)
store_way n pc size v (AtValue m o) es q h s = absurd (cc)

lookup_way : (shapes : List Shape) (n : Facts) (pc : ℕ) (v key : Val) (es : Edges) (q : ℕ) → looks_up shapes n pc v key ≡ Ok es → Speaks es q → q ≡ pc + 1
lookup_way shapes n pc (val.Map m) key es q h s = one_way (pc + 1) _ es q (unless_ok (not (has_keys (slice_get shapes m) && is_key n (key_bytes (slice_get shapes m)) key)) cause.Argument _ es h).1 s
lookup_way shapes n pc val.Unset key es q h s = absurd (cc)
lookup_way shapes n pc (val.Num lo hi) key es q h s = absurd (cc)
lookup_way shapes n pc (val.Pkt id off) key es q h s = absurd (cc)
lookup_way shapes n pc val.PktEnd key es q h s = absurd (cc)
lookup_way shapes n pc (val.Stack off) key es q h s = absurd (cc)
lookup_way shapes n pc val.Ctx key es q h s = absurd (cc)
lookup_way shapes n pc (val.MaybeValue m id) key es q h s = absurd (cc)
lookup_way shapes n pc (val.Value m) key es q h s = absurd (cc)

ja_way : (o : Option ℕ) (n : Facts) (es : Edges) (q : ℕ) → at_target o (λ t. (t, n) ∷ []) ≡ Ok es → Speaks es q → o ≡ Some q
ja_way None n es q h s = absurd (cc)
ja_way (Some t) n es q h s = ap Some (sym (one_way t n es q h s))

jump_way : (o : Option ℕ) (next : ℕ) (n m : Facts) (es : Edges) (q : ℕ) → at_target o (λ t. (next, n) ∷ (t, m) ∷ []) ≡ Ok es → Speaks es q → (q ≡ next) ⊎ (o ≡ Some q)
jump_way None next n m es q h s = absurd (cc)
jump_way (Some t) next n m es q h s = by (subst (λ (es : Edges). Speaks es q) (sym (same_ok ((next, n) ∷ (t, m) ∷ []) es h)) s)
  where
    by : (q ≡ next) ⊎ ((q ≡ t) ⊎ ⊥) → (q ≡ next) ⊎ (Some t ≡ Some q)
    by (inl at) = inl at
    by (inr (inl at)) = inr (ap Some (sym at))
    by (inr (inr none)) = absurd none

-- each edge of the rule's answer is one that the instruction has
pub rule_leads : (i : Insn) (pc : ℕ) (n : Facts) (shapes : List Shape) (es : Edges) (q : ℕ) → after_of i pc n shapes ≡ Ok es → Speaks es q → Leads i pc q
rule_leads (Alu op wide dst src) pc n shapes es q h s =
    let u = unless_ok (is_unset (operand_value n src) || is_first_unset op (n.reg (number dst))) cause.Unset _ es h in
    one_way (pc + 1) _ es q (unless_ok (is_frame (number dst)) cause.FramePointer _ es u.1).1 s
rule_leads (Neg wide dst) pc n shapes es q h s = sets_way n (pc + 1) (number dst) _ es q (unless_ok (is_unset (n.reg (number dst))) cause.Unset _ es h).1 s
rule_leads (End kind width dst) pc n shapes es q h s = sets_way n (pc + 1) (number dst) _ es q (unless_ok (is_unset (n.reg (number dst))) cause.Unset _ es h).1 s
rule_leads (MovSx wide bits dst src) pc n shapes es q h s = sets_way n (pc + 1) (number dst) _ es q (unless_ok (is_unset (n.reg (number src))) cause.Unset _ es h).1 s
rule_leads (Const dst value) pc n shapes es q h s = sets_way n (pc + 2) (number dst) _ es q h s
rule_leads (MapRef dst m) pc n shapes es q h s = sets_way n (pc + 2) (number dst) _ es q h s
rule_leads (Ldx size signed dst src off) pc n shapes es q h s =
    let u = unless_ok (is_unset (n.reg (number src))) cause.Unset _ es h in
    let f = unless_ok (is_frame (number dst)) cause.FramePointer _ es u.1 in
    let v = and_then_ok (load_value n shapes (n.reg (number src)) off signed size) _ es f.1 in
    one_way (pc + 1) _ es q v.2 s
rule_leads (St size dst off imm) pc n shapes es q h s =
    let u = unless_ok (is_unset (n.reg (number dst))) cause.Unset _ es h in
    let a = and_then_ok (reach n (n.reg (number dst)) off (size_bytes size)) (stores n (pc + 1) size (exactly (sign_extended imm))) es u.1 in
    store_way n (pc + 1) size (exactly (sign_extended imm)) a.0 es q a.2 s
rule_leads (Stx size dst src off) pc n shapes es q h s =
    let u = unless_ok (is_unset (n.reg (number src)) || is_unset (n.reg (number dst))) cause.Unset _ es h in
    let a = and_then_ok (reach n (n.reg (number dst)) off (size_bytes size)) (stores n (pc + 1) size (n.reg (number src))) es u.1 in
    store_way n (pc + 1) size (n.reg (number src)) a.0 es q a.2 s
rule_leads (AddCounter fetch dst src off) pc n shapes es q h s =
    let u = unless_ok (is_unset (n.reg (number src)) || is_unset (n.reg (number dst))) cause.Unset _ es h in
    let f = unless_ok (fetch && is_frame (number src)) cause.FramePointer _ es u.1 in
    let a = and_then_ok (adds_at shapes (n.reg (number dst)) off) _ es f.1 in
    one_way (pc + 1) _ es q a.2 s
rule_leads (Ja wide to) pc n shapes es q h s = ja_way (target pc to) n es q h s
rule_leads (Jump cond wide dst src off) pc n shapes es q h s =
    let u = unless_ok (is_unset (n.reg (number dst)) || is_unset (operand_value n src)) cause.Unset _ es h in
    jump_way (target pc off) (pc + 1) _ _ es q u.1 s
rule_leads (Call helper) pc n shapes es q h s =
    let k = unless_ok (not (is_lookup helper)) cause.Helper _ es h in
    let u = unless_ok (is_unset (n.reg 1) || is_unset (n.reg 2)) cause.Unset _ es k.1 in
    lookup_way shapes n pc (n.reg 1) (n.reg 2) es q u.1 s
rule_leads Exit pc n shapes es q h s =
    let u = unless_ok (is_unset (n.reg 0)) cause.Unset (Ok []) es h in
    absurd (subst (λ (es : Edges). Speaks es q) (sym (same_ok [] es u.1)) s)
rule_leads Second pc n shapes es q h s = absurd (cc)
