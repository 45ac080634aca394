-- Which causes the rule answers.
use Rattle.std.proofs.Common.{◌≡◌, ◌+◌, ℕ, ℤ, pos, ◌+ℤ◌, List, Option, Some, None, Bool, true, false, ◌&&◌, ◌||◌, not, ap, subst, length}
use Rattle.std.specs.Prelude.{Result, Ok, Err, if◌then◌else◌, IsSome, slice_get}
use Rattle.bpf_insn.specs.Register.{number}
use Rattle.bpf_insn.specs.Signed.{sign_extended}
use Rattle.bpf_insn.specs.Size.{size_bytes}
use Rattle.bpf_insn.specs.declared.insn.Insn.{Insn}
use Rattle.bpf_insn.specs.declared.insn.Insn.TheVariants.{Alu, Neg, End, MovSx, Const, MapRef, Ldx, St, Stx, AddCounter, Ja, Jump, Call, Exit, Second}
use Rattle.bpf_insn.specs.declared.refusal.Cause.{Cause}
use Rattle.bpf_insn.specs.declared.refusal.Cause.TheVariants as cause
use Rattle.bpf_insn.specs.declared.size.Size.{Size}
use Rattle.bpf_note.specs.declared.val.Val.{Val}
use Rattle.bpf_note.specs.declared.val.Val.TheVariants as val
use Rattle.bpf_note.specs.Shape.{Shape}
use Rattle.bpf_note.specs.Facts.{Facts, is_unset}
use Rattle.bpf_flow.specs.Causes.{IsRuleCause}
use Rattle.bpf_flow.specs.Step.{target, is_frame}
use Rattle.bpf_flow.specs.Edges.{Edges, unless, and_then, sets}
use Rattle.bpf_flow.specs.Alu.{exactly, operand_value}
use Rattle.bpf_flow.specs.Memory.{place_in, packet_place, in_packet, on_stack, reach, is_word, is_field, is_double, is_counter, all_set, any_loaded, loaded_value, is_data, load_value, stores, adds_at}
use Rattle.bpf_flow.specs.Rule.{after_of, is_first_unset, at_target, IsRuled}
use Rattle.bpf_flow.specs.Call.{is_key, key_bytes, has_keys, is_lookup, looks_up}
use Rattle.bpf_flow.specs.declared.access.Access.{Access}
use Rattle.bpf_flow.specs.declared.access.Access.TheVariants.{InPacket, OnStack, InContext, AtValue}

same_err : {A : Type 0} (k c : Cause) → ◌≡◌ {A = Result A Cause} (Err k) (Err c) → k ≡ c
same_err k c h = cc

this : {A : Type 0} (k c : Cause) → IsRuleCause k → ◌≡◌ {A = Result A Cause} (Err k) (Err c) → IsRuleCause c
this k c good h = subst IsRuleCause (same_err k c h) good

unless_cause : {A : Type 0} (b : Bool) (k c : Cause) (go : Result A Cause) → IsRuleCause k → (go ≡ Err c → IsRuleCause c) → unless b k go ≡ Err c → IsRuleCause c
unless_cause {A = A} true k c go good f h = this {A = A} k c good h
unless_cause false k c go good f h = f h

then_cause : {A B : Type 0} (r : Result A Cause) (go : A → Result B Cause) (c : Cause) → (r ≡ Err c → IsRuleCause c) → ((x : A) → go x ≡ Err c → IsRuleCause c) → and_then r go ≡ Err c → IsRuleCause c
then_cause (Ok x) go c f g h = g x h
then_cause {A = A} {B = B} (Err k) go c f g h = f (ap (λ (k : Cause). Err k) (same_err {A = B} k c h))

choice_cause : {A : Type 0} (b : Bool) (x : A) (k c : Cause) → IsRuleCause k → ◌≡◌ {A = Result A Cause} (if b then Ok x else Err k) (Err c) → IsRuleCause c
choice_cause true x k c good h = absurd (cc)
choice_cause {A = A} false x k c good h = this {A = A} k c good h

sets_cause : (n : Facts) (pc k : ℕ) (v : Val) (c : Cause) → sets n pc k v ≡ Err c → IsRuleCause c
sets_cause n pc k v c h = unless_cause (is_frame k) cause.FramePointer c _ tt (λ g. absurd (cc)) h

place_cause : (o : Option ℕ) (c : Cause) → packet_place o ≡ Err c → IsRuleCause c
place_cause None c h = this {A = Access} cause.Packet c tt h
place_cause (Some p) c h = absurd (cc)

packet_cause : (safe : Option ℕ) (at : ℤ) (z : ℕ) (c : Cause) → in_packet safe at z ≡ Err c → IsRuleCause c
packet_cause None at z c h = this {A = Access} cause.Packet c tt h
packet_cause (Some s) at z c h = place_cause (place_in at z s) c h

stack_cause : (o : Option ℕ) (c : Cause) → on_stack o ≡ Err c → IsRuleCause c
stack_cause None c h = this {A = Access} cause.Stack c tt h
stack_cause (Some p) c h = absurd (cc)

reach_cause : (n : Facts) (v : Val) (o : ℤ) (z : ℕ) (c : Cause) → reach n v o z ≡ Err c → IsRuleCause c
reach_cause n val.Unset o z c h = this {A = Access} cause.Unset c tt h
reach_cause n (val.Num lo hi) o z c h = this {A = Access} cause.NoPointer c tt h
reach_cause n (val.Pkt id off) o z c h = packet_cause (n.safe id) (pos off +ℤ o) z c h
reach_cause n val.PktEnd o z c h = this {A = Access} cause.NoPointer c tt h
reach_cause n (val.Stack off) o z c h = stack_cause (place_in (pos 512 +ℤ off +ℤ o) z 512) c h
reach_cause n val.Ctx o z c h = absurd (cc)
reach_cause n (val.Map m) o z c h = this {A = Access} cause.MapAccess c tt h
reach_cause n (val.MaybeValue m id) o z c h = this {A = Access} cause.MayBeNull c tt h
reach_cause n (val.Value m) o z c h = absurd (cc)

loaded_cause : (n : Facts) (shapes : List Shape) (signed : Bool) (size : Size) (a : Access) (c : Cause) → loaded_value n shapes signed size a ≡ Err c → IsRuleCause c
loaded_cause n shapes signed size InPacket c h = absurd (cc)
loaded_cause n shapes signed size (OnStack p) c h = choice_cause {A = Val} (all_set n p (size_bytes size)) _ cause.Stack c tt h
loaded_cause n shapes true size (InContext o) c h = this {A = Val} cause.Context c tt h
loaded_cause n shapes false size (InContext o) c h = choice_cause {A = Val} (is_word size && is_field o) _ cause.Context c tt h
loaded_cause n shapes true size (AtValue m o) c h = this {A = Val} cause.MapAccess c tt h
loaded_cause n shapes false size (AtValue m o) c h = choice_cause {A = Val} (is_double size && is_counter (slice_get shapes m) o) _ cause.MapAccess c tt h

load_cause : (n : Facts) (shapes : List Shape) (v : Val) (o : ℤ) (signed : Bool) (size : Size) (c : Cause) → load_value n shapes v o signed size ≡ Err c → IsRuleCause c
load_cause n shapes v o signed size c h = by (is_data shapes v o (size_bytes size)) h
  where
    by : (b : Bool) → (if b then Ok (any_loaded signed size) else and_then (reach n v o (size_bytes size)) (loaded_value n shapes signed size)) ≡ Err c → IsRuleCause c
    by true h = absurd (cc)
    by false h = then_cause (reach n v o (size_bytes size)) (loaded_value n shapes signed size) c (reach_cause n v o (size_bytes size) c) (λ a g. loaded_cause n shapes signed size a c g) h

stores_cause : (n : Facts) (pc : ℕ) (size : Size) (v : Val) (a : Access) (c : Cause) → stores n pc size v a ≡ Err c → IsRuleCause c
stores_cause n pc size v InPacket c h = absurd (cc)
stores_cause n pc size v (OnStack p) c h = absurd (cc)
stores_cause n pc size v (InContext o) c h = this {A = Edges} cause.Context c tt h
stores_cause n pc size v (AtValue m o) c h = this {A = Edges} cause.MapAccess c tt h

adds_cause : (shapes : List Shape) (v : Val) (o : ℤ) (c : Cause) → adds_at shapes v o ≡ Err c → IsRuleCause c
adds_cause shapes val.Unset o c h = this {A = Unit {0}} cause.Unset c tt h
adds_cause shapes (val.Num lo hi) o c h = this {A = Unit {0}} cause.NoPointer c tt h
adds_cause shapes (val.Pkt id off) o c h = this {A = Unit {0}} cause.MapAccess c tt h
adds_cause shapes val.PktEnd o c h = this {A = Unit {0}} cause.NoPointer c tt h
adds_cause shapes (val.Stack off) o c h = this {A = Unit {0}} cause.MapAccess c tt h
adds_cause shapes val.Ctx o c h = this {A = Unit {0}} cause.MapAccess c tt h
adds_cause shapes (val.Map m) o c h = this {A = Unit {0}} cause.MapAccess c tt h
adds_cause shapes (val.MaybeValue m id) o c h = this {A = Unit {0}} cause.MayBeNull c tt h
adds_cause shapes (val.Value m) o c h = choice_cause {A = Unit {0}} (is_counter (slice_get shapes m) o) tt cause.MapAccess c tt h

target_cause : (o : Option ℕ) (edges : ℕ → Edges) (c : Cause) → IsSome o → at_target o edges ≡ Err c → IsRuleCause c
target_cause None edges c there h = absurd (cc)
target_cause (Some q) edges c there h = absurd (cc)

lookup_cause : (shapes : List Shape) (n : Facts) (pc : ℕ) (v key : Val) (c : Cause) → looks_up shapes n pc v key ≡ Err c → IsRuleCause c
lookup_cause shapes n pc (val.Map m) key c h = unless_cause (not (has_keys (slice_get shapes m) && is_key n (key_bytes (slice_get shapes m)) key)) cause.Argument c _ tt (λ g. absurd (cc)) h
lookup_cause shapes n pc val.Unset key c h = this {A = Edges} cause.Argument c tt h
lookup_cause shapes n pc (val.Num lo hi) key c h = this {A = Edges} cause.Argument c tt h
lookup_cause shapes n pc (val.Pkt id off) key c h = this {A = Edges} cause.Argument c tt h
lookup_cause shapes n pc val.PktEnd key c h = this {A = Edges} cause.Argument c tt h
lookup_cause shapes n pc (val.Stack off) key c h = this {A = Edges} cause.Argument c tt h
lookup_cause shapes n pc val.Ctx key c h = this {A = Edges} cause.Argument c tt h
lookup_cause shapes n pc (val.MaybeValue m id) key c h = this {A = Edges} cause.Argument c tt h
lookup_cause shapes n pc (val.Value m) key c h = this {A = Edges} cause.Argument c tt h

-- the rule answers these causes alone, where it may be asked
pub rule_causes : (i : Insn) (pc : ℕ) (n : Facts) (shapes : List Shape) (c : Cause) → IsRuled i pc (length shapes) → after_of i pc n shapes ≡ Err c → IsRuleCause c
rule_causes (Alu op wide dst src) pc n shapes c r h =
    unless_cause (is_unset (operand_value n src) || is_first_unset op (n.reg (number dst))) cause.Unset c _ tt (λ g. unless_cause (is_frame (number dst)) cause.FramePointer c _ tt (λ g. absurd (cc)) g) h
rule_causes (Neg wide dst) pc n shapes c r h = unless_cause (is_unset (n.reg (number dst))) cause.Unset c _ tt (λ g. sets_cause n (pc + 1) (number dst) _ c g) h
rule_causes (End kind width dst) pc n shapes c r h = unless_cause (is_unset (n.reg (number dst))) cause.Unset c _ tt (λ g. sets_cause n (pc + 1) (number dst) _ c g) h
rule_causes (MovSx wide bits dst src) pc n shapes c r h = unless_cause (is_unset (n.reg (number src))) cause.Unset c _ tt (λ g. sets_cause n (pc + 1) (number dst) _ c g) h
rule_causes (Const dst value) pc n shapes c r h = sets_cause n (pc + 2) (number dst) (exactly value) c h
rule_causes (MapRef dst m) pc n shapes c r h = sets_cause n (pc + 2) (number dst) (val.Map m) c h
rule_causes (Ldx size signed dst src off) pc n shapes c r h =
    unless_cause (is_unset (n.reg (number src))) cause.Unset c _ tt (λ g.
    unless_cause (is_frame (number dst)) cause.FramePointer c _ tt (λ g.
    then_cause (load_value n shapes (n.reg (number src)) off signed size) _ c (load_cause n shapes (n.reg (number src)) off signed size c) (λ v g. absurd (cc)) g) g) h
rule_causes (St size dst off imm) pc n shapes c r h =
    unless_cause (is_unset (n.reg (number dst))) cause.Unset c _ tt (λ g.
    then_cause (reach n (n.reg (number dst)) off (size_bytes size)) _ c (reach_cause n (n.reg (number dst)) off (size_bytes size) c)
    (λ a g. stores_cause n (pc + 1) size (exactly (sign_extended imm)) a c g) g) h
rule_causes (Stx size dst src off) pc n shapes c r h =
    unless_cause (is_unset (n.reg (number src)) || is_unset (n.reg (number dst))) cause.Unset c _ tt (λ g.
    then_cause (reach n (n.reg (number dst)) off (size_bytes size)) _ c (reach_cause n (n.reg (number dst)) off (size_bytes size) c)
    (λ a g. stores_cause n (pc + 1) size (n.reg (number src)) a c g) g) h
rule_causes (AddCounter fetch dst src off) pc n shapes c r h =
    unless_cause (is_unset (n.reg (number src)) || is_unset (n.reg (number dst))) cause.Unset c _ tt (λ g.
    unless_cause (fetch && is_frame (number src)) cause.FramePointer c _ tt (λ g.
    then_cause (adds_at shapes (n.reg (number dst)) off) _ c (adds_cause shapes (n.reg (number dst)) off c) (λ u g. absurd (cc)) g) g) h
rule_causes (Ja wide to) pc n shapes c r h = target_cause (target pc to) _ c r h
rule_causes (Jump cond wide dst src off) pc n shapes c r h =
    unless_cause (is_unset (n.reg (number dst)) || is_unset (operand_value n src)) cause.Unset c _ tt (λ g. target_cause (target pc off) _ c r g) h
rule_causes (Call helper) pc n shapes c r h =
    unless_cause (not (is_lookup helper)) cause.Helper c _ tt (λ g.
    unless_cause (is_unset (n.reg 1) || is_unset (n.reg 2)) cause.Unset c _ tt (λ g. lookup_cause shapes n pc (n.reg 1) (n.reg 2) c g) g) h
rule_causes Exit pc n shapes c r h = unless_cause (is_unset (n.reg 0)) cause.Unset c _ tt (λ g. absurd (cc)) h
rule_causes Second pc n shapes c r h = absurd r
