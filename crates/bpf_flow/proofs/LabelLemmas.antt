-- Which labels lead on from an instruction.
use Rattle.std.proofs.Common.{ℕ, ◌+◌, ◌-◌, ◌%◌, ◌≡◌, refl, sym, subst, ◌∙◌, arith, ℤ, pos, negsuc, List, Option, None, Some, Bool, true, false, length}
use Rattle.std.specs.Prelude.{if◌then◌else◌, ◌==◌, ◌&&◌, slice_get}
use Rattle.std.proofs.lemmas.Bool.Decides.{nat_tests}
use Rattle.bpf_insn.specs.Register.{number}
use Rattle.bpf_insn.specs.Size.{size_bytes}
use Rattle.bpf_insn.specs.Conditions.{is_met}
use Rattle.bpf_insn.specs.declared.insn.Insn.{Insn}
use Rattle.bpf_insn.specs.declared.insn.Insn.TheVariants.{Alu, Neg, End, MovSx, Const, MapRef, Ldx, St, Stx, AddCounter, Ja, Jump, Call, Exit, Second}
use Rattle.bpf_insn.specs.declared.register.Register.{Register}
use Rattle.bpf_insn.specs.declared.size.Size.{Size}
use Rattle.bpf_note.specs.Keys.{key_size}
use Rattle.bpf_note.specs.Constants.{are_constants}
use Rattle.bpf_note.specs.Shape.{Shape}
use Rattle.bpf_note.specs.State.{State, packet_start, stack_start, stack_end, context_start}
use Rattle.bpf_note.specs.Regions.{Place, InPacket, InStack, InContext, InCounter, Nowhere, region, lies_in, counter_at, load_place, HaveNoParts}
use Rattle.bpf_note.specs.declared.op.Op.{Op}
use Rattle.bpf_note.specs.declared.op.Op.TheVariants.{Load, Add}
use Rattle.bpf_flow.specs.Step.{Outcome, Next, Loads, Adds, Exited, Fault, at_slot, with_number, is_frame, written, operand, first_operand, target, jumped, address, reached, loaded, load_from, load_constants, load_at, store_to, add_to, map_at, key_in, value_or_null, called, looked_up, looked_up_in, row_of, helped, exec, LeadsTo, taken, Alike, Fits, part}
use Rattle.bpf_flow.proofs.StepLemmas.{no_fault, needed, exited}
use Rattle.bpf_note.proofs.LoadPlaceLemmas.{without_parts}

pub labels_alike : (o : Outcome) (l l' : Option Op) (u u' : State) → LeadsTo o l u → LeadsTo o l' u' → Alike l l'
labels_alike (Next t) None None u u' h g = tt
labels_alike (Next t) None (Some (Load m k j v)) u u' h g = absurd g
labels_alike (Next t) None (Some (Add m k j d v)) u u' h g = absurd g
labels_alike (Next t) (Some (Load m k j v)) l' u u' h g = absurd h
labels_alike (Next t) (Some (Add m k j d v)) l' u u' h g = absurd h
labels_alike (Loads m k j go) None l' u u' h g = absurd h
labels_alike (Loads m k j go) (Some (Add m' k' j' d v)) l' u u' h g = absurd h
labels_alike (Loads m k j go) (Some (Load m' k' j' v)) None u u' h g = absurd g
labels_alike (Loads m k j go) (Some (Load m' k' j' v)) (Some (Add m2 k2 j2 d2 v2)) u u' h g = absurd g
labels_alike (Loads m k j go) (Some (Load m' k' j' v)) (Some (Load m2 k2 j2 v2)) u u' h g = (sym h.0 ∙ g.0, sym h.1 ∙ g.1, sym h.2 ∙ g.2)
labels_alike (Adds m k j d go) None l' u u' h g = absurd h
labels_alike (Adds m k j d go) (Some (Load m' k' j' v)) l' u u' h g = absurd h
labels_alike (Adds m k j d go) (Some (Add m' k' j' d' v)) None u u' h g = absurd g
labels_alike (Adds m k j d go) (Some (Add m' k' j' d' v)) (Some (Load m2 k2 j2 v2)) u u' h g = absurd g
labels_alike (Adds m k j d go) (Some (Add m' k' j' d' v)) (Some (Add m2 k2 j2 d2 v2)) u u' h g = (sym h.0 ∙ g.0, sym h.1 ∙ g.1, sym h.2 ∙ g.2, sym h.3 ∙ g.3)
labels_alike (Exited x) l l' u u' h g = absurd (exited x l u h)
labels_alike Fault l l' u u' h g = absurd (no_fault l u h)

pub same_label : (o : Outcome) (l : Option Op) (u u' : State) → LeadsTo o l u → LeadsTo o l u' → u ≡ u'
same_label (Next t) None u u' h g = sym h ∙ g
same_label (Next t) (Some (Load m k j v)) u u' h g = absurd h
same_label (Next t) (Some (Add m k j d v)) u u' h g = absurd h
same_label (Loads m k j go) None u u' h g = absurd h
same_label (Loads m k j go) (Some (Load m' k' j' v)) u u' h g = sym h.4 ∙ g.4
same_label (Loads m k j go) (Some (Add m' k' j' d v)) u u' h g = absurd h
same_label (Adds m k j d go) None u u' h g = absurd h
same_label (Adds m k j d go) (Some (Load m' k' j' v)) u u' h g = absurd h
same_label (Adds m k j d go) (Some (Add m' k' j' d' v)) u u' h g = sym h.5 ∙ g.5
same_label (Exited x) l u u' h g = absurd (exited x l u h)
same_label Fault l u u' h g = absurd (no_fault l u h)

plain : (t : State) (l : Option Op) (u : State) → LeadsTo (Next t) l u → l ≡ None
plain t None u h = refl
plain t (Some (Load m k j v)) u h = absurd h
plain t (Some (Add m k j d v)) u h = absurd h

pub written_plain : (s : State) (pc k x : ℕ) (l : Option Op) (u : State) → LeadsTo (written s pc k x) l u → l ≡ None
written_plain s pc k x l u h = by (is_frame k) h
  where
    by : (b : Bool) → LeadsTo (if b then Fault else Next (with_number s pc k x)) l u → l ≡ None
    by true h = absurd (no_fault l u h)
    by false h = plain (with_number s pc k x) l u h

jumped_plain : (s : State) (off : ℤ) (l : Option Op) (u : State) → LeadsTo (jumped s off) l u → l ≡ None
jumped_plain s off l u h = needed (target s.pc off) _ l u (λ to h. plain (at_slot s to) l u h) h

store_plain : (place : Place) (s : State) (z x : ℕ) (l : Option Op) (u : State) → LeadsTo (store_to place s z x) l u → l ≡ None
store_plain (InPacket i) s z x l u h = plain _ l u h
store_plain (InStack i) s z x l u h = plain _ l u h
store_plain (InContext i) s z x l u h = absurd (no_fault l u h)
store_plain (InCounter m k j) s z x l u h = absurd (no_fault l u h)
store_plain Nowhere s z x l u h = absurd (no_fault l u h)

helped_plain : (i : ℤ) (s : State) (l : Option Op) (u : State) → LeadsTo (helped i s) l u → l ≡ None
helped_plain (pos n) s l u h = by (n == 1) h
  where
    by : (b : Bool) → LeadsTo (if b then looked_up s else Fault) l u → l ≡ None
    by true h =
        needed (s.reg 1) _ l u (λ x h.
        needed (s.reg 2) _ l u (λ a h.
        needed (map_at s x) _ l u (λ m h.
        needed (slice_get s.shapes m) (looked_up_in s a m) l u (λ shape h.
        needed (key_in (region (length s.packet) s.shapes a (key_size shape.key)) s (key_size shape.key)) _ l u (λ key h.
        plain (called s (value_or_null shape m (row_of s m shape.key key))) l u h) h) h) h) h) h
    by false h = absurd (no_fault l u h)
helped_plain (negsuc n) s l u h = absurd (no_fault l u h)

-- a counter lies under eight bytes alone
counter_size : (len : ℕ) (shapes : List Shape) (a z m k j : ℕ) → region len shapes a z ≡ InCounter m k j → z ≡ 8
unfolding region
counter_size len shapes a z m k j e = by (lies_in packet_start (packet_start + len) a z) (lies_in stack_start stack_end a z) (lies_in context_start (context_start + 20) a z && z == 4 && a % 4 == 0) (z == 8) refl e
  where
    by : (p s c t : Bool) → (z == 8) ≡ t → (if p then InPacket (a - packet_start) else if s then InStack (a - stack_start) else if c then InContext (a - context_start) else if t then counter_at shapes a else Nowhere) ≡ InCounter m k j → z ≡ 8
    by true s c t f e = cc
    by false true c t f e = cc
    by false false true t f e = cc
    by false false false true f e = grind (arith, nat_tests)
    by false false false false f e = cc

-- a load's labels: none, or a load where the place is a counter
abbrev LoadFits : Place → Option Op → Type 0
LoadFits place None = Unit {0}
LoadFits place (Some (Load m k j v)) = place ≡ InCounter m k j
LoadFits place (Some (Add m k j d v)) = ⊥

none_fits : (place : Place) (l : Option Op) → l ≡ None → LoadFits place l
none_fits place l e = subst (λ (l : Option Op). LoadFits place l) (sym e) tt

counter_fits : (m k j : ℕ) (go : ℕ → State) (l : Option Op) (u : State) → LeadsTo (Loads m k j go) l u → LoadFits (InCounter m k j) l
counter_fits m k j go None u h = absurd h
counter_fits m k j go (Some (Load m' k' j' v)) u h = cc (h.0, h.1, h.2)
counter_fits m k j go (Some (Add m' k' j' d v)) u h = absurd h

load_fits : (a : ℕ) (place : Place) (s : State) (signed : Bool) (size : Size) (dst : ℕ) (l : Option Op) (u : State) → LeadsTo (load_from a place s signed size dst) l u → LoadFits place l
load_fits a (InPacket i) s signed size dst l u h = none_fits _ l (needed (loaded s (InPacket i) (size_bytes size)) _ l u (λ x h. written_plain s (s.pc + 1) dst (taken signed size x) l u h) h)
load_fits a (InStack i) s signed size dst l u h = none_fits _ l (needed (loaded s (InStack i) (size_bytes size)) _ l u (λ x h. written_plain s (s.pc + 1) dst (taken signed size x) l u h) h)
load_fits a (InContext i) s signed size dst l u h = none_fits _ l (needed (loaded s (InContext i) (size_bytes size)) _ l u (λ x h. written_plain s (s.pc + 1) dst (taken signed size x) l u h) h)
load_fits a (InCounter m k j) s signed size dst l u h = by (is_frame dst) h
  where
    by : (b : Bool) → LeadsTo (if b then Fault else Loads m k j (λ x. with_number s (s.pc + 1) dst (taken signed size (part size a x)))) l u → LoadFits (InCounter m k j) l
    by true h = absurd (no_fault l u h)
    by false h = counter_fits m k j _ l u h
load_fits a Nowhere s signed size dst l u h = absurd (no_fault l u h)

-- an add's label is an add
abbrev AddFits : Option Op → Type 0
AddFits None = ⊥
AddFits (Some (Load m k j v)) = ⊥
AddFits (Some (Add m k j d v)) = Unit {0}

adds_fit : (m k j d : ℕ) (go : ℕ → State) (l : Option Op) (u : State) → LeadsTo (Adds m k j d go) l u → AddFits l
adds_fit m k j d go None u h = h
adds_fit m k j d go (Some (Load m' k' j' v)) u h = h
adds_fit m k j d go (Some (Add m' k' j' d' v)) u h = tt

add_fits : (place : Place) (s : State) (fetch : Bool) (src d : ℕ) (l : Option Op) (u : State) → LeadsTo (add_to place s fetch src d) l u → AddFits l
add_fits (InCounter m k j) s true src d l u h = by (is_frame src) h
  where
    by : (b : Bool) → LeadsTo (if b then Fault else Adds m k j d (λ x. with_number s (s.pc + 1) src x)) l u → AddFits l
    by true h = absurd (no_fault l u h)
    by false h = adds_fit m k j d _ l u h
add_fits (InCounter m k j) s false src d l u h = adds_fit m k j d _ l u h
add_fits (InPacket i) s fetch src d l u h = absurd (no_fault l u h)
add_fits (InStack i) s fetch src d l u h = absurd (no_fault l u h)
add_fits (InContext i) s fetch src d l u h = absurd (no_fault l u h)
add_fits Nowhere s fetch src d l u h = absurd (no_fault l u h)

none_is : (i : Insn) (l : Option Op) → Fits i None → l ≡ None → Fits i l
none_is i l h e = subst (λ (l : Option Op). Fits i l) (sym e) h

load_at_fits : (s : State) (a : ℕ) (size : Size) (signed : Bool) (dst src : Register) (off : ℤ) (l : Option Op) (u : State) → LeadsTo (load_at s a signed size (number dst)) l u → Fits (Ldx size signed dst src off) l
load_at_fits s a size signed dst src off l u h = by (are_constants s.shapes a (size_bytes size)) h
  where
    sized : (l : Option Op) → LoadFits (load_place (length s.packet) s.shapes a (size_bytes size)) l → Fits (Ldx size signed dst src off) l
    sized None h = tt
    sized (Some (Load m k j v)) h = tt
    sized (Some (Add m k j d v)) h = h

    by : (b : Bool) → LeadsTo (if b then load_constants s a signed size (number dst) else load_from a (load_place (length s.packet) s.shapes a (size_bytes size)) s signed size (number dst)) l u → Fits (Ldx size signed dst src off) l
    by true h = none_is (Ldx size signed dst src off) l tt (written_plain s (s.pc + 1) (number dst) _ l u h)
    by false h = sized l (load_fits a (load_place (length s.packet) s.shapes a (size_bytes size)) s signed size (number dst) l u h)

some_load : (m k j v : ℕ) → Some (Load m k j v) ≡ None → ⊥
some_load m k j v e = cc

-- without parts a counter is loaded whole
pub whole_load : (size : Size) (signed : Bool) (dst src : Register) (off : ℤ) (s : State) (m k j v : ℕ) (t : State) → HaveNoParts s.shapes → LeadsTo (exec (Ldx size signed dst src off) s) (Some (Load m k j v)) t → size_bytes size ≡ 8
whole_load size signed dst src off s m k j v t none h = needed (s.reg (number src)) _ (Some (Load m k j v)) t (λ x h. by x (are_constants s.shapes (address x off) (size_bytes size)) h) h
  where
    by : (x : ℕ) (b : Bool) → LeadsTo (if b then load_constants s (address x off) signed size (number dst) else load_from (address x off) (load_place (length s.packet) s.shapes (address x off) (size_bytes size)) s signed size (number dst)) (Some (Load m k j v)) t → size_bytes size ≡ 8
    by x true h = absurd (some_load m k j v (written_plain s (s.pc + 1) (number dst) _ (Some (Load m k j v)) t h))
    by x false h = counter_size (length s.packet) s.shapes (address x off) (size_bytes size) m k j
        (sym (without_parts (length s.packet) s.shapes (address x off) (size_bytes size) none) ∙ load_fits (address x off) (load_place (length s.packet) s.shapes (address x off) (size_bytes size)) s signed size (number dst) (Some (Load m k j v)) t h)

pub exec_fits : (i : Insn) (s : State) (l : Option Op) (u : State) → LeadsTo (exec i s) l u → Fits i l
exec_fits (Alu op wide dst src) s l u h = none_is (Alu op wide dst src) l tt (needed (operand s src) _ l u (λ x h. needed (first_operand op (s.reg (number dst))) _ l u (λ d h. written_plain s (s.pc + 1) (number dst) _ l u h) h) h)
exec_fits (Neg wide dst) s l u h = none_is (Neg wide dst) l tt (needed (s.reg (number dst)) _ l u (λ d h. written_plain s (s.pc + 1) (number dst) _ l u h) h)
exec_fits (End kind width dst) s l u h = none_is (End kind width dst) l tt (needed (s.reg (number dst)) _ l u (λ d h. written_plain s (s.pc + 1) (number dst) _ l u h) h)
exec_fits (MovSx wide bits dst src) s l u h = none_is (MovSx wide bits dst src) l tt (needed (s.reg (number src)) _ l u (λ d h. written_plain s (s.pc + 1) (number dst) _ l u h) h)
exec_fits (Const dst value) s l u h = none_is (Const dst value) l tt (written_plain s (s.pc + 2) (number dst) value l u h)
exec_fits (MapRef dst m) s l u h = none_is (MapRef dst m) l tt (written_plain s (s.pc + 2) (number dst) _ l u h)
exec_fits (Ldx size signed dst src off) s l u h = needed (s.reg (number src)) _ l u (λ a h. load_at_fits s (address a off) size signed dst src off l u h) h
exec_fits (St size dst off imm) s l u h = none_is (St size dst off imm) l tt (needed (s.reg (number dst)) _ l u (λ a h. store_plain (reached s a off (size_bytes size)) s (size_bytes size) _ l u h) h)
exec_fits (Stx size dst src off) s l u h = none_is (Stx size dst src off) l tt (needed (s.reg (number src)) _ l u (λ x h. needed (s.reg (number dst)) _ l u (λ a h. store_plain (reached s a off (size_bytes size)) s (size_bytes size) x l u h) h) h)
exec_fits (AddCounter fetch dst src off) s l u h = needed (s.reg (number src)) _ l u (λ x h. needed (s.reg (number dst)) _ l u (λ a h. by l (add_fits (reached s a off 8) s fetch (number src) x l u h)) h) h
  where
    by : (l : Option Op) → AddFits l → Fits (AddCounter fetch dst src off) l
    by None h = h
    by (Some (Load m k j v)) h = h
    by (Some (Add m k j d v)) h = tt
exec_fits (Ja wide_offset to) s l u h = none_is (Ja wide_offset to) l tt (jumped_plain s to l u h)
exec_fits (Jump cond wide dst src off) s l u h = none_is (Jump cond wide dst src off) l tt (needed (s.reg (number dst)) _ l u (λ a h. needed (operand s src) _ l u (λ b h. by (is_met cond wide a b) h) h) h)
  where
    by : (b : Bool) → LeadsTo (if b then jumped s off else Next (at_slot s (s.pc + 1))) l u → l ≡ None
    by true h = jumped_plain s off l u h
    by false h = plain (at_slot s (s.pc + 1)) l u h
exec_fits (Call helper) s l u h = none_is (Call helper) l tt (helped_plain helper s l u h)
exec_fits Exit s l u h = needed (s.reg 0) Exited l u (λ x h. absurd (exited x l u h)) h
exec_fits Second s l u h = absurd (no_fault l u h)
