-- Every step follows an edge of the flow graph.
use Rattle.std.proofs.Common.{ℕ, ◌+◌, ◌≡◌, ◌⊎◌, inl, inr, refl, sym, ap, subst, ◌∙◌, ℤ, pos, negsuc, Option, None, Some, Bool, true, false, length}
use Rattle.std.specs.Prelude.{if◌then◌else◌, ◌==◌, slice_get}
use Rattle.bpf_insn.specs.Register.{number}
use Rattle.bpf_insn.specs.Size.{size_bytes}
use Rattle.bpf_insn.specs.Conditions.{is_met}
use Rattle.bpf_insn.specs.declared.insn.Insn.{Insn}
use Rattle.bpf_insn.specs.declared.insn.Insn.TheVariants.{Alu, Neg, End, MovSx, Const, MapRef, Ldx, St, Stx, AddCounter, Ja, Jump, Call, Exit, Second}
use Rattle.bpf_insn.specs.declared.size.Size.{Size}
use Rattle.bpf_note.specs.Keys.{key_size}
use Rattle.bpf_note.specs.Constants.{are_constants}
use Rattle.bpf_note.specs.State.{State}
use Rattle.bpf_note.specs.Regions.{Place, InPacket, InStack, InContext, InCounter, Nowhere, region, load_place}
use Rattle.bpf_note.specs.declared.op.Op.{Op}
use Rattle.bpf_note.specs.declared.op.Op.TheVariants.{Load, Add}
use Rattle.bpf_flow.specs.Graph.{Leads}
use Rattle.bpf_flow.specs.Step.{Next, Loads, Adds, Exited, Fault, need, at_slot, with_number, is_frame, written, operand, first_operand, target, jumped, address, reached, loaded, load_from, load_constants, load_at, store_to, add_to, map_at, key_in, value_or_null, called, looked_up, looked_up_in, row_of, helped, exec, LeadsTo, taken, part}
use Rattle.bpf_flow.proofs.StepLemmas.{no_fault, needed, exited}

next_at : (t : State) (q : ℕ) (l : Option Op) (u : State) → t.pc ≡ q → LeadsTo (Next t) l u → u.pc ≡ q
next_at t q None u e h = subst (λ (u : State). u.pc ≡ q) h e
next_at t q (Some (Load m i j v)) u e h = absurd h
next_at t q (Some (Add m i j d v)) u e h = absurd h

written_at : (s : State) (pc k x : ℕ) (l : Option Op) (u : State) → LeadsTo (written s pc k x) l u → u.pc ≡ pc
written_at s pc k x l u h = by (is_frame k) h
  where
    by : (b : Bool) → LeadsTo (if b then Fault else Next (with_number s pc k x)) l u → u.pc ≡ pc
    by true h = absurd (no_fault l u h)
    by false h = next_at (with_number s pc k x) pc l u refl h

loads_at : (q m k j : ℕ) (go : ℕ → State) (l : Option Op) (u : State) → ((x : ℕ) → (go x).pc ≡ q) → LeadsTo (Loads m k j go) l u → u.pc ≡ q
loads_at q m k j go None u f h = absurd h
loads_at q m k j go (Some (Load m' k' j' v)) u f h = subst (λ (u : State). u.pc ≡ q) h.4 (f v)
loads_at q m k j go (Some (Add m' k' j' d v)) u f h = absurd h

adds_at : (q m k j d : ℕ) (go : ℕ → State) (l : Option Op) (u : State) → ((x : ℕ) → (go x).pc ≡ q) → LeadsTo (Adds m k j d go) l u → u.pc ≡ q
adds_at q m k j d go None u f h = absurd h
adds_at q m k j d go (Some (Load m' k' j' v)) u f h = absurd h
adds_at q m k j d go (Some (Add m' k' j' d' v)) u f h = subst (λ (u : State). u.pc ≡ q) h.5 (f v)

jumped_at : (s : State) (off : ℤ) (l : Option Op) (u : State) → LeadsTo (jumped s off) l u → target s.pc off ≡ Some u.pc
jumped_at s off l u h = by (target s.pc off) refl h
  where
    by : (o : Option ℕ) → target s.pc off ≡ o → LeadsTo (need o (λ to. Next (at_slot s to))) l u → target s.pc off ≡ Some u.pc
    by None e h = absurd (no_fault l u h)
    by (Some to) e h = e ∙ ap Some (sym (next_at (at_slot s to) to l u refl h))

load_of : (a : ℕ) (place : Place) (s : State) (signed : Bool) (size : Size) (dst : ℕ) (l : Option Op) (u : State) → LeadsTo (load_from a place s signed size dst) l u → u.pc ≡ s.pc + 1
load_of a (InPacket i) s signed size dst l u h = needed (loaded s (InPacket i) (size_bytes size)) _ l u (λ x h. written_at s (s.pc + 1) dst (taken signed size x) l u h) h
load_of a (InStack i) s signed size dst l u h = needed (loaded s (InStack i) (size_bytes size)) _ l u (λ x h. written_at s (s.pc + 1) dst (taken signed size x) l u h) h
load_of a (InContext i) s signed size dst l u h = needed (loaded s (InContext i) (size_bytes size)) _ l u (λ x h. written_at s (s.pc + 1) dst (taken signed size x) l u h) h
load_of a (InCounter m k j) s signed size dst l u h = by (is_frame dst) h
  where
    by : (b : Bool) → LeadsTo (if b then Fault else Loads m k j (λ x. with_number s (s.pc + 1) dst (taken signed size (part size a x)))) l u → u.pc ≡ s.pc + 1
    by true h = absurd (no_fault l u h)
    by false h = loads_at (s.pc + 1) m k j _ l u (λ x. refl) h
load_of a Nowhere s signed size dst l u h = absurd (no_fault l u h)

load_leads : (s : State) (a : ℕ) (signed : Bool) (size : Size) (dst : ℕ) (l : Option Op) (u : State) → LeadsTo (load_at s a signed size dst) l u → u.pc ≡ s.pc + 1
load_leads s a signed size dst l u h = by (are_constants s.shapes a (size_bytes size)) h
  where
    by : (b : Bool) → LeadsTo (if b then load_constants s a signed size dst else load_from a (load_place (length s.packet) s.shapes a (size_bytes size)) s signed size dst) l u → u.pc ≡ s.pc + 1
    by true h = written_at s (s.pc + 1) dst _ l u h
    by false h = load_of a (load_place (length s.packet) s.shapes a (size_bytes size)) s signed size dst l u h

store_at : (place : Place) (s : State) (z x : ℕ) (l : Option Op) (u : State) → LeadsTo (store_to place s z x) l u → u.pc ≡ s.pc + 1
store_at (InPacket i) s z x l u h = next_at _ (s.pc + 1) l u refl h
store_at (InStack i) s z x l u h = next_at _ (s.pc + 1) l u refl h
store_at (InContext i) s z x l u h = absurd (no_fault l u h)
store_at (InCounter m k j) s z x l u h = absurd (no_fault l u h)
store_at Nowhere s z x l u h = absurd (no_fault l u h)

add_at : (place : Place) (s : State) (fetch : Bool) (src d : ℕ) (l : Option Op) (u : State) → LeadsTo (add_to place s fetch src d) l u → u.pc ≡ s.pc + 1
add_at (InCounter m k j) s true src d l u h = by (is_frame src) h
  where
    by : (b : Bool) → LeadsTo (if b then Fault else Adds m k j d (λ x. with_number s (s.pc + 1) src x)) l u → u.pc ≡ s.pc + 1
    by true h = absurd (no_fault l u h)
    by false h = adds_at (s.pc + 1) m k j d _ l u (λ x. refl) h
add_at (InCounter m k j) s false src d l u h = adds_at (s.pc + 1) m k j d _ l u (λ x. refl) h
add_at (InPacket i) s fetch src d l u h = absurd (no_fault l u h)
add_at (InStack i) s fetch src d l u h = absurd (no_fault l u h)
add_at (InContext i) s fetch src d l u h = absurd (no_fault l u h)
add_at Nowhere s fetch src d l u h = absurd (no_fault l u h)

helped_at : (i : ℤ) (s : State) (l : Option Op) (u : State) → LeadsTo (helped i s) l u → u.pc ≡ s.pc + 1
helped_at (pos n) s l u h = by (n == 1) h
  where
    by : (b : Bool) → LeadsTo (if b then looked_up s else Fault) l u → u.pc ≡ s.pc + 1
    by true h =
        needed (s.reg 1) _ l u (λ x h.
        needed (s.reg 2) _ l u (λ a h.
        needed (map_at s x) _ l u (λ m h.
        needed (slice_get s.shapes m) (looked_up_in s a m) l u (λ shape h.
        needed (key_in (region (length s.packet) s.shapes a (key_size shape.key)) s (key_size shape.key)) _ l u (λ key h.
        next_at (called s (value_or_null shape m (row_of s m shape.key key))) (s.pc + 1) l u refl h) h) h) h) h) h
    by false h = absurd (no_fault l u h)
helped_at (negsuc n) s l u h = absurd (no_fault l u h)

pub exec_leads : (i : Insn) (s : State) (l : Option Op) (u : State) → LeadsTo (exec i s) l u → Leads i s.pc u.pc
exec_leads (Alu op wide dst src) s l u h = needed (operand s src) _ l u (λ x h. needed (first_operand op (s.reg (number dst))) _ l u (λ d h. written_at s (s.pc + 1) (number dst) _ l u h) h) h
exec_leads (Neg wide dst) s l u h = needed (s.reg (number dst)) _ l u (λ d h. written_at s (s.pc + 1) (number dst) _ l u h) h
exec_leads (End kind width dst) s l u h = needed (s.reg (number dst)) _ l u (λ d h. written_at s (s.pc + 1) (number dst) _ l u h) h
exec_leads (MovSx wide bits dst src) s l u h = needed (s.reg (number src)) _ l u (λ d h. written_at s (s.pc + 1) (number dst) _ l u h) h
exec_leads (Const dst value) s l u h = written_at s (s.pc + 2) (number dst) value l u h
exec_leads (MapRef dst m) s l u h = written_at s (s.pc + 2) (number dst) _ l u h
exec_leads (Ldx size signed dst src off) s l u h = needed (s.reg (number src)) _ l u (λ a h. load_leads s (address a off) signed size (number dst) l u h) h
exec_leads (St size dst off imm) s l u h = needed (s.reg (number dst)) _ l u (λ a h. store_at (reached s a off (size_bytes size)) s (size_bytes size) _ l u h) h
exec_leads (Stx size dst src off) s l u h = needed (s.reg (number src)) _ l u (λ x h. needed (s.reg (number dst)) _ l u (λ a h. store_at (reached s a off (size_bytes size)) s (size_bytes size) x l u h) h) h
exec_leads (AddCounter fetch dst src off) s l u h = needed (s.reg (number src)) _ l u (λ x h. needed (s.reg (number dst)) _ l u (λ a h. add_at (reached s a off 8) s fetch (number src) x l u h) h) h
exec_leads (Ja wide_offset to) s l u h = jumped_at s to l u h
exec_leads (Jump cond wide dst src off) s l u h = needed (s.reg (number dst)) _ l u (λ a h. needed (operand s src) _ l u (λ b h. by (is_met cond wide a b) h) h) h
  where
    by : (b : Bool) → LeadsTo (if b then jumped s off else Next (at_slot s (s.pc + 1))) l u → (u.pc ≡ s.pc + 1) ⊎ (target s.pc off ≡ Some u.pc)
    by true h = inr (jumped_at s off l u h)
    by false h = inl (next_at (at_slot s (s.pc + 1)) (s.pc + 1) l u refl h)
exec_leads (Call helper) s l u h = helped_at helper s l u h
exec_leads Exit s l u h = needed (s.reg 0) Exited l u (λ x h. absurd (exited x l u h)) h
exec_leads Second s l u h = absurd (no_fault l u h)
