-- An unwritten path leaves an Unset register in the notes, where the rule refuses none of them.
use Rattle.std.proofs.Common.{◌≡◌, ◌⊎◌, inl, inr, ℕ, List, [], ◌∷◌, Bool, true, false, ◌||◌, ◌&&◌, not, refl, sym, ap, ◌∙◌, subst, Some, None, pos}
use Rattle.std.specs.Prelude.{if◌then◌else◌, ◌==◌, slice_get, Contains, Ok, Err}
use Rattle.std.proofs.lemmas.List.Elements.{Contains-append_left}
use Rattle.bpf_insn.specs.Code.{IsCode}
use Rattle.bpf_insn.specs.declared.insn.Insn.{Insn}
use Rattle.bpf_insn.specs.declared.insn.Insn.TheVariants.{Call}
use Rattle.bpf_insn.specs.declared.refusal.Cause.{Cause}
use Rattle.bpf_insn.specs.declared.refusal.Cause.TheVariants as cause
use Rattle.bpf_note.specs.Shape.{Shape}
use Rattle.bpf_note.specs.State.{start_register, context_start, stack_end}
use Rattle.bpf_note.specs.declared.val.Val.TheVariants.{Unset, Stack, Ctx}
use Rattle.bpf_note.specs.Facts.{Facts, is_unset, entry_reg}
use Rattle.bpf_note.specs.Join.{joined}
use Rattle.bpf_flow.specs.Edges.{Edges, Answer}
use Rattle.bpf_flow.specs.Graph.{Leads, writes, loses}
use Rattle.bpf_flow.specs.Rule.{after_of}
use Rattle.bpf_flow.specs.Call.{is_lookup}
use Rattle.bpf_flow.specs.Reading.{IsKnownCall}
use Rattle.bpf_flow.proofs.AnswerLemmas.{unless_ok, flipped}
use Rattle.bpf_flow.proofs.SetLemmas.{KeepsSet, joined_unset}
use Rattle.bpf_flow.proofs.BehindLemmas.{unset_behind, AllTell, HasEdge, after_behind}
use Rattle.bpf_flow.proofs.ReadingLemmas.{unset_exactly}
use Rattle.bpf_verify.specs.Edges.{IsPassOrder}
use Rattle.bpf_verify.specs.Gathered.{rule_at, first_notes, AreNotes, AreAllowed}
use Rattle.bpf_verify.specs.Unwritten.{Reached, start, along, Unwritten, never, later, lost}
use Rattle.bpf_verify.specs.FirstRefusal.{IsStructured, IsPassed, IsStopped, ReadsUnset}
use Rattle.bpf_verify.proofs.ArriveLemmas.{OneHas, Brings, one_found, each_at, told_brings, gathering_kept, gathering_stands, allowed_at}
use Rattle.bpf_verify.proofs.CycleLemmas.{one_more}
use Rattle.bpf_verify.proofs.FlowLemmas.{structured_edge, reached_flows, flows_reached}
use Rattle.bpf_verify.proofs.LawLemmas.{takes_within}
use Rattle.bpf_verify.proofs.RankLemmas.{numbered}
use Rattle.bpf_verify.proofs.UnsetLemmas.{Rises, Traced, rule_there, all_traced, unset_read}

-- register k is Unset in the note
abbrev HasUnset : ℕ → Facts → Type 0
HasUnset k n = is_unset (n.reg k) ≡ true

-- any note
abbrev IsThere : Facts → Type 0
IsThere n = Unit {0}

either_of : (a b : Bool) → (a ≡ true) ⊎ (b ≡ true) → (a || b) ≡ true
either_of true b h = refl
either_of false b (inl h) = absurd (cc)
either_of false b (inr h) = h

unset_joined : (k : ℕ) (a b : Facts) → HasUnset k a ⊎ HasUnset k b → HasUnset k (joined a b)
unset_joined k a b h = joined_unset (a.reg k) (b.reg k) ∙ either_of (is_unset (a.reg k)) (is_unset (b.reg k)) h

-- behind an edge the register is Unset still, or is lost
stays_unset : (b w : Bool) → b ≡ true → w ≡ false → (b && not w) ≡ true
stays_unset true w h g = ap not g
stays_unset false w h g = absurd (cc)

still_behind : (i : Insn) (k : ℕ) (b : Bool) → b ≡ true → writes i k ≡ false → unset_behind i k b ≡ true
still_behind i k b h w = either_of (loses i k) (b && not (writes i k)) (inr (stays_unset b (writes i k) h w))

lost_behind : (i : Insn) (k : ℕ) (b : Bool) → loses i k ≡ true → unset_behind i k b ≡ true
lost_behind i k b h = either_of (loses i k) (b && not (writes i k)) (inl h)

brings_unset : (i : Insn) (p k q : ℕ) (n : Facts) (es : Edges) → AllTell i p k n es → HasEdge q es → KeepsSet n → unset_behind i k (is_unset (n.reg k)) ≡ true → Brings (HasUnset k) q es
brings_unset i p k q n [] t h kept u = absurd h
brings_unset i p k q n (e ∷ es) t (inl is) kept u = inl (is, t.0.unset kept ∙ u)
brings_unset i p k q n (e ∷ es) t (inr h) kept u = inr (brings_unset i p k q n es t.1 h kept u)

brings_one : (q : ℕ) (es : Edges) → HasEdge q es → Brings IsThere q es
brings_one q [] h = absurd h
brings_one q (e ∷ es) (inl is) = inl (is, tt)
brings_one q (e ∷ es) (inr h) = inr (brings_one q es h)

entry_by : (one ten : Bool) → (if one then Some context_start else if ten then Some stack_end else None) ≡ None → is_unset (if one then Ctx else if ten then Stack (pos 0) else Unset) ≡ true
entry_by true ten h = absurd (cc)
entry_by false true h = absurd (cc)
entry_by false false h = refl

entry_unset : (k : ℕ) → start_register k ≡ None → is_unset (entry_reg k) ≡ true
entry_unset k h = entry_by (k == 1) (k == 10) h

pub unwritten_reached : {code : List Insn} {k q : ℕ} → Unwritten code k q → Reached code q
unwritten_reached (never h) = start
unwritten_reached (later p q i u at w l) = along p q i (unwritten_reached u) at l
unwritten_reached (lost p q i r at h l) = along p q i r at l

-- a call that isn't refused is one of the known helper
known_call : (i : Insn) (pc : ℕ) (n : Facts) (shapes : List Shape) (es : Edges) → after_of i pc n shapes ≡ Ok es → IsKnownCall i
known_call (Call helper) pc n shapes es h = flipped (is_lookup helper) (unless_ok (not (is_lookup helper)) cause.Helper _ es h).0
known_call i pc n shapes es h = tt

never_refused : (a : Answer) (es : Edges) (c : Cause) → a ≡ Ok es → a ≡ Err c → ⊥
never_refused a es c h g = cc

module _ (code : List Insn) (shapes : List Shape) (order : List ℕ) (notes : ℕ → List Facts) (up : Rises code order) (are : AreNotes code shapes order notes)
    (allow : (p : ℕ) → Contains order p → AreAllowed code shapes p (notes p)) (whole : (p : ℕ) → Reached code p → Contains order p) where
  -- the rule's edges for a note of a reached slot
  edges_of : (p : ℕ) (i : Insn) (n : Facts) → Reached code p → slice_get code p ≡ Some i → Contains (notes p) n → (es : Edges) × (rule_at code shapes p n ≡ Ok es) × (after_of i p n shapes ≡ Ok es)
  edges_of p i n r at there =
      let a = allowed_at code shapes p (notes p) (allow p (whole p r)) n there in
      (a.0, a.1, sym (rule_there code shapes p n i at) ∙ a.1)

  -- a note stands at each reached slot
  noted : {q : ℕ} → Reached code q → OneHas IsThere (notes q)
  noted start = gathering_kept IsThere (λ a b h. tt) code shapes notes 0 order (first_notes 0) (notes 0) (are 0) (inl tt)
  noted (along p q i r at l) =
      let f = one_found IsThere (notes p) (noted r) in
      let e = edges_of p i f.0 r at f.1 in
      let b = after_behind i p 0 f.0 shapes e.0 e.2 in
      gathering_stands IsThere (λ a b h. tt) code shapes notes q order (first_notes q) (notes q) p (are q) (whole p r)
      (told_brings IsThere code shapes p q (notes p) f.0 e.0 f.1 e.1 (brings_one q e.0 (b.all q l)))

  kept_at : (p : ℕ) (n : Facts) → Contains (notes p) n → KeepsSet n
  kept_at p n at = (each_at (Traced code 0 p) (notes p) (all_traced code shapes order notes up are 0 p) n at).kept

  goes_on : (k p q : ℕ) (i : Insn) (n : Facts) → Reached code p → slice_get code p ≡ Some i → Leads i p q → Contains (notes p) n → unset_behind i k (is_unset (n.reg k)) ≡ true → OneHas (HasUnset k) (notes q)
  goes_on k p q i n r at l there u =
      let e = edges_of p i n r at there in
      let b = after_behind i p k n shapes e.0 e.2 in
      gathering_stands (HasUnset k) (unset_joined k) code shapes notes q order (first_notes q) (notes q) p (are q) (whole p r)
      (told_brings (HasUnset k) code shapes p q (notes p) n e.0 there e.1 (brings_unset i p k q n e.0 b.each (b.all q l) (kept_at p n there) u))

  -- at the end of an unwritten path stands a note in which the register is Unset
  pub unset_stands : {k q : ℕ} → Unwritten code k q → OneHas (HasUnset k) (notes q)
  unset_stands {k = k} (never h) = gathering_kept (HasUnset k) (unset_joined k) code shapes notes 0 order (first_notes 0) (notes 0) (are 0) (inl (entry_unset k h))
  unset_stands {k = k} (later p q i u at w l) =
      let f = one_found (HasUnset k) (notes p) (unset_stands u) in
      goes_on k p q i f.0 (unwritten_reached u) at l f.1 (still_behind i k (is_unset (f.0.reg k)) f.2 w)
  unset_stands {k = k} (lost p q i r at h l) =
      let f = one_found IsThere (notes p) (noted r) in
      goes_on k p q i f.0 r at l f.1 (lost_behind i k (is_unset (f.0.reg k)) h)

  -- so no instruction reads a register that a path leaves unwritten
  pub none_read : (pc : ℕ) → ReadsUnset code pc → ⊥
  none_read pc r =
      let f = one_found (HasUnset r.register) (notes pc) (unset_stands r.unwritten) in
      let e = edges_of pc r.insn f.0 (unwritten_reached r.unwritten) r.here f.1 in
      never_refused (after_of r.insn pc f.0 shapes) e.0 cause.Unset e.2
      ((unset_exactly r.insn pc f.0 shapes).1 (record { known = known_call r.insn pc f.0 shapes e.0 e.2; register = r.register; read = r.read; unset = f.2 }))

module _ (code : List Insn) (maps : ℕ) (laid : IsCode code) (structured : IsStructured code maps) (order : List ℕ) (is : IsPassOrder code order) where
  -- a slot that is reached is in the order
  pub reached_inside : (p : ℕ) → Reached code p → Contains order p
  reached_inside p r = is.whole p (reached_flows code maps laid structured r)

  -- slots of a structured program's order rise
  pub order_rises : (slots : List ℕ) → ((p : ℕ) → Contains slots p → Contains order p) → Rises code slots
  order_rises slots inside = record {
    reached = λ p at. flows_reached code (takes_within is.takes p (inside p at));
    num = (numbered is.takes).0;
    rises = λ p q i at here l.
        let flows = takes_within is.takes p (inside p at) in
        let edge = structured_edge code maps p q i laid structured here l in
        (numbered is.takes).1.rises p q flows edge (is.whole q (one_more flows edge));
  }

-- where the second pass is whole, no instruction reads a register that a path leaves unwritten
pub passed_written : (code : List Insn) (shapes : List Shape) (maps : ℕ) (notes : ℕ → List Facts) → IsCode code → IsStructured code maps → IsPassed code shapes notes → (pc : ℕ) → ReadsUnset code pc → ⊥
passed_written code shapes maps notes laid structured h =
    none_read code shapes h.order notes (order_rises code maps laid structured h.order h.is_order h.order (λ p at. at)) h.are_notes h.allowed
    (reached_inside code maps laid structured h.order h.is_order)

-- where the second pass stops with Unset, the instruction reads a register that a path leaves unwritten
pub stopped_unset : (code : List Insn) (shapes : List Shape) (maps pc : ℕ) → IsCode code → IsStructured code maps → IsStopped code shapes pc cause.Unset → ReadsUnset code pc
stopped_unset code shapes maps pc laid structured h =
    let inside : (p : ℕ) → Contains h.before p → Contains h.order p = λ p at. subst (λ (xs : List ℕ). Contains xs p) (sym h.parts) (Contains-append_left h.before (pc ∷ h.rest) p at) in
    unset_read code shapes h.before h.notes pc (order_rises code maps laid structured h.order h.is_order h.before inside) h.are_notes h.refused
