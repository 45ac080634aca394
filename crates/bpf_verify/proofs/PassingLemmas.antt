-- While the slots of an order are taken.
use Rattle.std.proofs.Common.{◌≡◌, ◌≢◌, ◌⊎◌, inl, inr, refl, ◌<◌, ◌≤◌, ◌+◌, ℕ, zero, suc, List, [], ◌∷◌, ◌++◌, length, take, drop, get_or, sym, ap, ◌∙◌, arith, subst, true}
use Rattle.std.proofs.lemmas.Option.{slice_get_within}
use Rattle.std.specs.Prelude.{Contains, slice_get}
use Rattle.std.proofs.lemmas.Bool.{cases_lt}
use Rattle.std.proofs.lemmas.List.{get_or_append_left, take-append-le, take_all, take_more}
use Rattle.std.proofs.lemmas.List.Elements.{Contains-append_cases, Contains-append_left, Contains-append_right}
use Rattle.std.proofs.Math.Seq.{get_or-append_seam}
use Rattle.bpf_insn.specs.Code.{IsCode}
use Rattle.bpf_insn.specs.declared.insn.Insn.{Insn}
use Rattle.bpf_insn.specs.declared.refusal.Cause.{Cause}
use Rattle.bpf_insn.specs.declared.refusal.Cause.TheVariants.{Memory, Length, Opcode, Register, Target, BackJump, End, Unset, FramePointer, NoPointer, Packet, Stack, Context, MayBeNull, MapAccess, Helper, MapNumber, Argument, Unsupported}
use Rattle.bpf_note.specs.Shape.{Shape}
use Rattle.bpf_note.specs.Facts.{Facts}
use Rattle.bpf_flow.specs.Edges.{Edges}
use Rattle.bpf_flow.proofs.LeadLemmas.{Speaks}
use Rattle.bpf_verify.specs.Edges.{Edge, Flows, IsPassOrder}
use Rattle.bpf_verify.specs.Orders.{IsReady, Takes, none, more}
use Rattle.bpf_verify.specs.Structure.{begins}
use Rattle.bpf_verify.specs.FirstRefusal.{IsStructured, IsPassed, IsStopped, IsStoppedBy, IsFollowed, IsHalted}
use Rattle.bpf_verify.specs.Lost.{ComesWith}
use Rattle.bpf_verify.specs.Tables.{IsMet}
use Rattle.bpf_verify.proofs.GraphLemmas.{begun}
use Rattle.bpf_verify.specs.Gathered.{Hears, told, first_notes, AreNotes, AreAllowed, TakesMemory, IsFirstCause, IsFirstRefused}
use Rattle.bpf_verify.proofs.FollowLemmas.{first_is_cause}
use Rattle.bpf_verify.proofs.GatherLemmas.{hears_quiet, notes_more}
use Rattle.bpf_verify.proofs.ToldLemmas.{told_edge}
use Rattle.bpf_verify.proofs.RankLemmas.{taken_preds, last_length}
use Rattle.bpf_verify.proofs.CodeLemmas.{first_begins}
use Rattle.bpf_verify.proofs.SearchLemmas.{the_one}
use Rattle.bpf_verify.proofs.LawLemmas.{contains_or}
use Rattle.bpf_verify.specs.Paths as paths

-- a prefix of an order is an order, and the next slot was ready
pub record IsTaken (Edge : ℕ → ℕ → Type 0) (In : ℕ → Type 0) (taken : List ℕ) (p : ℕ) : Type 0 where
  pub takes : Takes Edge In taken
  pub ready : IsReady Edge In taken p

pub taken_at : {Edge : ℕ → ℕ → Type 0} {In : ℕ → Type 0} {order : List ℕ} → Takes Edge In order → (i : ℕ) → i < length order → IsTaken Edge In (take i order) (get_or order i 0)
taken_at none i low = absurd (omega arith)
taken_at {Edge = Edge} {In = In} (more {taken = taken} {p = c} t ready first) i low =
    let len = last_length taken c in
    elim (cases_lt i (length taken)) [
      | inl old ↦
          let at : get_or (taken ++ c ∷ []) i 0 ≡ get_or taken i 0 = get_or_append_left taken (c ∷ []) 0 i old in
          let front : take i (taken ++ c ∷ []) ≡ take i taken = take-append-le i taken (c ∷ []) (omega arith) in
          subst (λ (q : ℕ). IsTaken Edge In (take i (taken ++ c ∷ [])) q) (sym at) (subst (λ (xs : List ℕ). IsTaken Edge In xs (get_or taken i 0)) (sym front) (taken_at t i old))
      | inr h ↦
          let last : i ≡ length taken = omega (arith, len) in
          let at : get_or (taken ++ c ∷ []) i 0 ≡ c = ap (λ (k : ℕ). get_or (taken ++ c ∷ []) k 0) last ∙ get_or-append_seam taken c [] 0 in
          let front : take i (taken ++ c ∷ []) ≡ taken = ap (λ (k : ℕ). take k (taken ++ c ∷ [])) last ∙ (take-append-le (length taken) taken (c ∷ []) (omega arith) ∙ take_all (length taken) taken (omega arith)) in
          subst (λ (q : ℕ). IsTaken Edge In (take i (taken ++ c ∷ [])) q) (sym at) (subst (λ (xs : List ℕ). IsTaken Edge In xs c) (sym front) (record { takes = t; ready = ready }))
    ]

parts_of : (xs : List ℕ) (i c : ℕ) → i < length xs → get_or xs i 0 ≡ c → xs ≡ take i xs ++ c ∷ drop (i + 1) xs
parts_of [] i c low e = absurd (omega arith)
parts_of (x ∷ xs) zero c low e = ap (λ (y : ℕ). y ∷ xs) e
parts_of (x ∷ xs) (suc i) c low e = ap (λ (ys : List ℕ). x ∷ ys) (parts_of xs i c (omega arith) e) ∙ ap (λ (k : ℕ). x ∷ (take i xs ++ c ∷ drop k (x ∷ xs))) (more_by_one i)
  where
    more_by_one : (i : ℕ) → suc (i + 1) ≡ suc i + 1
    more_by_one i = omega arith

-- a slot that the flow graph reaches begins an instruction
pub flows_begins : (code : List Insn) (q : ℕ) → IsCode code → Flows code 0 q → begins (slice_get code q) ≡ true
flows_begins code q laid f = on code 0 q (first_begins code laid) f
  where
    on : (code : List Insn) (p q : ℕ) → begins (slice_get code p) ≡ true → paths.Reaches (Edge code) p q → begins (slice_get code q) ≡ true
    on code p q b paths.here = b
    on code p q b (paths.along {q = r} e f) = on code r q e.lands f

-- the slots below place i of the order have told theirs, and were allowed
pub record IsPassing (code : List Insn) (shapes : List Shape) (order : List ℕ) (i : ℕ) (notes : ℕ → List Facts) : Type 0 where
  pub are_notes : AreNotes code shapes (take i order) notes
  pub allowed : (p : ℕ) → Contains (take i order) p → AreAllowed code shapes p (notes p)

-- the same, where the lists of those slots are gone: the others stand
pub record IsPassingWith (code : List Insn) (shapes : List Shape) (order : List ℕ) (i : ℕ) (lists : ℕ → List Facts) : Type 0 where
  pub notes : ℕ → List Facts
  pub passing : IsPassing code shapes order i notes
  pub same : (q : ℕ) → (Contains (take i order) q → ⊥) → lists q ≡ notes q

-- the first where it is so, else the second
abbrev kept_or : {P : Type 0} → P ⊎ (P → ⊥) → List Facts → List Facts → List Facts
kept_or (inl h) ns ms = ns
kept_or (inr h) ns ms = ms

new_there : {P : Type 0} (d : P ⊎ (P → ⊥)) (ns ms : List Facts) → (P → ⊥) → ms ≡ kept_or d ns ms
new_there (inl h) ns ms out = absurd (out h)
new_there (inr h) ns ms out = refl

pub passing_first : (code : List Insn) (shapes : List Shape) (order : List ℕ) (notes : ℕ → List Facts) → ((q : ℕ) → notes q ≡ first_notes q) → IsPassing code shapes order 0 notes
passing_first code shapes order notes h = record { are_notes = λ q. sym (h q); allowed = λ p at. absurd (omega (arith, at.1)) }

module _ (code : List Insn) (shapes : List Shape) (order : List ℕ) (laid : IsCode code) (structured : IsStructured code (length shapes)) (is : IsPassOrder code order) where
  module _ (i c : ℕ) (low : i < length order) (at : get_or order i 0 ≡ c) (notes : ℕ → List Facts) (p : IsPassing code shapes order i notes) where
    state : IsTaken (Edge code) (Flows code 0) (take i order) c
    state = subst (λ (q : ℕ). IsTaken (Edge code) (Flows code 0) (take i order) q) at (taken_at is.takes i low)

    quiet : (q : ℕ) → Contains (take i order) q → Speaks (told code shapes c (notes c)) q → ⊥
    quiet q there s = state.ready.open' (taken_preds state.takes c q state.ready.within (told_edge code shapes laid structured c q (notes c) s) there)

    self : Speaks (told code shapes c (notes c)) c → ⊥
    self s = state.ready.open' (state.ready.preds c state.ready.within (told_edge code shapes laid structured c c (notes c) s))

    longer : take (i + 1) order ≡ take i order ++ c ∷ []
    longer = take_more order i 0 low ∙ ap (λ (q : ℕ). take i order ++ q ∷ []) at

    -- one slot more
    pub passing_on : (notes' : ℕ → List Facts) → ((q : ℕ) → Hears (notes q) q (told code shapes c (notes c)) (notes' q)) → AreAllowed code shapes c (notes c) → IsPassing code shapes order (i + 1) notes'
    passing_on notes' hears ok =
        let kept : (q : ℕ) → Contains (take i order) q → notes q ≡ notes' q = λ q there. hears_quiet (notes q) q (told code shapes c (notes c)) (notes' q) (quiet q there) (hears q) in
        let same : notes c ≡ notes' c = hears_quiet (notes c) c (told code shapes c (notes c)) (notes' c) self (hears c) in
        record {
          are_notes = subst (λ (ps : List ℕ). AreNotes code shapes ps notes') (sym longer) (notes_more code shapes (take i order) c notes notes' quiet self hears p.are_notes);
          allowed = λ q there. elim (Contains-append_cases (take i order) (c ∷ []) q (subst (λ (ps : List ℕ). Contains ps q) longer there)) [
            | inl old ↦ subst (λ (ns : List Facts). AreAllowed code shapes q ns) (kept q old) (p.allowed q old)
            | inr new ↦ let here = the_one c q new in subst (λ (r : ℕ). AreAllowed code shapes r (notes' r)) (sym here) (subst (λ (ns : List Facts). AreAllowed code shapes c ns) same ok)
          ];
        }

    hears_nothing : (ns : List Facts) (q : ℕ) (es : Edges) → (Speaks es q → ⊥) → Hears ns q es ns
    hears_nothing ns q [] quiet = refl
    hears_nothing ns q (e ∷ es) quiet = inr (λ at. quiet (inl at), hears_nothing ns q es (λ s. quiet (inr s)))

    front : (q : ℕ) → Contains (take (i + 1) order) q → Speaks (told code shapes c (notes c)) q → ⊥
    front q there s = elim (Contains-append_cases (take i order) (c ∷ []) q (subst (λ (ps : List ℕ). Contains ps q) longer there)) [
      | inl before ↦ quiet q before s
      | inr last ↦ self (subst (λ (q : ℕ). Speaks (told code shapes c (notes c)) q) (the_one c q last) s)
    ]

    not_taken : (q : ℕ) → (Contains (take (i + 1) order) q → ⊥) → (q ≢ c) × (Contains (take i order) q → ⊥)
    not_taken q out =
        let back : Contains (take i order ++ c ∷ []) q → Contains (take (i + 1) order) q = λ there. subst (λ (ps : List ℕ). Contains ps q) (sym longer) there in (
          λ e. out (back (Contains-append_right (take i order) (c ∷ []) q (0, omega arith, sym e))),
          λ there. out (back (Contains-append_left (take i order) (c ∷ []) q there)),
        )

    module _ (old new : ℕ → List Facts) (same : (q : ℕ) → (Contains (take i order) q → ⊥) → old q ≡ notes q) (hears : (q : ℕ) → q ≢ c → Hears (old q) q (told code shapes c (old c)) (new q)) where
      kept_hears : (q : ℕ) (d : Contains (take (i + 1) order) q ⊎ (Contains (take (i + 1) order) q → ⊥)) → Hears (notes q) q (told code shapes c (notes c)) (kept_or d (notes q) (new q))
      kept_hears q (inl there) = hears_nothing (notes q) q (told code shapes c (notes c)) (front q there)
      kept_hears q (inr out) =
          let away = not_taken q out in
          let heard : Hears (notes q) q (told code shapes c (old c)) (new q) = subst (λ (ns : List Facts). Hears ns q (told code shapes c (old c)) (new q)) (same q away.1) (hears q away.0) in
          subst (λ (ns : List Facts). Hears (notes q) q (told code shapes c ns) (new q)) (same c state.ready.open') heard

      -- one slot more, whose list went once it was followed
      pub passing_with : AreAllowed code shapes c (old c) → IsPassingWith code shapes order (i + 1) new
      passing_with ok =
          let after : ℕ → List Facts = λ q. kept_or (contains_or (take (i + 1) order) q) (notes q) (new q) in
          record {
            notes = after;
            passing = passing_on after (λ q. kept_hears q (contains_or (take (i + 1) order) q)) (subst (λ (ns : List Facts). AreAllowed code shapes c ns) (same c state.ready.open') ok);
            same = λ q out. new_there (contains_or (take (i + 1) order) q) (notes q) (new q) out;
          }

    -- the list of the slot that is followed still stands
    pub list_there : (lists : ℕ → List Facts) → ((q : ℕ) → (Contains (take i order) q → ⊥) → lists q ≡ notes q) → lists c ≡ notes c
    list_there lists same = same c state.ready.open'

    -- the pass stops here
    pub passing_stops : (cause : Cause) → IsFirstCause code shapes c (notes c) cause → IsStopped code shapes c cause
    passing_stops cause h = record {
      order = order;
      is_order = is;
      before = take i order;
      rest = drop (i + 1) order;
      parts = parts_of order i c low at;
      notes = notes;
      are_notes = p.are_notes;
      allowed = p.allowed;
      refused = h;
    }

    -- at this note
    pub passing_stops_by : (cause : Cause) (n : Facts) → IsFirstRefused code shapes c (notes c) cause n → IsStoppedBy code shapes c cause n
    unfolding passing_stops
    passing_stops_by cause n h = record { stopped = passing_stops cause (first_is_cause code shapes c (notes c) cause n h); first = h }

    -- the pass comes here
    pub passing_comes : (list : List Facts) → notes c ≡ list → ComesWith code shapes c list
    passing_comes list h = record {
      order = order;
      is_order = is;
      before = take i order;
      rest = drop (i + 1) order;
      parts = parts_of order i c low at;
      notes = notes;
      are_notes = p.are_notes;
      allowed = p.allowed;
      here = h;
    }

    -- memory is wanted here
    pub passing_takes : TakesMemory code shapes c (notes c) → IsFollowed code shapes c
    passing_takes h = record {
      order = order;
      is_order = is;
      before = take i order;
      rest = drop (i + 1) order;
      parts = parts_of order i c low at;
      notes = notes;
      are_notes = p.are_notes;
      allowed = p.allowed;
      takes = h;
    }

  -- all have been taken
  pub passing_last : (i : ℕ) (notes : ℕ → List Facts) → length order ≤ i → IsPassing code shapes order i notes → IsPassed code shapes notes
  passing_last i notes all p =
      let whole : take i order ≡ order = take_all i order all in
      record {
        order = order;
        is_order = is;
        are_notes = subst (λ (ps : List ℕ). AreNotes code shapes ps notes) whole p.are_notes;
        allowed = λ q there. p.allowed q (subst (λ (ps : List ℕ). Contains ps q) (sym whole) there);
      }

-- each slot of the order begins an instruction
pub order_begins : (code : List Insn) (order : List ℕ) (i : ℕ) → IsCode code → IsPassOrder code order → i < length order → begins (slice_get code (get_or order i 0)) ≡ true
order_begins code order i laid is low = let s = taken_at is.takes i low in flows_begins code (get_or order i 0) laid s.ready.within

pub begun_inside : (code : List Insn) (q : ℕ) → begins (slice_get code q) ≡ true → q < length code
begun_inside code q b = let g = begun (slice_get code q) b in slice_get_within code q g.0 g.1

pub halted_by : (code : List Insn) (shapes : List Shape) (pc : ℕ) (c : Cause) (W P : Type 0) → IsMet c W P → (W → IsFollowed code shapes pc) → (P → IsStopped code shapes pc c) → IsHalted code shapes pc c
halted_by code shapes pc Memory W P h g f = inr (g h)
halted_by code shapes pc Length W P h g f = f h
halted_by code shapes pc Opcode W P h g f = f h
halted_by code shapes pc Register W P h g f = f h
halted_by code shapes pc Target W P h g f = f h
halted_by code shapes pc BackJump W P h g f = f h
halted_by code shapes pc End W P h g f = f h
halted_by code shapes pc Unset W P h g f = f h
halted_by code shapes pc FramePointer W P h g f = f h
halted_by code shapes pc NoPointer W P h g f = f h
halted_by code shapes pc Packet W P h g f = f h
halted_by code shapes pc Stack W P h g f = f h
halted_by code shapes pc Context W P h g f = f h
halted_by code shapes pc MayBeNull W P h g f = f h
halted_by code shapes pc MapAccess W P h g f = f h
halted_by code shapes pc Helper W P h g f = f h
halted_by code shapes pc MapNumber W P h g f = f h
halted_by code shapes pc Argument W P h g f = f h
halted_by code shapes pc Unsupported W P h g f = f h
