-- Edges of the flow graph are the falls and the jumps that the search finds.
use Rattle.std.proofs.Common.{◌≡◌, ◌<◌, ◌≤◌, ℕ, ℤ, zero, suc, length, List, [], ◌∷◌, arith, sym, ◌∙◌, refl, subst, ap, inl, inr, Option, Some, None, Bool, true, false}
use Rattle.std.specs.Prelude.{◌⊎◌, slice_get, if◌then◌else◌, slice_index_or}
use Rattle.std.proofs.lemmas.Option.{slice_get_cases}
use Rattle.bpf_insn.specs.declared.insn.Insn.{Insn}
use Rattle.bpf_insn.specs.declared.insn.Insn.TheVariants.{Alu, Neg, End, MovSx, Const, MapRef, Ldx, St, Stx, AddCounter, Ja, Jump, Call, Exit, Second}
use Rattle.bpf_flow.specs.Step.{target}
use Rattle.bpf_flow.specs.Graph.{Leads, next_slot}
use Rattle.bpf_verify.specs.Structure.{begins, landing, jump_of, falls_through}
use Rattle.bpf_verify.specs.Edges.{Edge, Flows, ClosesCycle}
use Rattle.bpf_verify.specs.Paths.{here, along}
use Rattle.bpf_verify.specs.Ways.{target_by, fall_by, jump_by, fall_to, jump_to}
use Rattle.bpf_verify.proofs.GraphLemmas.{Falls, Jumps, way, next_above}

-- an instruction stands at q
abbrev pub Stands : List Insn → ℕ → Type 0
Stands code q = begins (slice_get code q) ≡ true

pub stands_inside : (code : List Insn) (q : ℕ) → Stands code q → q < length code
stands_inside code q s = elim (slice_get_cases code q).1 [
  | inl there ↦ there.1
  | inr past ↦ let e : false ≡ true = ap begins (sym past.1) ∙ s in absurd (cc)
]

-- what is marked stands in the program
pub marked_inside : (m : List Bool) (q : ℕ) → slice_index_or m q false ≡ true → q < length m
marked_inside [] q e = cc
marked_inside (b ∷ m) zero e = omega arith
marked_inside (b ∷ m) (suc q) e = let low = marked_inside m q e in omega arith

-- the mark that was read
pub is_marked : (m : List Bool) (k : ℕ) (b : Bool) → b ≡ slice_index_or m k b → k < length m → b ≡ slice_index_or m k false
is_marked [] k b e low = absurd (omega arith)
is_marked (x ∷ m) zero b e low = e
is_marked (x ∷ m) (suc k) b e low = is_marked m k b e (omega arith)

landed_by : (code : List Insn) (r q : ℕ) (b : Bool) → begins (slice_get code r) ≡ b → (if b then Some r else None) ≡ Some q → (Some r ≡ Some q) × Stands code q
landed_by code r q true is e = let same : r ≡ q = cc in (e, subst (Stands code) same is)
landed_by code r q false is e = cc

landed : (code : List Insn) (o : Option ℕ) (q : ℕ) → landing code o ≡ Some q → (o ≡ Some q) × Stands code q
landed code None q e = cc
landed code (Some r) q e = landed_by code r q (begins (slice_get code r)) refl e

landing_by : (q : ℕ) (b : Bool) → b ≡ true → (if b then Some q else None) ≡ Some q
landing_by q true e = refl
landing_by q false e = cc

landing_of : (code : List Insn) (o : Option ℕ) (q : ℕ) → o ≡ Some q → Stands code q → landing code o ≡ Some q
landing_of code o q e s = ap (landing code) e ∙ landing_by q (begins (slice_get code q)) s

leads_begins : (i : Insn) (p q : ℕ) → Leads i p q → begins (Some i) ≡ true
leads_begins (Alu op wide dst src) p q h = refl
leads_begins (Neg wide dst) p q h = refl
leads_begins (End kind width dst) p q h = refl
leads_begins (MovSx wide bits dst src) p q h = refl
leads_begins (Const dst value) p q h = refl
leads_begins (MapRef dst m) p q h = refl
leads_begins (Ldx size signed dst src off) p q h = refl
leads_begins (St size dst off imm) p q h = refl
leads_begins (Stx size dst src off) p q h = refl
leads_begins (AddCounter fetch dst src off) p q h = refl
leads_begins (Ja wide_offset to) p q h = refl
leads_begins (Jump cond wide dst src off) p q h = refl
leads_begins (Call helper) p q h = refl
leads_begins Exit p q h = refl
leads_begins Second p q h = absurd h

fall_leads : (i : Insn) (p : ℕ) → falls_through i ≡ true → Leads i p (next_slot i p)
fall_leads (Alu op wide dst src) p h = refl
fall_leads (Neg wide dst) p h = refl
fall_leads (End kind width dst) p h = refl
fall_leads (MovSx wide bits dst src) p h = refl
fall_leads (Const dst value) p h = refl
fall_leads (MapRef dst m) p h = refl
fall_leads (Ldx size signed dst src off) p h = refl
fall_leads (St size dst off imm) p h = refl
fall_leads (Stx size dst src off) p h = refl
fall_leads (AddCounter fetch dst src off) p h = refl
fall_leads (Ja wide_offset to) p h = cc
fall_leads (Jump cond wide dst src off) p h = inl refl
fall_leads (Call helper) p h = refl
fall_leads Exit p h = cc
fall_leads Second p h = cc

jump_leads : (i : Insn) (p q : ℕ) (off : ℤ) → jump_of i ≡ Some off → target p off ≡ Some q → Leads i p q
jump_leads (Ja wide_offset to) p q off j t = let same : to ≡ off = cc in ap (target p) same ∙ t
jump_leads (Jump cond wide dst src o) p q off j t = let same : o ≡ off = cc in inr (ap (target p) same ∙ t)
jump_leads i p q off j t = cc

-- the instruction at p goes on to the one at q
pub record FallsTo (code : List Insn) (p q : ℕ) : Type 0 where
  pub insn : Insn
  pub here : slice_get code p ≡ Some insn
  pub falls : falls_through insn ≡ true
  pub next : q ≡ next_slot insn p
  pub stands : Stands code q

-- the instruction at p jumps to the one at q
pub record JumpsTo (code : List Insn) (p q : ℕ) : Type 0 where
  pub insn : Insn
  pub here : slice_get code p ≡ Some insn
  pub offset : ℤ
  pub jumps : jump_of insn ≡ Some offset
  pub lands : target p offset ≡ Some q
  pub stands : Stands code q

fall_found_of : (code : List Insn) (p q : ℕ) (i : Insn) → slice_get code p ≡ Some i → (b : Bool) → falls_through i ≡ b → (if b then landing code (Some (next_slot i p)) else None) ≡ Some q → FallsTo code p q
fall_found_of code p q i is true f e =
    let l = landed code (Some (next_slot i p)) q e in
    let next : next_slot i p ≡ q = cc (l.0) in
    record { insn = i; here = is; falls = f; next = sym next; stands = l.1 }
fall_found_of code p q i is false f e = cc

fall_found_by : (code : List Insn) (p q : ℕ) (o : Option Insn) → slice_get code p ≡ o → fall_by code p o ≡ Some q → FallsTo code p q
fall_found_by code p q None is e = cc
fall_found_by code p q (Some i) is e = fall_found_of code p q i is (falls_through i) refl e

pub fall_found : (code : List Insn) (p q : ℕ) → fall_to code p ≡ Some q → FallsTo code p q
unfolding fall_to
fall_found code p q e = fall_found_by code p q (slice_get code p) refl e

jump_found_of : (code : List Insn) (p q : ℕ) (i : Insn) → slice_get code p ≡ Some i → (o : Option ℤ) → jump_of i ≡ o → landing code (target_by p o) ≡ Some q → JumpsTo code p q
jump_found_of code p q i is None j e = cc
jump_found_of code p q i is (Some off) j e =
    let l = landed code (target p off) q e in
    record { insn = i; here = is; offset = off; jumps = j; lands = l.0; stands = l.1 }

jump_found_by : (code : List Insn) (p q : ℕ) (o : Option Insn) → slice_get code p ≡ o → jump_by code p o ≡ Some q → JumpsTo code p q
jump_found_by code p q None is e = cc
jump_found_by code p q (Some i) is e = jump_found_of code p q i is (jump_of i) refl e

pub jump_found : (code : List Insn) (p q : ℕ) → jump_to code p ≡ Some q → JumpsTo code p q
unfolding jump_to
jump_found code p q e = jump_found_by code p q (slice_get code p) refl e

fall_is_by : (code : List Insn) (p q : ℕ) (i : Insn) → q ≡ next_slot i p → Stands code q → (b : Bool) → b ≡ true → (if b then landing code (Some (next_slot i p)) else None) ≡ Some q
fall_is_by code p q i e s true f = landing_of code (Some (next_slot i p)) q (ap Some (sym e)) s
fall_is_by code p q i e s false f = cc

pub fall_is : (code : List Insn) (p q : ℕ) (i : Insn) → slice_get code p ≡ Some i → falls_through i ≡ true → q ≡ next_slot i p → Stands code q → fall_to code p ≡ Some q
unfolding fall_to
fall_is code p q i is f e s = ap (fall_by code p) is ∙ fall_is_by code p q i e s (falls_through i) f

pub jump_is : (code : List Insn) (p q : ℕ) (i : Insn) (off : ℤ) → slice_get code p ≡ Some i → jump_of i ≡ Some off → target p off ≡ Some q → Stands code q → jump_to code p ≡ Some q
unfolding jump_to
jump_is code p q i off is j t s = ap (jump_by code p) is ∙ (ap (λ (o : Option ℤ). landing code (target_by p o)) j ∙ landing_of code (target p off) q t s)

pub fall_edge : (code : List Insn) (p q : ℕ) → fall_to code p ≡ Some q → Edge code p q
fall_edge code p q e =
    let f = fall_found code p q e in
    record { insn = f.insn; here = f.here; leads = subst (Leads f.insn p) (sym f.next) (fall_leads f.insn p f.falls); lands = f.stands }

pub jump_edge : (code : List Insn) (p q : ℕ) → jump_to code p ≡ Some q → Edge code p q
jump_edge code p q e =
    let j = jump_found code p q e in
    record { insn = j.insn; here = j.here; leads = jump_leads j.insn p q j.offset j.jumps j.lands; lands = j.stands }

-- the edge is a fall or a jump
abbrev pub IsWay : List Insn → ℕ → ℕ → Type 0
IsWay code p q = (fall_to code p ≡ Some q) ⊎ (jump_to code p ≡ Some q)

pub edge_way : (code : List Insn) (p q : ℕ) → Edge code p q → IsWay code p q
edge_way code p q e = elim (way e.insn p q e.leads) [
  | Falls t s ↦ inl (fall_is code p q e.insn e.here t s e.lands)
  | Jumps off j t ↦ inr (jump_is code p q e.insn off e.here j t e.lands)
]

pub way_edge : (code : List Insn) (p q : ℕ) → IsWay code p q → Edge code p q
way_edge code p q (inl e) = fall_edge code p q e
way_edge code p q (inr e) = jump_edge code p q e

-- an edge leads from an instruction to an instruction
pub edge_stands : (code : List Insn) (p q : ℕ) → Edge code p q → Stands code q × Stands code p
edge_stands code p q e = (e.lands, ap begins e.here ∙ leads_begins e.insn p q e.leads)

pub fall_inside : (code : List Insn) (p q : ℕ) → fall_to code p ≡ Some q → q < length code
fall_inside code p q e = stands_inside code q (fall_found code p q e).stands

pub jump_inside : (code : List Insn) (p q : ℕ) → jump_to code p ≡ Some q → q < length code
jump_inside code p q e = stands_inside code q (jump_found code p q e).stands

-- the edge to the next instruction goes up
pub fall_up : (code : List Insn) (p q : ℕ) → fall_to code p ≡ Some q → p < q
fall_up code p q e = let f = fall_found code p q e in let up = next_above p f.insn in omega (arith, up, f.next)

-- from where a path leads to an instruction an instruction stands
flow_stands : {code : List Insn} {p q : ℕ} → Flows code p q → Stands code q → Stands code p
flow_stands here s = s
flow_stands (along e l) s = (edge_stands _ _ _ e).1

jump_begins : (i : Insn) (off : ℤ) → jump_of i ≡ Some off → begins (Some i) ≡ true
jump_begins (Ja wide_offset to) off j = refl
jump_begins (Jump cond wide dst src o) off j = refl
jump_begins i off j = cc

pub closing_jump : (code : List Insn) (p : ℕ) (c : ClosesCycle code p) → jump_to code p ≡ Some c.to
closing_jump code p c =
    jump_is code p c.to c.insn c.offset c.here c.jumps c.lands (flow_stands c.returns (ap begins c.here ∙ jump_begins c.insn c.offset c.jumps))

pub closes : (code : List Insn) (p to : ℕ) → jump_to code p ≡ Some to → to ≤ p → Flows code to p → ClosesCycle code p
closes code p to e back l =
    let j = jump_found code p to e in
    record { insn = j.insn; here = j.here; offset = j.offset; jumps = j.jumps; to = to; lands = j.lands; back = back; returns = l }

-- a jump that closes a cycle goes where the search finds it
pub closes_from : (code : List Insn) (p to : ℕ) → jump_to code p ≡ Some to → ClosesCycle code p → (to ≤ p) × Flows code to p
closes_from code p to e c =
    let same : c.to ≡ to = cc (sym (closing_jump code p c) ∙ e) in
    (subst (λ (q : ℕ). q ≤ p) same c.back, subst (λ (q : ℕ). Flows code q p) same c.returns)

pub closes_nowhere : (code : List Insn) (p : ℕ) → jump_to code p ≡ None → ClosesCycle code p → ⊥
closes_nowhere code p e c = let no' : None ≡ Some c.to = sym e ∙ closing_jump code p c in cc
