-- From orders to ranks and to the second pass.
use Rattle.std.proofs.Common.{◌≡◌, ◌<◌, ℕ, zero, suc, length, List, [], ◌∷◌, arith, sym, ◌∙◌, refl, ap, inl, inr, Bool, true, Some, cond}
use Rattle.std.specs.Prelude.{Contains, slice_get, map, count_by}
use Rattle.std.proofs.lemmas.List.Sums.{sum_by-cons}
use Rattle.bpf_insn.specs.declared.insn.Insn.{Insn}
use Rattle.bpf_insn.specs.declared.insn.Insn.TheVariants.{Alu, Neg, End, MovSx, Const, MapRef, Ldx, St, Stx, AddCounter, Ja, Jump, Call, Exit, Second}
use Rattle.bpf_verify.specs.Structure.{begins}
use Rattle.bpf_verify.specs.Edges.{Edge, Flows, ClosesCycle, IsPassOrder}
use Rattle.bpf_verify.specs.Marks.{is_instruction, marked, IsLeft}
use Rattle.bpf_verify.specs.Orders.{Takes, none, more, IsReady}
use Rattle.bpf_verify.specs.Consistent.{worth, instructions, IsOrdered}
use Rattle.bpf_verify.proofs.CycleLemmas.{TurnsBack, Circles, turned}
use Rattle.bpf_verify.proofs.GraphLemmas.{begun, begun_worth}
use Rattle.bpf_verify.proofs.WayLemmas.{edge_stands, edge_way, jump_edge, stands_inside, fall_up, closing_jump, closes}
use Rattle.bpf_verify.proofs.RankLemmas.{ranked, whole, rank_circle}

abbrev pub marks_of : List Insn → List Bool
marks_of code = map is_instruction code

pub marked_stands : (code : List Insn) (q : ℕ) → marked (marks_of code) q ≡ begins (slice_get code q)
unfolding is_instruction
marked_stands [] q = refl
marked_stands (i ∷ code) zero = refl
marked_stands (i ∷ code) (suc q) = marked_stands code q

worth_begins : (i : Insn) → worth i ≡ cond (is_instruction i) 1 0
unfolding is_instruction
worth_begins (Alu op wide dst src) = refl
worth_begins (Neg wide dst) = refl
worth_begins (End kind width dst) = refl
worth_begins (MovSx wide bits dst src) = refl
worth_begins (Const dst value) = refl
worth_begins (MapRef dst m) = refl
worth_begins (Ldx size signed dst src off) = refl
worth_begins (St size dst off imm) = refl
worth_begins (Stx size dst src off) = refl
worth_begins (AddCounter fetch dst src off) = refl
worth_begins (Ja wide_offset to) = refl
worth_begins (Jump cond wide dst src off) = refl
worth_begins (Call helper) = refl
worth_begins Exit = refl
worth_begins Second = refl

worth_begun : (i : Insn) → worth i ≡ 1 → begins (Some i) ≡ true
worth_begun (Alu op wide dst src) e = refl
worth_begun (Neg wide dst) e = refl
worth_begun (End kind width dst) e = refl
worth_begun (MovSx wide bits dst src) e = refl
worth_begun (Const dst value) e = refl
worth_begun (MapRef dst m) e = refl
worth_begun (Ldx size signed dst src off) e = refl
worth_begun (St size dst off imm) e = refl
worth_begun (Stx size dst src off) e = refl
worth_begun (AddCounter fetch dst src off) e = refl
worth_begun (Ja wide_offset to) e = refl
worth_begun (Jump cond wide dst src off) e = refl
worth_begun (Call helper) e = refl
worth_begun Exit e = refl
worth_begun Second e = absurd (omega (arith, e))

worth_stands : (code : List Insn) (p : ℕ) (i : Insn) → slice_get code p ≡ Some i → worth i ≡ 1 → begins (slice_get code p) ≡ true
worth_stands code p i e w = ap begins e ∙ worth_begun i w

pub count_marks : (code : List Insn) → count_by (λ b. b) (marks_of code) ≡ instructions code
count_marks [] = refl
count_marks (i ∷ code) =
    let a = sum_by-cons (λ (b : Bool). cond b 1 0) (is_instruction i) (marks_of code) in
    let w = worth_begins i in
    omega (arith, a, w, count_marks code)

pub closes_circle : (code : List Insn) (p : ℕ) → ClosesCycle code p → Circles (Edge code) p p
closes_circle code p c = record { via = c.to; edge = jump_edge code p c.to (closing_jump code p c); rest = c.returns }

turns_closes : (code : List Insn) (p : ℕ) → TurnsBack (Edge code) p → ClosesCycle code p
turns_closes code p t = elim (edge_way code p t.to t.edge) [
  | inl next ↦ let up = fall_up code p t.to next in let back = t.back in absurd (omega (arith, up, back))
  | inr jump ↦ closes code p t.to jump t.back t.returns
]

-- where no jump closes a cycle there is none
pub acyclic : (code : List Insn) → ((q : ℕ) → q < length code → ClosesCycle code q → ⊥) → (p : ℕ) → Circles (Edge code) p p → ⊥
acyclic code clear p c =
    let t = turned p c in
    clear t.0 (stands_inside code t.0 (edge_stands code t.0 t.1.to t.1.edge).1) (turns_closes code t.0 t.1)

-- an order of all instructions gives ranks
ordered_by : (code : List Insn) (start left : List Bool) (taken : List ℕ) → start ≡ marks_of code → Takes (Edge code) (λ q. marked start q ≡ true) taken → IsLeft (Edge code) start taken left →
    ((q : ℕ) → marked start q ≡ true → Contains taken q) → IsOrdered code
ordered_by code start left taken is t l all =
    let on : (q : ℕ) → begins (slice_get code q) ≡ true → marked start q ≡ true = λ q s. ap (λ (m : List Bool). marked m q) is ∙ (marked_stands code q ∙ s) in
    let r = ranked t (λ p q e. let s = edge_stands code p q e in (on p s.1, all p (on p s.1), all q (on q s.0))) in
    record {
      rank = r.0;
      falls = r.1;
      below = λ p i here w. let s = worth_stands code p i here w in let low = r.2 p (all p (on p s)) in let size = l.size in
          let same : count_by (λ b. b) start ≡ instructions code = ap (λ (m : List Bool). count_by (λ b. b) m) is ∙ count_marks code in omega (arith, low, size, same);
    }

pub ordered_clear : (code : List Insn) (start left : List Bool) (taken : List ℕ) → start ≡ marks_of code → Takes (Edge code) (λ q. marked start q ≡ true) taken → IsLeft (Edge code) start taken left →
    ((q : ℕ) → marked left q ≡ true → ⊥) → IsOrdered code
ordered_clear code start left taken is t l clear =
    ordered_by code start left taken is t l (λ q on. elim (l.rest q on) [ inl at ↦ at | inr stays ↦ absurd (clear q stays) ])

pub ordered_acyclic : (code : List Insn) (start left : List Bool) (taken : List ℕ) → start ≡ marks_of code → Takes (Edge code) (λ q. marked start q ≡ true) taken → IsLeft (Edge code) start taken left →
    ((q : ℕ) → q < length code → ClosesCycle code q → ⊥) → IsOrdered code
ordered_acyclic code start left taken is t l clear =
    ordered_by code start left taken is t l (λ q on. whole (Edge code) start left taken l (acyclic code clear) q on)

-- an ordered program has no jump that closes a cycle
pub ordered_closes : (code : List Insn) (p : ℕ) → IsOrdered code → ClosesCycle code p → ⊥
ordered_closes code p o c = rank_circle p o.falls (closes_circle code p c)

ready_same : {Edge : ℕ → ℕ → Type 0} {In In' : ℕ → Type 0} {taken : List ℕ} {q : ℕ} → ((r : ℕ) → In r → In' r) → ((r : ℕ) → In' r → In r) → IsReady Edge In taken q → IsReady Edge In' taken q
ready_same to from r = record { within = to _ r.within; open' = r.open'; preds = λ p on e. r.preds p (from p on) e }

pub takes_same : {Edge : ℕ → ℕ → Type 0} {In In' : ℕ → Type 0} {xs : List ℕ} → ((r : ℕ) → In r → In' r) → ((r : ℕ) → In' r → In r) → Takes Edge In xs → Takes Edge In' xs
takes_same to from none = none
takes_same to from (more t ready low) = more (takes_same to from t) (ready_same to from ready) (λ q r. low q (ready_same from to r))

-- the order of what is reached
pub passes : (code : List Insn) (start left : List Bool) (taken : List ℕ) → ((q : ℕ) → marked start q ≡ true → Flows code 0 q) → ((q : ℕ) → Flows code 0 q → marked start q ≡ true) →
    Takes (Edge code) (λ q. marked start q ≡ true) taken → IsLeft (Edge code) start taken left → IsOrdered code → IsPassOrder code taken
passes code start left taken to from t l o = record {
  takes = takes_same to from t;
  whole = λ q f. whole (Edge code) start left taken l (λ p c. rank_circle p o.falls c) q (from q f);
}

-- of an ordered program nothing is left
pub nothing_left : (code : List Insn) (start left : List Bool) (taken : List ℕ) → IsLeft (Edge code) start taken left → IsOrdered code → (q : ℕ) → marked left q ≡ true → ⊥
nothing_left code start left taken l o q on = let was = l.kept q on in was.1 (whole (Edge code) start left taken l (λ p c. rank_circle p o.falls c) q was.0)

pub stands_below : (code : List Insn) (o : IsOrdered code) (p : ℕ) → begins (slice_get code p) ≡ true → o.rank p < instructions code
stands_below code o p s =
    let i = begun (slice_get code p) s in
    o.below p i.0 i.1 (begun_worth i.0 (ap begins (sym i.1) ∙ s))
