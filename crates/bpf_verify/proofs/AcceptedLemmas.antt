-- A program that both passes let through is consistent.
use Rattle.std.proofs.Common.{◌≡◌, ◌⊎◌, inl, inr, ◌<◌, ◌≤◌, ℕ, List, [], ◌∷◌, Option, Some, length, refl, sym, ap, ◌∙◌, arith, subst, Bool, true, false}
use Rattle.std.proofs.lemmas.Option.{slice_get_within}
use Rattle.std.specs.Prelude.{Contains, slice_get, ◌==◌, if◌then◌else◌, Ok}
use Rattle.std.proofs.lemmas.Bool.Decides.{nat_tests}
use Rattle.std.proofs.lemmas.List.{length-append}
use Rattle.bpf_insn.specs.Code.{IsCode}
use Rattle.bpf_insn.specs.declared.insn.Insn.{Insn}
use Rattle.bpf_insn.specs.declared.insn.Insn.TheVariants.{Alu, Neg, End, MovSx, Const, MapRef, Ldx, St, Stx, AddCounter, Ja, Jump, Call, Exit, Second}
use Rattle.bpf_insn.specs.Spelling.{HasSpelling}
use Rattle.bpf_note.specs.Shape.{Shape, AreShapes, most_maps}
use Rattle.bpf_note.specs.State.{State, IsStart}
use Rattle.bpf_note.specs.Facts.{Facts, entry}
use Rattle.bpf_note.specs.Join.{joined}
use Rattle.bpf_note.specs.Describes.{Describes}
use Rattle.bpf_note.proofs.JoinDescribes.{joined_describes, start_begun, begun_entry}
use Rattle.bpf_flow.specs.Step.{Outcome, Next, Loads, Adds, Exited, Fault, need, exec, step}
use Rattle.bpf_flow.specs.Edges.{Edges}
use Rattle.bpf_flow.specs.Rule.{after_of, IsRuled}
use Rattle.bpf_flow.specs.Sound.{Covers, Accounts, HasWords}
use Rattle.bpf_flow.proofs.LeadLemmas.{Speaks}
use Rattle.bpf_flow.proofs.SoundLemmas.{after_sound}
use Rattle.bpf_verify.specs.Consistent.{Accepted, OneDescribes, DescribedBy, GoesOnBy, AreNotesOf, GoesOn, IsConsistent, IsOrdered}
use Rattle.bpf_verify.specs.Edges.{Flows}
use Rattle.bpf_verify.specs.Structure.{begins}
use Rattle.bpf_verify.specs.Paths as paths
use Rattle.bpf_verify.specs.FirstRefusal.{IsStructured, IsPassed}
use Rattle.bpf_verify.specs.Gathered.{Arrives, dropped, appended, merged, Hears, Gathers, told, rule_by, rule_at, first_notes}
use Rattle.bpf_verify.proofs.ArriveLemmas.{OneHas, EachHas, Brings, BringsOnly, one_found, each_at, told_brings, gathering_kept, gathering_stands, gathering_each, allowed_at}
use Rattle.bpf_verify.proofs.CodeLemmas.{spelled_at}
use Rattle.bpf_verify.proofs.CycleLemmas.{one_more}
use Rattle.bpf_verify.proofs.FollowLemmas.{ruled_at}
use Rattle.bpf_verify.proofs.GraphLemmas.{begun}
use Rattle.bpf_verify.proofs.LawLemmas.{takes_within}
use Rattle.bpf_verify.proofs.PassingLemmas.{flows_begins}
use Rattle.bpf_flow.proofs.KeptLemmas.{Keeps, exec_keeps}
use Rattle.bpf_verify.proofs.ToldLemmas.{told_edge}

-- a slot has at most eight notes
arrival_few : (ns : List Facts) (n : Facts) (ms : List Facts) → Arrives ns n ms → length ns ≤ 8 → length ms ≤ 8
arrival_few ns n ms (dropped at) h = h
arrival_few ns n ms (appended out few) h = omega (arith, length-append ns (n ∷ []), few)
arrival_few ns n ms (merged first eighth out seven same) h = omega (arith, length-append first (joined eighth n ∷ []), seven)

hearing_few : (q : ℕ) (es : Edges) (ns r : List Facts) → Hears ns q es r → length ns ≤ 8 → length r ≤ 8
hearing_few q [] ns r h few = subst (λ (xs : List Facts). length xs ≤ 8) h few
hearing_few q (e ∷ es) ns r (inl h) few = hearing_few q es h.1.0 r h.1.2 (arrival_few ns e.1 h.1.0 h.1.1 few)
hearing_few q (e ∷ es) ns r (inr h) few = hearing_few q es ns r h.1 few

gathering_few : (code : List Insn) (shapes : List Shape) (notes : ℕ → List Facts) (q : ℕ) (ps : List ℕ) (ns r : List Facts) → Gathers code shapes notes q ns ps r → length ns ≤ 8 → length r ≤ 8
gathering_few code shapes notes q [] ns r g few = subst (λ (xs : List Facts). length xs ≤ 8) g few
gathering_few code shapes notes q (p ∷ ps) ns r g few = gathering_few code shapes notes q ps g.0 r g.2 (hearing_few q (told code shapes p (notes p)) ns g.0 g.1 few)

first_few : (b : Bool) → length (if b then entry ∷ [] else []) ≤ 8
first_few true = omega arith
first_few false = omega arith

-- the two words for a note that describes
one_has : (ns : List Facts) (s : State) → OneDescribes ns s → OneHas (λ n. Describes n s) ns
one_has [] s h = h
one_has (n ∷ ns) s (inl d) = inl d
one_has (n ∷ ns) s (inr h) = inr (one_has ns s h)

one_describes : (ns : List Facts) (s : State) → OneHas (λ n. Describes n s) ns → OneDescribes ns s
one_describes [] s h = h
one_describes (n ∷ ns) s (inl d) = inl d
one_describes (n ∷ ns) s (inr h) = inr (one_describes ns s h)

either : (s : State) (a b : Facts) → Describes a s ⊎ Describes b s → Describes (joined a b) s
either s a b h = joined_describes a b s h

-- edges that cover a state bring what describes it to its slot
covers_brings : (es : Edges) (t : State) → Covers es t → Brings (λ n. Describes n t) t.pc es
covers_brings [] t h = h
covers_brings (e ∷ es) t (inl h) = inl h
covers_brings (e ∷ es) t (inr h) = inr (covers_brings es t h)

only_speaks : (X : Type 0) (q : ℕ) (es : Edges) → (Speaks es q → X) → BringsOnly (λ n. X) q es
only_speaks X q [] f = tt
only_speaks X q (e ∷ es) f = (λ at. f (inl at), only_speaks X q es (λ s. f (inr s)))

first_flows : (code : List Insn) (q : ℕ) (b : Bool) → b ≡ (q == 0) → EachHas (λ n. Flows code 0 q) (if b then entry ∷ [] else [])
first_flows code q true e = let same : q ≡ 0 = grind (arith, nat_tests) in (subst (λ (r : ℕ). Flows code 0 r) (sym same) paths.here, tt)
first_flows code q false e = tt

has_words : (i : Insn) → HasSpelling i → HasWords i
has_words (Const dst value) h = h.fits
has_words (Alu op wide dst src) h = tt
has_words (Neg wide dst) h = tt
has_words (End kind width dst) h = tt
has_words (MovSx wide bits dst src) h = tt
has_words (MapRef dst m) h = tt
has_words (Ldx size signed dst src off) h = tt
has_words (St size dst off imm) h = tt
has_words (Stx size dst src off) h = tt
has_words (AddCounter fetch dst src off) h = tt
has_words (Ja wide to) h = tt
has_words (Jump cond wide dst src off) h = tt
has_words (Call helper) h = tt
has_words Exit h = tt
has_words Second h = tt

rule_of : (code : List Insn) (shapes : List Shape) (pc : ℕ) (i : Insn) (n : Facts) (es : Edges) → slice_get code pc ≡ Some i → rule_at code shapes pc n ≡ Ok es → after_of i pc n shapes ≡ Ok es
unfolding rule_at
rule_of code shapes pc i n es e h = sym (ap (λ (o : Option Insn). rule_by o pc n shapes) e) ∙ h

-- the notes go with what they describe
goes_with : (p : Accepted) (notes : ℕ → List Facts) → AreNotesOf p notes → (o : Outcome) → GoesOnBy p notes o → GoesOn p o
goes_with p notes are (Next t) h = (notes, are, h)
goes_with p notes are (Loads m k j go) h = λ x fits. (notes, are, h x fits)
goes_with p notes are (Adds m k j delta go) h = λ x fits. (notes, are, h x fits)
goes_with p notes are (Exited x) h = tt
goes_with p notes are Fault h = h

module _ (code : List Insn) (shapes : List Shape) (notes : ℕ → List Facts)
    (laid : IsCode code) (few : length shapes ≤ most_maps) (maps : AreShapes shapes) (structured : IsStructured code (length shapes)) (ordered : IsOrdered code)
    (passed : IsPassed code shapes notes) where
  abbrev program : Accepted
  program = record { code = code; shapes = shapes }

  -- a slot that has a note is reached
  reached : (q : ℕ) (n : Facts) → Contains (notes q) n → Flows code 0 q
  reached q n at =
      each_at (λ n. Flows code 0 q) (notes q)
      (gathering_each (λ n. Flows code 0 q) (λ a b h g. h) code shapes notes q passed.order (first_notes q) (notes q) (passed.are_notes q) (first_flows code q (q == 0) refl)
      (λ p there. only_speaks (Flows code 0 q) q (told code shapes p (notes p))
      (λ s. one_more (takes_within passed.is_order.takes p there) (told_edge code shapes laid structured p q (notes p) s))))
      n at

  -- a state that an edge of a noted slot covers is described
  goes_to : (p : ℕ) (n : Facts) (es : Edges) (t : State) → Contains (notes p) n → rule_at code shapes p n ≡ Ok es → t.shapes ≡ shapes → Covers es t → DescribedBy program notes t
  goes_to p n es t at rule same h =
      let in_order = passed.is_order.whole p (reached p n at) in
      let brought = told_brings (λ n. Describes n t) code shapes p t.pc (notes p) n es at rule (covers_brings es t h) in
      let one = gathering_stands (λ n. Describes n t) (either t) code shapes notes t.pc passed.order (first_notes t.pc) (notes t.pc) p (passed.are_notes t.pc) in_order brought in
      (same, one_describes (notes t.pc) t one)

  goes_on : (p : ℕ) (n : Facts) (es : Edges) (s : State) (o : Outcome) → Contains (notes p) n → rule_at code shapes p n ≡ Ok es → s.shapes ≡ shapes → Keeps s o → Accounts es o → GoesOnBy program notes o
  goes_on p n es s (Next t) at rule same keeps h = goes_to p n es t at rule (keeps.shapes ∙ same) h
  goes_on p n es s (Loads m k j go) at rule same keeps h = λ x fits. goes_to p n es (go x) at rule ((keeps.1 x).shapes ∙ same) (h x fits)
  goes_on p n es s (Adds m k j delta go) at rule same keeps h = λ x fits. goes_to p n es (go x) at rule ((keeps.1 x).shapes ∙ same) (h x fits)
  goes_on p n es s (Exited x) at rule same keeps h = tt
  goes_on p n es s Fault at rule same keeps h = h

  step_goes_on : (s : State) → DescribedBy program notes s → GoesOnBy program notes (step code s)
  step_goes_on s h =
      let one = one_has (notes s.pc) s h.1 in
      let n = one_found (λ n. Describes n s) (notes s.pc) one in
      let flows = reached s.pc n.0 n.1 in
      let b = flows_begins code s.pc laid flows in
      let i = begun (slice_get code s.pc) b in
      let spelled = spelled_at code s.pc i.0 laid i.1 (subst (λ (o : Option Insn). begins o ≡ true) i.1 b) in
      let rule = allowed_at code shapes s.pc (notes s.pc) (passed.allowed s.pc (passed.is_order.whole s.pc flows)) n.0 n.1 in
      let small : s.pc < 4096 = omega (arith, slice_get_within code s.pc i.0 i.1, laid.short) in
      let after : after_of i.0 s.pc n.0 s.shapes ≡ Ok rule.0 = ap (after_of i.0 s.pc n.0) h.0 ∙ rule_of code shapes s.pc i.0 n.0 rule.0 i.1 rule.1 in
      let ruled = ruled_at code (length shapes) s.pc i.0 structured i.1 b in
      let accounts = after_sound n.0 s n.2 i.0 rule.0 (has_words i.0 spelled) small (subst (λ (ms : List Shape). IsRuled i.0 s.pc (length ms)) (sym h.0) ruled) after in
      subst (λ (o : Option Insn). GoesOnBy program notes (need o (λ i. exec i s))) (sym i.1)
      (goes_on s.pc n.0 rule.0 s (exec i.0 s) n.1 rule.1 h.0 (exec_keeps s i.0) accounts)

  starts_described : (s : State) → IsStart s → s.shapes ≡ shapes → DescribedBy program notes s
  starts_described s h same =
      let first : OneHas (λ n. Describes n s) (entry ∷ []) = inl (begun_entry s (start_begun s h)) in
      let one = gathering_kept (λ n. Describes n s) (either s) code shapes notes 0 passed.order (entry ∷ []) (notes 0) (passed.are_notes 0) first in
      (same, subst (λ (q : ℕ). OneDescribes (notes q) s) (sym h.pc) (one_describes (notes 0) s one))

  few_at : (q : ℕ) → length (notes q) ≤ 8
  few_at q = gathering_few code shapes notes q passed.order (first_notes q) (notes q) (passed.are_notes q) (first_few (q == 0))

  are_notes : AreNotesOf program notes
  are_notes = record { few = few_at; starts = starts_described; steps = step_goes_on }

  pub consistent : IsConsistent program
  consistent = record {
    laid_out = laid;
    few_maps = few;
    maps = maps;
    starts = λ s h e. (notes, are_notes, starts_described s h e);
    steps = λ s h. goes_with program h.0 h.1 (step code s) (h.1.steps s h.2);
    ordered = ordered;
  }
