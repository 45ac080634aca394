-- While the notes of one slot are taken along its edges.
use Rattle.std.proofs.Common.{◌≡◌, inl, inr, ◌<◌, ◌≤◌, ◌+◌, ℕ, zero, suc, List, [], ◌∷◌, ◌++◌, Option, Some, None, length, drop, map, reverse, set, ◌≢◌, refl, sym, ap, ◌∙◌, arith, subst, true, false}
use Rattle.std.proofs.lemmas.Option.{slice_get_within}
use Rattle.std.proofs.lemmas.List.{reverse-append, reverse-reverse, map-append}
use Rattle.std.specs.Prelude.{slice_get, slice_index_or, Ok, Err, IsSome, IfSome, ◌↔◌}
use Rattle.std.proofs.lemmas.Bool.Decides.{nat_tests}
use Rattle.bpf_insn.specs.Code.{IsCode}
use Rattle.bpf_insn.specs.declared.insn.Insn.{Insn}
use Rattle.bpf_insn.specs.declared.insn.Insn.TheVariants.{Alu, Neg, End, MovSx, Const, MapRef, Ldx, St, Stx, AddCounter, Ja, Jump, Call, Exit, Second}
use Rattle.bpf_insn.specs.declared.refusal.Cause.{Cause}
use Rattle.bpf_insn.specs.declared.refusal.Cause.TheVariants.{Memory, Length, Opcode, Register, Target, BackJump, End as EndCause, Unset, FramePointer, NoPointer, Packet, Stack, Context, MayBeNull, MapAccess, Helper, MapNumber, Argument, Unsupported}
use Rattle.bpf_note.specs.Shape.{Shape}
use Rattle.bpf_note.specs.Parts.{Noted, facts}
use Rattle.bpf_note.specs.Facts.{Facts}
use Rattle.bpf_flow.specs.Causes.{IsRuleCause}
use Rattle.bpf_flow.specs.Edges.{Edges, Answer}
use Rattle.bpf_flow.specs.Rule.{after_of, IsRuled}
use Rattle.bpf_flow.specs.Step.{target}
use Rattle.bpf_flow.proofs.LeadLemmas.{Speaks}
use Rattle.bpf_verify.specs.Edges.{Edge}
use Rattle.bpf_verify.specs.Structure.{begins, jump_of, misses_target}
use Rattle.bpf_verify.specs.FirstRefusal.{IsFine, IsStructured}
use Rattle.bpf_verify.specs.Gathered.{Hears, rule_by, rule_at, allowed, told, AreAllowed, TakesMemory, IsFirstCause, IsFirstRefused}
use Rattle.bpf_flow.specs.Gives.{Fails, WantsMemory}
use Rattle.bpf_verify.specs.Tables.{facts_at, LeadInside, IsMet}
use Rattle.bpf_verify.proofs.GraphLemmas.{begun, target_found}
use Rattle.bpf_verify.proofs.GatherLemmas.{hears_append}
use Rattle.bpf_verify.proofs.ToldLemmas.{told_edge}

pub drop_more : {A : Type 0} (xs : List A) (i : ℕ) (x : A) → slice_get xs i ≡ Some x → drop i xs ≡ x ∷ drop (i + 1) xs
drop_more [] i x e = absurd (cc)
drop_more (y ∷ ys) zero x e = let same : y ≡ x = cc in ap (λ (z : _). z ∷ ys) same
drop_more (y ∷ ys) (suc i) x e = drop_more ys i x e ∙ ap (λ (k : ℕ). x ∷ drop k (y ∷ ys)) (suc-add i)
  where
    suc-add : (i : ℕ) → suc (i + 1) ≡ suc i + 1
    suc-add i = omega arith

pub drop_all : {A : Type 0} (xs : List A) (i : ℕ) → length xs ≤ i → drop i xs ≡ []
drop_all [] zero h = refl
drop_all [] (suc i) h = refl
drop_all (x ∷ xs) zero h = absurd (omega arith)
drop_all (x ∷ xs) (suc i) h = drop_all xs i (omega arith)

-- the first of those behind i is item i, and the others are behind i + 1
-- the last of a list is the first of its reverse
pub last_first : {A : Type 0} {xs : List A} (ys : List A) (x : A) → xs ≡ ys ++ x ∷ [] → reverse xs ≡ x ∷ reverse ys
last_first ys x e = ap reverse e ∙ reverse-append ys (x ∷ [])

pub drop_head : {A : Type 0} (xs : List A) (i : ℕ) (x : A) (ys : List A) → drop i xs ≡ x ∷ ys → (slice_get xs i ≡ Some x) × (drop (i + 1) xs ≡ ys)
drop_head [] zero x ys e = absurd (cc)
drop_head [] (suc i) x ys e = absurd (cc)
drop_head (z ∷ zs) zero x ys e = (cc, cc)
drop_head (z ∷ zs) (suc i) x ys e = let r = drop_head zs i x ys e in (r.0, ap (λ (k : ℕ). drop k (z ∷ zs)) (add-suc i) ∙ r.1)
  where
    add-suc : (i : ℕ) → suc i + 1 ≡ suc (i + 1)
    add-suc i = omega arith

-- the first i notes of slot pc have gone along its edges: what is left does the rest
pub record IsFollowing (code : List Insn) (shapes : List Shape) (pc i : ℕ) (old new : ℕ → List Facts) : Type 0 where
  pub rest : (q : ℕ) → q ≢ pc → (r : List Facts) → Hears (new q) q (told code shapes pc (drop i (old pc))) r → Hears (old q) q (told code shapes pc (old pc)) r
  pub allowed : AreAllowed code shapes pc (drop i (old pc)) → AreAllowed code shapes pc (old pc)
  pub takes : TakesMemory code shapes pc (drop i (old pc)) → TakesMemory code shapes pc (old pc)
  pub first : (c : Cause) (n : Facts) → IsFirstRefused code shapes pc (drop i (old pc)) c n → IsFirstRefused code shapes pc (old pc) c n

module _ (code : List Insn) (shapes : List Shape) (pc i : ℕ) (old new : ℕ → List Facts) (f : IsFollowing code shapes pc i old new) (n : Facts) (at : slice_get (old pc) i ≡ Some n) where
  told_split : (es : Edges) → rule_at code shapes pc n ≡ Ok es → told code shapes pc (drop i (old pc)) ≡ es ++ told code shapes pc (drop (i + 1) (old pc))
  told_split es e =
      ap (told code shapes pc) (drop_more (old pc) i n at)
      ∙ ap (λ (a : Answer). allowed a ++ told code shapes pc (drop (i + 1) (old pc))) e

  -- one note more
  pub following_on : (es : Edges) (new' : ℕ → List Facts) → rule_at code shapes pc n ≡ Ok es → ((q : ℕ) → Hears (new q) q es (new' q)) → IsFollowing code shapes pc (i + 1) old new'
  following_on es new' e hears = record {
    rest = λ q other r h. f.rest q other r (subst (λ (gs : Edges). Hears (new q) q gs r) (sym (told_split es e)) (hears_append (new q) q es (told code shapes pc (drop (i + 1) (old pc))) (new' q) r (hears q) h));
    allowed = λ h. f.allowed (subst (λ (ns : List Facts). AreAllowed code shapes pc ns) (sym (drop_more (old pc) i n at)) ((es, e), h));
    takes = λ h. f.takes (subst (λ (ns : List Facts). TakesMemory code shapes pc ns) (sym (drop_more (old pc) i n at)) (inr ((es, e), h)));
    first = λ c m h. f.first c m (subst (λ (ns : List Facts). IsFirstRefused code shapes pc ns c m) (sym (drop_more (old pc) i n at)) (record {
      before = n ∷ h.before;
      rest = h.rest;
      parts = ap (λ (ns : List Facts). n ∷ ns) h.parts;
      allowed = ((es, e), h.allowed);
      refused = h.refused;
    }));
  }

  -- this note is refused
  pub following_stops : (c : Cause) → rule_at code shapes pc n ≡ Err c → IsFirstRefused code shapes pc (old pc) c n
  following_stops c e = f.first c n (subst (λ (ns : List Facts). IsFirstRefused code shapes pc ns c n) (sym (drop_more (old pc) i n at)) (record {
    before = [];
    rest = drop (i + 1) (old pc);
    parts = refl;
    allowed = tt;
    refused = e;
  }))

  -- an edge of this note takes memory
  pub following_takes : WantsMemory (rule_at code shapes pc n) → TakesMemory code shapes pc (old pc)
  following_takes w = f.takes (subst (λ (ns : List Facts). TakesMemory code shapes pc ns) (sym (drop_more (old pc) i n at)) (inl w))

-- all have gone
pub followed : (code : List Insn) (shapes : List Shape) (pc i : ℕ) (old new : ℕ → List Facts) → IsFollowing code shapes pc i old new → length (old pc) ≤ i →
    ((q : ℕ) → q ≢ pc → Hears (old q) q (told code shapes pc (old pc)) (new q)) × AreAllowed code shapes pc (old pc)
followed code shapes pc i old new f all =
    let none = drop_all (old pc) i all in (
      λ q other. f.rest q other (new q) (subst (λ (ns : List Facts). Hears (new q) q (told code shapes pc ns) (new q)) (sym none) refl),
      f.allowed (subst (λ (ns : List Facts). AreAllowed code shapes pc ns) (sym none) tt),
    )

pub get_is : {A : Type 0} (xs : List A) (k : ℕ) (d : A) → k < length xs → slice_get xs k ≡ Some (slice_index_or xs k d)
get_is [] k d h = absurd (omega arith)
get_is (x ∷ xs) zero d h = refl
get_is (x ∷ xs) (suc k) d h = get_is xs k d (omega arith)

pub get_map : {A B : Type 0} (f : A → B) (xs : List A) (k : ℕ) (x : A) → slice_get xs k ≡ Some x → slice_get (map f xs) k ≡ Some (f x)
get_map f [] k x e = absurd (cc)
get_map f (y ∷ ys) zero x e = let same : y ≡ x = cc in ap (λ (z : _). Some (f z)) same
get_map f (y ∷ ys) (suc k) x e = get_map f ys k x e

-- the rule may be asked of an instruction of a structured program
found : (o : Option ℕ) (q : ℕ) → o ≡ Some q → IsSome o
found None q e = absurd (cc)
found (Some p) q e = refl

jump_there : (code : List Insn) (pc : ℕ) (i : Insn) (off : _) → jump_of i ≡ Some off → misses_target code pc (jump_of i) ≡ false → IsSome (target pc off)
jump_there code pc i off j h = let t = target_found code pc i off j h in found (target pc off) t.0 t.1

pub ruled : (code : List Insn) (maps pc : ℕ) (i : Insn) → IsFine code maps pc i → begins (Some i) ≡ true → IsRuled i pc maps
ruled code maps pc (Ja wide to) f b = jump_there code pc (Ja wide to) to refl f.target
ruled code maps pc (Jump cond wide dst src off) f b = jump_there code pc (Jump cond wide dst src off) off refl f.target
ruled code maps pc (MapRef dst m) f b = let h = f.map in grind (arith, nat_tests)
ruled code maps pc Second f b = absurd (cc)
ruled code maps pc (Alu op wide dst src) f b = tt
ruled code maps pc (Neg wide dst) f b = tt
ruled code maps pc (End kind width dst) f b = tt
ruled code maps pc (MovSx wide bits dst src) f b = tt
ruled code maps pc (Const dst value) f b = tt
ruled code maps pc (Ldx size signed dst src off) f b = tt
ruled code maps pc (St size dst off imm) f b = tt
ruled code maps pc (Stx size dst src off) f b = tt
ruled code maps pc (AddCounter fetch dst src off) f b = tt
ruled code maps pc (Call helper) f b = tt
ruled code maps pc Exit f b = tt

lead_inside : (es : Edges) (n : ℕ) → ((q : ℕ) → Speaks es q → q < n) → LeadInside es n
lead_inside [] n h = tt
lead_inside (e ∷ es) n h = (h e.0 (inl refl), lead_inside es n (λ q s. h q (inr s)))

pub edge_inside : (code : List Insn) (p q : ℕ) → Edge code p q → q < length code
edge_inside code p q e = let b = begun (slice_get code q) e.lands in slice_get_within code q b.0 b.1

-- the edges of a note of slot pc lead inside
module _ (code : List Insn) (shapes : List Shape) (pc : ℕ) (n : Facts) (es : Edges) (laid : IsCode code) (structured : IsStructured code (length shapes)) (e : rule_at code shapes pc n ≡ Ok es) where
  edge_of : (q : ℕ) → Speaks es q → Edge code pc q
  edge_of q s = told_edge code shapes laid structured pc q (n ∷ []) (subst (λ (a : Answer). Speaks (allowed a ++ []) q) (sym e) (widen es q s))
    where
      widen : (es : Edges) (q : ℕ) → Speaks es q → Speaks (es ++ []) q
      widen [] q s = s
      widen (e ∷ es) q (inl at) = inl at
      widen (e ∷ es) q (inr s) = inr (widen es q s)

  pub leads_inside : LeadInside es (length code)
  leads_inside = lead_inside es (length code) (λ q s. edge_inside code pc q (edge_of q s))

pub rule_is : (code : List Insn) (shapes : List Shape) (pc : ℕ) (i : Insn) (n : Facts) (a : Answer) → slice_get code pc ≡ Some i → after_of i pc n shapes ≡ a → rule_at code shapes pc n ≡ a
unfolding rule_at
rule_is code shapes pc i n a e h = ap (λ (o : Option Insn). rule_by o pc n shapes) e ∙ h

-- the same of a note that was lent to the rule
pub rule_lent : (code : List Insn) (shapes : List Shape) (pc : ℕ) (i : Insn) (lent n : Noted) (a : Answer) → slice_get code pc ≡ Some i → lent ≡ n → after_of i pc (facts lent) shapes ≡ a → rule_at code shapes pc (facts n) ≡ a
rule_lent code shapes pc i lent n a e same h = rule_is code shapes pc i (facts n) a e (ap (λ (m : Noted). after_of i pc (facts m) shapes) (sym same) ∙ h)

pub ruled_at : (code : List Insn) (maps pc : ℕ) (i : Insn) → IsStructured code maps → slice_get code pc ≡ Some i → begins (slice_get code pc) ≡ true → IsRuled i pc maps
ruled_at code maps pc i h e b = ruled code maps pc i (h pc i e) (subst (λ (o : Option Insn). begins o ≡ true) e b)

met_fails : (c : Cause) (a : Answer) (W P : Type 0) → Fails c a → (WantsMemory a → W) → (a ≡ Err c → P) → IsMet c W P
met_fails Memory a W P g w f = w g
met_fails Length a W P g w f = f g
met_fails Opcode a W P g w f = f g
met_fails Register a W P g w f = f g
met_fails Target a W P g w f = f g
met_fails BackJump a W P g w f = f g
met_fails EndCause a W P g w f = f g
met_fails Unset a W P g w f = f g
met_fails FramePointer a W P g w f = f g
met_fails NoPointer a W P g w f = f g
met_fails Packet a W P g w f = f g
met_fails Stack a W P g w f = f g
met_fails Context a W P g w f = f g
met_fails MayBeNull a W P g w f = f g
met_fails MapAccess a W P g w f = f g
met_fails Helper a W P g w f = f g
met_fails MapNumber a W P g w f = f g
met_fails Argument a W P g w f = f g
met_fails Unsupported a W P g w f = f g

-- the first note that is refused gives the first cause
cause_at : (code : List Insn) (shapes : List Shape) (pc : ℕ) (before rest : List Facts) (n : Facts) (c : Cause) → AreAllowed code shapes pc before → rule_at code shapes pc n ≡ Err c → IsFirstCause code shapes pc (before ++ n ∷ rest) c
cause_at code shapes pc [] rest n c a e = inl e
cause_at code shapes pc (m ∷ ms) rest n c a e = inr (a.0, cause_at code shapes pc ms rest n c a.1 e)

pub first_is_cause : (code : List Insn) (shapes : List Shape) (pc : ℕ) (ns : List Facts) (c : Cause) (n : Facts) → IsFirstRefused code shapes pc ns c n → IsFirstCause code shapes pc ns c
first_is_cause code shapes pc ns c n h = subst (λ (ns : List Facts). IsFirstCause code shapes pc ns c) (sym h.parts) (cause_at code shapes pc h.before h.rest n c h.allowed h.refused)

-- note i could not be followed
pub stopped_at : (code : List Insn) (shapes : List Shape) (pc i : ℕ) (old new : ℕ → List Facts) (n : Facts) (c : Cause) → IsFollowing code shapes pc i old new → slice_get (old pc) i ≡ Some n →
    Fails c (rule_at code shapes pc n) → IsMet c (TakesMemory code shapes pc (old pc)) (IsFirstCause code shapes pc (old pc) c)
stopped_at code shapes pc i old new n c f at g =
    met_fails c (rule_at code shapes pc n) _ _ g
    (λ w. following_takes code shapes pc i old new f n at w)
    (λ e. first_is_cause code shapes pc (old pc) c n (following_stops code shapes pc i old new f n at c e))

pub fails_err : (c : Cause) (a : Answer) → IsRuleCause c → Fails c a → a ≡ Err c
fails_err Memory a r g = absurd r
fails_err Length a r g = g
fails_err Opcode a r g = g
fails_err Register a r g = g
fails_err Target a r g = g
fails_err BackJump a r g = g
fails_err EndCause a r g = g
fails_err Unset a r g = g
fails_err FramePointer a r g = g
fails_err NoPointer a r g = g
fails_err Packet a r g = g
fails_err Stack a r g = g
fails_err Context a r g = g
fails_err MayBeNull a r g = g
fails_err MapAccess a r g = g
fails_err Helper a r g = g
fails_err MapNumber a r g = g
fails_err Argument a r g = g
fails_err Unsupported a r g = g

-- note i is the first that is refused
pub refused_at : (code : List Insn) (shapes : List Shape) (pc i : ℕ) (old new : ℕ → List Facts) (n : Facts) (c : Cause) → IsFollowing code shapes pc i old new → slice_get (old pc) i ≡ Some n →
    Fails c (rule_at code shapes pc n) → IsRuleCause c → IsFirstRefused code shapes pc (old pc) c n
refused_at code shapes pc i old new n c f at g r = following_stops code shapes pc i old new f n at c (fails_err c (rule_at code shapes pc n) r g)

-- something is there exactly for a rule's cause, and v of it is x: what is so of x for such a cause is so of v of it
pub there_has : {A B : Type 0} (o : Option A) (v : A → B) (x : B) (P : B → Type 0) (R : Type 0) → (IsSome o ↔ R) → IfSome o (λ y. v y ≡ x) → (R → P x) → IfSome o (λ y. P (v y))
there_has None v x P R there same h = tt
there_has (Some y) v x P R there same h = subst P (sym same) (h (there.0 refl))

-- the list of a slot, taken out of a table
pub list_at : (items : List (List Noted)) (pc : ℕ) (here : List Noted) → pc < length items → here ≡ slice_index_or items pc here → facts_at items pc ≡ map facts here
list_at items pc here inside is = ap (map facts) (any_default items pc [] here inside ∙ sym is)
  where
    any_default : {A : Type 0} (xs : List A) (k : ℕ) (d e : A) → k < length xs → slice_index_or xs k d ≡ slice_index_or xs k e
    any_default [] k d e h = absurd (omega arith)
    any_default (x ∷ xs) zero d e h = refl
    any_default (x ∷ xs) (suc k) d e h = any_default xs k d e (omega arith)

pub elsewhere : (items : List (List Noted)) (pc q : ℕ) (ns : List Noted) → q ≢ pc → facts_at (set items pc ns) q ≡ facts_at items q
elsewhere [] pc q ns h = refl
elsewhere (x ∷ xs) zero zero ns h = absurd (h refl)
elsewhere (x ∷ xs) zero (suc q) ns h = refl
elsewhere (x ∷ xs) (suc pc) zero ns h = refl
elsewhere (x ∷ xs) (suc pc) (suc q) ns h = elsewhere xs pc q ns (λ e. h (ap suc e))

-- none has gone yet
pub following_none : (code : List Insn) (shapes : List Shape) (pc : ℕ) (items : List (List Noted)) (ns : List Noted) →
    IsFollowing code shapes pc 0 (facts_at items) (facts_at (set items pc ns))
following_none code shapes pc items ns = record {
  rest = λ q other r h. subst (λ (ms : List Facts). Hears ms q (told code shapes pc (facts_at items pc)) r) (elsewhere items pc q ns other) h;
  allowed = λ h. h;
  takes = λ h. h;
  first = λ c n h. h;
}

-- a list that was turned twice
pub turned_back : (xs ys zs : List Noted) → ys ≡ reverse xs → xs ≡ zs → reverse ys ≡ zs
turned_back xs ys zs turned is = ap reverse turned ∙ (reverse-reverse xs ∙ is)

-- what boxes hold, turned
pub turned_boxes : {B : Type 0} (v : B → Noted) (bs cs : List B) (ns : List Noted) → cs ≡ reverse bs → map v bs ≡ ns → map v cs ≡ reverse ns
turned_boxes v bs cs ns turned is = ap (map v) turned ∙ (map_reverse v bs ∙ ap reverse is)
  where
    map_reverse : {B : Type 0} (v : B → Noted) (bs : List B) → map v (reverse bs) ≡ reverse (map v bs)
    map_reverse v [] = refl
    map_reverse v (b ∷ bs) = ap (map v) (reverse-append (b ∷ []) bs) ∙ (map-append v (reverse bs) (b ∷ []) ∙ (ap (λ (ns : List Noted). ns ++ v b ∷ []) (map_reverse v bs) ∙ sym (reverse-append (v b ∷ []) (map v bs))))
