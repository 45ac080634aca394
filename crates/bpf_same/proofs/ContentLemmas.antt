-- What stands in counters after a step.
use Rattle.std.proofs.Common.{ℕ, zero, suc, ◌+◌, ◌-◌, ◌%◌, ◌^◌, ◌≡◌, ◌≢◌, ◌<◌, ◌≤◌, refl, sym, ap, ◌∙◌, arith, ℤ, pos, negsuc, Option, None, Some, Bool, true, false}
use Rattle.std.specs.Prelude.{IfSome, if◌then◌else◌, ◌==◌, ◌≤ℤ◌}
use Rattle.std.proofs.lemmas.Bool.Decides.{nat_tests}
use Rattle.std.proofs.lemmas.Int.{ints}
use Rattle.bpf_insn.specs.Register.{number}
use Rattle.bpf_insn.specs.declared.register.Register.{Register}
use Rattle.bpf_insn.specs.declared.size.Size.TheVariants.{Double}
use Rattle.bpf_insn.specs.declared.insn.Insn.{Insn}
use Rattle.bpf_insn.specs.declared.insn.Insn.TheVariants.{Ldx, Stx, AddCounter}
use Rattle.bpf_note.specs.declared.val.Val.TheVariants.{Value}
use Rattle.bpf_note.specs.Facts.{Facts}
use Rattle.bpf_same.specs.declared.content.Content.{Content}
use Rattle.bpf_same.specs.declared.linear_form.LinearForm.{LinearForm}
use Rattle.bpf_same.specs.declared.relation.Relation.{Relation}
use Rattle.bpf_same.specs.LinearForms.{plus, total, IsWord, Hold}
use Rattle.bpf_same.specs.Moved.{address_in}
use Rattle.bpf_same.specs.Stepped.{alters, IsPulledBack}
use Rattle.bpf_same.specs.Contents.{Stands, Contain, IsNewFound, IsOldFound, is_addition, IsAdded, IsAddedStore, StandsAfter, IsApart, IsElsewhere, IsNoValue, PreservesContent, PreservesLoad}
use Rattle.bpf_same.proofs.LinearFormLemmas.{apart, total_small}

some_same : {x y : ℕ} → Some x ≡ Some y → x ≡ y
some_same e = cc

-- forms of the same terms with other constants come to other numbers
moved_apart : (a b by : ℕ) → a < 2 ^ 64 → b < 2 ^ 64 → 0 < by → by < 2 ^ 64 → a ≡ (b + by) % 2 ^ 64 → a ≢ b
moved_apart a b by l m p q e = λ same. omega (arith, l, m, p, q, e, same)

chosen : (b : Bool) (x y z : Option ℕ) → b ≡ true → z ≡ (if b then x else y) → z ≡ x
chosen true x y z e h = h
chosen false x y z e h = cc

left_out : (b : Bool) (x y z : Option ℕ) → b ≡ false → z ≡ (if b then x else y) → z ≡ y
left_out true x y z e h = cc
left_out false x y z e h = h

same_test : (a b : ℕ) → a ≡ b → (a == b) ≡ true
same_test a b e = grind (arith, nat_tests, e)

other_test : (a b : ℕ) → a ≢ b → (a == b) ≡ false
other_test a b n = grind (arith, nat_tests, n)

-- the counter that an addition adds to
added_here : (o t s : Option ℕ) (v x : ℕ) (f : (y : ℕ) → o ≡ Some y → t ≡ Some y) → plus o (Some v) ≡ Some x → s ≡ plus t (Some v) → s ≡ Some x
added_here None t s v x f e h = cc
added_here (Some y) t s v x f e h = h ∙ (ap (λ (t : Option ℕ). plus t (Some v)) (f y refl) ∙ e)

sum_stands : (f h h' : ℕ → Option ℕ) (b v : ℕ) (at address number by s : LinearForm) → at ≡ address → ((f : ℕ → Option ℕ) → total f s ≡ plus (total f number) (total f by)) →
    Stands f h address number → total f at ≡ Some b → total f by ≡ Some v → ((a : ℕ) → h' a ≡ (if a == b then plus (h a) (Some v) else h a)) → Stands f h' address s
sum_stands f h h' b v at address number by s same p k is adds c = λ a x here there.
    let one : a ≡ b = some_same (sym here ∙ (sym (ap (total f) same) ∙ is)) in
    added_here (h a) (total f number) (total f s) v x (λ y e. k a y here e)
    (sym (chosen (a == b) (plus (h a) (Some v)) (h a) (h' a) (same_test a b one) (c a)) ∙ there)
    (p f ∙ ap (plus (total f number)) adds)

pub others_stand : (f h h' : ℕ → Option ℕ) (b v : ℕ) (at address number : LinearForm) → ((f : ℕ → Option ℕ) (a b : ℕ) → total f at ≡ Some a → total f address ≡ Some b → a ≢ b) →
    Stands f h address number → total f at ≡ Some b → ((a : ℕ) → h' a ≡ (if a == b then plus (h a) (Some v) else h a)) → Stands f h' address number
others_stand f h h' b v at address number n k is c = λ a x here there.
    k a x here (sym (left_out (a == b) (plus (h a) (Some v)) (h a) (h' a) (other_test a b (λ e. n f b a is here (sym e))) (c a)) ∙ there)

pub loaded_stands : (i : Insn) (stutters : Bool) (low : ℕ) (m : Facts) (e : Relation) (dst src : Register) (off : ℤ) (term : ℕ) (from address held form : LinearForm) → i ≡ Ldx Double false dst src off → term ≡ number dst →
    ((f g : ℕ → Option ℕ) → Hold e f g → address_in f src off ≡ total f from) → from ≡ address → ((f : ℕ → Option ℕ) → IsWord (f term) → total f held ≡ f term) → form ≡ held → PreservesLoad i stutters low m e address form
loaded_stands i stutters low m e dst src off term from address held form is at p one q two = λ f g f' g' h h' t there k a x here now.
    let addition : is_addition i ≡ false = ap is_addition is in
    let reached : address_in f src off ≡ Some a = p f g there ∙ (ap (total f) one ∙ here) in
    ap (total f') two ∙ (q f' (t.fits term) ∙ (ap f' at ∙ k.loaded dst src off is a x reached (sym (k.left addition a) ∙ now)))

pub unchanged_stand : (i : Insn) (stutters : Bool) (low : ℕ) (m : Facts) (e : Relation) (address number : LinearForm) → is_addition i ≡ false → ((f h : ℕ → Option ℕ) → Contain e f h → Stands f h address number) → StandsAfter i stutters low m e address number
unchanged_stand i stutters low m e address number none p = λ f g f' g' h h' t there c k a x here now. p f h c a x here (sym (k.left none a) ∙ now)

pub added_stand_if : (i : Insn) (stutters : Bool) (low : ℕ) (m : Facts) (e : Relation) (address number at by : LinearForm) (o : Option LinearForm) → IsAdded i e at by → ((f h : ℕ → Option ℕ) → Contain e f h → Stands f h address number) →
    IfSome o (λ s. (f h h' : ℕ → Option ℕ) (b v : ℕ) → Stands f h address number → total f at ≡ Some b → total f by ≡ Some v → ((a : ℕ) → h' a ≡ (if a == b then plus (h a) (Some v) else h a)) → Stands f h' address s) →
    IfSome o (StandsAfter i stutters low m e address)
added_stand_if i stutters low m e address number at by None adds p q = tt
added_stand_if i stutters low m e address number at by (Some s) adds p q = λ f g f' g' h h' t there c k.
    let n = k.added adds.0 adds.1 adds.2 adds.3 adds.4 in
    let both = adds.5 f g there in
    q f h h' n.0 n.1 (p f h c) (sym both.0 ∙ n.2) (sym both.1 ∙ n.3) n.4

nothing_added : (o : Option ℕ) (a : ℕ) → IsWord o → plus o (Some 0) ≡ Some a → o ≡ Some a
nothing_added None a l e = cc
nothing_added (Some x) a l e =
    let small : x < 2 ^ 64 = l x refl in
    let same : (x + 0) % 2 ^ 64 ≡ x = omega (arith, small) in
    ap Some (sym same) ∙ e

-- a register that points to the beginning of a value of another map
pub value_beside : (i : Insn) (stutters : Bool) (low : ℕ) (m : Facts) (e : Relation) (address form : LinearForm) (k own map : ℕ) → m.reg k ≡ Value own → own ≢ map → k < 11 → alters i k ≡ false →
    ((f g : ℕ → Option ℕ) → Hold e f g → f k ≡ total f form) → form ≡ address → IsNoValue i stutters low m e address map
value_beside i stutters low m e address form k own map is differs small left p same = λ f g f' g' j a t there value other now here.
    t.values k j own map a is value differs small other (t.kept k small left ∙ (p f g there ∙ (ap (total f) same ∙ here))) now

pub apart_if : (i : Insn) (stutters : Bool) (low : ℕ) (m : Facts) (e : Relation) (address : LinearForm) (k map : ℕ) → m.reg k ≡ Value map → k < 11 → alters i k ≡ false → IsNoValue i stutters low m e address map → IsApart i stutters low m e address k
apart_if i stutters low m e address k map is small left p = λ f g f' g' a t there now here. p f g f' g' k a t there is small (t.kept k small left ∙ now) here

pub elsewhere_if : (i : Insn) (stutters : Bool) (low : ℕ) (m : Facts) (e : Relation) (address : LinearForm) (fetch : Bool) (dst src : Register) (off : ℤ) (k : ℕ) → i ≡ AddCounter fetch dst src off → off ≡ pos 0 → k ≡ number dst → IsApart i stutters low m e address k → IsElsewhere i stutters low m e address
elsewhere_if i stutters low m e address fetch dst src off k is none at p = λ f g f' g' fetch' dst' src' off' a t there same now here.
    let one : address_in f dst (pos 0) ≡ Some a = added_at f a (sym is ∙ same) now in
    p f g f' g' a t there (ap f at ∙ nothing_added (f (number dst)) a (there.words (number dst)) one) here
  where
    added_at : {fetch' : Bool} {dst' src' : Register} {off' : ℤ} (f : ℕ → Option ℕ) (a : ℕ) → AddCounter fetch dst src off ≡ AddCounter fetch' dst' src' off' → address_in f dst' off' ≡ Some a → address_in f dst (pos 0) ≡ Some a
    added_at f a same now = cc (none, same, now)

pub beside_stands : (i : Insn) (stutters : Bool) (low : ℕ) (m : Facts) (e : Relation) (address number at by : LinearForm) → IsAdded i e at by → ((f h : ℕ → Option ℕ) → Contain e f h → Stands f h address number) → IsElsewhere i stutters low m e address →
    StandsAfter i stutters low m e address number
beside_stands i stutters low m e address number at by adds p q = λ f g f' g' h h' t there c k a x here now.
    let n = k.added adds.0 adds.1 adds.2 adds.3 adds.4 in
    let other : a ≢ n.0 = λ same. q f g f' g' adds.0 adds.1 adds.2 adds.3 a t there adds.4 (n.2 ∙ ap Some (sym same)) here in
    p f h c a x here (sym (left_out (a == n.0) (plus (h a) (Some n.1)) (h a) (h' a) (other_test a n.0 other) (n.4 a)) ∙ now)

pub pulled_content : (i : Insn) (stutters : Bool) (low : ℕ) (m : Facts) (e : Relation) (address number before there here : LinearForm) → IsPulledBack i stutters low m e address before → StandsAfter i stutters low m e before there → IsPulledBack i stutters low m e number here →
    there ≡ here → PreservesContent i stutters low m e address number
pulled_content i stutters low m e address number before there here p q r same = λ f g f' g' h h' t holds c k a x reached now.
    r f g f' g' t holds ∙ (ap (total f) (sym same) ∙ q f g f' g' h h' t holds c k a x (sym (p f g f' g' t holds) ∙ reached) now)

pub pulled_load : (i : Insn) (stutters : Bool) (low : ℕ) (m : Facts) (e : Relation) (address number before : LinearForm) → IsPulledBack i stutters low m e address before → PreservesLoad i stutters low m e before number → PreservesContent i stutters low m e address number
pulled_load i stutters low m e address number before p q = λ f g f' g' h h' t holds c k a x reached now.
    q f g f' g' h h' t holds k a x (sym (p f g f' g' t holds) ∙ reached) now

pub sum_stored : (e : Relation) (base value dst src : Register) (from off : ℤ) (address form by sum stored : LinearForm) → ((f g : ℕ → Option ℕ) → Hold e f g → address_in f dst off ≡ total f address) → ((f h : ℕ → Option ℕ) → Contain e f h → Stands f h address form) →
    ((f g : ℕ → Option ℕ) → Hold e f g → f (number src) ≡ total f by) → ((f : ℕ → Option ℕ) → total f sum ≡ plus (total f form) (total f by)) → ((f g : ℕ → Option ℕ) → Hold e f g → g (number value) ≡ total f stored) →
    ((f g : ℕ → Option ℕ) → Hold e f g → address_in g base from ≡ address_in f dst off) → sum ≡ stored → IsAddedStore e (Stx Double base value from) (AddCounter false dst src off)
sum_stored e base value dst src from off address form by sum stored p q r s t u same = record {
  dst = dst;
  src = src;
  off = off;
  base = base;
  value = value;
  from = from;
  adds = refl;
  stores = refl;
  address = u;
  sum = λ f g h holds c a x v reached now is.
      t f g holds ∙ (ap (total f) (sym same) ∙ (s f ∙ (ap (λ (o : Option ℕ). plus o (total f by)) (q f h c a x (sym (p f g holds) ∙ reached) now) ∙ ap (plus (Some x)) (sym (r f g holds) ∙ is))));
}

pub sum_if : (at address number by : LinearForm) (o : Option LinearForm) → at ≡ address → IfSome o (λ s. (f : ℕ → Option ℕ) → total f s ≡ plus (total f number) (total f by)) →
    IfSome o (λ s. (f h h' : ℕ → Option ℕ) (b v : ℕ) → Stands f h address number → total f at ≡ Some b → total f by ≡ Some v → ((a : ℕ) → h' a ≡ (if a == b then plus (h a) (Some v) else h a)) → Stands f h' address s)
sum_if at address number by None same p = tt
sum_if at address number by (Some s) same p = λ f h h' b v k is adds c. sum_stands f h h' b v at address number by s same p k is adds c

pub one_content : {x y : Content} → Some x ≡ Some y → x ≡ y
one_content e = cc

pub forms_apart : (f : ℕ → Option ℕ) (s t : LinearForm) (a b : ℕ) → s.terms ≡ t.terms → s.constant < 2 ^ 64 → t.constant < 2 ^ 64 → s.constant ≢ t.constant → total f s ≡ Some a → total f t ≡ Some b → a ≢ b
forms_apart f s t a b same l m differ p q =
    let by : ℕ = (s.constant + (2 ^ 64 - t.constant)) % 2 ^ 64 in
    let sum : a ≡ (b + by) % 2 ^ 64 = some_same (sym p ∙ (apart f s t by same l m refl ∙ ap (λ (o : Option ℕ). plus o (Some by)) q)) in
    moved_apart a b by (total_small f s a p) (total_small f t b q) (differs s.constant t.constant l m differ) (omega arith) sum
  where
    differs : (x y : ℕ) → x < 2 ^ 64 → y < 2 ^ 64 → x ≢ y → 0 < (x + (2 ^ 64 - y)) % 2 ^ 64
    differs x y l m n = by ((x + (2 ^ 64 - y)) % 2 ^ 64) refl
      where
        by : (z : ℕ) → (x + (2 ^ 64 - y)) % 2 ^ 64 ≡ z → 0 < z
        by zero e = absurd (n (omega (arith, l, m, e)))
        by (suc z) e = omega arith

-- what a load through the address of a map's value gives
up_to : (off : ℤ) → (pos 0 ≤ℤ off) → (off ≤ℤ pos 32767) → (n : ℕ) × (off ≡ pos n) × (n ≤ 32767)
up_to (pos n) l m = (n, refl, omega (arith, ints, m))
up_to (negsuc n) l m = absurd (omega (arith, ints, l))

pub found_form : (alone : Bool) (i : Insn) (stutters : Bool) (low : ℕ) (m : Facts) (e : Relation) (dst src : Register) (off : ℤ) (map : ℕ) (address there form here : LinearForm) → alone ≡ true → i ≡ Ldx Double false dst src off → (pos 0 ≤ℤ off) → (off ≤ℤ pos 32767) → alters i (number src) ≡ false → m.reg (number src) ≡ Value map →
    ((f g : ℕ → Option ℕ) → Hold e f g → address_in f src off ≡ total f address) → ((f h : ℕ → Option ℕ) → Contain e f h → Stands f h address there) → IsPulledBack i stutters low m e form here → there ≡ here → IsNewFound alone i stutters low m e (number dst) form
found_form alone i stutters low m e dst src off map address there form here is load from to left v at p q same = λ f g f' g' h t holds contain finds.
    let n = up_to off from to in
    let k = finds dst src map n.0 is (load ∙ ap (Ldx Double false dst src) n.1) n.2 left v in
    let reached : total f address ≡ Some k.0 = sym (at f g holds) ∙ (ap (address_in f src) n.1 ∙ k.2) in
    k.4 ∙ (sym (p f h contain k.0 k.1 reached k.3) ∙ (ap (total f) same ∙ sym (q f g f' g' t holds)))

pub old_found : (alone : Bool) (i : Insn) (stutters : Bool) (low : ℕ) (m : Facts) (e : Relation) (k : ℕ) (s : LinearForm) → stutters ≡ false → alters i k ≡ true → k < 11 → IsNewFound alone i stutters low m e k s → IsOldFound alone i stutters low m e k s
old_found alone i stutters low m e k s shared written small found = λ f g f' g' h t holds contain finds. t.alike k small shared written ∙ found f g f' g' h t holds contain finds
