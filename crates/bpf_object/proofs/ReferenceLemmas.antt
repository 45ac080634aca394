-- What one more row adds to the references of a function, and where they lie.
use Rattle.std.proofs.Common.{ℕ, ◌≡◌, ◌+◌, ◌-◌, ◌*◌, ◌/◌, ◌≤◌, List, [], ◌∷◌, ◌++◌, All, true, subst, sym, arith, rules}
use Rattle.std.proofs.lemmas.List.Elements.{All-append}
use Rattle.bpf_object.specs.Object.{Parts}
use Rattle.bpf_object.specs.Symbol.{code}
use Rattle.bpf_object.specs.Program.{relocation, is_within, IsLoad, reference, constant_reference, AreReferences, nothing, outside, one_map, one_constant}
use Rattle.bpf_object.specs.References.{IsTarget, IsMore}
use Rattle.bpf_object.specs.declared.symbol.Symbol.{Symbol}
use Rattle.bpf_object.specs.declared.relocation.Relocation.{Relocation}
use Rattle.bpf_object.specs.declared.reference.ConstantReference.{ConstantReference}
use Rattle.bpf_object.specs.declared.reference.MapReference.{MapReference}
use Rattle.bpf_object.specs.declared.reference.References.{References}
use Rattle.bpf_object.specs.declared.reference.Target.{Target}
use Rattle.bpf_object.specs.declared.reference.Target.TheVariants.{Map, Constant}

pub nothing_yet : (o : Parts) (f : Symbol) (rows : List ℕ) (ms : List MapReference) (cs : List ConstantReference) → ms ≡ [] → cs ≡ [] →
    AreReferences o f rows 0 ms cs
nothing_yet o f rows ms cs m c =
    subst (λ (xs : List MapReference). AreReferences o f rows 0 xs cs) (sym m)
    (subst (λ (xs : List ConstantReference). AreReferences o f rows 0 [] xs) (sym c) nothing)

pub one_more : (o : Parts) (f : Symbol) (rows : List ℕ) (n : ℕ) (old new : References) (t : Target) →
    AreReferences o f rows n old.maps.items old.constants.items → is_within f (relocation rows n) ≡ true →
    IsTarget o f (relocation rows n) t → IsMore old t new → AreReferences o f rows (n + 1) new.maps.items new.constants.items
one_more o f rows n old new (Map m) before within target more =
    subst (λ (xs : List MapReference). AreReferences o f rows (n + 1) xs new.constants.items) (sym more.0)
    (subst (λ (xs : List ConstantReference). AreReferences o f rows (n + 1) (old.maps.items ++ m ∷ []) xs) (sym more.1)
    (subst (λ (x : MapReference). AreReferences o f rows (n + 1) (old.maps.items ++ x ∷ []) old.constants.items) (sym target.1)
    (one_map n old.maps.items old.constants.items before within target.0)))
one_more o f rows n old new (Constant c) before within target more =
    subst (λ (xs : List MapReference). AreReferences o f rows (n + 1) xs new.constants.items) (sym more.0)
    (subst (λ (xs : List ConstantReference). AreReferences o f rows (n + 1) old.maps.items xs) (sym more.1)
    (subst (λ (x : ConstantReference). AreReferences o f rows (n + 1) old.maps.items (old.constants.items ++ x ∷ [])) (sym target.1)
    (one_constant n old.maps.items old.constants.items before within target.0)))

-- a wide load has both its slots in the code
load_inside : (f : Symbol) (bytes : List ℕ) (r : Relocation) → IsLoad f bytes r → 8 * ((r.offset - f.value) / 8) + 16 ≤ f.size
load_inside f bytes r h =
    let place : 8 * ((r.offset - f.value) / 8) ≤ r.offset - f.value = omega arith in
    let inside : r.offset - f.value + 16 ≤ f.size = h.inside in
    omega (arith, place, inside)

pub maps_inside : (o : Parts) (f : Symbol) (rows : List ℕ) (n : ℕ) (ms : List MapReference) (cs : List ConstantReference) →
    AreReferences o f rows n ms cs → All (λ r. 8 * r.slot + 16 ≤ f.size) ms
maps_inside o f rows _ _ _ nothing = search rules
maps_inside o f rows _ _ _ (outside n ms cs before out) = maps_inside o f rows n ms cs before
maps_inside o f rows _ _ _ (one_map n ms cs before within named) =
    let here : 8 * (reference f (relocation rows n)).slot + 16 ≤ f.size = load_inside f (code o f) (relocation rows n) named.load in
    All-append (λ (r : MapReference). 8 * r.slot + 16 ≤ f.size) ms (reference f (relocation rows n) ∷ []) (maps_inside o f rows n ms cs before)
    (search (rules, here))
maps_inside o f rows _ _ _ (one_constant n ms cs before within named) = maps_inside o f rows n ms cs before

pub constants_inside : (o : Parts) (f : Symbol) (rows : List ℕ) (n : ℕ) (ms : List MapReference) (cs : List ConstantReference) →
    AreReferences o f rows n ms cs → All (λ r. 8 * r.slot + 16 ≤ f.size) cs
constants_inside o f rows _ _ _ nothing = search rules
constants_inside o f rows _ _ _ (outside n ms cs before out) = constants_inside o f rows n ms cs before
constants_inside o f rows _ _ _ (one_map n ms cs before within named) = constants_inside o f rows n ms cs before
constants_inside o f rows _ _ _ (one_constant n ms cs before within named) =
    let here : 8 * (constant_reference o f (relocation rows n)).slot + 16 ≤ f.size = load_inside f (code o f) (relocation rows n) named.load in
    All-append (λ (r : ConstantReference). 8 * r.slot + 16 ≤ f.size) cs (constant_reference o f (relocation rows n) ∷ [])
    (constants_inside o f rows n ms cs before) (search (rules, here))
