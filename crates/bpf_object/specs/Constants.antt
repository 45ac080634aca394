-- Stated: claims rest on this file.
-- The bytes of a section of constants, of which libbpf makes a map of the section's name. It leaves out relocations that change them; here
-- such a section is refused.
use Rattle.std.specs.Prelude.{ℕ, ◌≡◌, List}
use Rattle.bpf_object.specs.Bytes.{IsText}
use Rattle.bpf_object.specs.Section.{section, contents}
use Rattle.bpf_object.specs.Object.{Parts}
use Rattle.bpf_object.specs.Symbol.{IsOfConstants}
use Rattle.bpf_object.specs.Program.{AppliesTo}
use Rattle.bpf_object.specs.declared.fault.ConstantsFault.{ConstantsFault}
use Rattle.bpf_object.specs.declared.fault.ConstantsFault.TheVariants.{NoConstants, Name, Addresses}

-- section s has constants, and this name
pub record IsNamedConstants (o : Parts) (s : ℕ) (name : List ℕ) : Type 0 where
  pub is : IsOfConstants o s
  pub named : IsText o.names (section o.bytes s).name name

-- section s has constants of this name and these bytes, and none is an address
pub record HasConstants (o : Parts) (s : ℕ) (name bytes : List ℕ) : Type 0 where
  pub is : IsNamedConstants o s name
  pub same : (r : ℕ) → AppliesTo o s r → ⊥
  pub taken : bytes ≡ contents o.bytes (section o.bytes s)

-- why it has none. The causes are tried in this order.
abbrev pub HasNoConstants : Parts → ℕ → ConstantsFault → Type 0
HasNoConstants o s NoConstants = IsOfConstants o s → ⊥
HasNoConstants o s Name = IsOfConstants o s × ((name : List ℕ) → IsText o.names (section o.bytes s).name name → ⊥)
HasNoConstants o s Addresses = (name : List ℕ) × (IsNamedConstants o s name × ((r : ℕ) × AppliesTo o s r))
