-- What the derived test of shapes says.
use Rattle.std.proofs.Common.{◌≡◌, rules}
use Rattle.std.specs.Prelude.{Decides}
use Rattle.bpf_note.specs.Shape.{Shape}
use Rattle.bpf_note.specs.declared.key.MapKey.{MapKey}
use Rattle.bpf_note.specs.declared.key.KeyKind.{KeyKind}
use Rattle.bpf_note.specs.contracts.shape.MapShapePartialEq.TheImpl as shape_eq
use Rattle.bpf_note.specs.contracts.key.MapKeyPartialEq.TheImpl as key_eq
use Rattle.bpf_note.specs.contracts.key.KeyKindPartialEq.TheImpl as kind_eq

pub kinds_equal : (a b : KeyKind) → Decides (kind_eq.eq-value.it a b) (a ≡ b)
kinds_equal a b = search rules

pub keys_equal : (a b : MapKey) → Decides (key_eq.eq-value.it a b) (a ≡ b)
keys_equal a b = search rules

pub shapes_equal : (a b : Shape) → Decides (shape_eq.eq-value.it a b) (a ≡ b)
shapes_equal a b = search rules
