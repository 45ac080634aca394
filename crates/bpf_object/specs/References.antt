-- For proofs: no claim rests on this file.
-- What a relocation of a function refers to, and one more of what a function refers to.
use Rattle.std.specs.Prelude.{◌≡◌, [], ◌∷◌, ◌++◌}
use Rattle.bpf_object.specs.Object.{Parts}
use Rattle.bpf_object.specs.Program.{NamesMap, NamesConstant, reference, constant_reference}
use Rattle.bpf_object.specs.declared.symbol.Symbol.{Symbol}
use Rattle.bpf_object.specs.declared.relocation.Relocation.{Relocation}
use Rattle.bpf_object.specs.declared.reference.References.{References}
use Rattle.bpf_object.specs.declared.reference.Target.{Target}
use Rattle.bpf_object.specs.declared.reference.Target.TheVariants.{Map, Constant}

-- the relocation is of this
abbrev pub IsTarget : Parts → Symbol → Relocation → Target → Type 0
IsTarget o f r (Map m) = NamesMap o f r × (m ≡ reference f r)
IsTarget o f r (Constant c) = NamesConstant o f r × (c ≡ constant_reference o f r)

-- one more
abbrev pub IsMore : References → Target → References → Type 0
IsMore old (Map m) new = (new.maps.items ≡ old.maps.items ++ m ∷ []) × (new.constants.items ≡ old.constants.items)
IsMore old (Constant c) new = (new.maps.items ≡ old.maps.items) × (new.constants.items ≡ old.constants.items ++ c ∷ [])
