-- Programs, and why there is none, from what was found of the function's symbol.
use Rattle.std.proofs.Common.{ℕ, ◌≡◌, List, sym, subst}
use Rattle.bpf_object.specs.Object.{Parts}
use Rattle.bpf_object.specs.Symbol.{symbol, HasCode}
use Rattle.bpf_object.specs.Program.{IsOneFunction, AreRows, AreInOrder}
use Rattle.bpf_object.specs.Program.{HasNoTable, IsLow, HasNoReferences, IsNoProgram, no_code, no_table, not_rising, no_references}
use Rattle.bpf_object.specs.declared.symbol.Symbol.{Symbol}
use Rattle.bpf_object.specs.declared.fault.ProgramFault.{ProgramFault}
use Rattle.bpf_object.specs.declared.fault.ProgramFault.TheVariants.{Code}

pub refused_code : (o : Parts) (name : List ℕ) (n : ℕ) (f : Symbol) → f ≡ symbol o.symbols n → IsOneFunction o name n →
    (HasCode o f → ⊥) → IsNoProgram o name Code
refused_code o name n f e is h = no_code n is (subst (λ (g : Symbol). HasCode o g → ⊥) e h)

pub refused_table : (o : Parts) (name : List ℕ) (fault : ProgramFault) (n : ℕ) (f : Symbol) → f ≡ symbol o.symbols n →
    IsOneFunction o name n → HasCode o f → HasNoTable o f.section fault → IsNoProgram o name fault
refused_table o name fault n f e is =
    subst (λ (g : Symbol). HasCode o g → HasNoTable o g.section fault → IsNoProgram o name fault) (sym e) (λ has h. no_table fault n is has h)

pub refused_order : (o : Parts) (name rows : List ℕ) (fault : ProgramFault) (n : ℕ) (f : Symbol) → f ≡ symbol o.symbols n →
    IsOneFunction o name n → HasCode o f → AreRows o f.section rows → IsLow rows fault → IsNoProgram o name fault
refused_order o name rows fault n f e is =
    subst (λ (g : Symbol). HasCode o g → AreRows o g.section rows → IsLow rows fault → IsNoProgram o name fault) (sym e)
    (λ has table h. not_rising fault n rows (record { is = is; has = has; table = table }) h)

pub refused_references : (o : Parts) (name rows : List ℕ) (fault : ProgramFault) (n : ℕ) (f : Symbol) → f ≡ symbol o.symbols n →
    IsOneFunction o name n → HasCode o f → AreRows o f.section rows → AreInOrder rows → HasNoReferences o f rows fault →
    IsNoProgram o name fault
refused_references o name rows fault n f e is =
    subst
    (λ (g : Symbol). HasCode o g → AreRows o g.section rows → AreInOrder rows → HasNoReferences o g rows fault → IsNoProgram o name fault)
    (sym e)
    (λ has table order h. no_references fault n rows (record { is = is; has = has; table = table }) order h)
