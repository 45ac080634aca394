-- Stated: claims rest on this file.
-- The number of each cause, and where it is: a section, a symbol, a relocation or a type of the object, or a map of the program.
use Rattle.std.specs.Prelude.{ℕ}
use Rattle.bpf_object.specs.declared.fault.ObjectFault.{ObjectFault}
use Rattle.bpf_object.specs.declared.fault.ObjectFault.TheVariants as object
use Rattle.bpf_object.specs.declared.fault.ProgramFault.{ProgramFault}
use Rattle.bpf_object.specs.declared.fault.ProgramFault.TheVariants as program
use Rattle.bpf_object.specs.declared.fault.RelocationFault.{RelocationFault}
use Rattle.bpf_object.specs.declared.fault.RelocationFault.TheVariants as relocation
use Rattle.bpf_object.specs.declared.fault.ConstantsFault.{ConstantsFault}
use Rattle.bpf_object.specs.declared.fault.ConstantsFault.TheVariants as constants
use Rattle.bpf_object.specs.declared.fault.TypesFault.{TypesFault}
use Rattle.bpf_object.specs.declared.fault.TypesFault.TheVariants as types
use Rattle.xdp_object.specs.declared.fault.GivenCause.{GivenCause}
use Rattle.xdp_object.specs.declared.fault.GivenCause.TheVariants as given
use Rattle.xdp_object.specs.declared.fault.MapCause.{MapCause}
use Rattle.xdp_object.specs.declared.fault.MapCause.TheVariants as cause
use Rattle.xdp_object.specs.declared.fault.OriginalFault.{OriginalFault}
use Rattle.xdp_object.specs.declared.fault.OriginalFault.TheVariants as original
use Rattle.xdp_object.specs.declared.fault.SetupFault.{SetupFault}
use Rattle.xdp_object.specs.declared.fault.SetupFault.TheVariants.{Object, Program, Maps, Types, Map, Memory}
use Rattle.xdp_object.specs.declared.fault.ShapeFault.{ShapeFault}
use Rattle.xdp_object.specs.declared.fault.ShapeFault.TheVariants as shape

abbrev pub object_number : ObjectFault → ℕ
object_number object.NoHeader = 1
object_number object.Format = 2
object_number object.Machine = 3
object_number object.SectionTable = 4
object_number (object.Section section) = 5
object_number object.SectionNames = 6
object_number object.NoSymbols = 7
object_number (object.TwoSymbolTables first second) = 8
object_number object.Symbols = 9

abbrev pub relocation_number : RelocationFault → ℕ
relocation_number relocation.Kind = 16
relocation_number relocation.Place = 17
relocation_number relocation.InsideMap = 17
relocation_number relocation.Outside = 30
relocation_number relocation.Global = 31
relocation_number relocation.Other = 18

abbrev pub program_number : ProgramFault → ℕ
program_number program.NoFunction = 10
program_number (program.TwoFunctions first second) = 11
program_number program.Code = 12
program_number (program.TwoTables first second) = 13
program_number (program.Table section) = 14
program_number (program.Order row) = 15
program_number (program.Relocation row fault) = relocation_number fault
program_number program.Memory = 0

abbrev pub types_number : TypesFault → ℕ
types_number types.NoSection = 20
types_number (types.TwoSections first second) = 21
types_number types.Header = 22
types_number (types.Row number) = 23
types_number types.Memory = 0

abbrev pub constants_number : ConstantsFault → ℕ
constants_number constants.NoConstants = 32
constants_number constants.Name = 25
constants_number constants.Addresses = 32

abbrev pub shape_number : ShapeFault → ℕ
shape_number shape.Kind = 26
shape_number shape.Key = 27
shape_number shape.Entries = 28
shape_number shape.Value = 29

abbrev pub cause_number : MapCause → ℕ
cause_number (cause.Definition fault) = 24
cause_number (cause.Constants fault) = constants_number fault
cause_number cause.Name = 25
cause_number (cause.Shape fault) = shape_number fault
cause_number cause.Bytes = 33

-- 0: out of memory
abbrev pub fault_number : SetupFault → ℕ
fault_number (Object fault) = object_number fault
fault_number (Program fault) = program_number fault
fault_number Maps = 19
fault_number (Types fault) = types_number fault
fault_number (Map number cause) = cause_number cause
fault_number Memory = 0

-- of two sections or symbols the second
abbrev pub object_place : ObjectFault → ℕ
object_place (object.Section section) = section
object_place (object.TwoSymbolTables first second) = second
object_place _ = 0

abbrev pub program_place : ProgramFault → ℕ
program_place (program.TwoFunctions first second) = second
program_place (program.TwoTables first second) = second
program_place (program.Table section) = section
program_place (program.Order row) = row
program_place (program.Relocation row fault) = row
program_place _ = 0

abbrev pub types_place : TypesFault → ℕ
types_place (types.TwoSections first second) = second
types_place (types.Row number) = number
types_place _ = 0

abbrev pub fault_place : SetupFault → ℕ
fault_place (Object fault) = object_place fault
fault_place (Program fault) = program_place fault
fault_place Maps = 0
fault_place (Types fault) = types_place fault
fault_place (Map number cause) = number
fault_place Memory = 0

-- ---- where a function is no program with given maps; a place is a slot of the function then

abbrev pub given_number : GivenCause → ℕ
given_number (given.Map cause) = cause_number cause
given_number given.Name = 34
given_number given.Shape = 35
given_number given.Constants = 36

abbrev pub original_number : OriginalFault → ℕ
original_number (original.Object fault) = object_number fault
original_number (original.Program fault) = program_number fault
original_number (original.Types fault) = types_number fault
original_number (original.Map slot cause) = given_number cause
original_number original.Memory = 0

abbrev pub original_place : OriginalFault → ℕ
original_place (original.Object fault) = object_place fault
original_place (original.Program fault) = program_place fault
original_place (original.Types fault) = types_place fault
original_place (original.Map slot cause) = slot
original_place original.Memory = 0
