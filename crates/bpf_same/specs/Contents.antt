-- For proofs: no claim rests on this file.
-- What stands in counters, by the linear forms of their addresses.
use Rattle.std.specs.Prelude.{ℕ, ℤ, pos, ◌%◌, ◌^◌, ◌+◌, ◌≡◌, ◌<◌, ◌≤◌, Option, Some, None, Bool, true, false, if◌then◌else◌, ◌==◌, slice_index_or}
use Rattle.bpf_insn.specs.Register.{number}
use Rattle.bpf_insn.specs.declared.register.Register.{Register}
use Rattle.bpf_insn.specs.declared.size.Size.TheVariants.{Double}
use Rattle.bpf_insn.specs.declared.insn.Insn.{Insn}
use Rattle.bpf_insn.specs.declared.insn.Insn.TheVariants.{Ldx, Stx, AddCounter}
use Rattle.bpf_note.specs.declared.val.Val.TheVariants.{Value}
use Rattle.bpf_note.specs.Facts.{Facts}
use Rattle.bpf_same.specs.declared.content.Content.{Content}
use Rattle.bpf_same.specs.declared.linear_form.LinearForm.{LinearForm}
use Rattle.bpf_same.specs.declared.relation.Relation.{Relation}
use Rattle.bpf_same.specs.LinearForms.{plus, total, Hold}
use Rattle.bpf_same.specs.Moved.{address_in}
use Rattle.bpf_same.specs.Stepped.{alters, Stepped}

abbrev pub content_of : Relation → ℕ → Option Content
content_of e k = slice_index_or e.contents k None

-- where a counter lies at the address, in which h says what stands, the number stands in it
abbrev pub Stands : (ℕ → Option ℕ) → (ℕ → Option ℕ) → LinearForm → LinearForm → Type 0
Stands f h address number = (a x : ℕ) → total f address ≡ Some a → h a ≡ Some x → total f number ≡ Some x

-- each content of a relation does
abbrev pub Contain : Relation → (ℕ → Option ℕ) → (ℕ → Option ℕ) → Type 0
Contain e f h = (k : ℕ) (content : Content) → k < 8 → content_of e k ≡ Some content → Stands f h content.address content.number

abbrev pub is_addition : Insn → Bool
is_addition (AddCounter fetch dst src off) = true
is_addition i = false

-- what a step of the new program makes of what stands in counters
pub record Changes (i : Insn) (f f' h h' : ℕ → Option ℕ) : Type 0 where
  pub left : is_addition i ≡ false → (a : ℕ) → h' a ≡ h a
  pub added : (fetch : Bool) (dst src : Register) (off : ℤ) → i ≡ AddCounter fetch dst src off → (b : ℕ) × (v : ℕ) × (address_in f dst off ≡ Some b) × (f (number src) ≡ Some v) ×
      ((a : ℕ) → h' a ≡ (if a == b then plus (h a) (Some v) else h a))
  pub loaded : (dst src : Register) (off : ℤ) → i ≡ Ldx Double false dst src off → (a x : ℕ) → address_in f src off ≡ Some a → h a ≡ Some x → f' (number dst) ≡ Some x

-- alone, a load through the address of a map's value gives what stands in a counter
abbrev pub Finds : Bool → Insn → Facts → (ℕ → Option ℕ) → (ℕ → Option ℕ) → (ℕ → Option ℕ) → Type 0
Finds alone i m f f' h = (dst src : Register) (map n : ℕ) → alone ≡ true → i ≡ Ldx Double false dst src (pos n) → n ≤ 32767 → alters i (number src) ≡ false → m.reg (number src) ≡ Value map →
    (a : ℕ) × (x : ℕ) × (address_in f src (pos n) ≡ Some a) × (h a ≡ Some x) × (f' (number dst) ≡ Some x)

-- after the step a term holds this linear form of what is held then, be it for what stands in a counter; the same of a register of the old
-- program
abbrev pub IsNewFound : Bool → Insn → Bool → ℕ → Facts → Relation → ℕ → LinearForm → Type 0
IsNewFound alone i stutters low m e n s = (f g f' g' h : ℕ → Option ℕ) → Stepped i stutters low m f g f' g' → Hold e f g → Contain e f h → Finds alone i m f f' h → f' n ≡ total f' s

abbrev pub IsOldFound : Bool → Insn → Bool → ℕ → Facts → Relation → ℕ → LinearForm → Type 0
IsOldFound alone i stutters low m e k s = (f g f' g' h : ℕ → Option ℕ) → Stepped i stutters low m f g f' g' → Hold e f g → Contain e f h → Finds alone i m f f' h → g' k ≡ total f' s

-- a relation that holds before the step is followed by another one
abbrev pub Preserves : Bool → Insn → Bool → ℕ → Facts → Relation → Relation → Type 0
Preserves alone i stutters low m e next = (f g f' g' h : ℕ → Option ℕ) → Stepped i stutters low m f g f' g' → Hold e f g → Contain e f h → Finds alone i m f f' h → Hold next f' g'

-- before the step an addition's address is this linear form, and what it adds is that one
abbrev pub IsAdded : Insn → Relation → LinearForm → LinearForm → Type 0
IsAdded i e at by = (fetch : Bool) × (dst : Register) × (src : Register) × (off : ℤ) × (i ≡ AddCounter fetch dst src off) ×
    ((f g : ℕ → Option ℕ) → Hold e f g → (address_in f dst off ≡ total f at) × (f (number src) ≡ total f by))

-- after the step a linear form of what is held before it stands at another one's address
abbrev pub StandsAfter : Insn → Bool → ℕ → Facts → Relation → LinearForm → LinearForm → Type 0
StandsAfter i stutters low m e address number = (f g f' g' h h' : ℕ → Option ℕ) → Stepped i stutters low m f g f' g' → Hold e f g → Contain e f h → Changes i f f' h h' → Stands f h' address number

-- an address before the step isn't the beginning of a value of the map
abbrev pub IsNoValue : Insn → Bool → ℕ → Facts → Relation → LinearForm → ℕ → Type 0
IsNoValue i stutters low m e address map = (f g f' g' : ℕ → Option ℕ) (k a : ℕ) → Stepped i stutters low m f g f' g' → Hold e f g → m.reg k ≡ Value map → k < 11 → f' k ≡ Some a → total f address ≡ Some a → ⊥

-- an address before the step is another one than what register k holds then
abbrev pub IsApart : Insn → Bool → ℕ → Facts → Relation → LinearForm → ℕ → Type 0
IsApart i stutters low m e address k = (f g f' g' : ℕ → Option ℕ) (a : ℕ) → Stepped i stutters low m f g f' g' → Hold e f g → f k ≡ Some a → total f address ≡ Some a → ⊥

-- the step adds to no counter at this address
abbrev pub IsElsewhere : Insn → Bool → ℕ → Facts → Relation → LinearForm → Type 0
IsElsewhere i stutters low m e address = (f g f' g' : ℕ → Option ℕ) (fetch : Bool) (dst src : Register) (off : ℤ) (a : ℕ) → Stepped i stutters low m f g f' g' → Hold e f g → i ≡ AddCounter fetch dst src off →
    address_in f dst off ≡ Some a → total f address ≡ Some a → ⊥

-- an address before the step is one that it has loaded eight bytes from, and a linear form after it is what it has loaded
abbrev pub PreservesLoad : Insn → Bool → ℕ → Facts → Relation → LinearForm → LinearForm → Type 0
PreservesLoad i stutters low m e address number = (f g f' g' h h' : ℕ → Option ℕ) → Stepped i stutters low m f g f' g' → Hold e f g → Changes i f f' h h' → (a x : ℕ) → total f address ≡ Some a → h' a ≡ Some x → total f' number ≡ Some x

-- after the step the content is right
abbrev pub PreservesContent : Insn → Bool → ℕ → Facts → Relation → LinearForm → LinearForm → Type 0
PreservesContent i stutters low m e address number = (f g f' g' h h' : ℕ → Option ℕ) → Stepped i stutters low m f g f' g' → Hold e f g → Contain e f h → Changes i f f' h h' → Stands f' h' address number

-- the same of each content of another relation
abbrev pub PreservesContents : Insn → Bool → ℕ → Facts → Relation → Relation → Type 0
PreservesContents i stutters low m e next = (k : ℕ) (content : Content) → k < 8 → content_of next k ≡ Some content → PreservesContent i stutters low m e content.address content.number

-- the old program stores to a counter what an addition of the new one leaves in it
pub record IsAddedStore (e : Relation) (there i : Insn) : Type 0 where
  pub dst : Register
  pub src : Register
  pub off : ℤ
  pub base : Register
  pub value : Register
  pub from : ℤ
  pub adds : i ≡ AddCounter false dst src off
  pub stores : there ≡ Stx Double base value from
  pub address : (f g : ℕ → Option ℕ) → Hold e f g → address_in g base from ≡ address_in f dst off
  pub sum : (f g h : ℕ → Option ℕ) → Hold e f g → Contain e f h → (a x v : ℕ) → address_in f dst off ≡ Some a → h a ≡ Some x → f (number src) ≡ Some v → g (number value) ≡ Some ((x + v) % 2 ^ 64)
