use Rattle.std.proofs.Common.{◌≡◌, false, nat_eq, sym, ◌∙◌, arith, rules}
use Rattle.bpf_object.proofs.TypeLemmas.{size_sized, size_pointer, size_array, size_alias, size_other}
use Rattle.bpf_object.proofs.types.Types.+size.Goals as goal

pub returns-then-is_sized : goal.returns-then-is_sized
returns-then-is_sized t c =
    size_sized c.args.self.now c.args.limit c.args.number c.in-Some.row (omega arith) (sym c.row.ensures.value ∙ c.in-Some.is)
    (sym c.is_sized.ensures ∙ c.if-is_sized.true)

pub returns-then-row-eq-POINTER : goal.returns-then-row-eq-POINTER
returns-then-row-eq-POINTER t c =
    size_pointer c.args.self.now c.args.limit c.args.number c.in-Some.row (omega arith) (sym c.row.ensures.value ∙ c.in-Some.is)
    (sym c.is_sized.ensures ∙ c.if-is_sized.false) c.if-row-eq-POINTER.true

pub returns-then-row-eq-ARRAY : goal.returns-then-row-eq-ARRAY
returns-then-row-eq-ARRAY t c =
    rw (c.array_size.ensures, c.elements.ensures, c.size.ensures, c.element.ensures)
    (size_array c.args.self.now c.args.limit c.args.number c.in-Some.row (omega arith) (sym c.row.ensures.value ∙ c.in-Some.is)
    (sym c.is_sized.ensures ∙ c.if-is_sized.false) c.if-row-eq-ARRAY.true)

pub returns-then-is_alias : goal.returns-then-is_alias
returns-then-is_alias t c =
    let p : nat_eq c.in-Some.row.kind 2 ≡ false = search rules in
    let y : nat_eq c.in-Some.row.kind 3 ≡ false = search rules in
    c.size-then-is_alias.ensures
    ∙ size_alias c.args.self.now c.args.limit c.args.number c.in-Some.row (omega arith) (sym c.row.ensures.value ∙ c.in-Some.is)
    (sym c.is_sized.ensures ∙ c.if-is_sized.false) p y (sym c.is_alias.ensures ∙ c.if-is_alias.true)

pub returns : goal.returns
returns t c =
    let p : nat_eq c.in-Some.row.kind 2 ≡ false = search rules in
    let y : nat_eq c.in-Some.row.kind 3 ≡ false = search rules in
    size_other c.args.self.now c.args.limit c.args.number c.in-Some.row (omega arith) (sym c.row.ensures.value ∙ c.in-Some.is)
    (sym c.is_sized.ensures ∙ c.if-is_sized.false) p y (sym c.is_alias.ensures ∙ c.if-is_alias.false)
