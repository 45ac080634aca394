use Rattle.std.proofs.Common.{◌≡◌, ◌∙◌, Some, None, ap, arith}
use Rattle.bpf_note.specs.Keys.{size}
use Rattle.bpf_note.specs.declared.key.KeyKind.{KeyKind}
use Rattle.bpf_vm.proofs.FindLemmas.{found_is, found_not}
use Rattle.bpf_vm.proofs.lookup.row_in.Goals as goal

pub returns-then-size-key : goal.returns-then-size-key
returns-then-size-key c =
    let sized : c.size.result ≡ size c.args.rows.now.kind = c.size.ensures.value ∙ ap (λ (k : KeyKind). size k) c.kind.ensures in
    found_not c.args.rows.now c.args.key.now (λ e. c.if-size-key.true (sized ∙ e))

pub returns-in-Some : goal.returns-in-Some
returns-in-Some c =
    let sized : c.size.result ≡ size c.args.rows.now.kind = c.size.ensures.value ∙ ap (λ (k : KeyKind). size k) c.kind.ensures in
    let widened : c.from.result ≡ c.in-Some.row = omega arith in
    ap Some widened ∙ found_is c.args.rows.now c.args.key.now (Some c.in-Some.row) (omega (arith, sized)) (c.has_one_answer.ensures.one c.args.key.now (Some c.in-Some.row) c.in-Some.ensures)

pub returns-in-None : goal.returns-in-None
returns-in-None c =
    let sized : c.size.result ≡ size c.args.rows.now.kind = c.size.ensures.value ∙ ap (λ (k : KeyKind). size k) c.kind.ensures in
    found_is c.args.rows.now c.args.key.now None (omega (arith, sized)) (c.has_one_answer.ensures.one c.args.key.now None c.in-None.ensures)
