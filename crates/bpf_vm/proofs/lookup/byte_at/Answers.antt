use Rattle.std.proofs.Common.{◌≡◌, ◌∙◌, sym, ap, arith, length, Some, None}
use Rattle.std.specs.Prelude.{slice_get}
use Rattle.std.proofs.lemmas.Option.{slice_get-get_or, slice_get_past}
use Rattle.bpf_note.specs.Bytes.{number_of}
use Rattle.bpf_vm.proofs.ByteLemmas.{all_taken}
use Rattle.bpf_vm.proofs.ConstantLemmas.{sized}
use Rattle.bpf_vm.proofs.lookup.byte_at.Goals as goal

pub returns-in-Some : goal.returns-in-Some
returns-in-Some c =
    let four : length c.args.key.now ≡ 4 = omega arith in
    let number : c.number_at.result ≡ number_of c.args.key.now = c.number_at.ensures ∙ ap number_of (all_taken c.args.key.now 4 four) in
    let there : slice_get c.args.bytes.now c.number_at.result ≡ Some c.in-Some.byte.now = slice_get-get_or c.args.bytes.now c.number_at.result 0 c.in-Some.ensures.lookup.3.0 ∙ ap Some (sym (c.in-Some.ensures.lookup.3.1 0)) in
    let widened : c.in-Some.byte.now ≡ c.from.result = omega arith in
    sym (sized (length c.args.key.now) (slice_get c.args.bytes.now (number_of c.args.key.now)) four ∙ (ap (slice_get c.args.bytes.now) (sym number) ∙ (there ∙ ap Some widened)))

pub returns-in-None : goal.returns-in-None
returns-in-None c =
    let four : length c.args.key.now ≡ 4 = omega arith in
    let number : c.number_at.result ≡ number_of c.args.key.now = c.number_at.ensures ∙ ap number_of (all_taken c.args.key.now 4 four) in
    let there : slice_get c.args.bytes.now c.number_at.result ≡ None = slice_get_past c.args.bytes.now c.number_at.result c.in-None.ensures.lookup.3 in
    sym (sized (length c.args.key.now) (slice_get c.args.bytes.now (number_of c.args.key.now)) four ∙ (ap (slice_get c.args.bytes.now) (sym number) ∙ there))
