use Rattle.std.proofs.Common.{arith, ◌≡◌, ◌<◌, ◌%◌, ◌*◌, ◌^◌, ap, ◌∙◌, ℕ}
use Rattle.std.proofs.lemmas.Nat.{pow_below}
use Rattle.bpf_same.specs.LinearForms.{total}
use Rattle.bpf_same.proofs.LinearFormLemmas.{total_held}
use Rattle.bpf_same.proofs.linear_form.LinearForm.held.Goals as goal

pub returns : goal.returns
returns c = λ f w.
    let small : 2 ^ c.args.term < 2 ^ 64 = pow_below c.args.term 64 c.requires in
    let same : (1 * 2 ^ c.args.term) % 2 ^ 64 ≡ 2 ^ c.args.term = omega (arith, small) in
    ap (λ (mask : ℕ). total f (record { constant = 0; terms = mask })) same ∙ total_held f c.args.term c.requires w
