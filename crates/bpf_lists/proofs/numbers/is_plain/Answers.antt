use Rattle.std.proofs.Common.{arith, ◌≡◌, ◌%◌, suc, ◌+◌, ◌/◌, ◌∙◌, sym, ap, subst, drop, get_or}
use Rattle.std.proofs.lemmas.Bool.{eqb-true, eq-eqb}
use Rattle.bpf_lists.specs.Keys.{value}
use Rattle.bpf_lists.proofs.ValueLemmas.{plain_whole, plain_part, rest_zero, low_bits}
use Rattle.bpf_lists.proofs.numbers.is_plain.Goals as goal

pub returns-then-rest-eq0 : goal.returns-then-rest-eq0
returns-then-rest-eq0 c =
    let bits = c.args.bits in
    let xs = c.args.bytes.now in
    let rest = c.if-rest-eq0.true in
    let zeros = rest_zero (bits / 8) xs _ c.is_zero.ensures in
    let is = plain_whole (bits / 8) bits xs (λ k. (c.type_inv.bytes k).fits) (omega arith) (omega arith) in
    (λ yes. is.0 (zeros.0 yes), λ plain. zeros.1 (is.1 plain))

pub returns-then-bytes-whole-eq0 : goal.returns-then-bytes-whole-eq0
returns-then-bytes-whole-eq0 c =
    let bits = c.args.bits in
    let xs = c.args.bytes.now in
    let rest = c.if-rest-eq0.false in
    let zeros = rest_zero (bits / 8 + 1) xs _ c.is_zero-then-bytes-whole-eq0.ensures in
    let more : bits / 8 + 1 ≡ suc (bits / 8) = omega arith in
    let low = ap (λ n. get_or xs (bits / 8) 0 % n) (sym (low_bits (bits % 8) (omega arith) (omega arith))) ∙ c.if-bytes-whole-eq0.true in
    let is = plain_part (bits / 8) (bits % 8) bits xs (λ k. (c.type_inv.bytes k).fits) (omega arith) (omega arith) (omega arith) in (
      λ yes. is.0 (low, subst (λ n. value (drop n xs) ≡ 0) more (zeros.0 yes)),
      λ plain. zeros.1 (subst (λ n. value (drop n xs) ≡ 0) (sym more) (is.1 plain).1),
    )

pub returns-else-bytes-whole-eq0 : goal.returns-else-bytes-whole-eq0
returns-else-bytes-whole-eq0 c =
    let bits = c.args.bits in
    let xs = c.args.bytes.now in
    let rest = c.if-rest-eq0.false in
    let not_low = c.if-bytes-whole-eq0.false in
    let is = plain_part (bits / 8) (bits % 8) bits xs (λ k. (c.type_inv.bytes k).fits) (omega arith) (omega arith) (omega arith) in (
      λ yes. absurd (not_low (eqb-true _ _ yes)),
      λ plain. eq-eqb _ _ (ap (λ n. get_or xs (bits / 8) 0 % n) (low_bits (bits % 8) (omega arith) (omega arith)) ∙ (is.1 plain).0),
    )
