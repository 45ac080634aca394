use Rattle.std.proofs.Common.{arith, ◌≡◌, ◌^◌, ◌<◌, ◌≤◌, ℕ, List, min, ◌∙◌, ap}
use Rattle.std.specs.Ordering.{nat_cmp, ordering_then}
use Rattle.bpf_note.specs.Keys.{data_of, bits_of}
use Rattle.bpf_lists.specs.Keys.{value, row, count}
use Rattle.bpf_lists.specs.Order.{rank}
use Rattle.bpf_lists.proofs.RowLemmas.{few_bits}
use Rattle.bpf_lists.proofs.ValueLemmas.{lex_number}
use Rattle.bpf_lists.proofs.sorting.compare_rows.Goals as goal

pub returns : goal.returns
returns c =
    let kind = c.args.kind in
    let keys = c.args.keys.now in
    let last = c.args.last in
    let a : List ℕ = row kind keys (min c.args.a last) in
    let b : List ℕ = row kind keys (min c.args.b last) in
    let a_in : min c.args.a last < count kind keys = omega (arith, c.requires.last) in
    let b_in : min c.args.b last < count kind keys = omega (arith, c.requires.last) in
    let a_bits : bits_of kind a ≤ 512 = few_bits kind keys (min c.args.a last) c.requires.rows a_in in
    let b_bits : bits_of kind b ≤ 512 = few_bits kind keys (min c.args.b last) c.requires.rows b_in in
    let a_small : bits_of kind a < 1024 = omega arith in
    let b_small : bits_of kind b < 1024 = omega arith in
    let xa = c.key_at-x.ensures.value ∙ ap (row kind keys) c.min.ensures in
    let yb = c.key_at-y.ensures.value ∙ ap (row kind keys) c.min-2.ensures in
    let dx : c.data_bytes.result.now ≡ data_of kind a = c.data_bytes.ensures.value ∙ ap (data_of kind) xa in
    let dy : c.data_bytes-2.result.now ≡ data_of kind b = c.data_bytes-2.ensures.value ∙ ap (data_of kind) yb in
    let bx : c.data_bits.result ≡ bits_of kind a = c.data_bits.ensures ∙ ap (bits_of kind) xa in
    let by_ : c.data_bits-2.result ≡ bits_of kind b = c.data_bits-2.ensures ∙ ap (bits_of kind) yb in
    let bytes : c.compare.result ≡ nat_cmp (value (data_of kind a)) (value (data_of kind b)) = c.compare.ensures ∙ (λ i. nat_cmp (value (dx i)) (value (dy i))) in
    let bits : c.cmp.result ≡ nat_cmp (bits_of kind a) (bits_of kind b) = c.cmp.ensures ∙ (λ i. nat_cmp (bx i) (by_ i)) in
    let ranks : c.then.result ≡ nat_cmp (rank kind a) (rank kind b) =
    c.then.ensures ∙ (λ i. ordering_then (bytes i) (bits i)) ∙ lex_number (value (data_of kind a)) (value (data_of kind b)) (bits_of kind a) (bits_of kind b) 1024 a_small b_small in
    c.then-2.ensures ∙ (λ i. ordering_then (ranks i) (c.cmp-2.ensures i)) ∙ lex_number (rank kind a) (rank kind b) c.args.a c.args.b (2 ^ 32) c.ranges.a.fits c.ranges.b.fits
