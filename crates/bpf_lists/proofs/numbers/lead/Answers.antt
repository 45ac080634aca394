use Rattle.std.proofs.Common.{arith, add-one, ◌≡◌, ◌+◌, ◌*◌, ◌<◌, ◌∙◌, ap, sym, take, get_or, length, ℕ}
use Rattle.bpf_lists.specs.Keys.{value}
use Rattle.bpf_lists.proofs.ValueLemmas.{value_snoc}
use Rattle.bpf_lists.proofs.LeadLemmas.{lead_of_front, room_for_one}
use Rattle.bpf_lists.proofs.numbers.lead.Goals as goal

pub overflow_mul-number : goal.overflow_mul-number
overflow_mul-number c =
    let room = room_for_one c.loop-at.at 0 c.args.bytes.now (λ k. (c.type_inv.bytes k).fits) (omega arith) (omega arith) (omega arith) in
    omega (arith, room, c.loop-at.invariant)

pub overflow_add-number : goal.overflow_add-number
overflow_add-number c =
    let room = room_for_one c.loop-at.at c.from.result c.args.bytes.now (λ k. (c.type_inv.bytes k).fits) (omega arith) (omega arith) (omega arith) in
    omega (arith, room, c.loop-at.invariant)

pub loop-at-preserved : goal.loop-at-preserved
loop-at-preserved c =
    let bytes = c.args.bytes.now in
    let at = c.loop-at.at in
    let within : at < length bytes = omega arith in
    let item : c.from.result ≡ get_or bytes at 0 = omega arith in
    let more : value (take (at + 1) bytes) ≡ value (take at bytes) * 256 + get_or bytes at 0 = rw add-one (value_snoc at bytes within) in
    ap (λ (n : ℕ). n * 256 + c.from.result) c.loop-at.invariant ∙ (ap (λ (b : ℕ). value (take at bytes) * 256 + b) item ∙ sym more)

pub returns : goal.returns
returns c =
    let bytes = c.args.bytes.now in
    let end : c.loop-at.at ≡ c.min-at-end.result = omega arith in
    c.loop-at.invariant ∙ (ap (λ (n : ℕ). value (take n bytes)) end ∙ lead_of_front bytes c.min-at-end.result (omega arith))
