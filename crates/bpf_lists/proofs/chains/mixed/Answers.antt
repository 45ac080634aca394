use Rattle.std.proofs.Common.{arith, add-one, ◌≡◌, ◌+◌, ◌*◌, ◌%◌, ◌/◌, ◌∙◌, ap, sym, refl, length, ℕ}
use Rattle.bpf_lists.specs.Chains.{mixed, word_at}
use Rattle.bpf_lists.proofs.chains.mixed.Goals as goal

pub loop-group-preserved : goal.loop-group-preserved
loop-group-preserved c =
    let bytes = c.args.bytes.now in
    let group = c.loop-group.group in
    let item : c.from.result ≡ word_at bytes (4 * group) = omega arith in
    let more : mixed (group + 1) bytes ≡ mixed group bytes % 4294967296 * 2654435761 + word_at bytes (4 * group) = rw add-one refl in
    ap (λ (n : ℕ). n % 4294967296 * 2654435761 + c.from.result) c.loop-group.invariant ∙ (ap (λ (b : ℕ). mixed group bytes % 4294967296 * 2654435761 + b) item ∙ sym more)

pub returns : goal.returns
returns c =
    let end : c.loop-group.group ≡ (length c.args.bytes.now + 3) / 4 = omega arith in
    c.loop-group.invariant ∙ ap (λ (n : ℕ). mixed n c.args.bytes.now) end
