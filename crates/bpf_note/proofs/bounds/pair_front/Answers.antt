use Rattle.std.proofs.Common.{◌≡◌, ◌∙◌, sym, subst, ℕ, take, arith}
use Rattle.bpf_note.specs.Bounds.{IsJoinedFront}
use Rattle.bpf_note.proofs.KeptLemmas.{merged_front, paired_step}
use Rattle.bpf_note.proofs.bounds.pair_front.Goals as goal

pub returns-then-own-k-clause-front : goal.returns-then-own-k-clause-front
returns-then-own-k-clause-front c = merged_front c.args.own.now c.args.others.now _ c.loop-k.k c.loop-k.k c.requires.own c.requires.others c.loop-k.invariant.0

pub loop-k-preserved : goal.loop-k-preserved
loop-k-preserved c =
    paired_step c.loop-k.own c.args.own.now c.args.others.now c.loop-k.k _ _ c.paired-both.result (omega arith) (omega arith) (omega arith)
    c.if-own-k.false c.paired-both.ensures (sym c.says.ensures ∙ c.if-not-says.false) c.loop-k.invariant

pub returns-clause-front : goal.returns-clause-front
returns-clause-front c =
    let end : c.loop-k.k ≡ c.min-size.result = omega arith in
    let front = merged_front c.args.own.now c.args.others.now _ c.loop-k.k c.loop-k.k c.requires.own c.requires.others c.loop-k.invariant.0 in
    subst (λ (n : ℕ). IsJoinedFront c.args.own.now c.args.others.now n n (take n c.loop-k.own)) end front
