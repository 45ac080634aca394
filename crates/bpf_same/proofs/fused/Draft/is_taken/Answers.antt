use Rattle.std.proofs.Common.{ℕ, sym, subst, ◌∙◌}
use Rattle.bpf_same.specs.Fused.{ReadsWithin, AllowsWays}
use Rattle.bpf_same.specs.Plans.{plan_of}
use Rattle.bpf_same.proofs.SilentLemmas.{false_true}
use Rattle.bpf_same.proofs.fused.Draft.is_taken.Goals as goal

pub returns-then-reads_within : goal.returns-then-reads_within
returns-then-reads_within c = λ t. (
  subst (λ (mask : ℕ). ReadsWithin c.args.insn mask) c.live_at-live.ensures (c.reads_within.ensures c.if-reads_within.true),
  subst (λ (mask : ℕ). AllowsWays (plan_of c.args.self.now) mask c.args.insn c.args.at) c.live_at-live.ensures (c.allows_ways.ensures t),
)

pub returns-else-reads_within : goal.returns-else-reads_within
returns-else-reads_within c = λ t. false_true (sym c.if-reads_within.false ∙ t)
