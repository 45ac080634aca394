use Rattle.std.proofs.Common.{◌≡◌, List, subst}
use Rattle.bpf_insn.specs.declared.insn.Insn.{Insn}
use Rattle.bpf_note.specs.Shape.{Shape}
use Rattle.bpf_same.specs.Counts.{IsSameByCounts}
use Rattle.bpf_same.specs.Same.{IsSame}
use Rattle.bpf_same.proofs.same.compare.Goals as goal

of_these : (shapes shapes' : List Shape) (old old' new new' : List Insn) → shapes ≡ shapes' → old ≡ old' → new ≡ new' → IsSame shapes old new → IsSame shapes' old' new'
of_these shapes shapes' old old' new new' s o n h = subst (λ (x : List Shape). IsSame x old' new') s (subst (λ (x : List Insn). IsSame shapes x new') o (subst (λ (x : List Insn). IsSame shapes old x) n h))

by_counts : (shapes shapes' : List Shape) (old old' new new' : List Insn) → shapes ≡ shapes' → old ≡ old' → new ≡ new' → IsSameByCounts shapes old new → IsSameByCounts shapes' old' new'
by_counts shapes shapes' old old' new new' s o n h =
    subst (λ (x : List Shape). IsSameByCounts x old' new') s (subst (λ (x : List Insn). IsSameByCounts shapes x new') o (subst (λ (x : List Insn). IsSameByCounts shapes old x) n h))

pub returns-in_default-clause-same : goal.returns-in_default-clause-same
returns-in_default-clause-same c = λ e. of_these _ _ _ _ _ _ c.shapes.ensures.same c.insns-originals.ensures.same c.insns.ensures.same (c.in_ok-shown.ensures.same e)

pub returns-in_default-clause-whole : goal.returns-in_default-clause-whole
returns-in_default-clause-whole c = λ e.
    c.same_both_ways.ensures c.args.new.now c.args.old.now c.insns.ensures.consistent (of_these _ _ _ _ _ _ c.shapes.ensures.same c.insns-originals.ensures.same c.insns.ensures.same (c.in_ok-shown.ensures.same e))

pub returns-in_default-clause-counts : goal.returns-in_default-clause-counts
returns-in_default-clause-counts c = λ e. by_counts _ _ _ _ _ _ c.shapes.ensures.same c.insns-originals.ensures.same c.insns.ensures.same (c.in_ok-shown.ensures.counts e)

pub returns-in_default-clause-counts_whole : goal.returns-in_default-clause-counts_whole
returns-in_default-clause-counts_whole c = λ e.
    c.same_by_counts_both_ways.ensures c.args.new.now c.args.old.now c.insns.ensures.consistent (by_counts _ _ _ _ _ _ c.shapes.ensures.same c.insns-originals.ensures.same c.insns.ensures.same (c.in_ok-shown.ensures.counts e))

pub returns-in_default-clause-alone : goal.returns-in_default-clause-alone
returns-in_default-clause-alone c = λ e. absurd (c.in_ok-shown.ensures.never_alone e)

pub returns-in_default-clause-alone_whole : goal.returns-in_default-clause-alone_whole
returns-in_default-clause-alone_whole c = λ e. absurd (c.in_ok-shown.ensures.never_alone e)
