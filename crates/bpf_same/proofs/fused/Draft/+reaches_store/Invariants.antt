use Rattle.bpf_same.proofs.fused.Draft.+reaches_store.Given as goal

abbrev pub decreases-reaches_store : goal.decreases-reaches_store
decreases-reaches_store l = l.steps
