use Rattle.bpf_object.proofs.types.Types.+size.Given as goal

abbrev pub decreases-size : goal.decreases-size
decreases-size l = l.limit
