use Rattle.bpf_object.proofs.types.Types.+plain.Given as goal

abbrev pub decreases-plain : goal.decreases-plain
decreases-plain l = l.limit
