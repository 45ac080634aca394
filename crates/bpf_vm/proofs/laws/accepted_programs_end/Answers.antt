use Rattle.bpf_verify.specs.Consistent.{instructions}
use Rattle.bpf_vm.proofs.CounterLemmas.{course_of}
use Rattle.bpf_vm.proofs.CourseLemmas.{accepted_ends}
use Rattle.bpf_vm.proofs.laws.accepted_programs_end.Goals as goal

pub returns-clause-end : goal.returns-clause-end
returns-clause-end c = accepted_ends

pub returns-clause-counters : goal.returns-clause-counters
returns-clause-counters c = λ p k s e. course_of p.code (instructions p.code) p.shapes s e k.maps
