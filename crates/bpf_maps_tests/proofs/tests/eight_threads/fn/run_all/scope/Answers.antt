use Rattle.bpf_maps_tests.proofs.tests.eight_threads.fn.run_all.scope.Goals as goal

pub returns : goal.returns
returns g c = (c.in_ok-back.ensures.own c.captures.counters.now c.in_ok-children.ensures.0, λ q h. c.in_ok-back.ensures.numbers q (c.in_ok-children.ensures.1 q h))
