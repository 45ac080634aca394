use Rattle.std.proofs.Common.{rules}
use Rattle.std.proofs.lemmas.Iterator.{YieldsList-from_slice, YieldsList-from_map, items_from_collect}
use Rattle.bpf_verify.specs.Marks.{is_instruction}
use Rattle.bpf_verify.proofs.graph.cycles.instructions.Goals as goal

pub returns : goal.returns
returns c =
    items_from_collect _ c.collect.ensures.ran
    (YieldsList-from_map _ is_instruction (YieldsList-from_slice c.args.code.now (cc)) (cc) (λ x r q k. search rules))
