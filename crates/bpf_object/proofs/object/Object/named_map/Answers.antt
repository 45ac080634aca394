use Rattle.std.proofs.lemmas.Result.{IfErr-weaker}
use Rattle.bpf_object.specs.declared.fault.MapFault.{MapFault}
use Rattle.bpf_object.specs.Definition.{IsNoDefinition}
use Rattle.bpf_object.specs.Map.{IsNoMap, no_definition}
use Rattle.bpf_object.proofs.object.Object.named_map.Goals as goal

pub returns-clause-refused : goal.returns-clause-refused
returns-clause-refused c =
    IfErr-weaker c.definition.result (λ (fault : MapFault). IsNoDefinition c.args.types.now c.in_ok-row.row fault)
    (λ (fault : MapFault). IsNoMap c.args.self.now c.args.types.now c.args.number fault)
    (λ fault h. no_definition fault c.in_ok-row.row c.in_ok-row.ensures.ok h) c.definition.ensures.err
