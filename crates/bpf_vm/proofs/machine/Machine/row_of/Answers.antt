use Rattle.std.proofs.Common.{ap, sym, ◌∙◌, Some}
use Rattle.bpf_note.specs.Bytes.{number_of}
use Rattle.bpf_note.specs.Keys.{key_size}
use Rattle.bpf_note.specs.declared.key.MapKey.{MapKey}
use Rattle.bpf_flow.specs.Step.{row_of}
use Rattle.bpf_vm.specs.Running.{machine_state}
use Rattle.bpf_vm.proofs.ByteLemmas.{all_taken}
use Rattle.bpf_vm.proofs.machine.Machine.row_of.Goals as goal

pub returns-in-Index : goal.returns-in-Index
returns-in-Index c =
    let whole = all_taken c.args.key.now 4 (c.requires.sized ∙ ap (λ (k : MapKey). key_size k) c.in-Index.is) in
    ap Some (c.number_at.ensures ∙ ap number_of whole) ∙ ap (λ (k : MapKey). row_of (machine_state 0 c.args.self.now) c.args.m k c.args.key.now) (sym c.in-Index.is)
