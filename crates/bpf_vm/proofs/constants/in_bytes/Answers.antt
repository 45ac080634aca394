use Rattle.std.proofs.Common.{ap, sym, ◌∙◌, arith}
use Rattle.bpf_insn.specs.Size.{size_bytes}
use Rattle.bpf_note.specs.Bytes.{number_of}
use Rattle.bpf_vm.proofs.ConstantLemmas.{from_bytes, size_small}
use Rattle.bpf_vm.proofs.constants.in_bytes.Goals as goal

pub returns : goal.returns
returns c = λ find m list.
    c.number_at.ensures
    ∙ ap number_of (sym (from_bytes find c.args.bytes.now m c.args.place (size_bytes c.args.size) list c.are_bytes.ensures c.requires.inside (omega (arith, c.requires.small, size_small c.args.size))))
