use Rattle.std.proofs.Common.{◌≡◌, All, take}
use Rattle.bpf_note.specs.Shape.{IsNarrow}
use Rattle.xdp_host.specs.Answers.{shapes_of}
use Rattle.xdp_host.proofs.loaded_program.shapes_of.Given as goal

abbrev pub invariant-loop-number : goal.invariant-loop-number
invariant-loop-number l = record {
  shapes : take l.number l.shapes ≡ shapes_of (take l.number l.maps);
  within : All IsNarrow (shapes_of (take l.number l.maps));
}
