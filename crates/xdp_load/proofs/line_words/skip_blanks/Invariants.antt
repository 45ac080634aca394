use Rattle.std.proofs.Common.{◌≡◌, drop}
use Rattle.xdp_load.specs.Lines.{skip_blanks}
use Rattle.xdp_load.proofs.line_words.skip_blanks.Given as goal

abbrev pub invariant-loop-i : goal.invariant-loop-i
invariant-loop-i l = skip_blanks (drop l.i l.text) ≡ skip_blanks l.text
