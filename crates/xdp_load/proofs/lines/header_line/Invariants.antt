use Rattle.std.proofs.Common.{◌≡◌, ◌≤◌, ◌-◌, drop, map}
use Rattle.std.specs.List.{slice_get}
use Rattle.xdp_load.specs.Lines.{row_lines}
use Rattle.xdp_load.proofs.lines.header_line.Given as goal

abbrev pub invariant-loop-i : goal.invariant-loop-i
invariant-loop-i l = (l.before ≤ l.number) × (slice_get (row_lines l.name l.i (map (λ x. x.now) (drop l.i l.lines))) (l.number - l.before) ≡ slice_get (row_lines l.name 0 (map (λ x. x.now) l.lines)) l.number)
