use Rattle.std.proofs.Common.{◌≡◌, length, rules}
use Rattle.std.proofs.Math.Seq.{take-append_seam}
use Rattle.xdp_load.proofs.RowLemmas.{names_seen}
use Rattle.xdp_load.proofs.relocations.relocated.Goals as goal

pub returns : goal.returns
returns c =
    let whole : c.args.program.len ≡ length c.relocate.new.program = search rules in
    rw (whole, take-append_seam, names_seen) (search rules)
