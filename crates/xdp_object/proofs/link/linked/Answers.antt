use Rattle.std.proofs.Common.{◌≡◌, length, rules}
use Rattle.std.proofs.Math.Seq.{take-append_seam}
use Rattle.xdp_object.proofs.link.linked.Goals as goal

pub returns-clause-ok : goal.returns-clause-ok
returns-clause-ok c =
    let whole : c.in_ok-program.program.len ≡ length c.link.new.program = search rules in
    rw (whole, take-append_seam) (search rules)
