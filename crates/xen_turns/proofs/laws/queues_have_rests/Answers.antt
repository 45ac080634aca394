use Rattle.std.proofs.Common.{◌++◌}
use Rattle.xen_steps.proofs.FinishLemmas.{runs_gone}
use Rattle.xen_turns.specs.Tree.{whole_turn}
use Rattle.xen_turns.proofs.EndLemmas.{ends_turn, run_whole, rest_of_gone}
use Rattle.xen_turns.proofs.TurnParts.{turn_parts}
use Rattle.xen_turns.proofs.laws.queues_have_rests.Goals as goal

pub returns : goal.returns
returns c w s consistent ifindex queue t rest g =
    let r = rest_of_gone (whole_turn w s) rest t (ends_turn w (run_whole w consistent ifindex queue) s) g in
    (r.0, r.1.0, r.1.1, r.2, turn_parts w s (t ++ r.0) r.1.0 r.1.1 (runs_gone (whole_turn w s) rest t r.0 (r.1.0, r.1.1) g r.2))
