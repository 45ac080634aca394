use Rattle.xen_turns.proofs.ArriveLemmas.{delivery_rows, rows_run}
use Rattle.xen_turns.proofs.laws.deliveries_are_rests.Goals as goal

pub returns : goal.returns
returns c = record { rests = delivery_rows; deliveries = rows_run }
