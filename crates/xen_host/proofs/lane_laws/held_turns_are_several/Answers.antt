use Rattle.xen_host.proofs.LanesOverLemmas.{lanes_held}
use Rattle.xen_host.proofs.lane_laws.held_turns_are_several.Goals as goal

pub returns : goal.returns
returns c = record {
  answered = λ w s p m n most event rx look lanes made run seen are held some few least small.
      let r = lanes_held w s p m n most event rx look lanes made run seen are held some few least small in (r.0, r.2, r.3, r.4);
}
