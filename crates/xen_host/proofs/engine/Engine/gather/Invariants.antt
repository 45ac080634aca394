use Rattle.std.proofs.Common.{◌≡◌, ℕ, ◌+◌, length}
use Rattle.std.specs.Prelude.{◌≢◌, Ok, Some}
use Rattle.xen_netif.specs.Standing.{standing}
use Rattle.xen_netif.specs.declared.chain.ChainState.TheVariants.{Complete}
use Rattle.xen_host.specs.Early.{at_rx}
use Rattle.xen_host.specs.LaneSteps.{ScansTo}
use Rattle.xen_host.specs.LentWords.{lent_words}
use Rattle.xen_host.proofs.LaneBeginLemmas.{wanting}
use Rattle.xen_host.proofs.engine.Engine.gather.Given as goal

abbrev pub invariant-loop-i : goal.invariant-loop-i
invariant-loop-i l =
    record {
      state : l.self.state ≡ l.fn.self.state;
      slots : l.from + length l.self.work.chain ≡ l.i;
      wants : standing l.self.work.chain ≢ Some (Ok Complete);
      scanned : (x : ℕ) → ScansTo (at_rx x l.fn.self.state) (lent_words l.words) l.from (length l.self.work.chain) (wanting (at_rx x l.fn.self.state) l.self.work.chain);
    }
