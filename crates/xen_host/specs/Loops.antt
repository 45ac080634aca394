-- Stated: claims rest on this file.
-- A host's loop: it goes on with what is under way, step by step.
use Rattle.std.specs.Prelude.{ℕ, zero, suc, ◌≡◌, List, length}
use Rattle.xen_host.specs.Queues.{AreEnough, HasStepped}
use Rattle.xen_host.specs.declared.op.HostOp.{HostOp}
use Rattle.xen_host.specs.declared.queue.Queue.{Queue}

-- A step that is made while something is under way, as the contract of `Queue::step` says. The host may have put any words in front of
-- the lent ones.
pub record IsStep (old new : Queue) : Type 0 where
  pub lent : List ℕ
  pub lent_after : List ℕ
  pub before : List ℕ
  pub after : List ℕ
  pub ops : List HostOp
  pub ops_after : List HostOp
  pub count : ℕ
  pub enough : AreEnough old lent before ops
  pub words : length lent_after ≡ length lent
  pub stepped : HasStepped old new lent lent_after before after ops ops_after count

-- n steps, one after another.
abbrev pub AreSteps : ℕ → Queue → Queue → Type 0
AreSteps zero q new = q ≡ new
AreSteps (suc n) q new = (next : Queue) × IsStep q next × AreSteps n next new
