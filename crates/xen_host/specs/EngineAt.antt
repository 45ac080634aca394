-- Stated: claims rest on this file.
-- An engine with what is lent to its functions: its wiring, and the room of its packet.
use Rattle.std.specs.Prelude.{ℕ, List}
use Rattle.xen_netif.specs.Chain.{Slot}
use Rattle.xen_host.specs.Offload.{Offload}
use Rattle.xen_netif.specs.declared.fragment.Fragment.{Fragment}
use Rattle.xen_netif.specs.declared.offload.RxOffload.{RxOffload}
use Rattle.xen_rx_fill.specs.declared.target.Target.{Target}
use Rattle.xen_turns.specs.declared.state.State.{State}
use Rattle.xen_turns.specs.declared.wiring.Wiring.{Wiring}
use Rattle.xen_host.specs.declared.engine.Engine.{Engine}
use Rattle.xen_host.specs.declared.stage.Stage.{Stage}
use Rattle.xen_host.specs.declared.work.Answer.{Answer}
use Rattle.xen_host.specs.declared.work.Work.{Work}

-- What a turn has come to, with its packet, what a delivery's leaves to the frontend, and the answer to its chain.
pub record WorkAt : Type 0 where
  pub chain : List Slot
  pub fragments : List Fragment
  pub targets : List Target
  pub packet : List ℕ
  pub offload : RxOffload
  pub answer : Answer

abbrev pub work_at : List ℕ → Work → WorkAt
work_at packet b = record { chain = b.chain; fragments = b.fragments.items; targets = b.targets; packet = packet; offload = b.offload; answer = b.answer }

pub record EngineAt : Type 0 where
  pub wires : Wiring
  pub state : State
  pub stage : Stage
  pub offload : Offload
  pub work : WorkAt

abbrev pub engine_at : Wiring → List ℕ → Engine → EngineAt
engine_at w packet e = record { wires = w; state = e.state; stage = e.stage; offload = e.offload; work = work_at packet e.work }
