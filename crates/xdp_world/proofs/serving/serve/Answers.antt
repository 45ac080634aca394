use Rattle.std.proofs.Common.{Some, refl, sym, ◌∙◌}
use Rattle.xdp_world.specs.Carries.{carries, looks}
use Rattle.xdp_world.proofs.serving.serve.Goals as goal

pub returns-in-Delivery-clause-moves : goal.returns-in-Delivery-clause-moves
returns-in-Delivery-clause-moves c =
    let v = c.carried-after.ensures.carries in
    (Some v.event, carries c.in-Delivery.delivering c.carried-after.result.1 (sym c.replace.ensures.value ∙ c.in-Delivery.is) refl v)

pub returns-in-Wait-clause-moves : goal.returns-in-Wait-clause-moves
returns-in-Wait-clause-moves c =
    let v = c.waited-after.ensures.looks in
    (Some v.event, looks c.in-Wait.awaiting c.waited-after.result.1 (sym c.replace.ensures.value ∙ c.in-Wait.is) refl v)
