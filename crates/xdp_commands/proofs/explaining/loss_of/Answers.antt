use Rattle.std.proofs.Common.{◌∙◌, length, sym}
use Rattle.bpf_verify.specs.FirstRefusal.{IsStructured}
use Rattle.xdp_commands.proofs.ExplainLemmas.{asked_has}
use Rattle.xdp_commands.proofs.explaining.loss_of.Goals as goal

pub register_loss-requires-clause-structured : goal.register_loss-requires-clause-structured
register_loss-requires-clause-structured c =
    let e = c.args.explained.now in
    asked_has e.note e c.in-Some.register (IsStructured e.code (length c.args.shapes.now)) (sym c.lost_register.ensures ∙ c.in-Some.is) c.requires.structured
