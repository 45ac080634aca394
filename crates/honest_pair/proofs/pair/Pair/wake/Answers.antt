use Rattle.std.proofs.Common.{refl, ◌∙◌, ap}
use Rattle.std.specs.Prelude.{not}
use Rattle.honest_pair.proofs.WakeLemmas.{wakes}
use Rattle.honest_pair.proofs.pair.Pair.wake.Goals as goal

pub returns-then-take : goal.returns-then-take
returns-then-take c = wakes c.args.self.now _ c.requires.asleep c.requires.calls refl refl refl refl c.take.ensures.now (ap not c.if-take.ensures.was)

pub returns-else-take : goal.returns-else-take
returns-else-take c = wakes c.args.self.now _ c.requires.asleep c.requires.calls refl refl refl refl c.take.ensures.now (c.requires.asleep ∙ ap not c.if-take.ensures.was)
