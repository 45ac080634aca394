use Rattle.xdp_load.proofs.SoundLemmas.{given_sound}
use Rattle.xdp_load.proofs.setup.load.Goals as goal

pub returns-clause-sound : goal.returns-clause-sound
returns-clause-sound c = given_sound c.args.bytes.now c.load_setup.result c.load_setup.ensures.gives
