use Rattle.xdp_program.proofs.TallyLemmas.{word_inside}
use Rattle.xdp_program.proofs.tallies.CounterWordsTallies.load.Goals as goal

pub bounds-self-place : goal.bounds-self-place
bounds-self-place c = word_inside c.args.shapes.now c.args.self.now.words.now c.args.m c.args.k c.args.j c.place.result c.requires.place c.place.ensures.place c.requires.serves
