use Rattle.xdp_program.proofs.TallyLemmas.{word_inside}
use Rattle.xdp_program.proofs.tallies.CounterWordsTallies.add.Goals as goal

pub bounds-self-at : goal.bounds-self-at
bounds-self-at c = word_inside c.args.shapes.now c.args.self.now.words.now c.args.m c.args.k c.args.j c.place-at.result c.requires.place c.place-at.ensures.place c.requires.serves

pub bounds-self-at-2 : goal.bounds-self-at-2
bounds-self-at-2 c = word_inside c.args.shapes.now c.args.self.now.words.now c.args.m c.args.k c.args.j c.place-at.result c.requires.place c.place-at.ensures.place c.requires.serves
