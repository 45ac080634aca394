use Rattle.xdp_program.proofs.TallyLemmas.{history_length, history_of, loan_of}
use Rattle.xdp_program.proofs.run.run_in_words.Goals as goal

pub returns : goal.returns
returns c =
    let p = c.args.program.now in
    let ran = c.run_counting.ensures.ran in
    let history = history_of p.shapes ran.labels c.args.counters.now c.run_counting.new.counters ran.history in
    record {
      ran = record { labels = ran.labels; counted = ran.counted; history = history; walks = ran.walks };
      room = c.run_counting.ensures.room;
      bound = c.run_counting.ensures.bound;
      words = history_length p.shapes ran.labels c.args.counters.now.words.now c.run_counting.new.counters.words.now history;
      loan = loan_of p.shapes ran.labels c.args.counters.now c.run_counting.new.counters ran.history;
    }
