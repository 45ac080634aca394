use Rattle.std.proofs.Common.{◌≡◌, ap}
use Rattle.xdp_program.specs.Ran.{IsHistory}
use Rattle.xdp_program.specs.declared.tallies.CounterWords.{CounterWords}
use Rattle.xdp_program.proofs.TallyLemmas.{history_length, history_of, loan_of}
use Rattle.xen_host.specs.Queues.{wired_to}
use Rattle.xen_host.proofs.QueueLemmas.{stepped_also}
use Rattle.xen_host.proofs.queue.Queue.step_in_words.Goals as goal

pub returns : goal.returns
returns g c =
    let shapes = (wired_to c.args.self.now).program.shapes in
    let before = c.args.counters.now in
    let after = c.step_counting.new.counters in
    let d = c.step_counting.ensures.stepped in
    record {
      counters = history_length shapes d.labels before.words.now after.words.now (history_of shapes d.labels before after d.history);
      stepped = stepped_also (λ labels. IsHistory shapes labels before.words.now after.words.now) (after.words.now ≡ before.words.now) (λ labels h. history_of shapes labels before after h)
          (λ e. ap (λ (w : CounterWords). w.words.now) e) d;
      share = c.step_counting.ensures.share;
      loan = loan_of shapes d.labels before after d.history;
    }
