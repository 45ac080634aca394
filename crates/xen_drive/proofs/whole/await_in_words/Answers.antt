use Rattle.std.proofs.Common.{ap, length}
use Rattle.xdp_program.specs.declared.tallies.CounterWords.{CounterWords}
use Rattle.xen_host.specs.Queues.{wired_to}
use Rattle.xen_drive.proofs.TraceLemmas.{words_enough}
use Rattle.xen_drive.proofs.whole.await_in_words.Goals as goal

pub drive_wait-requires-clause-serving : goal.drive_wait-requires-clause-serving
drive_wait-requires-clause-serving g c labels after went = words_enough (wired_to c.args.queue.now).program.shapes labels c.args.counters.now after c.requires.counts went

pub returns : goal.returns
returns g c =
    let d = c.drive_wait.ensures.awaited in
    record {
      size = c.drive_wait.ensures.size;
      counters = ap (λ (w : CounterWords). length w.words.now) d.counters;
      loan = ap (λ (w : CounterWords). w.words.ghost_name) d.counters;
      awaited = record {
        trace = d.trace;
        is_awaiting = d.is_awaiting;
        performed = d.performed;
        counters = ap (λ (w : CounterWords). w.words.now) d.counters;
        packet = d.packet;
        rests = d.rests;
        wires = c.drive_wait.ensures.wires;
      };
    }
