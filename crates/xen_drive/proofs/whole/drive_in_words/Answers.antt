use Rattle.std.proofs.Common.{Some, map}
use Rattle.xdp_program.proofs.TallyLemmas.{history_length, history_of, loan_of}
use Rattle.xen_host.specs.Queues.{wired_to}
use Rattle.xen_turns.specs.Drive.{labels}
use Rattle.xen_drive.proofs.TraceLemmas.{words_enough}
use Rattle.xen_drive.proofs.whole.drive_in_words.Goals as goal

pub drive_turn-requires-clause-serving : goal.drive_turn-requires-clause-serving
drive_turn-requires-clause-serving g c labels after went = words_enough (wired_to c.args.queue.now).program.shapes labels c.args.counters.now after c.requires.counts went

pub returns : goal.returns
returns g c =
    let shapes = (wired_to c.args.queue.now).program.shapes in
    let before = c.args.counters.now in
    let after = c.drive_turn.new.counters in
    let d = c.drive_turn.ensures.turned in
    let done = map Some (labels d.trace) in
    let history = history_of shapes done before after d.counted in
    record {
      size = c.drive_turn.ensures.size;
      counters = history_length shapes done before.words.now after.words.now history;
      loan = loan_of shapes done before after d.counted;
      turned = record {
        trace = d.trace;
        is_turn = d.is_turn;
        performed = d.performed;
        counted = history;
        packet = d.packet;
        rests = d.rests;
        wires = c.drive_turn.ensures.wires;
      };
    }
