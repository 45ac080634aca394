use Rattle.std.proofs.Common.{◌∙◌, arith}
use Rattle.xdp_commands.proofs.FilterLemmas.{goes_on, inputs_more, sound_at}
use Rattle.xdp_commands.proofs.filtering.run_all.Goals as goal

pub run_times-requires-clause-short : goal.run_times-requires-clause-short
run_times-requires-clause-short c =
    let items = c.as_slice-packet-items in
    (sound_at c.args.listed.now.setup.queues c.args.listed.now.setup.packets.items c.loop-packet.packet-index c.packet-item.result (rw items.ensures.value at c.loop-packet-test.true) (rw items.ensures.value at c.packet-item.is) c.requires.sound.packets).short

pub run_times-requires-clause-queue : goal.run_times-requires-clause-queue
run_times-requires-clause-queue c =
    let items = c.as_slice-packet-items in
    let below = (sound_at c.args.listed.now.setup.queues c.args.listed.now.setup.packets.items c.loop-packet.packet-index c.packet-item.result (rw items.ensures.value at c.loop-packet-test.true) (rw items.ensures.value at c.packet-item.is) c.requires.sound.packets).queue in
    let few = c.requires.sound.few_queues in
    omega (arith, below, few)

pub loop-packet-preserved : goal.loop-packet-preserved
loop-packet-preserved c =
    let items = c.as_slice-packet-items in
    let more = inputs_more c.args.listed.now.setup.packets.items c.loop-packet.packet-index c.packet-item.result (rw items.ensures.value at c.loop-packet-test.true) (rw items.ensures.value at c.packet-item.is) in
    record {
      width = c.run_times.ensures.words ∙ c.loop-packet.invariant.width;
      goes = λ words lines g. c.loop-packet.invariant.goes words lines (rw more (goes_on _ _ _ _ _ _ _ _ _ _ _ (rw c.as_slice-lists.ensures.value at c.in_ok-run_times.ensures.goes) g));
    }
