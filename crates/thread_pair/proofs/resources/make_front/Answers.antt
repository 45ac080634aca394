use Rattle.std.proofs.Common.{◌∙◌, refl}
use Rattle.xdp_world.proofs.WiringLemmas.{is_wired}
use Rattle.thread_pair.proofs.resources.make_front.Goals as goal

pub make-requires : goal.make-requires
make-requires c =
    let s = c.args.shared.now in
    let p = c.args.pages.now in
    is_wired s.layout.queues p.queue _ c.requires s.layout.few (c.count.ensures ∙ s.sized) refl refl c.table.ensures (c.as_slice.ensures.value ∙ p.tx_granted) (c.as_slice-2.ensures.value ∙ p.rx_granted)
