use Rattle.std.proofs.Common.{◌<◌, ap, sym, ◌∙◌, length, arith, drop, ◌+◌}
use Rattle.xen_turns.specs.Rest.{fragment_at}
use Rattle.xen_steps.specs.Steps.{bind}
use Rattle.xen_rx_fill.specs.Entries.{entry_at}
use Rattle.xen_turns.specs.Tree.{after_copy, copy, entered}
use Rattle.xen_turns.proofs.RestLemmas.{copy_at}
use Rattle.xen_back.proofs.by_event.copying.next_fragment.Goals as goal
use Rattle.xen_page.specs.declared.entry.Rights.TheVariants.{ReadOnly}

pub returns-in-Some : goal.returns-in-Some
returns-in-Some c =
    let w = c.args.wiring.now in
    let s = c.args.state.now in
    let fs = c.args.fragments.items in
    let i = c.args.i in
    let h : i < length fs = omega (arith, c.if-i-len.false, c.requires.within, c.len.ensures.value) in
    c.entering.ensures w s
    ∙ sym (ap (λ o. bind o (after_copy w s c.args.chain)) (copy_at w fs i c.args.packet h ∙ ap (λ p. bind (entry_at w.vif ReadOnly p) (entered (fragment_at fs i) (copy w (drop (i + 1) fs)) c.args.packet)) (rw c.deref.ensures.0 at (sym c.place.ensures.place ∙ c.in-Some.is))))
