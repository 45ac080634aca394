use Rattle.std.proofs.Common.{◌<◌, ◌-◌, ◌∙◌, ap, sym, arith, false}
use Rattle.xen_front.proofs.RestLemmas.{rx_some}
use Rattle.xen_front.specs.Tree.{after_rx_look, first_word, nothing_gathered, receive}
use Rattle.xen_front.proofs.by_event.receiving.rx_looked.Goals as goal

pub returns-else-n-eq0-clause-rest : goal.returns-else-n-eq0-clause-rest
returns-else-n-eq0-clause-rest c = λ w p.
    let s = c.args.state.now in
    let n = c.in-Some.n in
    let h : 0 < n = omega (arith, c.if-n-eq0.false) in
    c.before_response.ensures.rest w s p c.clear.new.self
    ∙ ap (λ b. first_word w s (record nothing_gathered { bytes = b }) (receive w (n - 1))) c.clear.ensures
    ∙ sym (rx_some w s n h)
    ∙ ap (λ o. after_rx_look w s o) (sym c.in-Some.is)
