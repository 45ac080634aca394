use Rattle.std.proofs.Common.{◌+◌, ◌++◌, [], ◌∷◌, append_assoc, refl, ◌∙◌, ap, arith}
use Rattle.xen_netif.specs.Copy.{bytes_from, bytes_in}
use Rattle.xen_steps.specs.Places.{page_word}
use Rattle.xen_host.proofs.BusLemmas.{run_then}
use Rattle.xen_host.proofs.over_bus.page_edge.Goals as goal

pub returns-then-from-to-2-clause-read : goal.returns-then-from-to-2-clause-read
returns-then-from-to-2-clause-read g c =
    let f = c.args.fragment.now in
    let from = c.args.from in
    let first = c.page_part.ensures.read in
    let more = c.page_parts.ensures.read in
    let v = first.0 in
    let ws = more.0 in (
      v ∷ ws,
      omega (arith, more.1, c.if-from-to-2.true),
      run_then g.B.Bus.log g.B.Bus.access_gives g.B.Bus.size (page_word c.args.frame from) (page_word c.args.frame (from + 1)) (v ∷ []) ws c.args.bus.now c.page_part.new.bus c.page_parts.new.bus refl first.1 more.2,
      more.3
          ∙ ap (λ l. l ++ bytes_from f (from + 1) ws) first.2
          ∙ append_assoc (g.R.Room.held c.args.packet.now) (bytes_in f from v) (bytes_from f (from + 1) ws),
    )
