use Rattle.std.proofs.Common.{◌≡◌, ◌+◌, ◌++◌, [], ◌∷◌, length, length-append, append-nil, append_assoc, sym, ◌∙◌, ap, arith}
use Rattle.xen_netif.specs.Copy.{bytes_from, bytes_in}
use Rattle.xen_steps.specs.Places.{page_word}
use Rattle.xen_turns.proofs.ReadLemmas.{bytes_from-append}
use Rattle.xen_host.proofs.BusLemmas.{run_then}
use Rattle.xen_host.proofs.over_bus.page_parts.Goals as goal

pub page_part-requires : goal.page_part-requires
page_part-requires g c =
    let i = c.loop-place.invariant in
    record { covers = c.requires.covers c.loop-place.place i.up c.loop-place-test.true; room = i.room }

pub loop-place-preserved : goal.loop-place-preserved
loop-place-preserved g c =
    let f = c.args.fragment.now in
    let i = c.loop-place.invariant in
    let ws = i.read.0 in
    let r = c.page_part.ensures.read in
    let v = r.0 in
    let from = c.args.from in
    let place = c.loop-place.place in
    let at : place ≡ from + length ws = omega (arith, i.up, i.read.1) in
    record {
      up = omega (arith, i.up);
      room = c.page_part.ensures.room;
      read = (
        ws ++ v ∷ [],
        omega (arith, length-append ws (v ∷ []), i.read.1, i.up),
        run_then g.B.Bus.log g.B.Bus.access_gives g.B.Bus.size (page_word c.args.frame from) (page_word c.args.frame place) ws (v ∷ []) c.args.bus.now c.loop-place.bus c.page_part.new.bus (ap (λ k. page_word c.args.frame k) at) i.read.2 r.1,
        r.2
            ∙ ap (λ l. l ++ bytes_in f place v) i.read.3
            ∙ append_assoc (g.R.Room.held c.args.packet.now) (bytes_from f from ws) (bytes_in f place v)
            ∙ ap (λ l. (g.R.Room.held c.args.packet.now) ++ (bytes_from f from ws ++ l)) (ap (λ p. bytes_in f p v) at ∙ sym (append-nil (bytes_in f (from + length ws) v)))
            ∙ sym (ap (λ l. (g.R.Room.held c.args.packet.now) ++ l) (bytes_from-append f from ws (v ∷ []))),
      );
    }
