use Rattle.std.proofs.Common.{◌≡◌, ◌+◌, length, length-append, sym, ◌∙◌, ap, arith, refl, subst}
use Rattle.xen_netif.specs.Copy.{bytes_in}
use Rattle.xen_steps.specs.Pages.{HasRoom}
use Rattle.xen_steps.proofs.CopyLemmas.{bytes_short, room_at_end, room_goes_on}
use Rattle.xen_host.proofs.over_bus.page_part.Goals as goal

pub push_part-requires : goal.push_part-requires
push_part-requires g c =
    let f = c.args.fragment.now in
    let place = c.args.place in
    let v = c.word_at-word.result in
    let b = bytes_short f place v refl in
    record { covers = c.requires.covers; room = omega (arith, room_at_end f place (length (g.R.Room.held c.args.packet.now)) (length (bytes_in f place v)) 0 c.requires.covers b.0 c.requires.room) }

pub returns-clause-room : goal.returns-clause-room
returns-clause-room g c =
    let f = c.args.fragment.now in
    let place = c.args.place in
    let v = c.word_at-word.result in
    let packet = g.R.Room.held c.args.packet.now in
    let b = bytes_short f place v refl in
    let len : length (g.R.Room.held c.push_part.new.packet) ≡ length packet + length (bytes_in f place v) = ap length c.push_part.ensures ∙ length-append packet (bytes_in f place v) in
    subst (λ k. HasRoom k f (place + 1) 0) (sym len) (room_goes_on f place (length packet) (length (bytes_in f place v)) 0 c.requires.covers b.1 c.requires.room)

pub returns-clause-read : goal.returns-clause-read
returns-clause-read g c = (c.word_at-word.result, c.word_at-word.ensures, c.push_part.ensures)
