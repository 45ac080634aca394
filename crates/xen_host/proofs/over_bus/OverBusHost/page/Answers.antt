use Rattle.std.proofs.Common.{◌≡◌, ◌+◌, ◌-◌, ◌*◌, ◌/◌, ◌++◌, length, length-append, append_assoc, refl, sym, ◌∙◌, ap, arith, subst}
use Rattle.xen_netif.specs.Copy.{bytes_from, bytes_of, copy_of}
use Rattle.xen_netif.proofs.CopyLemmas.{length-bytes_of}
use Rattle.xen_steps.specs.Pages.{HasRoom}
use Rattle.xen_steps.specs.Places.{page_word}
use Rattle.xen_turns.proofs.ReadLemmas.{bytes_from-append, room_after_whole, whole_bytes, whole_room}
use Rattle.xen_host.specs.Buses.{MayRead}
use Rattle.xen_host.proofs.BusLemmas.{run_then}
use Rattle.xen_host.proofs.over_bus.OverBusHost.page.Goals as goal

pub page_run-requires-clause-room : goal.page_run-requires-clause-room
page_run-requires-clause-room g c =
    let f = c.args.fragment.now in
    let r = c.whole_words-whole.result in
    λ h. whole_room f r.start r.end (length (g.R.Room.held c.page_edge.new.packet)) c.whole_words-whole.ensures.whole c.page_edge.ensures.room (omega (arith, h))

pub page_edge-requires-2-clause-room : goal.page_edge-requires-2-clause-room
page_edge-requires-2-clause-room g c =
    let f = c.args.fragment.now in
    let r = c.whole_words-whole.result in
    let d = c.page_run.ensures in
    let before = (g.R.Room.held c.page_edge.new.packet) in
    let len : length (g.R.Room.held c.page_run.new.packet) ≡ length before + 4 * (r.end - r.start) =
    ap length d.3 ∙ length-append before (bytes_of d.0) ∙ ap (λ k. length before + k) (length-bytes_of d.0 ∙ ap (λ k. 4 * k) d.1) in
    subst (λ k. HasRoom k f r.end 0) (sym len)
    (room_after_whole f r.start r.end (length before) c.whole_words-whole.ensures.inside.1 c.whole_words-whole.ensures.whole c.page_edge.ensures.room)

pub returns-clause-given : goal.returns-clause-given
returns-clause-given g c =
    let log = g.B.Bus.log in
    let gives = g.B.Bus.access_gives in
    let size = g.B.Bus.size in
    let x = c.args.self.now.bus.now in
    let y = c.page_edge.new.bus in
    let z = c.page_run.new.bus in
    let last = c.page_edge-2.new.bus in
    let frame = c.args.frame in
    let f = c.args.fragment.now in
    let p0 = (g.R.Room.held c.args.packet.now) in
    let e = c.covered_words-covered.ensures in
    let s = c.covered_words-covered.result.start in
    let r = c.whole_words-whole.result in
    let inside = c.whole_words-whole.ensures.inside in
    let start = f.offset / 4 in
    let a = c.page_edge.ensures.read in
    let b = c.page_run.ensures in
    let d = c.page_edge-2.ensures.read in
    let ab_count : length (a.0 ++ b.0) ≡ r.end - s = omega (arith, length-append a.0 b.0, e.start, inside.0, inside.1, a.1, b.1) in
    let a_at : start + length a.0 ≡ r.start = omega (arith, e.start, inside.0, a.1) in
    let ab_at : start + length (a.0 ++ b.0) ≡ r.end = omega (arith, ab_count, e.start, inside.0, inside.1) in
    let one = subst (λ k. MayRead log gives size x (page_word frame k) a.0 y) e.start a.2 in
    let two = run_then log gives size (page_word frame start) (page_word frame r.start) a.0 b.0 x y z (ap (λ k. page_word frame k) (sym a_at)) one b.2 in
    let all = run_then log gives size (page_word frame start) (page_word frame r.end) (a.0 ++ b.0) d.0 x z last (ap (λ k. page_word frame k) (sym ab_at)) two d.2 in
    let whole : bytes_of b.0 ≡ bytes_from f r.start b.0 = sym (whole_bytes f r.start r.end b.0 b.1 inside.1 c.whole_words-whole.ensures.whole) in
    let front : (g.R.Room.held c.page_edge.new.packet) ≡ p0 ++ bytes_from f start a.0 = a.3 ∙ ap (λ k. p0 ++ bytes_from f k a.0) e.start in
    let mid : (g.R.Room.held c.page_run.new.packet) ≡ p0 ++ bytes_from f start (a.0 ++ b.0) =
    b.3 ∙ ap (λ l. l ++ bytes_of b.0) front ∙ append_assoc p0 (bytes_from f start a.0) (bytes_of b.0)
    ∙ ap (λ l. p0 ++ (bytes_from f start a.0 ++ l)) (whole ∙ ap (λ k. bytes_from f k b.0) (sym a_at))
    ∙ sym (ap (λ l. p0 ++ l) (bytes_from-append f start a.0 b.0)) in
    record {
      words = (a.0 ++ b.0) ++ d.0;
      all = omega (arith, length-append (a.0 ++ b.0) d.0, ab_count, d.1, e.start, e.count, inside.0, inside.1, inside.2);
      below = all.below;
      read = d.3 ∙ ap (λ l. l ++ bytes_from f r.end d.0) mid ∙ append_assoc p0 (bytes_from f start (a.0 ++ b.0)) (bytes_from f r.end d.0)
          ∙ ap (λ k. p0 ++ (bytes_from f start (a.0 ++ b.0) ++ bytes_from f k d.0)) (sym ab_at)
          ∙ sym (ap (λ l. p0 ++ l) (bytes_from-append f start (a.0 ++ b.0) d.0));
      given = record { read = all; over = refl; loan = refl };
    }

pub returns-clause-length : goal.returns-clause-length
returns-clause-length g c =
    let f = c.args.fragment.now in
    let e = c.covered_words-covered.ensures in
    let s = c.covered_words-covered.result in
    let h = returns-clause-given g c in
    let n : length h.words ≡ s.end - s.start = omega (arith, e.count, h.all) in
    let copied : bytes_from f (f.offset / 4) h.words ≡ copy_of f h.words = ap (λ p. bytes_from f p h.words) (sym e.start) ∙ e.copied h.words n in
    let len = ap length (h.read ∙ ap (λ l. (g.R.Room.held c.args.packet.now) ++ l) copied) in
    omega (arith, len, length-append (g.R.Room.held c.args.packet.now) (copy_of f h.words), e.whole h.words n)
