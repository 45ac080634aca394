use Rattle.std.proofs.Common.{[], ◌∷◌, refl, ap, arith}
use Rattle.xen_page.specs.declared.place.Place.{Place}
use Rattle.xen_host.proofs.BusLemmas.{run_then, unread, zero_words}
use Rattle.xen_host.proofs.over_bus.OverBusHost.three.Goals as goal

pub there-first-requires : goal.there-first-requires
there-first-requires g c = let h = c.are_in_bus.ensures.0 c.if-not-are_in_bus.false in (h.0, omega (arith, h.1))

pub behind-requires : goal.behind-requires
behind-requires g c = let h = c.are_in_bus.ensures.0 c.if-not-are_in_bus.false in omega (arith, h.1)

pub behind-requires-2 : goal.behind-requires-2
behind-requires-2 g c = let h = c.are_in_bus.ensures.0 c.if-not-are_in_bus.false in omega (arith, h.1)

pub there-second-requires : goal.there-second-requires
there-second-requires g c =
    let h = c.are_in_bus.ensures.0 c.if-not-are_in_bus.false in
    let frame = ap (λ (x : Place). x.frame) c.behind.ensures in
    let word = ap (λ (x : Place). x.word) c.behind.ensures in
    (omega (arith, h.0, c.there-first.ensures.sized, frame), omega (arith, h.1, word))

pub there-third-requires : goal.there-third-requires
there-third-requires g c =
    let h = c.are_in_bus.ensures.0 c.if-not-are_in_bus.false in
    let frame = ap (λ (x : Place). x.frame) c.behind-2.ensures in
    let word = ap (λ (x : Place). x.word) c.behind-2.ensures in
    (omega (arith, h.0, c.there-first.ensures.sized, c.there-second.ensures.sized, frame), omega (arith, h.1, word))

pub returns-then-not-are_in_bus-clause-given : goal.returns-then-not-are_in_bus-clause-given
returns-then-not-are_in_bus-clause-given g c =
    record {
      read = unread g.B.Bus.log g.B.Bus.access_gives g.B.Bus.size c.args.at (0 ∷ 0 ∷ 0 ∷ []) c.args.self.now.bus.now (zero_words 3) (λ h. let t = c.are_in_bus.ensures.1 h in cc (t, c.if-not-are_in_bus.true));
      over = refl;
      loan = refl;
    }

pub returns-clause-given : goal.returns-clause-given
returns-clause-given g c =
    let log = g.B.Bus.log in
    let gives = g.B.Bus.access_gives in
    let size = g.B.Bus.size in
    let old = c.args.self.now.bus.now in
    let a = c.there-first in
    let b = c.there-second in
    let d = c.there-third in
    let two = run_then log gives size c.args.at c.behind.result (a.result ∷ []) (b.result ∷ []) old a.new.bus b.new.bus c.behind.ensures a.ensures b.ensures in
    record {
      read = run_then log gives size c.args.at c.behind-2.result (a.result ∷ b.result ∷ []) (d.result ∷ []) old b.new.bus d.new.bus c.behind-2.ensures two d.ensures;
      over = refl;
      loan = refl;
    }
