use Rattle.std.proofs.Common.{◌≡◌, ◌≤◌, ◌+◌, ◌*◌, subst, length, arith}
use Rattle.xen_page.specs.Access.{Performs}
use Rattle.xen_page.specs.declared.access.Access.TheVariants as access
use Rattle.xen_page.proofs.AccessLemmas.{performs_one}
use Rattle.xen_steps.specs.Drive.{accesses}
use Rattle.xen_host.specs.Asks.{writes_at}
use Rattle.xen_host.specs.Buses.{behind}
use Rattle.xen_host.specs.Filling.{packet_words}
use Rattle.xen_host.proofs.BusLemmas.{last_written, run_written}
use Rattle.xen_host.proofs.over_bus.OverBus.put_packet.Goals as goal

pub returns-then-whole-count-clause-wrote : goal.returns-then-whole-count-clause-wrote
returns-then-whole-count-clause-wrote g c =
    let log = g.B.Bus.log in
    let gives = g.B.Bus.access_gives in
    let at = c.args.at in
    let bytes = c.args.bytes.now in
    let from = c.args.from in
    let n = c.min-whole.result in
    let old = c.args.self.now.bus.now in
    let mid = c.write_run.new.self in
    let new = c.write.new.self in
    let whole : 4 * from + 4 * n ≤ length bytes = omega (arith, c.requires.some, c.requires.inside, c.min-whole.ensures) in
    let all : n + 1 ≡ c.args.count = omega (arith, c.requires.some, c.requires.inside, c.min-whole.ensures, c.if-whole-count.true) in
    let run = run_written log gives g.B.Bus.size at bytes from n old mid whole c.write_run.ensures.written in
    let one = performs_one log gives mid (access.Write (behind at n) c.packet_word.result) new c.write.ensures.told c.write.ensures.given in
    subst (λ k. Performs log gives old (accesses (writes_at at (packet_words bytes from k))) new) all
    (last_written log gives g.B.Bus.size at bytes from n c.packet_word.result old mid new c.packet_word.ensures run one)

pub returns-else-whole-count-clause-wrote : goal.returns-else-whole-count-clause-wrote
returns-else-whole-count-clause-wrote g c =
    let log = g.B.Bus.log in
    let gives = g.B.Bus.access_gives in
    let at = c.args.at in
    let bytes = c.args.bytes.now in
    let from = c.args.from in
    let n = c.min-whole.result in
    let old = c.args.self.now.bus.now in
    let new = c.write_run.new.self in
    let whole : 4 * from + 4 * n ≤ length bytes = omega (arith, c.requires.some, c.requires.inside, c.min-whole.ensures) in
    let all : n ≡ c.args.count = omega (arith, c.requires.some, c.requires.inside, c.min-whole.ensures, c.if-whole-count.false) in
    subst (λ k. Performs log gives old (accesses (writes_at at (packet_words bytes from k))) new) all
    (run_written log gives g.B.Bus.size at bytes from n old new whole c.write_run.ensures.written)
