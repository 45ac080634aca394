use Rattle.std.proofs.Common.{◌∙◌, List, ℕ, length, ap, sym}
use Rattle.bpf_vm.specs.Packet.{Room}
use Rattle.xdp_program.proofs.LengthLemmas.{ran_length}
use Rattle.xdp_program.proofs.program.Program.run_lent.Goals as goal

pub returns-clause-lent : goal.returns-clause-lent
returns-clause-lent c =
    let bytes = c.in-Ok.lent.bytes in
    let known = ran_length c.verified-program.result.now c.shapes-shapes.ensures.consistent c.args.lists.now bytes c.args.ifindex c.args.queue c.args.counters.now c.run_on-number.result.number c.run_on-number.result.packet.bytes c.run_on-number.new.counters c.run_on-number.result.instructions
    c.bytes-bytes.ensures.bytes (ap length c.bytes-bytes.ensures.same) c.bytes-bytes.ensures.short c.ranges.ifindex.fits c.ranges.queue.fits c.run_on-number.ensures.ran in
    let room = c.run_on-number.ensures.room in
    let whole = known ∙ ap (λ (b : List ℕ). length b) c.in-Ok.ensures.ok.0 ∙ sym c.in-Ok.ensures.ok.1 ∙ sym (ap (λ (r : Room). r.size) room) in
    c.into_bytes.ensures.lent whole ∙ ap (λ (r : Room). r.borrow) room ∙ c.in-Ok.ensures.lent
